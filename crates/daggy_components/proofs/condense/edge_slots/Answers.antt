use Rattle.std.proofs.Common.{◌≡◌, ◌≢◌, ℕ, suc, List, ◌+◌, ◌<◌, ◌≤◌, is_some, length, inl, inr, refl, sym, ap, ◌∙◌, arith}
use Rattle.std.specs.Option.{option_map}
use Rattle.std.specs.Prelude.{Contains}
use Rattle.std.proofs.lemmas.List.{length-map}
use Rattle.daggy_base.specs.FromSlots.{edge_of, edges_by}
use Rattle.daggy_base.specs.Graph.{edge_count}
use Rattle.daggy_components.specs.Components.{component}
use Rattle.daggy_components.proofs.Condensing.{before, before_next, before_all, member_at, count_low}
use Rattle.daggy_components.proofs.Condensing.{few_listed, few_slots, listed_again, next_listed, begins, all_listed}
use Rattle.daggy_components.proofs.Condensing.{ends, edge_here, looked_once, child_in, component_low}
use Rattle.daggy_components.proofs.Condensing.{goes_past, goes_noting}
use Rattle.daggy_components.proofs.EarlierSlots.{none_joins, earlier_again, earlier_kept, earlier_appended, all_earlier}
use Rattle.daggy_components.proofs.condense.edge_slots.Given.{Over}
use Rattle.daggy_components.proofs.condense.edge_slots.Goals.{After-look-v, After-unwrap-k}
use Rattle.daggy_components.proofs.condense.edge_slots.Goals as goal

-- e is an edge, and the looks stay few
here : (g : Over) (c : After-look-v g) → g.Ix.IndexType.number c.edges.e ≢ g.Ix.IndexType.greatest
here g c = λ h. c.edges-test.true cc

looked : (g : Over) (c : After-look-v g)
    → g.S.EdgeSource.looks c.look-v.new.self
    ≤ g.S.EdgeSource.looks c.args.source.now + edge_count (g.S.EdgeSource.graph c.args.source.now)
looked g c =
    looked_once c.node_bound-bound.ensures.well_formed c.requires c.edges.invariant.0 (here g c) c.look-v.ensures.counted

-- the child is in the component k
in_k : (g : Over) (c : After-unwrap-k g)
    → Contains (component c.args.components.now c.unwrap-k.result) (g.Ix.IndexType.number c.look-v.result.0)
in_k g c = (c.component_of.ensures c.unwrap-k.result).0 c.unwrap-k.ensures

k_low : (g : Over) (c : After-unwrap-k g) → c.unwrap-k.result < length c.args.components.now
k_low g c =
    component_low c.node_bound-bound.ensures.well_formed c.requires c.edges.invariant.0 (λ h. c.edges-test.true cc)
    c.look-v.ensures.gives c.unwrap-k.result (in_k g c)

pub members-init : goal.members-init
members-init g c =
    let number = g.Ix.IndexType.number in
    let long : c.len-begin.result ≡ length (edges_by number c.components.slots.items) =
    omega (arith, c.len-begin.ensures, length-map c.components.slots.items (option_map (edge_of number))) in (
      listed_again c.node_bound-bound.ensures.well_formed c.requires c.components.invariant.0 (omega arith),
      earlier_again c.components.invariant.1 long,
    )

pub edges-init : goal.edges-init
edges-init g c =
    let m =
    member_at g.Ix.IndexType.number c.members-n-items.result.now c.args.components.now c.components.j c.members.n-index
    c.n-item.result c.members-n-items.ensures c.members-test.true c.n-item.is in (
      begins c.node_bound-bound.ensures.well_formed c.requires c.members.invariant.0 m.1 m.0 m.2 c.first-e.ensures,
      c.members.invariant.1,
    )

pub look-v-requires : goal.look-v-requires
look-v-requires g c =
    edge_here c.node_bound-bound.ensures.well_formed c.requires c.edges.invariant.0 (λ h. c.edges-test.true cc)

pub unwrap-k-requires : goal.unwrap-k-requires
unwrap-k-requires g c =
    let p =
    child_in c.node_bound-bound.ensures.well_formed c.requires c.edges.invariant.0 (λ h. c.edges-test.true cc)
    c.look-v.ensures.gives in
    ap is_some ((c.component_of.ensures p.0).1 p.2)

pub note-requires-clause-before : goal.note-requires-clause-before
note-requires-clause-before g c = none_joins c.edges.invariant.1

pub note-requires-clause-from : goal.note-requires-clause-from
note-requires-clause-from g c =
    omega (
      arith,
      count_low c.node_bound-bound.ensures.well_formed c.requires,
      c.components-test.true,
      c.count-j-end.ensures,
    )

pub note-requires-clause-to : goal.note-requires-clause-to
note-requires-clause-to g c =
    let low = k_low g (goal.at.note-requires-clause-to g c).After-unwrap-k in
    omega (arith, count_low c.node_bound-bound.ensures.well_formed c.requires, low)

pub note-requires-clause-within : goal.note-requires-clause-within
note-requires-clause-within g c =
    let low = k_low g (goal.at.note-requires-clause-within g c).After-unwrap-k in
    omega (arith, low, c.edges.invariant.0.sized, c.edges.found.ok.0)

pub returns-in_err-note-clause-counted : goal.returns-in_err-note-clause-counted
returns-in_err-note-clause-counted g c =
    looked g (goal.at.returns-in_err-note-clause-counted g c).After-look-v

pub edges-smaller-in_ok-note : goal.edges-smaller-in_ok-note
edges-smaller-in_ok-note g c =
    omega (arith, looked g (goal.at.edges-smaller-in_ok-note g c).After-look-v, c.look-v.ensures.counted)

pub edges-preserved-in_ok-note : goal.edges-preserved-in_ok-note
edges-preserved-in_ok-note g c =
    let at = goal.at.edges-preserved-in_ok-note g c in (
      goes_noting c.node_bound-bound.ensures.well_formed c.requires c.edges.invariant.0 (here g at.After-look-v)
          c.look-v.ensures.gives c.look-v.ensures.same c.look-v.ensures.counted (in_k g at.After-unwrap-k)
          c.if-k-j.true refl c.in_ok-note.ensures.noted,
      elim c.in_ok-note.ensures.noted [
        | inl p ↦ earlier_kept c.edges.invariant.1 p.0.was.0 p.0.was.1 p.0.was.2 p.0.others p.0.long
        | inr p ↦ earlier_appended c.edges.invariant.1 p
      ],
    )

pub edges-smaller : goal.edges-smaller
edges-smaller g c =
    omega (arith, looked g (goal.at.edges-smaller g c).After-look-v, c.look-v.ensures.counted)

pub edges-preserved : goal.edges-preserved
edges-preserved g c =
    let at = goal.at.edges-preserved g c in
    let inner : c.unwrap-k.result ≡ c.components.j = omega (arith, c.if-k-j.false) in (
      goes_past c.node_bound-bound.ensures.well_formed c.requires c.edges.invariant.0 (here g at.After-look-v)
          c.look-v.ensures.gives c.look-v.ensures.same c.look-v.ensures.counted (in_k g at.After-unwrap-k) inner
          c.edges.e refl,
      c.edges.invariant.1,
    )

pub members-preserved : goal.members-preserved
members-preserved g c =
    let at_end : g.Ix.IndexType.number c.edges.e ≡ g.Ix.IndexType.greatest = cc in (
      ends c.node_bound-bound.ensures.well_formed c.requires c.edges.invariant.0 at_end (omega arith),
      c.edges.invariant.1,
    )

pub components-preserved : goal.components-preserved
components-preserved g c =
    let cs = c.args.components.now in
    let j = c.components.j in
    let items = c.members-n-items.result.now in
    let many : length items ≡ length (component cs j) =
    sym (length-map items g.Ix.IndexType.number) ∙ ap (λ (z : List ℕ). length z) c.members-n-items.ensures in
    let one : j + 1 ≡ suc j = omega arith in
    let same : before cs (j + 1) ≡ before cs (suc j) = ap (λ (z : ℕ). before cs z) one in
    let low : j < length cs = omega (arith, c.components-test.true, c.count-j-end.ensures) in
    let all : before cs (j + 1) ≡ before cs j + c.members.n-index =
    omega (arith, same, before_next cs j low, many, c.members-test.false, c.members.auto.n-index-end) in (
      next_listed c.node_bound-bound.ensures.well_formed c.requires c.members.invariant.0 refl all,
      all_earlier c.members.invariant.0.gathered.low refl,
    )

pub returns-clause-between : goal.returns-clause-between
returns-clause-between g c =
    all_listed c.node_bound-bound.ensures.well_formed c.requires c.components.invariant.0
    (before_all c.args.components.now c.components.j (omega (arith, c.components-test.false, c.count-j-end.ensures)))

pub returns-clause-few : goal.returns-clause-few
returns-clause-few g c =
    omega (
      arith,
      few_slots c.node_bound-bound.ensures.well_formed c.requires c.components.invariant.0,
      length-map c.components.slots.items (option_map (edge_of g.Ix.IndexType.number)),
      c.components.slots.ok.0,
    )

pub returns-clause-counted : goal.returns-clause-counted
returns-clause-counted g c = (few_listed c.node_bound-bound.ensures.well_formed c.requires c.components.invariant.0).1

pub returns-clause-few_components : goal.returns-clause-few_components
returns-clause-few_components g c = count_low c.node_bound-bound.ensures.well_formed c.requires

pub returns-in_err-found-clause-few_components : goal.returns-in_err-found-clause-few_components
returns-in_err-found-clause-few_components g c = count_low c.node_bound-bound.ensures.well_formed c.requires

pub returns-in_err-note-clause-few_components : goal.returns-in_err-note-clause-few_components
returns-in_err-note-clause-few_components g c = count_low c.node_bound-bound.ensures.well_formed c.requires
