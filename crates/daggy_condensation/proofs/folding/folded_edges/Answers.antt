use Rattle.std.proofs.Common.{◌≡◌, ◌≢◌, ℕ, suc, List, ◌+◌, ◌<◌, Option, Some, None, is_some, length, inl, inr, refl, sym, ap, subst}
use Rattle.std.proofs.Common.{◌∙◌, arith, slice_index}
use Rattle.std.specs.Prelude.{Contains, option_copied}
use Rattle.std.specs.Option.{option_map}
use Rattle.std.proofs.lemmas.List.{length-map}
use Rattle.daggy_base.specs.FromSlots.{edge_of, edges_by}
use Rattle.daggy_base.specs.Graph.{Graph, edge_at}
use Rattle.daggy_base.specs.Mapping.{weight_in}
use Rattle.daggy_components.specs.Components.{component}
use Rattle.daggy_components.proofs.Condensing.{before, before_next, before_all, member_at, count_low}
use Rattle.daggy_components.proofs.EarlierSlots.{none_joins, earlier_again, earlier_kept, earlier_appended, all_earlier}
use Rattle.daggy_condensation.specs.Folding.{IsGiven}
use Rattle.daggy_condensation.proofs.KeptEdges.{shows_weight, component_low}
use Rattle.daggy_condensation.proofs.FoldedEdges.{replaced_as}
use Rattle.daggy_condensation.proofs.FoldingAll.{few_slots, listed_again, next_listed, begins, all_folded}
use Rattle.daggy_condensation.proofs.FoldingAll.{few_read, ends, edge_here, child_in, goes_past, goes_folding, may_fold, may_begin}
use Rattle.daggy_condensation.proofs.folding.folded_edges.Given.{Over}
use Rattle.daggy_condensation.proofs.folding.folded_edges.Goals.{After-look-v, After-unwrap-k, After-unwrap-weight}
use Rattle.daggy_condensation.proofs.folding.folded_edges.Goals as goal

-- e is an edge
here : (g : Over) (c : After-look-v g) → g.Ix.IndexType.number c.edges.e ≢ g.Ix.IndexType.greatest
here g c = λ h. c.edges-test.true cc

-- the child is in the component k
in_k : (g : Over) (c : After-unwrap-k g)
    → Contains (component c.args.components.now c.unwrap-k.result) (g.Ix.IndexType.number c.look-v.result.0)
in_k g c = (c.component_of.ensures c.unwrap-k.result).0 c.unwrap-k.ensures

k_low : (g : Over) (c : After-unwrap-k g) → c.unwrap-k.result < length c.args.components.now
k_low g c = component_low c.args.components.now c.unwrap-k.result _ (in_k g c)

-- the edge, as it was looked at
at_e : (g : Over) (c : After-look-v g)
    → edge_at (g.S.EdgeSource.graph c.args.store.now) (g.Ix.IndexType.number c.edges.e) ≡ Some c.look-v.ensures.gives.edge
at_e g c =
    let P : Graph _ _ → Type 0 = λ z.
    edge_at z (g.Ix.IndexType.number c.edges.e) ≡ Some c.look-v.ensures.gives.edge in
    subst P c.edges.invariant.0.same c.look-v.ensures.gives.at

at_look : (g : Over) (c : After-unwrap-weight g)
    → edge_at (g.S.EdgeSource.graph c.args.store.now) (g.Ix.IndexType.number c.edges.e) ≡ Some c.look-v.ensures.gives.edge
at_look g c =
    let P : Graph _ _ → Type 0 = λ z.
    edge_at z (g.Ix.IndexType.number c.edges.e) ≡ Some c.look-v.ensures.gives.edge in
    subst P c.edges.invariant.0.same c.look-v.ensures.gives.at

-- its weight is shown
shows : (g : Over) (c : After-unwrap-weight g) → c.unwrap-weight.result.now ≡ c.look-v.ensures.gives.edge.weight
shows g c =
    shows_weight c.unwrap-weight.result c.look-v.ensures.gives.edge.weight
    (ap (λ z. option_copied z) (sym c.unwrap-weight.ensures)
    ∙ (c.edge_weight.ensures ∙ ap (λ z. option_map weight_in z) (at_look g c)))

-- what a call gave, in the words of the contract
as_given : (g : Over) (c : After-unwrap-weight g) (given : Option g.row.W.Denot) (made : g.row.W.Denot)
    → goal.F-post g c.args.f.now given c.edges.e c.unwrap-weight.result made
    → IsGiven (goal.F-post g c.args.f.now) g.Ix.IndexType.of (g.S.EdgeSource.graph c.args.store.now)
    c.args.components.now given (g.Ix.IndexType.number c.edges.e) made
as_given g c given made called =
    let P : g.row.Ix.Denot → Type 0 = λ z. goal.F-post g c.args.f.now given z c.unwrap-weight.result made in
    record {
      edge = c.look-v.ensures.gives.edge;
      at = at_look g c;
      shown = c.unwrap-weight.result;
      shows = shows g c;
      called = subst P (sym (g.Ix.IndexType.of_number c.edges.e)) called;
    }

pub members-init : goal.members-init
members-init g c =
    let number = g.Ix.IndexType.number in
    let long : c.len-begin.result ≡ length (edges_by number c.components.slots.items) =
    omega (arith, c.len-begin.ensures, length-map c.components.slots.items (option_map (edge_of number))) in (
      listed_again _ _ _ _ c.invariant.ensures.well_formed c.requires.components c.components.invariant.0 (omega arith),
      earlier_again c.components.invariant.1 long,
    )

pub edges-init : goal.edges-init
edges-init g c =
    let m =
    member_at g.Ix.IndexType.number c.members-n-items.result.now c.args.components.now c.components.j c.members.n-index
    c.n-item.result c.members-n-items.ensures c.members-test.true c.n-item.is in (
      begins _ _ _ _ c.invariant.ensures.well_formed c.requires.components c.members.invariant.0 m.1 m.0 m.2
          c.first-e.ensures,
      c.members.invariant.1,
    )

pub look-v-requires : goal.look-v-requires
look-v-requires g c =
    edge_here _ _ _ _ c.invariant.ensures.well_formed c.requires.components c.edges.invariant.0 (λ h. c.edges-test.true cc)

pub unwrap-k-requires : goal.unwrap-k-requires
unwrap-k-requires g c =
    let p =
    child_in _ _ _ _ c.invariant.ensures.well_formed c.requires.components c.edges.invariant.0
    (λ h. c.edges-test.true cc) c.look-v.ensures.gives in
    ap is_some ((c.component_of.ensures p.0).1 p.2)

pub fold_edge-requires-clause-before : goal.fold_edge-requires-clause-before
fold_edge-requires-clause-before g c = none_joins c.edges.invariant.1

pub fold_edge-requires-clause-from : goal.fold_edge-requires-clause-from
fold_edge-requires-clause-from g c =
    omega (
      arith,
      count_low c.invariant.ensures.well_formed c.requires.components,
      c.components-test.true,
      c.count-j-end.ensures,
    )

pub fold_edge-requires-clause-to : goal.fold_edge-requires-clause-to
fold_edge-requires-clause-to g c =
    let low = k_low g (goal.at.fold_edge-requires-clause-to g c).After-unwrap-k in
    omega (arith, count_low c.invariant.ensures.well_formed c.requires.components, low)

pub fold_edge-requires-clause-within : goal.fold_edge-requires-clause-within
fold_edge-requires-clause-within g c =
    let low = k_low g (goal.at.fold_edge-requires-clause-within g c).After-unwrap-k in
    omega (arith, low, c.edges.invariant.0.sized, c.edges.found.ok.0)

pub fold_edge-requires-clause-again : goal.fold_edge-requires-clause-again
fold_edge-requires-clause-again g c =
    let at = goal.at.fold_edge-requires-clause-again g c in
    λ given there.
    let P : g.row.Ix.Denot → Type 0 = λ z. goal.F-pre g c.args.f.now (Some given) z c.unwrap-weight.result in
    subst P (g.Ix.IndexType.of_number c.edges.e)
    (may_fold (goal.F-post g c.args.f.now) g.Ix.IndexType.of _ c.args.components.now c.invariant.ensures.well_formed
    c.requires.components c.edges.invariant.0 (here g at.After-look-v) c.look-v.ensures.gives c.unwrap-k.result
    (in_k g at.After-unwrap-k) c.if-k-j.true (goal.F-pre g c.args.f.now) c.requires.callable
    c.look-v.ensures.gives.edge (at_e g at.After-look-v) c.unwrap-weight.result (shows g at.After-unwrap-weight) _ given
    there)

pub fold_edge-requires-clause-first : goal.fold_edge-requires-clause-first
fold_edge-requires-clause-first g c =
    let at = goal.at.fold_edge-requires-clause-first g c in
    λ none.
    let P : g.row.Ix.Denot → Type 0 = λ z. goal.F-pre g c.args.f.now None z c.unwrap-weight.result in
    subst P (g.Ix.IndexType.of_number c.edges.e)
    (may_begin (goal.F-post g c.args.f.now) g.Ix.IndexType.of _ c.args.components.now c.invariant.ensures.well_formed
    c.requires.components c.edges.invariant.0 (here g at.After-look-v) c.look-v.ensures.gives c.unwrap-k.result
    (in_k g at.After-unwrap-k) c.if-k-j.true (goal.F-pre g c.args.f.now) c.requires.callable
    c.look-v.ensures.gives.edge (at_e g at.After-look-v) c.unwrap-weight.result (shows g at.After-unwrap-weight) none)

pub edges-smaller-in_ok-fold_edge : goal.edges-smaller-in_ok-fold_edge
edges-smaller-in_ok-fold_edge g c =
    let less = few_read _ _ _ _ c.invariant.ensures.well_formed c.requires.components c.edges.invariant.0
    (λ h. c.edges-test.true cc) in
    omega (arith, less, c.look-v.ensures.counted)

pub edges-preserved-in_ok-fold_edge : goal.edges-preserved-in_ok-fold_edge
edges-preserved-in_ok-fold_edge g c =
    let at = goal.at.edges-preserved-in_ok-fold_edge g c in (
      goes_folding _ _ _ _ c.invariant.ensures.well_formed c.requires.components c.edges.invariant.0
          (here g at.After-look-v) c.look-v.ensures.gives c.look-v.ensures.same c.look-v.ensures.counted
          (in_k g at.After-unwrap-k) c.if-k-j.true (k_low g at.After-unwrap-k)
          {at = slice_index c.edges.found.items c.unwrap-k.result}
          (elim c.in_ok-fold_edge.ensures [
            | inl p ↦ inl (
              replaced_as (λ given made called. as_given g at.After-unwrap-weight (Some given) made called) p.0,
              p.1,
            )
            | inr p ↦ inr (p.0, as_given g at.After-unwrap-weight None p.0 p.1, p.2)
          ]),
      elim c.in_ok-fold_edge.ensures [
        | inl p ↦
            earlier_kept c.edges.invariant.1 (record { parent = c.components.j; child = _; weight = p.0.given }) p.0.was refl
            p.0.others p.0.long
        | inr p ↦ earlier_appended c.edges.invariant.1 p.2
      ],
    )

pub edges-smaller : goal.edges-smaller
edges-smaller g c =
    let less = few_read _ _ _ _ c.invariant.ensures.well_formed c.requires.components c.edges.invariant.0
    (λ h. c.edges-test.true cc) in
    omega (arith, less, c.look-v.ensures.counted)

pub edges-preserved : goal.edges-preserved
edges-preserved g c =
    let at = goal.at.edges-preserved g c in
    let inner : c.unwrap-k.result ≡ c.components.j = omega (arith, c.if-k-j.false) in (
      goes_past _ _ _ _ c.invariant.ensures.well_formed c.requires.components c.edges.invariant.0
          (here g at.After-look-v) c.look-v.ensures.gives c.look-v.ensures.same c.look-v.ensures.counted
          (in_k g at.After-unwrap-k) inner,
      c.edges.invariant.1,
    )

pub members-preserved : goal.members-preserved
members-preserved g c =
    let at_end : g.Ix.IndexType.number c.edges.e ≡ g.Ix.IndexType.greatest = cc in (
      ends _ _ _ _ c.invariant.ensures.well_formed c.requires.components c.edges.invariant.0 at_end (omega arith),
      c.edges.invariant.1,
    )

pub components-preserved : goal.components-preserved
components-preserved g c =
    let cs = c.args.components.now in
    let j = c.components.j in
    let items = c.members-n-items.result.now in
    let many : length items ≡ length (component cs j) =
    sym (length-map items g.Ix.IndexType.number) ∙ ap (λ (z : List ℕ). length z) c.members-n-items.ensures in
    let one : j + 1 ≡ suc j = omega arith in
    let same : before cs (j + 1) ≡ before cs (suc j) = ap (λ (z : ℕ). before cs z) one in
    let low : j < length cs = omega (arith, c.components-test.true, c.count-j-end.ensures) in
    let all : before cs (j + 1) ≡ before cs j + c.members.n-index =
    omega (arith, same, before_next cs j low, many, c.members-test.false, c.members.auto.n-index-end) in (
      next_listed _ _ _ _ c.invariant.ensures.well_formed c.requires.components c.members.invariant.0 refl all,
      all_earlier c.members.invariant.0.folded.low refl,
    )

pub returns-clause-folded : goal.returns-clause-folded
returns-clause-folded g c =
    all_folded _ _ _ _ c.invariant.ensures.well_formed c.requires.components c.components.invariant.0
    (before_all c.args.components.now c.components.j (omega (arith, c.components-test.false, c.count-j-end.ensures)))

pub returns-clause-few : goal.returns-clause-few
returns-clause-few g c =
    omega (
      arith,
      few_slots _ _ _ _ c.invariant.ensures.well_formed c.requires.components c.components.invariant.0,
      length-map c.components.slots.items (option_map (edge_of g.Ix.IndexType.number)),
      c.components.slots.ok.0,
    )
