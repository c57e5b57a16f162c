use Rattle.std.proofs.Common.{◌≡◌, ◌≢◌, ◌≤◌, ◌+◌, ◌-◌, ◌∙◌, ℕ, ◌∷◌, List, length, get_or, map, set, Some, sym, ap, arith}
use Rattle.std.proofs.lemmas.Bool.{false≢true, eq-eqb, eqb-true}
use Rattle.daggy_base.specs.declared.index.Direction.TheVariants.{Outgoing}
use Rattle.daggy_base.specs.Graph.{Edge, HasNode, edge_at, out_list, pair_of}
use Rattle.daggy_dag.specs.Walks.{rest_of_walk}
use Rattle.daggy_operators.specs.SimplePaths.{paths_left}
use Rattle.daggy_dag.proofs.WalkSteps.{whole_walk}
use Rattle.daggy_operators.proofs.Wholes.{exists_low}
use Rattle.daggy_operators.proofs.Ways.{step_on, step_over, left_none, steps_left}
use Rattle.daggy_operators.proofs.Steps.{back_left, back_fewer, past_left, past_fewer, arrived_left, down_left, down_fewer, passed_by, some_there, none_there}
use Rattle.daggy_operators.proofs.simple_paths.next_along.Given.{Over}
use Rattle.daggy_operators.proofs.simple_paths.next_along.Goals.{In-Some, After-index, then-leads_on+in_ok-push, else-leads_on}
use Rattle.daggy_operators.proofs.simple_paths.next_along.Goals as goal

-- the last node of the way is at its end
long : (g : Over) (c : After-index g) → length c.steps.way.items ≡ c.len-last.result - 1 + 1
long g c =
    let some = some_there _ (sym c.is_empty.ensures ∙ c.steps-test.true) in
    omega (arith, some, c.len-last.ensures, c.steps.way.ok.0)

short : (g : Over) (c : After-index g) → c.len-last.result - 1 + 1 ≤ c.args.limit
short g c =
    let some = some_there _ (sym c.is_empty.ensures ∙ c.steps-test.true) in
    omega (arith, some, c.len-last.ensures, c.steps.invariant.short)

stepped : (g : Over) (c : In-Some g)
    → (x : Edge g.row.S-EdgeWeight.Denot)
    × (edge_at (g.S.EdgeSource.graph c.args.store.now) (g.Ix.IndexType.number c.index.result.now.1) ≡ Some x)
    × (x.child ≡ g.Ix.IndexType.number c.in-Some.step.1)
    × (rest_of_walk Outgoing (g.S.EdgeSource.graph c.args.store.now) (g.Ix.IndexType.number c.index.result.now.1)
    ≡ g.Ix.IndexType.number c.index.result.now.1
    ∷ rest_of_walk Outgoing (g.S.EdgeSource.graph c.args.store.now) (g.Ix.IndexType.number c.step.new.cursor))
stepped g c =
    step_on c.invariant.ensures.well_formed g.Ix.IndexType.number c.step.result (g.Ix.IndexType.number c.index.result.now.1)
    (g.Ix.IndexType.number c.step.new.cursor) c.step.ensures c.in-Some.step c.in-Some.is

child_exists : (g : Over) (c : In-Some g) → HasNode (g.S.EdgeSource.graph c.args.store.now) (stepped g c).0.child
child_exists g c = let x = stepped g c in c.invariant.ensures.well_formed.children _ x.0 x.1

pub steps-smaller-in_default : goal.steps-smaller-in_default
steps-smaller-in_default g c =
    let graph = g.S.EdgeSource.graph c.args.store.now in
    let at = (goal.at.steps-smaller-in_default g c).After-index in
    let over = step_over c.invariant.ensures.well_formed g.Ix.IndexType.number c.step.result
    (g.Ix.IndexType.number c.index.result.now.1) (g.Ix.IndexType.number c.step.new.cursor) c.step.ensures c.in_default.is in
    let less = back_fewer graph (g.Ix.IndexType.number c.args.to) c.args.limit g.Ix.IndexType.number c.steps.way.items
    (c.len-last.result - 1) c.index.result.now (long g at) c.index.ensures (short g at) over in
    omega (arith, less, ap (λ z. steps_left graph c.args.limit (map (pair_of g.Ix.IndexType.number) z)) c.truncate.ensures.items)

pub steps-preserved-in_default : goal.steps-preserved-in_default
steps-preserved-in_default g c =
    let graph = g.S.EdgeSource.graph c.args.store.now in
    let at = (goal.at.steps-preserved-in_default g c).After-index in
    let to = g.Ix.IndexType.number c.args.to in
    let over = step_over c.invariant.ensures.well_formed g.Ix.IndexType.number c.step.result
    (g.Ix.IndexType.number c.index.result.now.1) (g.Ix.IndexType.number c.step.new.cursor) c.step.ensures c.in_default.is in
    record {
      short = omega (arith, c.truncate.ensures.len, c.steps.invariant.short);
      same =
          ap (λ z. paths_left graph to c.args.limit (map (pair_of g.Ix.IndexType.number) z)) c.truncate.ensures.items
          ∙ back_left graph to c.args.limit g.Ix.IndexType.number c.steps.way.items (c.len-last.result - 1) c.index.result.now
          (long g at) c.index.ensures (short g at) over
          ∙ c.steps.invariant.same;
    }

pub returns-then-eq-clause-found : goal.returns-then-eq-clause-found
returns-then-eq-clause-found g c =
    let graph = g.S.EdgeSource.graph c.args.store.now in
    let number = g.Ix.IndexType.number in
    let to = number c.args.to in
    let at = (goal.at.returns-then-eq-clause-found g c).After-index in
    let on = (goal.at.returns-then-eq-clause-found g c).In-Some in
    let x = stepped g on in
    let here : x.0.child ≡ to = x.2 ∙ eqb-true _ to (sym c.eq.ensures ∙ c.if-eq.true) in
    let next = c.step.new.cursor in
    sym c.steps.invariant.same
    ∙ arrived_left graph to c.args.limit number c.steps.way.items (c.len-last.result - 1) c.index.result.now (long g at)
    c.index.ensures (short g at) next x.0 x.1 x.3 here (child_exists g on)
    ∙ ap (λ z. z ∷ paths_left graph to c.args.limit (map (pair_of number) (set c.steps.way.items (c.len-last.result - 1) (c.index.result.now.0, next))))
    (sym c.in_ok-path.ensures)

pub leads_on-requires : goal.leads_on-requires
leads_on-requires g c =
    let on = (goal.at.leads_on-requires g c).In-Some in
    let low = exists_low (g.S.EdgeSource.graph c.args.store.now) (stepped g on).0.child (child_exists g on) in
    omega (arith, low, (stepped g on).2, c.requires.sized)

pub steps-smaller : goal.steps-smaller
steps-smaller g c =
    let graph = g.S.EdgeSource.graph c.args.store.now in
    let number = g.Ix.IndexType.number in
    let to = number c.args.to in
    let at = (goal.at.steps-smaller g c).After-index in
    let x = stepped g (goal.at.steps-smaller g c).In-Some in
    let last = c.len-last.result - 1 in
    let items = c.steps.way.items in
    let next = c.step.new.cursor in
    let steps : List _ → ℕ = λ z. steps_left graph c.args.limit (map (pair_of number) (set z last (c.index.result.now.0, next))) in
    elim c.if-leads_on.branch [
      | then-leads_on+in_ok-push w ↦
          (let leads = c.leads_on.ensures.0 w.if-leads_on.true in
          let less = down_fewer graph to c.args.limit number items last c.index.result.now (long g at) c.index.ensures
          (short g at) next x.0 x.1 x.3 c.in-Some.step.1 w.first_edge.result (sym x.2)
          (omega (arith, leads.0, c.len.ensures, c.len-last.ensures, long g at, c.steps.way.ok.0))
          (ap (rest_of_walk Outgoing graph) w.first_edge.ensures
          ∙ whole_walk g.Ix.IndexType.greatest graph c.invariant.ensures.well_formed Outgoing (number c.in-Some.step.1)
          ∙ ap (out_list graph) (sym x.2))
          w.push.new.self.items w.in_ok-push.ensures.items in
          omega (arith, less, ap (λ z. steps z.items) w.way'-is))
      | else-leads_on w ↦
          (let less = past_fewer graph to c.args.limit number items last c.index.result.now (long g at) c.index.ensures
          (short g at) next x.0 x.1 x.3 in
          omega (arith, less, ap (λ z. steps z.items) w.way'-is))
    ]

pub steps-preserved : goal.steps-preserved
steps-preserved g c =
    let graph = g.S.EdgeSource.graph c.args.store.now in
    let number = g.Ix.IndexType.number in
    let to = number c.args.to in
    let at = (goal.at.steps-preserved g c).After-index in
    let x = stepped g (goal.at.steps-preserved g c).In-Some in
    let last = c.len-last.result - 1 in
    let items = c.steps.way.items in
    let next = c.step.new.cursor in
    let left : List _ → List (List ℕ) = λ z. paths_left graph to c.args.limit (map (pair_of number) (set z last (c.index.result.now.0, next))) in
    let other : x.0.child ≢ to = λ same. false≢true (sym c.if-eq.false ∙ c.eq.ensures ∙ eq-eqb _ to (sym x.2 ∙ same)) in
    let gap : c.args.limit - c.len.result ≡ c.args.limit - (last + 1) =
    ap (λ z. c.args.limit - z) (omega (arith, c.len.ensures, c.len-last.ensures, long g at, c.steps.way.ok.0)) in
    elim c.if-leads_on.branch [
      | then-leads_on+in_ok-push w ↦
          (let leads = c.leads_on.ensures.0 w.if-leads_on.true in
          record {
            short = omega (arith, leads.0, c.len.ensures, w.in_ok-push.ensures.len, ap (λ z. z.len) w.way'-is);
            same =
                ap (λ z. left z.items) w.way'-is
                ∙ down_left graph to c.args.limit number items last c.index.result.now (long g at) c.index.ensures
                (short g at) next x.0 x.1 x.3 c.in-Some.step.1 w.first_edge.result (sym x.2) (omega (arith, leads.0, gap))
                (ap (rest_of_walk Outgoing graph) w.first_edge.ensures
                ∙ whole_walk g.Ix.IndexType.greatest graph c.invariant.ensures.well_formed Outgoing (number c.in-Some.step.1)
                ∙ ap (out_list graph) (sym x.2))
                w.push.new.self.items w.in_ok-push.ensures.items other
                ∙ c.steps.invariant.same;
          })
      | else-leads_on w ↦
          (let far : ℕ → ℕ = λ n. get_or c.args.distances.now.items n 0 in
          record {
            short = omega (arith, c.steps.invariant.short, ap (λ z. z.len) w.way'-is);
            same =
                ap (λ z. left z.items) w.way'-is
                ∙ past_left graph to c.args.limit number items last c.index.result.now (long g at) c.index.ensures
                (short g at) next x.0 x.1 x.3
                (passed_by graph to far c.requires.none_shorter (c.args.limit - (last + 1)) x.0.child other
                (λ allowed. false≢true (sym w.if-leads_on.false ∙ c.leads_on.ensures.1
                (omega (arith, allowed.0, gap), omega (arith, allowed.1, gap, ap far x.2)))))
                ∙ c.steps.invariant.same;
          })
    ]

pub returns-clause-none : goal.returns-clause-none
returns-clause-none g c _ =
    let e = eqb-true _ 0 (sym c.is_empty.ensures ∙ c.steps-test.false) in
    sym c.steps.invariant.same
    ∙ ap (paths_left (g.S.EdgeSource.graph c.args.store.now) (g.Ix.IndexType.number c.args.to) c.args.limit)
    (none_there (pair_of g.Ix.IndexType.number) c.steps.way.items (omega (arith, e, c.steps.way.ok.0)))
    ∙ left_none (g.S.EdgeSource.graph c.args.store.now) (g.Ix.IndexType.number c.args.to) c.args.limit

pub returns-clause-over : goal.returns-clause-over
returns-clause-over g c _ =
    let e = eqb-true _ 0 (sym c.is_empty.ensures ∙ c.steps-test.false) in
    ap (paths_left (g.S.EdgeSource.graph c.args.store.now) (g.Ix.IndexType.number c.args.to) c.args.limit)
    (none_there (pair_of g.Ix.IndexType.number) c.steps.way.items (omega (arith, e, c.steps.way.ok.0)))
    ∙ left_none (g.S.EdgeSource.graph c.args.store.now) (g.Ix.IndexType.number c.args.to) c.args.limit
