use Rattle.std.proofs.Common.{Option, Some, None, Ok, Err, map, sym, subst}
use Rattle.std.specs.Prelude.{Result, IfOk, IfSome}
use Rattle.daggy_base.specs.Path.{Reaches}
use Rattle.daggy_order.specs.Paths.{IsShortestPath}
use Rattle.daggy_computed.proofs.CellGraphs.{reaches_cells}
use Rattle.daggy_computed.proofs.UpToDate.{shortest_cells}
use Rattle.daggy_computed.proofs.computed.Computed.path.Goals as goal

-- what is found is also of another kind
found_then : {A F : Type 0} (r : Result (Option A) F) (P Q : A → Type 0) → ((x : A) → P x → Q x)
    → IfOk r (λ o. IfSome o P) → IfOk r (λ o. IfSome o Q)
found_then (Ok (Some x)) P Q f p = f x p
found_then (Ok None) P Q f p = tt
found_then (Err e) P Q f p = tt

pub returns-clause-path : goal.returns-clause-path
returns-clause-path g c =
    let number = g.Ix.IndexType.number in
    let graph = c.self.inside.dag.graph in
    let a = number c.args.a in
    let b = number c.args.b in
    subst (λ z. IfOk c.path.result (λ found. IfSome found (λ path. IsShortestPath z.graph a b (map number path.items)))) c.self.view_is
    (found_then c.path.result (λ path. IsShortestPath graph a b (map number path.items)) _
    (λ path. shortest_cells graph c.self.inside.entries.items a b (map number path.items)) c.path.ensures.path)

pub returns-clause-none : goal.returns-clause-none
returns-clause-none g c =
    let number = g.Ix.IndexType.number in
    let graph = c.self.inside.dag.graph in
    let a = number c.args.a in
    let b = number c.args.b in
    let both = reaches_cells graph c.self.inside.entries.items a b in (
      λ is r. c.path.ensures.none.0 is (both.1 (subst (λ z. Reaches z.graph a b) (sym c.self.view_is) r)),
      λ none. c.path.ensures.none.1 (λ r. none (subst (λ z. Reaches z.graph a b) c.self.view_is (both.0 r))),
    )
