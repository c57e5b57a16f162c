use Rattle.std.proofs.Common.{◌≡◌, ◌<◌, None, ◌∙◌, refl, ap, subst, rules}
use Rattle.daggy_base.specs.Graph.{HasNode, edge_count}
use Rattle.daggy_base.specs.Path.{Reaches}
use Rattle.daggy_base.specs.Finding.{find_edge}
use Rattle.daggy_base.specs.declared.error.EdgeError.{EdgeError}
use Rattle.daggy_guard.specs.Elements.{IsEdgeRefused}
use Rattle.daggy_guard.proofs.GuardedChange.{same_graph}
use Rattle.daggy_guard.proofs.RefusedEdge.{none_found, searched, mapped_none, renamed_refusal}
use Rattle.daggy_guard.proofs.guard.Guarded.join.Goals.{else-is_none-via-then-is_none+else-not-can_add_edge}
use Rattle.daggy_guard.proofs.guard.Guarded.join.Goals.{else-is_none-via-else-is_none}
use Rattle.daggy_guard.proofs.guard.Guarded.join.Goals as goal

pub returns-in-Err-clause-refused : goal.returns-in-Err-clause-refused
returns-in-Err-clause-refused g c =
    let old = c.args.self.now.graph in
    let same = same_graph c.self.view_is in
    let a = g.Ix.IndexType.number c.in-Some.a in
    let b = g.Ix.IndexType.number c.in-Some-node_at.b in
    let none : find_edge old a b ≡ None = none_found _ _ c.in-Err.ensures.replaced (λ e replaced. replaced.0) in
    let left : edge_count old < g.Ix.IndexType.greatest = elim c.else-is_none.branch [
      | else-is_none-via-then-is_none+else-not-can_add_edge w ↦
          subst (λ z. edge_count z < g.Ix.IndexType.greatest) same
          (w.can_add_edge.ensures.0 w.if-not-can_add_edge.false)
      | else-is_none-via-else-is_none w ↦
          absurd (mapped_none g.Ix.IndexType.number c.find_edge.result (c.find_edge.ensures ∙ ap (λ z. find_edge z a b) same ∙ none)
          w.if-is_none.ensures)
    ] in
    let parent : HasNode old a = search rules in
    let child : HasNode old b = search rules in
    let P : EdgeError g.row.S-EdgeWeight.Denot → Type 0 = λ z.
    IsEdgeRefused g.Ix.IndexType.greatest old (a, b, c.args.weight) z in
    renamed_refusal _ old a b c.args.weight _ (c.in-Some.ensures.0) (c.in-Some-node_at.ensures.0)
    (searched c.args.weight P (Reaches old b a) record {
      is = c.in-Err.is;
      cycle = c.update_edge.ensures.cycle;
      cause = c.in-Err.ensures.refusal;
    } (λ back. (refl, ((parent, child), none), left, back)) (λ apart. (refl, ((parent, child), none), left, apart)))
