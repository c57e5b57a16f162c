use Rattle.std.proofs.Common.{rules, ◌≡◌, true, ap, sym, ◌∙◌, refl}
use Rattle.daggy_base.specs.State.{with_graph}
use Rattle.daggy_base.specs.Removal.{without_edge}
use Rattle.daggy_base.specs.declared.kind.Kind.TheVariants.{Compact}
use Rattle.daggy_base.specs.TakingBack.{with_edge_taken_back}
use Rattle.daggy_base.proofs.EdgeTakenBack.{last_removed}
use Rattle.daggy_graph.proofs.graph.store.DiGraphStore.take_back_edge.Goals as goal

pub returns-clause-removed : goal.returns-clause-removed
returns-clause-removed g c =
    let made : c.args.made ≡ true = c.requires.compact refl in
    let graph = c.args.self.now.graph in
    let e = g.Ix.IndexType.number c.args.e in
    let removed : c.remove_edge.new.self ≡ with_graph c.args.self.now (without_edge Compact graph e) = search rules in
    ap (λ s. s.graph) removed ∙ last_removed graph e (c.requires.last made)
    ∙ ap (λ b. with_edge_taken_back b graph e) (sym made)
