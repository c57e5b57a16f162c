use Rattle.std.proofs.Common.{◌≡◌, ◌∙◌, Some, IsSome, is_some, ap, sym, subst}
use Rattle.std.specs.Option.{IfSome}
use Rattle.daggy_base.specs.Finding.{find_edge}
use Rattle.daggy_base.specs.Removal.{without_edge}
use Rattle.daggy_base.specs.Weights.{edge_weight}
use Rattle.daggy_base.specs.declared.kind.Kind.TheVariants.{Stable}
use Rattle.daggy_named.specs.Asked.{edge_by}
use Rattle.daggy_named.proofs.DependenciesGone.{edge_is, found_weight, on_some}
use Rattle.daggy_named.proofs.named.Named.remove_dependency.Given.{Over}
use Rattle.daggy_named.proofs.named.Named.remove_dependency.Goals.{After-remove_edge}
use Rattle.daggy_named.proofs.named.Named.remove_dependency.Goals as goal

module _ (g : Over) (c : After-remove_edge g) where
  between : find_edge c.args.self.now.graph (g.Ix.IndexType.number c.in_ok-parent.parent)
      (g.Ix.IndexType.number c.in_ok-child.child) ≡ Some (g.Ix.IndexType.number c.in_ok-e.e)
  between =
      let number = g.Ix.IndexType.number in
      ap (λ z. find_edge z.graph (number c.in_ok-parent.parent) (number c.in_ok-child.child)) (sym c.self.view_is)
      ∙ sym c.in_ok-e.ensures.found

  named : edge_by (g.Q.Equivalent.equivalent c.args.dependency.on) (g.Q.Equivalent.equivalent c.args.dependency.dependent)
      c.args.self.now ≡ Some (g.Ix.IndexType.number c.in_ok-e.e)
  named =
      let number = g.Ix.IndexType.number in
      edge_is (g.Q.Equivalent.equivalent c.args.dependency.on) (g.Q.Equivalent.equivalent c.args.dependency.dependent)
      c.args.self.now (number c.in_ok-parent.parent) (number c.in_ok-child.child) (number c.in_ok-e.e)
      c.in_ok-parent.ensures.found c.in_ok-child.ensures.found between

  value : c.remove_edge.result ≡ edge_weight c.args.self.now.graph (g.Ix.IndexType.number c.in_ok-e.e)
  value =
      c.remove_edge.ensures.value
      ∙ ap (λ z. edge_weight z.graph (g.Ix.IndexType.number c.in_ok-e.e)) c.self.view_is

  there : IsSome c.remove_edge.result
  there =
      let number = g.Ix.IndexType.number in
      ap is_some value
      ∙ found_weight c.args.self.now.graph (number c.in_ok-parent.parent) (number c.in_ok-child.child) (number c.in_ok-e.e)
      c.node_count-count.ensures.dag.well_formed between

pub returns-clause-removed : goal.returns-clause-removed
returns-clause-removed g c =
    let at = (goal.at.returns-clause-removed g c).After-remove_edge in
    let e = g.Ix.IndexType.number c.in_ok-e.e in
    subst (λ o. IfSome o (λ e. (c.remove_edge.result ≡ edge_weight c.args.self.now.graph e)
    × (c.remove_edge.new.self.graph ≡ without_edge Stable c.args.self.now.graph e))) (sym (named g at)) (
      value g at,
      ap (λ z. z.graph) (on_some c.remove_edge.result _ (there g at) c.remove_edge.ensures.removed)
          ∙ ap (λ z. without_edge Stable z.graph e) c.self.view_is,
    )

pub returns-clause-found : goal.returns-clause-found
returns-clause-found g c =
    let at = (goal.at.returns-clause-found g c).After-remove_edge in
    (λ some. ap is_some (named g at), λ some. there g at)
