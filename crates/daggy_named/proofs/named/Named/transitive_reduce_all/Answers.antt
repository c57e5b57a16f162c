use Rattle.std.proofs.Common.{OnOk, ap, sym, subst}
use Rattle.daggy_base.specs.declared.kind.Kind.TheVariants.{Stable}
use Rattle.daggy_dag.specs.WholeReduction.{IsWholeReduction, JoinsCoversOnly}
use Rattle.daggy_redundant.specs.Comparison.{HaveSameReachability}
use Rattle.daggy_named.specs.Places.{IsKept}
use Rattle.daggy_named.proofs.DependenciesGone.{kept_nodes}
use Rattle.daggy_named.proofs.named.Named.transitive_reduce_all.Goals as goal

pub invariant_of-self : goal.invariant_of-self
invariant_of-self g c =
    subst (λ z. IsKept g.K.PartialEq.eq g.Ix.IndexType.number z c.self.inside.nodes.entries c.self.inside.places.items)
    (sym (kept_nodes c.transitive_reduce_all.result c.self.inside.dag c.transitive_reduce_all.new.self
    c.transitive_reduce_all.ensures.reduced
    c.transitive_reduce_all.ensures.unchanged)) c.self.invariant

pub returns-clause-reduced : goal.returns-clause-reduced
returns-clause-reduced g c =
    subst (λ z. OnOk c.transitive_reduce_all.result
    (IsWholeReduction Stable z c.transitive_reduce_all.new.self.graph)) (ap (λ z. z.graph) c.self.view_is)
    c.transitive_reduce_all.ensures.reduced

pub returns-clause-reachability : goal.returns-clause-reachability
returns-clause-reachability g c =
    subst (λ z. OnOk c.transitive_reduce_all.result
    (HaveSameReachability z c.transitive_reduce_all.new.self.graph)) (ap (λ z. z.graph) c.self.view_is)
    c.transitive_reduce_all.ensures.reachability

pub returns-clause-covers : goal.returns-clause-covers
returns-clause-covers g c =
    subst (λ z. OnOk c.transitive_reduce_all.result
    (JoinsCoversOnly z c.transitive_reduce_all.new.self.graph)) (ap (λ z. z.graph) c.self.view_is)
    c.transitive_reduce_all.ensures.covers
