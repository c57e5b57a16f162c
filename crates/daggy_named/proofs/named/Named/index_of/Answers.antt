use Rattle.std.proofs.Common.{ap, subst, ◌∙◌}
use Rattle.std.specs.Option.{IfSome}
use Rattle.daggy_base.specs.Graph.{HasNode}
use Rattle.daggy_named.specs.Naming.{index_by}
use Rattle.daggy_named.proofs.Kept.{found, found_exists}
use Rattle.daggy_named.proofs.named.Named.index_of.Goals as goal

pub returns-clause-found : goal.returns-clause-found
returns-clause-found g c =
    found g.met.K.Eq.laws c.self.invariant (g.met.Q.Equivalent.respects_eq c.args.key) c.copied.result (c.copied.ensures ∙ c.get.ensures.value)
    ∙ ap (λ s. index_by (g.Q.Equivalent.equivalent c.args.key) s.keys) c.self.view_is

pub returns-clause-exists : goal.returns-clause-exists
returns-clause-exists g c =
    subst (λ s. IfSome c.copied.result (λ n. HasNode s.graph (g.Ix.IndexType.number n))) c.self.view_is
    (found_exists g.met.K.Eq.laws c.self.invariant (g.met.Q.Equivalent.respects_eq c.args.key) c.copied.result
    (c.copied.ensures ∙ c.get.ensures.value))
