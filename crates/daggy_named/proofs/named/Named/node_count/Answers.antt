use Rattle.std.proofs.Common.{refl, subst}
use Rattle.daggy_named.specs.Naming.{IsNamed}
use Rattle.daggy_named.proofs.Kept.{are_named}
use Rattle.daggy_named.proofs.named.Named.node_count.Goals as goal

pub returns-clause-named : goal.returns-clause-named
returns-clause-named g c =
    subst (IsNamed g.K.PartialEq.eq) c.self.view_is
    (are_named g.met.K.Eq.laws c.self.invariant c.self.inside.dag.graph refl)
