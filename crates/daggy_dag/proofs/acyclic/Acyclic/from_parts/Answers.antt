use Rattle.std.proofs.Common.{sym, subst}
use Rattle.daggy_base.specs.Path.{IsAcyclic}
use Rattle.daggy_base.specs.State.{State}
use Rattle.daggy_order.proofs.OrderLaws.{acyclic_from_order}
use Rattle.daggy_dag.proofs.acyclic.Acyclic.from_parts.Goals as goal

pub returns-clause-acyclic : goal.returns-clause-acyclic
returns-clause-acyclic g c =
    let P : State g.row.N.Denot g.row.E.Denot → Type 0 = λ s. IsAcyclic s.graph in
    subst P (sym c.from_parts.ensures) (acyclic_from_order _ c.requires.0)
