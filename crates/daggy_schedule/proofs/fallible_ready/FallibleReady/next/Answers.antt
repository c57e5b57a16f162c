use Rattle.std.proofs.Common.{sym, subst}
use Rattle.std.specs.Prelude.{IfSome}
use Rattle.daggy_schedule.specs.Fallible.{FallibleWork, HandsOut, IsSkipped, IsUnderWayWithFailures}
use Rattle.daggy_schedule.proofs.Skipping.{hands_out, next_not_skipped}
use Rattle.daggy_schedule.proofs.fallible_ready.FallibleReady.next.Goals as goal

pub returns-clause-first : goal.returns-clause-first
returns-clause-first g c =
    let number = g.Ix.IndexType.number in
    subst (λ (z : FallibleWork). IfSome c.next.result (λ n. HandsOut (number n) z.work c.next.new.self)) c.self.view_is
    (hands_out number c.self.inside.inner c.next.new.self c.next.result c.next.ensures.first c.next.ensures.out
    c.next.ensures.done c.next.ensures.waiting)

pub returns-clause-not_skipped : goal.returns-clause-not_skipped
returns-clause-not_skipped g c =
    let number = g.Ix.IndexType.number in
    let graph = c.args.dag.now.graph in
    let u = subst (λ (z : FallibleWork). IsUnderWayWithFailures graph z) (sym c.self.view_is) c.requires in
    subst (λ (z : FallibleWork). IfSome c.next.result (λ n. ¬ IsSkipped graph z (number n))) c.self.view_is
    (next_not_skipped c.node_count-count.ensures.dag.well_formed u number c.next.new.self.ready c.next.result c.next.ensures.first)
