use Rattle.std.proofs.Common.{refl, subst}
use Rattle.daggy_schedule.specs.Fallible.{Finishes, IsInProgress}
use Rattle.daggy_named.specs.Asked.{ForNode}
use Rattle.daggy_named.proofs.Depended.{for_node}
use Rattle.daggy_named.proofs.named.ready.ReadyKeys.done.Goals.{After-done}
use Rattle.daggy_named.proofs.named.ready.ReadyKeys.done.Goals as goal

pub returns-clause-was_out : goal.returns-clause-was_out
returns-clause-was_out g c =
    let test = g.Q.Equivalent.equivalent c.args.key in (
      λ _. subst (λ s. ForNode test s.named.keys (IsInProgress s.queue)) c.self.view_is
          (for_node test c.self.inside.named.now.keys (IsInProgress c.self.inside.ready) c.in-Some.ensures.found
          (c.is_out.ensures.0 c.if-not-is_out.false)),
      λ _. refl,
    )

pub returns-clause-done : goal.returns-clause-done
returns-clause-done g c =
    λ _.
    let test = g.Q.Equivalent.equivalent c.args.key in
    let old = c.self.inside.ready.work in
    let new = c.done.new.self.work in
    subst (λ s. ForNode test s.named.keys (λ m. Finishes s.named.graph m s.queue.work new)) c.self.view_is
    (for_node test c.self.inside.named.now.keys (λ m. Finishes c.self.inside.named.now.graph m old new) c.in-Some.ensures.found
    (subst (λ z. Finishes z (g.Ix.IndexType.number c.in-Some.n) old new) c.dag.ensures c.done.ensures.done))
