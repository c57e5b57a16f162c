use Rattle.std.proofs.Common.{◌↔◌, IsTrue, subst}
use Rattle.daggy_schedule.specs.Work.{IsSet}
use Rattle.daggy_named.specs.Asked.{ForNode}
use Rattle.daggy_named.proofs.Depended.{for_node, from_node}
use Rattle.daggy_named.proofs.named.ready.ReadyKeys.is_failed.Goals as goal

pub returns : goal.returns
returns g c =
    let test = g.Q.Equivalent.equivalent c.args.key in
    let keys = c.self.inside.named.now.keys in
    let failed = c.self.inside.ready.failed in
    let found = c.in-Some.ensures.found in
    subst (λ s. IsTrue c.is_failed.result ↔ ForNode test s.named.keys (IsSet s.queue.failed)) c.self.view_is (
      λ h. for_node test keys (IsSet failed) found (c.is_failed.ensures.0 h),
      λ at. c.is_failed.ensures.1 (from_node test keys (IsSet failed) found at),
    )
