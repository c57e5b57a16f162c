use Rattle.std.proofs.Common.{◌↔◌, IsTrue, subst}
use Rattle.daggy_schedule.specs.Fallible.{IsInProgress}
use Rattle.daggy_named.specs.Asked.{ForNode}
use Rattle.daggy_named.proofs.Depended.{for_node, from_node}
use Rattle.daggy_named.proofs.named.ready.ReadyKeys.is_out.Goals as goal

pub returns : goal.returns
returns g c =
    let test = g.Q.Equivalent.equivalent c.args.key in
    let keys = c.self.inside.named.now.keys in
    let queue = c.self.inside.ready in
    let found = c.in-Some.ensures.found in
    subst (λ s. IsTrue c.is_out.result ↔ ForNode test s.named.keys (IsInProgress s.queue)) c.self.view_is (
      λ h. for_node test keys (IsInProgress queue) found (c.is_out.ensures.0 h),
      λ at. c.is_out.ensures.1 (from_node test keys (IsInProgress queue) found at),
    )
