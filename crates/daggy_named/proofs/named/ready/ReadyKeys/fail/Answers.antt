use Rattle.std.proofs.Common.{◌≡◌, ◌↔◌, ◌⊎◌, ℕ, refl, subst}
use Rattle.daggy_schedule.specs.Fallible.{IsInProgress}
use Rattle.daggy_schedule.specs.Work.{IsSet}
use Rattle.daggy_named.specs.Asked.{ForNode}
use Rattle.daggy_named.proofs.Depended.{for_node}
use Rattle.daggy_named.proofs.named.ready.ReadyKeys.fail.Goals as goal

pub returns-clause-was_out : goal.returns-clause-was_out
returns-clause-was_out g c =
    let test = g.Q.Equivalent.equivalent c.args.key in (
      λ _. subst (λ s. ForNode test s.named.keys (IsInProgress s.queue)) c.self.view_is
          (for_node test c.self.inside.named.now.keys (IsInProgress c.self.inside.ready) c.in-Some.ensures.found
          (c.is_out.ensures.0 c.if-not-is_out.false)),
      λ _. refl,
    )

pub returns-clause-failed : goal.returns-clause-failed
returns-clause-failed g c =
    λ _.
    let test = g.Q.Equivalent.equivalent c.args.key in
    let old = c.self.inside.ready.failed in
    let new = c.fail.new.self.failed in
    subst (λ s. ForNode test s.named.keys (λ n. (m : ℕ) → IsSet new m ↔ (IsSet s.queue.failed m ⊎ (m ≡ n)))) c.self.view_is
    (for_node test c.self.inside.named.now.keys (λ n. (m : ℕ) → IsSet new m ↔ (IsSet old m ⊎ (m ≡ n))) c.in-Some.ensures.found
    c.fail.ensures.failed)
