use Rattle.std.proofs.Common.{◌≡◌, ◌↔◌, ◌==◌, IsTrue, arith, subst}
use Rattle.std.proofs.lemmas.Bool.Decides.{nat_tests}
use Rattle.daggy_schedule.specs.Work.{Work, IsIdle}
use Rattle.daggy_schedule.proofs.Keeping.{finished_idle, idle_finished}
use Rattle.daggy_schedule.proofs.ready.Ready.is_finished.Goals as goal

pub returns : goal.returns
returns g c =
    let k = c.self.invariant in
    let P : Work → Type 0 = λ z. IsTrue (c.self.inside.finished == c.self.inside.tail) ↔ IsIdle z in
    let to : IsTrue (c.self.inside.finished == c.self.inside.tail) → c.self.inside.finished ≡ c.self.inside.tail =
    λ h. grind (arith, nat_tests) in
    let back : c.self.inside.finished ≡ c.self.inside.tail → IsTrue (c.self.inside.finished == c.self.inside.tail) =
    λ h. grind (arith, nat_tests) in
    subst P c.self.view_is (
      λ h. finished_idle k (to h),
      λ idle. back (idle_finished k idle.0 (λ n o u. idle.1 n (o, u))),
    )
