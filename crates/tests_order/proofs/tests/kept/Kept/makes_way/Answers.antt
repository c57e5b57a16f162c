use Rattle.std.proofs.Common.{◌≡◌, ◌↔◌, false, ℕ, subst}
use Rattle.daggy_base.specs.Path.{Reaches}
use Rattle.daggy_base.specs.State.{State}
use Rattle.tests_order.proofs.tests.kept.Kept.makes_way.Goals as goal

pub returns : goal.returns
returns g c =
    let P : State ℕ ℕ → Type 0 = λ z. (c.order_edge.result ≡ false) ↔ Reaches z.graph c.args.b c.args.a in
    subst P c.self.view_is c.order_edge.ensures.decided
