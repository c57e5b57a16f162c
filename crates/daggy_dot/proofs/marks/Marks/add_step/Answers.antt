use Rattle.std.proofs.Common.{◌∙◌, ◌==◌, ◌&&◌, ◌||◌, ap}
use Rattle.daggy_dot.specs.Picture.{is_step}
use Rattle.daggy_dot.proofs.Marking.{or_of_cond}
use Rattle.daggy_dot.proofs.marks.Marks.add_step.Goals as goal

pub returns-clause-steps : goal.returns-clause-steps
returns-clause-steps c x y =
    let a = c.args.a in
    let b = c.args.b in
    c.in_ok-insert.ensures.updates.0 (x, y) ∙ or_of_cond (a == x && b == y) _
    ∙ ap (λ marks. (a == x && b == y) || is_step marks x y) c.self.view_is
