use Rattle.std.proofs.Common.{◌∙◌, ◌==◌, ◌||◌, ap}
use Rattle.daggy_dot.specs.Picture.{is_marked}
use Rattle.daggy_dot.proofs.Marking.{or_of_cond}
use Rattle.daggy_dot.proofs.marks.Marks.add_node.Goals as goal

pub returns-clause-nodes : goal.returns-clause-nodes
returns-clause-nodes c q =
    let n = c.args.n in
    c.in_ok-insert.ensures.updates.0 q ∙ or_of_cond (n == q) _ ∙ ap (λ marks. n == q || is_marked marks q) c.self.view_is
