use Rattle.std.proofs.Common.{◌/◌, ◌%◌, false, get_or, sym, ap, ◌∙◌}
use Rattle.daggy_base.proofs.Flags.{flag_of, tests_set}
use Rattle.daggy_search.proofs.row.Row.contains.Goals as goal

pub returns : goal.returns
returns c =
    let words = c.self.inside.words in
    tests_set (get_or words (c.args.i / 64) 0) (c.args.i % 64) ∙ sym (flag_of words 512 c.args.i c.requires)
    ∙ ap (λ z. get_or z c.args.i false) c.self.view_is
