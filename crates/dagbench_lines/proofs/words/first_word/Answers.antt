use Rattle.std.proofs.Common.{sym, ◌∙◌}
use Rattle.dagbench_lines.proofs.Cuts.{first_word_before, only_word, some_length}
use Rattle.dagbench_lines.proofs.words.first_word.Goals as goal

pub returns-in-Some : goal.returns-in-Some
returns-in-Some c =
    sym c.without_spaces-line.ensures.words
    ∙ first_word_before _ c.in-Some.word.now c.in-Some.rest.now (some_length _ c.if-is_empty.ensures)
    c.without_spaces-line.ensures.first c.in-Some.ensures.0 c.in-Some.ensures.1

pub returns-in-None : goal.returns-in-None
returns-in-None c =
    sym c.without_spaces-line.ensures.words ∙ only_word _ (some_length _ c.if-is_empty.ensures) c.in-None.ensures
