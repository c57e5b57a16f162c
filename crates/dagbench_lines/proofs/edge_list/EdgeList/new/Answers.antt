use Rattle.std.proofs.Common.{◌≡◌, [], sym, ◌∙◌}
use Rattle.dagbench_lines.specs.Cutting.{words_of}
use Rattle.dagbench_lines.proofs.Listed.{same_after_first, none_after_first, shorter_rest, some_word}
use Rattle.dagbench_lines.proofs.edge_list.EdgeList.new.Goals as goal

pub returns-in_err-behind : goal.returns-in_err-behind
returns-in_err-behind c =
    let some : words_of c.edges.rest.now ≡ [] → ⊥ =
    some_word c.first_word.result _ (λ parts. parts.0.now) (λ parts. words_of parts.1.now) c.first_word.ensures
    (sym c.edges-test.ensures) in
    c.from_residual.ensures
    ∙ sym (none_after_first (words_of c.edges.rest.now) (words_of c.args.words.now) some (sym c.in_err-behind.ensures)
    c.edges.invariant)

pub edges-smaller : goal.edges-smaller
edges-smaller c =
    shorter_rest (words_of c.edges.rest.now) (words_of c.in_ok-behind.behind.now) _ (sym c.in_ok-behind.ensures)

pub edges-preserved : goal.edges-preserved
edges-preserved c =
    same_after_first (words_of c.edges.rest.now) (words_of c.in_ok-behind.behind.now) _ (sym c.in_ok-behind.ensures)
    ∙ c.edges.invariant
