use Rattle.std.proofs.Common.{◌≡◌, [], sym, ◌∙◌}
use Rattle.dagbench_lines.specs.Cutting.{words_of}
use Rattle.dagbench_lines.proofs.Listed.{some_word}
use Rattle.dagbench_lines.proofs.ListedNodes.{same_after_node, none_after_node, shorter_node}
use Rattle.dagbench_lines.proofs.node_list.NodeList.new.Goals as goal

pub returns-in_err-behind : goal.returns-in_err-behind
returns-in_err-behind c =
    let some : words_of c.nodes.rest.now ≡ [] → ⊥ =
    some_word c.first_word.result _ (λ parts. parts.0.now) (λ parts. words_of parts.1.now) c.first_word.ensures
    (sym c.nodes-test.ensures) in
    c.from_residual.ensures
    ∙ sym (none_after_node (words_of c.nodes.rest.now) (words_of c.args.words.now) some (sym c.in_err-behind.ensures)
    c.nodes.invariant)

pub nodes-smaller : goal.nodes-smaller
nodes-smaller c =
    shorter_node (words_of c.nodes.rest.now) (words_of c.in_ok-behind.behind.now) _ (sym c.in_ok-behind.ensures)

pub nodes-preserved : goal.nodes-preserved
nodes-preserved c =
    same_after_node (words_of c.nodes.rest.now) (words_of c.in_ok-behind.behind.now) _ (sym c.in_ok-behind.ensures)
    ∙ c.nodes.invariant
