use Rattle.std.proofs.Common.{◌≡◌, length, is_some}
use Rattle.dagbench_lines.specs.Cutting.{words_of}
use Rattle.dagbench_lines.specs.Listing.{indices_by_words}
use Rattle.dagbench_lines.proofs.node_list.NodeList.new.Given as goal

abbrev pub invariant-nodes : goal.invariant-nodes
invariant-nodes l = is_some (indices_by_words (words_of l.rest)) ≡ is_some (indices_by_words (words_of l.words))

abbrev pub decreases-nodes : goal.decreases-nodes
decreases-nodes l = length (words_of l.rest)
