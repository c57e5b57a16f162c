use Rattle.std.proofs.Common.{◌≡◌, length, is_some}
use Rattle.dagbench_lines.specs.Cutting.{words_of}
use Rattle.dagbench_lines.specs.Listing.{edges_by_words}
use Rattle.dagbench_lines.proofs.edge_list.EdgeList.new.Given as goal

abbrev pub invariant-edges : goal.invariant-edges
invariant-edges l = is_some (edges_by_words (words_of l.rest)) ≡ is_some (edges_by_words (words_of l.words))

abbrev pub decreases-edges : goal.decreases-edges
decreases-edges l = length (words_of l.rest)
