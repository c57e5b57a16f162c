use Rattle.std.proofs.Common.{◌≡◌, ◌++◌, [], length, IsSome}
use Rattle.std.specs.Option.{unwrap_or}
use Rattle.dagbench_lines.specs.Cutting.{words_of}
use Rattle.dagbench_lines.specs.Listing.{indices_by_words}
use Rattle.dagbench_lines.proofs.node_list.NodeList.into_nodes.Given as goal

abbrev pub invariant-nodes : goal.invariant-nodes
invariant-nodes l =
    record {
      some : IsSome (indices_by_words (words_of l.rest));
      whole : l.nodes.items ++ unwrap_or (indices_by_words (words_of l.rest)) [] ≡ l.fn.self;
    }

abbrev pub decreases-nodes : goal.decreases-nodes
decreases-nodes l = length (words_of l.rest)
