use Rattle.std.proofs.Common.{◌≡◌, ◌++◌, [], length, IsSome}
use Rattle.std.specs.Option.{unwrap_or}
use Rattle.dagbench_lines.specs.Cutting.{words_of}
use Rattle.dagbench_lines.specs.Listing.{edges_by_words}
use Rattle.dagbench_lines.proofs.edge_list.EdgeList.into_edges.Given as goal

abbrev pub invariant-edges : goal.invariant-edges
invariant-edges l =
    record {
      some : IsSome (edges_by_words (words_of l.rest));
      whole : l.edges.items ++ unwrap_or (edges_by_words (words_of l.rest)) [] ≡ l.fn.self;
    }

abbrev pub decreases-edges : goal.decreases-edges
decreases-edges l = length (words_of l.rest)
