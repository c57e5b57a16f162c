use Rattle.std.proofs.Common.{rules}
use Rattle.dagbench_lines.specs.Commands.{listing_by_name}
use Rattle.dagbench_lines.proofs.ParsedLines.{edges_by_numbers}
use Rattle.dagbench_lines.proofs.parse.listing.Goals as goal

pub returns-in_ok-into_edges-clause-said : goal.returns-in_ok-into_edges-clause-said
unfolding listing_by_name
returns-in_ok-into_edges-clause-said c = let same = edges_by_numbers c.in_ok-into_edges.field-0.items in
    rw same (search rules)
