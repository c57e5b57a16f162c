use Rattle.std.proofs.Common.{map}
use Rattle.std.specs.Option.{option_map}
use Rattle.daggy_json.specs.Reading.{IsEntryRead}
use Rattle.daggy_json.specs.Found.{edge_of}
use Rattle.daggy_json.specs.Weight.{ReadsAs}
use Rattle.daggy_json.proofs.Stages.{EachSoFar}
use Rattle.daggy_json.proofs.reading.entries.read_entries.Given as goal

abbrev pub invariant-loop-value : goal.invariant-loop-value
invariant-loop-value g l =
    EachSoFar (IsEntryRead l.kind l.nodes.items (ReadsAs g.G.Fn l.fn_edge)) l.list.items l.value-index
    (map (option_map (edge_of g.Ix.IndexType.number)) l.edges.items)
