use Rattle.daggy_json.specs.Fault.{IsWhole}
use Rattle.daggy_json.proofs.Stages.{EachSoFar}
use Rattle.daggy_json.proofs.reading.parts.read_numbers.Given as goal

abbrev pub invariant-loop-value : goal.invariant-loop-value
invariant-loop-value l = EachSoFar IsWhole l.list.items l.value-index l.numbers.items
