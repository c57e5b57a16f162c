use Rattle.daggy_json.specs.Reading.{IsWeight}
use Rattle.daggy_json.specs.Weight.{ReadsAs}
use Rattle.daggy_json.proofs.Stages.{EachSoFar}
use Rattle.daggy_json.proofs.reading.weights.read_weights.Given as goal

abbrev pub invariant-loop-value : goal.invariant-loop-value
invariant-loop-value g l = EachSoFar (IsWeight (ReadsAs g.F.Fn l.fn_node)) l.list.items l.value-index l.weights.items
