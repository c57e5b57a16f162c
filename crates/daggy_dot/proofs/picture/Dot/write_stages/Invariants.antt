use Rattle.std.proofs.Common.{take}
use Rattle.std.specs.List.{flat_map}
use Rattle.std.specs.Fmt.{IsPlainFormatter, HasWritten}
use Rattle.daggy_dot.specs.Picture.{rank_line}
use Rattle.daggy_dot.proofs.picture.Dot.write_stages.Given as goal

abbrev pub invariant-loop-stage : goal.invariant-loop-stage
invariant-loop-stage g l = IsPlainFormatter l.initial.f → HasWritten g.W.Write.write_str_gives l.initial.f
    (flat_map (rank_line g.Ix.IndexType.number l.self.graph) (take l.stage-index l.self.stages)) l.f
