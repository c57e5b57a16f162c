use Rattle.std.proofs.Common.{take}
use Rattle.std.specs.List.{flat_map}
use Rattle.std.specs.Fmt.{IsPlainFormatter, HasWritten}
use Rattle.daggy_dot.specs.Picture.{ranked}
use Rattle.daggy_dot.proofs.picture.Dot.write_stage.Given as goal

abbrev pub invariant-loop-n : goal.invariant-loop-n
invariant-loop-n g l = IsPlainFormatter l.initial.f → HasWritten g.W.Write.write_str_gives l.initial.f
    (flat_map (ranked g.Ix.IndexType.number l.self.graph) (take l.n-index l.stage)) l.f
