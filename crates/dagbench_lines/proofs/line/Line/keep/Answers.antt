use Rattle.std.proofs.Common.{arith, IsOk, ◌∙◌}
use Rattle.dagbench_lines.proofs.KeptFront.{kept_more}
use Rattle.dagbench_lines.proofs.line.Line.keep.Goals as goal

pub returns : goal.returns
returns c =
    let ok : IsOk c.extend_from_slice.result = c.extend_from_slice.ensures.succeeds (omega arith) in
    kept_more _ c.self.view_is c.split_at.ensures.front c.min.ensures
    (c.len-room.ensures ∙ c.self.inside.bytes.ok.0) (omega arith) ok c.extend_from_slice.ensures.items
