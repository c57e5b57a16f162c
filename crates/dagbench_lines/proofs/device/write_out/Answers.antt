use Rattle.std.proofs.Common.{◌≡◌, [], rules, drop_of_length-le}
use Rattle.std.proofs.KnownBytes.{Keeps-refl}
use Rattle.dagbench_lines.proofs.WrittenBytes.{piece_put, front_put, all_put}
use Rattle.dagbench_lines.proofs.device.write_out.Goals as goal

pub returns-in_default : goal.returns-in_default
returns-in_default g c = front_put _ _ _ _ _ c.writes.invariant c.in_default.ensures.bytes

pub returns-then-count-eq0 : goal.returns-then-count-eq0
returns-then-count-eq0 g c =
    front_put _ _ _ _ _ (piece_put _ _ _ _ _ c.in-Ok.count c.writes.invariant c.in-Ok.ensures.bytes) (Keeps-refl _)

pub writes-preserved : goal.writes-preserved
writes-preserved g c = piece_put _ _ _ _ _ c.in-Ok.count c.writes.invariant c.in-Ok.ensures.bytes

pub returns-then-is_err : goal.returns-then-is_err
returns-then-is_err g c = front_put _ _ _ _ _ c.writes.invariant c.flush.ensures.bytes

pub returns : goal.returns
returns g c =
    let none : c.writes.rest.now ≡ [] = drop_of_length-le c.writes.rest.now {i = 0} (search rules) in
    all_put _ _ _ _ _ c.writes.invariant none c.flush.ensures.bytes
