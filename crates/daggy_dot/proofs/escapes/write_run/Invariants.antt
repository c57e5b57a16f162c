use Rattle.std.proofs.Common.{◌≡◌, encode_utf8_all}
use Rattle.std.specs.Fmt.{IsPlainFormatter, HasWritten}
use Rattle.daggy_dot.specs.Escapes.{run, left_after}
use Rattle.daggy_dot.proofs.escapes.write_run.Given as goal

abbrev pub invariant-loop-c : goal.invariant-loop-c
invariant-loop-c g l =
    record {
      left : l.left ≡ left_after l.fn.left l.yielded;
      written : IsPlainFormatter l.initial.f
          → HasWritten g.W.Write.write_str_gives l.initial.f (encode_utf8_all (run l.fn.left l.yielded)) l.f;
    }
