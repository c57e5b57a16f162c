use Rattle.std.proofs.Common.{encode_utf8_all}
use Rattle.std.specs.Fmt.{IsPlainFormatter, HasWritten}
use Rattle.std.specs.List.{flat_map}
use Rattle.daggy_formats.proofs.escaper.write_text.Given as goal

abbrev pub invariant-loop-c : goal.invariant-loop-c
invariant-loop-c g l = IsPlainFormatter l.initial.f
    → HasWritten g.W.Write.write_str_gives l.initial.f (encode_utf8_all (flat_map g.X.Escape.escaped_char l.yielded)) l.f
