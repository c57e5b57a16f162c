use Rattle.std.proofs.Common.{◌≡◌, ◌^◌, ◌<◌, drop}
use Rattle.dagbench_lines.specs.Numbers.{number_after}
use Rattle.dagbench_lines.proofs.words.number.Given as goal

abbrev pub invariant-loop-byte : goal.invariant-loop-byte
invariant-loop-byte l = record {
  same : number_after l.number (drop l.byte-index l.word) ≡ number_after 0 l.word;
  below : l.number < 10 ^ l.byte-index;
}
