use Rattle.std.proofs.Common.{◌<◌, ◌^◌, arith}
use Rattle.dagbench_lines.proofs.Digits.{few_digits}
use Rattle.dagbench_lines.proofs.words.number.Goals as goal

pub overflow_mul-number : goal.overflow_mul-number
overflow_mul-number c =
    let small : c.loop-byte.number < 10 ^ 18 =
    few_digits _ c.loop-byte.byte-index c.loop-byte.invariant.below (omega arith) in
    omega arith

pub overflow_add-number : goal.overflow_add-number
overflow_add-number c =
    let small : c.loop-byte.number < 10 ^ 18 =
    few_digits _ c.loop-byte.byte-index c.loop-byte.invariant.below (omega arith) in
    omega arith
