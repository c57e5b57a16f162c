use Rattle.std.proofs.Common.{ℤ, rules}
use Rattle.daggy_base.specs.Requests.{request_of}
use Rattle.daggy_base.specs.declared.command.Command.TheVariants.{ClearEdges, Clear}
use Rattle.dagbench_lines.specs.Cutting.{words_of}
use Rattle.dagbench_lines.specs.Commands.{single_by_name}
use Rattle.dagbench_lines.proofs.ParsedLines.{done_map}
use Rattle.dagbench_lines.proofs.parse.single.Goals as goal

pub returns-then-eq-8 : goal.returns-then-eq-8
unfolding single_by_name
returns-then-eq-8 c =
    let done = done_map (request_of {N = ℤ} {E = ℤ} (λ i. i)) (words_of c.args.rest.now) ClearEdges in
    rw (c.if_done.ensures, done) (search rules)

pub returns-then-eq-9 : goal.returns-then-eq-9
unfolding single_by_name
returns-then-eq-9 c =
    let done = done_map (request_of {N = ℤ} {E = ℤ} (λ i. i)) (words_of c.args.rest.now) Clear in
    rw (c.if_done-then-eq-9.ensures, done) (search rules)
