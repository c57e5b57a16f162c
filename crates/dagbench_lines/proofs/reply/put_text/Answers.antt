use Rattle.dagbench_lines.proofs.ParsedLines.{walk_told}
use Rattle.dagbench_lines.proofs.reply.put_text.Goals as goal

pub returns-in-Walk : goal.returns-in-Walk
returns-in-Walk g c =
    let put = c.put_parted-in-Walk.ensures in
    rw c.in-Walk.is
    (walk_told _ _ _ c.in-Walk.items.items _ c.as_slice-in-Walk.ensures.value put.0, put.1)
