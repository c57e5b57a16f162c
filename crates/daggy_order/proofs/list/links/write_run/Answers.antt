use Rattle.std.proofs.Common.{◌≡◌, ◌+◌, ◌*◌, refl, arith}
use Rattle.daggy_order.proofs.RunsWritten.{written_more}
use Rattle.daggy_order.proofs.list.links.write_run.Goals as goal

pub run-preserved : goal.run-preserved
run-preserved g c =
    let s = c.run.invariant.0 in
    let more : c.args.gap * (c.run.i + 1) ≡ c.args.gap * c.run.i + c.args.gap = search arith in (
      written_more s (c.args.n + c.run.i + 1) c.args.gap _ refl
          (omega (arith, s.sized, c.requires.numbered, c.run-test.true, c.args.items.now.ok.0)) c.requires.some
          (omega (arith, c.new.ensures)) c.new-in-run.ensures refl,
      (omega (arith, c.run.invariant.1.0, more), c.run.invariant.1.1),
    )
