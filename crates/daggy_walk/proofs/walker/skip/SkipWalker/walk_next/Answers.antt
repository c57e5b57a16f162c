use Rattle.std.proofs.Common.{◌+◌, arith}
use Rattle.daggy_walk.proofs.AdapterSteps.{went_none, went_more, went_then}
use Rattle.daggy_walk.proofs.walker.skip.SkipWalker.walk_next.Goals as goal

pub skipped-init : goal.skipped-init
skipped-init g c = (0, went_none c.requires, omega arith)

pub skipped-preserved : goal.skipped-preserved
skipped-preserved g c = (
  c.skipped.invariant.0 + 1,
  went_more c.skipped.invariant.1 c.walk_next.ensures.steps c.walk_next.ensures.goes,
  omega (arith, c.skipped.invariant.2, c.skipped-test.true),
)

pub skipped-preserved-in-skipped : goal.skipped-preserved-in-skipped
skipped-preserved-in-skipped g c = (
  c.skipped.invariant.0 + 1,
  went_more c.skipped.invariant.1 c.walk_next.ensures.steps c.walk_next.ensures.goes,
  omega (arith, c.skipped.invariant.2, c.skipped-test.true),
)

pub returns : goal.returns
returns g c =
    let i = c.skipped.invariant.1 in
    let a = went_then i c.walk_next-2.ensures.goes in
    record {
      steps = record {
        skipped = i.seen;
        all = omega (arith, i.all, c.skipped.invariant.2, c.skipped-test.false);
        between = c.skipped.self.walker;
        passes = i.answered;
        gives = c.walk_next-2.ensures.steps;
        spent = omega (arith, c.skipped-test.false);
      };
      goes = record { stays = a.stays; falls = a.falls };
    }
