use Rattle.std.proofs.Common.{arith}
use Rattle.daggy_search.proofs.RowWords.{met_none, met_more, none_met}
use Rattle.daggy_search.proofs.row.Row.is_disjoint.Goals as goal

pub words-init : goal.words-init
words-init c = (met_none _ _, omega arith)

pub words-preserved : goal.words-preserved
words-preserved c = (met_more _ _ c.words.common c.words.k c.words.invariant.0, omega (arith, c.words-test.true))

pub returns : goal.returns
returns c =
    rw (← c.self.view_is, ← c.other.view_is)
    (none_met c.self.inside.words c.other.inside.words c.words.common c.words.k
    (omega (arith, c.words.auto.common-fits)) (omega (arith, c.words.invariant.1, c.words-test.false))
    c.words.invariant.0)
