use Rattle.std.proofs.Common.{refl}
use Rattle.daggy_visit.proofs.UnitedWords.{unite_none, unite_more}
use Rattle.daggy_visit.proofs.bits.unite.Goals as goal

pub words-init : goal.words-init
words-init c = unite_none _ _ _

pub words-preserved : goal.words-preserved
words-preserved c =
    unite_more c.words.invariant c.words-test.true c.requires.to c.requires.apart _ refl
