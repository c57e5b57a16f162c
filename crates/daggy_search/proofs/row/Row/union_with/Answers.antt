use Rattle.std.proofs.Common.{◌≡◌, ◌⊎◌, ◌↔◌, Bool, true, false, List, get_or, subst}
use Rattle.daggy_base.specs.Bits.{flags}
use Rattle.daggy_search.proofs.RowWords.{unite_start, unite_on, united}
use Rattle.daggy_search.proofs.row.Row.union_with.Goals as goal

pub words-init : goal.words-init
words-init c = unite_start _ _ c.self.told

pub words-preserved : goal.words-preserved
words-preserved c = unite_on c.words.invariant c.words-test.true

pub returns : goal.returns
returns c i =
    let now = flags c.words.self-inside.words 512 in
    let P : List Bool → Type 0 = λ z.
    (get_or now i false ≡ true)
    ↔ ((get_or z i false ≡ true) ⊎ (get_or (flags c.other.inside.words 512) i false ≡ true)) in
    let Q : List Bool → Type 0 = λ z.
    (get_or now i false ≡ true) ↔ ((get_or c.args.self.now i false ≡ true) ⊎ (get_or z i false ≡ true)) in
    subst Q c.other.view_is (subst P c.self.view_is (united c.words.invariant c.words-test.false i))
