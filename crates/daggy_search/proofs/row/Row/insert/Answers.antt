use Rattle.std.proofs.Common.{◌≡◌, ◌⊎◌, ◌↔◌, ◌/◌, Bool, true, false, List, get_or, set, subst}
use Rattle.daggy_base.specs.Bits.{flags}
use Rattle.daggy_base.proofs.Flags.{set_in}
use Rattle.daggy_search.proofs.RowWords.{row_set}
use Rattle.daggy_search.proofs.row.Row.insert.Goals as goal

pub returns : goal.returns
returns c j =
    let words = c.self.inside.words in
    let i = c.args.i in
    let new = flags (set words (i / 64) (set_in (get_or words (i / 64) 0) i)) 512 in
    let P : List Bool → Type 0 = λ z.
    (get_or new j false ≡ true) ↔ ((get_or z j false ≡ true) ⊎ (j ≡ i)) in
    subst P c.self.view_is (row_set words i c.requires c.self.told j)
