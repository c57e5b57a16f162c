use Rattle.std.proofs.Common.{◌≡◌, None, Some, refl, ap, sym, ◌∙◌, length}
use Rattle.std.specs.Prelude.{option_and_then, slice_get}
use Rattle.std.proofs.lemmas.Option.{slice_get_past, slice_get_read}
use Rattle.daggy_computed.specs.Cells.{value_of}
use Rattle.daggy_computed.proofs.Listed.{get_value}
use Rattle.daggy_computed.proofs.inputs.Inputs.get.Goals as goal

pub returns-in_err-get : goal.returns-in_err-get
returns-in_err-get g c =
    let es = c.self.inside.entries.now in
    let ps = c.self.inside.parents.now in
    let past : slice_get ps c.args.i ≡ None = slice_get_past ps c.args.i c.in_err-get.ensures.lookup.3 in
    let is : slice_get c.args.self.now c.args.i ≡ None =
    ap (λ z. slice_get z c.args.i) (sym c.self.view_is)
    ∙ (get_value es ps c.self.invariant c.args.i ∙ ap (option_and_then (value_of es)) past) in
    rw (c.from_residual.ensures, is) cc

pub returns : goal.returns
returns g c =
    let es = c.self.inside.entries.now in
    let ps = c.self.inside.parents.now in
    let k = c.in_ok-get.ensures.lookup in
    let at : slice_get ps c.args.i ≡ Some c.in_ok-get.field-0.now = slice_get_read ps (length ps) c.args.i _ refl k.3.0 k.1 in
    c.value_at.ensures
    ∙ sym (ap (λ z. slice_get z c.args.i) (sym c.self.view_is)
    ∙ (get_value es ps c.self.invariant c.args.i ∙ ap (option_and_then (value_of es)) at))
