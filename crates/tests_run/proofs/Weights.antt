-- A weight that was written is read as it was.
use Rattle.std.proofs.Common.{◌≡◌, ℕ, Option, Some, sym, ap, ◌∙◌}
use Rattle.serde_json.specs.Data.{Data}
use Rattle.serde_json.specs.View.{view}
use Rattle.serde_json.specs.declared.value.Value.{Value}
use Rattle.daggy_json.specs.Document.{whole}
use Rattle.daggy_json.specs.Reading.{whole_in}

pub read_again : {w : ℕ} {n : ℕ} {d : Data} (v : Value) {u : Value} {p : Value} {o : Option ℕ}
    → view v ≡ whole n → n ≡ w → view v ≡ d → o ≡ whole_in (view p) → p ≡ u → view u ≡ d → o ≡ Some w
read_again v written shown is read seen same =
    read ∙ ap (λ k. whole_in (view k)) seen ∙ ap whole_in (same ∙ sym is ∙ written) ∙ ap Some shown
