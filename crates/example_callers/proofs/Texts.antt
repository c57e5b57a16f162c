-- A text that was written is read as that text.
use Rattle.std.proofs.Common.{◌≡◌, Option, Some, sym, ap, ◌∙◌}
use Rattle.std.specs.Prelude.{String, string_bytes}
use Rattle.std.specs.Option.{option_map}
use Rattle.std.specs.declared.alloc.Global.{Global}
use Rattle.serde_json.specs.Data.{Data, string}
use Rattle.serde_json.specs.Find.{as_str}
use Rattle.serde_json.specs.View.{view}
use Rattle.serde_json.specs.declared.value.Value.{Value}

pub text_again : {w n : String Global} {d : Data} (v : Value) {u p : Value} (o : Option (String Global))
    → n ≡ w → view v ≡ d → p ≡ u → view u ≡ d
    → view v ≡ string (string_bytes n) → option_map string_bytes o ≡ as_str (view p)
    → option_map string_bytes o ≡ Some (string_bytes w)
text_again v o shown is seen same written read =
    read ∙ ap (λ k. as_str (view k)) seen ∙ ap as_str (same ∙ sym is ∙ written) ∙ ap (λ k. Some (string_bytes k)) shown
