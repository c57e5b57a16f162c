-- Lines, written one after another.
use Rattle.std.proofs.Common.{◌≡◌, ◌∙◌, ℕ, suc, ◌+◌, List, [], ap, refl, sym, subst, arith}
use Rattle.std.proofs.lemmas.List.{append-nil}
use Rattle.std.proofs.Output.{has_written_append}
use Rattle.std.specs.Prelude.{Option, Some, None, IfSome, IsOk, Result}
use Rattle.std.specs.declared.fmt.Error.{Error}
use Rattle.std.specs.declared.fmt.Formatter.{Formatter}
use Rattle.std.specs.Fmt.{HasWritten, DisplaysOnOk, ◌++?◌}
use Rattle.daggy_base.specs.Graph.{slot}
use Rattle.daggy_formats.specs.Lines.{line_of, lines_of}

append_nothing : (o : Option (List ℕ)) → o ≡ o ++? Some []
append_nothing None = refl
append_nothing (Some bs) = ap (λ (l : List ℕ). Some l) (sym (append-nil bs))

module _ {W : Type 0} (took : W → List ℕ → W → Type 0) where
  -- the text in o was written, if there is one
  abbrev pub IsWritten : Formatter W → Option (List ℕ) → Formatter W → Type 0
  IsWritten f o g = IfSome o (λ bs. HasWritten took f bs g)

  written_then : (f g h : Formatter W) (r : Result (Unit {0}) Error) (o p : Option (List ℕ))
      → IsWritten f o g → DisplaysOnOk took g r p h → IsOk r → IsWritten f (o ++? p) h
  written_then f g h r None p before then ok = tt
  written_then f g h r (Some a) None before then ok = tt
  written_then f g h r (Some a) (Some b) before then ok = has_written_append took f a g b h before (then before.plain ok)

  module _ {A : Type 0} (line : ℕ → A → Option (List ℕ)) (slots : List (Option A)) (x : ℕ) where
    -- the lines of one more slot
    more : lines_of line slots x ++? line_of (line x) (slot slots x) ≡ lines_of line slots (x + 1)
    more = let next : suc x ≡ x + 1 = omega arith in ap (lines_of line slots) next

    pub line_written : (f g h : Formatter W) (r : Result (Unit {0}) Error) (w : A) (p : Option (List ℕ))
        → Some w ≡ slot slots x → p ≡ line x w → IsWritten f (lines_of line slots x) g → DisplaysOnOk took g r p h → IsOk r
        → IsWritten f (lines_of line slots (x + 1)) h
    line_written f g h r w p at same before then ok =
        subst (λ o. IsWritten f o h)
        (ap (λ o. lines_of line slots x ++? o) (same ∙ ap (line_of (line x)) at) ∙ more)
        (written_then f g h r (lines_of line slots x) p before then ok)

    pub no_line : (f g : Formatter W) → None ≡ slot slots x → IsWritten f (lines_of line slots x) g
        → IsWritten f (lines_of line slots (x + 1)) g
    no_line f g at before =
        subst (λ o. IsWritten f o g)
        (append_nothing _ ∙ ap (λ o. lines_of line slots x ++? line_of (line x) o) at ∙ more) before
