-- What the writer has of the bytes so far, in the words of the code that writes them.
use Rattle.std.proofs.Common.{◌≡◌, ℕ, Option, Some, None, List, [], ◌++◌, sym, ap, subst, ◌∙◌, append_assoc}
use Rattle.std.proofs.Common.{append-nil}
use Rattle.std.proofs.KnownBytes.{Appends-trans}
use Rattle.daggy_json.specs.Streaming.{AppendsFront}
use Rattle.daggy_json.specs.Passing.{SendsBytes, HasText}
use Rattle.daggy_json.specs.declared.error.StreamError.{StreamError}
use Rattle.daggy_json.specs.declared.error.StreamError.TheVariants.{Memory}

-- a front of a text is a front of a longer one
pub front_longer : (a b : Option (List ℕ)) (text more : List ℕ) → AppendsFront a b text → AppendsFront a b (text ++ more)
front_longer a b text more f =
    (f.0, f.1 ++ more, ap (λ l. l ++ more) f.2 ∙ append_assoc f.0 f.1 more, f.3)

-- more bytes come into the block
pub text_gathered : (start : Option (List ℕ)) (text : List ℕ) (fault : Option StreamError) (now : Option (List ℕ))
    (block bytes : List ℕ) → HasText start text fault now block
    → HasText start (text ++ bytes) fault now (block ++ bytes)
text_gathered start text None now block bytes h =
    (h.0, h.1, ap (λ l. l ++ bytes) h.2 ∙ append_assoc h.0 block bytes)
text_gathered start text (Some e) now block bytes h = front_longer start now text bytes h

-- what was in the block is sent
pub text_sent : (start : Option (List ℕ)) (text : List ℕ) (fault fault' : Option StreamError)
    (now now' : Option (List ℕ)) (block : List ℕ) → SendsBytes fault fault' now now' block
    → HasText start text fault now block → HasText start text fault' now' []
text_sent start text None None now now' block sends h =
    (h.0 ++ block, Appends-trans _ _ _ _ _ h.1 sends, h.2 ∙ sym (append-nil (h.0 ++ block)))
text_sent start text None (Some e) now now' block sends h = (
  h.0 ++ sends.0,
  sends.1,
  h.2 ∙ (ap (λ l. h.0 ++ l) sends.2 ∙ sym (append_assoc h.0 sends.0 sends.1)),
  Appends-trans _ _ _ _ _ h.1 sends.3,
)
text_sent start text (Some e) fault' now now' block sends h =
    subst (λ f. HasText start text f now' []) (sym sends.0) (subst (λ n. AppendsFront start n text) (sym sends.1) h)

-- a fault leaves a front
pub text_front : (start : Option (List ℕ)) (text : List ℕ) (fault : Option StreamError) (now : Option (List ℕ))
    (block : List ℕ) → HasText start text fault now block → AppendsFront start now text
text_front start text None now block h = (h.0, block, h.2, h.1)
text_front start text (Some e) now block h = h

-- a failure stays
pub sends_failed : (fault fault' : Option StreamError) (now now' : Option (List ℕ)) (bytes : List ℕ)
    → SendsBytes fault fault' now now' bytes → fault ≡ Some Memory → fault' ≡ Some Memory
sends_failed None fault' now now' bytes sends h = absurd (cc)
sends_failed (Some e) fault' now now' bytes sends h = sends.0 ∙ h
