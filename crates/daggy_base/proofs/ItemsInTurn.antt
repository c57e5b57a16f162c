-- A list whose elements are taken in turn.
use Rattle.std.proofs.Common.{◌≡◌, ◌<◌, List, [], ◌∷◌, ◌++◌, length, ap, ◌∙◌, arith, append_assoc}
use Rattle.std.proofs.lemmas.List.{length-append}

module _ {A : Type 0} (made : List A) (x : A) (rest whole : List A) (is : made ++ x ∷ rest ≡ whole) where
  pub one_left : length made < length whole
  one_left = omega (arith, ap length is, length-append made (x ∷ rest))

  pub one_more : (new : List A) → new ≡ made ++ x ∷ [] → new ++ rest ≡ whole
  one_more new pushed = ap (λ l. l ++ rest) pushed ∙ append_assoc made (x ∷ []) rest ∙ is
