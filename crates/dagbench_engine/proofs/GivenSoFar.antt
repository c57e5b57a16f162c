-- What has been given so far of the remaining bytes.
use Rattle.std.proofs.Common.{◌≡◌, ℕ, List, [], ◌++◌, Option, IfSome, sym, ap, ◌∙◌, append_assoc, append-nil}
use Rattle.std.specs.Io.KnownBytes.{Consumes, IsAtEnd}
use Rattle.std.proofs.KnownBytes.{Consumes-nil, Consumes-trans, Consumes-all}

-- so far these bytes were given, and those still to come lost them
abbrev pub IsGiven : (left_old left : Option (List ℕ)) (given_old given : List ℕ) → Type 0
IsGiven left_old left given_old given = (bytes : List ℕ) × (given ≡ given_old ++ bytes) × Consumes left_old left bytes

pub none_given : (left : Option (List ℕ)) (given : List ℕ) → IsGiven left left given given
none_given left given = ([], sym (append-nil given), Consumes-nil left)

pub more_given : (left_old left left_new : Option (List ℕ)) (given_old given given_new more : List ℕ)
    → IsGiven left_old left given_old given → given_new ≡ given ++ more → Consumes left left_new more
    → IsGiven left_old left_new given_old given_new
more_given left_old left left_new given_old given given_new more (bytes, is, lost) gives loses = (
  bytes ++ more,
  gives ∙ (ap (λ g. g ++ more) is ∙ append_assoc given_old bytes more),
  Consumes-trans left_old left left_new bytes more lost loses,
)

-- with nothing left all was given
pub all_given : (left_old left : Option (List ℕ)) (given_old given : List ℕ)
    → IsGiven left_old left given_old given → IsAtEnd left → IfSome left_old (λ input. given ≡ given_old ++ input)
all_given left_old left given_old given (bytes, is, lost) at_end =
    Consumes-all left_old left bytes given_old given lost at_end is
