-- Numbers in words.
use Rattle.std.specs.Prelude.{ℕ, ◌+◌, ◌-◌, ◌*◌, ◌==◌, ◌&&◌, nat_le, Bool, Option, Some, None, List, [], ◌∷◌, length, ℤ}
use Rattle.std.specs.Prelude.{pos, neg_ℤ, if◌then◌else◌}
use Rattle.std.specs.Option.{option_map}

-- whether a byte is one of the digits 0 to 9
abbrev pub is_digit : ℕ → Bool
is_digit b = nat_le 48 b && nat_le b 57

-- n followed by these digits, as one number
abbrev pub number_after : ℕ → List ℕ → Option ℕ
number_after n [] = Some n
number_after n (b ∷ bytes) = if is_digit b then number_after (n * 10 + (b - 48)) bytes else None

-- the number in a word of one to `most` digits
abbrev pub number_of : (most : ℕ) → List ℕ → Option ℕ
number_of most word = if nat_le 1 (length word) && nat_le (length word) most then number_after 0 word else None

-- a number, if there is one and it is at most the limit
abbrev pub at_most : (limit : ℕ) → Option ℕ → Option ℕ
at_most limit None = None
at_most limit (Some n) = if nat_le n limit then Some n else None

-- an index: one to ten digits, at most 2^32 - 1
abbrev pub index_of : List ℕ → Option ℕ
index_of word = at_most 4294967295 (number_of 10 word)

-- a weight: an optional minus sign and one to nineteen digits, within a signed 64-bit integer
abbrev pub weight_of : List ℕ → Option ℤ
weight_of [] = None
weight_of (b ∷ bytes) =
    if b == 45
    then option_map (λ n. neg_ℤ (pos n)) (at_most 9223372036854775808 (number_of 19 bytes))
    else option_map (λ n. pos n) (at_most 9223372036854775807 (number_of 19 (b ∷ bytes)))
