-- The tokens of numbers, texts and the like.
use Rattle.std.proofs.Common.{◌≡◌, ℕ, ◌^◌, ◌<◌, ℤ, pos, negsuc, List, [], ◌∷◌, Bool, true, Some, Float, refl}
use Rattle.std.proofs.Common.{ap, arith, option_map, decimal, int_lt, SFits, w64}
use Rattle.std.specs.Float.{float_is_finite, binary64}
use Rattle.std.specs.Fmt.{signed_decimal}
use Rattle.ryu.specs.Parse.{parse_float}
use Rattle.ryu.specs.Plain.{IsPlusNumber}
use Rattle.json.specs.Token as token
use Rattle.json.specs.Json as json
use Rattle.serde_json.specs.Data.{Num, unsigned, negative, float, null, boolean, number, string}
use Rattle.serde_json.specs.Read.{number_of}
use Rattle.serde_json.specs.Written.{unless_float, number_text}
use Rattle.serde_json.proofs.Numbers.{number_of-decimal, number_of-negative, number_of-plus}
use Rattle.serde_json.proofs.Texts.{unless_float-number_of}
use Rattle.daggy_json.specs.Passing.{AreTokensOf}

pub null_tokens : AreTokensOf null (token.null ∷ [])
null_tokens = (json.null, refl, refl, omega arith, refl)

pub bool_tokens : (b : Bool) → AreTokensOf (boolean b) (token.boolean b ∷ [])
bool_tokens b = (json.boolean b, refl, refl, omega arith, refl)

pub string_tokens : (s : List ℕ) → AreTokensOf (string s) (token.string s ∷ [])
string_tokens s = (json.string s, refl, refl, omega arith, refl)

pub number_tokens : (n : Num) (s : List ℕ) → number_of s ≡ Some n → unless_float s ≡ number_text n
    → AreTokensOf (number n) (token.number s ∷ [])
number_tokens n s reads text = (json.number s, refl, ap (option_map number) reads, omega arith, ap json.number text)

pub whole_tokens : (n : ℕ) → n < 2 ^ 64 → AreTokensOf (number (unsigned n)) (token.number (decimal n) ∷ [])
whole_tokens n low =
    let reads = number_of-decimal n low in
    number_tokens (unsigned n) (decimal n) reads (unless_float-number_of (decimal n) (unsigned n) reads)

below_zero : (z : ℤ) → int_lt z (pos 0) ≡ true → SFits w64 z → number_of (signed_decimal z) ≡ Some (negative z)
below_zero (pos n) below fits = absurd (grind arith)
below_zero (negsuc n) below fits = number_of-negative n (grind arith)

pub negative_tokens : (z : ℤ) → int_lt z (pos 0) ≡ true → SFits w64 z
    → AreTokensOf (number (negative z)) (token.number (signed_decimal z) ∷ [])
negative_tokens z below fits =
    let reads = below_zero z below fits in
    number_tokens (negative z) (signed_decimal z) reads
    (unless_float-number_of (signed_decimal z) (negative z) reads)

pub float_tokens : (whole_digits leading_zeros : ℕ) (s : List ℕ) (x : Float)
    → IsPlusNumber whole_digits leading_zeros s → parse_float binary64 s ≡ Some x → float_is_finite x ≡ true
    → AreTokensOf (number (float x)) (token.number s ∷ [])
float_tokens whole_digits leading_zeros s x plus parses finite =
    let reads = number_of-plus whole_digits leading_zeros s x plus parses finite in
    number_tokens (float x) s reads (unless_float-number_of s (float x) reads)
