-- Text between quotes: what `daggy_formats` writes is what the crate `csv` would write.
use Rattle.std.proofs.Common.{◌≡◌, ℕ, ◌+◌, ◌/◌, ◌%◌, ◌≤◌, ◌==◌, false, nat_lt, List, [], ◌∷◌, ◌++◌, IsUtf8, chars, encode_utf8_all, refl, sym, ap, subst, ◌∙◌, arith, inl, inr}
use Rattle.std.proofs.lemmas.Bool.{cases_Bool, eqb-true, ne_eqb}
use Rattle.std.proofs.lemmas.Str.{encodes-chars}
use Rattle.std.specs.Char.{encode_utf8}
use Rattle.std.specs.List.{flat_map}
use Rattle.csv.specs.Writing.{default_writer, escaped}
use Rattle.daggy_formats.specs.Escapes.{csv_char, escaped as escaped_by}

not_quote : (b : ℕ) → 128 ≤ b → (b == 34) ≡ false
not_quote b h = ne_eqb b 34 (λ e. omega (arith, e, h))

plain_byte : (b : ℕ) (rest : List ℕ) → (b == 34) ≡ false → escaped default_writer (b ∷ rest) ≡ b ∷ escaped default_writer rest
unfolding escaped
plain_byte b rest n = rw n refl

-- a character that is no quote
plain_char : (c : ℕ) (rest : List ℕ) → (c == 34) ≡ false
    → escaped default_writer (encode_utf8 c ++ rest) ≡ encode_utf8 c ++ escaped default_writer rest
unfolding encode_utf8
plain_char c rest other = elim (cases_Bool (nat_lt c 128)) [
  | inl one ↦ rw one (plain_byte c rest other)
  | inr more ↦
      elim (cases_Bool (nat_lt c 2048)) [
        | inl two ↦
            rw (more, two)
            (plain_byte (192 + c / 64) _ (not_quote _ (omega arith))
            ∙ ap (λ l. (192 + c / 64) ∷ l) (plain_byte (128 + c % 64) rest (not_quote _ (omega arith))))
        | inr longer ↦
            elim (cases_Bool (nat_lt c 65536)) [
              | inl three ↦
                  rw (more, longer, three)
                  (plain_byte (224 + c / 4096) _ (not_quote _ (omega arith))
                  ∙ ap (λ l. (224 + c / 4096) ∷ l)
                  (plain_byte (128 + (c / 64) % 64) _ (not_quote _ (omega arith))
                  ∙ ap (λ l. (128 + (c / 64) % 64) ∷ l) (plain_byte (128 + c % 64) rest (not_quote _ (omega arith)))))
              | inr four ↦
                  rw (more, longer, four)
                  (plain_byte (240 + c / 262144) _ (not_quote _ (omega arith))
                  ∙ ap (λ l. (240 + c / 262144) ∷ l)
                  (plain_byte (128 + (c / 4096) % 64) _ (not_quote _ (omega arith))
                  ∙ ap (λ l. (128 + (c / 4096) % 64) ∷ l)
                  (plain_byte (128 + (c / 64) % 64) _ (not_quote _ (omega arith))
                  ∙ ap (λ l. (128 + (c / 64) % 64) ∷ l) (plain_byte (128 + c % 64) rest (not_quote _ (omega arith))))))
            ]
      ]
]

characters : (cs : List ℕ) → encode_utf8_all (flat_map csv_char cs) ≡ escaped default_writer (encode_utf8_all cs)
unfolding escaped encode_utf8
characters [] = refl
characters (c ∷ cs) = elim (cases_Bool (c == 34)) [
  | inl same ↦
      subst (λ (z : ℕ). encode_utf8_all (flat_map csv_char (z ∷ cs)) ≡ escaped default_writer (encode_utf8_all (z ∷ cs))) (sym (eqb-true c 34 same))
      (ap (λ l. 34 ∷ 34 ∷ l) (characters cs))
  | inr other ↦
      let plain : csv_char c ≡ c ∷ [] = rw other refl in
      ap (λ l. encode_utf8_all (l ++ flat_map csv_char cs)) plain
      ∙ ap (λ l. encode_utf8 c ++ l) (characters cs)
      ∙ sym (plain_char c (encode_utf8_all cs) other)
]

pub escaped_same : (text : List ℕ) → IsUtf8 text → escaped_by csv_char text ≡ escaped default_writer text
unfolding escaped_by
escaped_same text utf8 = characters (chars text) ∙ ap (escaped default_writer) (encodes-chars text utf8)
