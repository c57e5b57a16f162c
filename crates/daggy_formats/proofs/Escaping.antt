-- What a value displays through an escaper.
use Rattle.std.proofs.Common.{◌≡◌, ℕ, List, [], ◌∷◌, ◌++◌, chars, encode_utf8_all, ◌∙◌, ap, sym, subst, rules, IsUtf8}
use Rattle.std.proofs.lemmas.Grind.{flat_map-append}
use Rattle.std.proofs.lemmas.Str.{encodes-append, chars-append, chars-nil}
use Rattle.std.proofs.Output.{has_written_append, has_written_of_eq, writes_in_calls_nil}
use Rattle.std.specs.Prelude.{Option, Some, None, Result, Ok, Err, OnOk}
use Rattle.std.specs.declared.fmt.Error.{Error}
use Rattle.std.specs.declared.fmt.Formatter.{Formatter}
use Rattle.std.specs.Fmt.{IsPlainFormatter, HasWritten, WritesText, DisplaysOnOk}
use Rattle.std.specs.List.{flat_map, FoldsTo, concat}
use Rattle.std.specs.Option.{option_map}
use Rattle.daggy_formats.specs.Escapes.{escaped}
use Rattle.daggy_formats.specs.declared.escaper.Escaper.{Escaper}

escaped-nil : (char : ℕ → List ℕ) → escaped char [] ≡ []
unfolding escaped
escaped-nil char = ap (λ cs. encode_utf8_all (flat_map char cs)) chars-nil

escaped-append : (char : ℕ → List ℕ) (xs ys : List ℕ) → IsUtf8 xs
    → escaped char (xs ++ ys) ≡ escaped char xs ++ escaped char ys
unfolding escaped
escaped-append char xs ys utf8 =
    ap (λ cs. encode_utf8_all (flat_map char cs)) (chars-append xs ys utf8)
    ∙ ap encode_utf8_all (flat_map-append char (chars xs) (chars ys))
    ∙ encodes-append _ _

module _ (char : ℕ → List ℕ) {X W : Type 0} (took : W → List ℕ → W → Type 0) where
  -- what `write_str_gives` of an escaper says
  abbrev pub EscaperTook : Escaper X W → List ℕ → Escaper X W → Type 0
  EscaperTook s bs t = (t.out.ghost_name ≡ s.out.ghost_name) × IsUtf8 bs
      × (IsPlainFormatter s.out.now → HasWritten took s.out.now (escaped char bs) t.out.now)

  escaped_calls : (s : Escaper X W) (xs : List (List ℕ)) (t : Escaper X W) → FoldsTo EscaperTook s xs t
      → (t.out.ghost_name ≡ s.out.ghost_name) × (IsPlainFormatter s.out.now → HasWritten took s.out.now (escaped char (concat xs)) t.out.now)
  escaped_calls s [] t p = (
    ap (λ (x : Escaper X W). x.out.ghost_name) (sym p),
    λ plain. subst (λ (x : Escaper X W). HasWritten took s.out.now (escaped char []) x.out.now) p
        (has_written_of_eq took _ _ _ _ (sym (escaped-nil char)) (record { wrote = writes_in_calls_nil took _; plain = plain })),
  )
  escaped_calls s (x ∷ xs) t p =
      let first = p.1 in
      let rest = escaped_calls p.0 xs t p.2 in (
        rest.0 ∙ first.0,
        λ plain.
            let one = first.2 plain in
            has_written_of_eq took _ _ _ _ (sym (escaped-append char x (concat xs) first.1))
            (has_written_append took _ _ _ _ _ one (rest.1 one.plain)),
      )

  pub displays_escaped : (s t : Escaper X W) (v : Formatter W) (r : Result (Unit {0}) Error) (o : Option (List ℕ))
      → (t.out.ghost_name ≡ s.out.ghost_name → v ≡ t.out.now)
      → OnOk r (WritesText EscaperTook s o t)
      → DisplaysOnOk took s.out.now r (option_map (escaped char) o) v
  displays_escaped s t v r None back wrote = tt
  displays_escaped s t v (Err e) (Some bs) back wrote = λ plain ok. search rules
  displays_escaped s t v (Ok x) (Some bs) back wrote = λ plain ok.
      let all = escaped_calls s wrote.parts t wrote.calls in
      subst (λ g. HasWritten took s.out.now (escaped char bs) g) (sym (back all.0))
      (has_written_of_eq took _ _ _ _ (ap (escaped char) wrote.whole) (all.1 plain))
