-- What a value displays between quotes.
use Rattle.std.proofs.Common.{◌≡◌, ℕ, List, [], ◌∷◌, ◌++◌, chars, encode_utf8_all, ◌∙◌, ap, refl, sym, subst, rules, IsUtf8}
use Rattle.std.proofs.lemmas.List.{append_assoc, append-nil}
use Rattle.std.proofs.lemmas.Str.{encodes-append, chars-append, chars-nil}
use Rattle.std.proofs.Output.{has_written_append, has_written_of_eq, writes_in_calls_nil}
use Rattle.std.specs.Prelude.{Option, Some, None, Result, Ok, Err, OnOk}
use Rattle.std.specs.declared.fmt.Error.{Error}
use Rattle.std.specs.declared.fmt.Formatter.{Formatter}
use Rattle.std.specs.Fmt.{IsPlainFormatter, HasWritten, WritesText, DisplaysOnOk}
use Rattle.std.specs.List.{FoldsTo, concat}
use Rattle.std.specs.Option.{option_map}
use Rattle.daggy_dot.specs.Escapes.{piece, next_left, run, left_after, line_length, quoted}
use Rattle.daggy_dot.specs.declared.escapes.Quoted.{Quoted}

pub run_append : (left : ℕ) (xs ys : List ℕ) → run left (xs ++ ys) ≡ run left xs ++ run (left_after left xs) ys
unfolding run left_after
run_append left [] ys = refl
run_append left (x ∷ xs) ys =
    ap (λ l. piece left x ++ l) (run_append (next_left left) xs ys)
    ∙ sym (append_assoc (piece left x) (run (next_left left) xs) (run (left_after (next_left left) xs) ys))

pub left_append : (left : ℕ) (xs ys : List ℕ) → left_after left (xs ++ ys) ≡ left_after (left_after left xs) ys
unfolding left_after
left_append left [] ys = refl
left_append left (x ∷ xs) ys = left_append (next_left left) xs ys

pub run_none : (left : ℕ) → run left [] ≡ []
unfolding run
run_none left = refl

pub left_none : (left : ℕ) → left_after left [] ≡ left
unfolding left_after
left_none left = refl

pub run_one : (left c : ℕ) → run left (c ∷ []) ≡ piece left c
unfolding run
run_one left c = append-nil (piece left c)

pub left_one : (left c : ℕ) → left_after left (c ∷ []) ≡ next_left left
unfolding left_after
left_one left c = refl

quoted_append : (left : ℕ) (xs ys : List ℕ) → IsUtf8 xs
    → encode_utf8_all (run left (chars (xs ++ ys)))
    ≡ encode_utf8_all (run left (chars xs)) ++ encode_utf8_all (run (left_after left (chars xs)) (chars ys))
quoted_append left xs ys utf8 =
    ap (λ cs. encode_utf8_all (run left cs)) (chars-append xs ys utf8)
    ∙ ap encode_utf8_all (run_append left (chars xs) (chars ys))
    ∙ encodes-append _ _

module _ {W : Type 0} (took : W → List ℕ → W → Type 0) where
  -- what `write_str_gives` of the writer says
  abbrev pub QuotedTook : Quoted W → List ℕ → Quoted W → Type 0
  QuotedTook s bs t = (t.out.ghost_name ≡ s.out.ghost_name) × IsUtf8 bs × (t.left ≡ left_after s.left (chars bs))
      × (IsPlainFormatter s.out.now → HasWritten took s.out.now (encode_utf8_all (run s.left (chars bs))) t.out.now)

  quoted_calls : (s : Quoted W) (xs : List (List ℕ)) (t : Quoted W) → FoldsTo QuotedTook s xs t
      → (t.out.ghost_name ≡ s.out.ghost_name)
      × (IsPlainFormatter s.out.now → HasWritten took s.out.now (encode_utf8_all (run s.left (chars (concat xs)))) t.out.now)
  quoted_calls s [] t p = (
    ap (λ (x : Quoted W). x.out.ghost_name) (sym p),
    λ plain. subst (λ (x : Quoted W). HasWritten took s.out.now (encode_utf8_all (run s.left (chars []))) x.out.now) p
        (has_written_of_eq took _ _ _ _ (sym (ap (λ cs. encode_utf8_all (run s.left cs)) chars-nil ∙ ap encode_utf8_all (run_none s.left)))
        (record { wrote = writes_in_calls_nil took _; plain = plain })),
  )
  quoted_calls s (x ∷ xs) t p =
      let first = p.1 in
      let rest = quoted_calls p.0 xs t p.2 in (
        rest.0 ∙ first.0,
        λ plain.
            let one = first.3 plain in
            let more = subst (λ k. HasWritten took p.0.out.now (encode_utf8_all (run k (chars (concat xs)))) t.out.now)
            first.2 (rest.1 one.plain) in
            has_written_of_eq took _ _ _ _ (sym (quoted_append s.left x (concat xs) first.1))
            (has_written_append took _ _ _ _ _ one more),
      )

  pub displays_quoted : (s t : Quoted W) → s.left ≡ line_length → (v : Formatter W) (r : Result (Unit {0}) Error)
      (o : Option (List ℕ)) → (t.out.ghost_name ≡ s.out.ghost_name → v ≡ t.out.now)
      → OnOk r (WritesText QuotedTook s o t)
      → DisplaysOnOk took s.out.now r (option_map quoted o) v
  unfolding quoted
  displays_quoted s t full v r None back wrote = tt
  displays_quoted s t full v (Err e) (Some bs) back wrote = λ plain ok. search rules
  displays_quoted s t full v (Ok x) (Some bs) back wrote = λ plain ok.
      let all = quoted_calls s wrote.parts t wrote.calls in
      subst (λ g. HasWritten took s.out.now (quoted bs) g) (sym (back all.0))
      (has_written_of_eq took _ _ _ _
      (ap (λ bs. encode_utf8_all (run s.left (chars bs))) wrote.whole ∙ ap (λ k. encode_utf8_all (run k (chars bs))) full)
      (all.1 plain))
