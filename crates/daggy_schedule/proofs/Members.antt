-- The members of a list, by a test and by a fact.
use Rattle.std.proofs.Common.{◌≡◌, ℕ, Bool, true, false, not, ◌||◌, ◌&&◌, ◌⊎◌, inl, inr, List, [], ◌∷◌, eqb, refl, sym, ap, ◌∙◌}
use Rattle.std.proofs.Common.{Contains}
use Rattle.std.proofs.lemmas.Bool.{eq-eqb, eqb-true, false≢true}
use Rattle.daggy_base.proofs.Lists.{Mem, Unique, mem_contains, contains_mem}
use Rattle.daggy_schedule.specs.Work.{is_among, are_distinct}

either : (a b : Bool) → (a || b) ≡ true → (a ≡ true) ⊎ (b ≡ true)
either true b h = inl refl
either false b h = inr h

or_true : (a : Bool) → (a || true) ≡ true
or_true true = refl
or_true false = refl

both : (a b : Bool) → (a && b) ≡ true → (a ≡ true) × (b ≡ true)
both true b h = (refl, h)
both false b h = absurd (false≢true h)

among_mem : (xs : List ℕ) (x : ℕ) → is_among xs x ≡ true → Mem x xs
among_mem [] x h = absurd (false≢true h)
among_mem (y ∷ ys) x h =
    elim (either (eqb y x) (is_among ys x) h) [
      | inl here ↦ inl (sym (eqb-true y x here))
      | inr there ↦ inr (among_mem ys x there)
    ]

mem_among : (xs : List ℕ) (x : ℕ) → Mem x xs → is_among xs x ≡ true
mem_among [] x m = absurd m
mem_among (y ∷ ys) x m =
    elim m [
      | inl same ↦ ap (λ b. b || is_among ys x) (eq-eqb y x (sym same))
      | inr there ↦ ap (λ b. eqb y x || b) (mem_among ys x there) ∙ or_true (eqb y x)
    ]

pub among_in : (xs : List ℕ) (x : ℕ) → Contains xs x → is_among xs x ≡ true
among_in xs x c = mem_among xs x (contains_mem xs x c)

pub among_out : (xs : List ℕ) (x : ℕ) → is_among xs x ≡ true → Contains xs x
among_out xs x h = mem_contains xs x (among_mem xs x h)

pub distinct_unique : (xs : List ℕ) → are_distinct xs ≡ true → Unique xs
distinct_unique [] h = tt
distinct_unique (x ∷ xs) h =
    let parts = both (not (is_among xs x)) (are_distinct xs) h in (
      λ m. false≢true (ap not (sym (mem_among xs x m)) ∙ parts.0),
      distinct_unique xs parts.1,
    )

pub unique_distinct : (xs : List ℕ) → Unique xs → are_distinct xs ≡ true
unique_distinct [] u = refl
unique_distinct (x ∷ xs) u =
    put (is_among xs x) (are_distinct xs) (λ h. u.0 (among_mem xs x h)) (unique_distinct xs u.1)
  where
    put : (a b : Bool) → (a ≡ true → ⊥) → b ≡ true → (not a && b) ≡ true
    put true b none rest = absurd (none refl)
    put false b none rest = rest
