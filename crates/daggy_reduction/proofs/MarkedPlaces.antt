-- Edges marked by the bits of places in the row of a block.
use Rattle.std.proofs.Common.{◌≡◌, ℕ, suc, ◌+◌, ◌-◌, ◌<◌, ◌≤◌, Bool, true, false, ◌&&◌, ◌↔◌, inl, inr, List}
use Rattle.std.proofs.Common.{get_or, refl, sym, ◌∙◌, arith}
use Rattle.std.proofs.Math.Dec.{leb, ltb}
use Rattle.std.proofs.lemmas.Bool.{false≢true}
use Rattle.std.proofs.lemmas.Bool.Decides.{leb_tells}
use Rattle.daggy_search.specs.declared.arcs.Arc.{Arc}
use Rattle.daggy_search.specs.declared.arcs.Segment.{Segment}
use Rattle.daggy_reduction.specs.Blocks.{is_in_row, HasBits, IsIn, HasArcTo, MarksArcs, AreLeft}

all_three : (a b c : Bool) → (a && (b && c)) ≡ true → (a ≡ true) × (b ≡ true) × (c ≡ true)
all_three true true true h = (refl, refl, refl)
all_three true true false h = absurd (false≢true h)
all_three true false c h = absurd (false≢true h)
all_three false b c h = absurd (false≢true h)

three : (a b c : Bool) → a ≡ true → b ≡ true → c ≡ true → (a && (b && c)) ≡ true
three true true true x y z = refl
three true true false x y z = absurd (false≢true z)
three true false c x y z = absurd (false≢true y)
three false b c x y z = absurd (false≢true x)

at_most : (a b : ℕ) → leb a b ≡ true → a ≤ b
at_most a b h = elim (leb_tells a b) [ inl is ↦ is.1 | inr less ↦ absurd (false≢true (sym less.0 ∙ h)) ]

tests_at_most : (a b : ℕ) → a ≤ b → leb a b ≡ true
tests_at_most a b h = elim (leb_tells a b) [ inl is ↦ is.0 | inr less ↦ absurd (omega (arith, less.1, h)) ]

-- the place is one of the block, and its bit is set
pub in_row_means : (low high : ℕ) (row : List Bool) (p : ℕ)
    → (is_in_row low high row p ≡ true) ↔ ((low ≤ p) × (p < high) × (get_or row (p - low) false ≡ true))
in_row_means low high row p = (
  λ h.
      (let a = all_three (leb low p) (ltb p high) (get_or row (p - low) false) h in
      (at_most low p a.0, (let s = at_most (suc p) high a.1 in omega (arith, s)), a.2)),
  λ (from, till, has).
      three (leb low p) (ltb p high) (get_or row (p - low) false) (tests_at_most low p from)
      (tests_at_most (suc p) high (omega (arith, till))) has,
)

-- where no arc has its bit, none is marked
pub none_marked : {I : Type 0} (arcs : List (Arc I)) (s : Segment) (low high : ℕ) (direct indirect : List Bool)
    → HasBits low high (λ i. HasArcTo arcs s (λ p. p ≡ low + i)) direct
    → ((i : ℕ) → get_or indirect i false ≡ true → get_or direct i false ≡ false)
    → (a : Arc I) → IsIn arcs s a → is_in_row low high indirect a.place ≡ false
none_marked arcs s low high direct indirect children apart a inside =
    go (is_in_row low high indirect a.place) refl
  where
    go : (b : Bool) → is_in_row low high indirect a.place ≡ b → is_in_row low high indirect a.place ≡ false
    go false m = m
    go true m =
        let h = (in_row_means low high indirect a.place).0 m in
        let place_is : a.place ≡ low + (a.place - low) = omega (arith, h.0) in
        let child = (children (a.place - low) (omega (arith, place_is, h.1))).1 (a, inside, place_is) in
        absurd (false≢true (sym (apart (a.place - low) h.2) ∙ child))

-- so no edge is to be flagged, and no arc to be taken out
pub none_to_flag : {I : Type 0} (number : I → ℕ) (end : ℕ) (arcs : List (Arc I)) (s : Segment) (mark : ℕ → Bool)
    → s.begin ≤ s.end → ((a : Arc I) → IsIn arcs s a → mark a.place ≡ false) → (flags : List ℕ)
    → MarksArcs end number arcs s mark flags flags × AreLeft mark s s.end arcs arcs
none_to_flag number end arcs s mark ordered none flags = (
  λ e. (
    λ f. inl f,
    λ t. elim t [ inl f ↦ f | inr (a, inside, _, m) ↦ absurd (false≢true (sym (none a inside) ∙ m)) ],
  ),
  record {
    from = ordered;
    till = omega arith;
    exact = λ a. (λ inside. (inside, none a inside), λ (inside, m). inside);
    others = λ j a out. refl;
    length_kept = refl;
  },
)
