-- What a heap of candidates says of the one that is taken.
use Rattle.std.proofs.Common.{length, get_or, arith, ◌<◌, Contains, ◌≡◌, ℕ, false, inl, inr, List, [], ◌∷◌, refl, sym, ap, ◌∙◌}
use Rattle.std.proofs.lemmas.Bool.{false≢true}
use Rattle.std.proofs.HeapSift.{at_most}
use Rattle.std.specs.Cmp.{IsTotalOrder}
use Rattle.std.specs.List.{AllByRecursion}
use Rattle.std.specs.Ordering.{is_lt, nat_cmp, ordering_then, ordering_reverse}
use Rattle.std.specs.BinaryHeap.{IsUpperBound}
use Rattle.std.specs.declared.cmp.Ordering.{Ordering}
use Rattle.std.specs.declared.cmp.Ordering.TheVariants.{Less, Equal, Greater}
use Rattle.std.specs.declared.cmp.Reverse.{Reverse}
use Rattle.daggy_schedule.specs.LeastFirst.{Precedes}
use Rattle.daggy_schedule.specs.Entries.{entries, turned}

module _ {K I : Type 0} {by_key : K → K → Ordering} (total : IsTotalOrder by_key) (number : I → ℕ) where
  comes_first : (x y : Reverse (K × I)) → is_lt (turned by_key number x y) ≡ false
      → Precedes by_key (x.0.0, number x.0.1) (y.0.0, number y.0.1)
  comes_first x y h = by (by_key y.0.0 x.0.0) refl
    where
      by : (r : Ordering) → by_key y.0.0 x.0.0 ≡ r → Precedes by_key (x.0.0, number x.0.1) (y.0.0, number y.0.1)
      by Less is =
          absurd (false≢true (sym h ∙ ap (λ z. is_lt (ordering_then z (nat_cmp (number y.0.1) (number x.0.1)))) is))
      by Equal is =
          let low : is_lt (nat_cmp (number y.0.1) (number x.0.1)) ≡ false =
          ap (λ z. is_lt (ordering_then z (nat_cmp (number y.0.1) (number x.0.1)))) (sym is) ∙ h in
          inr (total.antisymm x.0.0 y.0.0 ∙ ap ordering_reverse is, at_most (number y.0.1) (number x.0.1) low)
      by Greater is = inl (total.antisymm x.0.0 y.0.0 ∙ ap ordering_reverse is)

  pub first_of_all : (x : Reverse (K × I)) (ys : List (Reverse (K × I))) → IsUpperBound (turned by_key number) x ys
      → AllByRecursion (Precedes by_key (x.0.0, number x.0.1)) (entries number ys)
  first_of_all x [] h = tt
  first_of_all x (y ∷ ys) h = (comes_first x y h.0, first_of_all x ys h.1)

-- the first of the entries
pub first_entry : {K I : Type 0} (number : I → ℕ) (items : List (Reverse (K × I))) (r : Reverse (K × I)) → 0 < length items
    → r ≡ get_or items 0 r → Contains (entries number items) (r.0.0, number r.0.1)
first_entry {K} {I} number (x ∷ items) r low is =
    let entry : Reverse (K × I) → K × ℕ = λ z. (z.0.0, number z.0.1) in (0, omega arith, ap entry (sym is))
first_entry number [] r low is = absurd (omega (arith, low))
