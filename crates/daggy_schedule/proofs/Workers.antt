-- Which node workers take next.
use Rattle.std.proofs.Common.{◌≢◌, ◌≡◌, ℕ, ◌<◌, ◌≤◌, ◌⊎◌, inl, inr, List, [], ◌∷◌, refl, IsPermutation, arith, Contains}
use Rattle.std.proofs.lemmas.List.Sorted.{IsPermutation-map, IsPermutation-sym}
use Rattle.std.proofs.lemmas.List.Elements.{All-from_recursion, All-contains}
use Rattle.std.proofs.lemmas.Cmp.{ranked}
use Rattle.std.specs.Ordering.{nat_cmp, MatchOrdering}
use Rattle.std.specs.List.{AllByRecursion}
use Rattle.std.specs.declared.cmp.Ordering.{Ordering}
use Rattle.std.specs.declared.cmp.Ordering.TheVariants.{Less, Equal, Greater}
use Rattle.daggy_base.proofs.Lists.{mem_contains}
use Rattle.daggy_schedule.specs.LeastFirst.{Precedes, nodes_of}
use Rattle.daggy_schedule.proofs.Ordering.{mem_shuffled}

pub taken_contains : (ps left : List (ℕ × ℕ)) (k n : ℕ) → IsPermutation ps ((k, n) ∷ left) → Contains (nodes_of ps) n
taken_contains ps left k n perm =
    mem_contains (nodes_of ps) n (mem_shuffled (n ∷ nodes_of left) (nodes_of ps) n (IsPermutation-sym _ _
    (IsPermutation-map (λ p. p.1) ps ((k, n) ∷ left) perm)) (inl refl))

pub first_low : (p : ℕ × ℕ) (ps : List (ℕ × ℕ)) → AllByRecursion (Precedes nat_cmp p) ps → AllByRecursion (λ q. p.0 ≤ q.0) ps
first_low p [] h = tt
first_low p (q ∷ qs) h = (low (nat_cmp p.0 q.0) (ranked p.0 q.0 _ refl) h.0, first_low p qs h.1)
  where
    low : (r : Ordering) → MatchOrdering r (p.0 < q.0) (p.0 ≡ q.0) (q.0 < p.0)
        → (r ≡ Less) ⊎ ((r ≡ Equal) × (p.1 ≤ q.1)) → p.0 ≤ q.0
    low Less is c = omega (arith, is)
    low Equal is c = omega (arith, is)
    low Greater is c = elim c [ inl e ↦ absurd cc | inr e ↦ (let f = e.0 in absurd cc) ]

-- if the first to finish does not do so now, none does
pub all_later : (now finish : ℕ) (ps : List (ℕ × ℕ)) → AllByRecursion (λ p. now ≤ p.0) ps
    → (n : ℕ) × Contains ps (finish, n) × AllByRecursion (Precedes nat_cmp (finish, n)) ps → finish ≢ now
    → AllByRecursion (λ p. now < p.0) ps
all_later now finish ps ends first other =
    let low : now ≤ finish =
    All-contains (λ (p : ℕ × ℕ). now ≤ p.0) ps (finish, first.0)
    (All-from_recursion (λ (p : ℕ × ℕ). now ≤ p.0) ps ends) first.1 in
    more ps (first_low (finish, first.0) ps first.2) low
  where
    more : (qs : List (ℕ × ℕ)) → AllByRecursion (λ q. finish ≤ q.0) qs → now ≤ finish
        → AllByRecursion (λ q. now < q.0) qs
    more [] h low = tt
    more (q ∷ qs) h low = (omega (arith, h.0, low, other), more qs h.1 low)
