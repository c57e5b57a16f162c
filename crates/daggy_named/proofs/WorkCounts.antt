-- How many nodes a work has not returned yet; when it is over, and none failed; and nodes that are skipped.
use Rattle.std.proofs.Common.{◌≡◌, ◌≢◌, ℕ, zero, suc, ◌+◌, ◌≤◌, ◌↔◌, inl, inr, ◌&&◌, not, Bool, true, false, List}
use Rattle.std.proofs.Common.{[], ◌∷◌, map, length, Option, Some, None, IsSome, is_some, refl, sym, ap, subst, ◌∙◌, arith}
use Rattle.std.proofs.Common.{cond, Contains}
use Rattle.std.specs.Bool.{if◌then◌else◌}
use Rattle.std.specs.Cmp.{both_ways}
use Rattle.std.specs.List.{All, count_by, range_with_len}
use Rattle.std.proofs.lemmas.Bool.{false≢true}
use Rattle.std.proofs.lemmas.Bool.Decides.{nat_tests}
use Rattle.std.proofs.lemmas.List.Sums.{sum_by-cons, count_by-le-length}
use Rattle.daggy_base.specs.Graph.{Graph, HasNode, slot, node_count}
use Rattle.daggy_base.specs.Iterating.{numbered, node_identifiers}
use Rattle.daggy_base.proofs.Lists.{Mem, Unique, mem_contains, contains_mem}
use Rattle.daggy_base.proofs.PathEnds.{reached_exists}
use Rattle.daggy_schedule.specs.Fallible.{FallibleWork, HandsOut, IsOver, IsSkipped, IsUnderWayWithFailures, set_count}
use Rattle.daggy_schedule.specs.Queue.{count_of}
use Rattle.daggy_schedule.specs.Work.{Work, IsIdle, IsUnderWay, is_set, is_among, is_waiting, waiting_count}
use Rattle.daggy_schedule.proofs.Counts.{count_all, count_falls, count_is, count_none, count_zero}
use Rattle.daggy_schedule.proofs.Keeping.{unset_flag}
use Rattle.daggy_schedule.proofs.Members.{among_in, among_out, distinct_unique}
use Rattle.daggy_schedule.proofs.Tallies.{count_apart, set_there}
use Rattle.daggy_named.specs.Working.{remaining_of}
use Rattle.daggy_named.proofs.NamedNodes.{each_member}

-- the indices of the occupied slots, counted from i
abbrev ids : {A : Type 0} → ℕ → List (Option A) → List ℕ
ids i xs = map (λ p. p.0) (numbered i xs)

module _ {A : Type 0} where
  ids_high : (i : ℕ) (xs : List (Option A)) (k : ℕ) → Mem k (ids i xs) → i ≤ k
  ids_high i [] k m = absurd m
  ids_high i (None ∷ xs) k m = omega (arith, ids_high (i + 1) xs k m)
  ids_high i (Some x ∷ xs) k m =
      elim m [ inl is ↦ omega (arith, is) | inr b ↦ omega (arith, ids_high (i + 1) xs k b) ]

  ids_once : (i : ℕ) (xs : List (Option A)) → Unique (ids i xs)
  ids_once i [] = tt
  ids_once i (None ∷ xs) = ids_once (i + 1) xs
  ids_once i (Some x ∷ xs) = (λ m. absurd (omega (arith, ids_high (i + 1) xs i m)), ids_once (i + 1) xs)

  ids_have : (i : ℕ) (xs : List (Option A)) (m : ℕ) → IsSome (slot xs m) → Mem (m + i) (ids i xs)
  ids_have i [] m some = absurd (false≢true some)
  ids_have i (None ∷ xs) zero some = absurd (false≢true some)
  ids_have i (None ∷ xs) (suc m) some =
      subst (λ k. Mem k (ids (i + 1) xs)) (omega arith) (ids_have (i + 1) xs m some)
  ids_have i (Some x ∷ xs) zero some = inl (omega arith)
  ids_have i (Some x ∷ xs) (suc m) some =
      inr (subst (λ k. Mem k (ids (i + 1) xs)) (omega arith) (ids_have (i + 1) xs m some))

  ids_count : (i : ℕ) (xs : List (Option A)) → length (ids i xs) ≡ count_by is_some xs
  ids_count i [] = refl
  ids_count i (None ∷ xs) =
      omega (arith, ids_count (i + 1) xs, sum_by-cons (λ x. cond (is_some x) 1 0) None xs)
  ids_count i (Some x ∷ xs) =
      omega (arith, ids_count (i + 1) xs, sum_by-cons (λ x. cond (is_some x) 1 0) (Some x) xs)

abbrev one : Bool → ℕ
one b = if b then 1 else 0

-- each that passes the first test passes one of the two others
count_sum : (p q r : ℕ → Bool) (xs : List ℕ) → ((n : ℕ) → one (p n) ≡ one (q n) + one (r n))
    → count_of p xs ≡ count_of q xs + count_of r xs
count_sum p q r [] each = refl
count_sum p q r (x ∷ xs) each = omega (arith, each x, count_sum p q r xs each)

module _ {N E : Type 0} (g : Graph N E) where
  node_there : (n : ℕ) → HasNode g n → Mem n (node_identifiers g)
  node_there n has = subst (λ k. Mem k (node_identifiers g)) (omega arith) (ids_have 0 g.nodes n has)

  -- of two tests that differ only at one node, the one that it fails counts one node less
  one_less : (p q : ℕ → Bool) (n : ℕ) → HasNode g n → p n ≡ true → q n ≡ false → ((k : ℕ) → k ≢ n → q k ≡ p k)
      → count_by q (node_identifiers g) + 1 ≡ count_by p (node_identifiers g)
  one_less p q n has passes fails other =
      omega (
        arith,
        count_is p (node_identifiers g),
        count_is q (node_identifiers g),
        count_falls p q n (node_identifiers g) (ids_once 0 g.nodes) (node_there n has) passes fails other,
      )

  pub remaining_low : (work : Work) → remaining_of g work ≤ node_count g
  remaining_low work =
      omega (
        arith,
        count_by-le-length (λ n. not (is_set work.out n)) (node_identifiers g),
        ids_count 0 g.nodes,
      )

  module _ {work : Work} (under : IsUnderWay g work) where
    -- a node that was not returned either is ready or waits
    apart : (among out : Bool) → (among ≡ true → out ≡ false) → one (not out) ≡ one among + one (not among && not out)
    apart true out free = ap (λ b. one (not b)) (free refl)
    apart false out free = omega arith

    all_ready : count_of (is_among work.ready) (node_identifiers g) ≡ length work.ready
    all_ready =
        count_apart (is_among work.ready) (node_identifiers g) work.ready (ids_once 0 g.nodes) (distinct_unique work.ready under.once)
        (λ n among m. contains_mem work.ready n (among_out work.ready n among))
        (λ n among m. node_there n ((under.ready n).0 among).0.0)
        ∙ count_all (is_among work.ready) work.ready (λ n m. among_in work.ready n (mem_contains work.ready n m))

    pub remaining_parts : length work.ready + waiting_count g work ≡ remaining_of g work
    remaining_parts =
        omega (
          arith,
          all_ready,
          count_is (is_waiting work) (node_identifiers g),
          count_is (λ n. not (is_set work.out n)) (node_identifiers g),
          count_sum (λ n. not (is_set work.out n)) (is_among work.ready) (is_waiting work) (node_identifiers g)
              (λ n. apart (is_among work.ready n) (is_set work.out n)
              (λ among. unset_flag work.out n ((under.ready n).0 among).1)),
        )

  -- the first ready node is returned
  module _ {old new : Work} (under : IsUnderWay g old) {n : ℕ} (first : HandsOut n old new) where
    is_ready : is_among old.ready n ≡ true
    is_ready = subst (λ ready. is_among ready n ≡ true) (sym first.first) (grind (arith, nat_tests))

    pub first_exists : HasNode g n
    first_exists = ((under.ready n).0 is_ready).0.0

    others : (k : ℕ) → k ≢ n → is_set new.out k ≡ is_set old.out k
    others k ne =
        both_ways (is_set new.out k) (is_set old.out k)
        (λ h. elim ((first.out k).0 h) [ inl o ↦ o | inr is ↦ absurd (ne is) ])
        (λ h. (first.out k).1 (inl h))

    pub remaining_less : remaining_of g new + 1 ≡ remaining_of g old
    remaining_less =
        one_less (λ k. not (is_set old.out k)) (λ k. not (is_set new.out k)) n first_exists
        (ap not (unset_flag old.out n ((under.ready n).0 is_ready).1)) (ap not ((first.out n).1 (inr refl)))
        (λ k ne. ap not (others k ne))

-- the work is over and none failed if and only if it is idle
module _ (w : FallibleWork) where
  abbrev indices : List ℕ
  indices = range_with_len 0 (length w.failed)

  pub over_idle : IsOver w → set_count w.failed ≡ 0 → IsIdle w.work
  over_idle over none = (over.0, λ n out. over.1 n (out, unfailed n))
    where
      unfailed : (n : ℕ) → is_set w.failed n ≡ true → ⊥
      unfailed n failed =
          false≢true (sym (count_zero (is_set w.failed) indices (sym (count_is (is_set w.failed) indices) ∙ none) n
          (set_there w.failed n failed)) ∙ failed)

  pub idle_none : {N E : Type 0} {g : Graph N E} → IsUnderWayWithFailures g w → IsIdle w.work → set_count w.failed ≡ 0
  idle_none under idle =
      count_is (is_set w.failed) indices
      ∙ count_none (is_set w.failed) indices (λ n m. unset_flag w.failed n (λ failed. idle.1 n (under.failed n failed)))

-- the nodes that are skipped exist
pub skipped_exist : {N E : Type 0} (g : Graph N E) (w : FallibleWork) (nodes : List ℕ)
    → ((n : ℕ) → Contains nodes n ↔ IsSkipped g w n) → All (HasNode g) nodes
skipped_exist g w nodes exact =
    each_member (HasNode g) nodes (λ n there. (let s = (exact n).0 there in reached_exists g s.0.0 n s.0.2))
