-- How many nodes are in progress, how many wait, and how many failed.
use Rattle.std.proofs.Common.{◌≡◌, ◌≢◌, ℕ, zero, suc, ◌+◌, ◌-◌, ◌<◌, ◌≤◌, ◌&&◌, ◌↔◌, Bool, true, false, not, cond, inl, inr}
use Rattle.std.proofs.Common.{List, [], ◌∷◌, Option, Some, None, length, set, take, drop, refl, sym, ap, subst}
use Rattle.std.proofs.Common.{◌∙◌, arith, is_some}
use Rattle.std.specs.List.{count_by, range_with_len}
use Rattle.std.specs.Bool.{if◌then◌else◌}
use Rattle.std.proofs.lemmas.Bool.{cases_Bool, cases_eq, cases_lt, false≢true}
use Rattle.std.proofs.lemmas.List.{get_or_past, get_or-set_same, get_or-set_other, length-set, length-map, length-take-le}
use Rattle.std.proofs.lemmas.List.FromFn.{length-range_with_len}
use Rattle.std.proofs.lemmas.List.Sums.{sum_by-cons}
use Rattle.daggy_base.specs.Graph.{Graph, HasNode, node_count}
use Rattle.daggy_base.specs.Iterating.{numbered, node_identifiers}
use Rattle.daggy_base.proofs.Lists.{Mem, Unique, mem_contains, contains_mem}
use Rattle.daggy_base.proofs.OutEdgesRead.{below_bound}
use Rattle.daggy_base.proofs.Sorted.{unique_left}
use Rattle.daggy_base.proofs.Lists.{unique_from_distinct}
use Rattle.daggy_schedule.specs.Work.{Work, IsSet, IsOut, IsUnderWay, is_set, is_out, is_among, is_waiting, out_count, waiting_count}
use Rattle.daggy_schedule.specs.Fallible.{FallibleWork, IsOver, is_in_progress, in_progress_count}
use Rattle.daggy_schedule.specs.Queue.{IsKept, IsTallied, count_of}
use Rattle.daggy_schedule.proofs.Counts.{count_same, count_falls, count_rises, count_none, count_zero, count_all, count_most, count_is}
use Rattle.daggy_schedule.proofs.Counts.{less, less_same, less_other}
use Rattle.daggy_schedule.proofs.Members.{among_in, among_out}
use Rattle.daggy_schedule.proofs.Keeping.{by_set, unset_flag, set_more, from_out, from_ready, out_or_ready, once_all, handed_sized}
use Rattle.daggy_schedule.proofs.Starting.{indices_whole, indices_in, in_indices, indices_once}

abbrev one : Bool → ℕ
one b = if b then 1 else 0

-- ---- counts of two tests, and over two lists

both_set : (a b : Bool) → a ≡ true → b ≡ true → (a && b) ≡ true
both_set true b h k = k
both_set false b h k = absurd (false≢true h)

pub first_set : (a b : Bool) → (a && b) ≡ true → a ≡ true
first_set true b h = refl
first_set false b h = absurd (false≢true h)

pub second_set : (a b : Bool) → (a && b) ≡ true → b ≡ true
second_set true b h = h
second_set false b h = absurd (false≢true h)

pub not_set : (b : Bool) → (b ≡ true → ⊥) → not b ≡ true
not_set true h = absurd (h refl)
not_set false h = refl

pub set_not : (b : Bool) → not b ≡ true → b ≡ true → ⊥
set_not true h k = false≢true h
set_not false h k = false≢true k

parted : (a b : Bool) → one a ≡ one (a && b) + one (a && not b)
parted true true = refl
parted true false = refl
parted false b = refl

count_parted : (p q : ℕ → Bool) (xs : List ℕ)
    → count_of p xs ≡ count_of (λ n. p n && q n) xs + count_of (λ n. p n && not (q n)) xs
count_parted p q [] = refl
count_parted p q (x ∷ xs) = omega (arith, parted (p x) (q x), count_parted p q xs)

one_of : (b : Bool) → one b + one (not b) ≡ 1
one_of true = refl
one_of false = refl

count_not : (p : ℕ → Bool) (xs : List ℕ) → count_of p xs + count_of (λ n. not (p n)) xs ≡ length xs
count_not p [] = refl
count_not p (x ∷ xs) = omega (arith, one_of (p x), count_not p xs)

-- what passes in one list is in the other
count_within : (p : ℕ → Bool) (xs ys : List ℕ) → Unique xs → Unique ys → ((n : ℕ) → p n ≡ true → Mem n xs → Mem n ys)
    → count_of p xs ≤ count_of p ys
count_within p [] ys u v within = omega arith
count_within p (x ∷ xs) ys u v within =
    elim (cases_Bool (p x)) [
      | inl passes ↦ (
          let kept : (n : ℕ) → less p x n ≡ true → p n ≡ true = λ n t.
          elim (cases_eq n x) [
            | inl same ↦ absurd (false≢true (sym (less_same p x n same) ∙ t))
            | inr other ↦ sym (less_other p x n other) ∙ t
          ] in
          let apart : (n : ℕ) → Mem n xs → n ≢ x = λ n m same. u.0 (subst (λ (z : ℕ). Mem z xs) same m) in
          omega (
            arith,
            count_within (less p x) xs ys u.1 v (λ n t m. within n (kept n t) (inr m)),
            count_same p (less p x) xs (λ n m. less_other p x n (apart n m)),
            count_falls p (less p x) x ys v (within x passes (inl refl)) passes (less_same p x x refl)
                (λ n d. less_other p x n d),
            ap one passes,
          )
          )
      | inr fails ↦
          omega (arith, ap one fails, count_within p xs ys u.1 v (λ n t m. within n t (inr m)))
    ]

-- what passes is in both lists or in neither
pub count_apart : (p : ℕ → Bool) (xs ys : List ℕ) → Unique xs → Unique ys
    → ((n : ℕ) → p n ≡ true → Mem n xs → Mem n ys) → ((n : ℕ) → p n ≡ true → Mem n ys → Mem n xs)
    → count_of p xs ≡ count_of p ys
count_apart p xs ys u v there back =
    omega (arith, count_within p xs ys u v there, count_within p ys xs v u back)

-- ---- the indices of a list

pub range_from : (a n m : ℕ) → Mem m (range_with_len a n) → (a ≤ m) × (m < a + n)
range_from a zero m h = absurd h
range_from a (suc n) m h =
    elim h [
      | inl same ↦ (omega (arith, same), omega (arith, same))
      | inr rest ↦ (let p = range_from (a + 1) n m rest in (omega (arith, p.0), omega (arith, p.1)))
    ]

pub range_has : (a n m : ℕ) → a ≤ m → m < a + n → Mem m (range_with_len a n)
range_has a zero m low high = absurd (omega (arith, low, high))
range_has a (suc n) m low high =
    elim (cases_eq m a) [
      | inl same ↦ inl same
      | inr other ↦ inr (range_has (a + 1) n m (omega (arith, low, other)) (omega (arith, high)))
    ]

range_once : (a n : ℕ) → Unique (range_with_len a n)
range_once a zero = tt
range_once a (suc n) = (λ m. omega (arith, (range_from (a + 1) n a m).0), range_once (a + 1) n)

abbrev indices : List Bool → List ℕ
indices flags = range_with_len 0 (length flags)

pub set_low : (flags : List Bool) (n : ℕ) → IsSet flags n → n < length flags
set_low flags n h =
    elim (cases_lt n (length flags)) [
      | inl low ↦ low
      | inr past ↦ absurd (false≢true (sym (get_or_past flags n false past) ∙ h))
    ]

pub set_there : (flags : List Bool) (n : ℕ) → IsSet flags n → Mem n (indices flags)
set_there flags n h = range_has 0 (length flags) n (omega arith) (omega (arith, set_low flags n h))

-- ---- a ready queue

numbered_count : {A : Type 0} (i : ℕ) (xs : List (Option A)) → length (numbered i xs) ≡ count_by is_some xs
numbered_count i [] = refl
numbered_count {A} i (None ∷ xs) =
    omega (arith, numbered_count (i + 1) xs, sum_by-cons (λ (z : Option A). cond (is_some z) 1 0) None xs)
numbered_count {A} i (Some x ∷ xs) =
    omega (arith, numbered_count (i + 1) xs, sum_by-cons (λ (z : Option A). cond (is_some z) 1 0) (Some x) xs)

module _ {N E : Type 0} (g : Graph N E) where
  nodes_once : Unique (node_identifiers g)
  nodes_once = subst (λ (z : List ℕ). Unique z) (indices_whole g _ refl) (indices_once g.nodes _)

  node_there : (n : ℕ) → HasNode g n → Mem n (node_identifiers g)
  node_there n h =
      subst (λ (z : List ℕ). Mem n z) (indices_whole g _ refl) (in_indices g.nodes _ n (below_bound g.nodes n h) h)

  there_node : (n : ℕ) → Mem n (node_identifiers g) → HasNode g n
  there_node n m =
      (indices_in g.nodes _ n (subst (λ (z : List ℕ). Mem n z) (sym (indices_whole g _ refl)) m)).1

  nodes_counted : length (node_identifiers g) ≡ node_count g
  nodes_counted = length-map (numbered 0 g.nodes) (λ p. p.0) ∙ numbered_count 0 g.nodes

module _ {waiting queue : List ℕ} {head tail : ℕ} {out done : List Bool} {finished : ℕ}
    (k : IsKept waiting queue head tail out done finished) where
  abbrev kept : Work
  kept = record { waiting = waiting; ready = drop head (take tail queue); out = out; done = done }

  pub few_finished : finished ≤ head
  few_finished = omega (arith, count_most (is_set done) (take head queue), handed_sized k, k.finished_is)

  handed_once : Unique (take head queue)
  handed_once = unique_left (take head queue) (drop head (take tail queue)) (once_all k)

  handed_set : (n : ℕ) → Mem n (take head queue) → IsSet out n
  handed_set n m = (k.handed n).1 (mem_contains (take head queue) n m)

  set_handed : (n : ℕ) → IsSet out n → Mem n (take head queue)
  set_handed n o = contains_mem (take head queue) n ((k.handed n).0 o)

  done_of_out : (n : ℕ) → Mem n (take head queue) → (is_set out n && is_set done n) ≡ is_set done n
  done_of_out n m = ap (λ z. z && is_set done n) (handed_set n m)

  pub out_counted : head - finished ≡ out_count kept
  out_counted =
      omega (
        arith,
        count_is (is_out kept) (indices out),
        count_apart (is_out kept) (indices out) (take head queue) (range_once 0 (length out)) handed_once
            (λ n t m. set_handed n (first_set (is_set out n) (not (is_set done n)) t))
            (λ n t m. set_there out n (first_set (is_set out n) (not (is_set done n)) t)),
        count_parted (is_set out) (is_set done) (take head queue),
        count_same (is_set done) (λ n. is_set out n && is_set done n) (take head queue) done_of_out,
        count_all (is_set out) (take head queue) handed_set,
        handed_sized k,
        k.finished_is,
      )

  module _ {N E : Type 0} {g : Graph N E} (u : IsUnderWay g kept) where
    waits_not : (n : ℕ) → not (is_waiting kept n) ≡ true → Mem n (take tail queue)
    waits_not n h =
        elim (by_set out n) [
          | inl o ↦ contains_mem (take tail queue) n (from_out k n o)
          | inr other ↦ elim (cases_Bool (is_among kept.ready n)) [
            | inl here ↦ contains_mem (take tail queue) n (from_ready k n (among_out kept.ready n here))
            | inr absent ↦
                absurd (set_not (is_waiting kept n) h
                (both_set (not (is_among kept.ready n)) (not (is_set out n)) (ap not absent) (not_set (is_set out n) other)))
          ]
        ]

    queued_not : (n : ℕ) → Mem n (take tail queue) → not (is_waiting kept n) ≡ true
    queued_not n m =
        not_set (is_waiting kept n) (λ waits.
        elim (out_or_ready k n (mem_contains (take tail queue) n m)) [
          | inl o ↦
              set_not (is_set out n) (second_set (not (is_among kept.ready n)) (not (is_set out n)) waits) o
          | inr here ↦
              set_not (is_among kept.ready n) (first_set (not (is_among kept.ready n)) (not (is_set out n)) waits)
              (among_in kept.ready n here)
        ])

    queued_there : (n : ℕ) → Mem n (take tail queue) → Mem n (node_identifiers g)
    queued_there n m =
        node_there g n (elim (out_or_ready k n (mem_contains (take tail queue) n m)) [
          | inl o ↦ (u.out n o).0
          | inr here ↦ ((u.ready n).0 (among_in kept.ready n here)).0.0
        ])

    queued_counted : count_of (λ n. not (is_waiting kept n)) (node_identifiers g) ≡ tail
    queued_counted =
        count_apart (λ n. not (is_waiting kept n)) (node_identifiers g) (take tail queue) (nodes_once g)
        (unique_from_distinct (take tail queue) k.once) (λ n t m. waits_not n t) (λ n t m. queued_there n m)
        ∙ (count_all (λ n. not (is_waiting kept n)) (take tail queue) queued_not ∙ length-take-le tail queue k.queued_low)

    pub all_counted : tail + waiting_count g kept ≡ node_count g
    all_counted =
        omega (
          arith,
          queued_counted,
          count_is (is_waiting kept) (node_identifiers g),
          count_not (is_waiting kept) (node_identifiers g),
          nodes_counted g,
        )

-- ---- failures

module _ {work : Work} {failed : List Bool} {failures : ℕ} (t : IsTallied work failed failures) where
  abbrev tallied : FallibleWork
  tallied = record { work = work; failed = failed }

  failed_is_out : (n : ℕ) → IsSet failed n → is_out work n ≡ true
  failed_is_out n f =
      let o = t.failed_out n f in both_set (is_set work.out n) (not (is_set work.done n)) o.0 (not_set (is_set work.done n) o.1)

  out_and_failed : (n : ℕ) → (is_out work n && is_set failed n) ≡ is_set failed n
  out_and_failed n =
      elim (cases_Bool (is_set failed n)) [
        | inl f ↦ ap (λ z. z && is_set failed n) (failed_is_out n f)
        | inr other ↦ ap (λ z. is_out work n && z) other ∙ (none (is_out work n) ∙ sym other)
      ]
    where
      none : (b : Bool) → (b && false) ≡ false
      none true = refl
      none false = refl

  pub out_parted : out_count work ≡ failures + in_progress_count tallied
  out_parted =
      omega (
        arith,
        count_is (is_out work) (indices work.out),
        count_is (is_in_progress tallied) (indices work.out),
        count_parted (is_out work) (is_set failed) (indices work.out),
        count_same (is_set failed) (λ n. is_out work n && is_set failed n) (indices work.out) (λ n m. out_and_failed n),
        count_apart (is_set failed) (indices work.out) (indices failed) (range_once 0 (length work.out))
            (range_once 0 (length failed)) (λ n f m. set_there failed n f) (λ n f m. set_there work.out n (t.failed_out n f).0),
        t.failures_is,
      )

  -- one node more fails
  module _ (n : ℕ) (out : IsOut work n) (fresh : IsSet failed n → ⊥) (low : n < length failed) where
    rises : count_of (is_set (set failed n true)) (indices (set failed n true)) ≡ suc failures
    rises =
        ap (λ z. count_of (is_set (set failed n true)) (range_with_len 0 z)) (length-set failed n true)
        ∙ (count_rises (is_set failed) (is_set (set failed n true)) n (indices failed) (range_once 0 (length failed))
        (range_has 0 (length failed) n (omega arith) (omega (arith, low))) (unset_flag failed n fresh)
        (get_or-set_same failed n true false low) (λ m d. get_or-set_other failed n m true false d)
        ∙ ap suc (sym t.failures_is))

    pub failures_few : failures < length failed
    failures_few =
        omega (
          arith,
          rises,
          count_most (is_set (set failed n true)) (indices (set failed n true)),
          length-range_with_len 0 (length (set failed n true)),
          length-set failed n true,
        )

    pub tallied_one : IsTallied work (set failed n true) (failures + 1)
    tallied_one =
        record {
          failed_out = λ m f.
              elim ((set_more failed n low m).0 f) [
                | inl before ↦ t.failed_out m before
                | inr same ↦ subst (λ (z : ℕ). IsOut work z) (sym same) out
              ];
          failures_is = omega (arith, rises);
        }

pub tallied_none : (work : Work) (failed : List Bool) → ((n : ℕ) → is_set failed n ≡ false) → IsTallied work failed 0
tallied_none work failed unset =
    record {
      failed_out = λ n f. absurd (false≢true (sym (unset n) ∙ f));
      failures_is = sym (count_none (is_set failed) (indices failed) (λ n m. unset n));
    }

-- the same nodes failed, and are still out
pub tallied_still : {old new : Work} {failed : List Bool} {failures : ℕ} → IsTallied old failed failures
    → ((n : ℕ) → IsSet failed n → IsOut old n → IsOut new n) → IsTallied new failed failures
tallied_still t still =
    record { failed_out = λ n f. still n f (t.failed_out n f); failures_is = t.failures_is }

-- ---- the end

empty_if_none : (xs : List ℕ) → length xs ≡ 0 → xs ≡ []
empty_if_none [] h = refl
empty_if_none (x ∷ xs) h = absurd (omega (arith, h))

pub over_if_none : (w : FallibleWork) → (length w.work.ready ≡ 0) × (in_progress_count w ≡ 0) ↔ IsOver w
over_if_none w = (
  λ h. (
    empty_if_none w.work.ready h.0,
    λ n p. (
        let here : is_in_progress w n ≡ true =
        both_set (is_out w.work n) (not (is_set w.failed n))
        (both_set (is_set w.work.out n) (not (is_set w.work.done n)) p.0.0 (not_set (is_set w.work.done n) p.0.1))
        (not_set (is_set w.failed n) p.1) in
        false≢true (sym (count_zero (is_in_progress w) (indices w.work.out)
        (sym (count_is (is_in_progress w) (indices w.work.out)) ∙ h.1) n (set_there w.work.out n p.0.0)) ∙ here)
        ),
  ),
  λ o. (
    ap length o.0,
    count_is (is_in_progress w) (indices w.work.out)
        ∙ count_none (is_in_progress w) (indices w.work.out) (λ n m.
        elim (cases_Bool (is_in_progress w n)) [
          | inl here ↦ (
              let out = first_set (is_out w.work n) (not (is_set w.failed n)) here in
              absurd (o.1 n (
                (
                  first_set (is_set w.work.out n) (not (is_set w.work.done n)) out,
                  set_not (is_set w.work.done n) (second_set (is_set w.work.out n) (not (is_set w.work.done n)) out),
                ),
                set_not (is_set w.failed n) (second_set (is_out w.work n) (not (is_set w.failed n)) here),
              ))
              )
          | inr absent ↦ absent
        ]),
  ),
)
