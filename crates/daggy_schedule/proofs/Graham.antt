-- Graham's bound: how long it takes at least to do the nodes on as many workers.
use Rattle.std.proofs.Common.{◌≡◌, ◌≢◌, ℕ, zero, suc, ◌+◌, ◌-◌, ◌*◌, ◌<◌, ◌≤◌, Bool, true, false, cond, inl, inr, List, [], ◌∷◌}
use Rattle.std.proofs.Common.{length, get_or, map, refl, sym, ap, subst, ◌∙◌, arith, ltb, leb, ◌&&◌}
use Rattle.std.specs.List.{filter}
use Rattle.std.proofs.lemmas.Bool.{cases_lt, cases_Bool, false≢true}
use borrow.Author.Tests.{leb-true, ltb-true, le-leb, lt-ltb}
use Rattle.std.proofs.lemmas.List.{length-map}
use Rattle.std.proofs.Math.Nat.{mul-le-mul_left}
use Rattle.daggy_base.specs.Graph.{Graph, HasNode}
use Rattle.daggy_base.specs.Path.{IsPath}
use Rattle.daggy_base.specs.Ordered.{IsOrderOf}
use Rattle.daggy_base.proofs.Lists.{Mem, Unique, fewer_than, mem_contains, unique_from_distinct}
use Rattle.daggy_base.proofs.Sorted.{filter_mem, unique_filter}
use Rattle.daggy_schedule.specs.Times.{span, IsCritical}
use Rattle.daggy_schedule.specs.Assignments.{IsAssignment, IsWithinBound, IsNearBest}
use Rattle.daggy_schedule.proofs.Shift.{finish}

-- whether a node is being done at a time
abbrev is_busy : (d starts : List ℕ) → ℕ → ℕ → Bool
is_busy d starts t n = leb (get_or starts n 0) t && ltb t (finish d starts n)

both : (a b : Bool) → (a && b) ≡ true → (a ≡ true) × (b ≡ true)
both true b h = (refl, h)
both false b h = absurd (false≢true h)

busy_is : (d starts : List ℕ) (t n : ℕ) → is_busy d starts t n ≡ true → (get_or starts n 0 ≤ t) × (t < finish d starts n)
busy_is d starts t n h =
    let s = get_or starts n 0 in
    let f = finish d starts n in
    let p = both (leb s t) (ltb t f) h in (leb-true s t p.0, ltb-true t f p.1)

abbrev one : Bool → ℕ
one true = 1
one false = 0

-- for how long of a time a node is being done
abbrev part : (d starts : List ℕ) (n : ℕ) → ℕ → ℕ
part d starts n zero = 0
part d starts n (suc t) = one (is_busy d starts t n) + part d starts n t

record IsPart (start end t part : ℕ) : Type 0 where
  early : t ≤ start → part ≡ 0
  between : start ≤ t → t ≤ end → part + start ≡ t
  late : end ≤ t → part + start ≡ end

early_not : (d starts : List ℕ) (n t : ℕ) → t < get_or starts n 0 → one (is_busy d starts t n) ≡ 0
early_not d starts n t low =
    elim (cases_Bool (is_busy d starts t n)) [
      | inl yes_busy ↦ (let b = busy_is d starts t n yes_busy in absurd (omega (arith, b.0, low)))
      | inr idle ↦ ap one idle
    ]

late_not : (d starts : List ℕ) (n t : ℕ) → finish d starts n ≤ t → one (is_busy d starts t n) ≡ 0
late_not d starts n t low =
    elim (cases_Bool (is_busy d starts t n)) [
      | inl yes_busy ↦ (let b = busy_is d starts t n yes_busy in absurd (omega (arith, b.1, low)))
      | inr idle ↦ ap one idle
    ]

busy_one : (d starts : List ℕ) (n t : ℕ) → get_or starts n 0 ≤ t → t < finish d starts n → one (is_busy d starts t n) ≡ 1
busy_one d starts n t low high =
    let s = get_or starts n 0 in
    let f = finish d starts n in
    let from : leb s t ≡ true = le-leb s t low in
    let until : ltb t f ≡ true = lt-ltb t f high in
    ap one (ap (λ z. z && ltb t f) from ∙ until)

part_is : (d starts : List ℕ) (n t : ℕ) → IsPart (get_or starts n 0) (finish d starts n) t (part d starts n t)
part_is d starts n zero = record {
  early = λ _. refl;
  between = λ a b. omega (arith, a);
  late = λ a. omega (arith, a);
}
part_is d starts n (suc t) =
    let p = part_is d starts n t in
    elim (cases_lt t (get_or starts n 0)) [
      | inl low ↦ (
          let here = early_not d starts n t low in
          let was = p.early (omega (arith, low)) in
          record {
            early = λ a. omega (arith, here, was);
            between = λ a b. omega (arith, here, was, a, low);
            late = λ a. omega (arith, here, was, a, low);
          }
          )
      | inr from ↦ elim (cases_lt t (finish d starts n)) [
        | inl until ↦ (
            let here = busy_one d starts n t from until in
            let was = p.between from (omega (arith, until)) in
            record {
              early = λ a. absurd (omega (arith, a, from));
              between = λ a b. omega (arith, here, was);
              late = λ a. omega (arith, here, was, a, until);
            }
            )
        | inr past ↦ (
            let here = late_not d starts n t past in
            let was = p.late past in
            record {
              early = λ a. absurd (omega (arith, a, from));
              between = λ a b. absurd (omega (arith, b, past));
              late = λ a. omega (arith, here, was);
            }
            )
      ]
    ]

-- for all nodes of a list together
abbrev parts : (d starts : List ℕ) (t : ℕ) → List ℕ → ℕ
parts d starts t [] = 0
parts d starts t (n ∷ ns) = part d starts n t + parts d starts t ns

abbrev how_many : (ℕ → Bool) → List ℕ → ℕ
how_many p [] = 0
how_many p (n ∷ ns) = one (p n) + how_many p ns

parts_more : (d starts : List ℕ) (t : ℕ) (ns : List ℕ)
    → parts d starts (suc t) ns ≡ how_many (is_busy d starts t) ns + parts d starts t ns
parts_more d starts t [] = refl
parts_more d starts t (n ∷ ns) = omega (arith, parts_more d starts t ns)

parts_few : (d starts : List ℕ) (count : ℕ) (ns : List ℕ) → ((t : ℕ) → how_many (is_busy d starts t) ns ≤ count) → (t : ℕ)
    → parts d starts t ns ≤ count * t
parts_few d starts count ns few zero = none ns
  where
    none : (ms : List ℕ) → parts d starts zero ms ≤ count * zero
    none [] = omega arith
    none (m ∷ ms) = omega (arith, none ms)
parts_few d starts count ns few (suc t) =
    omega (arith, parts_more d starts t ns, few t, parts_few d starts count ns few t)

parts_whole : (d starts : List ℕ) (time : ℕ) (ns : List ℕ) → ((n : ℕ) → Mem n ns → finish d starts n ≤ time)
    → parts d starts time ns ≡ span d ns
parts_whole d starts time [] by = refl
parts_whole d starts time (n ∷ ns) by =
    let here = (part_is d starts n time).late (by n (inl refl)) in
    omega (arith, here, parts_whole d starts time ns (λ m h. by m (inr h)))

how_many_pass : (p : ℕ → Bool) (ns : List ℕ) → how_many p ns ≡ length (filter p ns)
how_many_pass p [] = refl
how_many_pass p (n ∷ ns) = by (p n) (how_many_pass p ns)
  where
    by : (b : Bool) → how_many p ns ≡ length (filter p ns)
        → one b + how_many p ns ≡ length (cond b (n ∷ filter p ns) (filter p ns))
    by true h = omega (arith, h)
    by false h = omega (arith, h)

worker_of : (workers : List ℕ) (x : ℕ) (ns : List ℕ) → Mem x (map (λ n. get_or workers n 0) ns)
    → (n : ℕ) × Mem n ns × (get_or workers n 0 ≡ x)
worker_of workers x [] h = absurd h
worker_of workers x (n ∷ ns) h =
    elim h [
      | inl same ↦ (n, inl refl, sym same)
      | inr b ↦ (let q = worker_of workers x ns b in (q.0, inr q.1, q.2))
    ]

module _ {N E : Type 0} {g : Graph N E} {d starts workers : List ℕ} {count time : ℕ}
    (a : IsAssignment g d starts workers count time) where
  workers_differ : (t : ℕ) (ns : List ℕ) → Unique ns → ((n : ℕ) → Mem n ns → HasNode g n)
      → ((n : ℕ) → Mem n ns → is_busy d starts t n ≡ true) → Unique (map (λ n. get_or workers n 0) ns)
  workers_differ t [] once exist busy = tt
  workers_differ t (n ∷ ns) once exist busy = (
    λ m. (
        let q = worker_of workers (get_or workers n 0) ns m in
        let apart : n ≢ q.0 = λ same. once.0 (let P : ℕ → Type 0 = λ z. Mem z ns in subst P (sym same) q.1) in
        let b = busy_is d starts t n (busy n (inl refl)) in
        let c = busy_is d starts t q.0 (busy q.0 (inr q.1)) in
        elim (a.apart n q.0 (exist n (inl refl)) (exist q.0 (inr q.1)) apart (sym q.2)) [
          | inl before ↦ omega (arith, before, b.1, c.0)
          | inr after ↦ omega (arith, after, c.1, b.0)
        ]
        ),
    workers_differ t ns once.1 (λ m h. exist m (inr h)) (λ m h. busy m (inr h)),
  )

  few_busy : (ns : List ℕ) → Unique ns → ((n : ℕ) → Mem n ns → HasNode g n) → (t : ℕ)
      → how_many (is_busy d starts t) ns ≤ count
  few_busy ns once exist t =
      let busy = filter (is_busy d starts t) ns in
      let who = map (λ n. get_or workers n 0) busy in
      let differ = workers_differ t busy (unique_filter (is_busy d starts t) ns once)
      (λ n m. exist n (filter_mem (is_busy d starts t) ns n m).0) (λ n m. (filter_mem (is_busy d starts t) ns n m).1) in
      let few = fewer_than who count differ (λ x m.
      let q = worker_of workers x busy m in
      omega (arith, a.below q.0 (exist q.0 (filter_mem (is_busy d starts t) ns q.0 q.1).0), q.2)) in
      omega (arith, few, how_many_pass (is_busy d starts t) ns, length-map busy (λ n. get_or workers n 0))

  -- all workers together do all nodes in that time
  all_in_time : (order : List ℕ) → IsOrderOf g order → span d order ≤ count * time
  all_in_time order ord =
      let exist : (n : ℕ) → Mem n order → HasNode g n = λ n m. (ord.exact n).0 (mem_contains order n m) in
      let few = parts_few d starts count order (few_busy order (unique_from_distinct order ord.once) exist) time in
      let whole = parts_whole d starts time order (λ n m. a.met n (exist n m)) in
      omega (arith, few, whole)

  along : (x : ℕ) (rest : List ℕ) → IsPath g (x ∷ rest) → get_or starts x 0 + span d (x ∷ rest) ≤ time
  along x [] p = omega (arith, a.met x p)
  along x (v ∷ rest) p = omega (arith, a.feasible x v p.1, along v rest p.2)

  path_in_time : (path : List ℕ) → IsPath g path → span d path ≤ time
  path_in_time [] p = absurd p
  path_in_time (x ∷ rest) p = omega (arith, along x rest p)

  critical_in_time : (path : List ℕ) (longest : ℕ) → IsCritical g d path longest → longest ≤ time
  critical_in_time path longest c =
      elim c.path [
        | inl p ↦ omega (arith, path_in_time path p, c.sum)
        | inr none ↦ omega (arith, ap (span d) none.0, c.sum)
      ]

pub near_best : {N E : Type 0} {g : Graph N E} {d : List ℕ} {count makespan : ℕ} (order : List ℕ) → IsOrderOf g order
    → 0 < count → IsWithinBound g d count makespan → IsNearBest g d count makespan
near_best {N} {E} {g} {d} {count} {makespan} order ord some b starts workers time a =
    let all = all_in_time a order ord in
    let low = critical_in_time a b.path b.longest b.critical in
    let share : (count - 1) * b.longest ≤ (count - 1) * time = mul-le-mul_left (count - 1) low in
    let twice : (2 * count - 1) * time ≡ count * time + (count - 1) * time = split count time some in
    omega (arith, b.bound order ord, all, share, twice)
  where
    split : (c t : ℕ) → 0 < c → (2 * c - 1) * t ≡ c * t + (c - 1) * t
    split c t h =
        let is : 2 * c - 1 ≡ c + (c - 1) = omega (arith, h) in
        ap (λ z. z * t) is ∙ omega arith
