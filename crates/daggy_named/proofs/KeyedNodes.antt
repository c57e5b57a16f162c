-- Keys entered for the nodes of a graph, slot by slot.
use Rattle.std.proofs.Common.{◌≡◌, ℕ, zero, suc, ◌+◌, ◌<◌, Bool, false, List, [], ◌∷◌, ◌++◌, length, map, take, drop}
use Rattle.std.proofs.Common.{cond, Option, Some, None, IsSome, is_some, get_or, slice_get, refl, sym, ap, subst, ◌∙◌, arith}
use Rattle.std.proofs.Math.Seq.{drop-cons, take-suc, take-length}
use Rattle.std.proofs.lemmas.Bool.{false≢true}
use Rattle.std.proofs.lemmas.List.{append_assoc, map-append, append-nil, length-take-le}
use Rattle.std.proofs.lemmas.Option.{slice_get-map, slice_get_within, get_or_from_slice_get}
use Rattle.std.specs.Option.{option_map}
use Rattle.daggy_base.proofs.Lists.{slice_get-take}
use Rattle.daggy_base.proofs.Slots.{count_cons}
use Rattle.std.proofs.lemmas.Map.Entries.{place_from_lookup}
use Rattle.std.specs.Cmp.{IsEquivalence}
use Rattle.std.specs.List.{AllByRecursion, IsDistinct, count_by}
use Rattle.std.specs.Map.{keys_of, lookup}
use Rattle.daggy_base.specs.Graph.{slot}
use Rattle.daggy_named.specs.Places.{IsKept, keys_at}
use Rattle.daggy_named.specs.Keyed.{keys_by_node, IsFirstRepeated}
use Rattle.daggy_named.proofs.Added.{keys_added, kept_added}

slot-push_none : {A : Type 0} (xs : List (Option A)) (n : ℕ) → slot (xs ++ None ∷ []) n ≡ slot xs n
slot-push_none [] zero = refl
slot-push_none [] (suc n) = refl
slot-push_none (x ∷ xs) zero = refl
slot-push_none (x ∷ xs) (suc n) = slot-push_none xs n

vacant_here : {A : Type 0} (xs : List (Option A)) (i : ℕ) → ¬ IsSome (slot xs i) → get_or xs i None ≡ None
vacant_here [] i none = refl
vacant_here (None ∷ xs) zero none = refl
vacant_here (Some x ∷ xs) zero none = absurd (none refl)
vacant_here (x ∷ xs) (suc i) none = vacant_here xs i none

occupied_here : {A : Type 0} (xs : List (Option A)) (i : ℕ) → IsSome (slot xs i) → (w : A) × (get_or xs i None ≡ Some w)
occupied_here [] i there = absurd (false≢true there)
occupied_here (None ∷ xs) zero there = absurd (false≢true there)
occupied_here (Some x ∷ xs) zero there = (x, refl)
occupied_here (x ∷ xs) (suc i) there = occupied_here xs i there

drop-all : {A : Type 0} (xs : List A) → drop (length xs) xs ≡ []
drop-all [] = refl
drop-all (x ∷ xs) = drop-all xs

module _ {K I N : Type 0} (eq : K → K → Bool) (number : I → ℕ) where
  -- one more vacant slot
  kept_vacant : {nodes : List (Option N)} {entries : List (K × I)} {places : List (Option ℕ)}
      → IsKept eq number nodes entries places → IsKept eq number (nodes ++ None ∷ []) entries (places ++ None ∷ [])
  kept_vacant {nodes} {entries} {places} kept =
      record {
        slots = map-append is_some places (None ∷ [])
            ∙ ap (λ l. l ++ false ∷ []) kept.slots ∙ sym (map-append is_some nodes (None ∷ []));
        back = λ p k i is. slot-push_none places (number i) ∙ kept.back p k i is;
        forth = λ n p is. kept.forth n p (sym (slot-push_none places n) ∙ is);
        once = kept.once;
      }

  -- The first i slots are done: their keys are entered, and `left` has the keys of the others.
  pub record IsEntered (slots : List (Option N)) (keys : List K) (i : ℕ) (entries : List (K × I))
      (places : List (Option ℕ)) (left : List K) : Type 0 where
    pub kept : IsKept eq number (take i slots) entries places
    pub named : keys_at entries places ++ keys_by_node (drop i slots) left ≡ keys_by_node slots keys
    pub counted : length left ≡ count_by is_some (drop i slots)
    pub distinct : IsDistinct eq (keys_of entries ++ left)

  entered_none : (slots : List (Option N)) (keys : List K) → length keys ≡ count_by is_some slots
      → IsDistinct eq keys → IsEntered slots keys zero [] [] keys
  unfolding IsDistinct
  entered_none slots keys counted distinct =
      record {
        kept = record { slots = refl; back = λ p k i is. absurd cc; forth = λ n p is. absurd cc; once = tt };
        named = refl;
        counted = counted;
        distinct = distinct;
      }

  -- before the first slot
  pub none_entered : {slots : List (Option N)} {keys : List K} {entries : List (K × I)} {places : List (Option ℕ)}
      {left : List K} → length keys ≡ count_by is_some slots → IsDistinct eq keys → entries ≡ [] → places ≡ []
      → left ≡ keys → IsEntered slots keys zero entries places left
  none_entered {slots} {keys} {entries} {places} {left} counted distinct no_entries no_places all =
      subst (λ l. IsEntered slots keys zero l places left) (sym no_entries)
      (subst (λ l. IsEntered slots keys zero [] l left) (sym no_places)
      (subst (λ l. IsEntered slots keys zero [] [] l) (sym all) (entered_none slots keys counted distinct)))

  module _ {slots : List (Option N)} {keys : List K} {i : ℕ} {entries : List (K × I)} {places : List (Option ℕ)}
      {left : List K} (done : IsEntered slots keys i entries places left) (low : i < length slots) where
    next_is : suc i ≡ i + 1
    next_is = omega (arith)

    next_slot_is : (s : Option N) → get_or slots i None ≡ s → drop i slots ≡ s ∷ drop (suc i) slots
    next_slot_is s is = drop-cons slots i None low ∙ ap (λ z. z ∷ drop (suc i) slots) is

    taken_is : (s : Option N) → get_or slots i None ≡ s → take (suc i) slots ≡ take i slots ++ s ∷ []
    taken_is s is = take-suc slots i None low ∙ ap (λ z. take i slots ++ z ∷ []) is

    pub vacant_entered : ¬ IsSome (slot slots i) → (places' : List (Option ℕ)) → places' ≡ places ++ None ∷ []
        → IsEntered slots keys (i + 1) entries places' left
    vacant_entered vacant places' places_are =
        let is = vacant_here slots i vacant in
        let here = next_slot_is None is in
        subst (λ n. IsEntered slots keys n entries places' left) next_is
        (subst (λ l. IsEntered slots keys (suc i) entries l left) (sym places_are)
        (record {
          kept = subst (λ l. IsKept eq number l entries (places ++ None ∷ [])) (sym (taken_is None is))
              (kept_vacant done.kept);
          named = ap (λ l. l ++ keys_by_node (drop (suc i) slots) left)
              (map-append _ places (None ∷ []))
              ∙ append_assoc (keys_at entries places) (None ∷ []) _
              ∙ ap (λ l. keys_at entries places ++ keys_by_node l left) (sym here) ∙ done.named;
          counted = done.counted ∙ ap (count_by is_some) here;
          distinct = done.distinct;
        }))

    -- an occupied slot has a key left
    pub some_left : IsSome (slot slots i) → 0 < length left
    some_left there =
        let w = (occupied_here slots i there).0 in
        let is = (occupied_here slots i there).1 in
        let one : length left ≡ suc (count_by is_some (drop (suc i) slots)) =
        done.counted ∙ ap (count_by is_some) (next_slot_is (Some w) is) ∙ count_cons (Some w) (drop (suc i) slots) ∙ omega (arith) in
        omega (arith, one)

    -- the first key that is left is entered for an occupied slot
    module _ (k : K) (rest : List K) (left_is : left ≡ k ∷ rest) (n : I) (at : number n ≡ i)
        (there : IsSome (slot slots i)) where
      w : N
      w = (occupied_here slots i there).0

      is : get_or slots i None ≡ Some w
      unfolding w
      is = (occupied_here slots i there).1

      here : drop i slots ≡ Some w ∷ drop (suc i) slots
      here = next_slot_is (Some w) is

      at_end : number n ≡ length (take i slots)
      at_end = at ∙ sym (length-take-le i slots (omega (arith, low)))

      moved : (ks : List K) → (ks ++ k ∷ []) ++ rest ≡ ks ++ left
      moved ks = append_assoc ks (k ∷ []) rest ∙ ap (λ l. ks ++ l) (sym left_is)

      pub key_entered : (entries' : List (K × I)) (places' : List (Option ℕ)) → entries' ≡ entries ++ (k, n) ∷ []
          → places' ≡ places ++ Some (length entries) ∷ [] → IsDistinct eq (keys_of entries')
          → IsEntered slots keys (i + 1) entries' places' rest
      key_entered entries' places' entries_are places_are once =
          let new : List (K × I) = entries ++ (k, n) ∷ [] in
          let filled : List (Option ℕ) = places ++ Some (length entries) ∷ [] in
          let kept' : IsKept eq number (take (suc i) slots) new filled =
          subst (λ l. IsKept eq number l new filled) (sym (taken_is (Some w) is))
          (kept_added done.kept [] tt k n at_end w (subst (λ l. IsDistinct eq (keys_of l)) entries_are once)) in
          let named' : keys_at new filled ++ keys_by_node (drop (suc i) slots) rest ≡ keys_by_node slots keys =
          ap (λ l. l ++ keys_by_node (drop (suc i) slots) rest) (keys_added done.kept [] tt k n at_end)
          ∙ append_assoc (keys_at entries places) (Some k ∷ []) _
          ∙ (λ j. keys_at entries places ++ keys_by_node (sym here j) (sym left_is j)) ∙ done.named in
          let one : length left ≡ suc (count_by is_some (drop (suc i) slots)) =
          done.counted ∙ ap (count_by is_some) here ∙ count_cons (Some w) (drop (suc i) slots) ∙ omega (arith) in
          let distinct' : IsDistinct eq (keys_of new ++ rest) =
          subst (IsDistinct eq)
          (sym (ap (λ l. l ++ rest) (map-append (λ e. e.0) entries ((k, n) ∷ [])) ∙ moved (keys_of entries)))
          done.distinct in
          subst (λ m. IsEntered slots keys m entries' places' rest) next_is
          (subst (λ l. IsEntered slots keys (suc i) l places' rest) (sym entries_are)
          (subst (λ l. IsEntered slots keys (suc i) new l rest) (sym places_are)
          (record {
            kept = kept';
            named = named';
            counted = omega (arith, one, ap length left_is);
            distinct = distinct';
          })))

  pub all_entered : {slots : List (Option N)} {keys : List K} {i : ℕ} {entries : List (K × I)}
      {places : List (Option ℕ)} {left : List K} → IsEntered slots keys i entries places left → i ≡ length slots
      → (keys_at entries places ≡ keys_by_node slots keys) × IsKept eq number slots entries places
  all_entered {slots} {keys} {i} {entries} {places} {left} done end =
      let none : drop i slots ≡ [] = ap (λ n. drop n slots) end ∙ drop-all slots in
      let all : take i slots ≡ slots = ap (λ n. take n slots) end ∙ take-length slots in (
        sym (append-nil (keys_at entries places)) ∙ ap (λ l. keys_at entries places ++ keys_by_node l left) (sym none)
            ∙ done.named,
        subst (λ l. IsKept eq number l entries places) all done.kept,
      )

module _ {K I : Type 0} (eq : K → K → Bool) where
  -- a key that is left is not entered yet
  pub absent_yet : IsEquivalence eq → (entries : List (K × I)) (k : K) (rest left : List K) → left ≡ k ∷ rest
      → IsDistinct eq (keys_of entries ++ left) → lookup (eq k) entries ≡ None
  unfolding IsDistinct
  absent_yet laws [] k rest left left_is distinct = refl
  absent_yet laws (e ∷ es) k rest left left_is distinct =
      let fails : eq k e.0 ≡ false =
      laws.symm k e.0 ∙ among (keys_of es) (subst (λ l. AllByRecursion (λ y. eq e.0 y ≡ false) (keys_of es ++ l)) left_is
      distinct.0) in
      ap (λ b. cond b (Some e.1) (lookup (eq k) es)) fails ∙ absent_yet laws es k rest left left_is distinct.1
    where
      among : (ks : List K) → AllByRecursion (λ y. eq e.0 y ≡ false) (ks ++ k ∷ rest) → eq e.0 k ≡ false
      among [] all = all.0
      among (x ∷ xs) all = among xs all.1

-- Keys that are read through references.
module _ {R K : Type 0} (now : R → K) (eq : K → K → Bool) where
  pub distinct_read : (rs : List R) → IsDistinct (λ a b. eq (now a) (now b)) rs → IsDistinct eq (map now rs)
  unfolding IsDistinct
  distinct_read [] d = tt
  distinct_read (r ∷ rs) d = (all rs d.0, distinct_read rs d.1)
    where
      all : (ss : List R) → AllByRecursion (λ y. eq (now r) (now y) ≡ false) ss
          → AllByRecursion (λ y. eq (now r) y ≡ false) (map now ss)
      all [] a = tt
      all (s ∷ ss) a = (a.0, all ss a.1)

  module _ {X : Type 0} (keys : List K) (j : ℕ) (entries : List (R × X))
      (read : map now (keys_of entries) ≡ take j keys) (once : IsDistinct (λ a b. eq (now a) (now b)) (keys_of entries))
    where
      pub distinct_so_far : IsDistinct eq (take j keys)
      distinct_so_far = subst (IsDistinct eq) read (distinct_read (keys_of entries) once)

      -- a key that is found was read before
      pub repeated_at : (k : K) {x : X} → slice_get keys j ≡ Some k → lookup (λ r. eq k (now r)) entries ≡ Some x
          → IsFirstRepeated eq keys j
      repeated_at k {x} k_is found =
          let p = place_from_lookup (λ r. eq k (now r)) entries x found in
          let seen : slice_get (take j keys) p.0 ≡ Some (now p.1) =
          sym (ap (λ l. slice_get l p.0) read) ∙ slice_get-map now (keys_of entries) p.0
          ∙ ap (option_map now) (slice_get-map (λ e. e.0) entries p.0 ∙ ap (option_map (λ e. e.0)) p.2) in
          let low : p.0 < j =
          omega (
            arith,
            slice_get_within (take j keys) p.0 _ seen,
            length-take-le j keys (omega (arith, slice_get_within keys j _ k_is)),
          ) in
          record {
            distinct = distinct_so_far;
            at = p.0;
            earlier = low;
            first = now p.1;
            second = k;
            first_is = sym (slice_get-take j keys p.0 low) ∙ seen;
            second_is = k_is;
            same = p.3;
          }

      pub read_on : (x : X) {entries' : List (R × X)} {key : R} → entries' ≡ entries ++ (key, x) ∷ []
          → slice_get keys j ≡ Some (now key) → map now (keys_of entries') ≡ take (j + 1) keys
      read_on x {entries'} {key} is key_is =
          let next : suc j ≡ j + 1 = omega (arith) in
          ap (λ l. map now (keys_of l)) is ∙ ap (map now) (map-append (λ e. e.0) entries ((key, x) ∷ []))
          ∙ map-append now (keys_of entries) (key ∷ []) ∙ ap (λ l. l ++ now key ∷ []) read
          ∙ sym (take-suc keys j (now key) (slice_get_within keys j _ key_is)
          ∙ ap (λ z. take j keys ++ z ∷ []) (get_or_from_slice_get keys j (now key) (now key) key_is))
          ∙ ap (λ n. take n keys) next
