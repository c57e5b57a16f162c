-- Lists sorted by a relation, and changes that keep them sorted.
use Rattle.std.proofs.Common.{◌≡◌, ℕ, ◌⊎◌, ◌↔◌, inl, inr, Bool, true, List, [], ◌∷◌, ◌++◌, Option, Some, None, map}
use Rattle.std.proofs.Common.{refl, sym, ap, subst, ◌∙◌}
use Rattle.std.specs.List.{filter, filter_map, cons_option}
use Rattle.std.proofs.lemmas.Option.{same_Some}
use Rattle.daggy_base.proofs.Lists.{Mem, Unique, mem_left, mem_right, mem_cases, unique_append}
use Rattle.daggy_base.proofs.Sorted.{Sorted, mem_filter, filter_mem, unique_filter, sorted_filter, sorted_append}

-- what Has says, each once, in which R leads from no later element to an earlier one
pub record Lists (Has : ℕ → Type 0) (R : ℕ → ℕ → Type 0) (xs : List ℕ) : Type 0 where
  pub exact : (n : ℕ) → Mem n xs ↔ Has n
  pub once : Unique xs
  pub sorted : Sorted R xs

pub sorted_fewer : (R S : ℕ → ℕ → Type 0) (xs : List ℕ)
    → ((u v : ℕ) → Mem u xs → Mem v xs → S u v → R u v) → Sorted R xs → Sorted S xs
sorted_fewer R S [] fewer s = tt
sorted_fewer R S (x ∷ xs) fewer s = (
  λ y m r. s.0 y m (fewer y x m (inl refl) r),
  sorted_fewer R S xs (λ u v m n. fewer u v (inr m) (inr n)) s.1,
)

-- some of the elements, under new names
named_cases : (o : Option ℕ) (xs : List ℕ) (k : ℕ) → Mem k (cons_option o xs) → (o ≡ Some k) ⊎ Mem k xs
named_cases None xs k m = inr m
named_cases (Some x) xs k m = elim m [ inl e ↦ inl (ap Some (sym e)) | inr b ↦ inr b ]

named_here : (o : Option ℕ) (xs : List ℕ) (k : ℕ) → o ≡ Some k → Mem k (cons_option o xs)
named_here None xs k is = absurd cc
named_here (Some x) xs k is = inl (sym (same_Some x k is))

named_later : (o : Option ℕ) (xs : List ℕ) (k : ℕ) → Mem k xs → Mem k (cons_option o xs)
named_later None xs k m = m
named_later (Some x) xs k m = inr m

unique_named : (o : Option ℕ) (xs : List ℕ)
    → ((k : ℕ) → o ≡ Some k → Mem k xs → ⊥) → Unique xs → Unique (cons_option o xs)
unique_named None xs new u = u
unique_named (Some x) xs new u = (new x refl, u)

sorted_named : (R : ℕ → ℕ → Type 0) (o : Option ℕ) (xs : List ℕ)
    → ((k y : ℕ) → o ≡ Some k → Mem y (k ∷ xs) → R y k → ⊥) → Sorted R xs → Sorted R (cons_option o xs)
sorted_named R None xs first s = s
sorted_named R (Some x) xs first s = (λ y m r. first x y refl m r, s)

module _ (name : ℕ → Option ℕ) where
  pub was_named : (xs : List ℕ) (k : ℕ) → Mem k (filter_map name xs) → (x : ℕ) × Mem x xs × (name x ≡ Some k)
  was_named [] k m = absurd m
  was_named (x ∷ xs) k m =
      elim (named_cases (name x) (filter_map name xs) k m) [
        | inl is ↦ (x, inl refl, is)
        | inr b ↦ let w = was_named xs k b in (w.0, inr w.1, w.2)
      ]

  pub is_named : (xs : List ℕ) (x k : ℕ) → Mem x xs → name x ≡ Some k → Mem k (filter_map name xs)
  is_named [] x k m is = absurd m
  is_named (y ∷ xs) x k m is =
      elim m [
        | inl e ↦ named_here (name y) (filter_map name xs) k (ap name (sym e) ∙ is)
        | inr b ↦ named_later (name y) (filter_map name xs) k (is_named xs x k b is)
      ]

  -- no two elements have one name
  abbrev OneName : List ℕ → Type 0
  OneName xs = (u v k : ℕ) → Mem u xs → Mem v xs → name u ≡ Some k → name v ≡ Some k → u ≡ v

  unique_names : (xs : List ℕ) → OneName xs → Unique xs → Unique (filter_map name xs)
  unique_names [] one u = tt
  unique_names (x ∷ xs) one u =
      unique_named (name x) (filter_map name xs) (λ k is m.
      let w = was_named xs k m in
      let P : ℕ → Type 0 = λ z. Mem z xs in
      u.0 (subst P (one w.0 x k (inr w.1) (inl refl) w.2 is) w.1))
      (unique_names xs (λ a b k m n. one a b k (inr m) (inr n)) u.1)

  sorted_names : (R S : ℕ → ℕ → Type 0) (xs : List ℕ)
      → ((u v k l : ℕ) → Mem u xs → Mem v xs → name u ≡ Some k → name v ≡ Some l → S k l → R u v) → Sorted R xs
      → Sorted S (filter_map name xs)
  sorted_names R S [] back s = tt
  sorted_names R S (x ∷ xs) back s =
      sorted_named S (name x) (filter_map name xs) (λ k y is m r.
      elim m [
        | inl e ↦ (
            let P : ℕ → Type 0 = λ z. S z k in
            s.0 x (inl refl) (back x x k k (inl refl) (inl refl) is is (subst P e r))
            )
        | inr b ↦ let w = was_named xs y b in s.0 w.0 (inr w.1) (back w.0 x y k (inr w.1) (inl refl) w.2 is r)
      ]) (sorted_names R S xs (λ u v k l m n. back u v k l (inr m) (inr n)) s.1)

module _ {Has Had : ℕ → Type 0} {R S : ℕ → ℕ → Type 0} (xs : List ℕ) (s : Lists Had S xs) where
  -- those that pass a test
  pub lists_filtered : (test : ℕ → Bool)
      → ((n : ℕ) → Has n ↔ (Had n × (test n ≡ true))) → ((u v : ℕ) → R u v → S u v) → Lists Has R (filter test xs)
  lists_filtered test kept fewer =
      record {
        exact = λ n. (
          λ m. (let h = filter_mem test xs n m in (kept n).1 ((s.exact n).0 h.0, h.1)),
          λ h. (let k = (kept n).0 h in mem_filter test xs n ((s.exact n).1 k.0) k.1),
        );
        once = unique_filter test xs s.once;
        sorted = sorted_filter R test xs (sorted_fewer S R xs (λ u v m n. fewer u v) s.sorted);
      }

  -- those that have a name, by their names
  pub lists_named : (name : ℕ → Option ℕ) → ((u v k : ℕ) → Had u → Had v → name u ≡ Some k → name v ≡ Some k → u ≡ v)
      → ((k : ℕ) → Has k ↔ ((n : ℕ) × Had n × (name n ≡ Some k)))
      → ((u v k l : ℕ) → Had u → Had v → name u ≡ Some k → name v ≡ Some l → R k l → S u v)
      → Lists Has R (filter_map name xs)
  lists_named name one names back =
      record {
        exact = λ k. (
          λ m. (let w = was_named name xs k m in (names k).1 (w.0, (s.exact w.0).0 w.1, w.2)),
          λ h. (let n = (names k).0 h in is_named name xs n.0 k ((s.exact n.0).1 n.1) n.2),
        );
        once = unique_names name xs (λ u v k m n. one u v k ((s.exact u).0 m) ((s.exact v).0 n)) s.once;
        sorted = sorted_names name S R xs (λ u v k l m n. back u v k l ((s.exact u).0 m) ((s.exact v).0 n)) s.sorted;
      }

  -- one more, that leads to none
  pub lists_last : (n : ℕ)
      → (Had n → ⊥) → ((m : ℕ) → Has m ↔ (Had m ⊎ (m ≡ n))) → ((u v : ℕ) → R u v → S u v ⊎ (Had u × (v ≡ n)))
      → ((u v : ℕ) → S u v → Had u × Had v) → Lists Has R (xs ++ n ∷ [])
  lists_last n absent more into ends =
      let not_here : Mem n xs → ⊥ = λ m. absent ((s.exact n).0 m) in
      let old : (u v : ℕ) → Mem v xs → R u v → S u v = λ u v m r. elim (into u v r) [
        | inl o ↦ o
        | inr new ↦ absurd (not_here (let P : ℕ → Type 0 = λ z. Mem z xs in subst P new.1 m))
      ] in
      let none_out : (y : ℕ) → R n y → ⊥ = λ y r. elim (into n y r) [
        | inl o ↦ absent (ends n y o).0
        | inr new ↦ absent new.0
      ] in
      record {
        exact = λ m. (
          λ c. (more m).1 (elim (mem_cases xs (n ∷ []) m c) [
            | inl o ↦ inl ((s.exact m).0 o)
            | inr new ↦ elim new [ inl e ↦ inr e | inr none ↦ absurd none ]
          ]),
          λ h. elim ((more m).0 h) [
            | inl o ↦ mem_left xs (n ∷ []) m ((s.exact m).1 o)
            | inr e ↦ mem_right xs (n ∷ []) m (inl e)
          ],
        );
        once = unique_append xs (n ∷ []) s.once (λ m. m, tt) (λ x o new. elim new [
          | inl e ↦ not_here (let P : ℕ → Type 0 = λ z. Mem z xs in subst P e o)
          | inr none ↦ none
        ]);
        sorted = sorted_append R xs (n ∷ []) (sorted_fewer S R xs (λ u v m k. old u v k) s.sorted) (
          λ y m r. elim m [
            | inl e ↦ (let P : ℕ → Type 0 = λ z. R z n in none_out n (subst P e r))
            | inr none ↦ none
          ],
          tt,
        ) (λ x y m k r. elim k [
          | inl e ↦ (let P : ℕ → Type 0 = λ z. R z x in none_out x (subst P e r))
          | inr none ↦ none
        ]);
      }

  -- one more, to which none leads
  pub lists_first : (n : ℕ) → (Had n → ⊥) → ((m : ℕ) → Has m ↔ (Had m ⊎ (m ≡ n)))
      → ((u v : ℕ) → R u v → S u v ⊎ ((u ≡ n) × Had v)) → ((u v : ℕ) → S u v → Had u × Had v) → Lists Has R (n ∷ xs)
  lists_first n absent more out ends =
      let not_here : Mem n xs → ⊥ = λ m. absent ((s.exact n).0 m) in
      let old : (u v : ℕ) → Mem u xs → R u v → S u v = λ u v m r. elim (out u v r) [
        | inl o ↦ o
        | inr new ↦ absurd (not_here (let P : ℕ → Type 0 = λ z. Mem z xs in subst P new.0 m))
      ] in
      record {
        exact = λ m. (
          λ c. (more m).1 (elim c [ inl e ↦ inr e | inr o ↦ inl ((s.exact m).0 o) ]),
          λ h. elim ((more m).0 h) [ inl o ↦ inr ((s.exact m).1 o) | inr e ↦ inl e ],
        );
        once = (not_here, s.once);
        sorted = (
          λ y m r. elim (out y n r) [
            | inl o ↦ absent (ends y n o).1
            | inr new ↦ absent new.1
          ],
          sorted_fewer S R xs (λ u v m k. old u v m) s.sorted,
        );
      }

-- the same in other words
pub filter_map_some : (f : ℕ → ℕ) (xs : List ℕ) → filter_map (λ x. Some (f x)) xs ≡ map f xs
filter_map_some f [] = refl
filter_map_some f (x ∷ xs) = ap (λ (z : List ℕ). f x ∷ z) (filter_map_some f xs)
