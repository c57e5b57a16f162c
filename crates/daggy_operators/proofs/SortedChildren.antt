-- Edges with keys, gathered and sorted.
use Rattle.std.proofs.Common.{◌≡◌, ℕ, ◌+◌, ◌<◌, ◌≤◌, inl, inr, false, Some, None, List, [], ◌∷◌, ◌++◌, map, take}
use Rattle.std.proofs.Common.{length, get_or, slice_get, is_some, refl, sym, ap, subst, ◌∙◌, arith, Contains}
use Rattle.std.specs.Borrow.{Bor}
use Rattle.std.specs.Option.{option_map}
use Rattle.std.specs.List.Sorted.{IsPermutation}
use Rattle.std.specs.Cmp.{IsTotalOrder}
use Rattle.std.specs.Ordering.{is_lt, nat_cmp, ordering_then, ordering_reverse}
use Rattle.std.specs.declared.cmp.Ordering.{Ordering}
use Rattle.std.specs.declared.cmp.Ordering.TheVariants.{Less, Equal, Greater}
use Rattle.std.proofs.HeapSift.{at_most}
use Rattle.std.proofs.Math.Seq.{take-length}
use Rattle.std.proofs.lemmas.Bool.{false≢true}
use Rattle.std.proofs.lemmas.List.{map-append, length-map, get_or-map}
use Rattle.std.proofs.lemmas.List.Elements.{Contains-push_cases}
use Rattle.std.proofs.lemmas.List.Sorted.{Contains-permutation, IsPermutation-map, IsPermutation-sym, length_permutation}
use Rattle.daggy_base.specs.Graph.{Graph, Edge, HasNode, edge_at, ends_of, node_weight, out_list}
use Rattle.daggy_base.specs.WellFormed.{IsWellFormed, AreDistinct}
use Rattle.daggy_base.specs.Orders.{IsOrder}
use Rattle.daggy_base.proofs.EdgeEnds.{edge_here}
use Rattle.daggy_base.proofs.Lists.{contains_mem, mem_contains, unique_from_distinct, distinct_from_unique, slice_get_mapped}
use Rattle.daggy_order.proofs.MovedNodes.{unique_same}
use Rattle.daggy_operators.specs.SortedChildren.{Keyed, Precedes, HasKey, keyed_by}
use Rattle.daggy_operators.proofs.ChildOrder.{edge_unread}
use Rattle.daggy_operators.proofs.Marks.{numbers_more}

-- ---- the edges that were read

-- the edges of the first places of a list, with keys that f returned
pub record Gathered {N E F I K : Type 0} (of : ℕ → I) (post : F → I → Bor N → K → Type 0) (f : F) (g : Graph N E)
    (number : I → ℕ) (list : List I) (i : ℕ) (keyed : List (Keyed K)) : Type 0 where
  pub edges : map (λ p. p.edge) keyed ≡ map number (take i list)
  pub keys : (p : Keyed K) → Contains keyed p → HasKey of post f g p
  pub places : (p : Keyed K) → Contains keyed p → slice_get (map number list) p.place ≡ Some p.edge

module _ {N E F I K : Type 0} (of : ℕ → I) (post : F → I → Bor N → K → Type 0) (f : F) (g : Graph N E) (number : I → ℕ)
    (list : List I) where
  pub none_gathered : {keyed : List (Keyed K)} → keyed ≡ [] → Gathered of post f g number list 0 keyed
  none_gathered {keyed} none =
      let P : List (Keyed K) → Type 0 = λ z. Gathered of post f g number list 0 z in
      subst P (sym none) (record {
        edges = refl;
        keys = λ p c. absurd (nothing p c);
        places = λ p c. absurd (nothing p c);
      })
    where
      nothing : (p : Keyed K) → Contains [] p → ⊥
      nothing p c = omega (arith, c.1)

  pub gather_more : {i : ℕ} {keyed : List (Keyed K)} → Gathered of post f g number list i keyed → i < length list
      → (x : I) → x ≡ get_or list i x → (key : K)
      → HasKey of post f g (record { key = key; place = i; edge = number x })
      → {more : List (Keyed K)} → more ≡ keyed ++ record { key = key; place = i; edge = number x } ∷ []
      → Gathered of post f g number list (i + 1) more
  gather_more {i} {keyed} s low x at key has {more} grown =
      let last : Keyed K = record { key = key; place = i; edge = number x } in
      let P : List (Keyed K) → Type 0 = λ z. Gathered of post f g number list (i + 1) z in
      subst P (sym grown) (record {
        edges =
            map-append (λ (p : Keyed K). p.edge) keyed (last ∷ [])
            ∙ (ap (λ z. z ++ number x ∷ []) s.edges ∙ sym (numbers_more number list i x low at));
        keys = λ p c. elim (Contains-push_cases keyed last p c) [
          | inl old ↦ s.keys p old
          | inr new ↦ (let Q : Keyed K → Type 0 = λ z. HasKey of post f g z in subst Q new has)
        ];
        places = λ p c. elim (Contains-push_cases keyed last p c) [
          | inl old ↦ s.places p old
          | inr new ↦ (
              let Q : Keyed K → Type 0 = λ z. slice_get (map number list) z.place ≡ Some z.edge in
              subst Q new (slice_get_mapped number list i x low at)
              )
        ];
      })

  pub all_gathered : {i : ℕ} {keyed : List (Keyed K)} → Gathered of post f g number list i keyed → i ≡ length list
      → map (λ p. p.edge) keyed ≡ map number list
  all_gathered {i} s over = s.edges ∙ (ap (λ k. map number (take k list)) over ∙ ap (map number) (take-length list))

-- ---- an edge of the list of n

module _ {N E I : Type 0} {end : ℕ} {g : Graph N E} (w : IsWellFormed end g) (number : I → ℕ) (n : ℕ) (list : List I)
    (is : map number list ≡ out_list g n) (i : ℕ) (low : i < length list) (x : I) (at : x ≡ get_or list i x) where
  listed_here : Contains (out_list g n) (number x)
  listed_here =
      let P : List ℕ → Type 0 = λ z. Contains z (number x) in
      subst P is (
        i,
        omega (arith, low, length-map list number),
        get_or-map number list i x (number x) low ∙ ap number (sym at),
      )

  exists_here : (e : Edge E) × (edge_at g (number x) ≡ Some e)
  exists_here = let p = (w.out_of.exact n (number x)).0 listed_here in (p.0, p.1)

  pub edge_is_there : None ≡ option_map ends_of (edge_at g (number x)) → ⊥
  edge_is_there none =
      let p = exists_here in
      let both : None ≡ Some p.0 = sym (edge_unread (edge_at g (number x)) none) ∙ p.1 in
      false≢true (ap is_some both)

  module _ (ends : ℕ × ℕ) (read : Some ends ≡ option_map ends_of (edge_at g (number x))) where
    pub child_is_there : None ≡ node_weight g ends.1 → ⊥
    child_is_there none =
        let p = edge_here g (number x) (number x) ends refl read in
        let P : ℕ → Type 0 = λ z. HasNode g z in
        let there : HasNode g ends.1 = subst P (sym p.3) (w.children (number x) p.0 p.1) in
        false≢true (ap is_some none ∙ there)

    -- the closure may be called there, and what it returned is a key
    module _ {F : Type 0} (of : ℕ → I) (shown : Bor N) (weight : Some shown.now ≡ node_weight g ends.1) where
      pub can_call : (pre : F → I → Bor N → Type 0) (f : F) → ((e : ℕ) (y : Edge E) (v : N) → Contains (out_list g n) e
          → edge_at g e ≡ Some y → node_weight g y.child ≡ Some v → (b : Bor N) → b.now ≡ v → pre f (of y.child) b)
          → (child : I) → of ends.1 ≡ child → pre f child shown
      can_call pre f can child child_is =
          let p = edge_here g (number x) (number x) ends refl read in
          let P : I → Type 0 = λ z. pre f z shown in
          subst P (ap of (sym p.3) ∙ child_is) (can (number x) p.0 shown.now listed_here p.1
          (ap (node_weight g) (sym p.3) ∙ sym weight) shown refl)

      pub key_there : {K : Type 0} (post : F → I → Bor N → K → Type 0) (f : F) (key : K) (child : I) → of ends.1 ≡ child
          → post f child shown key → HasKey of post f g (record { key = key; place = i; edge = number x })
      key_there {K} post f key child child_is returned =
          let p = edge_here g (number x) (number x) ends refl read in
          let P : I → Type 0 = λ z. post f z shown key in
          record {
            edge = p.0;
            at = p.1;
            shown = shown;
            weight = ap (node_weight g) (sym p.3) ∙ sym weight;
            returned = subst P (sym child_is ∙ ap of p.3) returned;
          }

-- ---- sorting

module _ {K : Type 0} {by_key : K → K → Ordering} (total : IsTotalOrder by_key) where
  not_behind : (a b : ℕ) (r : Ordering) → is_lt (ordering_then (nat_cmp b a) r) ≡ false → a ≤ b
  not_behind a b r h = at_most b a (by (nat_cmp b a) refl)
    where
      by : (o : Ordering) → nat_cmp b a ≡ o → is_lt (nat_cmp b a) ≡ false
      by Less is = absurd (false≢true (sym h ∙ ap (λ z. is_lt (ordering_then z r)) is))
      by Equal is = ap is_lt is
      by Greater is = ap is_lt is

  precedes : (p q : Keyed K) (r : Ordering)
      → is_lt (ordering_then (by_key q.key p.key) (ordering_then (nat_cmp q.place p.place) r)) ≡ false
      → Precedes by_key p q
  precedes p q r h = by (by_key q.key p.key) refl
    where
      rest : Ordering
      rest = ordering_then (nat_cmp q.place p.place) r

      by : (o : Ordering) → by_key q.key p.key ≡ o → Precedes by_key p q
      by Less is = absurd (false≢true (sym h ∙ ap (λ z. is_lt (ordering_then z rest)) is))
      by Equal is =
          inr (
            total.antisymm p.key q.key ∙ ap ordering_reverse is,
            not_behind p.place q.place r
                (ap (λ z. is_lt (ordering_then z rest)) (sym is) ∙ h),
          )
      by Greater is = inl (total.antisymm p.key q.key ∙ ap ordering_reverse is)

  module _ {I : Type 0} (number : I → ℕ) (behind : I → I → Ordering) where
    pub sorted_keys : (xs : List (K × (ℕ × I)))
        → ((k : ℕ) (d : K × (ℕ × I)) → 0 ≤ k → k + 1 < length xs → is_lt (ordering_then (by_key (get_or xs (k + 1) d).0 (get_or xs k d).0)
        (ordering_then (nat_cmp (get_or xs (k + 1) d).1.0 (get_or xs k d).1.0)
        (behind (get_or xs (k + 1) d).1.1 (get_or xs k d).1.1))) ≡ false)
        → (k : ℕ) (d : Keyed K) → k + 1 < length (keyed_by number xs)
        → Precedes by_key (get_or (keyed_by number xs) k d) (get_or (keyed_by number xs) (k + 1) d)
    sorted_keys [] sorted k d low = absurd (omega (arith, low))
    sorted_keys (x ∷ xs) sorted k d low =
        let all = x ∷ xs in
        let see : K × (ℕ × I) → Keyed K = λ p. record { key = p.0; place = p.1.0; edge = number p.1.1 } in
        let within : k + 1 < length all = omega (arith, low, length-map all see) in
        let first : get_or (keyed_by number all) k d ≡ see (get_or all k x) =
        get_or-map see all k x d (omega (arith, within)) in
        let second : get_or (keyed_by number all) (k + 1) d ≡ see (get_or all (k + 1) x) =
        get_or-map see all (k + 1) x d within in
        let P : Keyed K → Type 0 = λ z. Precedes by_key z (get_or (keyed_by number all) (k + 1) d) in
        let Q : Keyed K → Type 0 = λ z. Precedes by_key (see (get_or all k x)) z in
        subst P (sym first) (subst Q (sym second) (precedes (see (get_or all k x)) (see (get_or all (k + 1) x))
        (behind (get_or all (k + 1) x).1.1 (get_or all k x).1.1) (sorted k x (omega arith) within)))

-- the edges alone
pub edges_seen : {K I : Type 0} (number : I → ℕ) (xs : List (K × (ℕ × I)))
    → map (λ p. number p.1.1) xs ≡ map (λ p. p.edge) (keyed_by number xs)
edges_seen number [] = refl
edges_seen number (x ∷ xs) = ap (λ z. number x.1.1 ∷ z) (edges_seen number xs)

-- a permutation of the edges with keys is another order of the edges
pub keyed_order : {K : Type 0} (old new : List (Keyed K)) (list : List ℕ) → IsPermutation old new
    → map (λ p. p.edge) old ≡ list → AreDistinct list → IsOrder list (map (λ p. p.edge) new)
keyed_order {K} old new list same is distinct =
    let edge : Keyed K → ℕ = λ p. p.edge in
    let moved : IsPermutation (map edge old) (map edge new) = IsPermutation-map edge old new same in
    let P : List ℕ → Type 0 = λ z. IsOrder z (map edge new) in
    let D : List ℕ → Type 0 = λ z. AreDistinct z in
    subst P is (record {
      exact = λ e. (
        λ c. Contains-permutation (map edge new) (map edge old) e (IsPermutation-sym (map edge old) (map edge new) moved) c,
        λ c. Contains-permutation (map edge old) (map edge new) e moved c,
      );
      once = distinct_from_unique (map edge new) (unique_same (map edge old) (map edge new)
          (unique_from_distinct (map edge old) (subst D (sym is) distinct))
          (omega (arith, length_permutation (map edge old) (map edge new) moved))
          (λ x m. contains_mem (map edge new) x
          (Contains-permutation (map edge old) (map edge new) x moved (mem_contains (map edge old) x m))));
    })

-- what holds of the elements holds of those of a permutation
pub still_of_each : {X : Type 0} (P : X → Type 0) (old new : List X) → IsPermutation old new
    → ((x : X) → Contains old x → P x) → (x : X) → Contains new x → P x
still_of_each P old new same all x c = all x (Contains-permutation new old x (IsPermutation-sym old new same) c)
