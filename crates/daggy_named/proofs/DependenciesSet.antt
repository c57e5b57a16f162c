-- The dependencies of a node, set all at once by items.
use Rattle.std.proofs.Common.{◌≡◌, ◌∙◌, ◌↔◌, ◌+◌, ◌<◌, ◌≤◌, ℕ, zero, suc, Bool, false, List, [], ◌∷◌, length, map}
use Rattle.std.proofs.Common.{Option, Some, None, IsSome, get_or, Contains, refl, sym, ap, subst, arith, inl, inr, ◌⊎◌}
use Rattle.std.proofs.Common.{Result, Ok, Err, IfErr, Vec, ◌++◌, take, is_some}
use Rattle.std.proofs.lemmas.Bool.{false≢true, cases_lt}
use Rattle.std.proofs.lemmas.List.{length-map, map-append, take_more, get_or_default}
use Rattle.std.proofs.lemmas.List.Elements.{All-nil, All-cons, All-head, All-tail}
use Rattle.std.proofs.lemmas.List.Sums.{fails_before_first}
use Rattle.std.proofs.lemmas.Slice.Zip.{length-zip, seconds-zip}
use Rattle.std.proofs.Math.ListN.{get_or-map}
use Rattle.std.specs.List.{All, filter_map, zip, position_or_len, cons_option}
use Rattle.std.specs.Option.{option_map, is_none}
use Rattle.std.specs.declared.alloc.Global.{Global}
use Rattle.daggy_base.specs.Adding.{NewEdge}
use Rattle.daggy_base.specs.Errors.{parents_items_of}
use Rattle.daggy_base.specs.Graph.{Graph, edge_count}
use Rattle.daggy_base.specs.Path.{Reaches}
use Rattle.daggy_base.specs.declared.error.ParentsError.{ParentsError}
use Rattle.daggy_base.specs.declared.error.ParentsError.TheVariants.{WouldCycle, Full, Memory}
use Rattle.daggy_guard.specs.Parents.{IsMemory, ReachesParent, edges_to}
use Rattle.daggy_named.proofs.NamedNodes.{map_twice}
use Rattle.daggy_named.proofs.Slots.{not_found}
use Rattle.daggy_named.specs.Naming.{index_by}
use Rattle.daggy_named.specs.declared.error.DependenciesError.{DependenciesError}
use Rattle.daggy_named.specs.Dependencies.{Cause, would_cycle, full, memory}
use Rattle.daggy_named.specs.Dependencies.{cause_of, dag_cause_of, IsOfDag, IsRefusedFor}
use Rattle.daggy_named.specs.Dependencies.{first_unknown, parents_by, ForParents}

-- members of lists
member_here : {A : Type 0} (x : A) (xs : List A) → Contains (x ∷ xs) x
member_here x xs = (zero, omega arith, refl)

member_there : {A : Type 0} (x y : A) (xs : List A) → Contains xs y → Contains (x ∷ xs) y
member_there x y xs m = (suc m.0, omega (arith, m.1), m.2)

member_cases : {A : Type 0} (x y : A) (xs : List A) → Contains (x ∷ xs) y → (x ≡ y) ⊎ Contains xs y
member_cases x y xs (zero, low, is) = inl is
member_cases x y xs (suc k, low, is) = inr (k, omega (arith, low), is)

no_member : {A : Type 0} (y : A) → Contains [] y → ⊥
no_member y m = omega (arith, m.1)

module _ {X Y : Type 0} (f : X → Y) where
  pub member_mapped : (xs : List X) (x : X) → Contains xs x → Contains (map f xs) (f x)
  member_mapped xs x m = (m.0, omega (arith, m.1, length-map xs f), get_or-map f xs m.0 x ∙ ap f m.2)

  pub member_unmapped : (xs : List X) (y : Y) → Contains (map f xs) y → (x : X) × Contains xs x × (f x ≡ y)
  member_unmapped [] y m = absurd (no_member y m)
  member_unmapped (z ∷ xs) y m = by (member_cases (f z) y (map f xs) m) (member_unmapped xs y)
    where
      by : (f z ≡ y) ⊎ Contains (map f xs) y
          → (Contains (map f xs) y → (x : X) × Contains xs x × (f x ≡ y)) → (x : X) × Contains (z ∷ xs) x × (f x ≡ y)
      by (inl here) rest = (z, member_here z xs, here)
      by (inr there) rest = let r = rest there in (r.0, member_there z r.0 xs r.1, r.2)

module _ {X Y : Type 0} (h : X → Option Y) where
  pub member_kept : (xs : List X) (x : X) (y : Y) → Contains xs x → h x ≡ Some y → Contains (filter_map h xs) y
  member_kept [] x y m is = absurd (no_member x m)
  member_kept (z ∷ xs) x y m is = by (member_cases z x xs m) (h z) refl (λ there. member_kept xs x y there is)
    where
      by : (z ≡ x) ⊎ Contains xs x → (o : Option Y) → h z ≡ o → (Contains xs x → Contains (filter_map h xs) y)
          → Contains (cons_option o (filter_map h xs)) y
      by (inl here) None at rest = absurd (let both : None ≡ Some y = sym at ∙ ap h here ∙ is in cc)
      by (inl here) (Some w) at rest =
          let both : Some w ≡ Some y = sym at ∙ ap h here ∙ is in
          let same : w ≡ y = cc in
          subst (λ v. Contains (v ∷ filter_map h xs) y) (sym same) (member_here y (filter_map h xs))
      by (inr there) None at rest = rest there
      by (inr there) (Some w) at rest = member_there w y (filter_map h xs) (rest there)

  pub member_from : (xs : List X) (y : Y) → Contains (filter_map h xs) y → (x : X) × Contains xs x × (h x ≡ Some y)
  member_from [] y m = absurd (no_member y m)
  member_from (z ∷ xs) y m = by (h z) refl m (member_from xs y)
    where
      by : (o : Option Y) → h z ≡ o → Contains (cons_option o (filter_map h xs)) y
          → (Contains (filter_map h xs) y → (x : X) × Contains xs x × (h x ≡ Some y))
          → (x : X) × Contains (z ∷ xs) x × (h x ≡ Some y)
      by None at m rest = let r = rest m in (r.0, member_there z r.0 xs r.1, r.2)
      by (Some w) at m rest =
          elim (member_cases w y (filter_map h xs) m) [
            | inl here ↦ (z, member_here z xs, at ∙ ap Some here)
            | inr there ↦ let r = rest there in (r.0, member_there z r.0 xs r.1, r.2)
          ]

is_known : {A : Type 0} (o : Option A) → is_none o ≡ false → IsSome o
is_known None h = absurd cc
is_known (Some x) h = refl

found_of : {E : Type 0} (o : Option ℕ) (w : E) (y : ℕ × E) → option_map (λ u. (u, w)) o ≡ Some y → o ≡ Some y.0
found_of None w y is = absurd cc
found_of {E} (Some u) w y is =
    let pair : ℕ × E = (u, w) in
    let same : pair ≡ y = cc in ap (λ (p : ℕ × E). Some p.0) same

module _ {K Q E : Type 0} (same : Q → K → Bool) (keys : List (Option K)) where
  -- where no key is unknown, each item has a node
  pub each_known : (items : List (Q × E)) → first_unknown same keys items ≡ None
      → (k : ℕ) (x : Q × E) → k < length items → x ≡ get_or items k x → IsSome (index_by (same x.0) keys)
  each_known items none k x low is =
      let test : Q × E → Bool = λ z. is_none (index_by (same z.0) keys) in
      let past : length items ≤ position_or_len test items =
      not_found (position_or_len test items) (length items) none in
      is_known (index_by (same x.0) keys)
      (ap test is ∙ fails_before_first test items k x (omega (arith, low, past)))

  -- P holds of a parent exactly if it holds of the node of some item
  pub one_parent : (P : ℕ → Type 0) (items : List (Q × E))
      → ((y : ℕ × E) × Contains (parents_by same keys items) y × P y.0)
      ↔ ((x : Q × E) × Contains items x × ((m : ℕ) × (index_by (same x.0) keys ≡ Some m) × P m))
  one_parent P items =
      let h : Q × E → Option (ℕ × E) = λ x. option_map (λ u. (u, x.1)) (index_by (same x.0) keys) in (
        λ r.
            let f = member_from h items r.0 r.1 in
            (f.0, f.1, (r.0.0, found_of (index_by (same f.0.0) keys) f.0.1 r.0 f.2, r.2)),
        λ r. (
          (r.2.0, r.0.1),
          member_kept h items r.0 (r.2.0, r.0.1) r.1 (ap (option_map (λ u. (u, r.0.1))) r.2.1),
          r.2.2,
        ),
      )

  module _ {I : Type 0} (number : I → ℕ) where
    -- the parents of the items are the nodes that were found
    pub parents_are : (items : List (Q × E)) (nodes : List I)
        → map (λ x. index_by (same x.0) keys) items ≡ map Some (map number nodes)
        → map (λ x. (number x.0, x.1)) (zip nodes (map (λ x. x.1) items)) ≡ parents_by same keys items
    parents_are [] [] is = refl
    parents_are [] (n ∷ ns) is = absurd cc
    parents_are (x ∷ xs) [] is = absurd cc
    parents_are (x ∷ xs) (n ∷ ns) is =
        let here : index_by (same x.0) keys ≡ Some (number n) = cc in
        let rest : map (λ x. index_by (same x.0) keys) xs ≡ map Some (map number ns) = cc in
        ap (λ zs. (number n, x.1) ∷ zs) (parents_are xs ns rest)
        ∙ ap (λ o. cons_option (option_map (λ u. (u, x.1)) o) (parents_by same keys xs)) (sym here)

  -- the node of a key, and the parents of items whose keys are known
  module _ (test : K → Bool) (items : List (Q × E)) (P : ℕ → List (ℕ × E) → Type 0) {n : ℕ}
      (n_is : Some n ≡ index_by test keys) where
    pub for_parents : first_unknown same keys items ≡ None → P n (parents_by same keys items)
        → ForParents same keys test items P
    for_parents known holds = (n, sym n_is, known, holds)

    pub from_parents : ForParents same keys test items P → P n (parents_by same keys items)
    from_parents h =
        let both : Some h.0 ≡ Some n = sym h.1 ∙ sym n_is in
        let at : h.0 ≡ n = cc in subst (λ z. P z (parents_by same keys items)) at h.3

-- what holds of the number of each parent
pub one_numbered : {I E : Type 0} (number : I → ℕ) (P : ℕ → Type 0) (xs : List (I × E))
    → ((x : I × E) × Contains xs x × P (number x.0))
    ↔ ((y : ℕ × E) × Contains (map (λ x. (number x.0, x.1)) xs) y × P y.0)
one_numbered {I} {E} number P xs =
    let f : I × E → ℕ × E = λ x. (number x.0, x.1) in (
      λ r. (f r.0, member_mapped f xs r.0 r.1, r.2),
      λ r.
          let b = member_unmapped f xs r.0 r.1 in
          (b.0, b.1, subst (λ (p : ℕ × E). P p.0) (sym b.2) r.2),
    )

-- a refusal by the dag is for none of the other causes
pub not_told : {A Q E : Type 0} (r : Result A (DependenciesError Q E)) (cause : Cause)
    → IfErr r (λ e. IsOfDag (cause_of e)) → (IsOfDag cause → ⊥) → IsRefusedFor cause r → ⊥
not_told (Ok a) cause of_dag other is = is
not_told (Err e) cause of_dag other is = other (subst IsOfDag is of_dag)

-- how the dag refuses to set parents
module _ {I E : Type 0} (items : Vec (I × E) Global) (e : ParentsError E I) where
  memory_cause : (e : ParentsError E I) → IsMemory items.items e → dag_cause_of e ≡ memory
  memory_cause (WouldCycle back) m = absurd m
  memory_cause (Full back) m = absurd m
  memory_cause (Memory back) m = refl

  memory_items : (e : ParentsError E I) → IsMemory items.items e → (parents_items_of e).items ≡ items.items
  memory_items (WouldCycle back) m = absurd m
  memory_items (Full back) m = absurd m
  memory_items (Memory back) m = m

  module _ (one : (e ≡ WouldCycle (record { 0 = items })) ⊎ ((e ≡ Full items) ⊎ IsMemory items.items e)) where
    pub parents_returned : (parents_items_of e).items ≡ items.items
    parents_returned =
        elim one [
          | inl is ↦ ap (λ z. (parents_items_of z).items) is
          | inr (inl is) ↦ ap (λ z. (parents_items_of z).items) is
          | inr (inr m) ↦ memory_items e m
        ]

    pub cause_of_dag : IsOfDag (dag_cause_of e)
    cause_of_dag = by e
      where
        by : (e : ParentsError E I) → IsOfDag (dag_cause_of e)
        by (WouldCycle back) = tt
        by (Full back) = tt
        by (Memory back) = tt

    module _ {A R : Type 0} (r : Result A (ParentsError E I)) (r_is : r ≡ Err e) where
      pub cycle_cause : (r ≡ Err (WouldCycle (record { 0 = items }))) ↔ R → (dag_cause_of e ≡ would_cycle) ↔ R
      cycle_cause decided = (
        λ cause. elim one [
          | inl is ↦ decided.0 (r_is ∙ ap Err is)
          | inr (inl is) ↦ absurd (let both : full ≡ would_cycle = sym (ap dag_cause_of is) ∙ cause in cc)
          | inr (inr m) ↦ absurd (let both : memory ≡ would_cycle = sym (memory_cause e m) ∙ cause in cc)
        ],
        λ holds.
            let both : Err e ≡ Err (WouldCycle (record { 0 = items })) = sym r_is ∙ decided.1 holds in
            let is : e ≡ WouldCycle (record { 0 = items }) = cc in ap dag_cause_of is,
      )

      pub full_cause : (r ≡ Err (Full items)) ↔ R → (dag_cause_of e ≡ full) ↔ R
      full_cause decided = (
        λ cause. elim one [
          | inl is ↦ absurd (let both : would_cycle ≡ full = sym (ap dag_cause_of is) ∙ cause in cc)
          | inr (inl is) ↦ decided.0 (r_is ∙ ap Err is)
          | inr (inr m) ↦ absurd (let both : memory ≡ full = sym (memory_cause e m) ∙ cause in cc)
        ],
        λ holds.
            let both : Err e ≡ Err (Full items) = sym r_is ∙ decided.1 holds in
            let is : e ≡ Full items = cc in ap dag_cause_of is,
      )

-- halves of pairs
pub halves_zipped : {A B : Type 0} (xs : List (A × B)) → zip (map (λ x. x.0) xs) (map (λ x. x.1) xs) ≡ xs
halves_zipped [] = refl
halves_zipped (x ∷ xs) = ap (λ zs. x ∷ zs) (halves_zipped xs)

pub firsts_hold : {A B : Type 0} (P : A → Type 0) (xs : List A) (bs : List B) → All P xs → All (λ x. P x.0) (zip xs bs)
firsts_hold {A} {B} P [] bs h = All-nil (λ (x : A × B). P x.0)
firsts_hold {A} {B} P (a ∷ xs) [] h = All-nil (λ (x : A × B). P x.0)
firsts_hold {A} {B} P (a ∷ xs) (b ∷ bs) h =
    All-cons (λ (x : A × B). P x.0) (a, b) (zip xs bs) (All-head P a xs h) (firsts_hold P xs bs (All-tail P a xs h))

module _ {I Q E : Type 0} (items : List (Q × E)) (nodes : List I) (as_many : length nodes ≡ length items) where
  -- the items again, from their keys and what was beside their nodes
  pub items_again : (keys : List Q) (found : List (I × E)) → keys ≡ map (λ x. x.0) items
      → found ≡ zip nodes (map (λ x. x.1) items) → zip keys (map (λ x. x.1) found) ≡ items
  items_again keys found keys_are found_is =
      let weights : List E = map (λ x. x.1) items in
      let same : map (λ x. x.1) found ≡ weights =
      ap (map (λ x. x.1)) found_is
      ∙ seconds-zip nodes weights (omega (arith, as_many, length-map items (λ (x : Q × E). x.1))) in
      (λ j. zip (keys_are j) (same j)) ∙ halves_zipped items

  pub as_many_paired : (found : List (I × E)) → found ≡ zip nodes (map (λ x. x.1) items) → length found ≡ length items
  as_many_paired found found_is =
      omega (
        arith,
        ap length found_is,
        length-zip nodes (map (λ (x : Q × E). x.1) items),
        length-map items (λ (x : Q × E). x.1),
        as_many,
      )

pub as_many_named : {I Q E Y : Type 0} (f : Q × E → Option Y) (number : I → Y) (items : List (Q × E)) (nodes : List I)
    → map f items ≡ map Some (map number nodes) → length nodes ≡ length items
as_many_named f number items nodes is =
    omega (
      arith,
      ap length is,
      length-map items f,
      length-map (map number nodes) Some,
      length-map nodes number,
    )

-- the same in the words of keys
module _ {I N E : Type 0} (number : I → ℕ) (n : ℕ) {g h : Graph N E} (g_is : g ≡ h) (xs : List (I × E)) (ys : List (ℕ × E))
    (ys_are : map (λ x. (number x.0, x.1)) xs ≡ ys) where
  pub reaches_same : ReachesParent number g n xs ↔ ReachesParent (λ u. u) h n ys
  reaches_same =
      let P : Graph N E → List (ℕ × E) → Type 0 =
      λ z zs. ReachesParent number g n xs ↔ ReachesParent (λ u. u) z n zs in
      subst (λ z. P z ys) g_is (subst (P g) ys_are (one_numbered number (λ u. Reaches g n u) xs))

  pub edges_same : edges_to number n xs ≡ edges_to (λ u. u) n ys
  edges_same =
      let edge : ℕ × E → NewEdge E = λ y. (y.0, n, y.1) in
      let f : I × E → ℕ × E = λ x. (number x.0, x.1) in sym (map_twice edge f xs) ∙ ap (map edge) ys_are

  pub cycle_same : {T : Type 0} → T ↔ ReachesParent number g n xs → T ↔ ReachesParent (λ u. u) h n ys
  cycle_same decided = (λ t. reaches_same.0 (decided.0 t), λ r. decided.1 (reaches_same.1 r))

  pub full_same : {T : Type 0} {end a b : ℕ} → a ≡ b
      → T ↔ ((¬ ReachesParent number g n xs) × (end < edge_count g + a))
      → T ↔ ((¬ ReachesParent (λ u. u) h n ys) × (end < edge_count h + b))
  full_same long decided =
      let counts : edge_count g ≡ edge_count h = ap edge_count g_is in (
        λ t. let p = decided.0 t in (λ r. p.0 (reaches_same.1 r), omega (arith, p.1, counts, long)),
        λ p. decided.1 (λ r. p.0 (reaches_same.0 r), omega (arith, p.1, counts, long)),
      )

-- what is told where the dag answered Ok
pub not_told_if_ok : {A B R : Type 0} {r : Result A B} {a : A} {b : B} → r ≡ Ok a → (r ≡ Err b) ↔ R → ⊥ ↔ R
not_told_if_ok {A} {B} {R} {r} {a} {b} r_is decided = (
  λ h. absurd h,
  λ holds. absurd (let both : Ok a ≡ Err b = sym r_is ∙ decided.1 holds in cc),
)

pub told_by : {c d t : Cause} {R : Type 0} → c ≡ d → (d ≡ t) ↔ R → (c ≡ t) ↔ R
told_by same decided = (λ is. decided.0 (sym same ∙ is), λ holds. same ∙ decided.1 holds)

-- the loop that finds the nodes of the items
pub some_number : {I Y : Type 0} (number : I → Y) (o : Option I) (found : Option Y) → option_map number o ≡ found
    → IsSome found → IsSome o
some_number number None found is some = absurd (false≢true (ap is_some is ∙ some))
some_number number (Some i) found is some = refl

pub one_more_named : {I X Y : Type 0} (f : X → Option Y) (number : I → Y) (items : List X) (i : ℕ) (x : X)
    (nodes new : List I) (n : I) → i < length items → x ≡ get_or items i x → f x ≡ Some (number n)
    → new ≡ nodes ++ n ∷ [] → map f (take i items) ≡ map Some (map number nodes)
    → map f (take (i + 1) items) ≡ map Some (map number new)
one_more_named f number items i x nodes new n low is here new_is so_far =
    ap (map f) (take_more items i x low ∙ ap (λ z. take i items ++ z ∷ []) (sym is))
    ∙ map-append f (take i items) (x ∷ [])
    ∙ (λ j. so_far j ++ here j ∷ [])
    ∙ sym (map-append Some (map number nodes) (number n ∷ []))
    ∙ ap (map Some) (sym (map-append number nodes (n ∷ [])))
    ∙ ap (λ z. map Some (map number z)) (sym new_is)

-- the loop that asks of one item after another
pub none_more : {X : Type 0} (P : X → Type 0) (items : List X) (i : ℕ) (y : X) → i < length items → y ≡ get_or items i y
    → (P y → ⊥) → ((k : ℕ) (x : X) → k < i → get_or items k x ≡ x → P x → ⊥)
    → (k : ℕ) (x : X) → k < i + 1 → get_or items k x ≡ x → P x → ⊥
none_more {X} P items i y low y_is not_here none k x below x_is holds =
    elim (cases_lt k i) [
      | inl before ↦ none k x before x_is holds
      | inr past ↦
          let last : k ≡ i = omega (arith, below, past) in
          let same : x ≡ y =
          sym x_is ∙ ap (λ j. get_or items j x) last ∙ get_or_default items i x y low ∙ sym y_is in
          not_here (subst P same holds)
    ]
