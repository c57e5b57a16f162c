-- Other orders of the children of a node.
use Rattle.std.proofs.Common.{◌≡◌, ◌≢◌, ℕ, zero, suc, ◌+◌, ◌<◌, ◌≤◌, ◌⊎◌, inl, inr, Option, Some, None, List, [], ◌∷◌, ◌++◌}
use Rattle.std.proofs.Common.{true, cond, get_or, map, length, drop, unwrap_or, is_some, refl, sym, ap, subst, ◌∙◌, arith, eqb, append_assoc}
use Rattle.std.specs.List.{count_by, Contains}
use Rattle.std.specs.Option.{option_map}
use Rattle.std.specs.Prelude.{IfNone}
use Rattle.std.proofs.Math.ListN.{drop_of_length-le}
use Rattle.std.proofs.Math.Seq.{drop-cons}
use Rattle.std.proofs.lemmas.Bool.{cond-true, cond-false, eq-eqb, ne_eqb, cases_eq, false≢true}
use Rattle.std.proofs.lemmas.List.{length-set, map-append, drop_more}
use Rattle.std.proofs.lemmas.Option.{unwrap_or-slice_get}
use Rattle.daggy_base.specs.declared.index.Direction.{Direction}
use Rattle.daggy_base.specs.declared.index.Direction.TheVariants.{Outgoing, Incoming}
use Rattle.daggy_base.specs.Graph.{Graph, Edge, HasNode, slot, edge_at, ends_of, list_at, out_list, in_list}
use Rattle.daggy_base.specs.WellFormed.{IsWellFormed, AreDistinct}
use Rattle.daggy_base.specs.Orders.{lists_by_slots, with_orders, AreOrders, IsOrder}
use Rattle.daggy_base.proofs.EdgeTakenBack.{same_graph}
use Rattle.daggy_base.proofs.Lists.{Mem, Unique, mem_contains, contains_mem, unique_from_distinct, distinct_from_unique}
use Rattle.daggy_base.proofs.Lists.{slice_get-set_same, slice_get-set_other}
use Rattle.daggy_base.proofs.SlotLists.{row}
use Rattle.daggy_base.proofs.Slots.{count_cons}
use Rattle.daggy_operators.specs.Children.{with_out_list, AreSiblings, put_one, put_before}

-- ---- the lists of all nodes

-- the two lists of each existing node, from the slot i on
abbrev pub rows_at : {N E A : Type 0} → Graph N E → (i : ℕ) → List (Option A) → List (List ℕ × List ℕ)
rows_at g i [] = []
rows_at g i (None ∷ slots) = rows_at g (suc i) slots
rows_at g i (Some x ∷ slots) = (out_list g i, in_list g i) ∷ rows_at g (suc i) slots

length-rows : {N E A : Type 0} (g : Graph N E) (i : ℕ) (slots : List (Option A))
    → length (rows_at g i slots) ≡ count_by is_some slots
length-rows g i [] = refl
length-rows {A = A} g i (None ∷ slots) =
    let rest = length-rows g (suc i) slots in omega (arith, rest, count_cons {A = A} None slots)
length-rows g i (Some x ∷ slots) =
    let rest = length-rows g (suc i) slots in omega (arith, rest, count_cons (Some x) slots)

drop_row : (L : List (List ℕ)) (i : ℕ) → i < length L → drop i L ≡ row L i ∷ drop (suc i) L
drop_row L i within = drop-cons L i [] within ∙ ap (λ z. z ∷ drop (suc i) L) (sym (unwrap_or-slice_get L i []))

-- the lists by slots are all lists, if each vacant slot has an empty one
lists_of_rows : {N E A : Type 0} (g : Graph N E) (L : List (List ℕ)) (pick : List ℕ × List ℕ → List ℕ)
    → ((i : ℕ) → pick (out_list g i, in_list g i) ≡ row L i) → (slots : List (Option A)) (i : ℕ)
    → i + length slots ≡ length L → ((j : ℕ) → j < length slots → slot slots j ≡ None → row L (i + j) ≡ [])
    → lists_by_slots slots (map pick (rows_at g i slots)) ≡ drop i L
lists_of_rows g L pick picks [] i long vacant = sym (drop_of_length-le L (omega (arith, long)))
lists_of_rows g L pick picks (None ∷ slots) i long vacant =
    let here : row L i ≡ [] =
    (let same : i + 0 ≡ i = omega arith in ap (row L) (sym same) ∙ vacant 0 (omega arith) refl) in
    ap (λ z. [] ∷ z) (lists_of_rows g L pick picks slots (suc i) (omega (arith, long)) (λ j low none.
    let same : suc i + j ≡ i + suc j = omega arith in ap (row L) same ∙ vacant (suc j) (omega (arith, low)) none))
    ∙ (ap (λ z. z ∷ drop (suc i) L) (sym here) ∙ sym (drop_row L i (omega (arith, long))))
lists_of_rows g L pick picks (Some x ∷ slots) i long vacant =
    ap (λ z. pick (out_list g i, in_list g i) ∷ z)
    (lists_of_rows g L pick picks slots (suc i) (omega (arith, long)) (λ j low none.
    let same : suc i + j ≡ i + suc j = omega arith in ap (row L) same ∙ vacant (suc j) (omega (arith, low)) none))
    ∙ (ap (λ z. z ∷ drop (suc i) L) (picks i) ∙ sym (drop_row L i (omega (arith, long))))

-- ---- another out list of the node n

none_missing : {A : Type 0} (o : Option A) → o ≡ None → is_some o ≡ true → ⊥
none_missing o none some = false≢true (sym (ap is_some none) ∙ some)

module _ {N E : Type 0} {end : ℕ} {g : Graph N E} (w : IsWellFormed end g) where
  no_out_list : (n : ℕ) → slot g.nodes n ≡ None → out_list g n ≡ []
  no_out_list n none = by_list (out_list g n) (λ e c. c)
    where
      by_list : (es : List ℕ) → ((e : ℕ) → Mem e es → Mem e (out_list g n)) → es ≡ []
      by_list [] all = refl
      by_list (e ∷ es) all =
          let p = (w.out_of.exact n e).0 (mem_contains (out_list g n) e (all e (inl refl))) in
          let P : ℕ → Type 0 = λ z. HasNode g z in
          absurd (none_missing (slot g.nodes n) none (subst P p.2 (w.parents e p.0 p.1)))

  no_in_list : (n : ℕ) → slot g.nodes n ≡ None → in_list g n ≡ []
  no_in_list n none = by_list (in_list g n) (λ e c. c)
    where
      by_list : (es : List ℕ) → ((e : ℕ) → Mem e es → Mem e (in_list g n)) → es ≡ []
      by_list [] all = refl
      by_list (e ∷ es) all =
          let p = (w.in_of.exact n e).0 (mem_contains (in_list g n) e (all e (inl refl))) in
          let P : ℕ → Type 0 = λ z. HasNode g z in
          absurd (none_missing (slot g.nodes n) none (subst P p.2 (w.children e p.0 p.1)))

  module _ (n : ℕ) (exists : HasNode g n) (order : List ℕ) where
    out_list_there : out_list (with_out_list g n order) n ≡ order
    out_list_there = ap (λ o. unwrap_or o []) (slice_get-set_same g.out_lists n order below)
      where
        slot_low : {A : Type 0} (xs : List (Option A)) (i : ℕ) → is_some (slot xs i) ≡ true → i < length xs
        slot_low [] i some = absurd (false≢true some)
        slot_low (x ∷ xs) zero some = omega arith
        slot_low (x ∷ xs) (suc i) some = let low = slot_low xs i some in omega (arith, low)

        below : n < length g.out_lists
        below = omega (arith, slot_low g.nodes n exists, w.out_list_count)

    out_list_elsewhere : (m : ℕ) → m ≢ n → out_list (with_out_list g n order) m ≡ out_list g m
    out_list_elsewhere m other = ap (λ o. unwrap_or o []) (slice_get-set_other g.out_lists n m order other)

    -- the orders of the rows make this graph
    pub orders_make : with_orders g (rows_at (with_out_list g n order) 0 g.nodes) ≡ with_out_list g n order
    orders_make =
        let h = with_out_list g n order in
        same_graph h refl refl
        (lists_of_rows h h.out_lists (λ p. p.0) (λ i. refl) g.nodes 0
        (omega (arith, w.out_list_count, length-set g.out_lists n order)) (λ j low none.
        let from : 0 + j ≡ j = omega arith in ap (row h.out_lists) from
        ∙ (out_list_elsewhere j (λ same. none_missing (slot g.nodes j) none
        (let P : ℕ → Type 0 = λ z. HasNode g z in subst P (sym same) exists)) ∙ no_out_list j none)))
        (lists_of_rows h g.in_lists (λ p. p.1) (λ i. refl) g.nodes 0 (omega (arith, w.in_list_count))
        (λ j low none. let from : 0 + j ≡ j = omega arith in ap (row g.in_lists) from ∙ no_in_list j none))
        refl refl

    pub are_orders : IsOrder (out_list g n) order → AreOrders g (rows_at (with_out_list g n order) 0 g.nodes)
    are_orders is = record {
      count = length-rows (with_out_list g n order) 0 g.nodes;
      each = λ dir m there. let P : Graph N E → Type 0 = λ z. IsOrder (list_at dir g m) (list_at dir z m) in
          subst P (sym orders_make) (by_list dir m);
    }
      where
        by_list : (dir : Direction) (m : ℕ) → IsOrder (list_at dir g m) (list_at dir (with_out_list g n order) m)
        by_list Incoming m = record { exact = λ e. (λ c. c, λ c. c); once = w.in_of.once m }
        by_list Outgoing m =
            let P : List ℕ → Type 0 = λ z. IsOrder (out_list g m) z in
            elim (cases_eq m n) [
              | inl same ↦ (
                  let Q : ℕ → Type 0 = λ z. IsOrder (out_list g z) (out_list (with_out_list g n order) z) in
                  let R : List ℕ → Type 0 = λ z. IsOrder (out_list g n) z in
                  subst Q (sym same) (subst R (sym out_list_there) is)
                  )
              | inr other ↦ subst P (sym (out_list_elsewhere m other))
                  (record { exact = λ e. (λ c. c, λ c. c); once = w.out_of.once m })
            ]

-- the rows of an existing node, and of a vacant slot
module _ {N E A : Type 0} (h : Graph N E) (slots : List (Option A)) (i : ℕ) (within : i < length slots) where
  rest_at : drop i slots ≡ slot slots i ∷ drop (suc i) slots
  rest_at = drop-cons slots i None within ∙ ap (λ z. z ∷ drop (suc i) slots) (by_slot slots i within)
    where
      by_slot : (xs : List (Option A)) (k : ℕ) → k < length xs → get_or xs k None ≡ slot xs k
      by_slot [] k low = absurd (omega (arith, low))
      by_slot (x ∷ xs) zero low = refl
      by_slot (x ∷ xs) (suc k) low = by_slot xs k (omega (arith, low))

  one_more : rows_at h (suc i) (drop (suc i) slots) ≡ rows_at h (i + 1) (drop (i + 1) slots)
  one_more = let next : suc i ≡ i + 1 = omega arith in ap (λ k. rows_at h k (drop k slots)) next

  pub rows_pass : (is_some (slot slots i) ≡ true → ⊥) → rows_at h i (drop i slots) ≡ rows_at h (i + 1) (drop (i + 1) slots)
  rows_pass missing = ap (rows_at h i) rest_at ∙ (by_slot (slot slots i) missing ∙ one_more)
    where
      by_slot : (o : Option A) → (is_some o ≡ true → ⊥)
          → rows_at h i (o ∷ drop (suc i) slots) ≡ rows_at h (suc i) (drop (suc i) slots)
      by_slot None missing = refl
      by_slot (Some x) missing = absurd (missing refl)

  pub rows_next : is_some (slot slots i) ≡ true
      → rows_at h i (drop i slots) ≡ (out_list h i, in_list h i) ∷ rows_at h (i + 1) (drop (i + 1) slots)
  rows_next some =
      ap (rows_at h i) rest_at
      ∙ (by_slot (slot slots i) some ∙ ap (λ z. (out_list h i, in_list h i) ∷ z) one_more)
    where
      by_slot : (o : Option A) → is_some o ≡ true → rows_at h i (o ∷ drop (suc i) slots)
          ≡ (out_list h i, in_list h i) ∷ rows_at h (suc i) (drop (suc i) slots)
      by_slot None some = absurd (false≢true some)
      by_slot (Some x) some = refl

pub rows_over : {N E A : Type 0} (h : Graph N E) (slots : List (Option A)) (i : ℕ)
    → length slots ≤ i → rows_at h i (drop i slots) ≡ []
rows_over h slots i past = ap (rows_at h i) (drop_of_length-le slots past)

-- one more row was pushed
pub rows_pushed : {I A : Type 0} (f : I → A) (done : List I) (x : I) {y : A} {rest left all : List A} {done' : List I}
    → done' ≡ done ++ x ∷ [] → f x ≡ y → left ≡ y ∷ rest → map f done ++ left ≡ all → map f done' ++ rest ≡ all
rows_pushed f done x {y} {rest} {left} {all} {done'} more is here so_far =
    ap (λ z. map f z ++ rest) more
    ∙ (ap (λ z. z ++ rest) (map-append f done (x ∷ []))
    ∙ (append_assoc (map f done) (f x ∷ []) rest
    ∙ (ap (λ z. map f done ++ z ∷ rest) is ∙ (ap (λ z. map f done ++ z) (sym here) ∙ so_far))))

-- ---- an edge moved before another

module _ (e b x : ℕ) (xs : List ℕ) where
  put_gone : x ≡ e → put_before e b (x ∷ xs) ≡ put_before e b xs
  put_gone same =
      ap (λ z. z ++ put_before e b xs)
      (cond-true {A = List ℕ} (eqb x e) [] (cond (eqb x b) (e ∷ x ∷ []) (x ∷ [])) (eq-eqb x e same))

  put_both : x ≢ e → x ≡ b → put_before e b (x ∷ xs) ≡ e ∷ x ∷ put_before e b xs
  put_both other same =
      ap (λ z. z ++ put_before e b xs)
      (cond-false {A = List ℕ} (eqb x e) [] (cond (eqb x b) (e ∷ x ∷ []) (x ∷ [])) (ne_eqb x e other)
      ∙ cond-true {A = List ℕ} (eqb x b) (e ∷ x ∷ []) (x ∷ []) (eq-eqb x b same))

  put_same : x ≢ e → x ≢ b → put_before e b (x ∷ xs) ≡ x ∷ put_before e b xs
  put_same other differs =
      ap (λ z. z ++ put_before e b xs)
      (cond-false {A = List ℕ} (eqb x e) [] (cond (eqb x b) (e ∷ x ∷ []) (x ∷ [])) (ne_eqb x e other)
      ∙ cond-false {A = List ℕ} (eqb x b) (e ∷ x ∷ []) (x ∷ []) (ne_eqb x b differs))

  -- the three cases
  pub put_cases : ((x ≡ e) × (put_before e b (x ∷ xs) ≡ put_before e b xs))
      ⊎ (((x ≢ e) × (x ≡ b) × (put_before e b (x ∷ xs) ≡ e ∷ x ∷ put_before e b xs))
      ⊎ ((x ≢ e) × (x ≢ b) × (put_before e b (x ∷ xs) ≡ x ∷ put_before e b xs)))
  put_cases =
      elim (cases_eq x e) [
        | inl same ↦ inl (same, put_gone same)
        | inr other ↦ elim (cases_eq x b) [
          | inl same ↦ inr (inl (other, same, put_both other same))
          | inr differs ↦ inr (inr (other, differs, put_same other differs))
        ]
      ]

module _ (e b : ℕ) where
  put_old : (xs : List ℕ) (z : ℕ) → Mem z (put_before e b xs) → (z ≡ e) ⊎ Mem z xs
  put_old [] z m = inr m
  put_old (x ∷ xs) z m =
      let P : List ℕ → Type 0 = λ l. Mem z l in
      let later : Mem z (put_before e b xs) → (z ≡ e) ⊎ Mem z (x ∷ xs) = λ k. elim (put_old xs z k) [
        | inl same ↦ inl same
        | inr there ↦ inr (inr there)
      ] in
      elim (put_cases e b x xs) [
        | inl gone ↦ later (subst P gone.1 m)
        | inr others ↦ elim others [
          | inl both ↦ (let k : Mem z (e ∷ x ∷ put_before e b xs) = subst P both.2 m in elim k [
            | inl same ↦ inl same
            | inr rest ↦ elim rest [ inl here ↦ inr (inl here) | inr there ↦ later there ]
          ])
          | inr one ↦ (let k : Mem z (x ∷ put_before e b xs) = subst P one.2 m in elim k [
            | inl here ↦ inr (inl here)
            | inr there ↦ later there
          ])
        ]
      ]

  put_kept : (xs : List ℕ) (z : ℕ) → z ≢ e → Mem z xs → Mem z (put_before e b xs)
  put_kept [] z other m = m
  put_kept (x ∷ xs) z other m =
      let P : List ℕ → Type 0 = λ l. Mem z l in
      elim (put_cases e b x xs) [
        | inl gone ↦ subst P (sym gone.1) (elim m [
          | inl here ↦ absurd (other (here ∙ gone.0))
          | inr there ↦ put_kept xs z other there
        ])
        | inr others ↦ elim others [
          | inl both ↦ subst P (sym both.2) (inr (elim m [
            | inl here ↦ inl here
            | inr there ↦ inr (put_kept xs z other there)
          ]))
          | inr one ↦ subst P (sym one.2) (elim m [ inl here ↦ inl here | inr there ↦ inr (put_kept xs z other there) ])
        ]
      ]

  put_there : (xs : List ℕ) → b ≢ e → Mem b xs → Mem e (put_before e b xs)
  put_there [] differ m = absurd m
  put_there (x ∷ xs) differ m =
      let P : List ℕ → Type 0 = λ l. Mem e l in
      elim (put_cases e b x xs) [
        | inl gone ↦ subst P (sym gone.1) (elim m [
          | inl here ↦ absurd (differ (here ∙ gone.0))
          | inr there ↦ put_there xs differ there
        ])
        | inr others ↦ elim others [
          | inl both ↦ subst P (sym both.2) (inl refl)
          | inr one ↦ subst P (sym one.2) (elim m [
            | inl here ↦ absurd (one.1 (sym here))
            | inr there ↦ inr (put_there xs differ there)
          ])
        ]
      ]

  put_from : (xs : List ℕ) → Mem e (put_before e b xs) → Mem b xs
  put_from [] m = m
  put_from (x ∷ xs) m =
      let P : List ℕ → Type 0 = λ l. Mem e l in
      elim (put_cases e b x xs) [
        | inl gone ↦ inr (put_from xs (subst P gone.1 m))
        | inr others ↦ elim others [
          | inl both ↦ inl (sym both.1)
          | inr one ↦ (let k : Mem e (x ∷ put_before e b xs) = subst P one.2 m in elim k [
            | inl here ↦ absurd (one.0 (sym here))
            | inr there ↦ inr (put_from xs there)
          ])
        ]
      ]

  put_once : (xs : List ℕ) → Unique xs → Unique (put_before e b xs)
  put_once [] u = tt
  put_once (x ∷ xs) u =
      let P : List ℕ → Type 0 = λ l. Unique l in
      let rest = put_once xs u.1 in
      let out : x ≢ e → Mem x (put_before e b xs) → ⊥ = λ other m. elim (put_old xs x m) [
        | inl same ↦ other same
        | inr there ↦ u.0 there
      ] in
      elim (put_cases e b x xs) [
        | inl gone ↦ subst P (sym gone.1) rest
        | inr others ↦ elim others [
          | inl both ↦ subst P (sym both.2) (
            λ m. elim m [
              | inl same ↦ both.0 (sym same)
              | inr there ↦ u.0 (let Q : ℕ → Type 0 = λ z. Mem z xs in subst Q (sym both.1) (put_from xs there))
            ],
            (out both.0, rest),
          )
          | inr one ↦ subst P (sym one.2) (out one.0, rest)
        ]
      ]

  -- the same edges in another order
  put_order : (xs : List ℕ) → AreDistinct xs → Contains xs e → Contains xs b → e ≢ b → IsOrder xs (put_before e b xs)
  put_order xs distinct first second differ = record {
    exact = λ z. (
      λ c. mem_contains xs z (elim (put_old xs z (contains_mem (put_before e b xs) z c)) [
        | inl same ↦ (let P : ℕ → Type 0 = λ k. Mem k xs in subst P (sym same) (contains_mem xs e first))
        | inr there ↦ there
      ]),
      λ c. mem_contains (put_before e b xs) z (elim (cases_eq z e) [
        | inl same ↦ (
            let P : ℕ → Type 0 = λ k. Mem k (put_before e b xs) in
            subst P (sym same) (put_there xs (λ h. differ (sym h)) (contains_mem xs b second))
            )
        | inr other ↦ put_kept xs z other (contains_mem xs z c)
      ]),
    );
    once = distinct_from_unique (put_before e b xs) (put_once xs (unique_from_distinct xs distinct));
  }

-- one more element of the list was read
pub moves_on : {I : Type 0} (number : I → ℕ) (e b : ℕ) (xs : List I) (i : ℕ) → i < length xs
    → {x : I} → x ≡ get_or xs i x → (done : List ℕ) {done' all : List ℕ} → done' ≡ done ++ put_one e b (number x)
    → done ++ put_before e b (map number (drop i xs)) ≡ all → done' ++ put_before e b (map number (drop (i + 1) xs)) ≡ all
moves_on number e b xs i within {x} at done {done'} {all} more so_far =
    let rest = put_before e b (map number (drop (i + 1) xs)) in
    let here : drop i xs ≡ x ∷ drop (i + 1) xs = drop_more xs i x within ∙ ap (λ z. z ∷ drop (i + 1) xs) (sym at) in
    ap (λ z. z ++ rest) more
    ∙ (append_assoc done (put_one e b (number x)) rest
    ∙ (ap (λ z. done ++ put_before e b (map number z)) (sym here) ∙ so_far))

-- ---- two edges of one node

-- what holds anyhow
pub if_none : {A : Type 0} {P : Type 0} (o : Option A) → P → IfNone o P
if_none None p = p
if_none (Some x) p = tt

-- the edge whose endpoints were read
pub edge_read : {E : Type 0} (o : Option (Edge E)) (p : ℕ × ℕ)
    → Some p ≡ option_map ends_of o → (x : Edge E) × (o ≡ Some x) × (p.0 ≡ x.parent)
edge_read None p h = absurd cc
edge_read (Some x) p h = let same : p ≡ (x.parent, x.child) = cc in (x, refl, ap (λ (q : ℕ × ℕ). q.0) same)

pub edge_unread : {E : Type 0} (o : Option (Edge E)) → None ≡ option_map ends_of o → o ≡ None
edge_unread None h = refl
edge_unread (Some x) h = absurd cc

module _ {N E : Type 0} {end : ℕ} {g : Graph N E} (w : IsWellFormed end g) where
  missing_edge : (n e : ℕ) → edge_at g e ≡ None → Contains (out_list g n) e → ⊥
  missing_edge n e none c =
      let p = (w.out_of.exact n e).0 c in
      none_missing (edge_at g e) none (ap is_some p.1)

  leaves : (n e : ℕ) (x : Edge E) → edge_at g e ≡ Some x → Contains (out_list g n) e → n ≡ x.parent
  leaves n e x at c =
      let p = (w.out_of.exact n e).0 c in
      let same : Some p.0 ≡ Some x = sym p.1 ∙ at in
      let edge : p.0 ≡ x = cc in
      sym p.2 ∙ ap (λ (y : Edge E). y.parent) edge

  pub no_first : (n a b : ℕ) → None ≡ option_map ends_of (edge_at g a) → AreSiblings g n a b → ⊥
  no_first n a b none s = missing_edge n a (edge_unread (edge_at g a) none) s.first

  pub no_second : (n a b : ℕ) → None ≡ option_map ends_of (edge_at g b) → AreSiblings g n a b → ⊥
  no_second n a b none s = missing_edge n b (edge_unread (edge_at g b) none) s.second

  module _ {a b : ℕ} {p q : ℕ × ℕ} (first : Some p ≡ option_map ends_of (edge_at g a))
      (second : Some q ≡ option_map ends_of (edge_at g b)) where
    pub no_siblings : p.0 ≢ q.0 → (n : ℕ) → AreSiblings g n a b → ⊥
    no_siblings differ n s =
        let x = edge_read (edge_at g a) p first in
        let y = edge_read (edge_at g b) q second in
        differ (x.2 ∙ (sym (leaves n a x.0 x.1 s.first) ∙ (leaves n b y.0 y.1 s.second ∙ sym y.2)))

    pub siblings : a ≢ b → p.0 ≡ q.0 → AreSiblings g p.0 a b
    siblings differ same =
        let x = edge_read (edge_at g a) p first in
        let y = edge_read (edge_at g b) q second in
        record {
          first = (w.out_of.exact p.0 a).1 (x.0, x.1, sym x.2);
          second = (w.out_of.exact p.0 b).1 (y.0, y.1, sym (same ∙ y.2));
          different = differ;
        }

  module _ {n a b : ℕ} (s : AreSiblings g n a b) where
    pub siblings_parent : HasNode g n
    siblings_parent =
        let p = (w.out_of.exact n a).0 s.first in
        let P : ℕ → Type 0 = λ z. HasNode g z in subst P p.2 (w.parents a p.0 p.1)

    pub siblings_order : IsOrder (out_list g n) (put_before a b (out_list g n))
    siblings_order = put_order a b (out_list g n) (w.out_of.once n) s.first s.second s.different

    pub siblings_same : {m : ℕ} → AreSiblings g m a b → n ≡ m
    siblings_same {m} t =
        let p = (w.out_of.exact n a).0 s.first in
        sym p.2 ∙ sym (leaves m a p.0 p.1 t.first)
