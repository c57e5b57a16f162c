-- Orders whose indices are below a bound, and orders with an index past it.
use Rattle.std.proofs.Common.{◌≡◌, ℕ, zero, suc, ◌≤◌, inl, inr, Bool, true, false, Option, Some, None, IsSome, is_some}
use Rattle.std.proofs.Common.{List, [], ◌∷◌, length, map, count_by, cond, ltb, slice_get, refl, sym, ap, subst, ◌∙◌}
use Rattle.std.proofs.Common.{arith}
use Rattle.std.specs.Prelude.{Contains, option_and_then}
use Rattle.std.specs.Option.{option_map}
use Rattle.std.proofs.lemmas.Bool.{cases_lt, lt-ltb}
use Rattle.std.proofs.lemmas.Option.{none-some}
use Rattle.std.proofs.lemmas.List.{length-map}
use Rattle.serde_json.specs.Data.{Data}
use Rattle.daggy_base.specs.declared.index.Direction.{Direction}
use Rattle.daggy_base.specs.declared.index.Direction.TheVariants.{Outgoing, Incoming}
use Rattle.daggy_base.specs.Graph.{Edge, slot}
use Rattle.daggy_base.specs.FromSlots.{graph_of_slots}
use Rattle.daggy_base.proofs.Lists.{Contains-here, Contains-there}
use Rattle.daggy_base.specs.Orders.{lists_by_slots, AreOrders}
use Rattle.daggy_json.specs.Reading.{whole_in, all_in, array_in, numbers_in, pair, pair_in, orders_in}
use Rattle.daggy_json.specs.Found.{index_in, indices_in, row, row_in, rows_in, chosen}
use Rattle.daggy_json.proofs.MarkedLists.{count_none, count_some, slot_within}
use Rattle.daggy_json.proofs.MarkedLists as marking
use Rattle.daggy_json.proofs.RearrangedLists.{in_list_ends, end_below, ordered_at}

-- ---- what one of a list gives

-- how a stronger test is told from a weaker one
record Narrows {A : Type 0} (strong weak : Data → Option A) (Past : A → Type 0) : Type 0 where
  some : (d : Data) (x : A) → strong d ≡ Some x → weak d ≡ Some x
  none : (d : Data) (x : A) → strong d ≡ None → weak d ≡ Some x → Past x

-- one of them is past
abbrev HasPast : {A : Type 0} → (A → Type 0) → List A → Type 0
HasPast {A} Past xs = (j : ℕ) × (x : A) × (slice_get xs j ≡ Some x) × Past x

module _ {A : Type 0} {strong weak : Data → Option A} {Past : A → Type 0} (n : Narrows strong weak Past) where
  -- what the two tests give of a value, and of the values behind it
  record BothGive (d : Data) (ds : List Data) (o o' : Option A) (p p' : Option (List A)) : Type 0 where
    strong_first : strong d ≡ o
    weak_first : weak d ≡ o'
    strong_rest : all_in strong ds ≡ p
    weak_rest : all_in weak ds ≡ p'

  all_some : (ds : List Data) (xs : List A) → all_in strong ds ≡ Some xs → all_in weak ds ≡ Some xs
  all_some [] xs h = h
  all_some (d ∷ ds) xs h = at (strong d) (all_in strong ds) refl refl h (all_some ds)
    where
      at : (o : Option A) (p : Option (List A))
          → strong d ≡ o → all_in strong ds ≡ p → option_and_then (λ x. option_map (λ r. x ∷ r) p) o ≡ Some xs
          → ((r : List A) → all_in strong ds ≡ Some r → all_in weak ds ≡ Some r)
          → option_and_then (λ x. option_map (λ r. x ∷ r) (all_in weak ds)) (weak d) ≡ Some xs
      at (Some x) (Some r) is is' q rest = rw (n.some d x is, rest r is') q
      at _ _ is is' q rest = cc

  all_past : (ds : List Data) (xs : List A) → all_in strong ds ≡ None → all_in weak ds ≡ Some xs → HasPast Past xs
  all_past [] xs h k = cc
  all_past (d ∷ ds) xs h k =
      at (strong d) (weak d) (all_in strong ds) (all_in weak ds)
      (record { strong_first = refl; weak_first = refl; strong_rest = refl; weak_rest = refl }) h k (all_past ds)
    where
      at : (o o' : Option A) (p p' : Option (List A)) → BothGive d ds o o' p p'
          → option_and_then (λ x. option_map (λ r. x ∷ r) p) o ≡ None
          → option_and_then (λ x. option_map (λ r. x ∷ r) p') o' ≡ Some xs
          → ((r : List A) → all_in strong ds ≡ None → all_in weak ds ≡ Some r → HasPast Past r) → HasPast Past xs
      at None (Some y) p (Some r) give q k rest =
          let same : y ∷ r ≡ xs = cc in
          subst (HasPast Past) same (0, y, refl, n.none d y give.strong_first give.weak_first)
      at (Some x) (Some y) None (Some r) give q k rest =
          let same : y ∷ r ≡ xs = cc in
          let later = rest r give.strong_rest give.weak_rest in
          subst (HasPast Past) same (suc later.0, later.1, later.2, later.3)
      at _ _ _ _ give q k rest = cc

  -- and the same of an array
  array_some : (d : Data) (xs : List A)
      → option_and_then (all_in strong) (array_in d) ≡ Some xs → option_and_then (all_in weak) (array_in d) ≡ Some xs
  array_some d xs =
      elim (array_in d) as (λ o. option_and_then (all_in strong) o ≡ Some xs → option_and_then (all_in weak) o ≡ Some xs) [
        | None ↦ λ q. q
        | Some ds ↦ all_some ds xs
      ]

  array_past : (d : Data) (xs : List A) → option_and_then (all_in strong) (array_in d) ≡ None
      → option_and_then (all_in weak) (array_in d) ≡ Some xs → HasPast Past xs
  array_past d xs h k = at (array_in d) h k
    where
      at : (o : Option (List Data))
          → option_and_then (all_in strong) o ≡ None → option_and_then (all_in weak) o ≡ Some xs → HasPast Past xs
      at None q k = cc
      at (Some ds) q k = all_past ds xs q k

-- ---- indices, lists and rows

index_narrows : (bound : ℕ) → Narrows (index_in bound) whole_in (λ e. bound ≤ e)
index_narrows bound = record {
  some = λ d x h. at (whole_in d) x h;
  none = λ d x h k. past x (sym (ap (option_and_then (λ n. cond (ltb n bound) (Some n) None)) k) ∙ h);
}
  where
    at : (o : Option ℕ) (x : ℕ) → option_and_then (λ n. cond (ltb n bound) (Some n) None) o ≡ Some x → o ≡ Some x
    at None x h = cc
    at (Some n) x h = below (ltb n bound) h
      where
        below : (b : Bool) → cond b (Some n) None ≡ Some x → Some n ≡ Some x
        below true q = q
        below false q = cc

    past : (x : ℕ) → cond (ltb x bound) (Some x) None ≡ None → bound ≤ x
    past x h = elim (cases_lt x bound) [ inl a ↦ absurd (none-some x (sym (rw (lt-ltb x bound a) at h))) | inr b ↦ b ]

-- an index past the bound, in one of the two lists
abbrev RowPast : ℕ → List ℕ × List ℕ → Type 0
RowPast bound p = (dir : Direction) × HasPast (λ e. bound ≤ e) (chosen dir p)

abbrev both : Option (List ℕ) → Option (List ℕ) → Option (List ℕ × List ℕ)
both o p = option_and_then (λ r. option_map (λ s. (r, s)) p) o

row_narrows : (bound : ℕ) → Narrows (row_in bound) pair_in (RowPast bound)
row_narrows bound = record { some = λ d x h. some_at (array_in d) x h; none = λ d x h k. none_at (array_in d) x h k }
  where
    some_two : (a b : Data) {x : List ℕ × List ℕ} (o p o' p' : Option (List ℕ))
        → ((r : List ℕ) → o ≡ Some r → o' ≡ Some r) → ((r : List ℕ) → p ≡ Some r → p' ≡ Some r) → both o p ≡ Some x
        → both o' p' ≡ Some x
    some_two a b (Some r) (Some s) o' p' f g h = rw (f r refl, g s refl) h
    some_two a b _ _ o' p' f g h = cc

    some_at : (o : Option (List Data)) (x : List ℕ × List ℕ)
        → option_and_then (row bound) o ≡ Some x → option_and_then pair o ≡ Some x
    some_at (Some (a ∷ b ∷ [])) x h =
        some_two a b (indices_in bound a) (indices_in bound b) (numbers_in a) (numbers_in b)
        (array_some (index_narrows bound) a) (array_some (index_narrows bound) b) h
    some_at _ x h = h

    none_two : (x : List ℕ × List ℕ) (o p o' p' : Option (List ℕ))
        → ((r : List ℕ) → o ≡ None → o' ≡ Some r → HasPast (λ e. bound ≤ e) r)
        → ((r : List ℕ) → p ≡ None → p' ≡ Some r → HasPast (λ e. bound ≤ e) r)
        → both o p ≡ None → both o' p' ≡ Some x → RowPast bound x
    none_two x None p (Some r) (Some s) f g h k =
        let pair_is : List ℕ × List ℕ = (r, s) in
        let same : pair_is ≡ x = cc in subst (RowPast bound) same (Outgoing, f r refl refl)
    none_two x (Some o) None (Some r) (Some s) f g h k =
        let pair_is : List ℕ × List ℕ = (r, s) in
        let same : pair_is ≡ x = cc in subst (RowPast bound) same (Incoming, g s refl refl)
    none_two x _ _ _ _ f g h k = cc

    none_at : (o : Option (List Data)) (x : List ℕ × List ℕ)
        → option_and_then (row bound) o ≡ None → option_and_then pair o ≡ Some x → RowPast bound x
    none_at (Some (a ∷ b ∷ [])) x h k =
        none_two x (indices_in bound a) (indices_in bound b) (numbers_in a) (numbers_in b)
        (array_past (index_narrows bound) a) (array_past (index_narrows bound) b) h k
    none_at _ x h k = cc

listed_at : (xs : List ℕ) (j e : ℕ) → slice_get xs j ≡ Some e → Contains xs e
listed_at [] j e h = cc
listed_at (x ∷ xs) zero e h = let same : x ≡ e = cc in subst (λ k. Contains (x ∷ xs) k) same (Contains-here x xs)
listed_at (x ∷ xs) (suc j) e h = Contains-there x e xs (listed_at xs j e h)

-- a row that is one only without the bound has an index past it
pub row_past : (bound : ℕ) (d : Data) (r : List ℕ × List ℕ) → row_in bound d ≡ None → pair_in d ≡ Some r
    → (dir : Direction) × (e : ℕ) × Contains (chosen dir r) e × (bound ≤ e)
row_past bound d r none some =
    let past = (row_narrows bound).none d r none some in
    (past.0, past.1.1, listed_at (chosen past.0 r) past.1.0 past.1.1 past.1.2, past.1.3)

pub row_some : (bound : ℕ) (d : Data) (r : List ℕ × List ℕ) → row_in bound d ≡ Some r → pair_in d ≡ Some r
row_some bound d r h = (row_narrows bound).some d r h

-- ---- the orders

pub orders_some : (bound : ℕ) (d : Data) (rows : List (List ℕ × List ℕ))
    → rows_in bound d ≡ Some rows → orders_in d ≡ Some rows
orders_some bound d rows h = array_some (row_narrows bound) d rows h

-- each list is that of a node
node_of : {N : Type 0} (slots : List (Option N)) (lists : List (List ℕ)) (j : ℕ) (l : List ℕ)
    → length lists ≡ count_by is_some slots → slice_get lists j ≡ Some l
    → (n : ℕ) × IsSome (slot slots n) × (marking.row (lists_by_slots slots lists) n ≡ l)
node_of [] [] j l count h = cc
node_of [] (k ∷ lists) j l count h = absurd (omega arith)
node_of (None ∷ slots) lists j l count h =
    let r = node_of slots lists j l (count ∙ count_none slots) h in (suc r.0, r.1, r.2)
node_of (Some x ∷ slots) [] j l count h = cc
node_of (Some x ∷ slots) (k ∷ lists) zero l count h = (0, refl, let same : k ≡ l = cc in same)
node_of (Some x ∷ slots) (k ∷ lists) (suc j) l count h =
    let r = node_of slots lists j l (omega (arith, count, count_some x slots)) h in (suc r.0, r.1, r.2)

chosen_at : (dir : Direction) (rows : List (List ℕ × List ℕ)) (j : ℕ) (p : List ℕ × List ℕ)
    → slice_get rows j ≡ Some p → slice_get (map (chosen dir) rows) j ≡ Some (chosen dir p)
chosen_at dir [] j p h = cc
chosen_at dir (r ∷ rows) zero p h = let same : r ≡ p = cc in ap (λ k. Some (chosen dir k)) same
chosen_at dir (r ∷ rows) (suc j) p h = chosen_at dir rows j p h

-- an index past the edges is in no order
pub orders_none : {N E : Type 0} (nodes : List (Option N)) (edges : List (Option (Edge E))) (bound : ℕ)
    → bound ≡ length edges → (d : Data) → rows_in bound d ≡ None
    → (rows : List (List ℕ × List ℕ)) → orders_in d ≡ Some rows → AreOrders (graph_of_slots nodes edges) rows → ⊥
orders_none nodes edges bound is d none rows some orders =
    let bad = array_past (row_narrows bound) d rows none some in
    let dir = bad.3.0 in
    let worst = bad.3.1 in
    let e = worst.1 in
    let at =
    node_of nodes (map (chosen dir) rows) bad.0 (chosen dir bad.1) (length-map rows (chosen dir) ∙ orders.count)
    (chosen_at dir rows bad.0 bad.1 bad.2) in
    let inside = listed_at (chosen dir bad.1) worst.0 e worst.2 in
    let ends =
    in_list_ends dir edges nodes at.0 e (slot_within nodes at.0 at.1)
    (((orders.each dir at.0 at.1).exact e).0 (rw (ordered_at dir edges nodes dir rows at.0 ∙ at.2) inside)) in
    omega (arith, end_below dir edges at.0 e ends, worst.3, is)
