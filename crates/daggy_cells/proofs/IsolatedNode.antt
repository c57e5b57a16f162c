-- Removing the first edge of a list until it is empty.
use Rattle.std.proofs.Common.{◌≡◌, ℕ, suc, ◌-◌, ◌<◌, List, [], ◌∷◌, map, length, Option, Some, None, IfNone, OnSome}
use Rattle.std.proofs.Common.{is_some, true, false, true≢false, slice_get, refl, sym, ap, subst, ◌∙◌, arith, Contains}
use Rattle.std.specs.Option.{option_map, option_and_then}
use Rattle.std.proofs.lemmas.List.{length-map}
use Rattle.std.proofs.lemmas.Option.{slice_get_past, none-some}
use Rattle.daggy_base.specs.declared.index.Direction.{Direction}
use Rattle.daggy_base.specs.declared.index.Direction.TheVariants.{Outgoing, Incoming}
use Rattle.daggy_base.specs.Graph.{Graph, Edge as PlainEdge, edge_at, list_at, near_end}
use Rattle.daggy_base.specs.Cursor.{first_of}
use Rattle.daggy_base.specs.State.{State, with_graph}
use Rattle.daggy_base.specs.WellFormed.{AreDistinct, ListsEdges, IsWellFormed}
use Rattle.daggy_base.specs.Removal.{without, renamed, without_edge, without_first}
use Rattle.daggy_base.specs.declared.kind.Kind.{Kind}
use Rattle.daggy_base.specs.declared.kind.Kind.TheVariants.{Compact, Stable}
use Rattle.daggy_base.specs.Removal.{without_front}
use Rattle.daggy_base.proofs.Lists.{Contains-here}
use Rattle.daggy_cells.proofs.LinkedLists.{without_here}
use Rattle.daggy_cells.proofs.LinkedListChanges.{row-map}

on_some : {A : Type 0} (r : Option A) (P : Type 0) → OnSome r P → is_some r ≡ true → P
on_some None P h q = absurd (true≢false (sym q))
on_some (Some x) P h q = h

on_none : {A : Type 0} (r : Option A) (P : Type 0) → IfNone r P → is_some r ≡ false → P
on_none None P h q = h
on_none (Some x) P h q = absurd (true≢false q)

nothing : {E : Type 0} (o : Option (PlainEdge E)) (r : Option E)
    → r ≡ option_map (λ x. x.weight) o → is_some r ≡ false → o ≡ None
nothing None r p q = refl
nothing (Some x) r p q = absurd (true≢false (sym (ap is_some p) ∙ q))

something : {E : Type 0} (o : Option (PlainEdge E)) (r : Option E)
    → r ≡ option_map (λ x. x.weight) o → is_some r ≡ true → (y : PlainEdge E) × (o ≡ Some y)
something None r p q = absurd (true≢false (sym q ∙ ap is_some p))
something (Some x) r p q = (x, refl)

map-same : (xs : List ℕ) → map (λ x. x) xs ≡ xs
map-same [] = refl
map-same (x ∷ xs) = ap (λ l. x ∷ l) (map-same xs)

module _ {N E : Type 0} where
  lists_edges : {limit : ℕ} {g : Graph N E}
      → IsWellFormed limit g → (dir : Direction) → ListsEdges g (near_end dir) (list_at dir g)
  lists_edges w Outgoing = w.out_of
  lists_edges w Incoming = w.in_of

  -- each list after one edge is removed: without it, and under other names where one moves
  list_at-without_edge : (kind : Kind) (dir : Direction) (g : Graph N E) (e n : ℕ)
      → (r : ℕ → ℕ) × (list_at dir (without_edge kind g e) n ≡ map r (without e (list_at dir g n)))
  list_at-without_edge Compact Outgoing g e n = (
    renamed (length g.edges - 1) e,
    row-map (map (renamed (length g.edges - 1) e)) refl (map (without e) g.out_lists) n
        ∙ ap (map (renamed (length g.edges - 1) e)) (row-map (without e) refl g.out_lists n),
  )
  list_at-without_edge Compact Incoming g e n = (
    renamed (length g.edges - 1) e,
    row-map (map (renamed (length g.edges - 1) e)) refl (map (without e) g.in_lists) n
        ∙ ap (map (renamed (length g.edges - 1) e)) (row-map (without e) refl g.in_lists n),
  )
  list_at-without_edge Stable Outgoing g e n = (
    λ x. x,
    row-map (without e) refl g.out_lists n ∙ sym (map-same (without e (list_at Outgoing g n))),
  )
  list_at-without_edge Stable Incoming g e n = (
    λ x. x,
    row-map (without e) refl g.in_lists n ∙ sym (map-same (without e (list_at Incoming g n))),
  )

  nodes-without_edge : (kind : Kind) (g : Graph N E) (e : ℕ) → (without_edge kind g e).nodes ≡ g.nodes
  nodes-without_edge Compact g e = refl
  nodes-without_edge Stable g e = refl

module _ {N E : Type 0} (kind : Kind) (limit : ℕ) (dir : Direction) (g : Graph N E) (w : IsWellFormed limit g) (n e : ℕ)
    (first : e ≡ first_of limit (list_at dir g n)) where
  -- nothing stands at the front
  empty_front : edge_at g e ≡ None → list_at dir g n ≡ []
  empty_front none = go (list_at dir g n) refl
    where
      go : (l : List ℕ) → list_at dir g n ≡ l → list_at dir g n ≡ []
      go [] is = is
      go (x ∷ xs) is =
          let at : e ≡ x = first ∙ ap (first_of limit) is in
          let there : Contains (list_at dir g n) x = subst (λ l. Contains l x) (sym is) (Contains-here x xs) in
          let found = ((lists_edges w dir).exact n x).0 there in
          absurd (none-some found.0 (sym none ∙ ap (edge_at g) at ∙ found.1))

  -- an edge stands there: it is the front, and the rest is left
  some_front : (y : PlainEdge E) → edge_at g e ≡ Some y
      → (xs : List ℕ) × (list_at dir g n ≡ e ∷ xs) × (length (list_at dir (without_edge kind g e) n) ≡ length xs)
  some_front y some = go (list_at dir g n) refl
    where
      go : (l : List ℕ) → list_at dir g n ≡ l
          → (xs : List ℕ) × (list_at dir g n ≡ e ∷ xs) × (length (list_at dir (without_edge kind g e) n) ≡ length xs)
      go [] is =
          let at : e ≡ limit = first ∙ ap (first_of limit) is in
          let past : slice_get g.edges e ≡ None = slice_get_past g.edges e (omega (arith, at, w.few_edges)) in
          absurd (none-some y (sym (ap (option_and_then (λ x. x)) past) ∙ some))
      go (x ∷ xs) is =
          let at : e ≡ x = first ∙ ap (first_of limit) is in
          let is_e : list_at dir g n ≡ e ∷ xs = is ∙ ap (λ z. z ∷ xs) (sym at) in
          let found = list_at-without_edge kind dir g e n in
          let r : ℕ → ℕ = found.0 in
          let left : list_at dir (without_edge kind g e) n ≡ map r xs =
          found.1 ∙ ap (λ l. map r (without e l)) is_e
          ∙ ap (map r) (without_here e xs (subst AreDistinct is_e ((lists_edges w dir).once n))) in
          (xs, is_e, ap length left ∙ length-map xs r)

  front_step : (y : PlainEdge E) → edge_at g e ≡ Some y → (h : Graph N E) → h ≡ without_edge kind g e
      → (length (list_at dir h n) < length (list_at dir g n))
      × (without_front kind dir (length (list_at dir h n)) h n ≡ without_front kind dir (length (list_at dir g n)) g n)
  front_step y some h is =
      let front = some_front y some in
      let long : length (list_at dir g n) ≡ suc (length front.0) = ap length front.1 in
      let left : length (list_at dir h n) ≡ length front.0 = ap (λ z. length (list_at dir z n)) is ∙ front.2 in
      let same : without_front kind dir (suc (length front.0)) g n
      ≡ without_front kind dir (length front.0) (without_edge kind g e) n =
      ap (λ l. without_front kind dir (length front.0) (without_first kind g l) n) front.1 in (
        omega (arith, long, left),
        ap (λ k. without_front kind dir k h n) left ∙ ap (λ z. without_front kind dir (length front.0) z n) is
            ∙ sym same ∙ ap (λ k. without_front kind dir k g n) (sym long),
      )

-- the state on the way: the rest of the list is still to be removed
pub record IsClearing {N E : Type 0} (kind : Kind) (dir : Direction) (n : ℕ) (old now : State N E) : Type 0 where
  pub left : without_front kind dir (length (list_at dir now.graph n)) now.graph n
      ≡ without_front kind dir (length (list_at dir old.graph n)) old.graph n
  pub empty_stays : (d : Direction) → list_at d old.graph n ≡ [] → list_at d now.graph n ≡ []
  pub nodes : now.graph.nodes ≡ old.graph.nodes
  pub looks : now.looks ≡ old.looks

module _ {N E : Type 0} (kind : Kind) {limit : ℕ} {dir : Direction} {n e : ℕ} {old : State N E} (now next : State N E)
    (clearing : IsClearing kind dir n old now) (w : IsWellFormed limit now.graph)
    (first : e ≡ first_of limit (list_at dir now.graph n)) {r : Option E}
    (value : r ≡ option_map (λ x. x.weight) (edge_at now.graph e)) where
  -- the code removed the front
  pub clearing_step : OnSome r (next ≡ with_graph now (without_edge kind now.graph e)) → is_some r ≡ true
      → IsClearing kind dir n old next × (length (list_at dir next.graph n) < length (list_at dir now.graph n))
  clearing_step changed some =
      let is = on_some r (next ≡ with_graph now (without_edge kind now.graph e)) changed some in
      let found = something (edge_at now.graph e) r value some in
      let step = front_step kind limit dir now.graph w n e first found.0 found.1 next.graph (ap (λ s. s.graph) is) in (
        record {
          left = step.1 ∙ clearing.left;
          empty_stays = λ d empty.
              let found = list_at-without_edge kind d now.graph e n in
              let r : ℕ → ℕ = found.0 in
              ap (λ s. list_at d s.graph n) is ∙ found.1 ∙ ap (λ l. map r (without e l)) (clearing.empty_stays d empty);
          nodes = ap (λ s. s.graph.nodes) is ∙ nodes-without_edge kind now.graph e ∙ clearing.nodes;
          looks = ap (λ s. s.looks) is ∙ clearing.looks;
        },
        step.0,
      )

  -- the code found no front
  pub clearing_done : IfNone r (next ≡ now) → is_some r ≡ false
      → (next ≡ with_graph old (without_front kind dir (length (list_at dir old.graph n)) old.graph n))
      × IsClearing kind dir n old next × (list_at dir next.graph n ≡ [])
  clearing_done kept none =
      let is = on_none r (next ≡ now) kept none in
      let empty : list_at dir now.graph n ≡ [] =
      empty_front kind limit dir now.graph w n e first (nothing (edge_at now.graph e) r value none) in
      let with_looks : Graph N E → ℕ → State N E = λ g k. record { graph = g; looks = k } in
      let whole : now.graph ≡ without_front kind dir (length (list_at dir old.graph n)) old.graph n =
      ap (λ l. without_front kind dir (length l) now.graph n) (sym empty) ∙ clearing.left in (
        is ∙ ap (λ g. with_looks g now.looks) whole
            ∙ ap (with_looks (without_front kind dir (length (list_at dir old.graph n)) old.graph n)) clearing.looks,
        subst (IsClearing kind dir n old) (sym is) clearing,
        ap (λ s. list_at dir s.graph n) is ∙ empty,
      )
