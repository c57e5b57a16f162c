-- A step of a walk gives the first of what is left of its list, and leaves the others.
use Rattle.std.proofs.Common.{◌≡◌, ℕ, ◌+◌, ◌≤◌, ◌<◌, inl, inr, Option, Some, None, List, [], ◌∷◌, length, refl, sym, ap}
use Rattle.std.proofs.Common.{subst, ◌∙◌, arith}
use Rattle.std.specs.Prelude.{MatchOption}
use Rattle.std.specs.Option.{option_len, option_map}
use Rattle.std.proofs.lemmas.Bool.Decides.{nat_tests}
use Rattle.std.proofs.lemmas.Option.{slice_get_within}
use Rattle.daggy_base.specs.declared.index.Direction.{Direction}
use Rattle.daggy_base.specs.declared.index.Direction.TheVariants.{Outgoing, Incoming}
use Rattle.daggy_base.specs.Graph.{Graph, Edge, edge_at, out_list, in_list, list_at, near_end, far_end, pair_of}
use Rattle.daggy_base.specs.WellFormed.{IsWellFormed}
use Rattle.daggy_base.specs.Cursor.{first_of, after, IsWalkStep, item_at, cursor_after}
use Rattle.daggy_base.proofs.Lists.{Mem, Unique, contains_mem, mem_contains, unique_from_distinct}
use Rattle.daggy_base.proofs.OutEdgesRead.{slot_get}
use Rattle.daggy_cells.proofs.LinkedLists.{length_le}
use Rattle.daggy_dag.specs.Walks.{from_on, rest_with, rest_of_walk}

-- ---- a list at one of its members

-- the others behind e, and what a walk at the first of them has left
pub record Behind (end e : ℕ) (xs : List ℕ) : Type 0 where
  pub others : List ℕ
  pub rest : from_on e xs ≡ e ∷ others
  pub next : after end xs e ≡ first_of end others
  pub goes : (y : ℕ) (ys : List ℕ) → others ≡ y ∷ ys → Mem y xs × (from_on y xs ≡ others)

skips : (x y : ℕ) (xs : List ℕ) → (x ≡ y → ⊥) → from_on y (x ∷ xs) ≡ from_on y xs
skips x y xs h = grind (arith, nat_tests)

meets : (y : ℕ) (ys : List ℕ) → from_on y (y ∷ ys) ≡ y ∷ ys
meets y ys = grind (arith, nat_tests)

begins : (end x : ℕ) (xs : List ℕ) → after end (x ∷ xs) x ≡ first_of end xs
begins end x xs = grind (arith, nat_tests)

passes : (end x e : ℕ) (xs : List ℕ) → (x ≡ e → ⊥) → after end (x ∷ xs) e ≡ after end xs e
passes end x e xs h = grind (arith, nat_tests)

pub behind : (end e : ℕ) (xs : List ℕ) → Unique xs → Mem e xs → Behind end e xs
behind end e [] u m = absurd m
behind end e (x ∷ xs) u (inl h) =
    subst (λ k. Behind end k (x ∷ xs)) (sym h)
    (record {
      others = xs;
      rest = meets x xs;
      next = begins end x xs;
      goes = λ y ys k. let m : Mem y xs = subst (Mem y) (sym k) (inl refl) in (
        inr m,
        skips x y xs (λ s. u.0 (subst (λ z. Mem z xs) (sym s) m)) ∙ (ap (from_on y) k ∙ (meets y ys ∙ sym k)),
      );
    })
behind end e (x ∷ xs) u (inr m) =
    let b = behind end e xs u.1 m in
    let d : x ≡ e → ⊥ = λ s. u.0 (subst (λ z. Mem z xs) (sym s) m) in
    record {
      others = b.others;
      rest = skips x e xs d ∙ b.rest;
      next = passes end x e xs d ∙ b.next;
      goes = λ y ys k. let a = b.goes y ys k in
          (inr a.0, skips x y xs (λ s. u.0 (subst (λ z. Mem z xs) (sym s) a.0)) ∙ a.1);
    }

-- ---- a step over a well-formed graph

module _ {N E : Type 0} (end : ℕ) (g : Graph N E) (w : IsWellFormed end g) where
  listed_at : (dir : Direction) (n e : ℕ) (x : Edge E)
      → edge_at g e ≡ Some x → near_end dir x ≡ n → Mem e (list_at dir g n)
  listed_at Outgoing n e x a h = contains_mem _ _ ((w.out_of.exact n e).1 (x, a, h))
  listed_at Incoming n e x a h = contains_mem _ _ ((w.in_of.exact n e).1 (x, a, h))

  member_at : (dir : Direction) (n e : ℕ)
      → Mem e (list_at dir g n) → (x : Edge E) × (edge_at g e ≡ Some x) × (near_end dir x ≡ n)
  member_at Outgoing n e m = (w.out_of.exact n e).0 (mem_contains _ _ m)
  member_at Incoming n e m = (w.in_of.exact n e).0 (mem_contains _ _ m)

  unique_at : (dir : Direction) (n : ℕ) → Unique (list_at dir g n)
  unique_at Outgoing n = unique_from_distinct _ (w.out_of.once n)
  unique_at Incoming n = unique_from_distinct _ (w.in_of.once n)

  no_edge_at : (o : Option (Edge E)) → edge_at g end ≡ o → o ≡ None
  no_edge_at None h = refl
  no_edge_at (Some x) h =
      absurd (omega (arith, slice_get_within g.edges end (Some x) (slot_get g.edges end x h), w.few_edges))

  -- what is left at the edge behind a member of a list
  rest_behind : (dir : Direction) (n : ℕ) (others : List ℕ)
      → ((y : ℕ) (ys : List ℕ) → others ≡ y ∷ ys → Mem y (list_at dir g n) × (from_on y (list_at dir g n) ≡ others))
      → rest_of_walk dir g (first_of end others) ≡ others
  rest_behind dir n [] h = ap (rest_with dir g end) (no_edge_at (edge_at g end) refl)
  rest_behind dir n (y ∷ ys) h =
      let a = h y ys refl in
      let x = member_at dir n y a.0 in
      ap (rest_with dir g y) x.1 ∙ (ap (λ k. from_on y (list_at dir g k)) x.2 ∙ a.1)

  -- a walk that was just begun has its whole list left
  pub whole_walk : (dir : Direction) (n : ℕ) → rest_of_walk dir g (first_of end (list_at dir g n)) ≡ list_at dir g n
  whole_walk dir n =
      rest_behind dir n (list_at dir g n) (λ y ys k. let m : Mem y (list_at dir g n) =
      subst (Mem y) (sym k) (inl refl) in (m, ap (from_on y) k ∙ (meets y ys ∙ sym k)))

  -- A step gives the first of the rest, or nothing where nothing is left.
  pub step_gives : (dir : Direction) (e : ℕ) (item : Option (ℕ × ℕ)) (e' : ℕ) → IsWalkStep dir end g e item e'
      → MatchOption item ((rest_of_walk dir g e ≡ []) × (rest_of_walk dir g e' ≡ []))
      (λ p. rest_of_walk dir g e ≡ p.0 ∷ rest_of_walk dir g e')
  step_gives dir e item e' s = go (edge_at g e) refl
    where
      go : (o : Option (Edge E)) → edge_at g e ≡ o
          → MatchOption item ((rest_of_walk dir g e ≡ []) × (rest_of_walk dir g e' ≡ []))
          (λ p. rest_of_walk dir g e ≡ p.0 ∷ rest_of_walk dir g e')
      go None h =
          let none : item ≡ None = s.item_is ∙ ap (item_at dir g e) h in
          let same : e' ≡ e = s.next_is ∙ ap (cursor_after dir end g e) h in
          let over : rest_of_walk dir g e ≡ [] = ap (rest_with dir g e) h in
          subst (λ k. MatchOption k ((rest_of_walk dir g e ≡ []) × (rest_of_walk dir g e' ≡ []))
          (λ p. rest_of_walk dir g e ≡ p.0 ∷ rest_of_walk dir g e'))
          (sym none) (over, subst (λ k. rest_of_walk dir g k ≡ []) (sym same) over)
      go (Some x) h =
          let n = near_end dir x in
          let b = behind end e (list_at dir g n) (unique_at dir n) (listed_at dir n e x h refl) in
          let some : item ≡ Some (e, far_end dir x) = s.item_is ∙ ap (item_at dir g e) h in
          let next : e' ≡ first_of end b.others = (s.next_is ∙ ap (cursor_after dir end g e) h) ∙ b.next in
          let begun : rest_of_walk dir g e ≡ e ∷ b.others = ap (rest_with dir g e) h ∙ b.rest in
          let ended : rest_of_walk dir g e' ≡ b.others =
          ap (rest_of_walk dir g) next ∙ rest_behind dir n b.others b.goes in
          subst (λ k. MatchOption k ((rest_of_walk dir g e ≡ []) × (rest_of_walk dir g e' ≡ []))
          (λ p. rest_of_walk dir g e ≡ p.0 ∷ rest_of_walk dir g e'))
          (sym some) (begun ∙ ap (λ k. e ∷ k) (sym ended))

  edge_below_end : (e : ℕ) (x : Edge E) → edge_at g e ≡ Some x → e < end
  edge_below_end e x a = omega (arith, slice_get_within g.edges e (Some x) (slot_get g.edges e x a), w.few_edges)

  -- a list has no more edges than there are indices
  pub few_in : (dir : Direction) (n : ℕ) → length (list_at dir g n) ≤ end
  few_in Outgoing n =
      length_le (out_list g n) end (w.out_of.once n) (λ e p. let x = (w.out_of.exact n e).0 p in
      edge_below_end e x.0 x.1)
  few_in Incoming n =
      length_le (in_list g n) end (w.in_of.once n) (λ e p. let x = (w.in_of.exact n e).0 p in edge_below_end e x.0 x.1)

module _ {N E Ix : Type 0} (number : Ix → ℕ) (dir : Direction) where
  -- what a step tells of what is left, by the index of the edge that it gives
  abbrev Yields : Graph N E → ℕ → Option (Ix × Ix) → ℕ → Type 0
  Yields g e r e' =
      MatchOption r ((rest_of_walk dir g e ≡ []) × (rest_of_walk dir g e' ≡ []))
      (λ x. rest_of_walk dir g e ≡ number x.0 ∷ rest_of_walk dir g e')

  by_index : (end : ℕ) (g : Graph N E) → IsWellFormed end g → (e : ℕ) (r : Option (Ix × Ix)) (e' : ℕ)
      → IsWalkStep dir end g e (option_map (pair_of number) r) e' → Yields g e r e'
  by_index end g w e None e' s = step_gives end g w dir e None e' s
  by_index end g w e (Some x) e' s = step_gives end g w dir e (Some (pair_of number x)) e' s

  -- A step over the graph h from f, which are g and e by other names.
  pub steps : (end : ℕ) {g h : Graph N E} {e f : ℕ} (r : Option (Ix × Ix)) (e' : ℕ)
      → IsWellFormed end h → h ≡ g → f ≡ e → IsWalkStep dir end h f (option_map (pair_of number) r) e'
      → IsWalkStep dir end g e (option_map (pair_of number) r) e' × Yields g e r e'
  steps end {g} {h} {e} {f} r e' w graph cursor s =
      let here : IsWalkStep dir end g e (option_map (pair_of number) r) e' =
      subst (λ k. IsWalkStep dir end g k (option_map (pair_of number) r) e') cursor
      (subst (λ k. IsWalkStep dir end k f (option_map (pair_of number) r) e') graph s) in
      (here, by_index end g (subst (IsWellFormed end) graph w) e r e' here)

  -- So what is left falls by one where an edge came, and does not rise.
  pub falls : (g : Graph N E) (e : ℕ) (r : Option (Ix × Ix)) (e' : ℕ)
      → Yields g e r e' → length (rest_of_walk dir g e') + option_len r ≤ length (rest_of_walk dir g e)
  falls g e None e' y = omega (arith, ap length y.1)
  falls g e (Some x) e' y = omega (arith, ap length y)
