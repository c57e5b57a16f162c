-- What a step of a walk says of an edge, and the list of its far end.
use Rattle.std.proofs.Common.{◌≡◌, ℕ, Some, None, Option, List, [], ◌∷◌, refl, sym, subst, ap, ◌∙◌, Contains}
use Rattle.std.proofs.lemmas.Option.{same_Some}
use Rattle.daggy_base.specs.declared.index.Direction.{Direction}
use Rattle.daggy_base.specs.declared.index.Direction.TheVariants.{Outgoing, Incoming}
use Rattle.daggy_base.specs.Graph.{Graph, Edge, list_at, edge_at, far_end}
use Rattle.daggy_base.specs.Cursor.{IsWalkStep, first_of, item_at}
use Rattle.daggy_base.specs.Directions.{opposite}
use Rattle.daggy_base.specs.WellFormed.{IsWellFormed}
use Rattle.daggy_base.proofs.Lists.{Contains-nil, Contains-here}

pub no_step : {N E : Type 0} (dir : Direction) (end : ℕ) (g : Graph N E) (cursor next : ℕ)
    → IsWalkStep dir end g cursor None next → edge_at g cursor ≡ None
no_step {N} {E} dir end g cursor next s = go (edge_at g cursor) refl s.item_is
  where
    go : (o : Option (Edge E)) → edge_at g cursor ≡ o → None ≡ item_at dir g cursor o → edge_at g cursor ≡ None
    go None at is = at
    go (Some x) at is = absurd cc

pub one_step : {N E : Type 0} (dir : Direction) (end : ℕ) (g : Graph N E) (cursor next : ℕ) (item : ℕ × ℕ)
    → IsWalkStep dir end g cursor (Some item) next
    → (x : Edge E) × (edge_at g cursor ≡ Some x) × (item.1 ≡ far_end dir x)
one_step {N} {E} dir end g cursor next item s = go (edge_at g cursor) refl s.item_is
  where
    go : (o : Option (Edge E)) → edge_at g cursor ≡ o → Some item ≡ item_at dir g cursor o
        → (x : Edge E) × (edge_at g cursor ≡ Some x) × (item.1 ≡ far_end dir x)
    go None at is = absurd cc
    go (Some x) at is = (x, at, ap (λ (p : ℕ × ℕ). p.1) (same_Some _ _ is))

first_in : (end : ℕ) (xs : List ℕ) (e : ℕ) → Contains xs e → Contains xs (first_of end xs)
first_in end [] e c = absurd (Contains-nil e c)
first_in end (x ∷ xs) e c = Contains-here x xs

module _ {N E : Type 0} {end : ℕ} {g : Graph N E} (f : IsWellFormed end g) where
  -- an edge stands in the list of its far end
  listed_there : (dir : Direction) (e : ℕ) (x : Edge E)
      → edge_at g e ≡ Some x → Contains (list_at (opposite dir) g (far_end dir x)) e
  listed_there Outgoing e x at = (f.in_of.exact x.child e).1 (x, at, refl)
  listed_there Incoming e x at = (f.out_of.exact x.parent e).1 (x, at, refl)

  -- an edge that stands there ends there
  ends_there : (dir : Direction) (n e : ℕ) → Contains (list_at (opposite dir) g n) e
      → (x : Edge E) × (edge_at g e ≡ Some x) × (far_end dir x ≡ n)
  ends_there Outgoing n e c = (f.in_of.exact n e).0 c
  ends_there Incoming n e c = (f.out_of.exact n e).0 c

  -- so does the first edge of that list, and a step there gives it
  pub far_list_begins : {dir back : Direction} {cursor next first after : ℕ} {item : ℕ × ℕ}
      {found : Option (ℕ × ℕ)} → IsWalkStep dir end g cursor (Some item) next → back ≡ opposite dir
      → first ≡ first_of end (list_at back g item.1) → IsWalkStep dir end g first found after
      → found ≡ Some (first, item.1)
  far_list_begins {dir} {back} {cursor} {next} {first} {after} {item} step is_back is_first step_there =
      let here = one_step dir end g cursor next item step in
      let list = list_at (opposite dir) g item.1 in
      let there : Contains list cursor = (
      let P : ℕ → Type 0 = λ z. Contains (list_at (opposite dir) g z) cursor in
      subst P (sym here.2) (listed_there dir cursor here.0 here.1)
      ) in
      let at : first ≡ first_of end list = is_first ∙ ap (λ d. first_of end (list_at d g item.1)) is_back in
      let P : ℕ → Type 0 = λ z. Contains list z in
      let x = ends_there dir item.1 first (subst P (sym at) (first_in end list cursor there)) in
      step_there.item_is ∙ ap (item_at dir g first) x.1 ∙ ap (λ n. Some (first, n)) x.2
