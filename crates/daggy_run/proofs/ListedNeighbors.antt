-- A node's edges with their far ends, listed step by step.
use Rattle.std.proofs.Common.{◌≡◌, ℕ, ◌<◌, List, [], ◌∷◌, ◌++◌, length, map, Option, Some, None, refl, sym, ap, ◌∙◌}
use Rattle.std.proofs.Common.{append_assoc, arith}
use Rattle.std.specs.List.{filter_map}
use Rattle.std.specs.Option.{option_map}
use Rattle.std.proofs.lemmas.List.{map-append}
use Rattle.daggy_base.specs.declared.index.Direction.{Direction}
use Rattle.daggy_base.specs.declared.index.Direction.TheVariants.{Outgoing}
use Rattle.daggy_base.specs.Graph.{Graph, Edge, edge_at, list_at, far_end, pair_of, ends_of}
use Rattle.daggy_base.specs.WellFormed.{IsWellFormed}
use Rattle.daggy_base.specs.Cursor.{first_of, IsWalkStep, item_at, cursor_after}
use Rattle.daggy_base.specs.Look.{IsLook}
use Rattle.daggy_dag.specs.Walks.{rest_of_walk}
use Rattle.daggy_dag.proofs.WalkSteps.{whole_walk, step_gives}
use Rattle.daggy_run.specs.Steps.{walk_of}

-- edges with their far ends
abbrev pub items_of : {N E : Type 0} → Direction → Graph N E → List ℕ → List (ℕ × ℕ)
items_of {N} {E} dir g es =
    map (λ (p : ℕ × Edge E). (p.0, far_end dir p.1)) (filter_map (λ e. option_map (λ x. (e, x)) (edge_at g e)) es)

module _ {N E : Type 0} (dir : Direction) (end : ℕ) (g : Graph N E) (w : IsWellFormed end g) where
  -- all are left where the walk begins
  pub all_left : (n cursor : ℕ)
      → cursor ≡ first_of end (list_at dir g n) → items_of dir g (rest_of_walk dir g cursor) ≡ walk_of dir g n
  all_left n cursor first = ap (items_of dir g) (ap (rest_of_walk dir g) first ∙ whole_walk end g w dir n)

  one_item : (e : ℕ) (x : Edge E) (es : List ℕ)
      → edge_at g e ≡ Some x → items_of dir g (e ∷ es) ≡ (e, far_end dir x) ∷ items_of dir g es
  one_item e x es at = rw at refl

  -- what a step does
  pub record Steps (cursor next : ℕ) (item : ℕ × ℕ) : Type 0 where
    pub rest : rest_of_walk dir g cursor ≡ item.0 ∷ rest_of_walk dir g next
    pub items : items_of dir g (rest_of_walk dir g cursor) ≡ item ∷ items_of dir g (rest_of_walk dir g next)

  pub steps : (cursor next : ℕ) (item : ℕ × ℕ) → IsWalkStep dir end g cursor (Some item) next → Steps cursor next item
  steps cursor next item s = go (edge_at g cursor) refl s.item_is
    where
      go : (o : Option (Edge E)) → edge_at g cursor ≡ o → Some item ≡ item_at dir g cursor o → Steps cursor next item
      go None at is = absurd cc
      go (Some x) at is =
          let same : item ≡ (cursor, far_end dir x) = cc in
          let rest = step_gives end g w dir cursor (Some item) next s in
          let first : item.0 ≡ cursor = ap (λ p. p.0) same in
          record {
            rest = rest;
            items =
                ap (items_of dir g) (rest ∙ ap (λ e. e ∷ rest_of_walk dir g next) first) ∙ one_item cursor x _ at
                ∙ ap (λ p. p ∷ items_of dir g (rest_of_walk dir g next)) (sym same);
          }

  -- the same of a list that grows by the items
  module _ {I : Type 0} (number : I → ℕ) where
    pub grows : {cursor next : ℕ} (item : I × I) (listed : List (I × I)) {more : List (I × I)} {whole : List (ℕ × ℕ)}
        → IsWalkStep dir end g cursor (Some (pair_of number item)) next → more ≡ listed ++ item ∷ []
        → map (pair_of number) listed ++ items_of dir g (rest_of_walk dir g cursor) ≡ whole
        → map (pair_of number) more ++ items_of dir g (rest_of_walk dir g next) ≡ whole
    grows {cursor} {next} item listed s more_is so_far =
        let step = steps cursor next (pair_of number item) s in
        rw (more_is, map-append (pair_of number) listed (item ∷ []), append_assoc) (rw step.items at so_far)

    pub fewer_left : (cursor next : ℕ) (item : I × I) → IsWalkStep dir end g cursor (Some (pair_of number item)) next
        → length (rest_of_walk dir g next) < length (rest_of_walk dir g cursor)
    fewer_left cursor next item s = let step = steps cursor next (pair_of number item) s in
        omega (arith, ap length step.rest)

-- the ends of an edge, and the edge behind it, are what a look at it tells
pub looked : {N E : Type 0} (end : ℕ) (g h : Graph N E) (e : ℕ) {next : ℕ} {ends : Option (ℕ × ℕ)} (p : ℕ × ℕ)
    → h ≡ g → ends ≡ Some p → ends ≡ option_map ends_of (edge_at h e)
    → next ≡ cursor_after Outgoing end h e (edge_at h e) → IsLook end g e p.1 next
looked {N} {E} end g h e {next} p same there ends_are next_is =
    go (edge_at g e) refl (sym there ∙ ends_are ∙ ap (λ k. option_map ends_of (edge_at k e)) same)
    (next_is ∙ ap (λ k. cursor_after Outgoing end k e (edge_at k e)) same)
  where
    go : (o : Option (Edge E)) → edge_at g e ≡ o → Some p ≡ option_map ends_of o
        → next ≡ cursor_after Outgoing end g e o → IsLook end g e p.1 next
    go None at is after = absurd cc
    go (Some x) at is after = let same_ends : p ≡ ends_of x = cc in
        record { edge = x; at = at; child_is = ap (λ q. q.1) same_ends; next_is = after }
