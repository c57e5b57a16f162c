-- The edges that enter a node, one after another.
use Rattle.std.proofs.Common.{◌≡◌, ℕ, Option, Some, None, List, [], ◌∷◌, ◌++◌, map, reverse, refl, sym, ap, ◌∙◌}
use Rattle.std.proofs.Common.{append_assoc}
use Rattle.std.proofs.lemmas.List.{map-append, reverse-append}
use Rattle.std.proofs.lemmas.Option.{same_Some}
use Rattle.std.specs.List.{filter_map, cons_option}
use Rattle.std.specs.Option.{option_map}
use Rattle.daggy_base.specs.declared.index.Direction.TheVariants.{Incoming}
use Rattle.daggy_base.specs.Cursor.{IsWalkStep}
use Rattle.daggy_base.specs.Graph.{Graph, Edge, edge_at, pair_of}
use Rattle.daggy_base.specs.WellFormed.{IsWellFormed}
use Rattle.daggy_dag.specs.Walks.{rest_of_walk}
use Rattle.daggy_computed.proofs.Walked.{ahead, edge}

abbrev pub shown_edge : {E : Type 0} → ℕ × Edge E → ℕ × E
shown_edge p = (p.1.parent, p.1.weight)

-- the edges of a list, each with its index
abbrev pub indexed : {N E : Type 0} → Graph N E → List ℕ → List (ℕ × Edge E)
indexed g es = filter_map (λ e. option_map (λ x. (e, x)) (edge_at g e)) es

-- the parent and the weight of each of them
abbrev pub shown : {N E : Type 0} → Graph N E → List ℕ → List (ℕ × E)
shown g es = map shown_edge (indexed g es)

shown_with : {N E : Type 0} (g : Graph N E) (e : ℕ) (o : Option (Edge E)) (es : List ℕ) (x : Edge E) → o ≡ Some x
    → map shown_edge (cons_option (option_map (λ x. (e, x)) o) (indexed g es)) ≡ (x.parent, x.weight) ∷ shown g es
shown_with g e None es x is = absurd cc
shown_with g e (Some y) es x is = ap (λ z. (z.parent, z.weight) ∷ shown g es) (same_Some y x is)

shown_more : {N E : Type 0} (g : Graph N E) (e : ℕ) (es : List ℕ) (x : Edge E) → edge_at g e ≡ Some x
    → shown g (e ∷ es) ≡ (x.parent, x.weight) ∷ shown g es
shown_more g e es x is = shown_with g e (edge_at g e) es x is

module _ {N E I : Type 0} (number : I → ℕ) {end : ℕ} {g : Graph N E} (w : IsWellFormed end g) {cursor next : ℕ} (item : I × I)
    (s : IsWalkStep Incoming end g cursor (Some (pair_of number item)) next) where
  -- one edge more
  pub shown_ahead : (old new : List (I × E)) (v : E) (all : List (ℕ × E)) → Some v ≡ option_map (λ x. x.weight) (edge_at g (number item.0))
      → new ≡ old ++ (item.1, v) ∷ []
      → map (λ x. (number x.0, x.1)) old ++ shown g (rest_of_walk Incoming g cursor) ≡ all
      → map (λ x. (number x.0, x.1)) new ++ shown g (rest_of_walk Incoming g next) ≡ all
  shown_ahead old new v all weight is so_far =
      let pairs : List (I × E) → List (ℕ × E) = map (λ x. (number x.0, x.1)) in
      let rest = shown g (rest_of_walk Incoming g next) in
      let x = edge number Incoming w item s in
      let value : v ≡ x.0.weight = same_weight v x.0 (weight ∙ ap (option_map (λ x. x.weight)) x.1) in
      let front : shown g (rest_of_walk Incoming g cursor) ≡ (number item.1, v) ∷ rest =
      ap (shown g) (ahead number Incoming w item s)
      ∙ (shown_more g (number item.0) (rest_of_walk Incoming g next) x.0 x.1
      ∙ (ap (λ z. (z, x.0.weight) ∷ rest) x.2 ∙ ap (λ z. (number item.1, z) ∷ rest) (sym value))) in
      ap (λ z. pairs z ++ rest) is
      ∙ (ap (λ z. z ++ rest) (map-append (λ x. (number x.0, x.1)) old ((item.1, v) ∷ []))
      ∙ (append_assoc (pairs old) ((number item.1, v) ∷ []) rest ∙ (ap (λ z. pairs old ++ z) (sym front) ∙ so_far)))
    where
      same_weight : (v : E) (x : Edge E) → Some v ≡ Some x.weight → v ≡ x.weight
      same_weight v x e = same_Some v x.weight e

-- a list the other way round
pub map_back : {A B : Type 0} (f : A → B) (xs : List A) → map f (reverse xs) ≡ reverse (map f xs)
map_back f [] = refl
map_back f (x ∷ xs) =
    ap (map f) (reverse-append (x ∷ []) xs)
    ∙ (map-append f (reverse xs) (x ∷ [])
    ∙ (ap (λ z. z ++ f x ∷ []) (map_back f xs) ∙ sym (reverse-append (f x ∷ []) (map f xs))))
