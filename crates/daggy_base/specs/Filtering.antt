-- The graph of the nodes and edges that are kept: they are added to an empty graph, one after another.
use Rattle.std.specs.Prelude.{◌≡◌, ℕ, ◌+◌, Option, Some, None, List, [], ◌∷◌, map}
use Rattle.std.specs.Option.{option_map}
use Rattle.std.specs.Borrow.{Bor}
use Rattle.daggy_base.specs.declared.index.Direction.{Direction}
use Rattle.daggy_base.specs.Graph.{Graph, Edge, empty, slot, list_at, ends_of}
use Rattle.daggy_base.specs.Adding.{with_node, with_edge, next_node}
use Rattle.daggy_base.specs.Reduction.{IsDescending}
use Rattle.daggy_base.specs.Mapping.{CalledAt}

module _ {V W : Type 0} where
  -- the graph with one more node, if a weight is given
  abbrev pub with_kept_node : Graph V W → Option V → Graph V W
  with_kept_node h None = h
  with_kept_node h (Some v) = with_node h v

  -- the index of that node, if it is kept
  abbrev pub named : Graph V W → Option V → Option ℕ
  named h None = None
  named h (Some v) = Some (next_node h)

  -- the graph with one more edge, if both ends and a weight are given
  abbrev pub with_kept_edge : Graph V W → ℕ × ℕ → Option W → Graph V W
  with_kept_edge h ends None = h
  with_kept_edge h ends (Some w) = with_edge h ends.0 ends.1 w

-- both numbers, if both are given
abbrev pub both : Option ℕ → Option ℕ → Option (ℕ × ℕ)
both None b = None
both (Some a) None = None
both (Some a) (Some b) = Some (a, b)

-- the new indices of an edge's endpoints, if both are kept
abbrev pub new_ends : {E : Type 0} → List (Option ℕ) → Edge E → Option (ℕ × ℕ)
new_ends names x = both (slot names x.parent) (slot names x.child)

module _ {N V W F I : Type 0} (step : F → I → Bor N → Option V → F → Type 0) (of : ℕ → I) where
  -- f was called for each node from the index i on; the nodes that it keeps were added to h, which gave new; and names
  -- has the new index of each slot's node
  abbrev pub FiltersNodes : F → ℕ → List (Option N) → Graph V W → List (Option ℕ) → Graph V W → Type 0
  FiltersNodes f i [] h names new = (names ≡ []) × (new ≡ h)
  FiltersNodes f i (None ∷ xs) h names new =
      (rest : List (Option ℕ)) × (names ≡ None ∷ rest) × FiltersNodes f (i + 1) xs h rest new
  FiltersNodes f i (Some x ∷ xs) h names new =
      (r : Option V) × (next : F) × CalledAt step of f i x r next × (rest : List (Option ℕ))
      × (names ≡ named h r ∷ rest) × FiltersNodes next (i + 1) xs (with_kept_node h r) rest new

module _ {E V W G I : Type 0} (step : G → I → Bor E → Option W → G → Type 0) (of : ℕ → I)
    (names : List (Option ℕ)) where
  -- g was called for an edge if and only if both its endpoints are kept
  abbrev pub FiltersEdge : G → ℕ → E → Option (ℕ × ℕ) → Graph V W → (G → Graph V W → Type 0) → Type 0
  FiltersEdge g e w None h later = later g h
  FiltersEdge g e w (Some ends) h later =
      (r : Option W) × (next : G) × CalledAt step of g e w r next × later next (with_kept_edge h ends r)

  -- the edges from the index e on that g keeps were added to h, which gave new
  abbrev pub FiltersEdges : G → ℕ → List (Option (Edge E)) → Graph V W → Graph V W → Type 0
  FiltersEdges g e [] h new = new ≡ h
  FiltersEdges g e (None ∷ xs) h new = FiltersEdges g (e + 1) xs h new
  FiltersEdges g e (Some x ∷ xs) h new =
      FiltersEdge g e x.weight (new_ends names x) h (λ next mid. FiltersEdges next (e + 1) xs mid new)

module _ {N E V W F G I : Type 0} (of : ℕ → I) (step_f : F → I → Bor N → Option V → F → Type 0)
    (step_g : G → I → Bor E → Option W → G → Type 0) where
  -- new has the nodes that f keeps, and of the edges between them those that g keeps
  pub record IsFiltered (f : F) (g : G) (old : Graph N E) (new : Graph V W) : Type 0 where
    pub names : List (Option ℕ)
    pub middle : Graph V W
    pub nodes : FiltersNodes step_f of f 0 old.nodes empty names middle
    pub edges : FiltersEdges step_g of names g 0 old.edges middle new

-- each list is in descending index order
abbrev pub ListsDescend : {N E : Type 0} → Graph N E → Type 0
ListsDescend g = (dir : Direction) (n : ℕ) → IsDescending (list_at dir g n)

-- the edges have the same endpoints
abbrev pub HaveSameEnds : {N E V W : Type 0} → Graph N E → Graph V W → Type 0
HaveSameEnds old new = map (option_map ends_of) new.edges ≡ map (option_map ends_of) old.edges
