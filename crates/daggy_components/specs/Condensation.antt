-- Condensations: the components of a graph as nodes.
use Rattle.std.specs.Prelude.{◌≡◌, ◌≢◌, ℕ, ◌<◌, ◌≤◌, ◌↔◌, Option, Some, IsSome, List, length, slice_get}
use Rattle.std.specs.Prelude.{Contains}
use Rattle.std.specs.Option.{option_map}
use Rattle.daggy_base.specs.Graph.{Graph, Edge, slot, node_weight, edge_at}
use Rattle.daggy_base.specs.Path.{Reaches}
use Rattle.daggy_components.specs.Components.{component}

-- the edge e leads from the component j to the component k
abbrev pub LeadsBetween : {N E : Type 0} → Graph N E → List (List ℕ) → (e j k : ℕ) → Type 0
LeadsBetween {N} {E} g cs e j k =
    (x : Edge E) × (edge_at g e ≡ Some x) × Contains (component cs j) x.parent × Contains (component cs k) x.child

-- One edge for each two components that edges join: its weight is the least of these.
pub record AreBetween {N E X : Type 0} (number : X → ℕ) (g : Graph N E) (cs : List (List ℕ))
    (slots : List (Option (Edge X))) : Type 0 where
  pub lead : (i : ℕ) (x : Edge X) → slot slots i ≡ Some x
      → (x.parent ≢ x.child) × LeadsBetween g cs (number x.weight) x.parent x.child
  pub every : (e j k : ℕ) → LeadsBetween g cs e j k → j ≢ k
      → (i : ℕ) × (x : Edge X) × (slot slots i ≡ Some x) × (x.parent ≡ j) × (x.child ≡ k) × (number x.weight ≤ e)
  pub single : (h i : ℕ) (x y : Edge X) → slot slots h ≡ Some x → slot slots i ≡ Some y → x.parent ≡ y.parent
      → x.child ≡ y.child → h ≡ i
  pub full : (i : ℕ) → i < length slots → IsSome (slot slots i)

-- the condensation of a graph: a node for each component, with its members, and the edges between them
pub record IsCondensation {N E W X : Type 0} (members : W → List ℕ) (number : X → ℕ) (g : Graph N E)
    (cs : List (List ℕ)) (c : Graph W X) : Type 0 where
  pub nodes : (k : ℕ) → option_map members (node_weight c k) ≡ slice_get cs k
  pub edges : AreBetween number g cs c.edges

-- a node reaches another if and only if its component reaches that of the other
abbrev pub KeepsReachability : {N E W X : Type 0} → Graph N E → List (List ℕ) → Graph W X → Type 0
KeepsReachability g cs c =
    (j k u v : ℕ) → Contains (component cs j) u → Contains (component cs k) v → Reaches g u v ↔ Reaches c j k
