-- The marked part of a graph, with its edges as they are or reversed.
use Rattle.std.specs.Prelude.{◌≡◌, ℕ, ◌&&◌, Bool, true, false, Option, Some, None, List, option_and_then, option_copied}
use Rattle.std.specs.Prelude.{slice_index_or}
use Rattle.std.specs.Option.{option_map}
use Rattle.std.specs.Borrow.{Bor}
use Rattle.daggy_base.specs.declared.index.Direction.{Direction}
use Rattle.daggy_base.specs.declared.index.Direction.TheVariants.{Outgoing, Incoming}
use Rattle.daggy_base.specs.Graph.{Graph, node_weight, edge_at, ends_of}
use Rattle.daggy_base.specs.FromSlots.{graph_of_slots}

-- a value, if it is kept
abbrev pub kept : {A : Type 0} → Bool → Option A → Option A
kept true x = x
kept false x = None

-- the mark of a node
abbrev pub mark_of : List Bool → ℕ → Bool
mark_of marks n = slice_index_or marks n false

-- the ends of an edge that is read in that direction
abbrev pub turned : Direction → ℕ × ℕ → ℕ × ℕ
turned Outgoing ends = ends
turned Incoming ends = (ends.1, ends.0)

-- the ends of an edge, whose indices have these numbers
abbrev pub ends_by : {I F : Type 0} → (number : I → ℕ) → I × I × F → ℕ × ℕ
ends_by number x = (number x.0, number x.1)

-- the ends, if both are marked
abbrev pub kept_ends : Direction → List Bool → Option (ℕ × ℕ) → Option (ℕ × ℕ)
kept_ends dir marks o =
    option_and_then (λ p. kept (mark_of marks p.0 && mark_of marks p.1) (Some (turned dir p))) o

-- h has the marked nodes of g and the edges between them, read in that direction, at the same indices
pub record IsPart {N E F : Type 0} (dir : Direction) (marks : List Bool) (g : Graph N E) (h : Graph (Bor N) F)
    : Type 0 where
  pub nodes : (n : ℕ) → option_copied (node_weight h n) ≡ kept (mark_of marks n) (node_weight g n)
  pub edges : (e : ℕ) → option_map ends_of (edge_at h e) ≡ kept_ends dir marks (option_map ends_of (edge_at g e))
  pub lists : h ≡ graph_of_slots h.nodes h.edges
