-- Graphs that differ only in their weights.
use Rattle.std.specs.Prelude.{◌≡◌, ℕ, is_some}
use Rattle.std.specs.Option.{option_map}
use Rattle.daggy_base.specs.declared.index.Direction.{Direction}
use Rattle.daggy_base.specs.Graph.{Graph, node_weight, node_bound, edge_at, ends_of, list_at}

-- the same nodes and edges exist; each edge has the same endpoints and is in the same lists
pub record HasSameShape {N E M F : Type 0} (g : Graph N E) (h : Graph M F) : Type 0 where
  pub nodes : (n : ℕ) → is_some (node_weight h n) ≡ is_some (node_weight g n)
  pub ends : (e : ℕ) → option_map ends_of (edge_at h e) ≡ option_map ends_of (edge_at g e)
  pub lists : (dir : Direction) (n : ℕ) → list_at dir h n ≡ list_at dir g n
  pub bound : node_bound h ≡ node_bound g
