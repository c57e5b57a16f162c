-- Dags made of dags, whose weights they borrow.
use Rattle.std.specs.Prelude.{◌≡◌, ℕ, ◌↔◌, Some, option_copied}
use Rattle.std.specs.Option.{option_map}
use Rattle.std.specs.Borrow.{Bor}
use Rattle.daggy_base.specs.Graph.{Graph, node_weight, edge_at, ends_of}
use Rattle.daggy_base.specs.FromSlots.{graph_of_slots}

-- an edge at that index leads from u to v
abbrev pub Leads : {N E : Type 0} → Graph N E → (e u v : ℕ) → Type 0
Leads g e u v = option_map ends_of (edge_at g e) ≡ Some (u, v)

-- h has the chosen nodes of g, with their weights, and the edges between them, at the same indices; each of its lists is
-- in descending index order
pub record IsSubgraph {N E F : Type 0} (chosen : ℕ → Type 0) (g : Graph N E) (h : Graph (Bor N) F) : Type 0 where
  pub nodes : (n : ℕ) (w : N) → (option_copied (node_weight h n) ≡ Some w) ↔ ((node_weight g n ≡ Some w) × chosen n)
  pub edges : (e u v : ℕ) → Leads h e u v ↔ (Leads g e u v × chosen u × chosen v)
  pub lists : h ≡ graph_of_slots h.nodes h.edges

-- h has the nodes of g, with their weights, and each edge of g reversed, at the same indices; each of its lists is in
-- descending index order
pub record IsReverse {N E F : Type 0} (g : Graph N E) (h : Graph (Bor N) F) : Type 0 where
  pub nodes : (n : ℕ) → option_copied (node_weight h n) ≡ node_weight g n
  pub edges : (e u v : ℕ) → Leads h e u v ↔ Leads g e v u
  pub lists : h ≡ graph_of_slots h.nodes h.edges
