-- A node that was just added.
use Rattle.std.specs.Prelude.{◌≡◌, ℕ, List, [], ◌∷◌, ◌++◌, length}
use Rattle.daggy_base.specs.Graph.{Graph}
use Rattle.daggy_base.specs.Adding.{with_node, next_node}
use Rattle.daggy_base.specs.declared.kind.Kind.{Kind}
use Rattle.daggy_base.specs.declared.kind.Kind.TheVariants.{Compact}
use Rattle.daggy_base.specs.WellFormed.{IsWellFormed}
use Rattle.daggy_base.specs.declared.index.Direction.{Direction}
use Rattle.daggy_base.specs.declared.index.Direction.TheVariants.{Outgoing, Incoming}

-- now is old with the node n of weight w added; slot_count is the number of node slots before
pub record IsAddedNode {N E : Type 0} (limit : ℕ) (kind : Kind) (old now : Graph N E) (w : N)
    (n slot_count : ℕ) : Type 0 where
  pub well_formed : IsWellFormed limit old
  pub compact : kind ≡ Compact → old.vacant_nodes ≡ []
  pub now_is : now ≡ with_node old w
  pub index_is : n ≡ next_node old
  pub slot_count_is : slot_count ≡ length old.nodes

-- the order with the node last if edges will enter it, or first if they will leave it
abbrev pub with_end : Direction → List ℕ → ℕ → List ℕ
with_end Outgoing order n = order ++ n ∷ []
with_end Incoming order n = n ∷ order
