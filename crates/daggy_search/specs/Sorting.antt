-- Nodes sorted topologically.
use Rattle.std.specs.Prelude.{ℕ, ◌↔◌, List, [], ◌∷◌, Contains}
use Rattle.daggy_base.specs.Graph.{Graph, HasNode}
use Rattle.daggy_base.specs.Path.{AreJoined}
use Rattle.daggy_base.specs.WellFormed.{AreDistinct}

-- each node of the list leads only to later nodes of it
abbrev pub LeadsOnward : {N E : Type 0} → Graph N E → List ℕ → Type 0
LeadsOnward g [] = Unit {0}
LeadsOnward g (u ∷ us) = ((v : ℕ) → AreJoined g u v → Contains us v) × LeadsOnward g us

-- the existing nodes, each once, and each before its children
pub record IsSorted {N E : Type 0} (g : Graph N E) (nodes : List ℕ) : Type 0 where
  pub exact : (n : ℕ) → Contains nodes n ↔ HasNode g n
  pub once : AreDistinct nodes
  pub onward : LeadsOnward g nodes
