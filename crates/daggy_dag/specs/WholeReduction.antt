-- The reduction of a whole dag.
use Rattle.std.specs.Prelude.{ℕ, ◌↔◌, List}
use Rattle.daggy_base.specs.Graph.{Graph}
use Rattle.daggy_base.specs.Path.{AreJoined}
use Rattle.daggy_base.specs.Reduction.{IsReduction, Covers}
use Rattle.daggy_base.specs.declared.kind.Kind.{Kind}
use Rattle.daggy_redundant.specs.Comparison.{ReachAll}

module _ {N E : Type 0} where
  -- new is the reduction of old from roots that reach all of its nodes
  abbrev pub IsWholeReduction : Kind → (old new : Graph N E) → Type 0
  IsWholeReduction kind old new = (roots : List ℕ) × ReachAll old roots × IsReduction kind roots old new

  -- two nodes are adjacent in new if and only if one covers the other in old
  abbrev pub JoinsCoversOnly : (old new : Graph N E) → Type 0
  JoinsCoversOnly old new = (u v : ℕ) → AreJoined new u v ↔ Covers old u v
