-- The order of the children of a node.
use Rattle.std.specs.Prelude.{◌≢◌, ℕ, ◌==◌, List, [], ◌∷◌, ◌++◌, Contains, slice_set, if◌then◌else◌}
use Rattle.daggy_base.specs.Graph.{Graph, out_list}

-- the graph with another out list of the node n
abbrev pub with_out_list : {N E : Type 0} → Graph N E → (n : ℕ) → List ℕ → Graph N E
with_out_list g n list = record g { out_lists = slice_set g.out_lists n list }

-- two different edges that leave the node n
pub record AreSiblings {N E : Type 0} (g : Graph N E) (n a b : ℕ) : Type 0 where
  pub first : Contains (out_list g n) a
  pub second : Contains (out_list g n) b
  pub different : a ≢ b

-- what stands for the edge x once e was moved before b: nothing for e, both for b
abbrev pub put_one : (e b x : ℕ) → List ℕ
put_one e b x = if x == e then [] else if x == b then e ∷ x ∷ [] else x ∷ []

-- a list with the edge e moved to the place before b
abbrev pub put_before : (e b : ℕ) → List ℕ → List ℕ
put_before e b [] = []
put_before e b (x ∷ xs) = put_one e b x ++ put_before e b xs
