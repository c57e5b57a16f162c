-- What is noted of the edges between components.
use Rattle.std.specs.Prelude.{◌≡◌, ◌≢◌, ℕ, ◌≤◌, ◌⊎◌, Option, Some, List, [], ◌∷◌, ◌++◌, length, slice_index, slice_set}
use Rattle.daggy_base.specs.Graph.{Edge, slot}

-- the slot holds an edge from j to k
abbrev pub Joins : {X : Type 0} → List (Option (Edge X)) → (at j k : ℕ) → Type 0
Joins {X} slots at j k = (x : Edge X) × (slot slots at ≡ Some x) × (x.parent ≡ j) × (x.child ≡ k)

-- An edge from j to k, as good as e: in a slot that holds such an edge, the one with the smaller index is left.
pub record IsLowered {X : Type 0} (number : X → ℕ) (old new : List (Option (Edge X))) (at j k : ℕ) (e : X) : Type 0 where
  pub was : Joins old at j k
  pub weight : X
  pub is : slot new at ≡ Some (record { parent = j; child = k; weight = weight })
  pub one_of : (slot old at ≡ Some (record { parent = j; child = k; weight = weight })) ⊎ (weight ≡ e)
  pub least : (x : Edge X) → slot old at ≡ Some x → number weight ≤ number x.weight
  pub low : number weight ≤ number e
  pub others : (i : ℕ) → i ≢ at → slot new i ≡ slot old i
  pub long : length new ≡ length old

-- it is put into a new slot, which is noted for k
pub record IsAppended {X : Type 0} (old new : List (Option (Edge X))) (found found' : List ℕ) (j k : ℕ) (e : X)
    : Type 0 where
  pub was : ¬ Joins old (slice_index found k) j k
  pub slots : new ≡ old ++ Some (record { parent = j; child = k; weight = e }) ∷ []
  pub noted : found' ≡ slice_set found k (length old)
