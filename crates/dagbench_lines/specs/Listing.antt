-- The lists in the words of a line.
use Rattle.std.specs.Prelude.{ℕ, Option, Some, None, List, [], ◌∷◌, ℤ}
use Rattle.std.specs.Option.{option_map}
use Rattle.dagbench_lines.specs.Numbers.{index_of, weight_of}

infixl 10 ◌>>=◌
-- what the function makes of the content, if there is any
abbrev pub ◌>>=◌ : {A B : Type 0} → Option A → (A → Option B) → Option B
None >>= f = None
(Some x) >>= f = f x

-- the meaning of the first word, and the words after it
abbrev pub first_by : {A : Type 0} → (List ℕ → Option A) → List (List ℕ) → Option (A × List (List ℕ))
first_by meaning [] = None
first_by meaning (word ∷ words) = option_map (λ x. (x, words)) (meaning word)

-- the first edge of a list, and the words after it
unfoldable pub first_edge_of : List (List ℕ) → Option ((ℕ × ℕ × ℤ) × List (List ℕ))
first_edge_of words = do
  parent ← first_by index_of words
  child ← first_by index_of parent.1
  weight ← first_by weight_of child.1
  Some ((parent.0, child.0, weight.0), weight.1)

-- a list of edges, three words each
abbrev pub edges_by_words : List (List ℕ) → Option (List (ℕ × ℕ × ℤ))
edges_by_words [] = Some []
edges_by_words (parent ∷ []) = None
edges_by_words (parent ∷ child ∷ []) = None
edges_by_words (parent ∷ child ∷ weight ∷ words) = do
  p ← index_of parent
  c ← index_of child
  w ← weight_of weight
  edges ← edges_by_words words
  Some ((p, c, w) ∷ edges)

-- a list of indices, a word each
abbrev pub indices_by_words : List (List ℕ) → Option (List ℕ)
indices_by_words [] = Some []
indices_by_words (word ∷ words) = do
  n ← index_of word
  indices ← indices_by_words words
  Some (n ∷ indices)
