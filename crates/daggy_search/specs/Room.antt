-- What a scratch has room for, and what a search left in it.
use Rattle.std.specs.Prelude.{ℕ, List}

-- the most nodes and edges that a graph may have to be searched, the most nodes that it may have to be searched by
-- blocks, and the edges that the last search found
pub record Room (I : Type 0) : Type 0 where
  pub nodes : ℕ
  pub edges : ℕ
  pub rows : ℕ
  pub found : List I
