-- The working memory of a search, as it is seen and as it is stored.
use Rattle.std.specs.Prelude.{◌≡◌, ℕ, ◌^◌, ◌<◌, ◌≤◌, ◌==◌, Bool, false, List, length, map, slice_index, slice_index_or}
use Rattle.daggy_search.specs.declared.worklist.Entry.{Entry}

-- the number of nodes that there is memory for, whether each node was entered and whether it was marked, and a list of
-- nodes with a cursor for each
pub record Work : Type 0 where
  pub size : ℕ
  pub entered : List Bool
  pub marked : List Bool
  pub nodes : List ℕ
  pub cursors : List ℕ

-- memory for `size` nodes: each list has as many entries
pub record IsSized (size : ℕ) (work : Work) : Type 0 where
  pub size_is : work.size ≡ size
  pub entered_are : length work.entered ≡ size
  pub marked_are : length work.marked ≡ size
  pub nodes_are : length work.nodes ≡ size
  pub cursors_are : length work.cursors ≡ size
  pub small : size < 2 ^ 64

-- nothing was entered or marked
pub record IsCleared (work : Work) : Type 0 where
  pub none_entered : (n : ℕ) → slice_index_or work.entered n false ≡ false
  pub none_marked : (n : ℕ) → slice_index_or work.marked n false ≡ false

-- whether a stamp is of a round
abbrev pub is_of : (round stamp : ℕ) → Bool
is_of round stamp = stamp == round

-- no stamp is of a later round
abbrev pub AreLow : (round : ℕ) → List ℕ → Type 0
AreLow round stamps = (n : ℕ) → slice_index stamps n ≤ round

-- what is stored at first
abbrev pub blank : {I : Type 0} → (end : ℕ) → Entry I
blank end = record { entered = 0; marked = 0; node = end; cursor = end }

-- in which round each node was last entered
abbrev pub entered_of : {I : Type 0} → List (Entry I) → List ℕ
entered_of entries = map (λ e. e.entered) entries

-- in which round each node was last marked
abbrev pub marked_of : {I : Type 0} → List (Entry I) → List ℕ
marked_of entries = map (λ e. e.marked) entries

-- the list of nodes that is stored beside the stamps
abbrev pub nodes_of : {I : Type 0} → List (Entry I) → List ℕ
nodes_of entries = map (λ e. e.node) entries

-- the list of cursors that is stored beside the stamps
abbrev pub cursors_of : {I : Type 0} → List (Entry I) → List ℕ
cursors_of entries = map (λ e. e.cursor) entries
