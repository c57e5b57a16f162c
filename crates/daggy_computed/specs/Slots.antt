-- What is kept by index, once a node was taken out.
use Rattle.std.specs.Prelude.{◌≡◌, ◌≢◌, ℕ, List}
use Rattle.daggy_base.specs.declared.kind.Kind.{Kind}
use Rattle.daggy_base.specs.declared.kind.Kind.TheVariants.{Compact, Stable}
use Rattle.daggy_computed.specs.declared.entry.Entry.{Entry}
use Rattle.daggy_computed.specs.Cells.{blank, entry_at}

-- what was kept at the last index is kept at n, and nothing at the last one
pub record IsMovedDown {V : Type 0} (last n : ℕ) (es fs : List (Entry V)) : Type 0 where
  pub at : n ≢ last → entry_at fs n ≡ entry_at es last
  pub others : (m : ℕ) → m ≢ n → m ≢ last → entry_at fs m ≡ entry_at es m
  pub free : entry_at fs last ≡ blank

-- nothing is kept at n
pub record IsFreed {V : Type 0} (n : ℕ) (es fs : List (Entry V)) : Type 0 where
  pub others : (m : ℕ) → m ≢ n → entry_at fs m ≡ entry_at es m
  pub free : entry_at fs n ≡ blank

-- the node n was taken out; in the compact kind the last node has its index
abbrev pub IsTakenOut : {V : Type 0} → Kind → (last n : ℕ) → (es fs : List (Entry V)) → Type 0
IsTakenOut Compact last n es fs = IsMovedDown last n es fs
IsTakenOut Stable last n es fs = IsFreed n es fs
