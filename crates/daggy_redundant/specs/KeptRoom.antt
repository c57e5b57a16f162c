-- The capacity of a scratch after a `&` into it ends.
use Rattle.std.specs.Prelude.{◌≡◌}
use Rattle.std.specs.Borrow.{Fml, RattleType, MutBor}
use Rattle.std.specs.Io.BufRead.{Rests}
use Rattle.daggy_base.specs.declared.index.IndexType as index_type
use Rattle.daggy_search.specs.Room.{Room}
use Rattle.daggy_search.specs.contracts.scratch.Scratch.{the_row}

-- the type of a scratch with indices of this type
abbrev pub scratch_type : (Ix : RattleType) → index_type.Ghosts Ix.Denot → RattleType
scratch_type Ix m =
    the_row Ix m

-- once the borrow of the scratch ends, its capacity is what it was before
abbrev pub keeps_room : (Ix : RattleType) → index_type.Ghosts Ix.Denot → MutBor (Room Ix.Denot) → Fml
keeps_room Ix m s =
    Rests (scratch_type Ix m) s (λ new.
    (new.nodes ≡ s.now.nodes) × (new.edges ≡ s.now.edges) × (new.rows ≡ s.now.rows))
