-- A dag by names after the `&mut` to one of its weights ends.
use Rattle.std.specs.Prelude.{Bool, Option}
use Rattle.std.specs.Borrow.{LendsIf, Fml, RattleType, MutBor}
use Rattle.std.specs.HashMap.Lent.{HashMembers}
use Rattle.std.specs.declared.clone.Clone as clone
use Rattle.daggy_base.specs.declared.index.IndexType as index_type
use Rattle.daggy_named.specs.Naming.{Naming, index_by, with_weight}
use Rattle.daggy_named.specs.contracts.named.Named.{the_row}

-- the type of a dag by names
abbrev pub named_type : (K N E Ix : RattleType)
    → HashMembers K.Denot → index_type.Ghosts Ix.Denot → clone.Ghosts Ix.Denot → RattleType
named_type K N E Ix k m copy =
    the_row K N E Ix (record { eq = k.eq }) (record { hash_input = k.hash_input })
    m copy

module _ (K N E Ix : RattleType) (k : HashMembers K.Denot) (m : index_type.Ghosts Ix.Denot) (copy : clone.Ghosts Ix.Denot)
    (s : MutBor (Naming K.Denot N.Denot E.Denot)) (test : K.Denot → Bool) where
  -- when the borrow r ends, the node whose key passes the test has the last weight written through r; at `None` nothing changes
  abbrev pub lends_weight : Option (MutBor N.Denot) → Fml
  lends_weight r =
      LendsIf (named_type K N E Ix k m copy) N s r (with_weight s.now (index_by test s.now.keys)) s.now
