-- The two directions of an edge.
use Rattle.daggy_base.specs.declared.index.Direction.{Direction}
use Rattle.daggy_base.specs.declared.index.Direction.TheVariants.{Outgoing, Incoming}

-- the other direction
abbrev pub opposite : Direction → Direction
opposite Outgoing = Incoming
opposite Incoming = Outgoing
