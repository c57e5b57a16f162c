use Rattle.std.proofs.Common.{◌≡◌, map, take, vec_len}
use Rattle.daggy_operators.proofs.Marks.{AreMarked}
use Rattle.daggy_operators.proofs.parts.marks_of.Given as goal

abbrev pub invariant-nodes : goal.invariant-nodes
invariant-nodes g l =
    record {
      sized : vec_len l.marks ≡ l.slots;
      marked : AreMarked l.slots (map g.Ix.IndexType.number (take l.k l.nodes)) l.marks.items;
    }
