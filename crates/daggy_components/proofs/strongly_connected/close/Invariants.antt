use Rattle.std.proofs.Common.{◌≡◌, ◌-◌, ◌≤◌, ◌++◌, map, length}
use Rattle.daggy_components.specs.Stored.{placed}
use Rattle.daggy_components.proofs.Parts.{part}
use Rattle.daggy_components.proofs.strongly_connected.close.Given as goal

abbrev pub invariant-nodes : goal.invariant-nodes
invariant-nodes g l =
    (l.k ≤ l.to)
    × ((length l.places.items ≡ length l.fn.places.items)
    × ((placed l.places.items (part l.k (l.to - l.k) l.nodes.items) l.place
    ≡ placed l.fn.places.items (part l.from (l.to - l.from) l.nodes.items) l.place)
    × (map g.Ix.IndexType.number l.members.items ++ part l.k (l.to - l.k) l.nodes.items
    ≡ map g.Ix.IndexType.number l.fn.members.items ++ part l.from (l.to - l.from) l.nodes.items)))
