use Rattle.std.proofs.Common.{◌-◌, length}
use Rattle.daggy_base.specs.Graph.{list_at}
use Rattle.daggy_json.proofs.WrittenLists.{Listed}
use Rattle.daggy_json.proofs.writing.write_list.Given as goal

abbrev pub invariant-edges : goal.invariant-edges
invariant-edges g l =
    Listed g.Ix.IndexType.greatest (list_at l.dir (g.S.EdgeSource.graph l.store) (g.Ix.IndexType.number l.fn.n))
    l.list.items (g.Ix.IndexType.number l.e)

abbrev pub decreases-edges : goal.decreases-edges
decreases-edges g l =
    length (list_at l.dir (g.S.EdgeSource.graph l.store) (g.Ix.IndexType.number l.fn.n)) - length l.list.items
