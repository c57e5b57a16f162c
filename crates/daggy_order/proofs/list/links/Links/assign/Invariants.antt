use Rattle.std.proofs.Common.{◌≡◌, ◌+◌, ◌*◌, ℕ, List, length}
use Rattle.daggy_order.specs.Links.{IsSegment}
use Rattle.daggy_order.proofs.AscendingLabels.{Numbering}
use Rattle.daggy_order.proofs.list.links.Links.assign.Given as goal

abbrev pub invariant-run : goal.invariant-run
invariant-run g l =
    (l.label ≡ l.low + l.gap * l._i) × (l.self.nodes ≡ l.fn.self.nodes)
    × (length l.self.labels ≡ length l.fn.self.labels)
    × ((before run behind : List ℕ)
    → IsSegment g.Ix.IndexType.greatest l.fn.self.nodes l.fn.from l.count before run behind
    → Numbering g.Ix.IndexType.greatest l.fn.self.labels l.self.labels run behind l.low l._i l.n l.label)
