use Rattle.std.proofs.Common.{◌≡◌}
use Rattle.daggy_order.specs.Links.{HasGap}
use Rattle.daggy_order.proofs.list.links.Links.relabel_window.Given as goal

abbrev pub invariant-window : goal.invariant-window
invariant-window g l =
    (l.self ≡ l.fn.self)
    × HasGap g.Ix.IndexType.greatest l.fn.self.labels l.fn.self.nodes l.fn.a l.from l.size l.behind
