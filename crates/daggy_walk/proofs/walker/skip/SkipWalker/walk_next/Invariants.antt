use Rattle.std.proofs.Common.{◌≡◌, ℕ, ◌+◌}
use Rattle.daggy_walk.proofs.AdapterSteps.{Went}
use Rattle.daggy_walk.proofs.walker.skip.SkipWalker.walk_next.Given as goal

abbrev pub invariant-skipped : goal.invariant-skipped
invariant-skipped g l =
    let w = g.W.Walker in
    (n : ℕ)
    × Went (λ v. w.can_walk v l.graph) (λ v. w.items_left v l.graph) (λ v o u. w.walk_gives v l.graph o u)
    l.initial.self.walker n l.self.walker
    × (n + l.self.to_skip ≡ l.initial.self.to_skip)

abbrev pub decreases-skipped : goal.decreases-skipped
decreases-skipped g l = l.self.to_skip
