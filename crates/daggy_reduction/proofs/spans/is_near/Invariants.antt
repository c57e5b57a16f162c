use Rattle.std.proofs.Common.{◌≢◌, ℕ, ◌+◌, ◌<◌, ◌≤◌, get_or}
use Rattle.daggy_base.specs.Ordered.{place}
use Rattle.daggy_reduction.proofs.spans.is_near.Given as goal

abbrev pub invariant-nodes : goal.invariant-nodes
invariant-nodes g l =
    (u : ℕ) → u < l.i → get_or l.work.nodes u g.Ix.IndexType.greatest ≢ g.Ix.IndexType.greatest
    → place l.fn.order (get_or l.work.nodes u g.Ix.IndexType.greatest) ≤ place l.fn.order u + 512
