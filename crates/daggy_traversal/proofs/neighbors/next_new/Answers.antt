use Rattle.std.proofs.Common.{◌∙◌, sym}
use Rattle.daggy_traversal.proofs.Seeking.{passes_met, finds_new, seeks_less}
use Rattle.daggy_traversal.proofs.neighbors.next_new.Goals as goal

pub returns-then-not-is_visited-clause-some : goal.returns-then-not-is_visited-clause-some
returns-then-not-is_visited-clause-some g c =
    λ nodes marked.
    sym (c.edges.invariant nodes marked)
    ∙ finds_new c.invariant.ensures.well_formed c.in-Some.ensures.some c.is_visited.ensures nodes marked
    c.if-not-is_visited.true

pub edges-smaller : goal.edges-smaller
edges-smaller g c = seeks_less c.invariant.ensures.well_formed c.in-Some.ensures.some

pub edges-preserved : goal.edges-preserved
edges-preserved g c =
    λ nodes marked.
    sym (passes_met c.invariant.ensures.well_formed c.in-Some.ensures.some c.is_visited.ensures nodes marked
    c.if-not-is_visited.false)
    ∙ c.edges.invariant nodes marked
