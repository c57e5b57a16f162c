use Rattle.std.proofs.Common.{◌≡◌, map, reverse, ap, ◌∙◌}
use Rattle.daggy_base.specs.Graph.{pair_of}
use Rattle.daggy_traversal.specs.OldestFirst.{steps}
use Rattle.daggy_traversal.proofs.Listed.{map_reverse, no_list, nothing_shown}
use Rattle.daggy_traversal.proofs.oldest_first.edges_oldest_first.Given.{Over}
use Rattle.daggy_traversal.proofs.oldest_first.edges_oldest_first.Goals.{After-reverse}
use Rattle.daggy_traversal.proofs.oldest_first.edges_oldest_first.Goals as goal

-- the list reversed
reversed : (g : Over) (c : After-reverse g) → map (pair_of g.Ix.IndexType.number) c.reverse.new.self.items
    ≡ reverse (steps c.args.dir (g.S.EdgeSource.graph c.args.graph.now) (g.Ix.IndexType.number c.args.n))
reversed g c =
    let pair = pair_of g.Ix.IndexType.number in
    ap (map pair) c.reverse.ensures.items
    ∙ (map_reverse pair c.in_ok-edges.edges.items ∙ ap reverse c.in_ok-edges.ensures)

pub returns : goal.returns
returns g c =
    record {
      reversed = reversed g c;
      missing = λ none.
          nothing_shown _ _ c.reverse.new.self.items (reversed g c)
          (no_list c.invariant.ensures.well_formed c.args.dir (g.Ix.IndexType.number c.args.n) none);
    }
