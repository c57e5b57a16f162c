use Rattle.std.proofs.Common.{◌≡◌, map, reverse, ap, ◌∙◌}
use Rattle.daggy_base.specs.declared.index.Direction.TheVariants.{Outgoing}
use Rattle.daggy_traversal.specs.Traversal.{neighbors}
use Rattle.daggy_traversal.proofs.Listed.{map_reverse, no_list, nothing_shown}
use Rattle.daggy_traversal.proofs.oldest_first.children_oldest_first.Given.{Over}
use Rattle.daggy_traversal.proofs.oldest_first.children_oldest_first.Goals.{After-reverse}
use Rattle.daggy_traversal.proofs.oldest_first.children_oldest_first.Goals as goal

-- the list reversed
reversed : (g : Over) (c : After-reverse g) → map g.Ix.IndexType.number c.reverse.new.self.items
    ≡ reverse (neighbors Outgoing (g.S.EdgeSource.graph c.args.graph.now) (g.Ix.IndexType.number c.args.n))
reversed g c =
    let number = g.Ix.IndexType.number in
    ap (map number) c.reverse.ensures.items
    ∙ (map_reverse number c.in_ok-children.children.items ∙ ap reverse c.in_ok-children.ensures)

pub returns : goal.returns
returns g c =
    record {
      reversed = reversed g c;
      missing = λ none.
          nothing_shown _ _ c.reverse.new.self.items (reversed g c)
          (no_list c.invariant.ensures.well_formed Outgoing (g.Ix.IndexType.number c.args.n) none);
    }
