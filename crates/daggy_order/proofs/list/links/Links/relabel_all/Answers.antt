use Rattle.std.proofs.Common.{◌^◌, ◌<◌, ℕ, List, [], sym, ap, ◌∙◌, arith, append-nil}
use Rattle.daggy_base.specs.Cursor.{first_of}
use Rattle.daggy_order.specs.Links.{IsSegment}
use Rattle.daggy_order.proofs.AscendingLabels.{asc_lower, asc_higher}
use Rattle.daggy_order.proofs.list.links.Links.relabel_all.Given.{Over}
use Rattle.daggy_order.proofs.list.links.Links.relabel_all.Goals.{After-first-first, After-gap_between-gap}
use Rattle.daggy_order.proofs.list.links.Links.relabel_all.Goals as goal

-- there is a gap
some : (g : Over) (c : After-gap_between-gap g) → 0 < c.gap_between-gap.result
some g c = c.gap_between-gap.ensures.some (omega (arith, c.len-count.ensures.small, c.len-count.ensures.value))

-- the run is all of the list
whole : (g : Over) (c : After-first-first g)
    → IsSegment g.Ix.IndexType.greatest c.args.self.now.nodes c.first-first.result c.len-count.result []
    c.args.self.now.nodes []
whole g c =
    let nodes : List ℕ = c.args.self.now.nodes in
    record {
      is = sym (append-nil nodes);
      counted = sym c.len-count.ensures.value;
      begins = c.first-first.ensures
          ∙ ap (λ (z : List ℕ). first_of g.Ix.IndexType.greatest z) (sym (append-nil nodes));
    }

pub assign-requires : goal.assign-requires
assign-requires g c =
    let at = goal.at.assign-requires g c in
    let is_some = some g at.After-gap_between-gap in
    record {
      run = record { before = []; run = c.args.self.now.nodes; behind = []; is_run = whole g at.After-first-first };
      some = is_some;
      fits = omega (arith, c.gap_between-gap.ensures.fits is_some);
    }

pub returns-clause-ascending : goal.returns-clause-ascending
returns-clause-ascending g c =
    let at = goal.at.returns-clause-ascending g c in
    let fits = c.gap_between-gap.ensures.fits (some g at.After-gap_between-gap) in
    let nodes : List ℕ = c.args.self.now.nodes in
    let new : List ℕ = c.assign.new.self.labels in
    asc_lower new 2305843009213693952 0 nodes (2 ^ 64) (omega arith) (asc_higher new 2305843009213693952 nodes _
    (2 ^ 64) (omega (arith, fits)) (c.assign.ensures.ascending [] nodes [] (whole g at.After-first-first)))

pub returns-clause-others : goal.returns-clause-others
returns-clause-others g c = λ n d.
    c.assign.ensures.others [] c.args.self.now.nodes []
    (whole g (goal.at.returns-clause-others g c).After-first-first) n d
