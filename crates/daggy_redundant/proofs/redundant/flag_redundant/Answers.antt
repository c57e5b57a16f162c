use Rattle.std.proofs.Common.{◌≡◌, ◌<◌, ◌≤◌, ℕ, length, map, take, get_or, sym, ap, subst, ◌∙◌, arith, Contains}
use Rattle.std.proofs.lemmas.List.{length-take-le, get_or-take}
use Rattle.daggy_base.specs.Graph.{edge_count}
use Rattle.daggy_search.specs.Work.{IsSized}
use Rattle.daggy_redundant.proofs.SweptNodes.{sweep_on, below_exists, flags_redundant, looks_few}
use Rattle.daggy_redundant.proofs.redundant.flag_redundant.Given.{Over}
use Rattle.daggy_redundant.proofs.redundant.flag_redundant.Goals.{After-enter_below-count, After-cursor}
use Rattle.daggy_redundant.proofs.redundant.flag_redundant.Goals as goal

-- as many nodes are laid aside as were counted
long : (g : Over) (c : After-enter_below-count g)
    → length (take c.enter_below-count.result c.enter_below-count.new.work.cursors) ≡ c.enter_below-count.result
long g c =
    length-take-le c.enter_below-count.result c.enter_below-count.new.work.cursors
    (omega (arith, c.enter_below-count.ensures.within, c.enter_below-count.ensures.kept.cursors_are))

-- the next of them is read
read : (g : Over) (c : After-cursor g) (d : ℕ)
    → c.cursor.result ≡ get_or c.enter_below-count.new.work.cursors c.nodes.k d
read g c d = c.cursor.ensures d ∙ ap (λ z. get_or z c.nodes.k d) c.nodes.invariant.aside

pub flag_children-requires-clause-exists : goal.flag_children-requires-clause-exists
flag_children-requires-clause-exists g c =
    let graph = g.S.EdgeSource.graph c.args.source.now in
    let count = c.enter_below-count.result in
    let below = c.enter_below-count.new.work.cursors in
    let n = c.cursor.result in
    let low : c.nodes.k < length (take count below) =
    omega (arith, c.nodes-test.true, long g (goal.at.flag_children-requires-clause-exists g c).After-enter_below-count) in
    let there : Contains (take count below) n = (
      c.nodes.k,
      low,
      get_or-take count below c.nodes.k n c.nodes-test.true ∙ sym (read g (goal.at.flag_children-requires-clause-exists g c).After-cursor n),
    ) in
    let has =
    below_exists graph (map g.Ix.IndexType.number c.args.roots.now) n ((c.enter_below-count.ensures.below n).0 there) in
    rw (c.node.ensures.value, c.nodes.invariant.sweep.same) has

pub nodes-preserved : goal.nodes-preserved
nodes-preserved g c =
    let count = c.enter_below-count.result in
    let below = c.enter_below-count.new.work.cursors in
    let u = g.Ix.IndexType.number c.node.result in
    let low : c.nodes.k < length (take count below) =
    omega (arith, c.nodes-test.true, long g (goal.at.nodes-preserved g c).After-enter_below-count) in
    let value : u ≡ c.cursor.result = c.node.ensures.value in
    let here = read g (goal.at.nodes-preserved g c).After-cursor c.cursor.result in
    let is : u ≡ get_or (take count below) c.nodes.k u =
    value ∙ here ∙ sym (get_or-take count below c.nodes.k c.cursor.result c.nodes-test.true)
    ∙ ap (λ z. get_or (take count below) c.nodes.k z) (sym value) in
    let inv = c.nodes.invariant in
    record {
      within = omega (arith, c.nodes-test.true);
      sized = subst (λ z. IsSized z c.flag_children.new.work) inv.sized.size_is c.flag_children.ensures.kept;
      aside = c.flag_children.ensures.aside ∙ inv.aside;
      flags = c.flag_children.ensures.flags_kept ∙ inv.flags;
      sweep =
          sweep_on inv.sweep low u is c.flag_children.ensures.same c.flag_children.ensures.flagged c.flag_children.ensures.looked
          (omega (arith, c.flag_children.ensures.counted, ap edge_count inv.sweep.same));
    }

pub returns-clause-flagged : goal.returns-clause-flagged
returns-clause-flagged g c =
    let count = c.enter_below-count.result in
    let below = c.enter_below-count.new.work.cursors in
    let past : length (take count below) ≤ c.nodes.k =
    omega (arith, c.nodes-test.false, long g (goal.at.returns-clause-flagged g c).After-enter_below-count) in
    flags_redundant c.node_bound-well_formed.ensures.well_formed (map g.Ix.IndexType.number c.args.roots.now)
    c.nodes.invariant.sweep past c.enter_below-count.ensures.below c.enter_below-count.ensures.distinct

pub returns-clause-counted : goal.returns-clause-counted
returns-clause-counted g c =
    let count = c.enter_below-count.result in
    let below = c.enter_below-count.new.work.cursors in
    let sized = long g (goal.at.returns-clause-counted g c).After-enter_below-count in
    let past : length (take count below) ≤ c.nodes.k = omega (arith, c.nodes-test.false, sized) in
    looks_few c.node_bound-well_formed.ensures.well_formed (map g.Ix.IndexType.number c.args.roots.now)
    c.nodes.invariant.sweep past c.enter_below-count.ensures.below c.enter_below-count.ensures.distinct
    (λ u m. omega arith)
