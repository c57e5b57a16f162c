use Rattle.std.proofs.Common.{◌<◌, length, refl, arith, rules}
use Rattle.daggy_base.specs.FromSlots.{has_end, edges_by}
use Rattle.daggy_json.proofs.NodeLists.{ends_at, ends_nowhere, counts_more, counts_same, no_counts, down_short}
use Rattle.daggy_json.proofs.reading.rows.count_into.Goals as goal
use Rattle.daggy_json.proofs.reading.rows.count_into.Goals.{in-Some, in_default}

pub loop-e-init : goal.loop-e-init
loop-e-init g c = no_counts _ _ _ refl (λ i low. c.requires.none i)

pub loop-e-preserved : goal.loop-e-preserved
loop-e-preserved g c =
    let edges = edges_by g.Ix.IndexType.number c.args.edges.now.items in
    elim c.match-end_of.branch [
      | in-Some w ↦ (
          let at = ends_at c.args.dir edges c.loop-e.e w.in-Some.n w.in-Some.ensures in
          counts_more c.loop-e.invariant w.in-Some.n
          (omega (arith, c.requires.ends c.loop-e.e at.1.0 at.1.1, at.1.2)) at.0 _ w.counts-is
          )
      | in_default w ↦
          counts_same c.loop-e.invariant (ends_nowhere c.args.dir edges c.loop-e.e w.in_default.ensures) _ w.counts-is
    ]

pub offset_bounds-counts-n : goal.offset_bounds-counts-n
offset_bounds-counts-n g c =
    let edges = edges_by g.Ix.IndexType.number c.args.edges.now.items in
    let at = ends_at c.args.dir edges c.loop-e.e c.in-Some.n c.in-Some.ensures in
    let low : c.in-Some.n < length c.loop-e.counts =
    omega (arith, c.requires.ends c.loop-e.e at.1.0 at.1.1, at.1.2, c.loop-e.invariant.long) in
    search rules

pub bounds-counts-n : goal.bounds-counts-n
bounds-counts-n g c =
    let edges = edges_by g.Ix.IndexType.number c.args.edges.now.items in
    let at = ends_at c.args.dir edges c.loop-e.e c.in-Some.n c.in-Some.ensures in
    omega (arith, c.requires.ends c.loop-e.e at.1.0 at.1.1, at.1.2, c.loop-e.invariant.long)

pub overflow_add-counts : goal.overflow_add-counts
overflow_add-counts g c =
    let edges = edges_by g.Ix.IndexType.number c.args.edges.now.items in
    let at = ends_at c.args.dir edges c.loop-e.e c.in-Some.n c.in-Some.ensures in
    omega (
      arith,
      c.loop-e.invariant.each c.in-Some.n (omega (arith, c.requires.ends c.loop-e.e at.1.0 at.1.1, at.1.2)),
      down_short (has_end c.args.dir edges c.in-Some.n) c.loop-e.e,
      c.loop-e-test.true,
    )

pub bounds-counts-n-in-Some : goal.bounds-counts-n-in-Some
bounds-counts-n-in-Some g c =
    let edges = edges_by g.Ix.IndexType.number c.args.edges.now.items in
    let at = ends_at c.args.dir edges c.loop-e.e c.in-Some.n c.in-Some.ensures in
    omega (arith, c.requires.ends c.loop-e.e at.1.0 at.1.1, at.1.2, c.loop-e.invariant.long)
