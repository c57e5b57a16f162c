use Rattle.std.proofs.Common.{◌≡◌, ◌≤◌, ◌+◌, ◌*◌, length, map, take, refl, sym, ◌∙◌, arith}
use Rattle.std.proofs.lemmas.List.{length-map, length-take-le}
use Rattle.std.proofs.Math.Nat.{add-mul}
use Rattle.daggy_base.specs.Graph.{edge_count}
use Rattle.daggy_reduction.proofs.BlockSweep.{blocks_start, blocks_on, blocks_exact}
use Rattle.daggy_reduction.proofs.BlockLooks.{block_paid, block_most, blocks_full, blocks_paid}
use Rattle.daggy_reduction.proofs.BlockLooks.{near_start, near_on, near_done, near_paid}
use Rattle.daggy_reduction.proofs.blocks.flag_blocks.Given.{Over}
use Rattle.daggy_reduction.proofs.blocks.flag_blocks.Goals.{After-list_below-count}
use Rattle.daggy_reduction.proofs.blocks.flag_blocks.Goals as goal

-- so many nodes were listed
long : (g : Over) (c : After-list_below-count g)
    → length (take c.list_below-count.result c.list_below-count.new.work.nodes) ≡ c.list_below-count.result
long g c =
    length-take-le c.list_below-count.result c.list_below-count.new.work.nodes
    (omega (
      arith,
      c.list_below-count.ensures.low,
      c.requires.fits,
      c.list_below-count.ensures.kept.nodes_are,
    ))

pub sweep-init : goal.sweep-init
sweep-init g c =
    let number = g.Ix.IndexType.number in
    let edges = edge_count (g.S.EdgeSource.graph c.args.source.now) in
    let same = c.list_below-count.ensures.same in
    let paid : g.S.EdgeSource.looks c.list_arcs.new.source
    ≤ g.S.EdgeSource.looks c.args.source.now + (g.L.ListArcs.passes + 1) * edges =
    omega (
      arith,
      rw same at c.list_arcs.ensures.counted,
      c.list_below-count.ensures.counted,
      add-mul g.L.ListArcs.passes 1 edges,
    ) in
    record {
      blocks =
          blocks_start _ (map number c.unflag.new.flags)
          (length-map c.unflag.new.flags number ∙ c.unflag.ensures.kept) c.unflag.ensures.none c.list_arcs.new.arcs
          c.list_arcs.new.segments c.list_arcs.ensures.segments_kept (rw same at c.list_arcs.ensures.listed);
      early = omega arith;
      before = λ u v has joined low. absurd (omega (arith, low));
      near = λ all. near_start _ _ _ _ _ paid (rw same at c.list_arcs.ensures.listed.few);
      same = c.list_arcs.ensures.same ∙ same;
      looked = omega (arith, c.list_arcs.ensures.looked, c.list_below-count.ensures.looked);
      full = λ more. refl;
      paid = omega (arith, paid);
    }

pub flag_block-start-requires-clause-listed : goal.flag_block-start-requires-clause-listed
flag_block-start-requires-clause-listed g c = rw c.sweep.invariant.same c.sweep.invariant.blocks.listed

pub flag_block-start-requires-clause-before : goal.flag_block-start-requires-clause-before
flag_block-start-requires-clause-before g c = rw c.sweep.invariant.same c.sweep.invariant.before

pub flag_block-start-requires-clause-rows_fit : goal.flag_block-start-requires-clause-rows_fit
flag_block-start-requires-clause-rows_fit g c =
    omega (arith, c.list_below-count.ensures.low, c.requires.rows_fit, c.sweep.invariant.blocks.roomy)

pub sweep-preserved : goal.sweep-preserved
sweep-preserved g c =
    let number = g.Ix.IndexType.number in
    let sized = long g (goal.at.sweep-preserved g c).After-list_below-count in
    let made = c.flag_block-start.ensures in
    let kept : length (map number c.flag_block-start.new.flags) ≡ length (map number c.sweep.flags) =
    length-map c.flag_block-start.new.flags number ∙ made.kept ∙ sym (length-map c.sweep.flags number) in
    let same = c.sweep.invariant.same in
    record {
      blocks =
          blocks_on c.sweep.invariant.blocks c.flag_block-start.result.low (omega (arith, made.last, sized)) made.some
          (length c.flag_block-start.new.rows) (map number c.flag_block-start.new.flags) made.rows_kept kept
          (rw same at made.flagged) c.flag_block-start.new.arcs c.flag_block-start.new.segments made.segments_kept
          (rw same at made.listed);
      early = made.early;
      before = rw same at made.before;
      near = λ all.
          near_on (c.sweep.invariant.near all) (omega (arith, c.sweep-test.true, sized)) (c.sweep.invariant.full c.sweep-test.true)
          c.flag_block-start.result.low c.flag_block-start.result.first made.some (omega (arith, made.last, sized)) made.few
          (λ more. made.full (omega (arith, more, sized)))
          (rw same at made.near 512 (c.list_below-count.ensures.near 512 all))
          c.flag_block-start.new.segments made.shorter _ made.counted;
      same = made.same ∙ same;
      looked = omega (arith, made.looked, c.sweep.invariant.looked);
      full = λ more. blocks_full c.sweep.start.low c.flag_block-start.result.low (c.sweep.invariant.full c.sweep-test.true) (made.full more);
      paid =
          block_paid (edge_count (g.S.EdgeSource.graph c.args.source.now)) _ c.sweep.start.low c.flag_block-start.result.low
          (g.S.EdgeSource.looks c.sweep.source) (g.S.EdgeSource.looks c.flag_block-start.new.source)
          (c.sweep.invariant.full c.sweep-test.true) made.some c.sweep.invariant.paid
          (block_most c.sweep.segments c.flag_block-start.result.low _ _ c.sweep.start.first _ _
          (omega (arith, made.last, sized)) c.sweep.invariant.blocks.listed.few made.counted);
    }

pub returns-clause-flagged : goal.returns-clause-flagged
returns-clause-flagged g c =
    let sized = long g (goal.at.returns-clause-flagged g c).After-list_below-count in
    let listed = c.list_below-count.ensures in
    blocks_exact c.sweep.invariant.blocks refl
    c.node_bound-well_formed.ensures.well_formed listed.placed (map g.Ix.IndexType.number c.args.roots.now)
    listed.below (omega (arith, c.sweep-test.false, sized))

pub returns-clause-counted : goal.returns-clause-counted
returns-clause-counted g c =
    let sized = long g (goal.at.returns-clause-counted g c).After-list_below-count in
    blocks_paid (edge_count (g.S.EdgeSource.graph c.args.source.now)) _ _ g.L.ListArcs.passes c.sweep.start.low _
    (omega (arith, c.sweep.invariant.blocks.within, sized, c.list_below-count.ensures.few)) c.sweep.invariant.paid

pub returns-clause-near : goal.returns-clause-near
returns-clause-near g c all =
    let sized = long g (goal.at.returns-clause-near g c).After-list_below-count in
    near_paid _ g.L.ListArcs.passes _ _
    (near_done (c.sweep.invariant.near all) (omega (arith, c.sweep-test.false, c.sweep.invariant.blocks.within, sized)))
