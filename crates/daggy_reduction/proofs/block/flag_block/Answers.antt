use Rattle.std.proofs.Common.{◌≡◌, ℕ, ◌-◌, ◌<◌, ◌≤◌, suc, refl, length, set, take, map, ap, sym, ◌∙◌, arith, length-set}
use Rattle.std.proofs.Common.{is_some}
use Rattle.std.proofs.lemmas.List.{length-map, length-take-le}
use Rattle.daggy_base.proofs.OutEdgesRead.{edge_below, below_bound}
use Rattle.daggy_reduction.specs.Blocks.{segment_at, arcs_in}
use Rattle.daggy_reduction.proofs.BlockFlags.{work_start, work_on, work_paid, work_shorter, work_done, work_listed}
use Rattle.daggy_reduction.proofs.BlockFlags.{arcs_are, passed_on, onward_start, onward_on, onward_done}
use Rattle.daggy_reduction.proofs.block.flag_block.Given.{Over}
use Rattle.daggy_reduction.proofs.block.flag_block.Goals.{After-block_at-block, After-nothing_reached-reached}
use Rattle.daggy_reduction.proofs.block.flag_block.Goals as goal

-- the block ends among the listed nodes
within : (g : Over) (c : After-block_at-block g)
    → c.block_at-block.result.high ≤ length (take c.args.count c.args.work.now.nodes)
within g c =
    omega (
      arith,
      c.block_at-block.ensures.within,
      length-take-le c.args.count c.args.work.now.nodes c.requires.within,
    )

pub nodes-init : goal.nodes-init
nodes-init g c =
    record {
      working =
          work_start _ c.args.rows.now c.args.arcs.now c.args.segments.now refl refl
          (omega (arith, c.block_at-block.ensures.begins, c.block_at-block.ensures.some))
          (within g (goal.at.nodes-init g c).After-block_at-block)
          (rw c.block_at-block.ensures.begins c.requires.listed);
      from = omega (arith, c.requires.early, c.block_at-block.ensures.some);
      onward = onward_start _ _ _ _;
      shorter = λ k. omega arith;
      same = refl;
      looked = omega arith;
      paid = omega arith;
    }

-- the place of the node that is next, and how many are left
next_is : (k first : ℕ) → first < k → suc (k - 1) ≡ k
next_is k first more = omega (arith, more)

-- the segment of the node that is next
next_laid : (g : Over) (c : After-nothing_reached-reached g)
    → ((segment_at c.nodes.segments (c.nodes.k - 1)).begin ≤ (segment_at c.nodes.segments (c.nodes.k - 1)).end)
    × ((segment_at c.nodes.segments (c.nodes.k - 1)).end ≤ length c.nodes.arcs)
next_laid g c =
    let s = c.nodes.invariant.working in
    let low : c.nodes.k - 1 < length (take c.args.count c.args.work.now.nodes) =
    omega (
      arith,
      c.nodes-test.true,
      s.within,
      c.block_at-block.ensures.within,
      length-take-le c.args.count _ c.requires.within,
    ) in
    (s.laid_out.ordered (c.nodes.k - 1) low, s.laid_out.within (c.nodes.k - 1) low)

pub reach_from-requires-clause-ordered : goal.reach_from-requires-clause-ordered
reach_from-requires-clause-ordered g c =
    (next_laid g (goal.at.reach_from-requires-clause-ordered g c).After-nothing_reached-reached).0

pub reach_from-requires-clause-inside : goal.reach_from-requires-clause-inside
reach_from-requires-clause-inside g c =
    (next_laid g (goal.at.reach_from-requires-clause-inside g c).After-nothing_reached-reached).1

pub flag_indirect-end-requires-clause-ordered : goal.flag_indirect-end-requires-clause-ordered
flag_indirect-end-requires-clause-ordered g c =
    (next_laid g (goal.at.flag_indirect-end-requires-clause-ordered g c).After-nothing_reached-reached).0

pub flag_indirect-end-requires-clause-inside : goal.flag_indirect-end-requires-clause-inside
flag_indirect-end-requires-clause-inside g c =
    (next_laid g (goal.at.flag_indirect-end-requires-clause-inside g c).After-nothing_reached-reached).1

pub reach_from-requires-clause-passed_on : goal.reach_from-requires-clause-passed_on
reach_from-requires-clause-passed_on g c =
    let b = (goal.at.reach_from-requires-clause-passed_on g c).After-block_at-block in
    passed_on c.requires.well_formed c.requires.placed (within g b) c.nodes.invariant.working (c.nodes.k - 1)
    (next_is c.nodes.k _ c.nodes-test.true)

pub flag_indirect-end-requires-clause-real : goal.flag_indirect-end-requires-clause-real
flag_indirect-end-requires-clause-real g c a has =
    let b = (goal.at.flag_indirect-end-requires-clause-real g c).After-block_at-block in
    let at = (arcs_are c.requires.well_formed c.requires.placed (within g b) c.nodes.invariant.working (c.nodes.k - 1)
    (next_is c.nodes.k _ c.nodes-test.true)).real a has in
    edge_below g.Ix.IndexType.greatest (g.S.EdgeSource.graph c.args.source.now) c.requires.well_formed
    (g.Ix.IndexType.number a.edge) at.edge at.at

pub flag_indirect-end-requires-clause-flags_fit : goal.flag_indirect-end-requires-clause-flags_fit
flag_indirect-end-requires-clause-flags_fit g c a has =
    let b = (goal.at.flag_indirect-end-requires-clause-flags_fit g c).After-block_at-block in
    let at = (arcs_are c.requires.well_formed c.requires.placed (within g b) c.nodes.invariant.working (c.nodes.k - 1)
    (next_is c.nodes.k _ c.nodes-test.true)).real a has in
    omega (
      arith,
      below_bound (g.S.EdgeSource.graph c.args.source.now).edges (g.Ix.IndexType.number a.edge)
          (ap is_some at.at),
      c.requires.flags_fit,
      c.nodes.auto.flags,
    )

pub nodes-preserved : goal.nodes-preserved
nodes-preserved g c =
    let number = g.Ix.IndexType.number in
    let s = c.nodes.invariant.working in
    let m = c.nodes.k - 1 in
    let inside = within g (goal.at.nodes-preserved g c).After-block_at-block in
    let m_is : suc m ≡ c.nodes.k = next_is c.nodes.k _ c.nodes-test.true in
    let low : m < c.args.count = omega (arith, m_is, s.within, c.block_at-block.ensures.within) in
    let room : m < length c.nodes.rows = omega (arith, low, s.roomy, c.requires.rows_fit) in
    let kept : length (map number c.flag_indirect-end.new.flags) ≡ length (map number c.nodes.flags) =
    length-map c.flag_indirect-end.new.flags number ∙ c.flag_indirect-end.ensures.flags_kept
    ∙ sym (length-map c.nodes.flags number) in
    let fits : length (take c.args.count c.args.work.now.nodes) ≤ length c.nodes.segments =
    omega (arith, s.parted, c.requires.all, length-take-le c.args.count c.args.work.now.nodes c.requires.within) in
    let left = c.flag_indirect-end.ensures.left in
    let up : c.block_at-block.result.low < c.block_at-block.result.high =
    omega (arith, c.block_at-block.ensures.begins, c.block_at-block.ensures.some) in
    record {
      working =
          work_on c.requires.well_formed c.requires.placed inside s m m_is c.reach_from.new.reached.direct
          c.reach_from.new.reached.indirect c.union.result c.reach_from.ensures.direct
          c.reach_from.ensures.indirect (map number c.flag_indirect-end.new.flags)
          c.flag_indirect-end.ensures.flagged c.union.ensures c.flag_indirect-end.result c.flag_indirect-end.new.arcs left
          (set c.nodes.rows m c.union.result) refl room (length-set c.nodes.rows m c.union.result) kept
          _ refl fits up;
      from = omega (arith, c.nodes-test.true);
      onward =
          onward_on c.requires.well_formed c.requires.placed inside s m m_is up c.nodes.invariant.onward
          c.reach_from.new.reached.beyond c.reach_from.ensures.beyond c.first_onward-first.ensures.this
          c.first_onward-first.ensures.other;
      shorter =
          work_shorter c.requires.well_formed c.requires.placed inside s m m_is c.args.segments.now
          c.nodes.invariant.shorter fits c.flag_indirect-end.result left.from left.till refl;
      same = c.flag_indirect-end.ensures.same ∙ c.reach_from.ensures.same ∙ c.nodes.invariant.same;
      looked =
          omega (
            arith,
            c.flag_indirect-end.ensures.looked,
            c.reach_from.ensures.counted,
            c.nodes.invariant.looked,
          );
      paid =
          work_paid c.requires.well_formed c.requires.placed inside s m m_is c.args.segments.now
          c.nodes.invariant.shorter (g.S.EdgeSource.looks c.nodes.source)
          (g.S.EdgeSource.looks c.flag_indirect-end.new.source) _ c.nodes.invariant.paid
          (omega (arith, c.flag_indirect-end.ensures.counted, c.reach_from.ensures.counted));
    }

pub returns-clause-flagged : goal.returns-clause-flagged
returns-clause-flagged g c =
    rw (← c.block_at-block.ensures.begins)
    (work_done c.requires.well_formed c.requires.placed
    (within g (goal.at.returns-clause-flagged g c).After-block_at-block) c.nodes.invariant.working
    c.args.start.first (omega (arith, c.nodes-test.false)) (rw c.block_at-block.ensures.begins c.requires.before))

pub returns-clause-listed : goal.returns-clause-listed
returns-clause-listed g c =
    work_listed c.requires.well_formed c.requires.placed
    (within g (goal.at.returns-clause-listed g c).After-block_at-block) c.nodes.invariant.working
    (omega (arith, c.block_at-block.ensures.some, c.block_at-block.ensures.begins))

pub returns-clause-before : goal.returns-clause-before
returns-clause-before g c =
    onward_done c.nodes.invariant.onward c.args.start.first c.args.start.low (omega (arith, c.nodes-test.false))
    c.requires.before (omega (arith, c.block_at-block.ensures.some))

pub returns-clause-counted : goal.returns-clause-counted
returns-clause-counted g c =
    let is : c.nodes.k ≡ c.args.start.first = omega (arith, c.nodes-test.false, c.nodes.invariant.from) in
    omega (arith, c.nodes.invariant.paid, ap (arcs_in c.args.segments.now) is)
