use Rattle.std.proofs.Common.{rules, arith, ◌<◌, length, refl}
use Rattle.daggy_base.proofs.Lists.{mem_contains, contains_mem, unique_from_distinct}
use Rattle.daggy_search.proofs.Sized.{sized_put_cursor}
use Rattle.daggy_reduction.proofs.SpanSums.{next_there, number_few, number_on, all_numbered}
use Rattle.daggy_reduction.proofs.spans.number_nodes.Given.{Over}
use Rattle.daggy_reduction.proofs.spans.number_nodes.Goals.{After-index}
use Rattle.daggy_reduction.proofs.spans.number_nodes.Goals as goal

-- the next node is within the list
low : (g : Over) (c : After-index g) → c.index.result < length c.nodes.work.cursors
low g c =
    let s = c.nodes.invariant in
    omega (
      arith,
      c.requires.low _
          (mem_contains c.args.order.now _ (next_there s.numbering.done s.numbering.whole _ c.in-Some.ensures.steps)),
      s.sized.cursors_are,
      c.index.ensures.value,
    )

pub new-requires : goal.new-requires
new-requires g c =
    omega (
      arith,
      number_few c.nodes.invariant.numbering (g.Ix.IndexType.number c.in-Some.n) c.in-Some.ensures.steps,
      c.requires.few,
    )

pub put_cursor-requires : goal.put_cursor-requires
put_cursor-requires g c = low g (goal.at.put_cursor-requires g c).After-index

pub nodes-preserved : goal.nodes-preserved
nodes-preserved g c =
    let n = g.Ix.IndexType.number c.in-Some.n in
    let s = c.nodes.invariant in
    let inside = low g (goal.at.nodes-preserved g c).After-index in
    rw (c.put_cursor.ensures, c.new.ensures, c.index.ensures.value) record {
      can = search rules;
      ends = search rules;
      sized = sized_put_cursor s.sized n c.nodes.k;
      same = s.same;
      numbering =
          number_on s.numbering n c.in-Some.ensures.steps (unique_from_distinct c.args.order.now c.requires.distinct)
          (omega (arith, inside, c.index.ensures.value)) refl;
    }

pub returns-clause-places : goal.returns-clause-places
returns-clause-places g c = λ n h.
    all_numbered c.nodes.invariant.numbering c.in-None.ensures.steps.0 n (contains_mem c.args.order.now n h)
