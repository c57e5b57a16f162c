use Rattle.std.proofs.Common.{rules, arith, ◌≡◌, ◌<◌, ◌≤◌, ◌+◌, length, refl, ap, ◌∙◌, get_or}
use Rattle.daggy_base.proofs.Lists.{mem_contains, contains_mem, unique_from_distinct}
use Rattle.daggy_search.proofs.Sized.{sized_put_cursor}
use Rattle.daggy_reduction.proofs.SpanSums.{next_there, sum_within, sum_on, all_summed}
use Rattle.daggy_reduction.proofs.spans.sum_before.Given.{Over}
use Rattle.daggy_reduction.proofs.spans.sum_before.Goals.{After-index-i, After-index-count}
use Rattle.daggy_reduction.proofs.spans.sum_before.Goals as goal

-- the next node is within the list
low : (g : Over) (c : After-index-i g) → c.index-i.result < length c.nodes.work.cursors
low g c =
    let n = g.Ix.IndexType.number c.in-Some.n in
    let s = c.nodes.invariant in
    omega (
      arith,
      c.requires.low n
          (mem_contains c.args.order.now n (next_there s.summing.done s.summing.whole n c.in-Some.ensures.steps)),
      s.sized.cursors_are,
      c.index-i.ensures.value,
    )

-- its count, and the sum with it
count_is : (g : Over) (c : After-index-count g)
    → c.index-count.result ≡ get_or c.nodes.work.cursors (g.Ix.IndexType.number c.in-Some.n) 0
count_is g c =
    c.index-count.ensures.value ∙ c.cursor.ensures 0
    ∙ ap (λ z. get_or c.nodes.work.cursors z 0) c.index-i.ensures.value

few : (g : Over) (c : After-index-count g) → c.nodes.sum + c.index-count.result ≤ g.Ix.IndexType.greatest
few g c =
    let s = c.nodes.invariant in
    omega (
      arith,
      count_is g c,
      sum_within (unique_from_distinct c.args.order.now c.requires.distinct) s.summing (g.Ix.IndexType.number c.in-Some.n)
          c.in-Some.ensures.steps,
      c.requires.few,
    )

pub cursor-requires : goal.cursor-requires
cursor-requires g c = low g (goal.at.cursor-requires g c).After-index-i

pub new-requires : goal.new-requires
new-requires g c = omega (arith, few g (goal.at.new-requires g c).After-index-count)

pub put_cursor-requires : goal.put_cursor-requires
put_cursor-requires g c = low g (goal.at.put_cursor-requires g c).After-index-i

pub overflow_add-sum : goal.overflow_add-sum
overflow_add-sum g c =
    let h = few g (goal.at.overflow_add-sum g c).After-index-count in
    search rules

pub nodes-preserved : goal.nodes-preserved
nodes-preserved g c =
    let at = goal.at.nodes-preserved g c in
    let n = g.Ix.IndexType.number c.in-Some.n in
    let s = c.nodes.invariant in
    let inside = low g at.After-index-i in
    rw (c.put_cursor.ensures, c.new.ensures, c.index-i.ensures.value, count_is g at.After-index-count) record {
      can = search rules;
      ends = search rules;
      sized = sized_put_cursor s.sized n c.nodes.sum;
      same = s.same;
      summing =
          sum_on (unique_from_distinct c.args.order.now c.requires.distinct) s.summing n c.in-Some.ensures.steps
          (omega (arith, inside, c.index-i.ensures.value)) refl;
    }

pub returns-clause-sums : goal.returns-clause-sums
returns-clause-sums g c = λ n h.
    all_summed c.nodes.invariant.summing c.in-None.ensures.steps.0 n (contains_mem c.args.order.now n h)
