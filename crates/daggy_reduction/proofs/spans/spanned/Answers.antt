use Rattle.std.proofs.Common.{rules, arith, ◌≡◌, ◌<◌, ℕ, sym, ap, ◌∙◌, get_or, take, inl, inr, subst, Contains}
use Rattle.daggy_base.specs.Path.{AreJoined}
use Rattle.daggy_base.specs.Ordered.{place}
use Rattle.daggy_base.proofs.Lists.{mem_contains}
use Rattle.daggy_base.proofs.OutEdgesRead.{below_bound}
use Rattle.daggy_reduction.specs.Spans.{sum_at}
use Rattle.daggy_reduction.proofs.SpanSums.{next_there, sum_few, one_span, span_on, all_span}
use Rattle.daggy_reduction.proofs.spans.spanned.Given.{Over}
use Rattle.daggy_reduction.proofs.spans.spanned.Goals.{After-index-i, Then-last-end, After-index-then-last-end}
use Rattle.daggy_reduction.proofs.spans.spanned.Goals as goal

-- what is in the order is within the lists
inside : (g : Over) (c : After-index-i g) (n : ℕ) → Contains c.args.order.now n → n < c.args.work.now.size
inside g c n h =
    omega (
      arith,
      below_bound (g.S.EdgeSource.graph c.args.source.now).nodes n ((c.requires.ordered.exact n).0 h),
      c.requires.fits,
    )

here : (g : Over) (c : After-index-i g) → Contains c.args.order.now (g.Ix.IndexType.number c.in-Some.n)
here g c =
    let n = g.Ix.IndexType.number c.in-Some.n in
    let s = c.nodes.invariant.spanning in
    mem_contains c.args.order.now n (next_there s.done s.whole n c.in-Some.ensures.steps)

-- the noted child of the next node, if it is not the end
joined : (g : Over) (c : Then-last-end g)
    → AreJoined (g.S.EdgeSource.graph c.args.source.now) (g.Ix.IndexType.number c.in-Some.n) c.index-last.result
joined g c =
    let end = g.Ix.IndexType.greatest in
    let n = g.Ix.IndexType.number c.in-Some.n in
    let read : c.index-last.result ≡ get_or c.note_edges.new.work.nodes n end =
    c.index-last.ensures.value ∙ c.node.ensures end
    ∙ ap (λ z. get_or z c.index-i.result end) c.sum_before.ensures.same
    ∙ ap (λ z. get_or c.note_edges.new.work.nodes z end) c.index-i.ensures.value in
    let P : ℕ → Type 0 = λ z. AreJoined (g.S.EdgeSource.graph c.args.source.now) n z in
    elim (c.note_edges.ensures.children n) [
      | inl none ↦ absurd (c.if-last-end.true (read ∙ none ∙ sym (c.index-end.ensures.value ∙ c.end.ensures.value)))
      | inr j ↦ subst P (sym read) j
    ]

child_here : (g : Over) (c : Then-last-end g) → Contains c.args.order.now c.index-last.result
child_here g c =
    let j = joined g c in
    (c.requires.ordered.exact c.index-last.result).1
    (c.node_bound-well_formed.ensures.well_formed.children j.0 _ j.2)

-- the sums before the two
sums : (g : Over) (c : After-index-then-last-end g) → Contains c.args.order.now (g.Ix.IndexType.number c.in-Some.n)
    → Contains c.args.order.now c.index-last.result
    → (c.index-then-last-end.result
    ≡ sum_at c.note_edges.new.work.cursors (take (place c.args.order.now (g.Ix.IndexType.number c.in-Some.n)) c.args.order.now))
    × (c.index.result
    ≡ sum_at c.note_edges.new.work.cursors (take (place c.args.order.now c.index-last.result) c.args.order.now))
sums g c from till = (
  c.index-then-last-end.ensures.value ∙ c.cursor-then-last-end.ensures 0
      ∙ ap (λ z. get_or c.sum_before.new.work.cursors z 0) c.index-i.ensures.value
      ∙ c.sum_before.ensures.sums (g.Ix.IndexType.number c.in-Some.n) from,
  c.index.ensures.value ∙ c.cursor.ensures 0 ∙ c.sum_before.ensures.sums c.index-last.result till,
)

pub sum_before-requires-clause-low : goal.sum_before-requires-clause-low
sum_before-requires-clause-low g c = λ n h.
    omega (
      arith,
      below_bound (g.S.EdgeSource.graph c.args.source.now).nodes n ((c.requires.ordered.exact n).0 h),
      c.requires.fits,
      c.note_edges.ensures.kept.size_is,
    )

pub sum_before-requires-clause-few : goal.sum_before-requires-clause-few
sum_before-requires-clause-few g c =
    sum_few c.node_bound-well_formed.ensures.well_formed c.requires.ordered c.note_edges.new.work.cursors
    c.note_edges.ensures.degrees

pub node-requires : goal.node-requires
node-requires g c =
    let at = (goal.at.node-requires g c).After-index-i in
    omega (
      arith,
      inside g at _ (here g at),
      c.index-i.ensures.value,
      c.sum_before.ensures.kept.nodes_are,
      c.note_edges.ensures.kept.size_is,
    )

pub cursor-requires : goal.cursor-requires
cursor-requires g c =
    let at = goal.at.cursor-requires g c in
    omega (
      arith,
      inside g at.After-index-i _ (child_here g at.Then-last-end),
      c.sum_before.ensures.kept.cursors_are,
      c.note_edges.ensures.kept.size_is,
    )

pub cursor-requires-then-last-end : goal.cursor-requires-then-last-end
cursor-requires-then-last-end g c =
    let at = (goal.at.cursor-requires-then-last-end g c).After-index-i in
    omega (
      arith,
      inside g at _ (here g at),
      c.index-i.ensures.value,
      c.sum_before.ensures.kept.cursors_are,
      c.note_edges.ensures.kept.size_is,
    )

pub overflow_sub-index : goal.overflow_sub-index
overflow_sub-index g c =
    let at = goal.at.overflow_sub-index g c in
    let span =
    one_span c.node_bound-well_formed.ensures.well_formed c.requires.ordered c.note_edges.new.work.cursors
    c.note_edges.ensures.degrees (g.Ix.IndexType.number c.in-Some.n) c.index-last.result (joined g at.Then-last-end) in
    let at_ends = sums g at.After-index-then-last-end (here g at.After-index-i) (child_here g at.Then-last-end) in
    omega (arith, span.0, at_ends.0, at_ends.1)

pub nodes-preserved-then-last-end : goal.nodes-preserved-then-last-end
nodes-preserved-then-last-end g c =
    let at = goal.at.nodes-preserved-then-last-end g c in
    let n = g.Ix.IndexType.number c.in-Some.n in
    let span =
    one_span c.node_bound-well_formed.ensures.well_formed c.requires.ordered c.note_edges.new.work.cursors
    c.note_edges.ensures.degrees n c.index-last.result (joined g at.Then-last-end) in
    let at_ends = sums g at.After-index-then-last-end (here g at.After-index-i) (child_here g at.Then-last-end) in
    record {
      can = search rules;
      ends = search rules;
      spanning =
          span_on c.nodes.invariant.spanning n c.in-Some.ensures.steps (omega (
            arith,
            span.1,
            at_ends.0,
            at_ends.1,
            c.saturating_add-sum.ensures,
          ));
    }

pub nodes-preserved : goal.nodes-preserved
nodes-preserved g c =
    record {
      can = search rules;
      ends = search rules;
      spanning =
          span_on c.nodes.invariant.spanning (g.Ix.IndexType.number c.in-Some.n) c.in-Some.ensures.steps (omega arith);
    }

pub returns-clause-most : goal.returns-clause-most
returns-clause-most g c = all_span c.nodes.invariant.spanning c.in-None.ensures.steps.0
