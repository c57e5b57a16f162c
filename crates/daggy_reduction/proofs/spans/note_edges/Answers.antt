use Rattle.std.proofs.Common.{ℕ, ◌<◌, sym, subst, inl, inr, arith, Contains}
use Rattle.daggy_base.proofs.EdgeEnds.{edge_here, no_edge_here, parent_low, child_low}
use Rattle.daggy_base.proofs.PathsWithNode.{bound_low}
use Rattle.daggy_search.specs.Work.{IsSized}
use Rattle.daggy_reduction.proofs.NotedEdges.{none_noted, passed, few, degree, noted, last_start, last_on, last_gap, all_last}
use Rattle.daggy_reduction.proofs.SeenEdges.{seen_start, seen_edge, seen_gap, seen_all}
use Rattle.daggy_reduction.proofs.spans.note_edges.Given.{Over}
use Rattle.daggy_reduction.proofs.spans.note_edges.Goals.{In-edges, in-Some, in_default}
use Rattle.daggy_reduction.proofs.spans.note_edges.Goals as goal

-- the edge is within the bound
low : (g : Over) (c : In-edges g) → c.edges.e < g.Ix.IndexType.greatest
low g c =
    omega (
      arith,
      c.edges-test.true,
      c.edge_bound-bound.ensures,
      bound_low (g.S.EdgeSource.graph c.args.source.now).edges,
      c.node_bound-well_formed.ensures.well_formed.few_edges,
    )

pub edges-init : goal.edges-init
edges-init g c =
    record {
      sized = subst (λ z. IsSized z c.reset.new.work) c.begin.ensures.sized.size_is c.reset.ensures.kept;
      noted =
          none_noted (g.S.EdgeSource.graph c.args.source.now) g.Ix.IndexType.greatest c.reset.new.work.cursors
          c.reset.new.work.nodes c.reset.ensures.cursors c.reset.ensures.nodes;
      last =
          last_start (g.S.EdgeSource.graph c.args.source.now) c.args.order.now g.Ix.IndexType.greatest
          c.reset.new.work.nodes;
      seen = seen_start (g.S.EdgeSource.graph c.args.source.now) (g.S.EdgeSource.looks c.args.source.now);
    }

pub new-requires : goal.new-requires
new-requires g c = omega (arith, low g (goal.at.new-requires g c).In-edges)

pub note_edge-requires-clause-low : goal.note_edge-requires-clause-low
note_edge-requires-clause-low g c =
    let graph = g.S.EdgeSource.graph c.args.source.now in
    let w = c.node_bound-well_formed.ensures.well_formed in
    let (x, at, parent, child) = edge_here graph _ c.edges.e _ c.new.ensures.number
    (rw c.edges.invariant.seen.same at c.in-Some.ensures.gives) in
    omega (arith, parent, parent_low w c.edges.e x at, c.requires.fits, c.edges.invariant.sized.size_is)

pub note_edge-requires-clause-few : goal.note_edge-requires-clause-few
note_edge-requires-clause-few g c =
    let graph = g.S.EdgeSource.graph c.args.source.now in
    let (x, at, parent, child) = edge_here graph _ c.edges.e _ c.new.ensures.number
    (rw c.edges.invariant.seen.same at c.in-Some.ensures.gives) in
    rw parent (omega (
      arith,
      few (c.edges.invariant.noted x.parent),
      low g (goal.at.note_edge-requires-clause-few g c).In-edges,
    ))

pub note_edge-requires-clause-held : goal.note_edge-requires-clause-held
note_edge-requires-clause-held g c =
    let graph = g.S.EdgeSource.graph c.args.source.now in
    let w = c.node_bound-well_formed.ensures.well_formed in
    let (x, at, parent, child) = edge_here graph _ c.edges.e _ c.new.ensures.number
    (rw c.edges.invariant.seen.same at c.in-Some.ensures.gives) in
    let P : ℕ → Type 0 = λ z. Contains c.args.order.now z in
    subst P (sym child) ((c.requires.ordered.exact x.child).1 (w.children c.edges.e x at))

pub note_edge-requires-clause-real : goal.note_edge-requires-clause-real
note_edge-requires-clause-real g c =
    let s = c.edges.invariant.seen in
    let (x, at, parent, child) =
    edge_here (g.S.EdgeSource.graph c.args.source.now) _ c.edges.e _ c.new.ensures.number
    (rw s.same at c.in-Some.ensures.gives) in
    omega (
      arith,
      child,
      child_low c.node_bound-well_formed.ensures.well_formed c.edges.e x at,
      bound_low (g.S.EdgeSource.graph c.args.source.now).nodes,
      c.node_bound-well_formed.ensures.well_formed.few_nodes,
    )

pub note_edge-requires-clause-last_held : goal.note_edge-requires-clause-last_held
note_edge-requires-clause-last_held g c =
    let graph = g.S.EdgeSource.graph c.args.source.now in
    let w = c.node_bound-well_formed.ensures.well_formed in
    let (x, at, parent, child) = edge_here graph _ c.edges.e _ c.new.ensures.number
    (rw c.edges.invariant.seen.same at c.in-Some.ensures.gives) in
    rw parent (elim (c.edges.invariant.noted x.parent).child [
      | inl none ↦ inl none
      | inr j ↦ inr ((c.requires.ordered.exact _).1 (w.children j.0 _ j.2))
    ])

pub edges-preserved : goal.edges-preserved
edges-preserved g c =
    let graph = g.S.EdgeSource.graph c.args.source.now in
    let w = c.node_bound-well_formed.ensures.well_formed in
    let s = c.edges.invariant in
    elim c.match-look_at.branch [
      | in-Some b ↦
          let (x, at, parent, child) = edge_here graph _ c.edges.e _ c.new.ensures.number
          (rw s.seen.same at b.in-Some.ensures.gives) in
          let inside = parent_low w c.edges.e x at in
          rw b.work-is record {
            sized = subst (λ z. IsSized z b.note_edge.new.work) s.sized.size_is b.note_edge.ensures.kept;
            noted =
                noted w s.noted x at (omega (arith, inside, c.requires.fits, s.sized.cursors_are))
                (omega (arith, inside, c.requires.fits, s.sized.nodes_are)) (rw (← parent) b.note_edge.ensures.counted)
                (rw (← parent, ← child) b.note_edge.ensures.child);
            last =
                last_on s.last x at (rw (← parent, ← child) b.note_edge.ensures.child)
                (rw (← parent) b.note_edge.ensures.some) (rw (← parent, ← child) b.note_edge.ensures.later);
            seen = seen_edge s.seen b.in-Some.ensures.same x at b.in-Some.ensures.counted;
          }
      | in_default b ↦
          let none =
          no_edge_here graph _ c.edges.e c.new.ensures.number (rw s.seen.same at b.in_default.ensures.gives) in
          rw b.work-is record {
            sized = s.sized;
            noted = passed s.noted;
            last = last_gap s.last none;
            seen = seen_gap s.seen b.in_default.ensures.same none b.in_default.ensures.missing;
          }
    ]

pub returns-clause-degrees : goal.returns-clause-degrees
returns-clause-degrees g c = λ n. degree (c.edges.invariant.noted n)

pub returns-clause-children : goal.returns-clause-children
returns-clause-children g c = λ n. (c.edges.invariant.noted n).child

pub returns-clause-last : goal.returns-clause-last
returns-clause-last g c =
    all_last c.edges.invariant.last
    (omega (arith, c.edges-test.false, c.edge_bound-bound.ensures))
    (λ n. (c.edges.invariant.noted n).child)

pub returns-clause-counted : goal.returns-clause-counted
returns-clause-counted g c = seen_all c.edges.invariant.seen
