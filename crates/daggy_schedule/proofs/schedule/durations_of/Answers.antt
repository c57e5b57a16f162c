use Rattle.std.proofs.Common.{◌≡◌, ◌∙◌, ℕ, List, refl, sym, ap, subst, arith, vec_len, is_some}
use Rattle.daggy_base.specs.Graph.{Graph, node_weight}
use Rattle.daggy_base.proofs.OutEdgesRead.{below_bound}
use Rattle.daggy_base.proofs.PathsWithNode.{bound_low}
use Rattle.daggy_schedule.specs.Times.{AreDurations, IsZeroElsewhere}
use Rattle.daggy_schedule.proofs.Durations.{called_one, called_none}
use Rattle.daggy_schedule.proofs.Starting.{resized}
use Rattle.daggy_schedule.proofs.Elsewhere.{zeros_elsewhere, set_elsewhere}
use Rattle.daggy_schedule.proofs.schedule.durations_of.Goals.{in-Some, in_default}
use Rattle.daggy_schedule.proofs.schedule.durations_of.Goals as goal

pub new-n-requires : goal.new-n-requires
new-n-requires g c =
    let graph = g.S.EdgeSource.graph c.graph-store.result.now in
    omega (
      arith,
      c.nodes-test.true,
      c.node_bound-bound.ensures.value,
      bound_low graph.nodes,
      c.node_bound-bound.ensures.well_formed.few_nodes,
    )

pub nodes-init : goal.nodes-init
nodes-init g c =
    record {
      sized = c.in_ok-resize.ensures.len;
      called = λ n w has low. absurd (omega (arith, low));
      elsewhere =
          zeros_elsewhere (g.S.EdgeSource.graph c.graph-store.result.now) _ c.node_bound-bound.result
          (resized _ _ c.node_bound-bound.result _ 0 c.new-durations.ensures.items c.new-durations.ensures.len
          c.in_ok-resize.ensures.items);
    }

pub nodes-preserved : goal.nodes-preserved
nodes-preserved g c =
    let graph = g.S.EdgeSource.graph c.graph-store.result.now in
    let of = g.Ix.IndexType.of in
    let post = goal.F-post g in
    let i = c.nodes.i in
    let s = c.nodes.invariant in
    let at : node_weight graph (g.Ix.IndexType.number c.new-n.result) ≡ node_weight graph i =
    ap (λ z. node_weight graph z) c.new-n.ensures.number in
    elim c.match-node_weight.branch [
      | in-Some w ↦ (
          let P : _ → Type 0 = λ z. post c.args.f z w.in-Some.weight w.f.result in
          record {
            sized = ap vec_len w.durations-is ∙ s.sized;
            called =
                called_one of post c.args.f (node_weight graph) i c.nodes.durations.items s.called w.in-Some.weight.now w.in-Some.weight
                (w.in-Some.ensures ∙ at) refl w.f.result (subst P c.new-n.ensures.value w.f.ensures)
                (omega (arith, s.sized, c.nodes-test.true, c.nodes.durations.ok.0)) c.match-node_weight.durations.items
                (ap (λ z. z.items) w.durations-is);
            elsewhere =
                set_elsewhere graph _ _ _ _ (ap is_some (sym (w.in-Some.ensures ∙ at))) s.elsewhere (ap (λ z. z.items) w.durations-is);
          }
          )
      | in_default w ↦
          record {
            sized = ap vec_len w.durations-is ∙ s.sized;
            called =
                called_none of post c.args.f (node_weight graph) i c.nodes.durations.items s.called (w.in_default.ensures ∙ at)
                c.match-node_weight.durations.items (ap (λ z. z.items) w.durations-is);
            elsewhere =
                (let P : List ℕ → Type 0 = λ z. IsZeroElsewhere graph z in
                subst P (sym (ap (λ z. z.items) w.durations-is)) s.elsewhere);
          }
    ]

pub returns-clause-elsewhere : goal.returns-clause-elsewhere
returns-clause-elsewhere g c =
    let P : Graph _ _ → Type 0 = λ z. IsZeroElsewhere z c.nodes.durations.items in
    subst P c.graph-store.ensures.graph c.nodes.invariant.elsewhere

pub returns-clause-called : goal.returns-clause-called
returns-clause-called g c =
    let graph = g.S.EdgeSource.graph c.graph-store.result.now in
    let of = g.Ix.IndexType.of in
    let post = goal.F-post g in
    let P : Graph _ _ → Type 0 = λ z. AreDurations of post c.args.f z c.nodes.durations.items in
    subst P c.graph-store.ensures.graph
    (λ n w has. c.nodes.invariant.called n w has
    (omega (arith, c.node_bound-bound.ensures.value, c.nodes-test.false, below_bound graph.nodes n (ap is_some has))))
