use Rattle.std.proofs.Common.{◌≡◌, ◌∙◌, refl, sym, ap, subst, arith, vec_len}
use Rattle.daggy_base.specs.Weights.{edge_weight}
use Rattle.daggy_base.proofs.OutEdgesRead.{below_bound}
use Rattle.daggy_base.proofs.PathsWithNode.{bound_low}
use Rattle.daggy_schedule.specs.Lags.{AreLags, IsZeroWithoutEdge}
use Rattle.daggy_schedule.proofs.Durations.{called_one, called_none}
use Rattle.daggy_schedule.proofs.Starting.{resized}
use Rattle.daggy_schedule.proofs.Elsewhere.{no_lags, set_lag, edge_weighed}
use Rattle.daggy_schedule.proofs.schedule.lags.lags_of.Goals.{in-Some, in_default}
use Rattle.daggy_schedule.proofs.schedule.lags.lags_of.Goals as goal

pub new-e-requires : goal.new-e-requires
new-e-requires g c =
    let graph = g.S.EdgeSource.graph c.graph-store.result.now in
    omega (
      arith,
      c.edges-test.true,
      c.edge_bound-bound.ensures,
      bound_low graph.edges,
      c.invariant.ensures.well_formed.few_edges,
    )

pub edges-init : goal.edges-init
edges-init g c =
    record {
      sized = c.in_ok-resize.ensures.len;
      called = λ n w has low. absurd (omega (arith, low));
      elsewhere =
          no_lags (g.S.EdgeSource.graph c.graph-store.result.now) _ c.edge_bound-bound.result
          (resized _ _ c.edge_bound-bound.result _ 0 c.new-lags.ensures.items c.new-lags.ensures.len
          c.in_ok-resize.ensures.items);
    }

pub edges-preserved : goal.edges-preserved
edges-preserved g c =
    let graph = g.S.EdgeSource.graph c.graph-store.result.now in
    let of = g.Ix.IndexType.of in
    let post = goal.L-post g in
    let i = c.edges.i in
    let s = c.edges.invariant in
    let at : edge_weight graph (g.Ix.IndexType.number c.new-e.result) ≡ edge_weight graph i =
    ap (λ z. edge_weight graph z) c.new-e.ensures.number in
    elim c.match-edge_weight.branch [
      | in-Some w ↦ (
          let P : _ → Type 0 = λ z. post c.args.f z w.in-Some.weight w.f.result in
          record {
            sized = ap vec_len w.lags-is ∙ s.sized;
            called =
                called_one of post c.args.f (edge_weight graph) i c.edges.lags.items s.called w.in-Some.weight.now w.in-Some.weight
                (w.in-Some.ensures ∙ at) refl w.f.result (subst P c.new-e.ensures.value w.f.ensures)
                (omega (arith, s.sized, c.edges-test.true, c.edges.lags.ok.0)) c.match-edge_weight.lags.items
                (ap (λ z. z.items) w.lags-is);
            elsewhere =
                set_lag graph _ _ _ _ (edge_weighed graph i _ (sym (w.in-Some.ensures ∙ at))) s.elsewhere
                (ap (λ z. z.items) w.lags-is);
          }
          )
      | in_default w ↦
          record {
            sized = ap vec_len w.lags-is ∙ s.sized;
            called =
                called_none of post c.args.f (edge_weight graph) i c.edges.lags.items s.called (w.in_default.ensures ∙ at)
                c.match-edge_weight.lags.items (ap (λ z. z.items) w.lags-is);
            elsewhere =
                subst (λ z. IsZeroWithoutEdge graph z.items) (sym w.lags-is) s.elsewhere;
          }
    ]

pub returns-clause-elsewhere : goal.returns-clause-elsewhere
returns-clause-elsewhere g c =
    subst (λ z. IsZeroWithoutEdge z c.edges.lags.items) c.graph-store.ensures.graph c.edges.invariant.elsewhere

pub returns-clause-called : goal.returns-clause-called
returns-clause-called g c =
    let graph = g.S.EdgeSource.graph c.graph-store.result.now in
    let of = g.Ix.IndexType.of in
    let post = goal.L-post g in
    subst (λ z. AreLags of post c.args.f z c.edges.lags.items) c.graph-store.ensures.graph
    (λ e w has. c.edges.invariant.called e w has
    (omega (arith, c.edge_bound-bound.ensures, c.edges-test.false, below_bound graph.edges e (edge_weighed graph e w has))))
