use Rattle.std.proofs.Common.{◌≡◌, ◌+◌, ◌++◌, ◌∷◌, [], ℕ, List, map, take, replicate, false, ap, sym, subst}
use Rattle.std.proofs.Common.{◌∙◌, arith, append_assoc}
use Rattle.std.specs.Prelude.{Contains}
use Rattle.std.specs.List.{range_with_len}
use Rattle.std.proofs.lemmas.List.{take_all, append-nil}
use Rattle.daggy_base.specs.Graph.{HasNode, HasEdge, edge_bound}
use Rattle.daggy_base.proofs.OutEdgesRead.{below_bound}
use Rattle.daggy_base.proofs.PathsWithNode.{bound_low}
use Rattle.daggy_cycles.specs.Feedback.{AreLeftOut}
use Rattle.daggy_cycles.specs.Trying.{AreTried}
use Rattle.daggy_cycles.proofs.LeftOut.{nothing_tried, map_take_more, range_more, in_range, rest_acyclic, one_cyclic}
use Rattle.daggy_cycles.proofs.LeftOut.{sorted_tried, sorted_ascending}
use Rattle.daggy_cycles.proofs.feedback.feedback_arc_set.Goals as goal

pub edgeless-requires : goal.edgeless-requires
edgeless-requires g c =
    omega (
      arith,
      c.node_bound.ensures.value,
      bound_low (g.S.EdgeSource.graph c.args.store.now).nodes,
      c.node_bound.ensures.well_formed.few_nodes,
    )

pub preferred-init : goal.preferred-init
preferred-init g c =
    let graph = g.S.EdgeSource.graph c.args.store.now in
    let dag = c.in_ok-kept.kept.graph in
    let nodes : (n : ℕ) → HasNode graph n → HasNode dag n = λ n h.
    c.in_ok-kept.ensures.nodes n (omega (arith, below_bound graph.nodes n h, c.node_bound.ensures.value)) in
    let P : List ℕ → Type 0 = λ z. AreTried graph dag c.in_ok-marks.marks.items [] z in
    subst P (sym (ap (λ z. map g.Ix.IndexType.number z) c.new-left_out.ensures.items)) (nothing_tried graph dag
    c.in_ok-marks.marks.items nodes c.in_ok-kept.ensures.edges
    (c.in_ok-marks.ensures ∙ ap (λ (z : ℕ). replicate z false) c.edge_bound.ensures))

pub preferred-preserved : goal.preferred-preserved
preferred-preserved g c =
    let graph = g.S.EdgeSource.graph c.args.store.now in
    let number = g.Ix.IndexType.number in
    let P : List ℕ → Type 0 = λ z.
    AreTried graph c.try_edge.new.kept.graph c.try_edge.new.marks.items z (map number c.try_edge.new.left_out.items) in
    subst P (sym (map_take_more number c.args.preferred.now c.preferred.e-index c.e-item.result c.preferred-test.true c.e-item.is))
    (c.in_ok-try_edge.ensures.tried (map number (take c.preferred.e-index c.args.preferred.now)) c.preferred.invariant)

pub new-e-requires : goal.new-e-requires
new-e-requires g c =
    omega (
      arith,
      c.others-test.true,
      c.edge_bound-i-end.ensures,
      bound_low (g.S.EdgeSource.graph c.args.store.now).edges,
      c.node_bound.ensures.well_formed.few_edges,
    )

pub others-init : goal.others-init
others-init g c =
    let graph = g.S.EdgeSource.graph c.args.store.now in
    let number = g.Ix.IndexType.number in
    let P : List ℕ → Type 0 = λ z.
    AreTried graph c.preferred.kept.graph c.preferred.marks.items z (map number c.preferred.left_out.items) in
    let whole = take_all c.preferred.e-index c.args.preferred.now (omega (arith, c.preferred-test.false)) in
    subst P (ap (λ z. map number z) whole ∙ sym (append-nil (map number c.args.preferred.now))) c.preferred.invariant

pub others-preserved : goal.others-preserved
others-preserved g c =
    let graph = g.S.EdgeSource.graph c.args.store.now in
    let number = g.Ix.IndexType.number in
    let i = c.others.i in
    let ps = map number c.args.preferred.now in
    let P : List ℕ → Type 0 = λ z.
    AreTried graph c.try_edge-in-others.new.kept.graph c.try_edge-in-others.new.marks.items z
    (map number c.try_edge-in-others.new.left_out.items) in
    let more : (ps ++ range_with_len 0 i) ++ number c.new-e.result ∷ [] ≡ ps ++ range_with_len 0 (i + 1) =
    append_assoc ps (range_with_len 0 i) (number c.new-e.result ∷ [])
    ∙ ap (λ (z : List ℕ). ps ++ z)
    (ap (λ (z : ℕ). range_with_len 0 i ++ z ∷ []) c.new-e.ensures.number ∙ sym (range_more i)) in
    subst P more (c.in_ok-try_edge-2.ensures.tried (ps ++ range_with_len 0 i) c.others.invariant)

pub returns-clause-left_out : goal.returns-clause-left_out
returns-clause-left_out g c =
    let graph = g.S.EdgeSource.graph c.args.store.now in
    let number = g.Ix.IndexType.number in
    let ps = map number c.args.preferred.now in
    let at : c.others.i ≡ edge_bound graph =
    omega (arith, c.others-test.false, c.others.auto.i-end, c.edge_bound-i-end.ensures) in
    let s =
    sorted_tried number c.node_bound.ensures.well_formed c.others.left_out.items c.sort_by_index.new.edges.items
    c.others.invariant c.sort_by_index.ensures.same in
    let P : ℕ → Type 0 = λ z.
    AreLeftOut graph (ps ++ range_with_len 0 z) (map number c.sort_by_index.new.edges.items) in
    subst P at s.left_out

pub returns-clause-ascending : goal.returns-clause-ascending
returns-clause-ascending g c =
    sorted_ascending g.Ix.IndexType.number c.node_bound.ensures.well_formed c.others.left_out.items
    c.sort_by_index.new.edges.items c.others.invariant c.sort_by_index.ensures.same c.sort_by_index.ensures.sorted

pub returns-clause-acyclic : goal.returns-clause-acyclic
returns-clause-acyclic g c =
    let graph = g.S.EdgeSource.graph c.args.store.now in
    let number = g.Ix.IndexType.number in
    let ps = map number c.args.preferred.now in
    let w = c.node_bound.ensures.well_formed in
    let s =
    sorted_tried number w c.others.left_out.items c.sort_by_index.new.edges.items c.others.invariant
    c.sort_by_index.ensures.same in
    let all : (e : ℕ) → HasEdge graph e → Contains (ps ++ range_with_len 0 c.others.i) e = λ e h.
    in_range ps c.others.i e
    (omega (arith, below_bound graph.edges e h, c.others-test.false, c.edge_bound-i-end.ensures)) in
    rest_acyclic w s all c.edge_count-count.ensures.dag.acyclic

pub returns-clause-minimal : goal.returns-clause-minimal
returns-clause-minimal g c =
    let graph = g.S.EdgeSource.graph c.args.store.now in
    let number = g.Ix.IndexType.number in
    let ps = map number c.args.preferred.now in
    let w = c.node_bound.ensures.well_formed in
    let s =
    sorted_tried number w c.others.left_out.items c.sort_by_index.new.edges.items c.others.invariant
    c.sort_by_index.ensures.same in
    let all : (e : ℕ) → HasEdge graph e → Contains (ps ++ range_with_len 0 c.others.i) e = λ e h.
    in_range ps c.others.i e
    (omega (arith, below_bound graph.edges e h, c.others-test.false, c.edge_bound-i-end.ensures)) in
    λ e left. one_cyclic w s all e left
