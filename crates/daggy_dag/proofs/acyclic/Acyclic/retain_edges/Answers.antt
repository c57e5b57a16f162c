use Rattle.std.proofs.Common.{◌≡◌, ◌∙◌, ◌+◌, ◌-◌, ℕ, refl, ap, sym, subst, arith, rules, true, false, length}
use Rattle.std.specs.Prelude.{Some, OnSome}
use Rattle.daggy_base.specs.Graph.{Graph}
use Rattle.daggy_base.specs.declared.kind.Kind.{Kind}
use Rattle.daggy_base.specs.declared.kind.Kind.TheVariants.{Compact, Stable}
use Rattle.daggy_base.specs.State.{with_graph}
use Rattle.daggy_base.specs.Weights.{edge_weight}
use Rattle.daggy_base.specs.Mapping.{CalledAt, weight_in}
use Rattle.daggy_base.specs.Removal.{without_edge}
use Rattle.daggy_reduction.proofs.RemainingEdges.{left_below, slot_inside}
use Rattle.daggy_base.proofs.IndicesKept.{keeps_on}
use Rattle.daggy_dag.proofs.Retained.{may_call, vacant_slot, slot_stays, slot_removed, has_weight, has_no_weight}
use Rattle.daggy_dag.proofs.acyclic.Acyclic.retain_edges.Goals as goal

same_nodes : {N E : Type 0} (kind : Kind) (g : Graph N E) (e : ℕ) → (without_edge kind g e).nodes ≡ g.nodes
same_nodes Compact g e = refl
same_nodes Stable g e = refl

pub new-e-requires : goal.new-e-requires
new-e-requires g c =
    let s = c.edges.invariant.asking in
    let few = c.invariant.ensures.well_formed.few_edges in
    let same = ap (λ z. length z.edges) c.graph-graph.ensures.graph in
    omega (arith, c.edges-test.true, s.low, few, same)

pub keep-requires : goal.keep-requires
keep-requires g c =
    let of = g.Ix.IndexType.of in
    let pre = goal.F-pre g in
    let graph = c.edges.self.graph in
    let n = c.edges.slot - 1 in
    let is : c.edges.slot ≡ n + 1 = omega (arith, c.edges-test.true) in
    let at = has_weight _ _ (c.in-Some.ensures ∙ ap (λ k. edge_weight graph k) c.new-e.ensures.number) in
    subst (λ e. pre c.edges.keep e c.in-Some.weight) (sym c.new-e.ensures.value)
    (may_call of pre (goal.F-step g) weight_in (λ z. z.edges) (without_edge g.S.ReadStore.KIND) c.args.keep c.args.self.now.graph
    c.edges.keep graph c.edges.slot n is c.edges.invariant.asking at.0 at.1 c.in-Some.weight at.2)

pub edges-preserved-then-not-keep : goal.edges-preserved-then-not-keep
edges-preserved-then-not-keep g c =
    let of = g.Ix.IndexType.of in
    let step = goal.F-step g in
    let kind = g.S.ReadStore.KIND in
    let old = c.edges.self in
    let n = c.edges.slot - 1 in
    let is : c.edges.slot ≡ n + 1 = omega (arith, c.edges-test.true) in
    let at = has_weight _ _ (c.in-Some.ensures ∙ ap (λ k. edge_weight old.graph k) c.new-e.ensures.number) in
    let called : CalledAt step of c.edges.keep n at.0.weight false c.keep.new.self = record {
      shown = c.in-Some.weight;
      shows = at.2;
      called = subst (λ e. step c.edges.keep e c.in-Some.weight false c.keep.new.self) c.new-e.ensures.value (search rules);
    } in
    let found : c.remove_edge.result ≡ Some c.in-Some.weight.now = c.remove_edge.ensures.value ∙ sym c.in-Some.ensures in
    let without : c.remove_edge.new.self ≡ with_graph old (without_edge kind old.graph (g.Ix.IndexType.number c.new-e.result)) =
    subst (λ r. OnSome r (c.remove_edge.new.self ≡ with_graph old (without_edge kind old.graph (g.Ix.IndexType.number c.new-e.result))))
    found c.remove_edge.ensures.removed in
    let left : c.remove_edge.new.self.graph ≡ without_edge kind old.graph n =
    ap (λ z. z.graph) without ∙ ap (without_edge kind old.graph) c.new-e.ensures.number in
    record {
      asking =
          slot_removed of (goal.F-pre g) step weight_in (λ z. z.edges) (without_edge kind) c.args.keep c.args.self.now.graph
          c.edges.keep old.graph c.edges.slot n is c.edges.invariant.asking at.0 c.keep.new.self c.remove_edge.new.self.graph at.1
          called left (λ j low. left_below old.graph n kind j (slot_inside old.graph.edges n at.0 at.1) low);
      looks = ap (λ z. z.looks) without ∙ c.edges.invariant.looks;
      acyclic = c.remove_edge.ensures.acyclic;
      keeps = λ is. keeps_on _ _ _ (c.edges.invariant.keeps is) (c.remove_edge.ensures.keeps is);
      nodes = ap (λ z. z.nodes) left ∙ same_nodes kind old.graph n ∙ c.edges.invariant.nodes;
    }

pub edges-preserved-else-not-keep : goal.edges-preserved-else-not-keep
edges-preserved-else-not-keep g c =
    let of = g.Ix.IndexType.of in
    let step = goal.F-step g in
    let graph = c.edges.self.graph in
    let n = c.edges.slot - 1 in
    let is : c.edges.slot ≡ n + 1 = omega (arith, c.edges-test.true) in
    let at = has_weight _ _ (c.in-Some.ensures ∙ ap (λ k. edge_weight graph k) c.new-e.ensures.number) in
    let called : CalledAt step of c.edges.keep n at.0.weight true c.keep.new.self = record {
      shown = c.in-Some.weight;
      shows = at.2;
      called = subst (λ e. step c.edges.keep e c.in-Some.weight true c.keep.new.self) c.new-e.ensures.value (search rules);
    } in
    record {
      asking =
          slot_stays of (goal.F-pre g) step weight_in (λ z. z.edges) (without_edge g.S.ReadStore.KIND) c.args.keep c.args.self.now.graph
          c.edges.keep graph c.edges.slot n is c.edges.invariant.asking at.0 c.keep.new.self at.1 called;
      looks = search rules;
      acyclic = c.edges.invariant.acyclic;
      keeps = c.edges.invariant.keeps;
      nodes = c.edges.invariant.nodes;
    }

pub edges-preserved : goal.edges-preserved
edges-preserved g c =
    let n = c.edges.slot - 1 in
    let is : c.edges.slot ≡ n + 1 = omega (arith, c.edges-test.true) in
    record {
      asking =
          vacant_slot g.Ix.IndexType.of (goal.F-pre g) (goal.F-step g) weight_in (λ z. z.edges) (without_edge g.S.ReadStore.KIND)
          c.args.keep c.args.self.now.graph c.edges.keep c.edges.self.graph c.edges.slot n is c.edges.invariant.asking
          (has_no_weight _ (c.in_default.ensures ∙ ap (λ k. edge_weight c.edges.self.graph k) c.new-e.ensures.number));
      looks = c.edges.invariant.looks;
      acyclic = c.edges.invariant.acyclic;
      keeps = c.edges.invariant.keeps;
      nodes = c.edges.invariant.nodes;
    }
