use Rattle.std.proofs.Common.{◌≡◌, ◌∙◌, ◌+◌, ◌-◌, ap, sym, subst, arith, rules, refl, true, false, length}
use Rattle.std.specs.Prelude.{Some, OnSome}
use Rattle.daggy_base.specs.State.{with_graph}
use Rattle.daggy_base.specs.Graph.{node_weight}
use Rattle.daggy_base.specs.Mapping.{CalledAt}
use Rattle.daggy_base.specs.Removal.{without_node}
use Rattle.daggy_reduction.proofs.RemainingEdges.{slot_inside}
use Rattle.daggy_base.proofs.IndicesKept.{keeps_on}
use Rattle.daggy_dag.proofs.Retained.{all_asked, may_call, vacant_slot, slot_stays, slot_removed, node_below}
use Rattle.daggy_dag.proofs.acyclic.Acyclic.retain_nodes.Goals as goal

pub new-n-requires : goal.new-n-requires
new-n-requires g c =
    let s = c.nodes.invariant.asking in
    let few = c.invariant.ensures.well_formed.few_nodes in
    let same = ap (λ z. length z.nodes) c.graph-graph.ensures.graph in
    omega (arith, c.nodes-test.true, s.low, few, same)

pub keep-requires : goal.keep-requires
keep-requires g c =
    let of = g.Ix.IndexType.of in
    let pre = goal.F-pre g in
    let graph = c.nodes.self.graph in
    let n = c.nodes.slot - 1 in
    let is : c.nodes.slot ≡ n + 1 = omega (arith, c.nodes-test.true) in
    let w = c.in-Some.weight.now in
    let at : node_weight graph n ≡ Some w = sym (c.in-Some.ensures ∙ ap (λ k. node_weight graph k) c.new-n.ensures.number) in
    subst (λ e. pre c.nodes.keep e c.in-Some.weight) (sym c.new-n.ensures.value)
    (may_call of pre (goal.F-step g) (λ w. w) (λ z. z.nodes) (without_node g.S.ReadStore.KIND) c.args.keep c.args.self.now.graph
    c.nodes.keep graph c.nodes.slot n is c.nodes.invariant.asking w at c.in-Some.weight refl)

pub nodes-preserved-then-not-keep : goal.nodes-preserved-then-not-keep
nodes-preserved-then-not-keep g c =
    let of = g.Ix.IndexType.of in
    let step = goal.F-step g in
    let kind = g.S.ReadStore.KIND in
    let old = c.nodes.self in
    let n = c.nodes.slot - 1 in
    let is : c.nodes.slot ≡ n + 1 = omega (arith, c.nodes-test.true) in
    let w = c.in-Some.weight.now in
    let at : node_weight old.graph n ≡ Some w = sym (c.in-Some.ensures ∙ ap (λ k. node_weight old.graph k) c.new-n.ensures.number) in
    let called : CalledAt step of c.nodes.keep n w false c.keep.new.self = record {
      shown = c.in-Some.weight;
      shows = refl;
      called = subst (λ e. step c.nodes.keep e c.in-Some.weight false c.keep.new.self) c.new-n.ensures.value (search rules);
    } in
    let found : c.remove_node.result ≡ Some c.in-Some.weight.now = c.remove_node.ensures.value ∙ sym c.in-Some.ensures in
    let without : c.remove_node.new.self ≡ with_graph old (without_node kind old.graph (g.Ix.IndexType.number c.new-n.result)) =
    subst (λ r. OnSome r (c.remove_node.new.self ≡ with_graph old (without_node kind old.graph (g.Ix.IndexType.number c.new-n.result))))
    found c.remove_node.ensures.removed in
    let left : c.remove_node.new.self.graph ≡ without_node kind old.graph n =
    ap (λ z. z.graph) without ∙ ap (without_node kind old.graph) c.new-n.ensures.number in
    record {
      asking =
          slot_removed of (goal.F-pre g) step (λ w. w) (λ z. z.nodes) (without_node kind) c.args.keep c.args.self.now.graph
          c.nodes.keep old.graph c.nodes.slot n is c.nodes.invariant.asking w c.keep.new.self c.remove_node.new.self.graph at
          called left (λ j low. node_below kind old.graph n (slot_inside old.graph.nodes n w at) j low);
      looks = ap (λ z. z.looks) without ∙ c.nodes.invariant.looks;
      acyclic = c.remove_node.ensures.acyclic;
      keeps = λ is. keeps_on _ _ _ (c.nodes.invariant.keeps is) (c.remove_node.ensures.keeps is);
    }

pub nodes-preserved-else-not-keep : goal.nodes-preserved-else-not-keep
nodes-preserved-else-not-keep g c =
    let of = g.Ix.IndexType.of in
    let step = goal.F-step g in
    let graph = c.nodes.self.graph in
    let n = c.nodes.slot - 1 in
    let is : c.nodes.slot ≡ n + 1 = omega (arith, c.nodes-test.true) in
    let w = c.in-Some.weight.now in
    let at : node_weight graph n ≡ Some w = sym (c.in-Some.ensures ∙ ap (λ k. node_weight graph k) c.new-n.ensures.number) in
    let called : CalledAt step of c.nodes.keep n w true c.keep.new.self = record {
      shown = c.in-Some.weight;
      shows = refl;
      called = subst (λ e. step c.nodes.keep e c.in-Some.weight true c.keep.new.self) c.new-n.ensures.value (search rules);
    } in
    record {
      asking =
          slot_stays of (goal.F-pre g) step (λ w. w) (λ z. z.nodes) (without_node g.S.ReadStore.KIND) c.args.keep c.args.self.now.graph
          c.nodes.keep graph c.nodes.slot n is c.nodes.invariant.asking w c.keep.new.self at called;
      looks = search rules;
      acyclic = c.nodes.invariant.acyclic;
      keeps = c.nodes.invariant.keeps;
    }

pub nodes-preserved : goal.nodes-preserved
nodes-preserved g c =
    let n = c.nodes.slot - 1 in
    let is : c.nodes.slot ≡ n + 1 = omega (arith, c.nodes-test.true) in
    record {
      asking =
          vacant_slot g.Ix.IndexType.of (goal.F-pre g) (goal.F-step g) (λ w. w) (λ z. z.nodes) (without_node g.S.ReadStore.KIND)
          c.args.keep c.args.self.now.graph c.nodes.keep c.nodes.self.graph c.nodes.slot n is c.nodes.invariant.asking
          (sym (c.in_default.ensures ∙ ap (λ k. node_weight c.nodes.self.graph k) c.new-n.ensures.number));
      looks = c.nodes.invariant.looks;
      acyclic = c.nodes.invariant.acyclic;
      keeps = c.nodes.invariant.keeps;
    }

pub returns-clause-retained : goal.returns-clause-retained
returns-clause-retained g c =
    all_asked g.Ix.IndexType.of (goal.F-pre g) (goal.F-step g) (λ w. w) (λ z. z.nodes) (without_node g.S.ReadStore.KIND)
    c.args.keep c.args.self.now.graph c.nodes.keep c.nodes.self.graph c.nodes.slot (omega (arith, c.nodes-test.false))
    c.nodes.invariant.asking
