use Rattle.std.proofs.Common.{◌≡◌, ◌∙◌, ◌<◌, ◌+◌, List, Option, is_some, sym, ap, subst, arith}
use Rattle.std.proofs.lemmas.Bool.{false≢true}
use Rattle.std.proofs.lemmas.List.Elements.{All-from_recursion}
use Rattle.std.specs.List.{AllByRecursion}
use Rattle.daggy_base.specs.Graph.{Graph, HasNode, node_weight}
use Rattle.daggy_base.proofs.Lists.{mem_contains}
use Rattle.daggy_base.proofs.OutEdgesRead.{below_bound}
use Rattle.daggy_base.proofs.PathsWithNode.{bound_low}
use Rattle.daggy_schedule.specs.LeastFirst.{IsKeyOf}
use Rattle.daggy_schedule.specs.KeyQueue.{keys_from}
use Rattle.daggy_schedule.proofs.KeysFrom.{AreKeysBelow, keys_with, keys_without}
use Rattle.daggy_schedule.proofs.ready_by_key.keys_by_index.Goals as goal

pub new-n-requires : goal.new-n-requires
new-n-requires g c =
    let graph = g.S.EdgeSource.graph c.graph-store.result.now in
    omega (
      arith,
      c.nodes-test.true,
      c.node_bound-bound.ensures.value,
      bound_low graph.nodes,
      c.node_bound-bound.ensures.well_formed.few_nodes,
    )

pub nodes-preserved-in_default : goal.nodes-preserved-in_default
nodes-preserved-in_default g c =
    let graph = g.S.EdgeSource.graph c.graph-store.result.now in
    let s = c.nodes.invariant in
    let at : node_weight graph (g.Ix.IndexType.number c.new-n.result) ≡ node_weight graph c.nodes.i =
    ap (λ z. node_weight graph z) c.new-n.ensures.number in
    let P : List (Option _) → Type 0 = λ z.
    AreKeysBelow (IsKeyOf g.Ix.IndexType.of (goal.F-post g) c.args.key graph) graph (c.nodes.i + 1) z in
    let none : HasNode graph c.nodes.i → ⊥ = λ h. false≢true (ap is_some (c.in_default.ensures ∙ at) ∙ h) in
    record {
      sized = omega (arith, c.in_ok-push.ensures.len, s.sized);
      below = subst P (sym c.in_ok-push.ensures.items) (keys_without s.below none);
    }

pub nodes-preserved : goal.nodes-preserved
nodes-preserved g c =
    let graph = g.S.EdgeSource.graph c.graph-store.result.now in
    let s = c.nodes.invariant in
    let weight = c.in-Some.weight in
    let at : node_weight graph (g.Ix.IndexType.number c.new-n.result) ≡ node_weight graph c.nodes.i =
    ap (λ z. node_weight graph z) c.new-n.ensures.number in
    let IsKey = IsKeyOf g.Ix.IndexType.of (goal.F-post g) c.args.key graph in
    let Q : _ → Type 0 = λ z. goal.F-post g c.args.key z weight c.key.result in
    let key : IsKey (c.key.result, c.nodes.i) = (
      weight,
      sym (c.in-Some.ensures ∙ at),
      subst Q c.new-n.ensures.value c.key.ensures,
    ) in
    let P : List (Option _) → Type 0 = λ z. AreKeysBelow IsKey graph (c.nodes.i + 1) z in
    record {
      sized = omega (arith, c.in_ok-push-2.ensures.len, s.sized);
      below = subst P (sym c.in_ok-push-2.ensures.items) (keys_with s.below c.key.result key);
    }

pub returns-clause-called : goal.returns-clause-called
returns-clause-called g c =
    let keys = keys_from 0 c.nodes.keys.items in
    let P : Graph _ _ → Type 0 = λ z. AllByRecursion (IsKeyOf g.Ix.IndexType.of (goal.F-post g) c.args.key z) keys in
    All-from_recursion _ keys (subst P c.graph-store.ensures.graph c.nodes.invariant.below.keyed)

pub returns-clause-each : goal.returns-clause-each
returns-clause-each g c n has =
    let graph = g.S.EdgeSource.graph c.graph-store.result.now in
    let H : Graph _ _ → Type 0 = λ z. HasNode z n in
    let here : HasNode graph n = subst H (sym c.graph-store.ensures.graph) has in
    let low : n < c.nodes.i =
    omega (arith, below_bound graph.nodes n here, c.node_bound-bound.ensures.value, c.nodes-test.false) in
    mem_contains _ n (c.nodes.invariant.below.each n low here)
