use Rattle.std.proofs.Common.{◌≡◌, ◌<◌, ℕ, ◌∙◌, List, [], ◌∷◌, ◌++◌, ap, take, drop, get_or, length, sym, subst, arith}
use Rattle.std.proofs.lemmas.List.{get_or-drop, length-drop, take_more}
use Rattle.daggy_base.proofs.Lists.{contains_mem, mem_contains, mem_at}
use Rattle.daggy_order.proofs.NodesSorted.{not_before}
use Rattle.daggy_order.proofs.order.Order.of_nodes.Given.{Over}
use Rattle.daggy_order.proofs.order.Order.of_nodes.Goals.{After-node}
use Rattle.daggy_order.proofs.order.Order.of_nodes.Goals as goal

-- what is read is the next node of the list
read : (g : Over) (c : After-node g) (d : ℕ)
    → (c.node.result ≡ get_or (drop c.args.from c.args.work.now.nodes) c.nodes.i d)
    × (c.nodes.i < length (drop c.args.from c.args.work.now.nodes))
read g c d = (
  c.node.ensures d ∙ sym (get_or-drop c.args.from c.args.work.now.nodes c.nodes.i d),
  omega (arith, c.nodes-test.true, c.nodes.invariant.1, length-drop c.args.from c.args.work.now.nodes),
)

pub push-requires-clause-real : goal.push-requires-clause-real
push-requires-clause-real g c =
    let P : ℕ → Type 0 = λ z. z < g.Ix.IndexType.greatest in
    let node = c.node.result in
    let is = read g (goal.at.push-requires-clause-real g c).After-node node in
    subst P (sym (c.node-in-nodes.ensures.value ∙ is.0))
    (c.requires.real _ (mem_contains _ _ (mem_at _ c.nodes.i node is.1)))

pub push-requires-clause-absent : goal.push-requires-clause-absent
push-requires-clause-absent g c =
    let node = c.node.result in
    let is = read g (goal.at.push-requires-clause-absent g c).After-node node in
    rw c.nodes.invariant.0 (λ h.
    not_before _ c.requires.distinct c.nodes.i node (g.Ix.IndexType.number c.node-in-nodes.result) is.1
    (c.node-in-nodes.ensures.value ∙ is.0) (contains_mem _ _ h))

pub nodes-preserved : goal.nodes-preserved
nodes-preserved g c =
    let node = c.node.result in
    let ns = drop c.args.from c.args.work.now.nodes in
    let is = read g (goal.at.nodes-preserved g c).After-node node in (
      c.in_ok-push.ensures.ok
          ∙ ap (λ (z : List ℕ). z ++ g.Ix.IndexType.number c.node-in-nodes.result ∷ []) c.nodes.invariant.0
          ∙ ap (λ z. take c.nodes.i ns ++ z ∷ []) (c.node-in-nodes.ensures.value ∙ is.0)
          ∙ sym (take_more ns c.nodes.i node is.1),
      c.nodes.invariant.1,
    )
