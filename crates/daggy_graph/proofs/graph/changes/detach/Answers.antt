use Rattle.std.proofs.Common.{◌≢◌, sym, ◌∙◌, arith}
use Rattle.daggy_base.specs.declared.index.Direction.TheVariants.{Outgoing, Incoming}
use Rattle.daggy_cells.proofs.RedirectLemmas.{next_is}
use Rattle.daggy_graph.proofs.RemovalLemmas.{HasLastEdge, AreNexts, n_in, ready_1, ready_2, ready_3, ready_4}
use Rattle.daggy_graph.proofs.RemovalLemmas.{head_2, head_3, head_4, detached_last, detached_other}
use Rattle.daggy_graph.proofs.graph.changes.detach.Given.{Over}
use Rattle.daggy_graph.proofs.graph.changes.detach.Goals.{After-new-moved, After-redirect}
use Rattle.daggy_graph.proofs.graph.changes.detach.Goals as goal

has : (g : Over) (c : After-new-moved g) → HasLastEdge c.args.edges.now.items c.args.e c.new-moved.result
has g c = record {
  inside = c.requires.edge;
  long = omega (arith, c.len.ensures, c.requires.edge, c.new-moved.ensures);
}

-- what follows e in the two lists
nexts : (g : Over) (c : After-redirect g)
    → AreNexts c.args.edges.now.items c.args.e c.next-next_out.result c.next-next_in.result
nexts g c =
    let edges = c.args.edges.now.items in
    record {
      out_is =
          c.next-next_out.ensures
          ∙ next_is Outgoing edges _ c.args.e _ c.index.ensures c.index-i.ensures.value c.requires.edge;
      into_is =
          c.next-next_in.ensures
          ∙ next_is Incoming edges _ c.args.e _ c.index-2.ensures c.index-i.ensures.value c.requires.edge;
    }

pub of-out-requires-clause-node : goal.of-out-requires-clause-node
of-out-requires-clause-node g c =
    n_in c.requires.stored Outgoing c.args.e c.requires.edge

pub of-into-requires-clause-node : goal.of-into-requires-clause-node
of-into-requires-clause-node g c =
    n_in c.requires.stored Incoming c.args.e c.requires.edge

pub of-moved_out-requires-clause-node : goal.of-moved_out-requires-clause-node
of-moved_out-requires-clause-node g c =
    let at = goal.at.of-moved_out-requires-clause-node g c in
    n_in c.requires.stored Outgoing c.new-moved.result (omega (arith, (has g at.After-new-moved).long))

pub of-moved_into-requires-clause-node : goal.of-moved_into-requires-clause-node
of-moved_into-requires-clause-node g c =
    let at = goal.at.of-moved_into-requires-clause-node g c in
    n_in c.requires.stored Incoming c.new-moved.result (omega (arith, (has g at.After-new-moved).long))

pub redirect-requires-clause-ready : goal.redirect-requires-clause-ready
redirect-requires-clause-ready g c =
    let at = goal.at.redirect-requires-clause-ready g c in
    ready_1 c.requires.stored (has g at.After-new-moved)

pub redirect-requires-2-clause-ready : goal.redirect-requires-2-clause-ready
redirect-requires-2-clause-ready g c =
    let at = goal.at.redirect-requires-2-clause-ready g c in
    ready_2 c.requires.stored (has g at.After-new-moved) (nexts g at.After-redirect) c.redirect.ensures

pub redirect-requires-2-clause-head : goal.redirect-requires-2-clause-head
redirect-requires-2-clause-head g c =
    let at = goal.at.redirect-requires-2-clause-head g c in
    head_2 c.requires.stored (has g at.After-new-moved) (nexts g at.After-redirect) c.redirect.ensures c.of-into.ensures

pub redirect-requires-then-i-index-clause-ready : goal.redirect-requires-then-i-index-clause-ready
redirect-requires-then-i-index-clause-ready g c =
    let at = goal.at.redirect-requires-then-i-index-clause-ready g c in
    let differs : c.args.e ≢ c.new-moved.result = λ q.
    c.if-i-index.true (c.index-i.ensures.value ∙ q ∙ sym c.index-3.ensures.value) in
    ready_3 c.requires.stored (has g at.After-new-moved) (nexts g at.After-redirect) c.redirect.ensures c.redirect-2.ensures differs

pub redirect-requires-then-i-index-clause-head : goal.redirect-requires-then-i-index-clause-head
redirect-requires-then-i-index-clause-head g c =
    let at = goal.at.redirect-requires-then-i-index-clause-head g c in
    head_3 c.requires.stored (has g at.After-new-moved) (nexts g at.After-redirect) c.redirect.ensures c.redirect-2.ensures
    c.of-moved_out.ensures c.without-out.ensures.node c.without-out.ensures.first

pub redirect-requires-then-i-index-2-clause-ready : goal.redirect-requires-then-i-index-2-clause-ready
redirect-requires-then-i-index-2-clause-ready g c =
    let at = goal.at.redirect-requires-then-i-index-2-clause-ready g c in
    let differs : c.args.e ≢ c.new-moved.result = λ q.
    c.if-i-index.true (c.index-i.ensures.value ∙ q ∙ sym c.index-3.ensures.value) in
    ready_4 c.requires.stored (has g at.After-new-moved) (nexts g at.After-redirect) c.redirect.ensures c.redirect-2.ensures
    c.redirect-then-i-index.ensures differs

pub redirect-requires-then-i-index-2-clause-head : goal.redirect-requires-then-i-index-2-clause-head
redirect-requires-then-i-index-2-clause-head g c =
    let at = goal.at.redirect-requires-then-i-index-2-clause-head g c in
    head_4 c.requires.stored (has g at.After-new-moved) (nexts g at.After-redirect) c.redirect.ensures c.redirect-2.ensures
    c.redirect-then-i-index.ensures c.of-moved_into.ensures c.without-into.ensures.node
    c.without-into.ensures.first

pub returns-then-i-index-clause-detached : goal.returns-then-i-index-clause-detached
returns-then-i-index-clause-detached g c =
    let at = goal.at.returns-then-i-index-clause-detached g c in
    let differs : c.args.e ≢ c.new-moved.result = λ q.
    c.if-i-index.true (c.index-i.ensures.value ∙ q ∙ sym c.index-3.ensures.value) in
    detached_other c.requires.stored (has g at.After-new-moved) (nexts g at.After-redirect) c.redirect.ensures c.redirect-2.ensures
    c.redirect-then-i-index.ensures c.redirect-then-i-index-2.ensures differs

pub returns-else-i-index-clause-detached : goal.returns-else-i-index-clause-detached
returns-else-i-index-clause-detached g c =
    let at = goal.at.returns-else-i-index-clause-detached g c in
    detached_last c.requires.stored (has g at.After-new-moved) (nexts g at.After-redirect) c.redirect.ensures c.redirect-2.ensures
    (sym c.index-i.ensures.value ∙ c.if-i-index.false ∙ c.index-3.ensures.value)
