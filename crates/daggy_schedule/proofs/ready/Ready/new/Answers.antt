use Rattle.std.proofs.Common.{◌≡◌, ◌∙◌, ◌+◌, ◌<◌, ◌++◌, ◌∷◌, [], false, length, set, take, drop, refl}
use Rattle.std.proofs.Common.{replicate, get_or, sym, ap, subst, arith}
use Rattle.std.proofs.lemmas.Bool.{false≢true}
use Rattle.std.proofs.lemmas.List.{take_more_set, length-set, length-replicate, get_or_default}
use Rattle.daggy_base.specs.Graph.{Graph, node_bound, node_weight}
use Rattle.daggy_base.specs.Iterating.{node_identifiers}
use Rattle.daggy_base.proofs.OutEdgesRead.{below_bound}
use Rattle.daggy_base.proofs.PathsWithNode.{bound_low}
use Rattle.std.specs.List.{filter}
use Rattle.daggy_base.specs.Ordered.{IsOrderOf}
use Rattle.daggy_schedule.specs.Work.{IsUnderWay, has_no_parents}
use Rattle.daggy_schedule.specs.Queue.{IsKept}
use Rattle.daggy_schedule.proofs.UnderWay.{under_way}
use Rattle.daggy_schedule.proofs.Starting.{start_skip, start_waits, start_ready, indices_whole}
use Rattle.daggy_schedule.proofs.Starting.{started, started_counted, resized, unset_by}
use Rattle.daggy_schedule.proofs.ready.Ready.new.Given.{Over}
use Rattle.daggy_schedule.proofs.ready.Ready.new.Goals.{After-nodes, in-Some+then-index-eq0, in-Some+else-index-eq0, in_default}
use Rattle.daggy_schedule.proofs.ready.Ready.new.Goals as goal

-- all indices were gone through
whole : (g : Over) (c : After-nodes g) → c.nodes.i ≡ node_bound (g.S.EdgeSource.graph c.graph-store.result.now)
whole g c = omega (arith, c.nodes-test.false, c.nodes.auto.i-end, c.node_bound-bound.ensures.value)

outs : (g : Over) (c : After-nodes g) → c.resize-2.new.self.items ≡ replicate c.node_bound-bound.result false
outs g c = resized _ _ c.node_bound-bound.result _ false c.new-out.ensures.items c.new-out.ensures.len c.in_ok-resize-2.ensures.items

dones : (g : Over) (c : After-nodes g) → c.resize-3.new.self.items ≡ replicate c.node_bound-bound.result false
dones g c = resized _ _ c.node_bound-bound.result _ false c.new-done.ensures.items c.new-done.ensures.len c.in_ok-resize-3.ensures.items

kept : (g : Over) (c : After-nodes g) → IsKept c.in_ok-waiting.waiting.items c.nodes.queue.items 0 c.nodes.tail
    c.resize-2.new.self.items c.resize-3.new.self.items 0
kept g c =
    let bound = c.node_bound-bound.result in
    let size : bound ≡ node_bound (g.S.EdgeSource.graph c.graph-store.result.now) = c.node_bound-bound.ensures.value in
    started (g.S.EdgeSource.graph c.graph-store.result.now) c.in_ok-waiting.waiting.items c.nodes.queue.items c.nodes.tail
    c.nodes.i (whole g c) c.in_ok-waiting.ensures.counted c.nodes.invariant.queued c.resize-2.new.self.items
    c.resize-3.new.self.items (unset_by c.resize-2.new.self.items bound (outs g c))
    (unset_by c.resize-3.new.self.items bound (dones g c)) c.in_ok-waiting.ensures.sized
    (c.nodes.invariant.queue_sized ∙ size) (ap length (outs g c) ∙ (length-replicate bound false ∙ size))
    (ap length (dones g c) ∙ (length-replicate bound false ∙ size))
    (omega (arith, c.nodes.invariant.low, c.nodes.invariant.queue_sized, c.nodes.auto.i-end))

pub nodes-init : goal.nodes-init
nodes-init g c =
    let bound = c.node_bound-bound.result in
    let queues : c.resize.new.self.items ≡ replicate bound c.end.result =
    resized _ _ bound _ c.end.result c.new-queue.ensures.items c.new-queue.ensures.len c.in_ok-resize.ensures.items in
    record {
      queued = refl;
      low = omega arith;
      queue_sized = ap length queues ∙ length-replicate bound c.end.result;
    }

pub new-n-requires : goal.new-n-requires
new-n-requires g c =
    let graph = g.S.EdgeSource.graph c.graph-store.result.now in
    omega (
      arith,
      c.nodes-test.true,
      c.node_bound-bound.ensures.value,
      bound_low graph.nodes,
      c.node_bound-bound.ensures.well_formed.few_nodes,
    )

pub nodes-preserved : goal.nodes-preserved
nodes-preserved g c =
    let graph = g.S.EdgeSource.graph c.graph-store.result.now in
    let i = c.nodes.i in
    let s = c.nodes.invariant in
    let queue = c.nodes.queue.items in
    let tail = c.nodes.tail in
    let waiting = c.in_ok-waiting.waiting.items in
    let after = c.match-node_weight in
    let at : node_weight graph (g.Ix.IndexType.number c.new-n.result) ≡ node_weight graph i =
    ap (λ z. node_weight graph z) c.new-n.ensures.number in
    let low : i < length waiting =
    omega (arith, c.nodes-test.true, c.node_bound-bound.ensures.value, c.in_ok-waiting.ensures.sized) in
    let free : tail < length queue = omega (arith, c.nodes-test.true, s.low, s.queue_sized) in
    let counted = c.in_ok-waiting.ensures.counted i in
    elim after.branch [
      | in-Some+then-index-eq0 w ↦
          (let items : after.queue.items ≡ set queue tail w.of_node.result = ap (λ z. z.items) w.queue-is in
          let waits : w.index.result.now ≡ get_or waiting i 0 =
          w.index.ensures ∙ get_or_default waiting i w.index.result.now 0 low in
          let more : take after.tail after.queue.items ≡ take tail queue ++ i ∷ [] =
          ap (λ z. take z after.queue.items) w.tail-is
          ∙ (ap (λ z. take (tail + 1) z) items
          ∙ (take_more_set queue tail w.of_node.result free
          ∙ ap (λ z. take tail queue ++ z ∷ []) (w.of_node.ensures ∙ c.new-n.ensures.number))) in
          record {
            queued =
                more
                ∙ start_ready graph i (take tail queue) s.queued w.in-Some._weight.now (sym (w.in-Some.ensures ∙ at))
                (sym counted ∙ (sym waits ∙ w.if-index-eq0.true));
            low = omega (arith, w.tail-is, s.low);
            queue_sized = ap length items ∙ (length-set queue tail w.of_node.result ∙ s.queue_sized);
          })
      | in-Some+else-index-eq0 w ↦
          (let items : after.queue.items ≡ queue = ap (λ z. z.items) w.queue-is in
          let waits : w.index.result.now ≡ get_or waiting i 0 =
          w.index.ensures ∙ get_or_default waiting i w.index.result.now 0 low in
          record {
            queued =
                ap (λ z. take z after.queue.items) w.tail-is
                ∙ (ap (λ z. take tail z) items
                ∙ start_waits graph i (take tail queue) s.queued w.in-Some._weight.now (sym (w.in-Some.ensures ∙ at))
                (λ none. w.if-index-eq0.false (waits ∙ (counted ∙ none))));
            low = omega (arith, w.tail-is, s.low);
            queue_sized = ap length items ∙ s.queue_sized;
          })
      | in_default w ↦
          (let items : after.queue.items ≡ queue = ap (λ z. z.items) w.queue-is in
          record {
            queued =
                ap (λ z. take z after.queue.items) w.tail-is
                ∙ (ap (λ z. take tail z) items
                ∙ start_skip graph i (take tail queue) s.queued (sym (w.in_default.ensures ∙ at)));
            low = omega (arith, w.tail-is, s.low);
            queue_sized = ap length items ∙ s.queue_sized;
          })
    ]

pub invariant_of-result : goal.invariant_of-result
invariant_of-result g c = kept g (goal.at.invariant_of-result g c).After-nodes

pub returns-clause-ready : goal.returns-clause-ready
returns-clause-ready g c =
    let graph = g.S.EdgeSource.graph c.graph-store.result.now in
    let P : Graph _ _ → Type 0 = λ z.
    take c.nodes.tail c.nodes.queue.items ≡ filter (has_no_parents z) (node_identifiers z) in
    subst P c.graph-store.ensures.graph
    (c.nodes.invariant.queued
    ∙ ap (filter (has_no_parents graph))
    (indices_whole graph c.nodes.i (whole g (goal.at.returns-clause-ready g c).After-nodes)))

pub returns-clause-none_out : goal.returns-clause-none_out
returns-clause-none_out g c n h =
    let at = (goal.at.returns-clause-none_out g c).After-nodes in
    false≢true (sym (unset_by c.resize-2.new.self.items c.node_bound-bound.result (outs g at) n) ∙ h)

pub returns-clause-under_way : goal.returns-clause-under_way
returns-clause-under_way g c =
    let at = (goal.at.returns-clause-under_way g c).After-nodes in
    let bound = c.node_bound-bound.result in
    let graph = g.S.EdgeSource.graph c.graph-store.result.now in
    let counts = started_counted graph c.in_ok-waiting.waiting.items c.nodes.queue.items c.nodes.tail c.nodes.i
    (whole g at) c.in_ok-waiting.ensures.counted c.nodes.invariant.queued c.resize-2.new.self.items
    c.resize-3.new.self.items (unset_by c.resize-2.new.self.items bound (outs g at))
    (unset_by c.resize-3.new.self.items bound (dones g at)) in
    let U : Graph _ _ → Type 0 = λ z. IsUnderWay z (record {
      waiting = c.in_ok-waiting.waiting.items;
      ready = drop 0 (take c.nodes.tail c.nodes.queue.items);
      out = c.resize-2.new.self.items;
      done = c.resize-3.new.self.items;
    }) in
    let O : Graph _ _ → Type 0 = λ z. IsOrderOf z c.topological_order-order.result in
    subst U c.graph-store.ensures.graph
    (under_way c.node_bound-bound.ensures.well_formed (kept g at) counts
    (λ m h. omega (arith, below_bound graph.nodes m h, c.in_ok-waiting.ensures.sized)) c.topological_order-order.result
    (subst O (sym c.graph-store.ensures.graph) c.topological_order-order.ensures.ordered))
