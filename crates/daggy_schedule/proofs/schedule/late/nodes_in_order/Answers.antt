use Rattle.std.proofs.Common.{◌∙◌, ◌∷◌, ◌++◌, [], sym, ap, map}
use Rattle.std.proofs.lemmas.List.{map-append}
use Rattle.daggy_schedule.proofs.Late.{collected_one, collected_all}
use Rattle.daggy_schedule.proofs.schedule.late.nodes_in_order.Goals as goal

pub nodes-init : goal.nodes-init
nodes-init g c = record {
  order = c.topological_order-nodes.result;
  ordered = c.topological_order-nodes.ensures.ordered;
  split = ap (λ z. map g.Ix.IndexType.number z ++ c.topological_order-nodes.result) (sym c.new-order.ensures.items);
}

pub nodes-preserved : goal.nodes-preserved
nodes-preserved g c =
    collected_one c.in-Some.ensures.steps c.nodes.invariant (map g.Ix.IndexType.number c.push.new.self.items)
    (ap (map g.Ix.IndexType.number) c.in_ok-push.ensures.items
    ∙ map-append g.Ix.IndexType.number c.nodes.order.items (c.in-Some.n ∷ []))

pub returns : goal.returns
returns g c = collected_all c.in_default.ensures.steps.0 c.nodes.invariant
