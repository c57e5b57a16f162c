use Rattle.std.proofs.Common.{not, refl, ap, ◌∙◌}
use Rattle.daggy_base.specs.declared.kind.Kind.TheVariants.{Stable}
use Rattle.daggy_cells.proofs.IsolatedNode.{clearing_step, clearing_done}
use Rattle.daggy_stable.proofs.stable_graph.StableDiGraph.clear_front.Goals as goal

pub front-init : goal.front-init
front-init g c = record { left = refl; empty_stays = λ d empty. empty; nodes = refl; looks = refl }

pub front-preserved : goal.front-preserved
front-preserved g c =
    (clearing_step Stable c.front.self c.remove_edge.new.self c.front.invariant
    c.edge_count-well_formed.ensures.well_formed c.first_edge-e.ensures c.remove_edge.ensures.value
    c.remove_edge.ensures.removed (c.is_none.ensures ∙ ap not c.if-is_none.false)).0

pub front-smaller : goal.front-smaller
front-smaller g c =
    (clearing_step Stable c.front.self c.remove_edge.new.self c.front.invariant
    c.edge_count-well_formed.ensures.well_formed c.first_edge-e.ensures c.remove_edge.ensures.value
    c.remove_edge.ensures.removed (c.is_none.ensures ∙ ap not c.if-is_none.false)).1

pub returns-then-is_none : goal.returns-then-is_none
returns-then-is_none g c =
    let done =
    clearing_done Stable c.front.self c.remove_edge.new.self c.front.invariant
    c.edge_count-well_formed.ensures.well_formed c.first_edge-e.ensures c.remove_edge.ensures.value
    c.remove_edge.ensures.missing (c.is_none.ensures ∙ ap not c.if-is_none.true) in
    record { cleared = done.0; emptied = done.2; empty_stays = done.1.empty_stays; nodes = done.1.nodes }
