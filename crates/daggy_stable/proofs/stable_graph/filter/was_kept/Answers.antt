use Rattle.std.proofs.Common.{is_some, map, sym, ap, ◌∙◌}
use Rattle.daggy_base.specs.Graph.{slot}
use Rattle.daggy_base.proofs.MappedSlots.{slot_read, slot_beyond}
use Rattle.daggy_stable.specs.Stored.{weight_of}
use Rattle.daggy_stable.proofs.stable_graph.filter.was_kept.Goals as goal

pub returns-in-Some : goal.returns-in-Some
returns-in-Some g c =
    let lookup = c.in-Some.ensures.lookup in
    c.is_some.ensures
    ∙ ap is_some (
    sym (slot_read weight_of c.deref.result.now c.index.result c.in-Some.x.now lookup.3.0 lookup.1)
    ∙ ap (λ l. slot (map weight_of l) c.index.result) c.deref.ensures.value
    ∙ ap (slot (map weight_of c.args.nodes.now.cells.items)) c.index.ensures.value)

pub returns-in-None : goal.returns-in-None
returns-in-None g c =
    ap is_some (
    sym (slot_beyond weight_of c.deref.result.now c.index.result c.in-None.ensures.lookup.3)
    ∙ ap (λ l. slot (map weight_of l) c.index.result) c.deref.ensures.value
    ∙ ap (slot (map weight_of c.args.nodes.now.cells.items)) c.index.ensures.value)
