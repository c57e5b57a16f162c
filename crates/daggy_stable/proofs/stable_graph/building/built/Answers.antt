use Rattle.std.proofs.Common.{map, ap, ◌∙◌}
use Rattle.daggy_base.specs.FromSlots.{graph_of_slots}
use Rattle.daggy_base.specs.State.{State}
use Rattle.daggy_stable.specs.Stored.{weight_of, plain_edge}
use Rattle.daggy_stable.proofs.Stores.{Stores-itself, stored_is}
use Rattle.daggy_stable.proofs.stable_graph.building.built.Goals as goal

pub invariant_of-result : goal.invariant_of-result
invariant_of-result g c = Stores-itself c.requires

pub returns : goal.returns
returns g c =
    let mk : _ → State g.row.N.Denot g.row.E.Denot = λ h. record { graph = h; looks = c.new.result.count } in
    let made = graph_of_slots (map weight_of c.args.nodes.cells.items) (map plain_edge c.args.edges.cells.items) in
    ap mk (stored_is c.requires) ∙ ap (λ k. record { graph = made; looks = k }) c.new.ensures
