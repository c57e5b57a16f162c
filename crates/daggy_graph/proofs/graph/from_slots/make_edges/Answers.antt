use Rattle.std.proofs.Common.{[], ◌∷◌, ◌++◌, Some, map, sym, ap, ◌∙◌, arith}
use Rattle.std.proofs.lemmas.List.{length-map}
use Rattle.std.specs.Option.{option_map}
use Rattle.daggy_base.specs.Graph.{Edge}
use Rattle.daggy_base.specs.FromSlots.{edge_of}
use Rattle.daggy_base.proofs.SlotLists.{vacant_is_listed}
use Rattle.daggy_base.proofs.ItemsInTurn.{one_left, one_more}
use Rattle.daggy_cells.specs.Fields.{plain_edge}
use Rattle.daggy_graph.proofs.StoredLemmas.{Stores-itself}
use Rattle.daggy_graph.proofs.BuiltFromSlots.{ends_within, edge_built}
use Rattle.daggy_graph.proofs.graph.from_slots.make_edges.Goals as goal

pub each-preserved-in-None-x : goal.each-preserved-in-None-x
each-preserved-in-None-x g c =
    let is = rw c.in-None-x.is at (rw c.in-Some.ensures.steps.0 at c.each.invariant.5) in
    absurd (vacant_is_listed _ _ _ (sym is) c.requires.full)

pub put_edge-e-requires-clause-stored : goal.put_edge-e-requires-clause-stored
put_edge-e-requires-clause-stored g c = Stores-itself _ _ _ _ c.each.invariant.3

pub put_edge-e-requires-clause-parent : goal.put_edge-e-requires-clause-parent
put_edge-e-requires-clause-parent g c =
    let is = rw c.in-Some-x.is at (rw c.in-Some.ensures.steps.0 at c.each.invariant.5) in
    let within = ends_within _ _ _ c.each.nodes.items c.requires.makes_graph is c.each.invariant.4 in
    omega (arith, within.0, c.of_node-parent.ensures)

pub put_edge-e-requires-clause-child : goal.put_edge-e-requires-clause-child
put_edge-e-requires-clause-child g c =
    let is = rw c.in-Some-x.is at (rw c.in-Some.ensures.steps.0 at c.each.invariant.5) in
    let within = ends_within _ _ _ c.each.nodes.items c.requires.makes_graph is c.each.invariant.4 in
    omega (arith, within.1, c.of_node-child.ensures)

pub put_edge-e-requires-clause-index_left : goal.put_edge-e-requires-clause-index_left
put_edge-e-requires-clause-index_left g c =
    let is = rw c.in-Some.ensures.steps.0 at c.each.invariant.5 in
    omega (arith, one_left _ _ _ _ is, length-map c.each.edges.items plain_edge, c.requires.makes_graph.few_edges)

pub put_edge-e-requires-clause-capacity : goal.put_edge-e-requires-clause-capacity
put_edge-e-requires-clause-capacity g c =
    let read = option_map (edge_of {E = g.row.E.Denot} g.Ix.IndexType.number) in
    let is = rw c.in-Some.ensures.steps.0 at c.each.invariant.5 in
    omega (
      arith,
      one_left _ _ _ _ is,
      length-map c.each.edges.items plain_edge,
      length-map c.args.given.items read,
      c.each.invariant.2,
    )

pub each-preserved : goal.each-preserved
each-preserved g c =
    let w = c.in-Some-x.edge.2 in
    let made = map plain_edge c.each.edges.items in
    let is = rw c.in-Some-x.is at (rw c.in-Some.ensures.steps.0 at c.each.invariant.5) in
    let mk : _ → _ → Edge g.row.E.Denot = λ a b. record { parent = a; child = b; weight = w } in
    let within = ends_within _ _ _ c.each.nodes.items c.requires.makes_graph is c.each.invariant.4 in
    let built =
    edge_built _ _ _ c.each.invariant.3 _ _ w (omega (arith, within.0, c.of_node-parent.ensures))
    (omega (arith, within.1, c.of_node-child.ensures)) c.put_edge-e.ensures.stored in
    let pushed =
    ap (λ a. made ++ Some (mk a c.of_node-child.result) ∷ []) c.of_node-parent.ensures
    ∙ ap (λ b. made ++ Some (mk (g.Ix.IndexType.number c.in-Some-x.edge.0) b) ∷ []) c.of_node-child.ensures in (
      tt,
      tt,
      omega (arith, c.put_edge-e.ensures.capacity, c.each.invariant.2),
      built.stored,
      built.same ∙ c.each.invariant.4,
      one_more _ _ _ _ is _ (built.made ∙ pushed),
    )
