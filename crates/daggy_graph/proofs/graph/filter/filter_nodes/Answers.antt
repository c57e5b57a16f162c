use Rattle.std.proofs.Common.{◌<◌, ◌+◌, map, length, refl, ap, ◌∙◌, arith}
use Rattle.std.proofs.lemmas.List.{length-map, length_push}
use Rattle.daggy_graph.specs.Stored.{stored_graph}
use Rattle.daggy_cells.specs.Fields.{weight_of}
use Rattle.daggy_base.specs.Filtering.{named}
use Rattle.daggy_graph.proofs.StoredLemmas.{stored_is, Stores-itself}
use Rattle.daggy_cells.proofs.MappingLemmas.{CalledAt-from_step}
use Rattle.daggy_graph.proofs.FilterLemmas.{FilteredBelow-called, FilteredBelow-done, Holds-read}
use Rattle.daggy_base.proofs.CallsInTurn.{may_call, called_on}
use Rattle.daggy_graph.proofs.graph.filter.filter_nodes.Goals as goal

pub f-answer-requires : goal.f-answer-requires
f-answer-requires g c =
    rw c.new.ensures.value (may_call g.Ix.IndexType.of (goal.F-pre g) (goal.F-step g) (λ w. w) weight_of
    c.args.nodes.now (omega arith)
    c.index-nodes-i.is refl c.each.invariant.0 _ refl)

pub each-preserved : goal.each-preserved
each-preserved g c =
    let nodes = c.args.nodes.now in
    let x = c.index-nodes-i.result in
    let h = stored_graph c.each.new.items c.args.edges.now.items in
    let within : c.each.i < length nodes = omega arith in
    let held = Holds-read weight_of nodes x.weight within c.index-nodes-i.is refl in
    let called =
    CalledAt-from_step (goal.F-step g) g.Ix.IndexType.of c.each.f c.each.i _ c.f-answer.result c.f-answer.new.self
    (rw c.new.ensures.value at c.f-answer.ensures) in
    let next =
    FilteredBelow-called (goal.F-step g) g.Ix.IndexType.of c.args.f (map weight_of nodes)
    c.each.names.items h held called c.each.invariant.7 in
    let shown = stored_is _ _ _ _ c.keep_node.ensures.stored in (
      called_on g.Ix.IndexType.of (goal.F-pre g) (goal.F-step g) (λ w. w) weight_of c.args.nodes.now within
          c.index-nodes-i.is refl called
          c.each.invariant.0,
      omega (arith, c.keep_node.ensures.capacity, c.each.invariant.1),
      omega (arith, c.keep_node.ensures.capacity_for_names, c.each.invariant.2),
      omega (arith, c.keep_node.ensures.len, c.each.invariant.3),
      ap length c.keep_node.ensures.names ∙ length_push c.each.names.items (named h c.f-answer.result)
          ∙ ap (λ n. n + 1) c.each.invariant.4,
      c.keep_node.ensures.below c.each.invariant.5,
      Stores-itself _ _ _ _ c.keep_node.ensures.stored,
      rw (c.keep_node.ensures.names, shown) next,
    )

pub returns-clause-filtered : goal.returns-clause-filtered
returns-clause-filtered g c =
    FilteredBelow-done (goal.F-step g) g.Ix.IndexType.of _ _ _ _ _ c.each.i
    (omega (arith, length-map c.args.nodes.now weight_of)) c.each.invariant.7
