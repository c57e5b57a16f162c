use Rattle.std.proofs.Common.{refl, ◌≡◌, ◌<◌, ◌+◌, [], ◌∷◌, ◌++◌, Option, Some, None, IsSome, map, length, get_or, sym}
use Rattle.std.proofs.Common.{ap, subst, ◌∙◌, arith}
use Rattle.std.proofs.lemmas.List.{length-map, get_or-map}
use Rattle.std.specs.Option.{option_map}
use Rattle.daggy_base.specs.Graph.{slot}
use Rattle.daggy_cells.specs.declared.cell.Edge.{Edge}
use Rattle.daggy_base.specs.FilteringInPlace.{if_ends_exist}
use Rattle.daggy_base.specs.Mapping.{weight_in, with_weight}
use Rattle.daggy_cells.proofs.MappingLemmas.{CalledAt-from_step}
use Rattle.daggy_stable.specs.Stored.{weight_of, plain, plain_edge}
use Rattle.daggy_stable.specs.Building.{between}
use Rattle.daggy_stable.proofs.KeptSlots.{KeptSlots-passed, KeptSlots-called, KeptSlots-done, one_longer, joined_is}
use Rattle.daggy_stable.proofs.KeptSlots.{lost_is}
use Rattle.daggy_base.proofs.CallsInTurn.{may_call_some, called_some_on, passed_on}
use Rattle.daggy_stable.proofs.stable_graph.filter.filter_edges.Goals as goal

pub each-preserved-in-None : goal.each-preserved-in-None
each-preserved-in-None g c =
    let edges = c.args.edges.now in
    let stayed = map weight_of c.args.nodes.now.cells.items in
    let read = λ (y : Edge (Option g.row.E.Denot) g.row.Ix.Denot). if_ends_exist stayed (plain_edge y) in
    let x = c.index-edges-i.result in
    let within : c.each.i < length edges = omega arith in
    let slots : c.each.i < length (map read edges) = omega (arith, within, length-map edges read) in
    let lost : read x ≡ None =
    lost_is stayed x
    (c.in-None.ensures ∙ ap (λ l. option_map weight_in (if_ends_exist l (plain_edge x))) c.each.invariant.nodes) in
    let reads : get_or (map read edges) c.each.i None ≡ None =
    get_or-map read edges c.each.i x None within ∙ ap read (sym c.index-edges-i.is) ∙ lost in
    record {
      callable =
          passed_on g.Ix.IndexType.of (goal.G-pre g) (goal.G-step g) weight_in plain_edge c.args.edges.now within
          c.index-edges-i.is
          c.each.invariant.callable;
      capacity = omega (arith, c.leave_edge.ensures.capacity, c.each.invariant.capacity);
      count =
          one_longer plain_edge c.each.new.cells.items c.leave_edge.new.edges.cells.items None
          c.leave_edge.ensures.edges
          ∙ ap (λ n. n + 1) c.each.invariant.count;
      stored = c.leave_edge.ensures.stored;
      nodes = c.each.invariant.nodes;
      kept =
          KeptSlots-passed (goal.G-step g) g.Ix.IndexType.of weight_in with_weight c.args.g (map read edges) c.each.g _
          c.each.i slots reads c.leave_edge.ensures.edges c.each.invariant.kept;
    }

pub g-answer-requires : goal.g-answer-requires
g-answer-requires g c =
    let now = map weight_of c.each.nodes.cells.items in
    let j = joined_is now c.index-edges-i.result c.in-Some.old.now c.in-Some.ensures in
    rw c.new.ensures.value (may_call_some g.Ix.IndexType.of (goal.G-pre g) (goal.G-step g) weight_in plain_edge
    c.args.edges.now
    (omega arith) c.index-edges-i.is j.stored c.each.invariant.callable _ refl)

pub keep_edge-requires-clause-parent : goal.keep_edge-requires-clause-parent
keep_edge-requires-clause-parent g c =
    let now = map weight_of c.each.nodes.cells.items in
    let j = joined_is now c.index-edges-i.result c.in-Some.old.now c.in-Some.ensures in
    subst (λ n. IsSome (slot now n)) (sym c.endpoint-a.ensures) j.parent

pub keep_edge-requires-clause-child : goal.keep_edge-requires-clause-child
keep_edge-requires-clause-child g c =
    let now = map weight_of c.each.nodes.cells.items in
    let j = joined_is now c.index-edges-i.result c.in-Some.old.now c.in-Some.ensures in
    subst (λ n. IsSome (slot now n)) (sym c.endpoint-b.ensures) j.child

pub each-preserved : goal.each-preserved
each-preserved g c =
    let edges = c.args.edges.now in
    let stayed = map weight_of c.args.nodes.now.cells.items in
    let read = λ (y : Edge (Option g.row.E.Denot) g.row.Ix.Denot). if_ends_exist stayed (plain_edge y) in
    let x = c.index-edges-i.result in
    let old = c.in-Some.old.now in
    let r = c.g-answer.result in
    let before = map plain_edge c.each.new.cells.items in
    let within : c.each.i < length edges = omega arith in
    let slots : c.each.i < length (map read edges) = omega (arith, within, length-map edges read) in
    let j =
    joined_is stayed x old
    (c.in-Some.ensures ∙ ap (λ l. option_map weight_in (if_ends_exist l (plain_edge x))) c.each.invariant.nodes) in
    let reads : get_or (map read edges) c.each.i None ≡ Some (plain x old) =
    get_or-map read edges c.each.i x None within ∙ ap read (sym c.index-edges-i.is) ∙ j.edge in
    let called =
    CalledAt-from_step (goal.G-step g) g.Ix.IndexType.of c.each.g c.each.i _ r c.g-answer.new.self
    (rw c.new.ensures.value at c.g-answer.ensures) in
    let made =
    ap (λ a. before ++ option_map (between a c.endpoint-b.result) r ∷ []) c.endpoint-a.ensures
    ∙ ap (λ b. before ++ option_map (between x.parent b) r ∷ []) c.endpoint-b.ensures in
    record {
      callable =
          called_some_on g.Ix.IndexType.of (goal.G-pre g) (goal.G-step g) weight_in plain_edge c.args.edges.now within
          c.index-edges-i.is
          j.stored called c.each.invariant.callable;
      capacity = omega (arith, c.keep_edge.ensures.capacity, c.each.invariant.capacity);
      count =
          one_longer plain_edge c.each.new.cells.items c.keep_edge.new.edges.cells.items _ c.keep_edge.ensures.edges
          ∙ ap (λ n. n + 1) c.each.invariant.count;
      stored = c.keep_edge.ensures.stored;
      nodes = c.keep_edge.ensures.nodes ∙ c.each.invariant.nodes;
      kept =
          KeptSlots-called (goal.G-step g) g.Ix.IndexType.of weight_in with_weight c.args.g (map read edges)
          before slots reads called (c.keep_edge.ensures.edges ∙ made)
          c.each.invariant.kept;
    }

pub returns-clause-kept : goal.returns-clause-kept
returns-clause-kept g c =
    let read = λ (y : Edge (Option g.row.E.Denot) g.row.Ix.Denot).
    if_ends_exist (map weight_of c.args.nodes.now.cells.items) (plain_edge y) in
    KeptSlots-done (goal.G-step g) g.Ix.IndexType.of weight_in with_weight _ (map read c.args.edges.now) _ _ c.each.i
    (omega (arith, length-map c.args.edges.now read)) c.each.invariant.kept
