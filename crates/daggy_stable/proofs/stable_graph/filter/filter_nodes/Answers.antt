use Rattle.std.proofs.Common.{refl, ◌≡◌, ◌<◌, ◌+◌, [], ◌∷◌, ◌++◌, Some, None, map, length, get_or, sym, ap, ◌∙◌, arith}
use Rattle.std.proofs.lemmas.List.{length-map, get_or-map}
use Rattle.daggy_cells.proofs.MappingLemmas.{CalledAt-from_step}
use Rattle.daggy_stable.specs.Stored.{weight_of}
use Rattle.daggy_stable.proofs.KeptSlots.{KeptSlots-passed, KeptSlots-called, KeptSlots-done, option_map_same}
use Rattle.daggy_stable.proofs.KeptSlots.{one_longer}
use Rattle.daggy_base.proofs.CallsInTurn.{may_call, called_on, vacant_on}
use Rattle.daggy_stable.proofs.stable_graph.filter.filter_nodes.Goals as goal

pub each-preserved-in-None : goal.each-preserved-in-None
each-preserved-in-None g c =
    let nodes = c.args.nodes.now in
    let x = c.index-nodes-i.result in
    let within : c.each.i < length nodes = omega arith in
    let slots : c.each.i < length (map weight_of nodes) = omega (arith, within, length-map nodes weight_of) in
    let read : get_or (map weight_of nodes) c.each.i None ≡ None =
    get_or-map weight_of nodes c.each.i x None within ∙ ap weight_of (sym c.index-nodes-i.is)
    ∙ sym c.in-None.ensures.value in
    record {
      callable =
          vacant_on g.Ix.IndexType.of (goal.F-pre g) (goal.F-step g) (λ w. w) weight_of c.args.nodes.now within
          c.index-nodes-i.is
          (sym c.in-None.ensures.value) c.each.invariant.callable;
      capacity = omega (arith, c.keep_node.ensures.capacity, c.each.invariant.capacity);
      count =
          one_longer weight_of c.each.new.cells.items c.keep_node.new.nodes.cells.items None c.keep_node.ensures.weights
          ∙ ap (λ n. n + 1) c.each.invariant.count;
      stored = c.keep_node.ensures.stored;
      kept =
          KeptSlots-passed (goal.F-step g) g.Ix.IndexType.of (λ w. w) (λ w v. v) c.args.f (map weight_of nodes) c.each.f
          _ c.each.i slots read c.keep_node.ensures.weights c.each.invariant.kept;
    }

pub f-answer-requires : goal.f-answer-requires
f-answer-requires g c =
    rw c.new.ensures.value (may_call g.Ix.IndexType.of (goal.F-pre g) (goal.F-step g) (λ w. w) weight_of
    c.args.nodes.now
    (omega arith) c.index-nodes-i.is (sym c.in-Some.ensures.value)
    c.each.invariant.callable _ refl)

pub each-preserved : goal.each-preserved
each-preserved g c =
    let nodes = c.args.nodes.now in
    let x = c.index-nodes-i.result in
    let r = c.f-answer.result in
    let old = map weight_of c.each.new.cells.items in
    let within : c.each.i < length nodes = omega arith in
    let slots : c.each.i < length (map weight_of nodes) = omega (arith, within, length-map nodes weight_of) in
    let read : get_or (map weight_of nodes) c.each.i None ≡ Some c.in-Some.old.now =
    get_or-map weight_of nodes c.each.i x None within ∙ ap weight_of (sym c.index-nodes-i.is)
    ∙ sym c.in-Some.ensures.value in
    let called =
    CalledAt-from_step (goal.F-step g) g.Ix.IndexType.of c.each.f c.each.i _ r c.f-answer.new.self
    (rw c.new.ensures.value at c.f-answer.ensures) in
    record {
      callable =
          called_on g.Ix.IndexType.of (goal.F-pre g) (goal.F-step g) (λ w. w) weight_of c.args.nodes.now within
          c.index-nodes-i.is
          (sym c.in-Some.ensures.value) called c.each.invariant.callable;
      capacity = omega (arith, c.keep_node-in-each.ensures.capacity, c.each.invariant.capacity);
      count =
          one_longer weight_of c.each.new.cells.items c.keep_node-in-each.new.nodes.cells.items r
          c.keep_node-in-each.ensures.weights
          ∙ ap (λ n. n + 1) c.each.invariant.count;
      stored = c.keep_node-in-each.ensures.stored;
      kept =
          KeptSlots-called (goal.F-step g) g.Ix.IndexType.of (λ w. w) (λ w v. v) c.args.f (map weight_of nodes)
          old slots read called
          (c.keep_node-in-each.ensures.weights ∙ ap (λ z. old ++ z ∷ []) (option_map_same r)) c.each.invariant.kept;
    }

pub returns-clause-kept : goal.returns-clause-kept
returns-clause-kept g c =
    KeptSlots-done (goal.F-step g) g.Ix.IndexType.of (λ w. w) (λ w v. v) _ _ _ _ c.each.i
    (omega (arith, length-map c.args.nodes.now weight_of)) c.each.invariant.kept
