use Rattle.std.proofs.Common.{◌≤◌, ap, rules, arith}
use Rattle.daggy_base.specs.Graph.{node_bound}
use Rattle.daggy_base.specs.declared.error.NodeError.TheVariants.{Memory}
use Rattle.daggy_guard.proofs.GuardedChange.{node_fits}
use Rattle.daggy_guard.proofs.NewNode.{added_node, new_low}
use Rattle.daggy_guard.proofs.OrderAfterChange.{not_listed_yet}
use Rattle.daggy_guard.proofs.guard.put_node.Goals as goal

pub put-requires-clause-real : goal.put-requires-clause-real
put-requires-clause-real g c =
    new_low (added_node {kind = g.S.ReadStore.KIND} c.args.weight c.invariant.ensures.well_formed
    c.invariant.ensures.compact c.node_slots-old_slots.ensures c.in_ok-n.ensures.index
    c.in_ok-n.ensures.added) c.invariant-2.ensures.well_formed

pub put-requires-clause-absent : goal.put-requires-clause-absent
put-requires-clause-absent g c =
    not_listed_yet c.invariant.ensures.well_formed c.args.weight c.requires.ordered _
    c.in_ok-n.ensures.index

pub take_back-weight-requires : goal.take_back-weight-requires
take_back-weight-requires g c =
    record {
      added = (
        _,
        c.args.weight,
        added_node c.args.weight c.invariant.ensures.well_formed c.invariant.ensures.compact
            c.node_slots-old_slots.ensures c.in_ok-n.ensures.index c.in_ok-n.ensures.added,
      );
    }

pub returns-in-Ok-clause-fits : goal.returns-in-Ok-clause-fits
returns-in-Ok-clause-fits g c =
    let capacity : c.slots_with_node-slot_count.result ≤ c.reserve.new.self.nodes = search rules in
    node_fits c.add_node.result _ _ c.args.weight c.slots_with_node-slot_count.ensures
    (omega (arith, c.requires.fits, c.reserve.ensures.kept.0)) capacity c.add_node.ensures.added
    c.add_node.ensures.unchanged

pub returns-in-Err-clause-refusal : goal.returns-in-Err-clause-refusal
returns-in-Err-clause-refusal g c =
    ap Memory (c.take_back-weight.ensures.returned _ _
    (added_node c.args.weight c.invariant.ensures.well_formed c.invariant.ensures.compact
    c.node_slots-old_slots.ensures c.in_ok-n.ensures.index c.in_ok-n.ensures.added))

pub returns-in-Err-clause-unchanged : goal.returns-in-Err-clause-unchanged
returns-in-Err-clause-unchanged g c =
    c.take_back-weight.ensures.undone _ _
    (added_node c.args.weight c.invariant.ensures.well_formed c.invariant.ensures.compact
    c.node_slots-old_slots.ensures c.in_ok-n.ensures.index c.in_ok-n.ensures.added)

pub returns-in-Err-clause-fits : goal.returns-in-Err-clause-fits
returns-in-Err-clause-fits g c =
    let same = ap node_bound (returns-in-Err-clause-unchanged g c) in
    omega (arith, same, c.requires.fits, c.reserve.ensures.kept.0)
