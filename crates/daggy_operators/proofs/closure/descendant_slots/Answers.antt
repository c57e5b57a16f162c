use Rattle.std.proofs.Common.{◌∙◌, length, ap, arith}
use Rattle.daggy_operators.proofs.Closed.{descendant_exists}
use Rattle.daggy_operators.proofs.Pairs.{lists_as, more_as}
use Rattle.daggy_operators.proofs.Wholes.{exists_low, on_ok}
use Rattle.daggy_operators.proofs.closure.descendant_slots.Goals as goal

pub pair_slots-requires-clause-within : goal.pair_slots-requires-clause-within
pair_slots-requires-clause-within g c u v has =
    let graph = c.args.dag.now.graph in
    let ends = descendant_exists c.node_count-count.ensures.dag.well_formed u v ((c.in-Ok.ensures u v).0 has) in
    let slots = c.node_slots.ensures ∙ ap (λ z. length z.nodes) c.graph.ensures.graph in
    let from = exists_low graph u ends.0 in
    let to = exists_low graph v ends.1 in
    (omega (arith, from, slots), omega (arith, to, slots))

pub returns-clause-pairs : goal.returns-clause-pairs
returns-clause-pairs g c =
    on_ok c.pair_slots.result (λ slots p. (p.0, lists_as _ _ c.in-Ok.ensures p.0 p.1, p.2)) c.pair_slots.ensures.pairs

pub returns-clause-full : goal.returns-clause-full
returns-clause-full g c full = more_as g.Ix.IndexType.greatest _ _ c.in-Ok.ensures (c.pair_slots.ensures.full full)
