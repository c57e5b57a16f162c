use Rattle.std.proofs.Common.{map, slice_set, ap, ◌∙◌}
use Rattle.std.proofs.lemmas.List.{map-set}
use Rattle.daggy_redundant.proofs.flags.flag.Goals as goal

pub returns-clause-flagged : goal.returns-clause-flagged
returns-clause-flagged g c =
    let number = g.Ix.IndexType.number in
    map-set number c.args.flags.now c.index.result c.args.e
    ∙ ap (λ i. slice_set (map number c.args.flags.now) i (number c.args.e)) c.index.ensures.value
