use Rattle.std.proofs.Common.{map, sym, subst}
use Rattle.std.specs.List.{All}
use Rattle.daggy_base.specs.Graph.{HasNode}
use Rattle.daggy_named.proofs.NamedNodes.{each_number}
use Rattle.daggy_named.proofs.named.Named.keys_of_stages.Goals as goal

pub keys_of-requires : goal.keys_of-requires
keys_of-requires g c =
    let number = g.Ix.IndexType.number in
    let exists = HasNode c.args.self.now.graph in
    let stage = c.index-stages-i.result in
    rw c.as_slice.ensures.value (each_number exists number stage.items (subst (λ z. All exists (map number z.items)) (sym c.index-stages-i.is)
    (each_number (All exists) (λ z. map number z.items) c.args.stages.now c.requires c.stages.i stage c.stages-test.true)))
