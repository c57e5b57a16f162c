use Rattle.std.proofs.Common.{◌≡◌, Some, map, take}
use Rattle.daggy_named.specs.Naming.{key_at}
use Rattle.daggy_named.proofs.named.Named.keys_of.Given as goal

abbrev pub invariant-nodes : goal.invariant-nodes
invariant-nodes g l =
    map Some (map (λ k. k.now) l.keys.items) ≡ map (λ i. key_at l.self.keys (g.Ix.IndexType.number i)) (take l.i l.nodes)
