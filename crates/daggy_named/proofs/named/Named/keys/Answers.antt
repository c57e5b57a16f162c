use Rattle.std.proofs.Common.{ap}
use Rattle.daggy_named.proofs.NamedNodes.{have_keys, identifiers_exist}
use Rattle.daggy_named.proofs.named.Named.keys.Goals as goal

pub invariant_of-result : goal.invariant_of-result
invariant_of-result g c =
    have_keys c.args.self.now.keys c.args.self.now.graph c.node_count-count.ensures.named.exact _ (rw (c.node_identifiers.ensures.rest, ap (λ s. s.graph) c.self.view_is)
    (identifiers_exist c.args.self.now.graph))
