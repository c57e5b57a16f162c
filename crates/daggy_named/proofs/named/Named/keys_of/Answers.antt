use Rattle.std.proofs.Common.{Option, map, ap, subst, sym, ◌∙◌, arith}
use Rattle.std.proofs.lemmas.List.{take_all}
use Rattle.daggy_base.specs.Graph.{HasNode}
use Rattle.daggy_named.specs.Naming.{key_at}
use Rattle.daggy_named.proofs.NamedNodes.{has_key, lent_some, map_twice}
use Rattle.daggy_named.proofs.named.Named.keys_of.Goals as goal

pub unwrap-requires : goal.unwrap-requires
unwrap-requires g c =
    let number = g.Ix.IndexType.number in
    let n = c.index-nodes-i.result in
    let exists : HasNode c.args.self.now.graph (number n) =
    subst (λ i. HasNode c.args.self.now.graph (number i)) (sym c.index-nodes-i.is) (c.requires c.nodes.i n c.nodes-test.true) in
    lent_some c.key_of.result c.key_of.ensures (has_key c.args.self.now.keys c.args.self.now.graph
    c.node_count-count.ensures.named.exact (number n) exists)

pub returns : goal.returns
returns g c =
    let number = g.Ix.IndexType.number in
    let f : g.row.Ix.Denot → Option g.row.K.Denot = λ i. key_at c.args.self.now.keys (number i) in
    map_twice (key_at c.args.self.now.keys) number c.args.nodes.now
    ∙ ap (map f) (sym (take_all c.nodes.i c.args.nodes.now (omega (arith, c.nodes-test.false))))
    ∙ sym c.nodes.invariant
