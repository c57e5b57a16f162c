use Rattle.std.proofs.Common.{◌∙◌, ap, arith}
use Rattle.daggy_base.specs.Graph.{pair_of}
use Rattle.daggy_operators.specs.SortedChildren.{keyed_by}
use Rattle.std.proofs.lemmas.List.{map-append}
use Rattle.daggy_operators.proofs.SortedChildren.{none_gathered, gather_more, all_gathered, edge_is_there}
use Rattle.daggy_operators.proofs.SortedChildren.{child_is_there, can_call, key_there}
use Rattle.daggy_operators.proofs.sorted_children.keyed_edges.Goals as goal

pub edges-init : goal.edges-init
edges-init g c =
    let number = g.Ix.IndexType.number in
    none_gathered g.Ix.IndexType.of (goal.F-post g) c.args.key (g.S.EdgeSource.graph c.args.store.now) number
    c.args.list.now (ap (keyed_by number) c.in_ok-keyed.ensures.items)

pub edges-preserved-in_default : goal.edges-preserved-in_default
edges-preserved-in_default g c =
    let number = g.Ix.IndexType.number in
    absurd (edge_is_there c.invariant.ensures.well_formed number (number c.args._n) c.args.list.now c.requires.list
    c.edges.i c.edges-test.true c.index-list-i.result c.index-list-i.is c.in_default.ensures)

pub edges-preserved-in_default-node_weight : goal.edges-preserved-in_default-node_weight
edges-preserved-in_default-node_weight g c =
    let number = g.Ix.IndexType.number in
    absurd (child_is_there c.invariant.ensures.well_formed number (number c.args._n) c.args.list.now c.requires.list
    c.edges.i c.edges-test.true c.index-list-i.result c.index-list-i.is (pair_of number c.in-Some.ends)
    c.in-Some.ensures c.in_default-node_weight.ensures)

pub key-requires : goal.key-requires
key-requires g c =
    let number = g.Ix.IndexType.number in
    can_call c.invariant.ensures.well_formed number (number c.args._n) c.args.list.now c.requires.list
    c.edges.i c.edges-test.true c.index-list-i.result c.index-list-i.is (pair_of number c.in-Some.ends)
    c.in-Some.ensures g.Ix.IndexType.of c.in-Some-node_weight.weight c.in-Some-node_weight.ensures (goal.F-pre g)
    c.args.key c.requires.can c.in-Some.ends.1 (g.Ix.IndexType.of_number c.in-Some.ends.1)

pub edges-preserved : goal.edges-preserved
edges-preserved g c =
    let number = g.Ix.IndexType.number in
    let of = g.Ix.IndexType.of in
    let graph = g.S.EdgeSource.graph c.args.store.now in
    gather_more of (goal.F-post g) c.args.key graph number c.args.list.now c.edges.invariant c.edges-test.true
    c.index-list-i.result c.index-list-i.is c.key.result
    (key_there c.invariant.ensures.well_formed number (number c.args._n) c.args.list.now c.requires.list
    c.edges.i c.edges-test.true c.index-list-i.result c.index-list-i.is (pair_of number c.in-Some.ends)
    c.in-Some.ensures of c.in-Some-node_weight.weight c.in-Some-node_weight.ensures (goal.F-post g)
    c.args.key c.key.result c.in-Some.ends.1 (g.Ix.IndexType.of_number c.in-Some.ends.1) c.key.ensures)
    (ap (keyed_by number) c.in_ok-push.ensures.items
    ∙ map-append (λ p. record { key = p.0; place = p.1.0; edge = number p.1.1 }) c.edges.keyed.items _)

pub returns-clause-edges : goal.returns-clause-edges
returns-clause-edges g c =
    let number = g.Ix.IndexType.number in
    all_gathered g.Ix.IndexType.of (goal.F-post g) c.args.key (g.S.EdgeSource.graph c.args.store.now) number
    c.args.list.now c.edges.invariant (omega (arith, c.edges-test.false, c.edges.auto.i-end))

pub returns-clause-keys : goal.returns-clause-keys
returns-clause-keys g c = c.edges.invariant.keys

pub returns-clause-places : goal.returns-clause-places
returns-clause-places g c = c.edges.invariant.places
