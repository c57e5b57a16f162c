use Rattle.std.proofs.Common.{length, subst, sym, arith}
use Rattle.daggy_graph.specs.Names.{AreNamesBelow}
use Rattle.daggy_graph.proofs.FilterLemmas.{AreNamesBelow-push, AreNamesBelow-push_none}
use Rattle.daggy_graph.proofs.graph.filter.keep_node.Goals as goal

pub returns-in-Some-clause-below : goal.returns-in-Some-clause-below
returns-in-Some-clause-below g c w =
    subst (AreNamesBelow (length c.put_node-n.new.nodes.items)) (sym c.push_reserved.ensures.items)
    (AreNamesBelow-push (length c.args.nodes.now.items) _ c.put_node-n.result c.args.names.now.items
    (omega (arith, c.put_node-n.ensures.len)) (omega (arith, c.put_node-n.ensures.len, c.put_node-n.ensures.index)) w)

pub returns-in-None-clause-below : goal.returns-in-None-clause-below
returns-in-None-clause-below g c w =
    subst (AreNamesBelow (length c.args.nodes.now.items)) (sym c.push_reserved-in-None.ensures.items)
    (AreNamesBelow-push_none _ c.args.names.now.items w)
