use Rattle.std.proofs.Common.{◌≡◌, ◌-◌, map, length, refl, sym, ap, ◌∙◌, arith}
use Rattle.daggy_base.specs.declared.index.Direction.TheVariants.{Outgoing, Incoming}
use Rattle.daggy_cells.specs.Fields.{nexts_of, ends_of, with_end_renamed}
use Rattle.daggy_graph.proofs.DroppedNode.{reassign_ready, nexts_kept_out, ends_kept_out, reassigned_none}
use Rattle.daggy_graph.proofs.graph.changes.reassign_last.Goals as goal

pub reassign-requires-clause-linked : goal.reassign-requires-clause-linked
reassign-requires-clause-linked g c =
    (reassign_ready c.requires.stored Outgoing c.args.edges.now.items
    refl refl (omega (arith, c.len-last.ensures, c.requires.node)) (sym c.new-from.ensures)
    c.index.ensures c.first-out.ensures).0

pub reassign-requires-clause-exact : goal.reassign-requires-clause-exact
reassign-requires-clause-exact g c =
    (reassign_ready c.requires.stored Outgoing c.args.edges.now.items
    refl refl (omega (arith, c.len-last.ensures, c.requires.node)) (sym c.new-from.ensures)
    c.index.ensures c.first-out.ensures).1

pub reassign-requires-then-i-last-clause-linked : goal.reassign-requires-then-i-last-clause-linked
reassign-requires-then-i-last-clause-linked g c =
    (reassign_ready c.requires.stored Incoming c.reassign.new.edges.items
    (ap (nexts_of Incoming) c.reassign.ensures ∙ nexts_kept_out c.new-from.result c.args.n c.args.edges.now.items)
    (ap (ends_of Incoming) c.reassign.ensures ∙ ends_kept_out c.new-from.result c.args.n c.args.edges.now.items)
    (omega (arith, c.len-last.ensures, c.requires.node)) (sym c.new-from.ensures)
    c.index-then-i-last.ensures c.first-into.ensures).0

pub reassign-requires-then-i-last-clause-exact : goal.reassign-requires-then-i-last-clause-exact
reassign-requires-then-i-last-clause-exact g c =
    (reassign_ready c.requires.stored Incoming c.reassign.new.edges.items
    (ap (nexts_of Incoming) c.reassign.ensures ∙ nexts_kept_out c.new-from.result c.args.n c.args.edges.now.items)
    (ap (ends_of Incoming) c.reassign.ensures ∙ ends_kept_out c.new-from.result c.args.n c.args.edges.now.items)
    (omega (arith, c.len-last.ensures, c.requires.node)) (sym c.new-from.ensures)
    c.index-then-i-last.ensures c.first-into.ensures).1

pub returns-else-i-last : goal.returns-else-i-last
returns-else-i-last g c =
    let same : length c.args.nodes.now.items - 1 ≡ c.args.n =
    omega (arith, c.if-i-last.false, c.len-last.ensures, c.index-i.ensures.value) in
    sym (ap (λ k.
    map (with_end_renamed Incoming k c.args.n) (map (with_end_renamed Outgoing k c.args.n) c.args.edges.now.items)) same
    ∙ reassigned_none c.args.n c.args.edges.now.items)
