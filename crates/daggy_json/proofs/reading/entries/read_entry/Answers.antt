use Rattle.std.proofs.Common.{inr}
use Rattle.daggy_json.specs.Weight.{ReadsAs}
use Rattle.daggy_json.proofs.FoundParts.{reads_as}
use Rattle.daggy_json.proofs.Stages.{entry_some, entry_refused}
use Rattle.daggy_json.proofs.reading.entries.read_entry.Goals as goal

pub returns-in-Ok-Some-clause-ok : goal.returns-in-Ok-Some-clause-ok
returns-in-Ok-Some-clause-ok g c =
    entry_some c.args.kind _ (ReadsAs g.G.Fn c.args.fn_edge.now) _ c.in-Some.ensures
    (c.is_node.ensures.0 c.if-not-is_node.false) (c.is_node-else-not-is_node.ensures.0 c.if-not-is_node-2.false) _
    c.new.ensures.number c.new-in-Ok-Some.ensures.number
    (reads_as g.G.Fn c.args.fn_edge.now c.in-Some.found.2 _ (rw c.in-Ok-Some.field-0-is at c.in-Ok-Some.ensures))

pub returns-in-Ok-None-clause-err : goal.returns-in-Ok-None-clause-err
returns-in-Ok-None-clause-err g c =
    inr (entry_refused c.args.kind _ (ReadsAs g.G.Fn c.args.fn_edge.now) _ c.in-Some.ensures
    (c.is_node.ensures.0 c.if-not-is_node.false) (c.is_node-else-not-is_node.ensures.0 c.if-not-is_node-2.false)
    (reads_as g.G.Fn c.args.fn_edge.now c.in-Some.found.2 _ (rw c.in-Ok-None.field-0-is at c.in-Ok-None.ensures)))
