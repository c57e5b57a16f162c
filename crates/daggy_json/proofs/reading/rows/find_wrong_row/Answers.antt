use Rattle.std.proofs.Common.{◌≡◌, length, arith, rules}
use Rattle.daggy_base.specs.declared.index.Direction.TheVariants.{Outgoing, Incoming}
use Rattle.daggy_json.proofs.MarkedLists.{slot_within}
use Rattle.daggy_json.proofs.reading.rows.find_wrong_row.Goals as goal

pub count_edges-requires : goal.count_edges-requires
count_edges-requires g c = λ e x is.
    let long : c.len.result ≡ length c.args.nodes.now.items = search rules in
    omega (arith, long, slot_within c.args.nodes.now.items x.parent (c.requires.ends Outgoing e x is))

pub count_edges-requires-2 : goal.count_edges-requires-2
count_edges-requires-2 g c = λ e x is.
    let long : c.len-2.result ≡ length c.args.nodes.now.items = search rules in
    omega (arith, long, slot_within c.args.nodes.now.items x.child (c.requires.ends Incoming e x is))
