use Rattle.std.proofs.Common.{◌≡◌, length, arith, rules}
use Rattle.daggy_json.proofs.reading.rows.count_edges.Goals as goal

pub count_into-requires-clause-ends : goal.count_into-requires-clause-ends
count_into-requires-clause-ends g c = λ e x is.
    let long : length c.as_mut_slice.result.now ≡ c.args.nodes = search rules in
    omega (arith, long, c.requires e x is)
