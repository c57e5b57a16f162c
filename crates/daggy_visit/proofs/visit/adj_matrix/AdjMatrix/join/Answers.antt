use Rattle.std.proofs.Common.{◌<◌, length, ap, arith}
use Rattle.daggy_visit.proofs.MatrixRows.{length-rows, pair_set}
use Rattle.daggy_visit.proofs.visit.adj_matrix.AdjMatrix.join.Goals as goal

pub place-i-requires-clause-row : goal.place-i-requires-clause-row
place-i-requires-clause-row g c =
    omega (
      arith,
      c.requires.source,
      c.index.ensures.value,
      ap length c.self.view_is,
      length-rows c.self.inside.bound c.self.inside.width c.self.inside.bits,
    )

pub place-i-requires-clause-column : goal.place-i-requires-clause-column
place-i-requires-clause-column g c =
    omega (
      arith,
      c.requires.target,
      c.index-2.ensures.value,
      ap length c.self.view_is,
      length-rows c.self.inside.bound c.self.inside.width c.self.inside.bits,
    )

pub returns-clause-joined : goal.returns-clause-joined
returns-clause-joined g c =
    let row : c.index.result < c.self.inside.bound =
    omega (
      arith,
      c.requires.source,
      c.index.ensures.value,
      ap length c.self.view_is,
      length-rows c.self.inside.bound c.self.inside.width c.self.inside.bits,
    ) in
    let column : c.index-2.result < c.self.inside.bound =
    omega (
      arith,
      c.requires.target,
      c.index-2.ensures.value,
      ap length c.self.view_is,
      length-rows c.self.inside.bound c.self.inside.width c.self.inside.bits,
    ) in
    rw c.set.ensures.after
    (pair_set c.self.inside.bound c.self.inside.width c.self.inside.bits c.self.view_is c.self.invariant.0 c.self.invariant.2 record {
      row = c.index.result;
      column = c.index-2.result;
      row_is = c.index.ensures.value;
      column_is = c.index-2.ensures.value;
      row_low = row;
      column_low = column;
      at = c.place-i.ensures.value;
    } c.place-i.ensures.within)
