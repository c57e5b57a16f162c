use Rattle.std.proofs.Common.{◌+◌, ◌*◌, ◌/◌, ◌<◌, ◌≤◌, length, ap, arith, rules}
use Rattle.daggy_visit.proofs.MatrixRows.{length-rows, row_fits, rows_apart, row_united}
use Rattle.daggy_visit.proofs.visit.adj_matrix.AdjMatrix.join_row.Given.{Over}
use Rattle.daggy_visit.proofs.visit.adj_matrix.AdjMatrix.join_row.Goals.{After-index-from}
use Rattle.daggy_visit.proofs.visit.adj_matrix.AdjMatrix.join_row.Goals as goal

to_low : (g : Over) (c : After-index-from g) → c.index-to.result < c.self.inside.bound
to_low g c =
    omega (
      arith,
      c.requires.source,
      c.index-to.ensures.value,
      ap length c.self.view_is,
      length-rows c.self.inside.bound c.self.inside.width c.self.inside.bits,
    )

from_low : (g : Over) (c : After-index-from g) → c.index-from.result < c.self.inside.bound
from_low g c =
    omega (
      arith,
      c.requires.target,
      c.index-from.ensures.value,
      ap length c.self.view_is,
      length-rows c.self.inside.bound c.self.inside.width c.self.inside.bits,
    )

to_fits : (g : Over) (c : After-index-from g)
    → 64 * (c.index-to.result * (c.self.inside.width / 64) + c.self.inside.width / 64) ≤ length c.self.inside.bits
to_fits g c =
    omega (
      arith,
      row_fits c.self.inside.bound c.self.inside.width (c.self.inside.width / 64) c.index-to.result
          c.self.invariant.3 (to_low g c),
      c.self.invariant.0,
    )

from_fits : (g : Over) (c : After-index-from g)
    → 64 * (c.index-from.result * (c.self.inside.width / 64) + c.self.inside.width / 64) ≤ length c.self.inside.bits
from_fits g c =
    omega (
      arith,
      row_fits c.self.inside.bound c.self.inside.width (c.self.inside.width / 64) c.index-from.result
          c.self.invariant.3 (from_low g c),
      c.self.invariant.0,
    )

pub overflow_mul-to : goal.overflow_mul-to
overflow_mul-to g c =
    let b = (goal.at.overflow_mul-to g c).After-index-from in
    omega (arith, to_fits g b, c.self.invariant.0, c.self.invariant.1)

pub overflow_mul-from : goal.overflow_mul-from
overflow_mul-from g c =
    let b = (goal.at.overflow_mul-from g c).After-index-from in
    omega (arith, from_fits g b, c.self.invariant.0, c.self.invariant.1)

pub unite_words-requires-clause-to : goal.unite_words-requires-clause-to
unite_words-requires-clause-to g c = to_fits g (goal.at.unite_words-requires-clause-to g c).After-index-from

pub unite_words-requires-clause-from : goal.unite_words-requires-clause-from
unite_words-requires-clause-from g c = from_fits g (goal.at.unite_words-requires-clause-from g c).After-index-from

pub unite_words-requires-clause-apart : goal.unite_words-requires-clause-apart
unite_words-requires-clause-apart g c =
    rows_apart (c.self.inside.width / 64) c.index-to.result c.index-from.result (λ same. absurd (search rules))

pub returns-then-to-from-clause-joined : goal.returns-then-to-from-clause-joined
returns-then-to-from-clause-joined g c =
    let b = (goal.at.returns-then-to-from-clause-joined g c).After-index-from in
    rw (← c.index-to.ensures.value, ← c.index-from.ensures.value)
    (row_united c.self.inside.bound c.self.inside.width (c.self.inside.width / 64) c.self.inside.bits
    c.unite_words.new.self c.self.view_is c.self.invariant.2 c.self.invariant.3 (to_low g b) (from_low g b)
    c.unite_words.ensures.united)
