use Rattle.std.proofs.Common.{false, [], get_or, ap, ◌∙◌, sym}
use Rattle.daggy_visit.specs.Visit.{rows}
use Rattle.daggy_visit.proofs.MatrixRows.{length-rows, no_pair}
use Rattle.daggy_visit.proofs.visit.adj_matrix.AdjMatrix.new.Goals as goal

pub returns-clause-bound : goal.returns-clause-bound
returns-clause-bound g c = length-rows c.args.bound _ _

pub returns-clause-empty : goal.returns-clause-empty
returns-clause-empty g c = λ a b has.
    no_pair c.args.bound c.in-Some.width c.in-Some-checked_mul.count a b
    (ap (λ flags. get_or (get_or (rows c.args.bound c.in-Some.width flags) a []) b false) (sym c.in_ok-bits.ensures) ∙ has)
