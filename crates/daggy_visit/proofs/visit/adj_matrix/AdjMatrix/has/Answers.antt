use Rattle.std.proofs.Common.{rules, ◌<◌, [], false, get_or, ap, ◌∙◌}
use Rattle.daggy_visit.proofs.MatrixRows.{pair_tested, pair_within}
use Rattle.daggy_visit.proofs.visit.adj_matrix.AdjMatrix.has.Goals as goal
use Rattle.daggy_visit.proofs.visit.adj_matrix.AdjMatrix.has.Goals.{then-row-self, else-row-self}

pub returns-then-column-self : goal.returns-then-column-self
returns-then-column-self g c =
    let low : (c.index-row.result < c.self.inside.bound) × (c.index-column.result < c.self.inside.bound) =
    elim c.if-row-self.branch [ then-row-self w ↦ search rules | else-row-self w ↦ search rules ] in
    pair_tested c.self.inside.bound c.self.inside.width c.self.inside.bits c.self.view_is record {
      row = c.index-row.result;
      column = c.index-column.result;
      row_is = c.index-row.ensures.value;
      column_is = c.index-column.ensures.value;
      row_low = low.0;
      column_low = low.1;
      at = c.place.ensures.value;
    } c.get.ensures

pub returns-else-column-self : goal.returns-else-column-self
returns-else-column-self g c = (
  λ answer. search rules,
  λ has.
      let low =
      pair_within c.self.inside.bound c.self.inside.width c.self.inside.bits (g.Ix.IndexType.number c.args.a)
      (g.Ix.IndexType.number c.args.b)
      (ap (λ m. get_or (get_or m (g.Ix.IndexType.number c.args.a) []) (g.Ix.IndexType.number c.args.b) false)
      c.self.view_is
      ∙ has) in
      elim c.if-row-self.branch [ then-row-self w ↦ search rules | else-row-self w ↦ search rules ],
)
