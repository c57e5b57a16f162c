use Rattle.std.proofs.Common.{◌↔◌, IsTrue, subst, sym, ◌∙◌}
use Rattle.std.proofs.lemmas.Bool.{false≢true}
use Rattle.daggy_base.specs.Graph.{Graph}
use Rattle.daggy_redundant.specs.Comparison.{JoinsAll}
use Rattle.daggy_reduction.proofs.joined_pairs.join_same_pairs.Goals as goal

pub returns-then-not-joins_all-clause-decided : goal.returns-then-not-joins_all-clause-decided
returns-then-not-joins_all-clause-decided g c = (
  λ t. absurd (false≢true t),
  λ same. absurd (false≢true (sym c.if-not-joins_all.true ∙ c.joins_all.ensures.decided.1 (λ u v. (same u v).0))),
)

pub returns-clause-decided : goal.returns-clause-decided
returns-clause-decided g c =
    let a = g.A.EdgeSource.graph c.args.a.now in
    let back = c.joins_all-2.result in
    let P : Graph g.row.A-NodeWeight.Denot g.row.A-EdgeWeight.Denot → Type 0 = λ z.
    IsTrue back ↔ JoinsAll (g.B.EdgeSource.graph c.joins_all.new.b) z in
    let Q : Graph g.row.B-NodeWeight.Denot g.row.B-EdgeWeight.Denot → Type 0 = λ z. IsTrue back ↔ JoinsAll z a in
    let decided =
    subst Q c.joins_all.ensures.other_same (subst P c.joins_all.ensures.same c.joins_all-2.ensures.decided) in
    let there = c.joins_all.ensures.decided.0 c.if-not-joins_all.false in (
      λ t u v. (there u v, decided.0 t u v),
      λ same. decided.1 (λ u v. (same u v).1),
    )
