use Rattle.std.proofs.Common.{◌∙◌, ◌↔◌, ℕ, IsTrue, get_or, sym, subst, refl, arith}
use Rattle.std.proofs.lemmas.Bool.{false≢true}
use Rattle.daggy_base.specs.Path.{Reaches}
use Rattle.daggy_named.specs.Asked.{ForNode}
use Rattle.daggy_named.specs.Naming.{Naming}
use Rattle.daggy_named.proofs.DependenciesSet.{one_parent, none_more}
use Rattle.daggy_named.proofs.named.Named.reaches_one.Given.{Over}
use Rattle.daggy_named.proofs.named.Named.reaches_one.Goals.{After-reaches_key}
use Rattle.daggy_named.proofs.named.Named.reaches_one.Goals as goal

-- whether the node reaches the one of this item
decided : (g : Over) (c : After-reaches_key g) → IsTrue c.reaches_key.result
    ↔ ForNode (g.Q.Equivalent.equivalent c.index-items-i.result.0) c.args.self.now.keys
    (λ m. Reaches c.args.self.now.graph (g.Ix.IndexType.number c.args.n) m)
decided g c =
    let P : Naming g.row.K.Denot g.row.N.Denot g.row.E.Denot → g.row.Q.Denot × g.row.E.Denot → Type 0 = λ z x.
    IsTrue c.reaches_key.result ↔ ForNode (g.Q.Equivalent.equivalent x.0) z.keys
    (λ m. Reaches z.graph (g.Ix.IndexType.number c.args.n) m) in
    subst (P c.args.self.now) (sym c.index-items-i.is)
    (subst (λ z. P z (get_or c.args.items.now c.items.i c.index-items-i.result)) c.items.invariant.same
    c.reaches_key.ensures.decided)

pub returns-then-reaches_key-clause-decided : goal.returns-then-reaches_key-clause-decided
returns-then-reaches_key-clause-decided g c =
    let at = (goal.at.returns-then-reaches_key-clause-decided g c).After-reaches_key in
    let P : ℕ → Type 0 = λ m. Reaches c.args.self.now.graph (g.Ix.IndexType.number c.args.n) m in (
      λ t. (one_parent g.Q.Equivalent.equivalent c.args.self.now.keys P c.args.items.now).1 (
        c.index-items-i.result,
        (c.items.i, c.items-test.true, sym c.index-items-i.is),
        (decided g at).0 c.if-reaches_key.true,
      ),
      λ r. refl,
    )

pub items-preserved : goal.items-preserved
items-preserved g c =
    let at = (goal.at.items-preserved g c).After-reaches_key in
    record {
      same = c.reaches_key.ensures.same ∙ c.items.invariant.same;
      none =
          none_more
          (λ x. ForNode (g.Q.Equivalent.equivalent x.0) c.args.self.now.keys
          (λ m. Reaches c.args.self.now.graph (g.Ix.IndexType.number c.args.n) m))
          c.args.items.now c.items.i c.index-items-i.result c.items-test.true c.index-items-i.is
          (λ there. false≢true (sym c.if-reaches_key.false ∙ (decided g at).1 there)) c.items.invariant.none;
    }

pub returns-clause-decided : goal.returns-clause-decided
returns-clause-decided g c =
    let P : ℕ → Type 0 = λ m. Reaches c.args.self.now.graph (g.Ix.IndexType.number c.args.n) m in (
      λ t. absurd (false≢true t),
      λ r.
          let w = (one_parent g.Q.Equivalent.equivalent c.args.self.now.keys P c.args.items.now).0 r in
          absurd (c.items.invariant.none w.1.0 w.0 (omega (arith, w.1.1, c.items-test.false)) w.1.2 w.2),
    )
