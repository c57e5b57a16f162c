use Rattle.std.proofs.Common.{ℕ, sym, subst}
use Rattle.daggy_base.specs.Path.{Reaches}
use Rattle.daggy_named.proofs.Depended.{for_node, from_node}
use Rattle.daggy_named.proofs.named.Named.reaches_key.Goals as goal

pub returns-clause-decided : goal.returns-clause-decided
returns-clause-decided g c =
    let s = c.args.self.now in
    let test = g.Q.Equivalent.equivalent c.args.key in
    let n = g.Ix.IndexType.number c.args.n in
    let m = g.Ix.IndexType.number c.in-Some.m in
    let P : ℕ → Type 0 = λ m. Reaches s.graph n m in (
      λ yes. for_node test s.keys P c.in-Some.ensures.found
          (subst (λ z. Reaches z.graph n m) c.self.view_is (c.reaches.ensures.decided.0 yes)),
      λ at. c.reaches.ensures.decided.1 (subst (λ z. Reaches z.graph n m) (sym c.self.view_is)
          (from_node test s.keys P c.in-Some.ensures.found at)),
    )
