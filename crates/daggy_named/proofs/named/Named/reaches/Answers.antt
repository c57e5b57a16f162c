use Rattle.std.proofs.Common.{◌≡◌, ◌∙◌, ℕ, ap, sym, subst}
use Rattle.daggy_base.specs.Path.{Reaches}
use Rattle.daggy_named.proofs.Depended.{for_nodes, from_nodes}
use Rattle.daggy_named.proofs.named.Named.reaches.Goals as goal

pub returns : goal.returns
returns g c =
    let s = c.args.self.now in
    let a = g.Q.Equivalent.equivalent c.args.a in
    let b = g.Q.Equivalent.equivalent c.args.b in
    let u = g.Ix.IndexType.number c.in-Some.from in
    let v = g.Ix.IndexType.number c.in-Some-index_of.to in
    let P : ℕ → ℕ → Type 0 = λ u v. Reaches s.graph u v in
    let same : c.in_ok-paths.paths.graph ≡ s.graph =
    ap (λ z. z.graph) c.in_ok-paths.ensures ∙ ap (λ z. z.graph) c.self.view_is in (
      λ yes. for_nodes a b s.keys P c.in-Some.ensures.found c.in-Some-index_of.ensures.found
          (subst (λ z. Reaches z u v) same (c.reaches.ensures.decided.0 yes)),
      λ at. c.reaches.ensures.decided.1 (subst (λ z. Reaches z u v) (sym same)
          (from_nodes a b s.keys P c.in-Some.ensures.found c.in-Some-index_of.ensures.found at)),
    )
