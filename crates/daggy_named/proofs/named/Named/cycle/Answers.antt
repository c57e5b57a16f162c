use Rattle.std.proofs.Common.{ℕ, sym, subst}
use Rattle.daggy_base.specs.Path.{Reaches}
use Rattle.daggy_named.proofs.Depended.{for_nodes, from_nodes}
use Rattle.daggy_named.proofs.named.Named.cycle.Goals as goal

pub returns-clause-none : goal.returns-clause-none
returns-clause-none g c =
    let s = c.args.self.now in
    let u = g.Ix.IndexType.number c.in-Some.parent in
    let v = g.Ix.IndexType.number c.in-Some-index_of.child in
    let P : ℕ → ℕ → Type 0 = λ u v. Reaches s.graph v u in
    let no = c.path.ensures.none in (
      λ is at. no.0 is (subst (λ z. Reaches z.graph v u) (sym c.self.view_is)
          (from_nodes (g.Q.Equivalent.equivalent c.args.on) (g.Q.Equivalent.equivalent c.args.what) s.keys P
          c.in-Some.ensures.found c.in-Some-index_of.ensures.found at)),
      λ none. no.1 (λ r. none (for_nodes (g.Q.Equivalent.equivalent c.args.on) (g.Q.Equivalent.equivalent c.args.what) s.keys P
          c.in-Some.ensures.found c.in-Some-index_of.ensures.found
          (subst (λ z. Reaches z.graph v u) c.self.view_is r))),
    )
