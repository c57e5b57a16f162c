use Rattle.std.proofs.Common.{◌≡◌, ◌∙◌, false, not, eqb, inl, inr, sym, ap}
use Rattle.std.proofs.lemmas.Bool.{cases_eq, ne_eqb, false≢true}
use Rattle.daggy_edge_order.proofs.ParentsAsked.{no_parent}
use Rattle.daggy_edge_order.proofs.edge_order.has_parents.Goals as goal

pub returns : goal.returns
returns g c h =
    no_parent c.invariant.ensures.well_formed (g.Ix.IndexType.number c.args.n)
    (sym c.first_edge.ensures
    ∙ (sym c.index.ensures.value ∙ (ends h ∙ (c.index-2.ensures.value ∙ c.end.ensures.number))))
  where
    ends : not (eqb c.index.result c.index-2.result) ≡ false → c.index.result ≡ c.index-2.result
    ends h =
        elim (cases_eq c.index.result c.index-2.result) [
          | inl e ↦ e
          | inr d ↦ absurd (false≢true (sym h ∙ ap not (ne_eqb c.index.result c.index-2.result d)))
        ]
