use Rattle.std.proofs.Common.{◌∙◌, ap, sym, inl, inr}
use Rattle.std.specs.Option.{option_map}
use Rattle.daggy_base.specs.Graph.{pair_of}
use Rattle.daggy_cycles.proofs.GatheredEdges.{pair_leads}
use Rattle.daggy_cycles.proofs.with_edges.add_edge_at.Goals as goal

pub returns : goal.returns
returns g c u v =
    let number = g.Ix.IndexType.number in
    let ends = ap (λ z. option_map (pair_of number) z) (sym c.in-Some.is) ∙ c.edge_endpoints.ensures in
    let leads = pair_leads c.invariant.ensures.well_formed (number c.args.e) (number c.in-Some.ends.0) (number c.in-Some.ends.1)
    ends u v in
    let added = c.in_ok-add_pair.ensures u v in (
      λ l. elim (added.0 l) [ inl old ↦ inl old | inr p ↦ inr (leads.0 p) ],
      λ e. added.1 (elim e [ inl old ↦ inl old | inr l ↦ inr (leads.1 l) ]),
    )
