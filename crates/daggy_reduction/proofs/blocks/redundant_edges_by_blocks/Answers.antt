use Rattle.std.proofs.Common.{◌↔◌, ℕ, map, take, refl, sym, ap, subst, ◌∙◌, Contains}
use Rattle.daggy_base.specs.Reduction.{IsRedundant}
use Rattle.daggy_redundant.specs.Comparison.{IsAscending}
use Rattle.daggy_reduction.proofs.blocks.redundant_edges_by_blocks.Goals as goal

pub returns : goal.returns
returns g c =
    let found = c.leave_redundant_by_blocks-count.ensures in
    let is =
    sym (c.front.ensures.value ∙ (ap (λ z. take c.leave_redundant_by_blocks-count.result z) c.as_slice.ensures.value
    ∙ ap (λ z. take c.leave_redundant_by_blocks-count.result z.found) c.scratch.view_is)) in
    let view = c.scratch.view_is in (
      (refl, λ _. tt, (ap (λ z. z.nodes) view ∙ found.nodes_kept, ap (λ z. z.edges) view ∙ found.edges_kept, ap (λ z. z.rows) view ∙ found.rows_kept)),
      record {
        same = found.same;
        ascending = subst (λ z. IsAscending (map g.Ix.IndexType.number z)) is found.ascending;
        exact =
            subst (λ z. (e : ℕ) → Contains (map g.Ix.IndexType.number z) e
            ↔ IsRedundant (g.S.EdgeSource.graph c.args.source.now) (map g.Ix.IndexType.number c.args.roots.now) e) is
            found.exact;
        looked = found.looked;
        counted = found.counted;
        rests = tt;
      },
    )
