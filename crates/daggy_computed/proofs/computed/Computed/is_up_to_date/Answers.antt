use Rattle.std.proofs.Common.{map, sym, subst, Contains}
use Rattle.daggy_computed.specs.Cells.{IsStaleAt}
use Rattle.daggy_computed.specs.Recomputing.{IsUpToDate}
use Rattle.daggy_computed.proofs.UpToDate.{up_to_date, needed_fresh}
use Rattle.daggy_computed.proofs.computed.Computed.is_up_to_date.Goals as goal

pub returns-clause-exact : goal.returns-clause-exact
returns-clause-exact g c =
    let number = g.Ix.IndexType.number in
    let graph = c.self.inside.dag.graph in
    let es = c.self.inside.entries.items in
    let n = number c.args.n in
    let ns = map number c.in_ok-needed.needed.items in
    let part = c.in_ok-needed.ensures.found in (
      λ t. subst (λ z. IsUpToDate z.graph n) c.self.view_is
          (up_to_date graph es n ns part (λ m k s. c.none_stale_among.ensures.0 t m
          (subst (λ z. Contains (map number z) m) (sym c.as_slice-2.ensures.value) k)
          (subst (λ z. IsStaleAt z m) (sym c.as_slice.ensures.value) s))),
      λ h. c.none_stale_among.ensures.1 (λ m k s.
          needed_fresh graph es n ns part c.self.invariant.0.real (subst (λ z. IsUpToDate z.graph n) (sym c.self.view_is) h) m
          (subst (λ z. Contains (map number z) m) c.as_slice-2.ensures.value k)
          (subst (λ z. IsStaleAt z m) c.as_slice.ensures.value s)),
    )
