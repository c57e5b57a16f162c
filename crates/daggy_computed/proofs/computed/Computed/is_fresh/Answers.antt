use Rattle.std.proofs.Common.{sym, subst}
use Rattle.daggy_computed.specs.Cells.{IsStaleAt}
use Rattle.daggy_computed.specs.Marking.{IsStale}
use Rattle.daggy_computed.proofs.Celled.{stale_cell, cell_stale}
use Rattle.daggy_computed.proofs.computed.Computed.is_fresh.Goals as goal

pub returns : goal.returns
returns g c =
    let graph = c.self.inside.dag.graph in
    let es = c.self.inside.entries.items in
    let ready = c.self.invariant.0 in (
      λ t n s. (let p = stale_cell graph es n (subst (λ z. IsStale z.graph n) (sym c.self.view_is) s) in
          c.none_stale.ensures.0 t n (ready.waits n p.1) (subst (λ z. IsStaleAt z n) (sym c.as_slice.ensures.value) p.1)),
      λ h. c.none_stale.ensures.1
          (λ m k s. (let at = subst (λ z. IsStaleAt z m) c.as_slice.ensures.value s in
          h m (subst (λ z. IsStale z.graph m) c.self.view_is (cell_stale graph es m (ready.real m at) at)))),
    )
