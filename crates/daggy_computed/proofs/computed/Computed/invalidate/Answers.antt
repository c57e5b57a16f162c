use Rattle.std.proofs.Common.{◌≡◌, ◌<◌, map, length, sym, ap, subst, ◌∙◌, arith}
use Rattle.daggy_base.specs.Graph.{HasNode}
use Rattle.daggy_computed.specs.Cells.{cells, marked_at}
use Rattle.daggy_computed.specs.Computation.{with_graph}
use Rattle.daggy_computed.specs.Marking.{marked}
use Rattle.daggy_computed.specs.Settling.{AreValues}
use Rattle.daggy_computed.proofs.CellGraphs.{same_nodes}
use Rattle.daggy_computed.proofs.Changes.{ready_more, cells_more, long_more}
use Rattle.daggy_computed.proofs.ValuesKept.{values_marked, marked_one}
use Rattle.daggy_computed.proofs.computed.Computed.invalidate.Given.{Over}
use Rattle.daggy_computed.proofs.computed.Computed.invalidate.Goals.{After-index, After-put}
use Rattle.daggy_computed.proofs.computed.Computed.invalidate.Goals as goal

module _ (g : Over) (c : After-index g) where
  there : HasNode c.self.inside.dag.graph (g.Ix.IndexType.number c.args.n)
  there =
      (same_nodes c.self.inside.dag.graph c.self.inside.entries.items (g.Ix.IndexType.number c.args.n)).1
      (subst (λ z. HasNode z.graph (g.Ix.IndexType.number c.args.n)) (sym c.self.view_is) c.requires)

  low : g.Ix.IndexType.number c.args.n < length c.self.inside.entries.items
  low = c.self.invariant.0.sized (g.Ix.IndexType.number c.args.n) there

module _ (g : Over) (c : After-put g) where
  is : c.mark.new.entries.items ≡ marked_at c.self.inside.entries.items (g.Ix.IndexType.number c.args.n)
  is = c.mark.ensures ∙ ap (marked_at c.self.inside.entries.items) c.index.ensures.value

pub mark-requires : goal.mark-requires
mark-requires g c =
    omega (arith, low g (goal.at.mark-requires g c).After-index, c.index.ensures.value, c.self.inside.entries.ok.0)

pub put-requires : goal.put-requires
put-requires g c = omega (arith, low g (goal.at.put-requires g c).After-index, c.self.invariant.0.slots_are)

pub invariant_of-self : goal.invariant_of-self
invariant_of-self g c =
    let at = goal.at.invariant_of-self g c in
    let number = g.Ix.IndexType.number in
    let graph = c.self.inside.dag.graph in
    let es = c.self.inside.entries.items in
    let queue = c.self.inside.queue in
    let k = c.put.ensures in (
      ready_more graph es c.mark.new.entries.items queue.slots c.put.new.self.slots (map number queue.nodes)
          (map number c.put.new.self.nodes) (number c.args.n) (there g at.After-index) c.self.invariant.0 (is g at.After-put)
          k.slots k.kept k.here,
      long_more graph es c.mark.new.entries.items queue.slots c.put.new.self.slots (map number queue.nodes)
          (map number c.put.new.self.nodes) (number c.args.n) (there g at.After-index) c.self.invariant.0 (is g at.After-put)
          k.slots k.kept k.here c.self.invariant.1,
    )

pub returns-clause-marked : goal.returns-clause-marked
returns-clause-marked g c =
    let at = goal.at.returns-clause-marked g c in
    let number = g.Ix.IndexType.number in
    let graph = c.self.inside.dag.graph in
    let es = c.self.inside.entries.items in
    let queue = c.self.inside.queue in
    let k = c.put.ensures in
    let cells_are : cells graph c.mark.new.entries.items ≡ marked (cells graph es) (number c.args.n) =
    cells_more graph es c.mark.new.entries.items queue.slots c.put.new.self.slots (map number queue.nodes)
    (map number c.put.new.self.nodes) (number c.args.n) (there g at.After-index) c.self.invariant.0 (is g at.After-put) k.slots
    k.kept k.here in
    ap (λ z. record { graph = z; changed = map number c.self.inside.changed.items }) cells_are
    ∙ ap (λ z. with_graph z (marked z.graph (number c.args.n))) c.self.view_is

pub returns-clause-values : goal.returns-clause-values
returns-clause-values g c = λ eq allowed hold.
    let at = goal.at.returns-clause-values g c in
    let number = g.Ix.IndexType.number in
    let n = number c.args.n in
    let graph = c.self.inside.dag.graph in
    let es = c.self.inside.entries.items in
    let queue = c.self.inside.queue in
    let k = c.put.ensures in
    subst (AreValues eq allowed)
    (sym (cells_more graph es c.mark.new.entries.items queue.slots c.put.new.self.slots (map number queue.nodes)
    (map number c.put.new.self.nodes) n (there g at.After-index) c.self.invariant.0 (is g at.After-put) k.slots k.kept k.here))
    (values_marked (cells graph es) (marked (cells graph es) n) _ (marked_one (cells graph es) n) eq allowed
    (subst (λ z. AreValues eq allowed z.graph) (sym c.self.view_is) hold))
