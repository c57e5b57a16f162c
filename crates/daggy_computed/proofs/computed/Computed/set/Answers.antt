use Rattle.std.proofs.Common.{◌≡◌, ◌<◌, map, length, sym, ap, subst, ◌∙◌, arith}
use Rattle.std.specs.Option.{option_map}
use Rattle.daggy_base.specs.Graph.{HasNode, node_weight}
use Rattle.daggy_computed.specs.Cells.{cells, marked_at}
use Rattle.daggy_computed.specs.Computation.{with_graph}
use Rattle.daggy_computed.specs.Marking.{reformed}
use Rattle.daggy_computed.specs.Settling.{AreValues}
use Rattle.daggy_computed.proofs.CellGraphs.{same_nodes}
use Rattle.daggy_computed.proofs.Celled.{cell_at}
use Rattle.daggy_computed.proofs.Changes.{ready_reformed, cells_reformed, long_reformed}
use Rattle.daggy_computed.proofs.ValuesKept.{values_marked, reformed_from}
use Rattle.daggy_computed.proofs.computed.Computed.set.Given.{Over}
use Rattle.daggy_computed.proofs.computed.Computed.set.Goals.{After-index, After-replace_weight}
use Rattle.daggy_computed.proofs.computed.Computed.set.Goals as goal

module _ (g : Over) (c : After-index g) where
  there : HasNode c.self.inside.dag.graph (g.Ix.IndexType.number c.args.n)
  there =
      (same_nodes c.self.inside.dag.graph c.self.inside.entries.items (g.Ix.IndexType.number c.args.n)).1
      (subst (λ z. HasNode z.graph (g.Ix.IndexType.number c.args.n)) (sym c.self.view_is) c.requires)

  low : g.Ix.IndexType.number c.args.n < length c.self.inside.entries.items
  low = c.self.invariant.0.sized (g.Ix.IndexType.number c.args.n) there

module _ (g : Over) (c : After-replace_weight g) where
  is : c.mark.new.entries.items ≡ marked_at c.self.inside.entries.items (g.Ix.IndexType.number c.args.n)
  is = c.mark.ensures ∙ ap (marked_at c.self.inside.entries.items) c.index.ensures.value

pub mark-requires : goal.mark-requires
mark-requires g c =
    omega (arith, low g (goal.at.mark-requires g c).After-index, c.index.ensures.value, c.self.inside.entries.ok.0)

pub put-requires : goal.put-requires
put-requires g c = omega (arith, low g (goal.at.put-requires g c).After-index, c.self.invariant.0.slots_are)

pub replace_weight-requires : goal.replace_weight-requires
replace_weight-requires g c = there g (goal.at.replace_weight-requires g c).After-index

pub invariant_of-self : goal.invariant_of-self
invariant_of-self g c =
    let at = goal.at.invariant_of-self g c in
    let number = g.Ix.IndexType.number in
    let graph = c.self.inside.dag.graph in
    let es = c.self.inside.entries.items in
    let queue = c.self.inside.queue in
    let k = c.put.ensures in (
      ready_reformed graph es c.mark.new.entries.items queue.slots c.put.new.self.slots (map number queue.nodes)
          (map number c.put.new.self.nodes) (number c.args.n) (there g at.After-index) c.self.invariant.0 (is g at.After-replace_weight)
          k.slots k.kept k.here c.replace_weight.new.dag.graph c.args.formula c.replace_weight.ensures.replaced,
      long_reformed graph es c.mark.new.entries.items queue.slots c.put.new.self.slots (map number queue.nodes)
          (map number c.put.new.self.nodes) (number c.args.n) (there g at.After-index) c.self.invariant.0 (is g at.After-replace_weight)
          k.slots k.kept k.here c.replace_weight.new.dag.graph c.args.formula c.replace_weight.ensures.replaced c.self.invariant.1,
    )

pub returns-clause-set : goal.returns-clause-set
returns-clause-set g c =
    let at = goal.at.returns-clause-set g c in
    let number = g.Ix.IndexType.number in
    let graph = c.self.inside.dag.graph in
    let es = c.self.inside.entries.items in
    let queue = c.self.inside.queue in
    let k = c.put.ensures in
    let cells_are : cells c.replace_weight.new.dag.graph c.mark.new.entries.items
    ≡ reformed (cells graph es) (number c.args.n) c.args.formula =
    cells_reformed graph es c.mark.new.entries.items queue.slots c.put.new.self.slots (map number queue.nodes)
    (map number c.put.new.self.nodes) (number c.args.n) (there g at.After-index) c.self.invariant.0 (is g at.After-replace_weight)
    k.slots k.kept k.here c.replace_weight.new.dag.graph c.args.formula c.replace_weight.ensures.replaced in
    ap (λ z. record { graph = z; changed = map number c.self.inside.changed.items }) cells_are
    ∙ ap (λ z. with_graph z (reformed z.graph (number c.args.n) c.args.formula)) c.self.view_is

pub returns-clause-values : goal.returns-clause-values
returns-clause-values g c = λ eq allowed hold.
    let at = goal.at.returns-clause-values g c in
    let number = g.Ix.IndexType.number in
    let n = number c.args.n in
    let graph = c.self.inside.dag.graph in
    let es = c.self.inside.entries.items in
    let queue = c.self.inside.queue in
    let k = c.put.ensures in
    subst (AreValues eq allowed)
    (sym (cells_reformed graph es c.mark.new.entries.items queue.slots c.put.new.self.slots (map number queue.nodes)
    (map number c.put.new.self.nodes) n (there g at.After-index) c.self.invariant.0 (is g at.After-replace_weight) k.slots k.kept
    k.here c.replace_weight.new.dag.graph c.args.formula c.replace_weight.ensures.replaced))
    (values_marked (cells graph es) (reformed (cells graph es) n c.args.formula) _ (reformed_from (cells graph es) n c.args.formula)
    eq allowed (subst (λ z. AreValues eq allowed z.graph) (sym c.self.view_is) hold))

pub returns-clause-gives : goal.returns-clause-gives
returns-clause-gives g c =
    let n = g.Ix.IndexType.number c.args.n in
    let graph = c.self.inside.dag.graph in
    let es = c.self.inside.entries.items in
    ap (λ z. option_map (λ d. d.formula) (node_weight z.graph n)) (sym c.self.view_is)
    ∙ ap (option_map (λ d. d.formula)) (cell_at graph es n c.replace_weight.result c.replace_weight.ensures.gives)
