use Rattle.std.proofs.Common.{ℕ, sym, subst}
use Rattle.std.proofs.Common.{take}
use Rattle.std.proofs.lemmas.Option.{none-some}
use Rattle.daggy_base.specs.Path.{Reaches}
use Rattle.daggy_order.specs.Links.{IsMoved, StandBefore}
use Rattle.daggy_order.proofs.OrderEdgeResult.{found_before, new_order, new_before, new_parted}
use Rattle.daggy_order.proofs.order.edge.move_reached.Given.{Over}
use Rattle.daggy_order.proofs.order.edge.move_reached.Goals.{After-move_after}
use Rattle.daggy_order.proofs.order.edge.move_reached.Goals as goal

pub move_after-requires-clause-stand : goal.move_after-requires-clause-stand
move_after-requires-clause-stand g c =
    let P : ℕ → Type 0 = λ z.
    StandBefore c.args.list.now.nodes z (take c.in-Some.found.nodes c.reaches_before.new.work.nodes) in
    subst P (sym c.of_node.ensures) (found_before c.reaches_before.ensures.well_formed c.requires.ordered
    c.reaches_before.ensures.labelled.1 _ _ c.requires.parent c.requires.child _ c.in-Some.ensures.found.1.1)

-- the list after the move
module _ (g : Over) (c : After-move_after g) where
  moved : IsMoved (g.Ix.IndexType.number c.args.a) (take c.in-Some.found.nodes c.reaches_before.new.work.nodes)
      c.args.list.now.nodes c.move_after.new.self.nodes
  moved =
      let P : ℕ → Type 0 = λ z.
      IsMoved z (take c.in-Some.found.nodes c.reaches_before.new.work.nodes) c.args.list.now.nodes c.move_after.new.self.nodes in
      subst P c.of_node.ensures c.move_after.ensures.moved

  missed : Reaches (g.S.EdgeSource.graph c.args.source.now) (g.Ix.IndexType.number c.args.b)
      (g.Ix.IndexType.number c.args.a) → ⊥
  missed r = none-some c.in-Some.found (sym (c.in-Some.ensures.decided.1 r))

pub returns-clause-ordered : goal.returns-clause-ordered
returns-clause-ordered g c =
    let at = goal.at.returns-clause-ordered g c in
    new_order c.reaches_before.ensures.well_formed c.requires.ordered c.reaches_before.ensures.labelled.1
    (g.Ix.IndexType.number c.args.a) (g.Ix.IndexType.number c.args.b) c.requires.parent c.requires.child _
    c.in-Some.ensures.found.1.1 (missed g at.After-move_after) c.requires.behind c.move_after.new.self.nodes
    (moved g at.After-move_after)

pub returns-clause-before : goal.returns-clause-before
returns-clause-before g c =
    let at = goal.at.returns-clause-before g c in
    new_before c.reaches_before.ensures.well_formed c.requires.ordered c.reaches_before.ensures.labelled.1
    (g.Ix.IndexType.number c.args.a) (g.Ix.IndexType.number c.args.b) c.requires.parent c.requires.child _
    c.in-Some.ensures.found.1.1 (missed g at.After-move_after) c.requires.behind c.move_after.new.self.nodes
    (moved g at.After-move_after)

pub returns-clause-moved : goal.returns-clause-moved
returns-clause-moved g c =
    let at = goal.at.returns-clause-moved g c in
    new_parted c.reaches_before.ensures.well_formed c.requires.ordered c.reaches_before.ensures.labelled.1
    (g.Ix.IndexType.number c.args.a) (g.Ix.IndexType.number c.args.b) c.requires.parent c.requires.child _
    c.in-Some.ensures.found.1.1 (missed g at.After-move_after) c.requires.behind c.move_after.new.self.nodes
    (moved g at.After-move_after)
