use Rattle.std.proofs.Common.{ℕ, List, subst, ap, ◌∙◌}
use Rattle.std.specs.List.{Contains}
use Rattle.daggy_order.specs.Links.{Stored}
use Rattle.daggy_order.proofs.Labelled.{labelled_grown}
use Rattle.daggy_order.proofs.list.LabeledList.push_first.Goals as goal

pub invariant_of-self : goal.invariant_of-self
invariant_of-self g c =
    labelled_grown c.self.invariant c.make_room.new.self.labels c.make_room.new.self.nodes c.make_room.ensures.nodes
    c.make_room.ensures.labels

pub put_first-requires-clause-labelled : goal.put_first-requires-clause-labelled
put_first-requires-clause-labelled g c =
    labelled_grown c.self.invariant c.make_room.new.self.labels c.make_room.new.self.nodes c.make_room.ensures.nodes
    c.make_room.ensures.labels

pub put_first-requires-clause-absent : goal.put_first-requires-clause-absent
put_first-requires-clause-absent g c =
    let P : List ℕ → Type 0 = λ z. Contains z (g.Ix.IndexType.number c.args.n) in
    let Q : ℕ → Type 0 = λ z. Contains c.make_room.new.self.nodes z in
    λ h.
    c.requires.absent
    (subst P (c.make_room.ensures.nodes ∙ ap (λ (z : Stored). z.nodes) c.self.view_is) (subst Q c.of_node.ensures h))
