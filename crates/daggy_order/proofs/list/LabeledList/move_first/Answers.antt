use Rattle.std.proofs.Common.{ℕ, sym, subst}
use Rattle.std.specs.List.{Contains}
use Rattle.daggy_order.specs.Links.{Stored}
use Rattle.daggy_order.proofs.list.LabeledList.move_first.Goals as goal

pub take_out-requires-clause-held : goal.take_out-requires-clause-held
take_out-requires-clause-held g c =
    let P : Stored → Type 0 = λ z. Contains z.nodes (g.Ix.IndexType.number c.args.n) in
    subst P (sym c.self.view_is) c.requires

pub put_first-requires-clause-absent : goal.put_first-requires-clause-absent
put_first-requires-clause-absent g c h =
    let Q : ℕ → Type 0 = λ z. Contains c.take_out.new.links.nodes z in
    c.take_out.ensures.absent (subst Q c.of_node.ensures h)
