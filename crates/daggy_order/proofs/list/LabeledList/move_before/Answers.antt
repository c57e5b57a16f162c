use Rattle.std.proofs.Common.{ℕ, List, sym, subst, not, eqb}
use Rattle.std.specs.List.{Contains}
use Rattle.daggy_base.specs.Removal.{without}
use Rattle.daggy_base.proofs.Lists.{Mem, contains_mem, mem_contains}
use Rattle.daggy_order.specs.Links.{Stored}
use Rattle.daggy_base.proofs.Sorted.{mem_filter}
use Rattle.daggy_base.proofs.ListParts.{is_held}
use Rattle.daggy_order.proofs.list.LabeledList.move_before.Goals as goal

pub take_out-requires-clause-held : goal.take_out-requires-clause-held
take_out-requires-clause-held g c =
    let P : Stored → Type 0 = λ z. Contains z.nodes (g.Ix.IndexType.number c.args.n) in
    subst P (sym c.self.view_is) c.requires.held

pub put_before-requires-clause-held : goal.put_before-requires-clause-held
put_before-requires-clause-held g c =
    let n : ℕ = g.Ix.IndexType.number c.args.n in
    let b : ℕ = g.Ix.IndexType.number c.args.b in
    let nodes : List ℕ = c.self.inside.links.nodes in
    let P : Stored → Type 0 = λ z. Contains z.nodes b in
    let Q : List ℕ → Type 0 = λ z. Contains z b in
    let R : ℕ → Type 0 = λ z. Contains c.take_out.new.links.nodes z in
    let there : Mem b (without n nodes) =
    mem_filter (λ x. not (eqb x n)) nodes b (contains_mem nodes b (subst P (sym c.self.view_is) c.requires.there))
    (is_held n b (λ e. c.requires.differ (sym e))) in
    subst R (sym c.of_node.ensures)
    (subst Q (sym c.take_out.ensures.nodes) (mem_contains (without n nodes) b there))

pub put_before-requires-clause-absent : goal.put_before-requires-clause-absent
put_before-requires-clause-absent g c h =
    let Q : ℕ → Type 0 = λ z. Contains c.take_out.new.links.nodes z in
    c.take_out.ensures.absent (subst Q c.of_node-2.ensures h)
