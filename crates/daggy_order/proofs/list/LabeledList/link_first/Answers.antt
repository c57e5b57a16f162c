use Rattle.std.proofs.Common.{ℕ, List, ◌∙◌, ap, subst, arith}
use Rattle.std.specs.List.{Contains}
use Rattle.daggy_order.specs.Links.{Stored}
use Rattle.daggy_order.proofs.Labelled.{labelled_grown}
use Rattle.daggy_order.proofs.list.LabeledList.link_first.Goals as goal

pub put_first-requires-clause-labelled : goal.put_first-requires-clause-labelled
put_first-requires-clause-labelled g c =
    labelled_grown c.self.invariant c.use_memory.new.self.labels c.use_memory.new.self.nodes c.use_memory.ensures.nodes
    c.use_memory.ensures.labels

-- all nodes of the list are below the node of the tail
pub put_first-requires-clause-absent : goal.put_first-requires-clause-absent
put_first-requires-clause-absent g c h =
    let P : List ℕ → Type 0 = λ z. Contains z c.new.result in
    omega (
      arith,
      c.requires.tailed.below c.new.result
          (subst P (c.use_memory.ensures.nodes ∙ ap (λ (z : Stored). z.nodes) c.self.view_is) h),
      c.new.ensures,
    )
