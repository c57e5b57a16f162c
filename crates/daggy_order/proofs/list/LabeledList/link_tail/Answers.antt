use Rattle.std.proofs.Common.{ℕ, List, ◌∙◌, ap, subst}
use Rattle.std.specs.List.{Contains}
use Rattle.daggy_order.specs.Links.{Stored}
use Rattle.daggy_order.proofs.Labelled.{labelled_grown}
use Rattle.daggy_order.proofs.list.LabeledList.link_tail.Goals as goal

pub put_run-requires-clause-labelled : goal.put_run-requires-clause-labelled
put_run-requires-clause-labelled g c =
    labelled_grown c.self.invariant c.use_memory.new.self.labels c.use_memory.new.self.nodes c.use_memory.ensures.nodes
    c.use_memory.ensures.labels

pub put_run-requires-clause-below : goal.put_run-requires-clause-below
put_run-requires-clause-below g c =
    λ n h.
    let P : List ℕ → Type 0 = λ z. Contains z n in
    c.requires.tailed.below n (subst P (c.use_memory.ensures.nodes ∙ ap (λ (z : Stored). z.nodes) c.self.view_is) h)
