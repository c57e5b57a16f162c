use Rattle.std.proofs.Common.{◌≡◌, ℕ, List, ◌++◌, ◌∷◌, length, get_or, take, arith, sym, ap, subst, ◌∙◌}
use Rattle.std.specs.List.Sorted.{IsNonDecreasingBy}
use Rattle.std.proofs.lemmas.List.{length-take-le, get_or-take}
use Rattle.daggy_base.specs.Cursor.{first_of}
use Rattle.daggy_base.proofs.Lists.{Mem, Unique, mem_mid, mem_contains, unique_from_distinct}
use Rattle.daggy_order.specs.Links.{Stored, HasGap, IsLabelled, IsMoved, StandBefore, without_all}
use Rattle.daggy_base.proofs.Sorted.{distinct_from_unique}
use Rattle.daggy_order.proofs.SortedByLabel.{once_sorted, sorted_in, sorted_stand, sorted_moved, sorted_gap}
use Rattle.daggy_order.proofs.SortedByLabel.{sorted_labelled, first_of_run, first_of_none}
use Rattle.daggy_order.proofs.list.LabeledList.move_after.Goals as goal
use Rattle.daggy_order.proofs.list.LabeledList.move_after.Given.{Over}
use Rattle.daggy_order.proofs.list.LabeledList.move_after.Goals.{After-self, After-sort_front, After-put_all_after}
use Rattle.daggy_order.proofs.list.LabeledList.move_after.Goals.{then-count-eq0, else-count-eq0}

-- the nodes stand before a
stand : (g : Over) (c : After-self g) → StandBefore c.self.inside.links.nodes c.args.a (take c.args.count c.args.work.now.nodes)
stand g c =
    let P : Stored → Type 0 = λ z. StandBefore z.nodes c.args.a (take c.args.count c.args.work.now.nodes) in
    subst P (sym c.self.view_is) c.requires.stand

-- the slice has each node once, in the order of the labels
sorted : (g : Over) (c : After-sort_front g)
    → Unique (take c.args.count c.args.work.now.nodes)
    × IsNonDecreasingBy (λ n. get_or c.self.inside.links.labels n 0) (take c.args.count c.sort_front.new.self.nodes)
sorted g c = (unique_from_distinct _ c.requires.distinct, c.sort_front.ensures.sorted)

-- after the move such a list stands behind a
moved_is : (g : Over) (c : After-put_all_after g) (h : StandBefore c.self.inside.links.nodes c.args.a (take c.args.count c.args.work.now.nodes))
    → Unique (take c.args.count c.args.work.now.nodes)
    × IsNonDecreasingBy (λ n. get_or c.self.inside.links.labels n 0) (take c.args.count c.sort_front.new.self.nodes)
    → c.put_all_after.new.links.nodes
    ≡ without_all (take c.args.count c.sort_front.new.self.nodes) h.before ++ c.args.a ∷ ((take c.args.count c.sort_front.new.self.nodes) ++ h.behind)
moved_is g c h up =
    c.put_all_after.ensures.moved h.before h.behind h.is
    (sorted_in c.self.invariant h up.0 _ c.sort_front.ensures.same up.1)

pub next-after-requires : goal.next-after-requires
next-after-requires g c =
    let h = stand g (goal.at.next-after-requires g c).After-self in
    let P : List ℕ → Type 0 = λ z. Mem c.args.a z in
    mem_contains c.self.inside.links.nodes c.args.a (subst P (sym h.is) (mem_mid h.before h.behind c.args.a))

pub put_all_after-requires-clause-stand : goal.put_all_after-requires-clause-stand
put_all_after-requires-clause-stand g c =
    let at = goal.at.put_all_after-requires-clause-stand g c in
    let up = sorted g at.After-sort_front in
    sorted_stand c.self.invariant (stand g at.After-self) up.0 _ c.sort_front.ensures.same up.1

pub put_all_after-requires-clause-distinct : goal.put_all_after-requires-clause-distinct
put_all_after-requires-clause-distinct g c =
    let at = goal.at.put_all_after-requires-clause-distinct g c in
    let up = sorted g at.After-sort_front in
    distinct_from_unique _
    (once_sorted c.self.invariant (stand g at.After-self) up.0 _ c.sort_front.ensures.same up.1)

pub relabel_run-requires : goal.relabel_run-requires
relabel_run-requires g c =
    let at = goal.at.relabel_run-requires g c in
    let h = stand g at.After-self in
    let ys : List ℕ = (take c.args.count c.sort_front.new.self.nodes) in
    let up = sorted g at.After-sort_front in
    let is = moved_is g at.After-put_all_after h up in
    let E : ℕ = g.Ix.IndexType.greatest in
    let after = c.next-after.ensures h.before h.behind h.is in
    let long : length ys ≡ c.args.count =
    omega (arith, length-take-le c.args.count c.sort_front.new.self.nodes (omega (arith, c.requires.within, c.sort_front.ensures.kept))) in
    let from : c.if-count-eq0.from ≡ first_of E (ys ++ h.behind) = elim c.if-count-eq0.branch [
      | then-count-eq0 w ↦ w.from-is ∙ first_of_none E ys h.behind c.next-after.result (long ∙ w.if-count-eq0.true) after
      | else-count-eq0 w ↦
          w.from-is
          ∙ first_of_run E ys h.behind w.node-from.result (λ e. w.if-count-eq0.false (sym long ∙ e))
          (w.node-from.ensures w.node-from.result
          ∙ sym (get_or-take c.args.count c.sort_front.new.self.nodes 0 w.node-from.result
          (omega (arith, w.if-count-eq0.false))))
    ] in
    let P : List ℕ → Type 0 = λ z.
    HasGap E z c.put_all_after.new.links.nodes c.args.a c.if-count-eq0.from c.args.count c.next-after.result in
    subst P (sym c.put_all_after.ensures.labels)
    (sorted_gap c.self.invariant h up.0 _ c.sort_front.ensures.same up.1 _ is E c.if-count-eq0.from c.args.count
    c.next-after.result long from after)

pub invariant_of-self : goal.invariant_of-self
invariant_of-self g c =
    let at = goal.at.invariant_of-self g c in
    let h = stand g at.After-self in
    let up = sorted g at.After-sort_front in
    let P : List ℕ → Type 0 = λ z. IsLabelled c.relabel_run.new.self.labels z in
    subst P (sym c.relabel_run.ensures.nodes)
    (sorted_labelled c.self.invariant h up.0 _ c.sort_front.ensures.same up.1 _
    (moved_is g at.After-put_all_after h up) c.relabel_run.new.self.labels c.relabel_run.ensures.ascending
    (λ n d. c.relabel_run.ensures.others n d ∙ ap (λ (z : List ℕ). get_or z n 0) c.put_all_after.ensures.labels))

pub returns-clause-moved : goal.returns-clause-moved
returns-clause-moved g c =
    let at = goal.at.returns-clause-moved g c in
    let h = stand g at.After-self in
    let up = sorted g at.After-sort_front in
    let P : List ℕ → Type 0 = λ z. IsMoved c.args.a (take c.args.count c.args.work.now.nodes) c.args.self.now.nodes z in
    let Q : Stored → Type 0 = λ z. IsMoved c.args.a (take c.args.count c.args.work.now.nodes) z.nodes c.put_all_after.new.links.nodes in
    subst P (sym c.relabel_run.ensures.nodes)
    (subst Q c.self.view_is (sorted_moved c.self.invariant h up.0 _ c.sort_front.ensures.same up.1 _
    (moved_is g at.After-put_all_after h up)))
