use Rattle.std.proofs.Common.{ℕ, List, length, inl, inr, sym, ap, subst, arith}
use Rattle.daggy_order.specs.Links.{LeadsTo, neighbor, nexts_of, previous_of}
use Rattle.daggy_order.proofs.Items.{labels_many}
use Rattle.daggy_order.proofs.list.links.join.Goals as goal

pub set_previous-requires : goal.set_previous-requires
set_previous-requires g c =
    elim c.requires.after [
      | inl e ↦ inl e
      | inr h ↦ inr (omega (
        arith,
        h,
        ap (λ (z : List ℕ). length z) c.set_next.ensures.labels,
        labels_many c.args.items.now.items,
        labels_many c.set_next.new.items.items,
        c.args.items.now.ok.0,
        c.set_next.new.items.ok.0,
      ))
    ]

pub returns-clause-next : goal.returns-clause-next
returns-clause-next g c =
    let E : ℕ = g.Ix.IndexType.greatest in
    let P : List ℕ → Type 0 = λ z.
    LeadsTo (neighbor E c.args.first.now (nexts_of c.args.items.now.items)) (neighbor E c.set_next.new.first z) c.args.p
    c.args.q in
    subst P (sym c.set_previous.ensures.next) c.set_next.ensures.next

pub returns-clause-previous : goal.returns-clause-previous
returns-clause-previous g c =
    let E : ℕ = g.Ix.IndexType.greatest in
    let P : List ℕ → Type 0 = λ z.
    LeadsTo (neighbor E c.args.last.now z)
    (neighbor E c.set_previous.new.last (previous_of c.set_previous.new.items.items)) c.args.q c.args.p in
    subst P c.set_next.ensures.previous c.set_previous.ensures.previous
