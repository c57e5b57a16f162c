use Rattle.std.proofs.Common.{ℕ, List, sym, ap, subst, ◌∙◌, arith}
use Rattle.daggy_base.proofs.Lists.{Mem, contains_mem, mem_contains}
use Rattle.daggy_base.specs.Ordered.{place}
use Rattle.daggy_order.proofs.OrderSteps.{seeks_none, goes_in, sought, seeks_more, sought_all}
use Rattle.daggy_order.specs.Links.{Stored}
use Rattle.daggy_order.proofs.list.LabeledList.place.Goals as goal

pub nodes-init : goal.nodes-init
nodes-init g c =
    seeks_none g.Ix.IndexType.greatest c.self.inside.links.nodes c.index-i.result c.first-at.result c.first-at.ensures

pub next-at-requires : goal.next-at-requires
next-at-requires g c =
    mem_contains c.self.inside.links.nodes c.nodes.at
    (goes_in c.nodes.invariant.on (omega (arith, c.nodes-test.true, c.len-place-end.ensures.value)))

pub returns-then-index-i : goal.returns-then-index-i
returns-then-index-i g c =
    let found =
    sought c.nodes.invariant (omega (arith, c.nodes-test.true, c.len-place-end.ensures.value))
    (sym c.index.ensures.value ∙ c.if-index-i.true) in
    sym (ap (place c.args.self.now.nodes) (sym c.index-i.ensures.value)
    ∙ (ap (λ (z : List ℕ). place z c.index-i.result) (sym (ap (λ (z : Stored). z.nodes) c.self.view_is)) ∙ found))

pub nodes-preserved : goal.nodes-preserved
nodes-preserved g c =
    seeks_more c.nodes.invariant (omega (arith, c.nodes-test.true, c.len-place-end.ensures.value)) c.next-at.result
    (λ e. c.if-index-i.false (c.index.ensures.value ∙ e)) c.next-at.ensures

pub returns : goal.returns
returns g c =
    let P : List ℕ → Type 0 = λ z. Mem (g.Ix.IndexType.number c.args.n) z in
    let Q : ℕ → Type 0 = λ z. Mem z c.self.inside.links.nodes in
    absurd (sought_all c.nodes.invariant (omega (arith, c.nodes-test.false, c.len-place-end.ensures.value))
    (subst Q (sym c.index-i.ensures.value) (subst P (sym (ap (λ (z : Stored). z.nodes) c.self.view_is))
    (contains_mem c.args.self.now.nodes (g.Ix.IndexType.number c.args.n) c.requires))))
