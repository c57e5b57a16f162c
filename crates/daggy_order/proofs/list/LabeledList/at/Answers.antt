use Rattle.std.proofs.Common.{◌≡◌, ℕ, List, length, get_or, ap, ◌∙◌, arith}
use Rattle.daggy_base.proofs.Lists.{mem_contains}
use Rattle.daggy_order.proofs.OrderSteps.{goes_none, goes_in, goes_more, goes_at}
use Rattle.daggy_order.specs.Links.{Stored}
use Rattle.daggy_order.proofs.list.LabeledList.at.Goals as goal

pub nodes-init : goal.nodes-init
nodes-init g c = goes_none g.Ix.IndexType.greatest c.self.inside.links.nodes c.first-at.result c.first-at.ensures

pub next-at-requires : goal.next-at-requires
next-at-requires g c =
    mem_contains c.self.inside.links.nodes c.nodes.at (goes_in c.nodes.invariant (omega (
      arith,
      c.nodes-test.true,
      c.requires,
      ap (λ (z : List ℕ). length z) (ap (λ (z : Stored). z.nodes) c.self.view_is),
    )))

pub nodes-preserved : goal.nodes-preserved
nodes-preserved g c =
    goes_more c.nodes.invariant (omega (
      arith,
      c.nodes-test.true,
      c.requires,
      ap (λ (z : List ℕ). length z) (ap (λ (z : Stored). z.nodes) c.self.view_is),
    )) c.next-at.result c.next-at.ensures

pub returns : goal.returns
returns g c =
    let ended : c.nodes._i ≡ c.args.place = omega (arith, c.nodes-test.false, c.nodes.auto._i-end) in
    let here =
    goes_at c.nodes.invariant
    (omega (arith, ended, c.requires, ap (λ (z : List ℕ). length z) (ap (λ (z : Stored). z.nodes) c.self.view_is))) in
    c.node.ensures.value
    ∙ (here
    ∙ (ap (λ k. get_or c.self.inside.links.nodes k 0) ended
    ∙ ap (λ (z : List ℕ). get_or z c.args.place 0) (ap (λ (z : Stored). z.nodes) c.self.view_is)))
