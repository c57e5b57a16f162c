use Rattle.std.proofs.Common.{◌≡◌, ◌-◌, ◌+◌, ℕ, List, [], ◌∷◌, ◌++◌, sym, ap, ◌∙◌, arith}
use Rattle.std.specs.List.{range_with_len}
use Rattle.daggy_base.proofs.Lists.{mem_contains}
use Rattle.daggy_order.specs.Links.{nodes_at}
use Rattle.daggy_order.proofs.OrderSteps.{at_in, at_rest, at_next, nodes_none}
use Rattle.daggy_order.proofs.Tails.{turn_first}
use Rattle.daggy_order.proofs.order.nodes.NodesIterator.next.Goals as goal

pub next-self-inside-requires : goal.next-self-inside-requires
next-self-inside-requires g c =
    mem_contains c.self.inside.list.now.nodes c.self.inside.at (at_in c.self.invariant.written c.if-self-eq0.false)

pub invariant_of-self : goal.invariant_of-self
invariant_of-self g c =
    record {
      written = c.self.invariant.written;
      real = omega (arith, c.self.invariant.real, c.if-self-eq0-2.false);
      few = omega (arith, c.self.invariant.few);
    }

pub invariant_of-self-2 : goal.invariant_of-self-2
invariant_of-self-2 g c =
    record {
      written =
          at_next c.self.invariant.written c.if-self-eq0.false c.next-self-inside.result c.next-self-inside.ensures;
      real = c.self.invariant.real;
      few = omega (arith, c.self.invariant.few);
    }

pub returns-then-self-eq0-clause-steps : goal.returns-then-self-eq0-clause-steps
returns-then-self-eq0-clause-steps g c =
    let nodes : List ℕ = c.self.inside.list.now.nodes in
    let ahead : List ℕ = range_with_len (c.self.inside.from + 1) (c.self.inside.count - 1) in
    let none : nodes_at c.self.inside.left c.self.inside.at nodes ≡ [] =
    nodes_none nodes c.self.inside.left c.self.inside.at c.if-self-eq0.true in
    sym c.self.view_is
    ∙ (ap (λ (z : List ℕ). z ++ range_with_len c.self.inside.from c.self.inside.count) none
    ∙ (turn_first c.self.inside.from c.self.inside.count c.if-self-eq0-2.false
    ∙ (ap (λ (z : ℕ). z ∷ ahead) (sym c.new-n.ensures.number)
    ∙ ap (λ (z : List ℕ). g.Ix.IndexType.number c.new-n.result ∷ (z ++ ahead)) (sym none))))

pub returns-clause-steps : goal.returns-clause-steps
returns-clause-steps g c =
    let nodes : List ℕ = c.self.inside.list.now.nodes in
    let ahead : List ℕ = range_with_len c.self.inside.from c.self.inside.count in
    let next : ℕ = c.next-self-inside.result in
    sym c.self.view_is
    ∙ (ap (λ (z : List ℕ). z ++ ahead)
    (at_rest c.self.invariant.written c.if-self-eq0.false next c.next-self-inside.ensures)
    ∙ ap (λ (z : ℕ). z ∷ (nodes_at (c.self.inside.left - 1) next nodes ++ ahead)) (sym c.node.ensures.value))
