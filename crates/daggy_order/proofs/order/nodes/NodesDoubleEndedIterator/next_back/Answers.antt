use Rattle.std.proofs.Common.{rules, ◌≡◌, ◌-◌, ◌+◌, ℕ, List, [], ◌∷◌, ◌++◌, length, sym, ap, ◌∙◌, arith, append_assoc}
use Rattle.std.proofs.lemmas.List.{length-append}
use Rattle.std.specs.List.{range_with_len}
use Rattle.daggy_order.specs.Links.{nodes_at}
use Rattle.daggy_order.proofs.OrderSteps.{at_previous}
use Rattle.daggy_order.proofs.Tails.{turn_more}
use Rattle.daggy_order.proofs.order.nodes.NodesDoubleEndedIterator.next_back.Goals as goal

pub invariant_of-self : goal.invariant_of-self
invariant_of-self g c =
    record {
      written =
          at_previous c.self.invariant.written c.if-self-eq0-2.false c.previous-self-inside.result
          c.previous-self-inside.ensures;
      real = c.self.invariant.real;
      few = omega (arith, c.self.invariant.few);
    }

pub returns-clause-steps : goal.returns-clause-steps
returns-clause-steps g c =
    let rest : List ℕ = nodes_at c.self.inside.left c.self.inside.at c.self.inside.list.now.nodes in
    let from : ℕ = c.self.inside.from in
    let less : ℕ = c.self.inside.count - 1 in
    let more : c.self.inside.count ≡ less + 1 = omega (arith, c.if-self-eq0.false) in
    sym c.self.view_is
    ∙ (ap (λ (z : List ℕ). rest ++ z)
    (turn_more from less c.self.inside.count (g.Ix.IndexType.number c.new.result) more c.new.ensures.number)
    ∙ sym (append_assoc rest (range_with_len from less) (g.Ix.IndexType.number c.new.result ∷ [])))

pub returns-clause-goes : goal.returns-clause-goes
returns-clause-goes g c =
    let ahead : List ℕ = range_with_len c.self.inside.from (c.self.inside.count - 1) in
    let rest : List ℕ = nodes_at c.self.inside.left c.self.inside.at c.self.inside.list.now.nodes ++ ahead in
    let last : List ℕ = g.Ix.IndexType.number c.new.result ∷ [] in
    let steps : c.args.self.now ≡ rest ++ last = returns-clause-steps g c in
    search (rules, ap (λ (z : List ℕ). length z) steps, length-append rest last)
