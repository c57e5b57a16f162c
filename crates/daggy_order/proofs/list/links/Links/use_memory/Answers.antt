use Rattle.std.proofs.Common.{◌≤◌, ◌∙◌, ap, get_or, arith, length}
use Rattle.daggy_order.specs.Links.{Listed, nexts_of, previous_of}
use Rattle.daggy_order.proofs.Items.{previous_many, same_nexts, same_previous, same_labels}
use Rattle.daggy_order.proofs.LinkedNodes.{Keeps, grown}
use Rattle.daggy_order.proofs.list.links.Links.use_memory.Given.{Over}
use Rattle.daggy_order.proofs.list.links.Links.use_memory.Goals.{After-lengthen-done}
use Rattle.daggy_order.proofs.list.links.Links.use_memory.Goals as goal

-- the links lead over the same nodes
still : (g : Over) (c : After-lengthen-done g)
    → Keeps g.Ix.IndexType.greatest (record {
      next = nexts_of c.lengthen-done.new.items.items;
      previous = previous_of c.lengthen-done.new.items.items;
      first = c.self.inside.first;
      last = c.self.inside.last;
    }) c.self.inside.count c.args.self.now.nodes
still g c =
    let E = g.Ix.IndexType.greatest in
    let old = c.self.inside.items.items in
    let new = c.lengthen-done.new.items.items in
    let long : length (previous_of old) ≤ length (previous_of new) =
    omega (
      arith,
      previous_many old,
      previous_many new,
      c.lengthen-done.ensures.longer,
      c.self.inside.items.ok.0,
      c.lengthen-done.new.items.ok.0,
    ) in
    grown c.self.inside.count (nexts_of new) (previous_of new) c.self.invariant
    (ap (λ (z : Listed). z.nodes) c.self.view_is) long (same_nexts E old new c.lengthen-done.ensures.same)
    (same_previous E old new c.lengthen-done.ensures.same)

pub invariant_of-self : goal.invariant_of-self
invariant_of-self g c = (still g (goal.at.invariant_of-self g c).After-lengthen-done).linked

pub returns-then-len-bound-clause-nodes : goal.returns-then-len-bound-clause-nodes
returns-then-len-bound-clause-nodes g c = (still g (goal.at.returns-then-len-bound-clause-nodes g c).After-lengthen-done).same

pub returns-then-len-bound-clause-labels : goal.returns-then-len-bound-clause-labels
returns-then-len-bound-clause-labels g c = λ k.
    same_labels g.Ix.IndexType.greatest c.self.inside.items.items c.lengthen-done.new.items.items c.lengthen-done.ensures.same k
    ∙ ap (λ (z : Listed). get_or z.labels k 0) c.self.view_is
