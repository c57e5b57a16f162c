use Rattle.std.proofs.Common.{rules, ◌≡◌, ◌∙◌, ◌++◌, ◌∷◌, [], refl, sym, ap, arith, length, vec_len}
use Rattle.std.proofs.lemmas.List.{nil_from_length, length_push}
use Rattle.daggy_traversal.proofs.OldestFirst.{all_popped, fits_set, pops_old, pops_left, pops_new, pops_among, pops_fewer}
use Rattle.daggy_traversal.proofs.OldestFirst.{pops_marked}
use Rattle.daggy_traversal.proofs.Marks.{marked_by}
use Rattle.daggy_traversal.proofs.dfs_oldest_first.pop_new.Given.{Over}
use Rattle.daggy_traversal.proofs.dfs_oldest_first.pop_new.Goals.{In_default}
use Rattle.daggy_traversal.proofs.dfs_oldest_first.pop_new.Goals as goal

pub nodes-init : goal.nodes-init
nodes-init g c = record {
  popping = record {
    left = refl;
    among = λ n a. a;
    fewer = omega arith;
    marked = c.requires.marked;
    sized = refl;
  };
  room = refl;
  same = refl;
}

pub visit-requires : goal.visit-requires
visit-requires g c =
    fits_set c.nodes.invariant.popping _ c.in-Some.ensures.items c.node-n.ensures.value c.requires.low

pub returns-then-visit-clause-next : goal.returns-then-visit-clause-next
returns-then-visit-clause-next g c =
    sym (pops_new c.nodes.invariant.popping _ c.in-Some.ensures.items c.node-n.ensures.value c.visit.ensures.answer
    _ c.visit.ensures.visited c.visit.ensures.bound c.if-visit.true)

pub returns-then-visit-clause-given : goal.returns-then-visit-clause-given
returns-then-visit-clause-given g c =
    c.push.ensures
    ∙ (ap (λ z. z ++ c.index.result ∷ []) c.nodes.invariant.same
    ∙ ap (λ z. c.args.given.now.nodes ++ z ∷ []) c.index.ensures.value)

pub returns-then-visit-clause-left : goal.returns-then-visit-clause-left
returns-then-visit-clause-left g c =
    pops_left c.nodes.invariant.popping _ c.in-Some.ensures.items c.node-n.ensures.value c.visit.ensures.answer
    _ c.visit.ensures.visited c.visit.ensures.bound c.if-visit.true

pub returns-then-visit-clause-among : goal.returns-then-visit-clause-among
returns-then-visit-clause-among g c =
    pops_among c.nodes.invariant.popping _ c.in-Some.ensures.items c.node-n.ensures.value c.visit.ensures.answer
    _ c.visit.ensures.visited c.visit.ensures.bound c.if-visit.true

pub returns-then-visit-clause-fewer : goal.returns-then-visit-clause-fewer
returns-then-visit-clause-fewer g c =
    pops_fewer c.nodes.invariant.popping _ c.in-Some.ensures.items c.node-n.ensures.value c.visit.ensures.answer
    _ c.visit.ensures.visited c.visit.ensures.bound c.if-visit.true

pub returns-then-visit-clause-marked : goal.returns-then-visit-clause-marked
returns-then-visit-clause-marked g c =
    pops_marked c.nodes.invariant.popping _ c.in-Some.ensures.items c.node-n.ensures.value c.visit.ensures.answer
    _ c.visit.ensures.visited c.visit.ensures.bound c.if-visit.true
    (c.push.ensures ∙ ap (λ z. z ++ c.index.result ∷ []) c.nodes.invariant.same) c.index.ensures.value

pub returns-then-visit-clause-bound : goal.returns-then-visit-clause-bound
returns-then-visit-clause-bound g c = c.visit.ensures.bound ∙ c.nodes.invariant.popping.sized

pub returns-then-visit-clause-room : goal.returns-then-visit-clause-room
returns-then-visit-clause-room g c = c.in-Some.ensures.capacity ∙ c.nodes.invariant.room

pub nodes-smaller : goal.nodes-smaller
nodes-smaller g c =
    omega (arith, ap (λ z. length z) c.in-Some.ensures.items, length_push c.pop.new.self.items c.in-Some.at)

pub nodes-preserved : goal.nodes-preserved
nodes-preserved g c = record {
  popping =
      pops_old c.nodes.invariant.popping _ c.in-Some.ensures.items c.node-n.ensures.value c.visit.ensures.answer
      _ c.visit.ensures.visited c.visit.ensures.bound c.if-visit.false;
  room = c.in-Some.ensures.capacity ∙ c.nodes.invariant.room;
  same = c.nodes.invariant.same;
}

-- nothing is left on the stack
over : (g : Over) (c : In_default g) → c.nodes.stack.items ≡ []
over g c =
    let size : vec_len c.nodes.stack ≡ length c.nodes.stack.items = search rules in
    nil_from_length c.nodes.stack.items (omega (arith, size, c.in_default.ensures.cases.0))

pub returns-clause-next : goal.returns-clause-next
returns-clause-next g c = sym (all_popped c.nodes.invariant.popping (over g c))

pub returns-clause-kept : goal.returns-clause-kept
returns-clause-kept g c = c.nodes.invariant.same

pub returns-clause-marked : goal.returns-clause-marked
returns-clause-marked g c = marked_by refl c.nodes.invariant.same c.nodes.invariant.popping.marked

pub returns-clause-bound : goal.returns-clause-bound
returns-clause-bound g c = c.nodes.invariant.popping.sized

pub returns-clause-room : goal.returns-clause-room
returns-clause-room g c = c.in_default.ensures.capacity ∙ c.nodes.invariant.room
