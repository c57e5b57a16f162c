use Rattle.std.proofs.Common.{rules, ◌≡◌, ap, refl, sym, ◌∙◌, arith, length, vec_len, ◌++◌, ◌∷◌, []}
use Rattle.std.proofs.lemmas.List.{nil_from_length, length_push}
use Rattle.daggy_traversal.specs.Depth.{ahead}
use Rattle.daggy_traversal.proofs.Descending.{Descending, all_given, goes_up, goes_up_smaller, neighbor_within}
use Rattle.daggy_traversal.proofs.Descending.{goes_down_to, goes_down_room, goes_down_marked, goes_down}
use Rattle.daggy_traversal.proofs.dfs.advance.Given.{Over}
use Rattle.daggy_traversal.proofs.dfs.advance.Goals.{At-steps}
use Rattle.daggy_traversal.proofs.dfs.advance.Goals as goal

-- how far the cursors are
so_far : (g : Over) (c : At-steps g) → Descending c.args.dir (g.S.EdgeSource.graph c.args.graph.now)
    c.args.given.now.nodes (ahead c.args.dir (g.S.EdgeSource.graph c.args.graph.now) c.args.cursors.now.items)
    (length c.args.met.now) c.steps.met c.steps.cursors.items
so_far g c =
    let i = c.steps.invariant in
    record { left = i.left; few = i.few; marked = i.marked; sized = i.sized }

pub visit-new-requires : goal.visit-new-requires
visit-new-requires g c =
    neighbor_within c.invariant.ensures.well_formed (so_far g (goal.at.visit-new-requires g c).At-steps)
    c.requires.bound c.pop.new.self.items c.in-Some.at c.in-Some.ensures.items c.edge.ensures.value _ _
    c.in-Some-next_new.ensures.exists (c.in-Some-next_new.ensures.some _ c.steps.invariant.marked)

pub push_cursor-requires : goal.push_cursor-requires
push_cursor-requires g c =
    let room = goes_down_room c.invariant.ensures.well_formed
    (so_far g (goal.at.push_cursor-requires g c).At-steps) c.requires.bound
    c.pop.new.self.items c.in-Some.at c.in-Some.ensures.items c.edge.ensures.value _ _
    c.in-Some-next_new.ensures.exists (c.in-Some-next_new.ensures.some _ c.steps.invariant.marked) in
    record {
      room = omega (
        arith,
        room,
        ap (λ z. length z) c.in-Some.ensures.items,
        length_push c.pop.new.self.items c.in-Some.at,
        c.push_rest.ensures.few,
        c.push_rest.ensures.capacity,
        c.steps.invariant.room,
        c.in-Some.ensures.capacity,
      );
    }

pub returns-in-Some-next_new-clause-next : goal.returns-in-Some-next_new-clause-next
returns-in-Some-next_new-clause-next g c =
    sym (goes_down_to c.invariant.ensures.well_formed
    (so_far g (goal.at.returns-in-Some-next_new-clause-next g c).At-steps) c.requires.bound
    c.pop.new.self.items c.in-Some.at c.in-Some.ensures.items c.edge.ensures.value _ _
    c.in-Some-next_new.ensures.exists (c.in-Some-next_new.ensures.some _ c.steps.invariant.marked)
    c.push_rest.new.cursors.items c.push_rest.ensures.ahead)

pub returns-in-Some-next_new-clause-left : goal.returns-in-Some-next_new-clause-left
returns-in-Some-next_new-clause-left g c =
    goes_down c.invariant.ensures.well_formed
    (so_far g (goal.at.returns-in-Some-next_new-clause-left g c).At-steps) c.requires.bound
    c.pop.new.self.items c.in-Some.at c.in-Some.ensures.items c.edge.ensures.value _ _
    c.in-Some-next_new.ensures.exists (c.in-Some-next_new.ensures.some _ c.steps.invariant.marked)
    c.push_rest.new.cursors.items c.push_rest.ensures.ahead
    (c.push.ensures ∙ ap (λ z. z ++ c.index.result ∷ []) c.steps.invariant.same) c.index.ensures.value
    c.push_cursor.new.cursors.items (g.Ix.IndexType.number c.first_edge.result)
    c.push_cursor.ensures.ahead c.first_edge.ensures

pub returns-in-Some-next_new-clause-marked : goal.returns-in-Some-next_new-clause-marked
returns-in-Some-next_new-clause-marked g c =
    goes_down_marked c.invariant.ensures.well_formed
    (so_far g (goal.at.returns-in-Some-next_new-clause-marked g c).At-steps) c.requires.bound
    c.pop.new.self.items c.in-Some.at c.in-Some.ensures.items c.edge.ensures.value _ _
    c.in-Some-next_new.ensures.exists (c.in-Some-next_new.ensures.some _ c.steps.invariant.marked)
    c.push_rest.new.cursors.items c.push_rest.ensures.ahead
    (c.push.ensures ∙ ap (λ z. z ++ c.index.result ∷ []) c.steps.invariant.same) c.index.ensures.value
    c.visit-new.new.self c.visit-new.ensures.visited

pub steps-smaller : goal.steps-smaller
steps-smaller g c =
    goes_up_smaller c.invariant.ensures.well_formed (so_far g (goal.at.steps-smaller g c).At-steps) c.requires.bound
    c.pop.new.self.items c.in-Some.at c.in-Some.ensures.items c.edge.ensures.value refl

pub steps-preserved : goal.steps-preserved
steps-preserved g c =
    let up = goes_up c.invariant.ensures.well_formed (so_far g (goal.at.steps-preserved g c).At-steps) c.requires.bound
    c.pop.new.self.items c.in-Some.at c.in-Some.ensures.items c.edge.ensures.value
    (c.in_default-next_new.ensures.none _ c.steps.invariant.marked) refl in
    record {
      left = up.left;
      few = up.few;
      marked = up.marked;
      sized = up.sized;
      room = omega (arith, c.steps.invariant.room, c.in-Some.ensures.capacity);
      same = c.steps.invariant.same;
    }

pub returns-clause-next : goal.returns-clause-next
returns-clause-next g c =
    let size : vec_len c.steps.cursors ≡ length c.steps.cursors.items = search rules in
    sym (all_given (so_far g (goal.at.returns-clause-next g c).At-steps) (nil_from_length c.steps.cursors.items
    (omega (arith, size, c.in_default.ensures.cases.0))))
