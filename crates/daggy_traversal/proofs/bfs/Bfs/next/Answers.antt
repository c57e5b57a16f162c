use Rattle.std.proofs.Common.{rules, ◌≡◌, ◌∙◌, ◌<◌, ◌+◌, ◌∷◌, [], drop, length, vec_len, refl, sym, ap, arith}
use Rattle.std.proofs.lemmas.Bool.{false≢true}
use Rattle.daggy_traversal.proofs.Fresh.{first_in}
use Rattle.daggy_traversal.proofs.Breadth.{breadth_next, none_left, some_left, next_far, next_once, next_distance}
use Rattle.daggy_traversal.proofs.Breadth.{queue_over, head_waits, head_goes_on, head_found, seen, spreads}
use Rattle.daggy_traversal.proofs.Breadth.{breadth_kept, breadth_few}
use Rattle.daggy_traversal.specs.Breadth.{IsBreadthFirst}
use Rattle.daggy_traversal.proofs.bfs.Bfs.next.Given.{Over}
use Rattle.daggy_traversal.proofs.bfs.Bfs.next.Goals.{Then-self-len, After-meet_neighbors}
use Rattle.daggy_traversal.proofs.bfs.Bfs.next.Goals as goal

-- nothing waits
over : (g : Over) (c : Then-self-len g) → c.args.self.now.waiting ≡ []
over g c =
    let size : vec_len c.self.inside.queue ≡ length c.self.inside.queue.items = search rules in
    queue_over c.self.inside.queue.items c.self.inside.head c.self.view_is
    (omega (arith, size, c.len.ensures, c.if-self-len.true))

-- the node waits first
low : (g : Over) (c : After-meet_neighbors g) → c.self.inside.head < length c.self.inside.queue.items
low g c =
    let size : vec_len c.self.inside.queue ≡ length c.self.inside.queue.items = search rules in
    omega (arith, size, c.self.invariant.1, c.len.ensures, c.if-self-len.false)

waits : (g : Over) (c : After-meet_neighbors g) → c.args.self.now.waiting
    ≡ g.Ix.IndexType.number c.node-n.result ∷ drop (c.self.inside.head + 1) c.self.inside.queue.items
waits g c =
    head_waits c.invariant.ensures.well_formed (spreads c.invariant.ensures.well_formed c.requires) c.self.inside.queue.items c.self.inside.head c.self.view_is
    (low g c) c.index.ensures c.node-n.ensures.value

-- the walk after it gave the node
under_way : (g : Over) (c : After-meet_neighbors g) → IsBreadthFirst (g.S.EdgeSource.graph c.args.graph.now)
    (seen (g.Ix.IndexType.number c.self.inside.start) c.self.inside.dir c.meet_neighbors.new.queue.items
    (c.self.inside.head + 1) (length c.meet_neighbors.new.met))
under_way g c =
    let graph = g.S.EdgeSource.graph c.args.graph.now in
    let w = c.invariant.ensures.well_formed in
    breadth_kept (head_goes_on w (spreads w c.requires) c.self.inside.queue.items c.self.inside.head
    c.self.view_is (low g c) c.index.ensures c.node-n.ensures.value c.meet_neighbors.ensures.met
    c.meet_neighbors.ensures.bound)
    (head_found c.requires c.self.inside.queue.items c.self.inside.head c.self.view_is (low g c) c.index.ensures
    c.node-n.ensures.value (waits g c) c.meet_neighbors.ensures.met)

pub returns-then-self-len-clause-next : goal.returns-then-self-len-clause-next
returns-then-self-len-clause-next g c =
    sym (breadth_next c.invariant.ensures.well_formed (spreads c.invariant.ensures.well_formed c.requires) ∙ ap first_in (over g c))

pub returns-then-self-len-clause-none : goal.returns-then-self-len-clause-none
returns-then-self-len-clause-none g c = (
  λ _. none_left c.invariant.ensures.well_formed (spreads c.invariant.ensures.well_formed c.requires) (over g c),
  λ _. refl,
)

pub returns-clause-next : goal.returns-clause-next
returns-clause-next g c =
    sym (breadth_next c.invariant.ensures.well_formed (spreads c.invariant.ensures.well_formed c.requires) ∙ ap first_in (waits g c))

pub returns-clause-none : goal.returns-clause-none
returns-clause-none g c = (
  λ h. absurd (false≢true (sym h)),
  λ all. absurd (some_left c.invariant.ensures.well_formed (spreads c.invariant.ensures.well_formed c.requires) _ _ (waits g c) all),
)

pub returns-clause-reached : goal.returns-clause-reached
returns-clause-reached g c = next_far c.invariant.ensures.well_formed (spreads c.invariant.ensures.well_formed c.requires) _ _ (waits g c)

pub returns-clause-once : goal.returns-clause-once
returns-clause-once g c = next_once c.invariant.ensures.well_formed (spreads c.invariant.ensures.well_formed c.requires) _ _ (waits g c)

pub returns-clause-distance : goal.returns-clause-distance
returns-clause-distance g c = next_distance c.invariant.ensures.well_formed (spreads c.invariant.ensures.well_formed c.requires) _ _ (waits g c)

pub returns-clause-under_way : goal.returns-clause-under_way
returns-clause-under_way g c = under_way g c

pub returns-clause-few : goal.returns-clause-few
returns-clause-few g c = breadth_few c.invariant.ensures.well_formed (under_way g c)

pub returns-then-self-len-clause-few : goal.returns-then-self-len-clause-few
returns-then-self-len-clause-few g c = breadth_few c.invariant.ensures.well_formed c.requires
