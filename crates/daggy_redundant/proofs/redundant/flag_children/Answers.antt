use Rattle.std.proofs.Common.{◌≡◌, ◌<◌, ℕ, [], ◌∷◌, false, true, map, take, set, get_or, length, subst, ap, arith}
use Rattle.daggy_base.specs.Graph.{Graph}
use Rattle.daggy_base.proofs.OutEdgesRead.{below_bound}
use Rattle.daggy_search.specs.Work.{Work}
use Rattle.daggy_redundant.specs.Closure.{IsClosure}
use Rattle.daggy_redundant.specs.Flags.{FlagsMarked}
use Rattle.daggy_redundant.proofs.FlaggedRedundant.{one_queued, flags_round, first_put}
use Rattle.daggy_redundant.proofs.redundant.flag_children.Given.{Over}
use Rattle.daggy_redundant.proofs.redundant.flag_children.Goals.{After-begin, After-enqueue-len}
use Rattle.daggy_redundant.proofs.redundant.flag_children.Goals as goal

low : (g : Over) (c : After-begin g) → g.Ix.IndexType.number c.args.u < c.args.work.now.size
low g c =
    omega (
      arith,
      below_bound (g.S.EdgeSource.graph c.args.source.now).nodes (g.Ix.IndexType.number c.args.u) c.requires.exists,
      c.requires.fits,
    )

-- the node alone is entered, and stands in the queue
record IsOne (begun work : Work) (n len : ℕ) : Type 0 where
  is : work ≡ record begun { entered = set begun.entered n true; nodes = set begun.nodes 0 n }
  queue_is : take len work.nodes ≡ n ∷ []
  len_is : len ≡ 1

one : (g : Over) (c : After-enqueue-len g)
    → IsOne c.begin.new.self c.enqueue-len.new.work (g.Ix.IndexType.number c.args.u) c.enqueue-len.result
one g c =
    let n = g.Ix.IndexType.number c.args.u in
    let new = c.enqueue-len.ensures.put (c.begin.ensures.cleared.none_entered n) in
    let some : 0 < length c.begin.new.self.nodes =
    omega (
      arith,
      below_bound (g.S.EdgeSource.graph c.args.source.now).nodes n c.requires.exists,
      c.requires.fits,
      c.begin.ensures.sized.nodes_are,
    ) in
    record {
      is = new.0;
      queue_is = first_put c.begin.new.self.nodes c.enqueue-len.new.work.nodes n c.enqueue-len.result some
          (ap (λ (w : Work). w.nodes) new.0) new.1;
      len_is = new.1;
    }

pub enqueue-len-requires-clause-low : goal.enqueue-len-requires-clause-low
enqueue-len-requires-clause-low g c =
    omega (arith, low g (goal.at.enqueue-len-requires-clause-low g c).After-begin, c.begin.ensures.sized.entered_are)

pub enqueue-len-requires-clause-room : goal.enqueue-len-requires-clause-room
enqueue-len-requires-clause-room g c _ =
    omega (arith, low g (goal.at.enqueue-len-requires-clause-room g c).After-begin, c.begin.ensures.sized.nodes_are)

pub bfs-requires-clause-within : goal.bfs-requires-clause-within
bfs-requires-clause-within g c =
    let at = goal.at.bfs-requires-clause-within g c in
    let is = one g at.After-enqueue-len in
    omega (
      arith,
      low g at.After-begin,
      is.len_is,
      ap (λ (w : Work). w.size) is.is,
      c.begin.ensures.sized.size_is,
    )

pub bfs-requires-clause-queued : goal.bfs-requires-clause-queued
bfs-requires-clause-queued g c =
    let at = goal.at.bfs-requires-clause-queued g c in
    let is = one g at.After-enqueue-len in
    rw (is.queue_is, is.is)
    (one_queued (g.S.EdgeSource.graph c.args.source.now) (g.Ix.IndexType.number c.args.u) c.begin.new.self.entered
    c.requires.exists (omega (arith, low g at.After-begin, c.begin.ensures.sized.entered_are))
    c.begin.ensures.cleared.none_entered)

pub returns-clause-flagged : goal.returns-clause-flagged
returns-clause-flagged g c =
    let n = g.Ix.IndexType.number c.args.u in
    let is = one g (goal.at.returns-clause-flagged g c).After-enqueue-len in
    let unmarked : (k : ℕ) → get_or c.enqueue-len.new.work.marked k false ≡ false =
    rw is.is c.begin.ensures.cleared.none_marked in
    let flags = map g.Ix.IndexType.number in
    let F : Graph g.row.S-NodeWeight.Denot g.row.S-EdgeWeight.Denot → Type 0 = λ z.
    FlagsMarked g.Ix.IndexType.greatest z n c.bfs.new.work.marked (flags c.args.flags.now)
    (flags c.flag_marked.new.flags) in
    let closure = take c.bfs.result c.bfs.new.work.nodes in
    let closed : IsClosure (g.S.EdgeSource.graph c.args.source.now) (n ∷ []) closure =
    rw (← is.queue_is) c.bfs.ensures.closed in
    flags_round c.requires.well_formed c.requires.acyclic closed
    c.enqueue-len.new.work.marked c.bfs.new.work.marked unmarked c.bfs.ensures.met (flags c.args.flags.now)
    (flags c.flag_marked.new.flags) (subst F c.bfs.ensures.same c.flag_marked.ensures.flagged)
