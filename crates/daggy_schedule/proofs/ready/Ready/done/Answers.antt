use Rattle.std.proofs.Common.{◌≡◌, ◌∙◌, ◌<◌, ◌↔◌, ◌⊎◌, ◌++◌, ℕ, true, inr, length, set, take, drop, sym, ap, arith}
use Rattle.std.proofs.Common.{subst, rules, vec_len}
use Rattle.daggy_base.specs.Graph.{Graph, HasNode, out_list}
use Rattle.daggy_base.specs.Ordered.{IsOrderOf}
use Rattle.daggy_schedule.specs.Work.{Work, IsSet, IsOut, IsUnderWay, released}
use Rattle.daggy_schedule.specs.Queue.{IsCounted}
use Rattle.daggy_schedule.proofs.Keeping.{set_more, done_low, finished_fits, kept_done, ready_more}
use Rattle.daggy_schedule.proofs.UnderWay.{under_way, done_counted, released_is, node_within, queued_begins}
use Rattle.daggy_schedule.proofs.ready.Ready.done.Goals as goal

pub index_mut-requires : goal.index_mut-requires
index_mut-requires g c =
    let n = c.index.result in
    let N = g.Ix.IndexType.number c.args.n in
    let done = c.self.inside.done.items in
    let out = c.self.inside.out.items in
    let head = c.self.inside.head in
    let tail = c.self.inside.tail in
    let queue = c.self.inside.queue.items in
    let graph = g.S.EdgeSource.graph c.graph-store.result.now in
    let is : n ≡ N = c.index.ensures.value in
    let W : Work → Type 0 = λ z. IsOut z N in
    let O : ℕ → Type 0 = λ m. IsSet out m × (IsSet done m → ⊥) in
    let given : O n = subst O (sym is) (subst W (sym c.self.view_is) c.requires.out) in
    let old : Work = record {
      waiting = c.self.inside.waiting.items;
      ready = drop head (take tail queue);
      out = out;
      done = done;
    } in
    let U : Work → Type 0 = λ z. IsUnderWay c.args.dag.now.graph z in
    let V : Graph _ _ → Type 0 = λ z. IsUnderWay z old in
    let under = subst V (sym c.graph-store.ensures.graph) (subst U (sym c.self.view_is) c.requires.under_way) in
    let k = c.self.invariant in
    let w = c.invariant.ensures.well_formed in
    let size : vec_len c.self.inside.done ≡ length done = search rules in
    omega (arith, done_low k n given.0 given.1, size)

pub overflow_add-self : goal.overflow_add-self
overflow_add-self g c =
    let n = c.index.result in
    let N = g.Ix.IndexType.number c.args.n in
    let done = c.self.inside.done.items in
    let out = c.self.inside.out.items in
    let head = c.self.inside.head in
    let tail = c.self.inside.tail in
    let queue = c.self.inside.queue.items in
    let graph = g.S.EdgeSource.graph c.graph-store.result.now in
    let is : n ≡ N = c.index.ensures.value in
    let W : Work → Type 0 = λ z. IsOut z N in
    let O : ℕ → Type 0 = λ m. IsSet out m × (IsSet done m → ⊥) in
    let given : O n = subst O (sym is) (subst W (sym c.self.view_is) c.requires.out) in
    let old : Work = record {
      waiting = c.self.inside.waiting.items;
      ready = drop head (take tail queue);
      out = out;
      done = done;
    } in
    let U : Work → Type 0 = λ z. IsUnderWay c.args.dag.now.graph z in
    let V : Graph _ _ → Type 0 = λ z. IsUnderWay z old in
    let under = subst V (sym c.graph-store.ensures.graph) (subst U (sym c.self.view_is) c.requires.under_way) in
    let k = c.self.invariant in
    let w = c.invariant.ensures.well_formed in
    let size : vec_len c.self.inside.queue ≡ length queue = search rules in
    omega (arith, finished_fits k n given.0 given.1, size)

pub release-self-inside-requires-clause-within : goal.release-self-inside-requires-clause-within
release-self-inside-requires-clause-within g c =
    let n = c.index.result in
    let done = c.self.inside.done.items in
    let out = c.self.inside.out.items in
    let head = c.self.inside.head in
    let tail = c.self.inside.tail in
    let queue = c.self.inside.queue.items in
    let old : Work = record {
      waiting = c.self.inside.waiting.items;
      ready = drop head (take tail queue);
      out = out;
      done = done;
    } in
    let U : Work → Type 0 = λ z. IsUnderWay c.args.dag.now.graph z in
    let V : Graph _ _ → Type 0 = λ z. IsUnderWay z old in
    let under = subst V (sym c.graph-store.ensures.graph) (subst U (sym c.self.view_is) c.requires.under_way) in
    let k = c.self.invariant in
    let w = c.invariant.ensures.well_formed in
    node_within w k under

pub release-self-inside-requires-clause-done : goal.release-self-inside-requires-clause-done
release-self-inside-requires-clause-done g c =
    let n = c.index.result in
    let N = g.Ix.IndexType.number c.args.n in
    let done = c.self.inside.done.items in
    let out = c.self.inside.out.items in
    let head = c.self.inside.head in
    let tail = c.self.inside.tail in
    let queue = c.self.inside.queue.items in
    let is : n ≡ N = c.index.ensures.value in
    let W : Work → Type 0 = λ z. IsOut z N in
    let O : ℕ → Type 0 = λ m. IsSet out m × (IsSet done m → ⊥) in
    let given : O n = subst O (sym is) (subst W (sym c.self.view_is) c.requires.out) in
    let old : Work = record {
      waiting = c.self.inside.waiting.items;
      ready = drop head (take tail queue);
      out = out;
      done = done;
    } in
    let k = c.self.invariant in
    (set_more done n (done_low k n given.0 given.1) N).1 (inr (sym is))

pub release-self-inside-requires-clause-counted : goal.release-self-inside-requires-clause-counted
release-self-inside-requires-clause-counted g c =
    let n = c.index.result in
    let N = g.Ix.IndexType.number c.args.n in
    let done = c.self.inside.done.items in
    let out = c.self.inside.out.items in
    let head = c.self.inside.head in
    let tail = c.self.inside.tail in
    let queue = c.self.inside.queue.items in
    let graph = g.S.EdgeSource.graph c.graph-store.result.now in
    let is : n ≡ N = c.index.ensures.value in
    let W : Work → Type 0 = λ z. IsOut z N in
    let O : ℕ → Type 0 = λ m. IsSet out m × (IsSet done m → ⊥) in
    let given : O n = subst O (sym is) (subst W (sym c.self.view_is) c.requires.out) in
    let old : Work = record {
      waiting = c.self.inside.waiting.items;
      ready = drop head (take tail queue);
      out = out;
      done = done;
    } in
    let U : Work → Type 0 = λ z. IsUnderWay c.args.dag.now.graph z in
    let V : Graph _ _ → Type 0 = λ z. IsUnderWay z old in
    let under = subst V (sym c.graph-store.ensures.graph) (subst U (sym c.self.view_is) c.requires.under_way) in
    let k = c.self.invariant in
    let w = c.invariant.ensures.well_formed in
    let P : ℕ → Type 0 = λ m. IsCounted graph (set done n true) (out_list graph m) c.self.inside.waiting.items
    (take tail queue) in
    subst P is (done_counted w k under n given.0 given.1)

pub invariant_of-self : goal.invariant_of-self
invariant_of-self g c =
    let n = c.index.result in
    let N = g.Ix.IndexType.number c.args.n in
    let done = c.self.inside.done.items in
    let out = c.self.inside.out.items in
    let head = c.self.inside.head in
    let tail = c.self.inside.tail in
    let queue = c.self.inside.queue.items in
    let is : n ≡ N = c.index.ensures.value in
    let W : Work → Type 0 = λ z. IsOut z N in
    let O : ℕ → Type 0 = λ m. IsSet out m × (IsSet done m → ⊥) in
    let given : O n = subst O (sym is) (subst W (sym c.self.view_is) c.requires.out) in
    let old : Work = record {
      waiting = c.self.inside.waiting.items;
      ready = drop head (take tail queue);
      out = out;
      done = done;
    } in
    let U : Work → Type 0 = λ z. IsUnderWay c.args.dag.now.graph z in
    let V : Graph _ _ → Type 0 = λ z. IsUnderWay z old in
    let under = subst V (sym c.graph-store.ensures.graph) (subst U (sym c.self.view_is) c.requires.under_way) in
    let k = c.self.invariant in
    let w = c.invariant.ensures.well_formed in
    let r = c.release-self-inside in
    let within = node_within w k under in
    let begins = queued_begins w r.ensures.counted in
    let now = kept_done k n given.0 given.1 r.new.waiting.items r.new.queue.items r.result r.ensures.waiting_long
    r.ensures.queue_long r.ensures.later r.ensures.low r.ensures.kept r.ensures.counted.once
    (λ m h. within m ((begins m).0 h).0) in
    now

pub returns-clause-done : goal.returns-clause-done
returns-clause-done g c =
    let n = c.index.result in
    let N = g.Ix.IndexType.number c.args.n in
    let done = c.self.inside.done.items in
    let out = c.self.inside.out.items in
    let head = c.self.inside.head in
    let tail = c.self.inside.tail in
    let queue = c.self.inside.queue.items in
    let is : n ≡ N = c.index.ensures.value in
    let W : Work → Type 0 = λ z. IsOut z N in
    let O : ℕ → Type 0 = λ m. IsSet out m × (IsSet done m → ⊥) in
    let given : O n = subst O (sym is) (subst W (sym c.self.view_is) c.requires.out) in
    let old : Work = record {
      waiting = c.self.inside.waiting.items;
      ready = drop head (take tail queue);
      out = out;
      done = done;
    } in
    let k = c.self.invariant in
    let P : ℕ → Type 0 = λ z. (m : ℕ) → IsSet (set done n true) m ↔ (IsSet done m ⊎ (m ≡ z)) in
    let here = subst P is (set_more done n (done_low k n given.0 given.1)) in
    let Q : Work → Type 0 = λ z. (m : ℕ) → IsSet (set done n true) m ↔ (IsSet z.done m ⊎ (m ≡ N)) in
    subst Q c.self.view_is here

pub returns-clause-ready : goal.returns-clause-ready
returns-clause-ready g c =
    let n = c.index.result in
    let N = g.Ix.IndexType.number c.args.n in
    let done = c.self.inside.done.items in
    let out = c.self.inside.out.items in
    let head = c.self.inside.head in
    let tail = c.self.inside.tail in
    let queue = c.self.inside.queue.items in
    let graph = g.S.EdgeSource.graph c.graph-store.result.now in
    let old : Work = record {
      waiting = c.self.inside.waiting.items;
      ready = drop head (take tail queue);
      out = out;
      done = done;
    } in
    let k = c.self.invariant in
    let w = c.invariant.ensures.well_formed in
    let r = c.release-self-inside in
    let all = r.ensures.queued ∙ ap (λ z. take tail queue ++ z) (released_is w r.ensures.counted N) in
    let here = ready_more head tail r.result queue r.new.queue.items (released graph (set done n true) N) k.handed_low
    k.queued_low all in
    let Q : Work → Type 0 = λ z. drop head (take r.result r.new.queue.items)
    ≡ z.ready ++ released graph (set done n true) N in
    let R : Graph _ _ → Type 0 = λ z. drop head (take r.result r.new.queue.items)
    ≡ c.args.self.now.ready ++ released z (set done n true) N in
    subst R c.graph-store.ensures.graph (subst Q c.self.view_is here)

pub returns-clause-under_way : goal.returns-clause-under_way
returns-clause-under_way g c =
    let n = c.index.result in
    let N = g.Ix.IndexType.number c.args.n in
    let done = c.self.inside.done.items in
    let out = c.self.inside.out.items in
    let head = c.self.inside.head in
    let tail = c.self.inside.tail in
    let queue = c.self.inside.queue.items in
    let graph = g.S.EdgeSource.graph c.graph-store.result.now in
    let is : n ≡ N = c.index.ensures.value in
    let W : Work → Type 0 = λ z. IsOut z N in
    let O : ℕ → Type 0 = λ m. IsSet out m × (IsSet done m → ⊥) in
    let given : O n = subst O (sym is) (subst W (sym c.self.view_is) c.requires.out) in
    let old : Work = record {
      waiting = c.self.inside.waiting.items;
      ready = drop head (take tail queue);
      out = out;
      done = done;
    } in
    let U : Work → Type 0 = λ z. IsUnderWay c.args.dag.now.graph z in
    let V : Graph _ _ → Type 0 = λ z. IsUnderWay z old in
    let under = subst V (sym c.graph-store.ensures.graph) (subst U (sym c.self.view_is) c.requires.under_way) in
    let k = c.self.invariant in
    let w = c.invariant.ensures.well_formed in
    let r = c.release-self-inside in
    let within = node_within w k under in
    let begins = queued_begins w r.ensures.counted in
    let now = kept_done k n given.0 given.1 r.new.waiting.items r.new.queue.items r.result r.ensures.waiting_long
    r.ensures.queue_long r.ensures.later r.ensures.low r.ensures.kept r.ensures.counted.once
    (λ m h. within m ((begins m).0 h).0) in
    let order = c.topological_order-order in
    let S : Graph _ _ → Type 0 = λ z. IsOrderOf z order.result in
    let ordered = subst S (sym c.graph-store.ensures.graph) order.ensures.ordered in
    let more : (m : ℕ) → HasNode graph m → m < length r.new.waiting.items =
    λ m h. omega (arith, within m h, r.ensures.waiting_long) in
    let T : Graph _ _ → Type 0 = λ z. IsUnderWay z (record {
      waiting = r.new.waiting.items;
      ready = drop head (take r.result r.new.queue.items);
      out = out;
      done = set done n true;
    }) in
    subst T c.graph-store.ensures.graph (under_way w now r.ensures.counted more order.result ordered)
