use Rattle.std.proofs.Common.{◌≡◌, ◌↔◌, ◌⊎◌, ◌≤◌, ℕ, [], true, inr, length, set, vec_len, refl, sym, subst, arith, rules}
use Rattle.daggy_schedule.specs.Work.{IsSet}
use Rattle.daggy_schedule.specs.ByKey.{KeyedWork, IsUnderWayByKey, TakesGreatest}
use Rattle.daggy_schedule.specs.KeyQueue.{turned_back, IsKeptByKey}
use Rattle.daggy_schedule.proofs.ByKeys.{shown, handed_low, handed_more, handed_undone, handed_kept, handed_under_way}
use Rattle.daggy_schedule.proofs.ByKeys.{takes_greatest, some_ready}
use Rattle.daggy_schedule.proofs.ready_by_key.ReadyByKey.next.Given.{Over}
use Rattle.daggy_schedule.proofs.ready_by_key.ReadyByKey.next.Goals.{After-index}
use Rattle.daggy_schedule.proofs.ready_by_key.ReadyByKey.next.Goals as goal

abbrev under_way : (g : Over) (c : After-index g)
    → IsUnderWayByKey c.args.dag.now.graph
    (shown c.self.inside.inner c.self.inside.later.items c.self.inside.candidates.items c.self.inside.out.items)
under_way g c =
    let P : KeyedWork _ → Type 0 = λ z. IsUnderWayByKey c.args.dag.now.graph z in subst P (sym c.self.view_is) c.requires

more : (g : Over) (c : After-index g) → (m : ℕ) → IsSet (set c.self.inside.out.items c.index.result true) m
    ↔ (IsSet c.self.inside.out.items m ⊎ (m ≡ g.Ix.IndexType.number c.in_ok-_key.n))
more g c =
    let n = g.Ix.IndexType.number c.in_ok-_key.n in
    let out = c.self.inside.out.items in
    let P : ℕ → Type 0 = λ z. (m : ℕ) → IsSet (set out z true) m ↔ (IsSet out m ⊎ (m ≡ n)) in
    subst P (sym c.index.ensures.value)
    (handed_more c.self.invariant (under_way g c) c.take_first.new.self.items c.in_ok-_key._key.0 n c.in_ok-_key.ensures.taken)

pub index_mut-requires : goal.index_mut-requires
index_mut-requires g c =
    let low = handed_low c.self.invariant (under_way g (goal.at.index_mut-requires g c).After-index) c.take_first.new.self.items
    c.in_ok-_key._key.0 (g.Ix.IndexType.number c.in_ok-_key.n) c.in_ok-_key.ensures.taken in
    let size : vec_len c.self.inside.out ≡ length c.self.inside.out.items = search rules in
    omega (arith, low, size, c.index.ensures.value)

pub invariant_of-self-2 : goal.invariant_of-self-2
invariant_of-self-2 g c =
    let left = c.take_first.new.self in
    let P : ℕ → Type 0 = λ z.
    IsKeptByKey c.self.inside.inner c.self.inside.later.items left.items left.capacity (set c.self.inside.out.items z true) in
    let large : c.self.inside.candidates.capacity ≤ left.capacity = omega (arith, c.in_ok-_key.ensures.capacity) in
    subst P (sym c.index.ensures.value)
    (handed_kept c.self.invariant (under_way g (goal.at.invariant_of-self-2 g c).After-index) left.items c.in_ok-_key._key.0
    (g.Ix.IndexType.number c.in_ok-_key.n) c.in_ok-_key.ensures.taken left.capacity large)

pub returns-clause-none : goal.returns-clause-none
returns-clause-none g c = (
  λ h. absurd cc,
  λ none. (
      let P : KeyedWork _ → Type 0 = λ z. z.ready ≡ [] in
      absurd (some_ready c.self.inside.candidates.items c.take_first.new.self.items c.in_ok-_key._key.0 (g.Ix.IndexType.number c.in_ok-_key.n)
      c.in_ok-_key.ensures.taken (subst P (sym c.self.view_is) none))
      ),
)

pub returns-clause-greatest : goal.returns-clause-greatest
returns-clause-greatest g c =
    let left = c.take_first.new.self.items in
    let n = g.Ix.IndexType.number c.in_ok-_key.n in
    let P : KeyedWork _ → Type 0 = λ z. TakesGreatest g.K.Ord.cmp n z.ready (turned_back left) in
    subst P c.self.view_is
    (takes_greatest g.met.K.Ord.total c.in_ok-_key._key.0 n c.self.inside.candidates.items left c.in_ok-_key.ensures.taken
    c.in_ok-_key.ensures.first)

pub returns-clause-out : goal.returns-clause-out
returns-clause-out g c =
    let P : KeyedWork _ → Type 0 = λ z. (m : ℕ) → IsSet (set c.self.inside.out.items c.index.result true) m
    ↔ (IsSet z.out m ⊎ (m ≡ g.Ix.IndexType.number c.in_ok-_key.n)) in
    subst P c.self.view_is (more g (goal.at.returns-clause-out g c).After-index)

pub returns-clause-is_out : goal.returns-clause-is_out
returns-clause-is_out g c =
    let at = (goal.at.returns-clause-is_out g c).After-index in
    let n = g.Ix.IndexType.number c.in_ok-_key.n in (
      (more g at n).1 (inr refl),
      handed_undone c.self.invariant (under_way g at) c.take_first.new.self.items c.in_ok-_key._key.0 n c.in_ok-_key.ensures.taken,
    )

pub returns-clause-under_way : goal.returns-clause-under_way
returns-clause-under_way g c =
    let left = c.take_first.new.self.items in
    let P : ℕ → Type 0 = λ z. IsUnderWayByKey c.args.dag.now.graph
    (shown c.self.inside.inner c.self.inside.later.items left (set c.self.inside.out.items z true)) in
    subst P (sym c.index.ensures.value)
    (handed_under_way c.self.invariant (under_way g (goal.at.returns-clause-under_way g c).After-index) left c.in_ok-_key._key.0
    (g.Ix.IndexType.number c.in_ok-_key.n) c.in_ok-_key.ensures.taken)
