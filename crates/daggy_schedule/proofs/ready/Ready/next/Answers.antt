use Rattle.std.proofs.Common.{◌≡◌, ◌∙◌, ◌<◌, ◌↔◌, ◌⊎◌, ℕ, true, length, set, arith, subst, rules, vec_len, refl, sym, inr, ◌+◌, drop, take}
use Rattle.std.proofs.Common.{◌∷◌, [], ap}
use Rattle.std.proofs.lemmas.Bool.{false≢true}
use Rattle.daggy_schedule.specs.Work.{Work, IsSet, IsUnderWay}
use Rattle.daggy_schedule.proofs.Keeping.{hand_out, next_low, read_next, set_more, next_first, next_undone, handed_on}
use Rattle.daggy_schedule.proofs.ready.Ready.next.Goals as goal

pub index_mut-requires : goal.index_mut-requires
index_mut-requires g c =
    let k = c.self.invariant in
    let lt : c.self.inside.head < c.self.inside.tail = omega (arith, k.handed_low, c.if-self.false) in
    let is = read_next k lt c.index-2.result c.index.result.now (c.index-2.ensures.value ∙ c.node-n.ensures.value)
    c.index.ensures in
    let size : vec_len c.self.inside.out ≡ length c.self.inside.out.items = search rules in
    omega (arith, next_low k lt c.index-2.result is, size)

pub invariant_of-self : goal.invariant_of-self
invariant_of-self g c =
    let k = c.self.invariant in
    let lt : c.self.inside.head < c.self.inside.tail = omega (arith, k.handed_low, c.if-self.false) in
    let is = read_next k lt c.index-2.result c.index.result.now (c.index-2.ensures.value ∙ c.node-n.ensures.value)
    c.index.ensures in
    hand_out k lt c.index-2.result is

pub returns-clause-out : goal.returns-clause-out
returns-clause-out g c =
    let k = c.self.invariant in
    let lt : c.self.inside.head < c.self.inside.tail = omega (arith, k.handed_low, c.if-self.false) in
    let is = read_next k lt c.index-2.result c.index.result.now (c.index-2.ensures.value ∙ c.node-n.ensures.value)
    c.index.ensures in
    let low = next_low k lt c.index-2.result is in
    let out = c.self.inside.out.items in
    let n = c.index-2.result in
    let P : ℕ → Type 0 = λ z. (m : ℕ) → IsSet (set out n true) m ↔ (IsSet out m ⊎ (m ≡ z)) in
    let here = subst P c.index-2.ensures.value (set_more out n low) in
    let Q : Work → Type 0 = λ z. (m : ℕ) → IsSet (set out n true) m
    ↔ (IsSet z.out m ⊎ (m ≡ g.Ix.IndexType.number c.node-n.result)) in
    subst Q c.self.view_is here

pub returns-clause-is_out : goal.returns-clause-is_out
returns-clause-is_out g c =
    let k = c.self.invariant in
    let lt : c.self.inside.head < c.self.inside.tail = omega (arith, k.handed_low, c.if-self.false) in
    let is = read_next k lt c.index-2.result c.index.result.now (c.index-2.ensures.value ∙ c.node-n.ensures.value)
    c.index.ensures in
    let n = c.index-2.result in
    let out = c.self.inside.out.items in
    let done = c.self.inside.done.items in
    let P : ℕ → Type 0 = λ z. IsSet (set out n true) z × (IsSet done z → ⊥) in
    subst P c.index-2.ensures.value (
      (set_more out n (next_low k lt n is) n).1 (inr refl),
      next_undone k lt n is,
    )

pub returns-clause-under_way : goal.returns-clause-under_way
returns-clause-under_way g c =
    let k = c.self.invariant in
    let lt : c.self.inside.head < c.self.inside.tail = omega (arith, k.handed_low, c.if-self.false) in
    let is = read_next k lt c.index-2.result c.index.result.now (c.index-2.ensures.value ∙ c.node-n.ensures.value)
    c.index.ensures in
    let n = c.index-2.result in
    let waiting = c.self.inside.waiting.items in
    let queue = c.self.inside.queue.items in
    let head = c.self.inside.head in
    let tail = c.self.inside.tail in
    let out = c.self.inside.out.items in
    let done = c.self.inside.done.items in
    let old : Work = record { waiting = waiting; ready = drop head (take tail queue); out = out; done = done } in
    let new : Work = record {
      waiting = waiting;
      ready = drop (head + 1) (take tail queue);
      out = set out n true;
      done = done;
    } in
    let U : Work → Type 0 = λ z. IsUnderWay c.args.dag.now.graph z in
    let under = subst U (sym c.self.view_is) c.requires in
    handed_on old new n (next_first k lt n is) (set_more out n (next_low k lt n is)) refl refl under

pub returns-clause-first : goal.returns-clause-first
returns-clause-first g c =
    let k = c.self.invariant in
    let lt : c.self.inside.head < c.self.inside.tail = omega (arith, k.handed_low, c.if-self.false) in
    let is = read_next k lt c.index-2.result c.index.result.now (c.index-2.ensures.value ∙ c.node-n.ensures.value)
    c.index.ensures in
    let later = drop (c.self.inside.head + 1) (take c.self.inside.tail c.self.inside.queue.items) in
    let P : Work → Type 0 = λ z. z.ready ≡ g.Ix.IndexType.number c.node-n.result ∷ later in
    subst P c.self.view_is
    (next_first k lt c.index-2.result is ∙ ap (λ z. z ∷ later) c.index-2.ensures.value)

pub returns-clause-none : goal.returns-clause-none
returns-clause-none g c = (
  λ h. absurd (false≢true (sym h)),
  λ empty. (
      let later = drop (c.self.inside.head + 1) (take c.self.inside.tail c.self.inside.queue.items) in
      let none : g.Ix.IndexType.number c.node-n.result ∷ later ≡ [] = sym (returns-clause-first g c) ∙ empty in
      cc
      ),
)
