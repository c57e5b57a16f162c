use Rattle.std.proofs.Common.{◌≡◌, ◌∙◌, ◌<◌, ◌++◌, ℕ, List, false, length, replicate, IsPermutation, sym, ap, subst, arith}
use Rattle.std.proofs.lemmas.Bool.{false≢true}
use Rattle.std.proofs.lemmas.List.{length-replicate}
use Rattle.std.proofs.lemmas.List.Sorted.{IsPermutation-map, All-permutation}
use Rattle.daggy_base.specs.Graph.{HasNode}
use Rattle.daggy_base.proofs.Lists.{mem_contains, contains_mem}
use Rattle.daggy_base.proofs.OutEdgesRead.{below_bound}
use Rattle.daggy_schedule.specs.LeastFirst.{IsKeyOf, nodes_of}
use Rattle.daggy_schedule.specs.Work.{IsSet}
use Rattle.daggy_schedule.specs.KeyQueue.{turned_back, keys_from}
use Rattle.daggy_schedule.proofs.ByKeys.{start_kept, start_under_way, start_ready}
use Rattle.daggy_schedule.proofs.KeysFrom.{keys_few}
use Rattle.daggy_schedule.proofs.Ordering.{mem_shuffled}
use Rattle.daggy_schedule.proofs.Starting.{resized, unset_by}
use Rattle.daggy_schedule.proofs.ready_by_key.ReadyByKey.new.Given.{Over}
use Rattle.daggy_schedule.proofs.ready_by_key.ReadyByKey.new.Goals.{After-gather}
use Rattle.daggy_schedule.proofs.ready_by_key.ReadyByKey.new.Goals as goal

outs : (g : Over) (c : After-gather g) → c.resize.new.self.items ≡ replicate c.len-bound.result false
outs g c = resized _ _ c.len-bound.result _ false c.new-out.ensures.items c.new-out.ensures.len c.in_ok-resize.ensures.items

unset : (g : Over) (c : After-gather g) → (n : ℕ) → IsSet c.resize.new.self.items n → ⊥
unset g c n o = false≢true (sym (unset_by c.resize.new.self.items c.len-bound.result (outs g c) n) ∙ o)

flagged : (g : Over) (c : After-gather g) → (n : ℕ) → HasNode c.args.dag.now.graph n → n < length c.resize.new.self.items
flagged g c n has =
    omega (
      arith,
      below_bound c.args.dag.now.graph.nodes n has,
      ap length (outs g c),
      length-replicate c.len-bound.result false,
      c.in_ok-later.ensures.sized,
      c.len-bound.ensures,
    )

taken : (g : Over) (c : After-gather g) → IsPermutation c.in_ok-inner.inner.ready (nodes_of c.gather.new.candidates.items)
taken g c =
    let P : List _ → Type 0 = λ z.
    IsPermutation (nodes_of z ++ c.in_ok-inner.inner.ready) (nodes_of c.gather.new.candidates.items) in
    subst P c.in_ok-candidates.ensures.none c.gather.ensures.taken

keys : (g : Over) (c : After-gather g) → IsPermutation (keys_from 0 c.in_ok-later.later.items)
    (turned_back c.gather.new.candidates.items ++ keys_from 0 c.gather.new.keys.items)
keys g c =
    let P : List _ → Type 0 = λ z. IsPermutation (turned_back z ++ keys_from 0 c.in_ok-later.later.items)
    (turned_back c.gather.new.candidates.items ++ keys_from 0 c.gather.new.keys.items) in
    subst P c.in_ok-candidates.ensures.none c.gather.ensures.keys

pub gather-requires-clause-keyed : goal.gather-requires-clause-keyed
gather-requires-clause-keyed g c n has _ = c.in_ok-later.ensures.each n has

pub gather-requires-clause-room : goal.gather-requires-clause-room
gather-requires-clause-room g c =
    omega (
      arith,
      ap length c.in_ok-candidates.ensures.none,
      keys_few 0 c.in_ok-later.later.items,
      c.in_ok-candidates.ensures.capacity,
      c.len-bound.ensures,
    )

pub invariant_of-result : goal.invariant_of-result
invariant_of-result g c =
    let more = c.gather.ensures in
    let first = c.in_ok-inner.ensures in
    start_kept more.under_way more.none_ready first.none_out first.under_way more.out more.done c.gather.new.candidates.items
    (taken g c) c.resize.new.self.items (unset g c) (flagged g c) c.gather.new.keys.items c.gather.new.candidates.capacity
    more.room

pub returns-clause-ready : goal.returns-clause-ready
returns-clause-ready g c =
    let more = c.gather.ensures in
    let first = c.in_ok-inner.ensures in
    let here = start_ready more.under_way more.none_ready first.none_out first.under_way more.out more.done
    c.gather.new.candidates.items (taken g c) c.resize.new.self.items (unset g c) (flagged g c) c.gather.new.keys.items
    c.gather.new.candidates.capacity more.room in
    let P : List ℕ → Type 0 = λ z. IsPermutation z (nodes_of (turned_back c.gather.new.candidates.items)) in
    subst P first.ready here

pub returns-clause-keys : goal.returns-clause-keys
returns-clause-keys g c =
    All-permutation (IsKeyOf g.Ix.IndexType.of (goal.F-post g) c.args.key c.args.dag.now.graph) _ _ (keys g c)
    c.in_ok-later.ensures.called

pub returns-clause-none_out : goal.returns-clause-none_out
returns-clause-none_out g c = unset g c

pub returns-clause-under_way : goal.returns-clause-under_way
returns-clause-under_way g c =
    let more = c.gather.ensures in
    let first = c.in_ok-inner.ensures in
    start_under_way more.under_way more.none_ready first.none_out first.under_way more.out more.done
    c.gather.new.candidates.items (taken g c) c.resize.new.self.items (unset g c) (flagged g c) c.gather.new.keys.items
    c.gather.new.candidates.capacity more.room (λ n has.
    mem_contains _ n (mem_shuffled _ _ n (IsPermutation-map (λ p. p.1) _ _ (keys g c))
    (contains_mem _ n (c.in_ok-later.ensures.each n has))))
