use Rattle.std.proofs.Common.{◌≡◌, ◌<◌, length, refl, subst, arith, rules, Contains}
use Rattle.std.specs.BinaryHeap.{heap_items, heap_len, heap_capacity}
use Rattle.std.specs.List.{AllByRecursion}
use Rattle.daggy_schedule.specs.LeastFirst.{Precedes}
use Rattle.daggy_schedule.specs.Entries.{Waiting, entries}
use Rattle.daggy_schedule.proofs.FirstTaken.{first_entry, first_of_all}
use Rattle.daggy_schedule.proofs.candidates.Candidates.first_key.Goals as goal

pub returns-clause-first : goal.returns-clause-first
returns-clause-first g c =
    let number = g.Ix.IndexType.number in
    let r = c.in_ok-first.first.now in
    let items = heap_items c.self.inside.heap in
    let size : heap_len c.self.inside.heap ≡ length items = search rules in
    let low : 0 < length items = omega (arith, size, c.in_ok-first.ensures.variant.0 refl) in
    let P : Waiting _ → Type 0 = λ z.
    Contains z.items (r.0.0, number r.0.1)
    × AllByRecursion (Precedes g.K.Ord.cmp (r.0.0, number r.0.1)) z.items in
    let here : P (record { items = entries number items; capacity = heap_capacity c.self.inside.heap }) = (
      first_entry number items r low c.in_ok-first.ensures.lookup,
      first_of_all g.met.K.Ord.total number r items
          (c.in_ok-first.ensures.greatest c.self.invariant),
    ) in
    let there = subst P c.self.view_is here in
    (number r.0.1, there.0, there.1)
