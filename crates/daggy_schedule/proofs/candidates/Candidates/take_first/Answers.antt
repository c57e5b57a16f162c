use Rattle.std.proofs.Common.{◌∷◌, IsPermutation, subst}
use Rattle.std.proofs.lemmas.List.Sorted.{IsPermutation-map}
use Rattle.std.specs.BinaryHeap.{heap_items}
use Rattle.daggy_schedule.specs.Entries.{Waiting, entries}
use Rattle.daggy_schedule.proofs.FirstTaken.{first_of_all}
use Rattle.daggy_schedule.proofs.candidates.Candidates.take_first.Goals as goal

pub returns-clause-taken : goal.returns-clause-taken
returns-clause-taken g c =
    let number = g.Ix.IndexType.number in
    let first = c.in_ok-first.field-0 in
    let P : Waiting _ → Type 0 = λ z.
    IsPermutation z.items ((first.0.0, number first.0.1) ∷ entries number (heap_items c.pop.new.self)) in
    subst P c.self.view_is (IsPermutation-map (λ r. (r.0.0, number r.0.1)) _ _ c.in_ok-first.ensures.permutation)

pub returns-clause-first : goal.returns-clause-first
returns-clause-first g c =
    first_of_all g.met.K.Ord.total g.Ix.IndexType.number c.in_ok-first.field-0 (heap_items c.pop.new.self)
    (c.in_ok-first.ensures.below_top c.self.invariant)
