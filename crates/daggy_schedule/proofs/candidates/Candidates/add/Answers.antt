use Rattle.std.proofs.Common.{◌∷◌, IsPermutation, subst}
use Rattle.std.proofs.lemmas.List.Sorted.{IsPermutation-map}
use Rattle.std.specs.BinaryHeap.{heap_items}
use Rattle.daggy_schedule.specs.Entries.{Waiting, entries}
use Rattle.daggy_schedule.proofs.candidates.Candidates.add.Goals as goal

pub returns : goal.returns
returns g c =
    let number = g.Ix.IndexType.number in
    let P : Waiting _ → Type 0 = λ z.
    IsPermutation ((c.args.key, number c.args.n) ∷ z.items) (entries number (heap_items c.push.new.self)) in
    subst P c.self.view_is (IsPermutation-map (λ r. (r.0.0, number r.0.1)) _ _ c.in_ok-push.ensures.permutation)
