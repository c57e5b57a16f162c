use Rattle.std.proofs.Common.{◌∷◌, OnOk, IsPermutation, subst}
use Rattle.std.proofs.lemmas.List.Sorted.{IsPermutation-map}
use Rattle.std.specs.BinaryHeap.{heap_items}
use Rattle.daggy_schedule.specs.Entries.{Waiting, entries}
use Rattle.daggy_schedule.proofs.candidates.Candidates.add_reserved.Goals as goal

pub returns-clause-added : goal.returns-clause-added
returns-clause-added g c =
    let number = g.Ix.IndexType.number in
    let O : _ → Type 0 = λ z. OnOk z (IsPermutation (record { 0 = (c.args.key, c.args.n) } ∷ heap_items c.self.inside.heap)
    (heap_items c.push.new.self)) in
    let pushed = subst O c.unwrap.ensures c.push.ensures.permutation in
    let P : Waiting _ → Type 0 = λ z.
    IsPermutation ((c.args.key, number c.args.n) ∷ z.items) (entries number (heap_items c.push.new.self)) in
    subst P c.self.view_is (IsPermutation-map (λ r. (r.0.0, number r.0.1)) _ _ pushed)
