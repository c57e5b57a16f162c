use Rattle.std.proofs.Common.{List, ◌∷◌, ℕ, IsPermutation, inl, sym, subst}
use Rattle.std.proofs.lemmas.List.Sorted.{IsPermutation-to_front}
use Rattle.daggy_schedule.proofs.on_workers.workers.idle_worker.Goals as goal

pub returns-in-Some : goal.returns-in-Some
returns-in-Some c =
    let left = c.pop.new.self.items in
    let worker = c.in-Some.worker in
    let P : List ℕ → Type 0 = λ z. IsPermutation z (worker ∷ left) in
    inl (subst P (sym c.in-Some.ensures.items) (IsPermutation-to_front left worker))
