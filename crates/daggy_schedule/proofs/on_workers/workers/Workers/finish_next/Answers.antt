use Rattle.std.proofs.Common.{◌≡◌, ◌<◌, ◌∙◌, ◌++◌, ◌∷◌, [], ℕ, length, get_or, sym, ap, subst, arith, rules, refl, vec_len}
use Rattle.std.proofs.Common.{Contains}
use Rattle.std.proofs.lemmas.List.{get_or_default}
use Rattle.daggy_schedule.specs.LeastFirst.{nodes_of}
use Rattle.daggy_schedule.specs.Workers.{Progress, Finishes}
use Rattle.daggy_schedule.proofs.Workers.{taken_contains, first_low}
use Rattle.daggy_schedule.proofs.on_workers.workers.Workers.finish_next.Goals as goal

pub index-requires-2 : goal.index-requires-2
index-requires-2 g c =
    let first = c.in-Some.first in
    let n = g.Ix.IndexType.number first.1 in
    let P : Progress → Type 0 = λ z. (m : ℕ) → Contains (nodes_of z.running) m → m < length z.workers in
    let low = subst P (sym c.self.view_is) c.requires n
    (taken_contains c.self.inside.running.items c.take_first.new.self.items first.0 n c.in-Some.ensures.taken) in
    let size : vec_len c.self.inside.workers ≡ length c.self.inside.workers.items = search rules in
    omega (arith, low, size, c.index.ensures.value)

pub returns : goal.returns
returns g c =
    let first = c.in-Some.first in
    let n = g.Ix.IndexType.number first.1 in
    let P : Progress → Type 0 = λ z. (m : ℕ) → Contains (nodes_of z.running) m → m < length z.workers in
    let low = subst P (sym c.self.view_is) c.requires n
    (taken_contains c.self.inside.running.items c.take_first.new.self.items first.0 n c.in-Some.ensures.taken) in
    let workers = c.self.inside.workers.items in
    let read : c.index-2.result.now ≡ get_or workers n 0 =
    c.index-2.ensures
    ∙ (ap (λ z. get_or workers z c.index-2.result.now) c.index.ensures.value
    ∙ get_or_default workers n c.index-2.result.now 0 low) in
    let now : Progress = record {
      waiting = c.self.inside.waiting.items;
      running = c.take_first.new.self.items;
      free = c.push.new.self.items;
      starts = c.self.inside.starts.items;
      workers = workers;
      now = first.0;
    } in
    let Q : Progress → Type 0 = λ z. Finishes n z now in
    subst Q c.self.view_is (record {
      taken = c.in-Some.ensures.taken;
      first = first_low (first.0, n) c.take_first.new.self.items c.in-Some.ensures.first;
      free = c.in_ok-push.ensures.items ∙ ap (λ z. c.self.inside.free.items ++ z ∷ []) read;
      waiting = refl;
      starts = refl;
      workers = refl;
    })
