use Rattle.std.proofs.Common.{List, ◌≤◌, ◌≡◌, ◌<◌, ◌∙◌, ℕ, length, get_or, set, sym, ap, subst, arith, rules, refl, vec_len}
use Rattle.std.proofs.Common.{Contains}
use Rattle.daggy_schedule.specs.LeastFirst.{nodes_of}
use Rattle.daggy_schedule.specs.Workers.{Progress, Begins, IsTooLate, IsIdleWorker}
use Rattle.std.specs.List.{AllByRecursion}
use Rattle.daggy_schedule.proofs.Workers.{taken_contains, all_later}
use Rattle.daggy_schedule.proofs.on_workers.workers.Workers.begin_next.Goals.{in-Some+else-finish-self, in_default}
use Rattle.daggy_schedule.proofs.on_workers.workers.Workers.begin_next.Given.{Over}
use Rattle.daggy_schedule.proofs.on_workers.workers.Workers.begin_next.Goals.{After-index-i}
use Rattle.daggy_schedule.proofs.on_workers.workers.Workers.begin_next.Goals as goal

waited : (g : Over) (c : After-index-i g) → Contains (nodes_of c.self.inside.waiting.items) (g.Ix.IndexType.number c.in-Some-take_first.first.1)
waited g c =
    let first = c.in-Some-take_first.first in
    taken_contains c.self.inside.waiting.items c.take_first.new.self.items first.0 (g.Ix.IndexType.number first.1)
    c.in-Some-take_first.ensures.taken

low_durations : (g : Over) (c : After-index-i g) → g.Ix.IndexType.number c.in-Some-take_first.first.1 < length c.args.durations.now
low_durations g c =
    let P : Progress → Type 0 = λ z. (m : ℕ) → Contains (nodes_of z.waiting) m → m < length c.args.durations.now in
    subst P (sym c.self.view_is) c.requires.durations _ (waited g c)

low_starts : (g : Over) (c : After-index-i g) → g.Ix.IndexType.number c.in-Some-take_first.first.1 < length c.self.inside.starts.items
low_starts g c =
    let P : Progress → Type 0 = λ z. (m : ℕ) → Contains (nodes_of z.waiting) m → m < length z.starts in
    subst P (sym c.self.view_is) c.requires.starts _ (waited g c)

low_workers : (g : Over) (c : After-index-i g) → g.Ix.IndexType.number c.in-Some-take_first.first.1 < length c.self.inside.workers.items
low_workers g c =
    let P : Progress → Type 0 = λ z. (m : ℕ) → Contains (nodes_of z.waiting) m → m < length z.workers in
    subst P (sym c.self.view_is) c.requires.workers _ (waited g c)

pub offset_bounds-durations-i : goal.offset_bounds-durations-i
offset_bounds-durations-i g c = omega (arith, low_durations g (goal.at.offset_bounds-durations-i g c).After-index-i, c.index-i.ensures.value)

pub bounds-durations-i : goal.bounds-durations-i
bounds-durations-i g c = omega (arith, low_durations g (goal.at.bounds-durations-i g c).After-index-i, c.index-i.ensures.value)

pub returns-in_default-checked_add-clause-overflow : goal.returns-in_default-checked_add-clause-overflow
returns-in_default-checked_add-clause-overflow g c _ =
    let n = g.Ix.IndexType.number c.in-Some-take_first.first.1 in
    let durations = c.args.durations.now in
    let P : Progress → Type 0 = λ z. IsTooLate durations z in
    let too_late : IsTooLate durations (record {
      waiting = c.self.inside.waiting.items;
      running = c.self.inside.running.items;
      free = c.self.inside.free.items;
      starts = c.self.inside.starts.items;
      workers = c.self.inside.workers.items;
      now = c.self.inside.now;
    }) = (
      n,
      waited g (goal.at.returns-in_default-checked_add-clause-overflow g c).After-index-i,
      omega (arith, c.in_default-checked_add.ensures, ap (λ z. get_or durations z 0) c.index-i.ensures.value),
    ) in
    subst P c.self.view_is too_late

pub note-requires-clause-starts : goal.note-requires-clause-starts
note-requires-clause-starts g c =
    let low = low_starts g (goal.at.note-requires-clause-starts g c).After-index-i in
    let size : vec_len c.self.inside.starts ≡ length c.self.inside.starts.items = search rules in
    omega (arith, low, size, c.index-i.ensures.value)

pub note-requires-clause-workers : goal.note-requires-clause-workers
note-requires-clause-workers g c =
    let low = low_workers g (goal.at.note-requires-clause-workers g c).After-index-i in
    let size : vec_len c.self.inside.workers ≡ length c.self.inside.workers.items = search rules in
    omega (arith, low, size, c.index-i.ensures.value)

pub returns-clause-begun : goal.returns-clause-begun
returns-clause-begun g c _ =
    let first = c.in-Some-take_first.first in
    let n = g.Ix.IndexType.number first.1 in
    let durations = c.args.durations.now in
    let at = c.index-i.ensures.value in
    let finish = c.in-Some-checked_add.finish in
    let new : Progress = record {
      waiting = c.take_first.new.self.items;
      running = c.add.new.self.items;
      free = c.idle_worker-worker.new.free.items;
      starts = c.note.new.starts.items;
      workers = c.note.new.workers.items;
      now = c.self.inside.now;
    } in
    let P : Progress → Type 0 = λ z. Begins durations c.args.count z new in
    let busy = c.len-busy.ensures in
    let E : Progress → Type 0 = λ z. AllByRecursion (λ p. z.now ≤ p.0) z.running in
    let ends = subst E (sym c.self.view_is) c.requires.ends in
    let later_runs : AllByRecursion (λ p. c.self.inside.now < p.0) c.self.inside.running.items =
    elim c.match-first_key.branch [
      | in-Some+else-finish-self w ↦
          all_later c.self.inside.now w.in-Some.finish c.self.inside.running.items ends w.in-Some.ensures.first
          w.if-finish-self.false
      | in_default w ↦ (
          let N : List (ℕ × ℕ) → Type 0 = λ z. AllByRecursion (λ p. c.self.inside.now < p.0) z in
          subst N (sym (w.in_default.ensures.none refl)) tt
          )
    ] in
    let H : ℕ → Type 0 = λ z. IsIdleWorker z c.self.inside.free.items c.idle_worker-worker.new.free.items c.idle_worker-worker.result in
    subst P c.self.view_is (record {
      key = first.0;
      node = n;
      finish = finish;
      worker = c.idle_worker-worker.result;
      taken = c.in-Some-take_first.ensures.taken;
      first = c.in-Some-take_first.ensures.first;
      later = later_runs;
      finish_is = omega (arith, c.in-Some-checked_add.ensures.1, ap (λ z. get_or durations z 0) at);
      added = c.in_ok-add.ensures;
      room = omega (arith, c.if-busy-count.false, busy);
      hired = subst H busy c.idle_worker-worker.ensures;
      starts = c.note.ensures.starts ∙ ap (λ z. set c.self.inside.starts.items z c.self.inside.now) at;
      workers = c.note.ensures.workers ∙ ap (λ z. set c.self.inside.workers.items z c.idle_worker-worker.result) at;
      now = refl;
    })
