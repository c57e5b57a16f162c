-- Workers at work on a graph, from one event to the next.
use Rattle.std.proofs.Common.{◌≡◌, ℕ, ◌<◌, ◌≤◌, ◌↔◌, ◌⊎◌, inl, inr, true, List, [], ◌∷◌, ◌++◌, length, get_or, set}
use Rattle.std.proofs.Common.{refl, sym, subst, ◌∙◌, arith, Contains, replicate}
use Rattle.std.proofs.lemmas.List.{length-set, length-replicate}
use Rattle.std.proofs.lemmas.List.Sorted.{IsPermutation-sym}
use Rattle.std.proofs.lemmas.List.Elements.{All-from_recursion, All-contains}
use Rattle.std.proofs.Permutation.{every_shuffled}
use Rattle.daggy_base.specs.Graph.{Graph, HasNode, node_bound}
use Rattle.daggy_base.specs.Path.{AreJoined}
use Rattle.daggy_base.specs.WellFormed.{IsWellFormed}
use Rattle.daggy_base.proofs.Lists.{Mem, mem_contains, contains_mem}
use Rattle.daggy_base.proofs.OutEdgesRead.{below_bound}
use Rattle.daggy_base.proofs.Sorted.{unique_cross}
use Rattle.daggy_schedule.specs.Work.{Work, IsSet, IsOut, IsUnderWay, is_among, released}
use Rattle.daggy_schedule.specs.Times.{AreFeasible, AreDoneBy, IsCritical, IsZeroElsewhere}
use Rattle.daggy_schedule.specs.LeastFirst.{nodes_of}
use Rattle.daggy_schedule.specs.Assignments.{IsAssignment, AreKeptBusy, IsWithinBound, HasLongBound}
use Rattle.daggy_schedule.specs.Workers.{Progress, Waits, Begins, Finishes, IsStuck, IsTooLate}
use Rattle.daggy_schedule.proofs.Elsewhere.{zeros_elsewhere, set_elsewhere}
use Rattle.daggy_schedule.proofs.Members.{among_in}
use Rattle.daggy_schedule.proofs.Shift.{IsShift, HasBegun, shift_from, shift_wait, shift_begin, shift_finish, shift_done}
use Rattle.daggy_schedule.proofs.Shift.{later, finishes_at, all_done}
use Rattle.daggy_schedule.proofs.Load.{IsLoaded, loaded_from, loaded_wait, loaded_begin, loaded_finish, loaded_done}
use Rattle.daggy_schedule.proofs.Load.{begins_too_long}
use Rattle.daggy_schedule.proofs.Workers.{taken_contains}
use Rattle.daggy_schedule.proofs.Urgent.{IsInTime, IsUrgent, AreKeen, Comes, urgent_from, urgent_wait, urgent_begin, urgent_finish}
use Rattle.daggy_schedule.proofs.Urgent.{keen_from, keen_wait, keen_begin, keen_finish}
use Rattle.daggy_schedule.proofs.Undone.{released_joined}

pub record IsWorking {N E : Type 0} (g : Graph N E) (d est : List ℕ) (latest : ℕ → ℕ) (count : ℕ) (work : Work)
    (progress : Progress) : Type 0 where
  pub under : IsUnderWay g work
  pub shift : IsShift g d count work progress.waiting progress.running progress.free progress.starts progress.workers progress.now
  pub loaded : IsLoaded g d est count work progress.waiting progress.running progress.starts progress.now
  pub urgent : IsUrgent g d latest work progress.waiting progress.running progress.starts
  pub keen : AreKeen g d count work progress.running progress.starts progress.workers progress.now
  pub starts_long : length progress.starts ≡ node_bound g
  pub workers_long : length progress.workers ≡ node_bound g
  pub starts_elsewhere : IsZeroElsewhere g progress.starts
  pub workers_elsewhere : IsZeroElsewhere g progress.workers

-- nodes are begun, and none is ready any more
pub record IsStarting {N E : Type 0} (g : Graph N E) (d est : List ℕ) (latest : ℕ → ℕ) (count : ℕ) (work : Work)
    (progress : Progress) : Type 0 where
  pub working : IsWorking g d est latest count work progress
  pub none_ready : work.ready ≡ []

pub working_from : {N E : Type 0} (g : Graph N E) (d est : List ℕ) (latest : ℕ → ℕ) (count : ℕ) (work : Work) (bound : ℕ) → bound ≡ node_bound g
    → IsUnderWay g work → ((n : ℕ) → IsSet work.out n → ⊥)
    → IsWorking g d est latest count work (record {
      waiting = [];
      running = [];
      free = [];
      starts = replicate bound 0;
      workers = replicate bound 0;
      now = 0;
    })
working_from g d est latest count work bound is under none =
    record {
      under = under;
      shift = shift_from g d count (replicate bound 0) (replicate bound 0) none under.done;
      loaded = loaded_from g d est count (replicate bound 0) none under.done;
      urgent = urgent_from g d latest (replicate bound 0) (λ n b. none n (under.done n b));
      keen = keen_from g d count work (replicate bound 0) (replicate bound 0);
      starts_long = length-replicate bound 0 ∙ is;
      workers_long = length-replicate bound 0 ∙ is;
      starts_elsewhere = zeros_elsewhere g (replicate bound 0) bound refl;
      workers_elsewhere = zeros_elsewhere g (replicate bound 0) bound refl;
    }

module _ {N E : Type 0} {g : Graph N E} {d est : List ℕ} {latest : ℕ → ℕ} {count : ℕ} {work : Work} {progress : Progress}
    (s : IsWorking g d est latest count work progress) where
  pub waiting_exists : (n : ℕ) → Contains (nodes_of progress.waiting) n → HasNode g n
  waiting_exists n c =
      (s.under.out n ((s.shift.outs n).1 (inl (contains_mem (nodes_of progress.waiting) n c))).0).0

  out_low : (n : ℕ) → IsOut work n → n < node_bound g
  out_low n o = below_bound g.nodes n (s.under.out n o.0).0

  pub waiting_low : (n : ℕ) → Contains (nodes_of progress.waiting) n → n < node_bound g
  waiting_low n c = out_low n ((s.shift.outs n).1 (inl (contains_mem (nodes_of progress.waiting) n c)))

  pub running_low : (n : ℕ) → Contains (nodes_of progress.running) n → n < node_bound g
  running_low n c = out_low n ((s.shift.outs n).1 (inr (contains_mem (nodes_of progress.running) n c)))

  pub running_out : (n : ℕ) → Contains (nodes_of progress.running) n → IsOut work n
  running_out n c = (s.shift.outs n).1 (inr (contains_mem (nodes_of progress.running) n c))

  -- a node is handed out
  pub working_wait : (new : Work) (after : Progress) (k n : ℕ) → k ≡ latest n → Waits (k, n) progress after → work.ready ≡ n ∷ new.ready
      → IsOut new n → ((m : ℕ) → IsSet new.out m ↔ (IsSet work.out m ⊎ (m ≡ n))) → new.done ≡ work.done
      → IsUnderWay g new → IsWorking g d est latest count new after
  working_wait new after k n is w first is_out outs dones under =
      let was_ready : is_among work.ready n ≡ true =
      (let P : List ℕ → Type 0 = λ z. is_among z n ≡ true in
      subst P (sym first) (among_in (n ∷ new.ready) n (mem_contains (n ∷ new.ready) n (inl refl)))) in
      let fresh : IsSet work.out n → ⊥ = ((s.under.ready n).0 was_ready).1 in
      let mid : Progress = record {
        waiting = after.waiting;
        running = progress.running;
        free = progress.free;
        starts = progress.starts;
        workers = progress.workers;
        now = progress.now;
      } in
      let same : after ≡ mid = λ i. record {
        waiting = after.waiting;
        running = w.running i;
        free = w.free i;
        starts = w.starts i;
        workers = w.workers i;
        now = w.now i;
      } in
      let P : Progress → Type 0 = λ z. IsWorking g d est latest count new z in
      subst P (sym same) (record {
        under = under;
        shift = shift_wait s.shift new after.waiting k n fresh is_out outs dones w.added;
        loaded = loaded_wait s.loaded new after.waiting k n first dones w.added;
        urgent = urgent_wait s.urgent new dones after.waiting k n is w.added;
        keen = keen_wait s.keen new dones;
        starts_long = s.starts_long;
        workers_long = s.workers_long;
        starts_elsewhere = s.starts_elsewhere;
        workers_elsewhere = s.workers_elsewhere;
      })

  -- a worker begins a node
  module _ {end : ℕ} (w : IsWellFormed end g) where
    unbegun : (n : ℕ) → Contains (nodes_of progress.waiting) n → HasBegun work progress.running n → ⊥
    unbegun n c b =
        let waits = contains_mem (nodes_of progress.waiting) n c in
        elim b [
          | inl b ↦ ((s.shift.outs n).1 (inl waits)).1 b
          | inr r ↦ unique_cross (nodes_of progress.waiting) (nodes_of progress.running) s.shift.once n waits r
        ]

    pub working_begin : work.ready ≡ [] → (after : Progress) → Begins d count progress after → IsWorking g d est latest count work after
    working_begin none_ready after b =
        let waits = taken_contains progress.waiting after.waiting b.key b.node b.taken in
        let low = waiting_low b.node waits in
        let exists = waiting_exists b.node waits in
        let mid : Progress = record {
          waiting = after.waiting;
          running = after.running;
          free = after.free;
          starts = set progress.starts b.node progress.now;
          workers = set progress.workers b.node b.worker;
          now = progress.now;
        } in
        let same : after ≡ mid = λ i. record {
          waiting = after.waiting;
          running = after.running;
          free = after.free;
          starts = b.starts i;
          workers = b.workers i;
          now = b.now i;
        } in
        let P : Progress → Type 0 = λ z. IsWorking g d est latest count work z in
        subst P (sym same) (record {
          under = s.under;
          shift =
              shift_begin s.shift w s.under after.waiting after.running b.key b.node b.finish b.worker after.free b.taken
              b.finish_is b.added b.room b.hired (omega (arith, low, s.starts_long)) (omega (arith, low, s.workers_long));
          loaded =
              loaded_begin s.loaded after.waiting after.running b.key b.node b.finish b.taken b.finish_is b.added
              (unbegun b.node waits) (omega (arith, low, s.starts_long));
          urgent =
              urgent_begin s.shift w s.under none_ready after.waiting after.running b.key b.node b.finish b.worker b.taken
              b.finish_is b.added (omega (arith, low, s.starts_long)) (omega (arith, low, s.workers_long)) s.urgent b.first b.later;
          keen =
              keen_begin s.shift w s.under none_ready after.waiting after.running b.key b.node b.finish b.worker b.taken
              b.finish_is b.added (omega (arith, low, s.starts_long)) (omega (arith, low, s.workers_long)) s.keen;
          starts_long = length-set progress.starts b.node progress.now ∙ s.starts_long;
          workers_long = length-set progress.workers b.node b.worker ∙ s.workers_long;
          starts_elsewhere = set_elsewhere g progress.starts _ b.node progress.now exists s.starts_elsewhere refl;
          workers_elsewhere = set_elsewhere g progress.workers _ b.node b.worker exists s.workers_elsewhere refl;
        })

    pub working_too_late : 0 < count → (path : List ℕ) (longest : ℕ) → IsCritical g d path longest
        → AreDoneBy g d (λ n. get_or est n 0) longest → IsTooLate d progress → HasLongBound g d count
    working_too_late some path longest critical met t =
        begins_too_long s.loaded t.0 (waiting_exists t.0 t.1) t.2 (contains_mem (nodes_of progress.waiting) t.0 t.1)
        (unbegun t.0 t.1) (λ m b. elim b [
          | inl b ↦ (s.under.out m (s.under.done m b)).0
          | inr r ↦ (s.under.out m ((s.shift.outs m).1 (inr r)).0).0
        ]) path longest critical met some

  -- the next node is finished
  pub working_finish : {end : ℕ} → IsWellFormed end g → AreFeasible g d (λ n. get_or est n 0) → work.ready ≡ []
      → IsStuck count progress → (new : Work) (after : Progress) (n : ℕ) → Finishes n progress after
      → ((m : ℕ) → IsSet new.done m ↔ (IsSet work.done m ⊎ (m ≡ n))) → new.out ≡ work.out
      → new.ready ≡ work.ready ++ released g new.done n → IsUnderWay g new → IsWorking g d est latest count new after
  working_finish w feasible none_ready stuck new after n f dones outs readies under =
      let time = after.now in
      let low = later s.shift s.under new after.running time n f.taken f.first dones outs in
      let at = finishes_at s.shift s.under new after.running time n f.taken f.first dones outs in
      let every = every_shuffled (λ p. time ≤ p.0) ((time, n) ∷ after.running) progress.running
      (IsPermutation-sym _ _ f.taken) (omega arith, f.first) in
      let R : List ℕ → Type 0 = λ z. (m : ℕ) → is_among (z ++ released g new.done n) m ≡ true → AreJoined g n m in
      let joined = subst R (sym none_ready) (released_joined w new.done n) in
      let J : ℕ → List ℕ → Type 0 = λ m z. is_among z m ≡ true in
      let as_busy : (time ≡ progress.now) ⊎ ((count ≡ length progress.running) ⊎ (progress.waiting ≡ [])) =
      elim stuck [
        | inl none ↦ inr (inr none)
        | inr b ↦ elim b [
          | inl all ↦ inr (inl (omega (arith, all, s.shift.few)))
          | inr now ↦
              inl (omega (
                arith,
                low,
                All-contains (λ (p : ℕ × ℕ). time ≤ p.0) progress.running (progress.now, now.0)
                    (All-from_recursion (λ (p : ℕ × ℕ). time ≤ p.0) progress.running every) now.1,
              ))
        ]
      ] in
      let mid : Progress = record {
        waiting = progress.waiting;
        running = after.running;
        free = progress.free ++ get_or progress.workers n 0 ∷ [];
        starts = progress.starts;
        workers = progress.workers;
        now = time;
      } in
      let same : after ≡ mid = λ i. record {
        waiting = f.waiting i;
        running = after.running;
        free = f.free i;
        starts = f.starts i;
        workers = f.workers i;
        now = time;
      } in
      let P : Progress → Type 0 = λ z. IsWorking g d est latest count new z in
      subst P (sym same) (record {
        under = under;
        shift = shift_finish s.shift s.under new after.running time n f.taken f.first dones outs;
        loaded =
            loaded_finish s.loaded feasible new after.running time n f.taken f.first low at dones
            (λ m h. joined m (subst (J m) readies h)) as_busy;
        urgent =
            urgent_finish s.shift w s.under none_ready new after.running time n f.taken f.first dones s.urgent;
        keen =
            keen_finish s.shift w s.under none_ready new after.running time n f.taken f.first dones as_busy s.keen;
        starts_long = s.starts_long;
        workers_long = s.workers_long;
        starts_elsewhere = s.starts_elsewhere;
        workers_elsewhere = s.workers_elsewhere;
      })

  -- all nodes are done
  module _ {end : ℕ} (w : IsWellFormed end g) (none_ready : work.ready ≡ []) (none_runs : progress.running ≡ [])
      (stuck : IsStuck count progress) (some : 0 < count) where
    none_waits : progress.waiting ≡ []
    none_waits =
        let P : List (ℕ × ℕ) → Type 0 = λ z. length z ≡ 0 in
        let short : length progress.running ≡ 0 = subst P (sym none_runs) refl in
        elim stuck [
          | inl none ↦ none
          | inr b ↦ elim b [ inl all ↦ absurd (omega (arith, all, short, some)) | inr now ↦ absurd (omega (arith, now.1.1, short)) ]
        ]

    done_all : (n : ℕ) → HasNode g n → IsSet work.done n
    done_all = all_done s.shift w s.under none_ready none_waits none_runs

    pub working_assigned : IsAssignment g d progress.starts progress.workers count progress.now
    working_assigned = shift_done s.shift w s.under none_ready none_waits none_runs

    pub working_bound : (path : List ℕ) (longest : ℕ) → IsCritical g d path longest
        → AreDoneBy g d (λ n. get_or est n 0) longest → IsWithinBound g d count progress.now
    working_bound path longest critical met =
        loaded_done s.loaded done_all (λ n b. (s.under.out n (s.under.done n b)).0) none_runs path longest critical met some

    pub working_busy : AreKeptBusy g d progress.starts progress.workers count
    working_busy m time has come low x here =
        let ends = s.shift.past m (done_all m has) in
        let busy = s.keen.busy m time has (omega (arith, ends, low)) (λ _. low) (λ u j.
        (inl (done_all u (let P : ℕ → Type 0 = λ z. HasNode g z in w.parents j.0 _ j.2)), come u j)) x here in
        let n = busy.0 in
        let is_done : IsSet work.done n =
        elim busy.1 [
          | inl b ↦ b
          | inr r ↦ (
              let P : List (ℕ × ℕ) → Type 0 = λ z. Mem n (nodes_of z) in absurd (subst P none_runs r)
              )
        ] in
        (n, (s.under.out n (s.under.done n is_done)).0, busy.2, busy.3, busy.4)

    pub working_urgent : (n m : ℕ) → HasNode g n → HasNode g m → get_or progress.starts n 0 < get_or progress.starts m 0
        → ((u : ℕ) → AreJoined g u m → IsInTime d progress.starts n u) → Comes g d latest n m
    working_urgent n m a b = s.urgent.begun n m (inl (done_all n a)) (inl (done_all m b))
