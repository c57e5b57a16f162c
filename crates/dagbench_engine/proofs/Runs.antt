-- The steps of a run, and what its clauses say.
use Rattle.std.proofs.Common.{◌≡◌, ◌↔◌, ℕ, ◌<◌, ◌==◌, ◌&&◌, ◌||◌, nat_lt, Bool, true, false, List}
use Rattle.std.proofs.Common.{[], ◌++◌, length, take, Result, Ok, Err, refl, sym, ap, subst, ◌∙◌, append-nil}
use Rattle.std.proofs.Common.{arith, lt-ltb, ℤ, IfSome}
use Rattle.std.specs.Result.{OnOk}
use Rattle.daggy.specs.Graph.{Graph, empty}
use Rattle.daggy_base.specs.declared.kind.Kind.{Kind}
use Rattle.dagbench_engine.specs.declared.stop.Stop.{Stop}
use Rattle.dagbench_engine.specs.declared.stop.Stop.TheVariants.{Read, Write, Memory}
use Rattle.dagbench_lines.specs.Cutting.{lines_of, ended_lines_of}
use Rattle.dagbench_engine.specs.Serving.{Serves}
use Rattle.dagbench_engine.specs.Progress.{IsServed, GoesOn}
use Rattle.dagbench_engine.specs.Ends.{Exchange, IsRun}
use Rattle.dagbench_engine.proofs.ServedSoFar.{fails, starts}

-- what was pending is taken
flushed : (written taken output : List ℕ) → taken ≡ written → output ≡ [] → written ≡ taken ++ output
flushed written taken output is none = sym is ∙ (sym (append-nil taken) ∙ ap (λ o. taken ++ o) (sym none))

-- a new session has served nothing
pub new_session : {kind : Kind} {given taken written : List ℕ} {graph : Graph ℤ ℤ} {kept : List ℕ}
    → graph ≡ empty → kept ≡ [] → written ≡ taken → IsServed kind given given taken written graph kept
new_session {kind} {given} {taken} {written} {graph} {kept} is_empty none nothing =
    subst (λ w. IsServed kind given given taken w graph kept) (sym nothing)
    (starts kind given taken graph kept is_empty none)

-- a block is read and answered
pub read_on : {kind : Kind} {given_old given given_new written_old written : List ℕ}
    {taken output written_new : List ℕ} (block : List ℕ) {graph new : Graph ℤ ℤ} {kept kept_new : List ℕ}
    → IsServed kind given_old given written_old written graph kept → taken ≡ written → output ≡ []
    → given_new ≡ given ++ block → GoesOn kind block (taken ++ output) written_new graph new kept kept_new
    → IsServed kind given_old given_new written_old written_new new kept_new
read_on {kind} {given_old} {given} {given_new} {written_old} {written} {taken} {output} {written_new}
    block {graph} {new} {kept} {kept_new} so_far flush none gives step =
    subst (λ g. IsServed kind given_old g written_old written_new new kept_new) (sym gives)
    (step given_old given written_old (subst (λ w. IsServed kind given_old given written_old w graph kept)
    (flushed written taken output flush none) so_far))

-- the source failed
pub read_failed : {kind : Kind} {given_old given given_new written_old written taken : List ℕ} {graph : Graph ℤ ℤ}
    {kept : List ℕ}
    → IsServed kind given_old given written_old written graph kept → taken ≡ written → given_new ≡ given
    → Serves kind false ended_lines_of given_old given_new written_old taken
read_failed {kind} {given_old} {given} {given_new} {written_old} {written} {taken} {graph} {kept} so_far flush none =
    subst (λ g. Serves kind false ended_lines_of given_old g written_old taken) (sym none)
    (fails kind given_old given written_old written graph kept so_far taken flush)

-- nothing was read, and what was kept is answered
pub read_all : {kind : Kind} {plans : Bool} {given_old given given_new written_old written : List ℕ}
    {taken output : List ℕ} (buffer : List ℕ) {taken_new : List ℕ} {count : ℕ} {graph : Graph ℤ ℤ} {kept : List ℕ}
    → IsServed kind given_old given written_old written graph kept → taken ≡ written → output ≡ []
    → given_new ≡ given ++ take count buffer → count ≡ 0
    → ((given_old given written_old : List ℕ)
    → IsServed kind given_old given written_old (taken ++ output) graph kept
    → Serves kind plans lines_of given_old given written_old taken_new)
    → Serves kind plans lines_of given_old given_new written_old taken_new
read_all {kind} {plans} {given_old} {given} {given_new} {written_old} {written} {taken} {output} buffer {taken_new}
    {count} {graph} {kept} so_far flush none gives is_zero finish =
    subst (λ g. Serves kind plans lines_of given_old g written_old taken_new)
    (sym (gives ∙ (ap (λ n. given ++ take n buffer) is_zero ∙ append-nil given)))
    (finish given_old given written_old (subst (λ w. IsServed kind given_old given written_old w graph kept)
    (flushed written taken output flush none) so_far))

or_true : (b : Bool) → (b || true) ≡ true
or_true true = refl
or_true false = refl

-- the end was met
pub met : (old : Bool) {new : Bool} {count : ℕ} (buffer : List ℕ)
    → new ≡ (old || (count == 0 && nat_lt 0 (length buffer))) → count ≡ 0 → 0 < length buffer → new ≡ true
met old {new} {count} buffer is is_zero room =
    is
    ∙ (ap (λ b. old || b) (ap (λ n. n == 0 && nat_lt 0 (length buffer)) is_zero ∙ lt-ltb 0 (length buffer) room)
    ∙ or_true old)

-- the clauses of a run
module _ (kind : Kind) (plans : Bool) (old new : Exchange) (is_ended : Bool) where
  abbrev pub Is : Result (Unit {0}) Stop → Type 0
  Is r = IsRun kind plans r old new is_ended

  pub run_ends : (r : Result (Unit {0}) Stop) → Is r → OnOk r (is_ended ≡ true)
  run_ends (Ok done) is = is.1
  run_ends (Err stop) is = tt

  pub run_serves : (r : Result (Unit {0}) Stop) {taken_old taken_new : List ℕ}
      → Is r → taken_old ≡ old.taken → taken_new ≡ new.taken
      → OnOk r (Serves kind plans lines_of old.given new.given taken_old taken_new)
  run_serves (Ok done) is same_old same_new = rw (same_old, same_new) is.0
  run_serves (Err stop) is same_old same_new = tt

  pub run_gives_all : (r : Result (Unit {0}) Stop)
      → Is r → OnOk r (IfSome old.remaining (λ input. new.given ≡ old.given ++ input))
  run_gives_all (Ok done) is = is.2
  run_gives_all (Err stop) is = tt

  pub run_tells_read : (r : Result (Unit {0}) Stop) → Is r → (r ≡ Err Read) ↔ (old.failed_reads < new.failed_reads)
  run_tells_read (Ok done) is = (λ e. absurd (cc), λ h. absurd (omega arith))
  run_tells_read (Err Read) is = (λ e. omega arith, λ h. refl)
  run_tells_read (Err Write) is = (λ e. absurd (cc), λ h. absurd (omega arith))
  run_tells_read (Err Memory) is = absurd is

  pub run_tells_write : (r : Result (Unit {0}) Stop) {failed_old failed_new : ℕ}
      → Is r → failed_old ≡ old.failed_writes → failed_new ≡ new.failed_writes
      → (r ≡ Err Write) ↔ (failed_old < failed_new)
  run_tells_write (Ok done) is same_old same_new = (λ e. absurd (cc), λ h. absurd (omega arith))
  run_tells_write (Err Read) is same_old same_new = (λ e. absurd (cc), λ h. absurd (omega arith))
  run_tells_write (Err Write) is same_old same_new = (λ e. omega arith, λ h. refl)
  run_tells_write (Err Memory) is same_old same_new = absurd is

  pub run_replies : (r : Result (Unit {0}) Stop) {taken_old taken_new : List ℕ}
      → Is r → taken_old ≡ old.taken → taken_new ≡ new.taken
      → r ≡ Err Read → Serves kind false ended_lines_of old.given new.given taken_old taken_new
  run_replies (Ok done) is same_old same_new e = absurd (cc)
  run_replies (Err Read) is same_old same_new e = rw (same_old, same_new) is.0
  run_replies (Err Write) is same_old same_new e = absurd (cc)
  run_replies (Err Memory) is same_old same_new e = absurd is
