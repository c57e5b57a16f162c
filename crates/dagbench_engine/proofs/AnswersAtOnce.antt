-- Answers to lines that are not carried out: bad lines, and requests for which memory ran out.
use Rattle.std.proofs.Common.{◌≡◌, ℕ, ℤ, List, [], ◌∷◌, ◌++◌, codes, Option, Some, None, Result, Ok, Err, refl, subst}
use Rattle.std.proofs.Common.{inr}
use Rattle.std.specs.Option.{MatchOption, IsSomeAnd}
use Rattle.daggy.specs.Graph.{Graph}
use Rattle.daggy_base.specs.declared.kind.Kind.{Kind}
use Rattle.std.specs.Result.{OnOk}
use Rattle.dagbench_lines.specs.Cutting.{newline}
use Rattle.dagbench_lines.specs.Commands.{LineRequest, asked_in, TakesRoom}
use Rattle.dagbench_lines.specs.Streams.{Appends}
use Rattle.dagbench_engine.specs.Transcripts.{IsAnswered, IsAnswer}

-- the line was answered after what had been written
abbrev pub AnswersLine : Kind → (line : List ℕ) (old new : Graph ℤ ℤ) (written_old written_new : List ℕ) → Type 0
AnswersLine kind line old new written_old written_new =
    (text : List ℕ) × IsAnswer kind old line text new × (written_new ≡ written_old ++ (text ++ newline ∷ []))

module _ (kind : Kind) (line : List ℕ) (g : Graph ℤ ℤ) (before now : List ℕ) where
  -- one that asks nothing
  pub none_answered : {A E : Type 0} (r : Result A E) → None ≡ asked_in line
      → Appends r before now (codes "bad line" ++ 10 ∷ []) → OnOk r (AnswersLine kind line g g before now)
  none_answered (Err e) says appended = tt
  none_answered (Ok x) says appended = (
    codes "bad line",
    subst (λ o. MatchOption o ((codes "bad line" ≡ codes "bad line") × (g ≡ g))
        (λ asked. IsAnswered kind g asked (codes "bad line") g)) says (refl, refl),
    appended,
  )

  no_room : (o : Option LineRequest) → IsSomeAnd o TakesRoom
      → MatchOption o ((codes "memory" ≡ codes "bad line") × (g ≡ g))
      (λ asked. IsAnswered kind g asked (codes "memory") g)
  no_room None holds = absurd holds
  no_room (Some asked) holds = inr (holds, refl, refl)

  -- one whose list finds no room
  pub no_room_answered : {A E : Type 0} (r : Result A E) → IsSomeAnd (asked_in line) TakesRoom
      → Appends r before now (codes "memory" ++ 10 ∷ []) → OnOk r (AnswersLine kind line g g before now)
  no_room_answered (Err e) holds appended = tt
  no_room_answered (Ok x) holds appended = (codes "memory", no_room (asked_in line) holds, appended)
