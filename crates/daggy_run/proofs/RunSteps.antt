-- A run goes on by one step, and a run of either kind is one of the compact kind.
use Rattle.std.proofs.Common.{◌≡◌, ℕ, List, [], ◌∷◌, ◌++◌, map, Result, Ok, Err, OnOk, is_err, false, refl, sym, rules}
use Rattle.std.specs.List.{AllByRecursion}
use Rattle.std.proofs.lemmas.List.{map-id}
use Rattle.daggy_base.specs.Graph.{Graph}
use Rattle.daggy_base.specs.declared.kind.Kind.{Kind}
use Rattle.daggy_base.specs.declared.kind.Kind.TheVariants.{Compact}
use Rattle.daggy_base.specs.Requests.{Request, RemoveNode, RemoveEdge, Reduce}
use Rattle.daggy_base.specs.Answers.{Answer}
use Rattle.daggy_run.specs.Steps.{IsStep}
use Rattle.daggy_run.specs.Runs.{IsRun, IsForBothKinds}

module _ {N E : Type 0} (kind : Kind) (limit : ℕ) where
  pub run_more : (old mid new : Graph N E) (requests : List (Request N E)) (answers : List (Answer N E))
      (asked : Request N E) (said : Answer N E)
      → IsRun kind limit old requests answers mid → IsStep kind limit mid asked said new
      → IsRun kind limit old (requests ++ asked ∷ []) (answers ++ said ∷ []) new
  run_more old mid new [] [] asked said run step = (new, rw run at step, refl)
  run_more old mid new (q ∷ requests) (a ∷ answers) asked said run step =
      (run.0, run.1, run_more run.0 mid new requests answers asked said run.2 step)
  run_more old mid new _ _ asked said run step = absurd run

  -- requests that are for both kinds are answered as by the compact kind
  compact_step : (old new : Graph N E) (asked : Request N E) (said : Answer N E)
      → IsForBothKinds asked → IsStep kind limit old asked said new → IsStep Compact limit old asked said new
  compact_step old new (RemoveNode n) said both step = absurd both
  compact_step old new (RemoveEdge e) said both step = absurd both
  compact_step old new (Reduce roots) said both step = absurd both
  compact_step old new _ said both step = step

  pub compact_run : (old new : Graph N E) (requests : List (Request N E)) (answers : List (Answer N E))
      → AllByRecursion IsForBothKinds requests → IsRun kind limit old requests answers new
      → IsRun Compact limit old requests answers new
  compact_run old new [] [] both run = run
  compact_run old new (q ∷ requests) (a ∷ answers) both run =
      (run.0, compact_step old run.0 q a both.0 run.1, compact_run run.0 new requests answers both.1 run.2)
  compact_run old new _ _ both run = absurd run

  -- all was asked
  pub run_whole : {C : Type 0} (old new : Graph N E) (f : C → Request N E) (asked : List C) {commands : List C}
      (answers : List (Answer N E))
      → map (λ x. x) asked ≡ commands
      → IsRun kind limit old (map f asked) answers new → IsRun kind limit old (map f commands) answers new
  run_whole {C} old new f asked answers all run =
      rw (sym all, map-id asked) run

-- what holds where there is no error
pub unless_err : {A F P : Type 0} (r : Result A F) → OnOk r P → false ≡ is_err r → P
unless_err (Ok x) holds none = search rules
unless_err (Err e) holds none = absurd cc

-- nothing was asked yet
pub run_begins : {N E R : Type 0} (kind : Kind) (limit : ℕ) (h : R → Answer N E) (old : Graph N E) (replies : List R)
    → replies ≡ [] → IsRun kind limit old [] (map h replies) old
run_begins kind limit h old replies none = rw none refl
