-- The text of a plan.
use Rattle.std.proofs.Common.{◌≡◌, ℕ, ℤ, List, [], ◌∷◌, ◌++◌, map, codes, Vec, Result, Ok, Err, refl, sym, ap, ◌∙◌}
use Rattle.std.proofs.Common.{inl, inr}
use Rattle.std.specs.declared.alloc.Global.{Global}
use Rattle.std.specs.Result.{OnOk}
use Rattle.std.proofs.lemmas.List.{map-id}
use Rattle.daggy.specs.Graph.{Graph}
use Rattle.daggy.specs.Plans.{stages_of}
use Rattle.dagbench_engine.specs.Plans.{IsPlanned, IsPlanText}
use Rattle.dagbench_lines.specs.Replies.{node_text, spaced, parted, stages_text, plan_text}
use Rattle.dagbench_lines.specs.Streams.{Appends}

abbrev shown : List (Vec ℕ Global) → List (List ℕ)
shown stages = stages_of (λ i. i) stages

stages_told : (stages : List (Vec ℕ Global))
    → stages_text (λ stage. stage.items) stages ≡ stages_text (λ stage. stage) (shown stages)
stages_told [] = refl
stages_told (stage ∷ stages) =
    let rest = stages_text (λ stage. stage.items) stages in
    ap (λ nodes. ((codes "stage" ++ spaced node_text nodes) ++ 10 ∷ []) ++ rest) (sym (map-id stage.items))
    ∙ ap (λ t. ((codes "stage" ++ spaced node_text (map (λ i. i) stage.items)) ++ 10 ∷ []) ++ t) (stages_told stages)

module _ (g : Graph ℤ ℤ) (before : List ℕ) where
  abbrev IsTold : List ℕ → Type 0
  IsTold now = (text : List ℕ) × IsPlanText g text × (now ≡ before ++ text)

  pub no_plan_told : {A E : Type 0} (r : Result A E) (now : List ℕ)
      → Appends r before now (codes "memory\n") → OnOk r (IsTold now)
  no_plan_told (Err e) now put = tt
  no_plan_told (Ok x) now put = (codes "memory\n", inr refl, put)

  pub plan_told : {A E : Type 0} (r : Result A E) (stages : List (Vec ℕ Global)) (chain now : List ℕ)
      → IsPlanned g (shown stages) (map (λ i. i) chain)
      → Appends r before now (plan_text (λ stage. stage.items) stages chain) → OnOk r (IsTold now)
  plan_told (Err e) stages chain now planned put = tt
  plan_told (Ok x) stages chain now planned put = (
    plan_text (λ stage. stage) (shown stages) (map (λ i. i) chain),
    inl (
      shown stages,
      map (λ i. i) chain,
      planned,
      refl,
    ),
    put
        ∙ ap (λ t. before ++ (t ++ (codes "chain " ++ (parted node_text chain ++ 10 ∷ [])))) (stages_told stages)
        ∙ ap (λ c. before ++ plan_text (λ stage. stage) (shown stages) c) (sym (map-id chain)),
  )
