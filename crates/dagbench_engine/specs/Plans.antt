-- What is written after the answers.
use Rattle.std.specs.Prelude.{◌≡◌, ℕ, ℤ, ◌⊎◌, Bool, true, false, List, [], ◌∷◌, ◌++◌, codes}
use Rattle.daggy.specs.Graph.{Graph}
use Rattle.daggy.specs.Plans.{IsPlan, IsByLevels, IsChain, IsShortest}
use Rattle.dagbench_lines.specs.Cutting.{newline}
use Rattle.dagbench_lines.specs.Replies.{plan_text}

-- the fewest stages possible, each node in the stage of its level, and a chain with a node of each stage
pub record IsPlanned (g : Graph ℤ ℤ) (stages : List (List ℕ)) (chain : List ℕ) : Type 0 where
  pub plan : IsPlan g stages
  pub by_levels : IsByLevels g stages
  pub chain_is : IsChain g stages chain
  pub shortest : IsShortest g stages

-- the text of a plan of the graph, or `memory`
abbrev pub IsPlanText : Graph ℤ ℤ → List ℕ → Type 0
IsPlanText g text =
    ((stages : List (List ℕ)) × (chain : List ℕ) × IsPlanned g stages chain
    × (text ≡ plan_text (λ stage. stage) stages chain))
    ⊎ (text ≡ codes "memory" ++ newline ∷ [])

-- what is written after the answers: a plan if `plans`, otherwise nothing
abbrev pub IsTrailer : (plans : Bool) → Graph ℤ ℤ → List ℕ → Type 0
IsTrailer false g text = text ≡ []
IsTrailer true g text = IsPlanText g text
