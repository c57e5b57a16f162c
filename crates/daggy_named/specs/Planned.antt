-- Plans by keys.
use Rattle.std.specs.Prelude.{◌≡◌, ℕ, Option, Some, List, map, Vec}
use Rattle.std.specs.Borrow.{Bor}
use Rattle.std.specs.declared.alloc.Global.{Global}
use Rattle.daggy_base.specs.Graph.{Graph}
use Rattle.daggy_run.specs.Plans.{IsPlan, IsByLevels, IsChain, IsShortest}
use Rattle.daggy_named.specs.Naming.{key_at}

-- the keys behind references
abbrev pub keys_in : {K : Type 0} → List (Bor K) → List K
keys_in found = map (λ k. k.now) found

-- the same, stage by stage
abbrev pub keys_by_stage : {K : Type 0} → List (Vec (Bor K) Global) → List (List K)
keys_by_stage stages = map (λ stage. keys_in stage.items) stages

-- the keys of the nodes of a plan in the fewest stages, and those of the nodes along its chain
pub record IsPlanByKey {K N E : Type 0} (g : Graph N E) (keys : List (Option K)) (stages : List (List K)) (chain : List K)
    : Type 0 where
  pub nodes : List (List ℕ)
  pub path : List ℕ
  pub nodes_named : map (map (key_at keys)) nodes ≡ map (map Some) stages
  pub path_named : map (key_at keys) path ≡ map Some chain
  pub plan : IsPlan g nodes
  pub by_levels : IsByLevels g nodes
  pub along : IsChain g nodes path
  pub shortest : IsShortest g nodes
