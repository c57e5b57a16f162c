-- The nodes of a plan exist.
use Rattle.std.proofs.Common.{◌≡◌, ◌⊎◌, inl, inr, ℕ, List, [], ◌∷◌, get_or, sym, subst}
use Rattle.std.proofs.lemmas.List.{get_or_default}
use Rattle.std.specs.List.{All}
use Rattle.daggy_base.specs.Graph.{Graph, HasNode}
use Rattle.daggy_base.specs.Path.{IsPath}
use Rattle.daggy_run.specs.Plans.{IsPlan}
use Rattle.daggy_named.proofs.NamedNodes.{each_member, nothing, path_exists}

pub stages_exist : {N E : Type 0} (g : Graph N E) (stages : List (List ℕ)) → IsPlan g stages
    → All (All (HasNode g)) stages
stages_exist g stages plan k d low =
    let same : get_or stages k d ≡ get_or stages k [] = get_or_default stages k d [] low in
    subst (All (HasNode g)) (sym same)
    (each_member (HasNode g) (get_or stages k []) (λ n there. (plan.exact n).1 (k, there)))

pub chain_exists : {N E : Type 0} (g : Graph N E) (chain : List ℕ) → (chain ≡ []) ⊎ IsPath g chain
    → All (HasNode g) chain
chain_exists g [] along = nothing (HasNode g)
chain_exists g (u ∷ rest) (inl is) = absurd cc
chain_exists g (u ∷ rest) (inr p) = path_exists g u rest p
