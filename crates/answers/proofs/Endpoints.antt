-- The endpoints of the edges before an index.
use Rattle.std.proofs.Common.{◌≡◌, ℕ, ◌+◌, List, [], ◌∷◌, ◌++◌, map, take, ap, ◌∙◌}
use Rattle.std.specs.Prelude.{Option, Some, None}
use Rattle.std.specs.Option.{option_map}
use Rattle.std.proofs.lemmas.List.{map_push}
use Rattle.daggy_base.specs.Graph.{Graph, Edge, edge_at, ends_of}
use Rattle.daggy_base.specs.Iterating.{numbered}
use Rattle.daggy_dag.proofs.NumberedSlots.{numbered_passes, numbered_skips}

-- the endpoints of the edges before i
abbrev pub endpoints_before : {N E : Type 0} → Graph N E → ℕ → List (ℕ × ℕ)
endpoints_before g i = map (λ p. ends_of p.1) (numbered 0 (take i g.edges))

module _ {N E : Type 0} (g : Graph N E) (i : ℕ) where
  pub endpoints_pass : (found : Option (Edge E)) → edge_at g i ≡ found → (a b : ℕ)
      → Some (a, b) ≡ option_map ends_of found → endpoints_before g (i + 1) ≡ endpoints_before g i ++ (a, b) ∷ []
  endpoints_pass None e a b h = cc
  endpoints_pass (Some x) e a b h =
      let same : ends_of x ≡ (a, b) = cc in
      ap (map (λ p. ends_of p.1)) (numbered_passes i g.edges x e)
      ∙ (map_push (λ p. ends_of p.1) (numbered 0 (take i g.edges)) (i, x) ∙ ap (λ z. endpoints_before g i ++ z ∷ []) same)

  pub endpoints_skip : (found : Option (Edge E)) → edge_at g i ≡ found → None ≡ option_map ends_of found
      → endpoints_before g (i + 1) ≡ endpoints_before g i
  endpoints_skip None e h = ap (map (λ p. ends_of p.1)) (numbered_skips i g.edges e)
  endpoints_skip (Some x) e h = cc
