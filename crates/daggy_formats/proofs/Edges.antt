-- An edge by its ends and its weight.
use Rattle.std.proofs.Common.{◌≡◌, ℕ, refl, rules}
use Rattle.std.specs.Prelude.{Option, Some, None}
use Rattle.std.specs.Option.{option_map}
use Rattle.daggy_base.specs.Graph.{Edge, ends_of}

module _ {E : Type 0} where
  pub no_ends : (o : Option (Edge E)) → None ≡ option_map ends_of o → None ≡ o
  no_ends None is = refl
  no_ends (Some x) is = search rules

  pub no_weight : (o : Option (Edge E)) → None ≡ option_map (λ x. x.weight) o → None ≡ o
  no_weight None is = refl
  no_weight (Some x) is = search rules

  pub edge_of : (o : Option (Edge E)) (a b : ℕ) (w : E) → Some (a, b) ≡ option_map ends_of o
      → Some w ≡ option_map (λ x. x.weight) o → Some (record { parent = a; child = b; weight = w }) ≡ o
  edge_of None a b w ends weight = search rules
  edge_of (Some x) a b w ends weight = search rules
