-- Other orders of its lists make no path.
use Rattle.std.proofs.Common.{◌≡◌, ℕ, Option, Some, None, IfSome, List, [], ◌∷◌, refl, sym, ap, subst, ◌∙◌}
use Rattle.std.specs.Prelude.{Ok, Err}
use Rattle.daggy_base.specs.Graph.{Graph}
use Rattle.daggy_base.specs.Path.{IsPath, IsAcyclic}
use Rattle.daggy_base.specs.Orders.{with_orders}
use Rattle.daggy_json.specs.Found.{ordered}
use Rattle.daggy_json.specs.Reading.{IsTested}
use Rattle.daggy_json.specs.declared.error.ReadError.TheVariants.{Cycle}

pub of_some : {A : Type 0} (P : A → Type 0) (o : Option A) (x : A) → o ≡ Some x → IfSome o P → P x
of_some P o x is h = subst (λ z. IfSome z P) is h

module _ {N E : Type 0} (g : Graph N E) where
  path_there : (orders : List (List ℕ × List ℕ)) (us : List ℕ) → IsPath g us → IsPath (with_orders g orders) us
  path_there orders [] p = p
  path_there orders (u ∷ []) p = p
  path_there orders (u ∷ v ∷ us) p = (p.0, p.1, path_there orders (v ∷ us) p.2)

  path_back : (orders : List (List ℕ × List ℕ)) (us : List ℕ) → IsPath (with_orders g orders) us → IsPath g us
  path_back orders [] p = p
  path_back orders (u ∷ []) p = p
  path_back orders (u ∷ v ∷ us) p = (p.0, p.1, path_back orders (v ∷ us) p.2)

  pub acyclic_ordered : (o : Option (List (List ℕ × List ℕ))) → IsAcyclic g → IsAcyclic (ordered g o)
  acyclic_ordered None h = h
  acyclic_ordered (Some orders) h = λ u v rest p. h u v rest (path_back orders (u ∷ v ∷ rest) p)

  pub cyclic_ordered : (o : Option (List (List ℕ × List ℕ))) → IsAcyclic (ordered g o) → IsAcyclic g
  cyclic_ordered None h = h
  cyclic_ordered (Some orders) h = λ u v rest p. h u v rest (path_there orders (u ∷ v ∷ rest) p)

  pub tested_with : (h : Graph N E) (o : Option (List (List ℕ × List ℕ))) (rows : List (List ℕ × List ℕ))
      → o ≡ Some rows → h ≡ with_orders g rows → IsAcyclic g → IsTested (ordered g o) (Ok h)
  tested_with h o rows is same acyclic =
      subst (λ z. IsTested (ordered g z) (Ok h)) (sym is) (acyclic_ordered (Some rows) acyclic, same)

  pub tested_cyclic : (o : Option (List (List ℕ × List ℕ))) → ¬ IsAcyclic g → IsTested (ordered g o) (Err Cycle)
  tested_cyclic o cyclic = (λ a. cyclic (cyclic_ordered o a), refl)

-- the same in the words of the code: the dag that was made, and the lists that were handed to it
pub tested_made : {N E A : Type 0} {g : Graph N E} {made new : Graph N E} {o : Option (List (List ℕ × List ℕ))}
    {rows slice : List A}
    (f : List A → List (List ℕ × List ℕ))
    → o ≡ Some (f rows) → made ≡ g → slice ≡ rows → new ≡ with_orders made (f slice) → IsAcyclic made
    → IsTested (ordered g o) (Ok new)
tested_made {N} {E} {A} {g} {made} {new} {o} {rows} {slice} f is same_graph same_rows ordered_is acyclic =
    let same : new ≡ with_orders g (f rows) =
    ordered_is
    ∙ (ap (λ (z : Graph N E). with_orders z (f slice)) same_graph ∙ ap (λ z. with_orders g (f z)) same_rows) in
    tested_with g new o (f rows) is same (subst IsAcyclic same_graph acyclic)
