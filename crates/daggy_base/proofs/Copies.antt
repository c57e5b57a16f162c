-- A copy is equal where each weight's clone is.
use Rattle.std.proofs.Common.{◌≡◌, ℕ, ◌+◌, Option, Some, None, List, [], ◌∷◌, refl, ap, ◌∙◌, Result, Ok}
use Rattle.std.proofs.Common.{Err, MatchResult, IfOk}
use Rattle.daggy_base.specs.Graph.{Graph, Edge}
use Rattle.daggy_base.specs.State.{State}
use Rattle.daggy_base.specs.Mapping.{MapsSlots, weight_in, with_weight}
use Rattle.daggy_base.specs.Copying.{clone_step, IsCopy}

slots_same : {A W : Type 0} (is : W → W → Type 0) (weight : A → W) (with : A → W → A)
    → ((x : A) → with x (weight x) ≡ x) → ((x y : W) → is x y → y ≡ x)
    → (i : ℕ) (xs ys : List (Option A)) → MapsSlots (clone_step is) (λ i. i) weight with tt i xs ys → ys ≡ xs
slots_same is weight with again same i [] ys m = m
slots_same is weight with again same i (None ∷ xs) ys (later, is_later, more) =
    is_later ∙ ap (λ l. None ∷ l) (slots_same is weight with again same (i + 1) xs later more)
slots_same is weight with again same i (Some x ∷ xs) ys (v, next, called, later, is_later, more) =
    let clone : v ≡ weight x = same called.shown.now v called.called ∙ called.shows in
    is_later ∙ ap (λ z. Some (with x z) ∷ later) clone ∙ ap (λ z. Some z ∷ later) (again x)
    ∙ ap (λ l. Some x ∷ l) (slots_same is weight with again same (i + 1) xs later more)

pub copy_same : {N E : Type 0} (node_clone : N → N → Type 0) (edge_clone : E → E → Type 0)
    → ((x y : N) → node_clone x y → y ≡ x) → ((x y : E) → edge_clone x y → y ≡ x)
    → (old new : Graph N E) → IsCopy node_clone edge_clone old new → new ≡ old
copy_same {N} {E} node_clone edge_clone nodes edges old new copy =
    let mk : List (Option N) → List (Option (Edge E)) → List (List ℕ) → List (List ℕ) → List ℕ → List ℕ → Graph N E =
    λ a b c d e f. record { nodes = a; edges = b; out_lists = c; in_lists = d; vacant_nodes = e; vacant_edges = f } in
    ap (λ z. mk z new.edges new.out_lists new.in_lists new.vacant_nodes new.vacant_edges)
    (slots_same node_clone (λ w. w) (λ w v. v) (λ x. refl) nodes 0 old.nodes new.nodes copy.nodes)
    ∙ ap (λ z. mk old.nodes z new.out_lists new.in_lists new.vacant_nodes new.vacant_edges)
    (slots_same edge_clone weight_in with_weight (λ x. refl) edges 0 old.edges new.edges copy.edges)
    ∙ ap (λ z. mk old.nodes old.edges z new.in_lists new.vacant_nodes new.vacant_edges) copy.out_lists
    ∙ ap (λ z. mk old.nodes old.edges old.out_lists z new.vacant_nodes new.vacant_edges) copy.in_lists
    ∙ ap (λ z. mk old.nodes old.edges old.out_lists old.in_lists z new.vacant_edges) copy.vacant_nodes
    ∙ ap (mk old.nodes old.edges old.out_lists old.in_lists old.vacant_nodes) copy.vacant_edges

-- a copy of a graph is the graph itself where the clones of weights are equal
pub copies_same : {N E X : Type 0} (node_clone : N → N → Type 0) (edge_clone : E → E → Type 0)
    → (s : State N E) (r : Result (State N E) X) (Q : X → Type 0)
    → MatchResult r (λ copy. IsCopy node_clone edge_clone s.graph copy.graph × (copy.looks ≡ 0)) Q
    → IfOk r (λ copy. ((x y : N) → node_clone x y → y ≡ x) → ((x y : E) → edge_clone x y → y ≡ x)
    → copy ≡ record { graph = s.graph; looks = 0 })
copies_same {N} {E} node_clone edge_clone s (Ok copy) Q c =
    let mk : Graph N E → ℕ → State N E = λ g k. record { graph = g; looks = k } in
    λ nodes edges. ap (λ g. mk g copy.looks)
    (copy_same node_clone edge_clone nodes edges s.graph copy.graph c.0) ∙ ap (mk s.graph) c.1
copies_same node_clone edge_clone s (Err x) Q c = tt
