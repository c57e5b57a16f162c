-- The ends of an edge, as a store tells them by the edge's index.
use Rattle.std.proofs.Common.{◌≡◌, ℕ, ◌<◌, Option, Some, None, refl, ap, ◌∙◌}
use Rattle.std.specs.Prelude.{unwrap_or}
use Rattle.std.specs.Option.{option_map}
use Rattle.daggy_base.specs.Graph.{Graph, Edge, edge_at, node_bound, ends_of}
use Rattle.daggy_base.specs.WellFormed.{IsWellFormed}
use Rattle.daggy_base.proofs.OutEdgesRead.{below_bound}

-- an edge of which these are the ends
abbrev pub HasEnds : {E : Type 0} → Option (Edge E) → ℕ × ℕ → Type 0
HasEnds {E} o p = (x : Edge E) × (o ≡ Some x) × (p.0 ≡ x.parent) × (p.1 ≡ x.child)

ends_found : {E : Type 0} (o : Option (Edge E)) (p : ℕ × ℕ) → Some p ≡ option_map ends_of o → HasEnds o p
ends_found None p h = absurd (cc)
ends_found (Some x) p h =
    let same : p ≡ ends_of x = ap (λ o. unwrap_or o p) h in
    (x, refl, ap (λ q. q.0) same, ap (λ q. q.1) same)

no_ends : {E : Type 0} (o : Option (Edge E)) → None ≡ option_map ends_of o → o ≡ None
no_ends None h = refl
no_ends (Some x) h = absurd (cc)

-- what a store says of the edge with the index e, in the words of the code
pub edge_here : {N E : Type 0} (g : Graph N E) (n e : ℕ) (p : ℕ × ℕ)
    → n ≡ e → Some p ≡ option_map ends_of (edge_at g n) → HasEnds (edge_at g e) p
edge_here g n e p at says = ends_found (edge_at g e) p (says ∙ ap (λ k. option_map ends_of (edge_at g k)) at)

pub no_edge_here : {N E : Type 0} (g : Graph N E) (n e : ℕ)
    → n ≡ e → None ≡ option_map ends_of (edge_at g n) → edge_at g e ≡ None
no_edge_here g n e at says = no_ends (edge_at g e) (says ∙ ap (λ k. option_map ends_of (edge_at g k)) at)

-- the ends of an edge are below the bound of the nodes
pub parent_low : {N E : Type 0} {limit : ℕ} {g : Graph N E} (w : IsWellFormed limit g) (e : ℕ) (x : Edge E)
    → edge_at g e ≡ Some x → x.parent < node_bound g
parent_low {g} w e x at = below_bound g.nodes x.parent (w.parents e x at)

pub child_low : {N E : Type 0} {limit : ℕ} {g : Graph N E} (w : IsWellFormed limit g) (e : ℕ) (x : Edge E)
    → edge_at g e ≡ Some x → x.child < node_bound g
child_low {g} w e x at = below_bound g.nodes x.child (w.children e x at)
