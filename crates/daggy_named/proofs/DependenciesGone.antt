-- Edges removed by the keys of their ends, and by a reduction.
use Rattle.std.proofs.Common.{◌≡◌, ℕ, Bool, List, [], ◌∷◌, Option, Some, None, IsSome, is_some, OnSome, Result, Ok, Err, OnOk}
use Rattle.std.proofs.Common.{OnErr, refl, sym, ap, ◌∙◌}
use Rattle.std.proofs.lemmas.Bool.{false≢true}
use Rattle.std.specs.Option.{option_map, option_and_then}
use Rattle.daggy_base.specs.Finding.{find_edge}
use Rattle.daggy_base.specs.Graph.{Graph}
use Rattle.daggy_base.specs.Removal.{without_edge, without_edges}
use Rattle.daggy_base.specs.State.{State}
use Rattle.daggy_base.specs.Weights.{edge_weight}
use Rattle.daggy_base.specs.WellFormed.{IsWellFormed}
use Rattle.daggy_base.specs.declared.kind.Kind.TheVariants.{Stable}
use Rattle.daggy_base.proofs.FoundEdge.{found_between}
use Rattle.daggy_dag.specs.WholeReduction.{IsWholeReduction}
use Rattle.daggy_named.specs.Asked.{edge_by}
use Rattle.daggy_named.specs.Naming.{Naming, index_by}

-- the edge that is found between two nodes is that of their keys
pub edge_is : {K N E : Type 0} (a b : K → Bool) (s : Naming K N E) (u v e : ℕ) → Some u ≡ index_by a s.keys
    → Some v ≡ index_by b s.keys → find_edge s.graph u v ≡ Some e → edge_by a b s ≡ Some e
edge_is {K} {N} {E} a b s u v e a_is b_is found =
    let from : ℕ → Option ℕ = λ m. option_and_then (λ n. find_edge s.graph m n) (index_by b s.keys) in
    ap (option_and_then from) (sym a_is) ∙ ap (option_and_then (find_edge s.graph u)) (sym b_is) ∙ found

-- it has a weight
pub found_weight : {N E : Type 0} {end : ℕ} (g : Graph N E) (u v e : ℕ) → IsWellFormed end g → find_edge g u v ≡ Some e
    → IsSome (edge_weight g e)
found_weight g u v e w found =
    let between = found_between g u v e w found in ap (λ o. is_some (option_map (λ x. x.weight) o)) between.at

pub on_some : {A : Type 0} (r : Option A) (P : Type 0) → IsSome r → OnSome r P → P
on_some None P some holds = absurd (false≢true some)
on_some (Some x) P some holds = holds

-- a reduction keeps the nodes
nodes_without : {N E : Type 0} (g : Graph N E) (es : List ℕ) → (without_edges Stable g es).nodes ≡ g.nodes
nodes_without g [] = refl
nodes_without g (e ∷ es) = nodes_without (without_edge Stable g e) es

pub kept_nodes : {A F N E : Type 0} (r : Result A F) (old new : State N E)
    → OnOk r (IsWholeReduction Stable old.graph new.graph) → OnErr r (new ≡ old) → new.graph.nodes ≡ old.graph.nodes
kept_nodes {A} {F} {N} {E} (Ok a) old new reduced same =
    ap (λ (z : Graph N E). z.nodes) reduced.2.removed ∙ nodes_without old.graph reduced.2.redundant
kept_nodes {A} {F} {N} {E} (Err e) old new reduced same = ap (λ (z : State N E). z.graph.nodes) same
