-- A new edge comes first in its two lists.
use Rattle.std.proofs.Common.{◌≡◌, ℕ, ◌<◌, List, [], ◌∷◌, length, set, slice_get, unwrap_or, ◌∙◌, arith}
use Rattle.std.proofs.lemmas.List.{get_or-set_same}
use Rattle.std.proofs.lemmas.Option.{unwrap_or-slice_get}
use Rattle.daggy_base.specs.Graph.{Graph, HasNode, out_list, in_list}
use Rattle.daggy_base.specs.Adding.{with_edge, next_edge, ComesFirst}
use Rattle.daggy_base.specs.WellFormed.{IsWellFormed}
use Rattle.daggy_base.proofs.OutEdgesRead.{below_bound}
use Rattle.daggy_base.proofs.PathsWithNode.{bound_low}

first_in : (rows : List (List ℕ)) (u e : ℕ) (xs : List ℕ)
    → u < length rows → unwrap_or (slice_get (set rows u (e ∷ xs)) u) [] ≡ e ∷ xs
first_in rows u e xs within = unwrap_or-slice_get (set rows u (e ∷ xs)) u [] ∙ get_or-set_same rows u (e ∷ xs) [] within

pub comes_first : {N E : Type 0} (end : ℕ) (g : Graph N E) (u v : ℕ) (w : E)
    → IsWellFormed end g → HasNode g u → HasNode g v → ComesFirst g (with_edge g u v w) u v (next_edge g)
comes_first end g u v w f has_u has_v =
    let below : (n : ℕ) → HasNode g n → n < length g.nodes = λ n h.
    omega (arith, below_bound g.nodes n h, bound_low g.nodes) in
    record {
      out = first_in g.out_lists u (next_edge g) (out_list g u) (omega (arith, below u has_u, f.out_list_count));
      into = first_in g.in_lists v (next_edge g) (in_list g v) (omega (arith, below v has_v, f.in_list_count));
    }
