-- What a guard keeps, whether a change succeeded or left the graph as it was.
use Rattle.std.proofs.Common.{◌≡◌, ℕ, ◌≤◌, length, Result, Ok, Err, OnOk, OnErr, IfOk, Option, Some, None, OnSome}
use Rattle.std.proofs.Common.{IfNone, sym, ap, subst, ◌∙◌}
use Rattle.daggy_base.specs.Graph.{Graph, node_bound}
use Rattle.daggy_base.specs.State.{State}
use Rattle.daggy_base.specs.Adding.{with_node, with_edge, next_edge, ComesFirst}
use Rattle.daggy_base.specs.WellFormed.{IsWellFormed}
use Rattle.daggy_base.proofs.NewestEdge.{comes_first}
use Rattle.daggy_base.specs.Removal.{without_edge}
use Rattle.daggy_base.specs.declared.kind.Kind.{Kind}
use Rattle.daggy_base.proofs.PathsWithoutEdge.{bound_same}
use Rattle.daggy_base.proofs.PathsWithNode.{fits_after}
use Rattle.daggy_guard.specs.EdgeBatch.{HasEnds}
use Rattle.daggy_base.specs.Adding.{NewEdge}

-- equal states have the same graph and the same count
pub same_graph : {N E : Type 0} {s t : State N E} → s ≡ t → s.graph ≡ t.graph
same_graph {N} {E} same = ap (λ (z : State N E). z.graph) same

pub same_looks : {N E : Type 0} {s t : State N E} → s ≡ t → s.looks ≡ t.looks
same_looks {N} {E} same = ap (λ (z : State N E). z.looks) same

pub node_fits : {R F N E : Type 0} (r : Result R F) (old new : Graph N E) (w : N) {slots after : ℕ}
    → ((w : N) → length (with_node old w).nodes ≡ slots)
    → node_bound old ≤ after → slots ≤ after → OnOk r (new ≡ with_node old w) → OnErr r (new ≡ old)
    → node_bound new ≤ after
node_fits (Ok n) old new w {slots} {after} many fits capacity added kept =
    fits_after old new w slots after added many capacity
node_fits {R} {F} {N} {E} (Err e) old new w {slots} {after} many fits capacity added kept =
    let P : Graph N E → Type 0 = λ z. node_bound z ≤ after in
    subst P (sym kept) fits

-- a graph without the edge, whether it was there or not
module _ {A N E : Type 0} (kind : Kind) (old new : Graph N E) (e : ℕ) where
  pub bound_edge_gone : (r : Option A)
      → OnSome r (new ≡ without_edge kind old e) → IfNone r (new ≡ old) → node_bound new ≡ node_bound old
  bound_edge_gone None removed missing = ap node_bound missing
  bound_edge_gone (Some a) removed missing = ap node_bound removed ∙ bound_same kind old e

-- the edge that was added comes first in its two lists
pub first_edge : {I F N E : Type 0} (number : I → ℕ) {end : ℕ} (r : Result I F) {old at : Graph N E} (new : Graph N E)
    (x : NewEdge E) → IsWellFormed end old → HasEnds old x → at ≡ old
    → IfOk r (λ e. number e ≡ next_edge at) → OnOk r (new ≡ with_edge at x.0 x.1 x.2)
    → IfOk r (λ e. ComesFirst old new x.0 x.1 (number e))
first_edge {I} {F} {N} {E} number {end} (Ok e) {old} {at} new (a, b, w) f ends same index added =
    let P : Graph N E → Type 0 = λ z. ComesFirst old z a b (number e) in
    let Q : ℕ → Type 0 = λ n. ComesFirst old (with_edge old a b w) a b n in
    subst P (sym (added ∙ ap (λ g. with_edge g a b w) same))
    (subst Q (sym (index ∙ ap next_edge same)) (comes_first end old a b w f ends.0 ends.1))
first_edge number (Err e) new x f ends same index added = tt
