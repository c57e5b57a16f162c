-- What a closure returned for the keys and the weights of nodes.
use Rattle.std.proofs.Common.{◌≡◌, ℕ, ◌≤◌, List, Some, slice_index, sym, ap, subst, ◌∙◌, arith}
use Rattle.std.specs.Borrow.{Bor}
use Rattle.daggy_base.specs.Graph.{Graph, HasNode, node_weight}
use Rattle.daggy_base.specs.WellFormed.{IsWellFormed}
use Rattle.daggy_base.proofs.OutEdgesRead.{below_bound}
use Rattle.daggy_base.proofs.PathsWithNode.{bound_low}
use Rattle.daggy_named.specs.Naming.{Naming, key_at}
use Rattle.daggy_named.specs.Scheduled.{AreDurationsByKey}
use Rattle.daggy_named.proofs.Slots.{what_is}

-- the index of a node fits
pub node_fits : {N E : Type 0} (g : Graph N E) {limit : ℕ} → IsWellFormed limit g → (n : ℕ) → HasNode g n → n ≤ limit
node_fits g w n has = omega (arith, below_bound g.nodes n has, bound_low g.nodes, w.few_nodes)

module _ {K N E F I : Type 0} (number : I → ℕ) (of : ℕ → I) (post : F → Bor K → Bor N → ℕ → Type 0) (f : F) (s : Naming K N E)
    (back : (n : ℕ) → HasNode s.graph n → number (of n) ≡ n) where
  pub durations_by_key : (durations : List ℕ)
      → ((n : ℕ) (w : N) → node_weight s.graph n ≡ Some w
      → (shown : Bor N) × (shown.now ≡ w)
      × ((key : Bor K) × (key_at s.keys (number (of n)) ≡ Some key.now) × post f key shown (slice_index durations n)))
      → AreDurationsByKey post f s durations
  durations_by_key durations returned n has =
      let w = what_is (node_weight s.graph n) has in
      let at = returned n w.0 w.1 in
      let key = at.2 in (
        key.0,
        at.0,
        subst (λ m. key_at s.keys m ≡ Some key.0.now) (back n has) key.1,
        w.1 ∙ ap Some (sym at.1),
        key.2,
      )
