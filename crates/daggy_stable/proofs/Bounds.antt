-- The number of slots, and the last occupied slot.
use Rattle.std.proofs.Common.{◌≡◌, ◌≢◌, ℕ, zero, suc, ◌+◌, ◌≤◌, List, [], ◌∷◌, length, set, Option, Some, None, OnSome}
use Rattle.std.proofs.Common.{IfNone, refl, ap, ◌∙◌, arith}
use Rattle.std.proofs.lemmas.List.{length-set, length_push}
use Rattle.daggy_base.specs.declared.index.Direction.{Direction}
use Rattle.daggy_base.specs.declared.index.Direction.TheVariants.{Outgoing, Incoming}
use Rattle.daggy_base.specs.Graph.{Graph, bound_of, bound_step, node_bound, list_at, out_list, in_list}
use Rattle.daggy_base.specs.Adding.{with_slot_filled}
use Rattle.daggy_base.specs.Removal.{without_first, without_front, with_node_isolated, without_node}
use Rattle.daggy_base.specs.declared.kind.Kind.TheVariants.{Stable}
use Rattle.daggy_base.specs.State.{State, with_graph}

pub taken_filled : {A : Type 0} (xs : List (Option A)) (vacant : List ℕ) (x : Option A)
    → vacant ≢ [] → length (with_slot_filled xs vacant x) ≡ length xs
taken_filled xs [] x some = absurd (some refl)
taken_filled xs (v ∷ vs) x some = length-set xs v x

pub taken_made : {A : Type 0} (xs : List (Option A)) (vacant : List ℕ) (x : Option A)
    → vacant ≡ [] → length (with_slot_filled xs vacant x) ≡ length xs + 1
taken_made xs [] x none = length_push xs x
taken_made xs (v ∷ vs) x none = absurd (omega (arith, ap length none))

bound_less : {A : Type 0} (x : Option A) (a b : ℕ) → a ≤ b → bound_step x a ≤ bound_step x b
bound_less None zero b p = omega arith
bound_less None (suc a) zero p = absurd (omega (arith, p))
bound_less None (suc a) (suc b) p = omega (arith, p)
bound_less (Some x) zero zero p = omega arith
bound_less (Some x) zero (suc b) p = omega arith
bound_less (Some x) (suc a) zero p = absurd (omega (arith, p))
bound_less (Some x) (suc a) (suc b) p = omega (arith, p)

bound_none : {A : Type 0} (x : Option A) (a : ℕ) → bound_step {A = A} None a ≤ bound_step x a
bound_none None a = omega arith
bound_none (Some x) zero = omega arith
bound_none (Some x) (suc a) = omega arith

bound_vacate : {A : Type 0} (xs : List (Option A)) (n : ℕ) → bound_of (set xs n None) ≤ bound_of xs
bound_vacate [] n = omega arith
bound_vacate (x ∷ xs) zero = bound_none x (bound_of xs)
bound_vacate (x ∷ xs) (suc n) = bound_less x (bound_of (set xs n None)) (bound_of xs) (bound_vacate xs n)

module _ {N E : Type 0} where
  nodes_first : (g : Graph N E) (es : List ℕ) → (without_first Stable g es).nodes ≡ g.nodes
  nodes_first g [] = refl
  nodes_first g (e ∷ es) = refl

  nodes_front : (dir : Direction) (k : ℕ) (g : Graph N E) (n : ℕ) → (without_front Stable dir k g n).nodes ≡ g.nodes
  nodes_front dir zero g n = refl
  nodes_front dir (suc k) g n =
      nodes_front dir k (without_first Stable g (list_at dir g n)) n ∙ nodes_first g (list_at dir g n)

  nodes_isolated : (g : Graph N E) (n : ℕ) → (with_node_isolated Stable g n).nodes ≡ g.nodes
  nodes_isolated g n =
      let h = without_front Stable Outgoing (length (out_list g n)) g n in
      nodes_front Incoming (length (in_list h n)) h n ∙ nodes_front Outgoing (length (out_list g n)) g n

  -- a removal leaves no node with a greater index
  pub bound_left : {A : Type 0} (n : ℕ) (old new : State N E) (r : Option A)
      → OnSome r (new ≡ with_graph old (without_node Stable old.graph n)) → IfNone r (new ≡ old)
      → node_bound new.graph ≤ node_bound old.graph
  bound_left n old new None removed missing = let same = ap (λ s. node_bound s.graph) missing in omega (arith, same)
  bound_left n old new (Some x) removed missing =
      let same : node_bound new.graph ≡ bound_of (set old.graph.nodes n None) =
      ap (λ s. node_bound s.graph) removed ∙ ap (λ l. bound_of (set l n None)) (nodes_isolated old.graph n) in
      omega (arith, same, bound_vacate old.graph.nodes n)
