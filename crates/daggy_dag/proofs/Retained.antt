-- A loop that asks a closure of each slot, the last one first.
use Rattle.std.proofs.Common.{◌≡◌, ◌∙◌, ℕ, suc, ◌+◌, ◌<◌, ◌≤◌, Bool, true, false, List, [], ◌∷◌, ◌++◌, ◌-◌, get_or, set, length, take, refl, sym, ap, subst, arith}
use Rattle.std.proofs.Math.Seq.{take-length}
use Rattle.std.specs.Prelude.{Option, Some, None, is_some}
use Rattle.std.specs.Option.{option_map}
use Rattle.std.specs.Borrow.{Bor}
use Rattle.daggy_base.specs.CallsInTurn.{TakesSlot}
use Rattle.daggy_base.specs.declared.kind.Kind.{Kind}
use Rattle.daggy_base.specs.declared.kind.Kind.TheVariants.{Compact, Stable}
use Rattle.daggy_base.specs.Graph.{Graph, Edge, slot}
use Rattle.daggy_base.specs.Iterating.{numbered}
use Rattle.daggy_base.specs.Mapping.{CalledAt}
use Rattle.daggy_base.specs.Removal.{without_node, with_node_isolated}
use Rattle.daggy_base.proofs.OutEdgesRead.{below_bound}
use Rattle.daggy_order.proofs.OrderLaws.{nodes_isolated}
use Rattle.daggy_reduction.proofs.RemainingEdges.{slot_front, slot_set_other}
use Rattle.daggy_dag.specs.Retaining.{CanAskDown, Asks, AsksDown}
use Rattle.daggy_dag.proofs.NumberedSlots.{numbered_passes, numbered_skips}

module _ {F I W A : Type 0} (of : ℕ → I) (pre : F → I → Bor W → Type 0)
    (step : F → I → Bor W → Bool → F → Type 0) (weight : A → W) (slots : List (Option A)) where
  -- f may be asked of what the first n slots hold
  abbrev pub CanAskBelow : F → ℕ → Type 0
  CanAskBelow f n = CanAskDown of pre step weight slots f (numbered 0 (take n slots))

  module _ (f : F) (n : ℕ) where
    module _ (x : A) (holds : slot slots n ≡ Some x) (can : CanAskBelow f (n + 1)) where
      opened : CanAskDown of pre step weight slots f (numbered 0 (take n slots) ++ (n, x) ∷ [])
      opened = subst (CanAskDown of pre step weight slots f) (numbered_passes n slots x holds) can

      pub may_ask : TakesSlot of pre step weight slots f (n, x)
      may_ask = opened.at [] (numbered 0 (take n slots) ++ (n, x) ∷ []) f (n, x) (numbered 0 (take n slots)) refl refl refl

      pub after_asking : (stays : Bool) (next : F) → CalledAt step of f n (weight x) stays next → CanAskBelow next n
      after_asking stays next called =
          record {
            at = λ more t q y u yields folds gives.
                opened.at ((n, x) ∷ more) t q y u (numbered 0 (take n slots), refl, yields)
                (next, (stays, called), folds) gives;
          }

    pub after_vacant : slot slots n ≡ None → CanAskBelow f (n + 1) → CanAskBelow f n
    after_vacant vacant can = subst (CanAskDown of pre step weight slots f) (numbered_skips n slots vacant) can

module _ {F I W A G : Type 0} (of : ℕ → I) (pre : F → I → Bor W → Type 0)
    (step : F → I → Bor W → Bool → F → Type 0) (weight : A → W) (slots : G → List (Option A)) (removed : G → ℕ → G) where
  abbrev pub Down : F → G → ℕ → G → Type 0
  Down = AsksDown of step weight (λ g n. slot (slots g) n) removed

  module _ (asked : F) (old : G) where
    -- the closure, now f, was asked from the last slot down to i; g is what was left by then
    pub record IsAsking (f : F) (g : G) (i : ℕ) : Type 0 where
      pub on : (h : G) → Down f g i h → Down asked old (length (slots old)) h
      pub can : CanAskBelow of pre step weight (slots old) f i
      pub same : (j : ℕ) → j < i → slot (slots g) j ≡ slot (slots old) j
      pub low : i ≤ length (slots old)

    pub asking : CanAskDown of pre step weight (slots old) asked (numbered 0 (slots old))
        → IsAsking asked old (length (slots old))
    asking can =
        record {
          on = λ h below. below;
          can = subst (λ xs. CanAskDown of pre step weight (slots old) asked (numbered 0 xs)) (sym (take-length (slots old))) can;
          same = λ j low. refl;
          low = omega arith;
        }

    pub all_asked : (f : F) (g : G) (i : ℕ) → i ≡ 0 → IsAsking f g i → Down asked old (length (slots old)) g
    all_asked f g i none s = s.on g (subst (λ k. Down f g k g) (sym none) refl)

    module _ (f : F) (g : G) (i n : ℕ) (is : i ≡ n + 1) (s : IsAsking f g i) where
      can_next : CanAskBelow of pre step weight (slots old) f (n + 1)
      can_next = subst (CanAskBelow of pre step weight (slots old) f) is s.can

      step_down : (next : F) (left h : G) → Asks of step weight (λ g n. slot (slots g) n) removed f g n (slot (slots g) n) next left
          → Down next left n h → Down asked old (length (slots old)) h
      step_down next left h one below =
          s.on h (subst (λ k. Down f g k h) (let up : suc n ≡ i = omega (arith, is) in up) (next, left, one, below))

      there : slot (slots g) n ≡ slot (slots old) n
      there = s.same n (omega (arith, is))

      pub vacant_slot : slot (slots g) n ≡ None → IsAsking f g n
      vacant_slot vacant =
          record {
            on = λ h below.
                step_down f g h
                (subst (λ o. Asks of step weight (λ g n. slot (slots g) n) removed f g n o f g) (sym vacant) (refl, refl)) below;
            can = after_vacant of pre step weight (slots old) f n (sym there ∙ vacant) can_next;
            same = λ j low. s.same j (omega (arith, is, low));
            low = omega (arith, is, s.low);
          }

      pub may_call : (x : A) → slot (slots g) n ≡ Some x → (shown : Bor W) → shown.now ≡ weight x → pre f (of n) shown
      may_call x holds shown is_weight =
          let here = sym there ∙ holds in
          may_ask of pre step weight (slots old) f n x here can_next here (below_bound (slots old) n (ap is_some here))
          (omega (arith, is, s.low)) shown is_weight

      pub slot_stays : (x : A) (next : F) → slot (slots g) n ≡ Some x → CalledAt step of f n (weight x) true next → IsAsking next g n
      slot_stays x next holds called =
          record {
            on = λ h below.
                step_down next g h
                (subst (λ o. Asks of step weight (λ g n. slot (slots g) n) removed f g n o next g) (sym holds) (true, called, refl)) below;
            can = after_asking of pre step weight (slots old) f n x (sym there ∙ holds) can_next true next called;
            same = λ j low. s.same j (omega (arith, is, low));
            low = omega (arith, is, s.low);
          }

      pub slot_removed : (x : A) (next : F) (left : G) → slot (slots g) n ≡ Some x
          → CalledAt step of f n (weight x) false next → left ≡ removed g n
          → ((j : ℕ) → j < n → slot (slots (removed g n)) j ≡ slot (slots g) j) → IsAsking next left n
      slot_removed x next left holds called is_left below_kept =
          record {
            on = λ h below.
                step_down next left h
                (subst (λ o. Asks of step weight (λ g n. slot (slots g) n) removed f g n o next left) (sym holds) (false, called, is_left)) below;
            can = after_asking of pre step weight (slots old) f n x (sym there ∙ holds) can_next false next called;
            same = λ j low.
                ap (λ z. slot (slots z) j) is_left ∙ below_kept j low ∙ s.same j (omega (arith, is, low));
            low = omega (arith, is, s.low);
          }

module _ {E : Type 0} where
  pub has_no_weight : (o : Option (Edge E)) → None ≡ option_map (λ x. x.weight) o → o ≡ None
  has_no_weight None is = refl
  has_no_weight (Some x) is = cc

  pub has_weight : (o : Option (Edge E)) (w : E) → Some w ≡ option_map (λ x. x.weight) o
      → (x : Edge E) × (o ≡ Some x) × (w ≡ x.weight)
  has_weight None w is = cc
  has_weight (Some x) w is = (x, refl, cc)

module _ {N E : Type 0} where
  -- below a removed node each node stands where it stood
  pub node_below : (kind : Kind) (g : Graph N E) (n : ℕ) → n < length g.nodes → (j : ℕ) → j < n
      → slot (without_node kind g n).nodes j ≡ slot g.nodes j
  node_below Stable g n inside j low =
      slot_set_other (with_node_isolated Stable g n).nodes n j None (λ k. omega (arith, low, k))
      ∙ ap (λ xs. slot xs j) (nodes_isolated Stable g n)
  node_below Compact g n inside j low =
      let xs = (with_node_isolated Compact g n).nodes in
      let same : xs ≡ g.nodes = nodes_isolated Compact g n in
      let last = length xs - 1 in
      let moved = get_or xs last None in
      slot_front (set xs n moved) last j (omega (arith, low, inside, ap length same))
      ∙ slot_set_other xs n j moved (λ k. omega (arith, low, k))
      ∙ ap (λ ys. slot ys j) same
