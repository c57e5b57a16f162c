-- The key and the weight of each node, while nodes are removed.
use Rattle.std.proofs.Common.{◌≡◌, ℕ, zero, suc, ◌+◌, ◌<◌, Bool, true, false, Option, Some, None, IsSome, is_some, List, [], ◌∷◌, length, set, inl, inr, refl, sym, ap, ◌∙◌, arith}
use Rattle.std.proofs.lemmas.Bool.{cases_eq, false≢true}
use Rattle.daggy_base.specs.Graph.{slot, node_weight}
use Rattle.daggy_base.specs.Removal.{without_node, KeepsIndices}
use Rattle.daggy_base.specs.declared.kind.Kind.TheVariants.{Stable}
use Rattle.daggy_base.proofs.IndicesKept.{keeps_itself, keeps_on, keeps_node_gone}
use Rattle.daggy_reduction.proofs.RemainingEdges.{slot_inside, slot_set_same, slot_set_other}
use Rattle.daggy_base.specs.Mapping.{CalledAt}
use Rattle.daggy_dag.proofs.Retained.{IsAsking, asking, all_asked, may_call, vacant_slot, slot_stays, slot_removed, node_below}
use Rattle.daggy_named.specs.Naming.{Naming, key_at}
use Rattle.daggy_named.specs.Retained.{both_of, keyed_slots, keyed_of, without_named, TakesBoth, CalledWithBoth}
use Rattle.daggy_named.specs.Retained.{CanAskKeys, RetainsKeys}
use Rattle.std.specs.Borrow.{Bor}

module _ {K N : Type 0} where
  none_right : (k : Option K) → both_of {N = N} k None ≡ None
  none_right None = refl
  none_right (Some x) = refl

  pub slot_keyed : (ks : List (Option K)) (ws : List (Option N)) (n : ℕ)
      → slot (keyed_slots ks ws) n ≡ both_of (slot ks n) (slot ws n)
  slot_keyed [] ws n = refl
  slot_keyed (k ∷ ks) [] n = sym (none_right (slot (k ∷ ks) n))
  slot_keyed (k ∷ ks) (w ∷ ws) zero = refl
  slot_keyed (k ∷ ks) (w ∷ ws) (suc n) = slot_keyed ks ws n

  pub length_keyed : (ks : List (Option K)) (ws : List (Option N)) → length ks ≡ length ws
      → length (keyed_slots ks ws) ≡ length ks
  length_keyed [] ws same = refl
  length_keyed (k ∷ ks) [] same = absurd (omega (arith, same))
  length_keyed (k ∷ ks) (w ∷ ws) same =
      let rest : length (keyed_slots ks ws) ≡ length ks = length_keyed ks ws (omega (arith, same)) in
      omega (arith, rest)

  module _ {E : Type 0} (s : Naming K N E) (n : ℕ) where
    pub keyed_here : (k : K) (w : N) → Some k ≡ key_at s.keys n → Some w ≡ node_weight s.graph n
        → slot (keyed_of s) n ≡ Some (k, w)
    keyed_here k w key weight =
        slot_keyed s.keys s.graph.nodes n
        ∙ (ap (λ z. both_of z (slot s.graph.nodes n)) (sym key) ∙ ap (both_of (Some k)) (sym weight))

    pub no_key_here : None ≡ key_at s.keys n → slot (keyed_of s) n ≡ None
    no_key_here none =
        slot_keyed s.keys s.graph.nodes n ∙ ap (λ z. both_of z (slot s.graph.nodes n)) (sym none)

    pub no_weight_here : None ≡ node_weight s.graph n → slot (keyed_of s) n ≡ None
    no_weight_here none =
        slot_keyed s.keys s.graph.nodes n
        ∙ (ap (both_of (slot s.keys n)) (sym none) ∙ none_right (slot s.keys n))

    -- below a removed node nothing changes
    pub keyed_below : n < length s.graph.nodes → (j : ℕ) → j < n → slot (keyed_of (without_named s n)) j ≡ slot (keyed_of s) j
    keyed_below inside j low =
        let t = without_named s n in
        slot_keyed t.keys t.graph.nodes j
        ∙ (ap (λ z. both_of z (slot t.graph.nodes j)) (slot_set_other s.keys n j None (λ k. omega (arith, low, k)))
        ∙ (ap (both_of (slot s.keys j)) (node_below Stable s.graph n inside j low)
        ∙ sym (slot_keyed s.keys s.graph.nodes j)))

-- the nodes, the edges and the keys that are left are those of before
pub record AreLeft {K N E : Type 0} (old new : Naming K N E) : Type 0 where
  pub graph : KeepsIndices old.graph new.graph
  pub keys : (n : ℕ) → IsSome (key_at new.keys n) → key_at new.keys n ≡ key_at old.keys n

module _ {K N E : Type 0} where
  pub left_itself : (s : Naming K N E) → AreLeft s s
  left_itself s = record { graph = keeps_itself s.graph; keys = λ n there. refl }

  -- one more node is removed
  pub left_without : (old s : Naming K N E) (n : ℕ) (k : K) → slot s.keys n ≡ Some k → AreLeft old s
      → AreLeft old (without_named s n)
  left_without old s n k here left =
      let one : Option K = Some k in
      record {
        graph =
            keeps_on old.graph s.graph (without_node Stable s.graph n) left.graph
            (keeps_node_gone s.graph (without_node Stable s.graph n) n one refl tt);
        keys = λ m there.
            elim (cases_eq m n) [
              | inl same ↦ (
                  let gone : slot (set s.keys n None) m ≡ None =
                  ap (slot (set s.keys n None)) same ∙ slot_set_same s.keys n None (slot_inside s.keys n k here) in
                  absurd (false≢true (sym (ap is_some gone) ∙ there))
                  )
              | inr other ↦ (
                  let kept : slot (set s.keys n None) m ≡ slot s.keys m = slot_set_other s.keys n m None other in
                  kept ∙ left.keys m (rw kept at there)
                  )
            ];
      }

module _ {K N E F : Type 0} (pre : F → Bor K → Bor N → Type 0) (step : F → Bor K → Bor N → Bool → F → Type 0)
    (asked : F) (old : Naming K N E) where
  -- the closure, now f, was asked of the nodes from the last one down to i; s is what was left by then
  pub record AreAsked (f : F) (s : Naming K N E) (i : ℕ) : Type 0 where
    pub turns : IsAsking (λ n. n) (TakesBoth pre) (CalledWithBoth step) (λ x. x) keyed_of without_named asked old f s i
    pub left : AreLeft old s

  pub asked_none : CanAskKeys pre step asked old → (i : ℕ) → length (keyed_of old) ≡ i → AreAsked asked old i
  asked_none can i long =
      let whole = asking (λ n. n) (TakesBoth pre) (CalledWithBoth step) (λ x. x) keyed_of without_named asked old can in
      record { turns = rw long at whole; left = left_itself old }

  module _ {f : F} {s : Naming K N E} {i : ℕ} (n : ℕ) (is : i ≡ n + 1) (a : AreAsked f s i) where
    pub asked_vacant : slot (keyed_of s) n ≡ None → AreAsked f s n
    asked_vacant none =
        record {
          turns =
              vacant_slot (λ n. n) (TakesBoth pre) (CalledWithBoth step) (λ x. x) keyed_of without_named asked old f s i n is
              a.turns none;
          left = a.left;
        }

    module _ (key : Bor K) (weight : Bor N) (key_is : Some key.now ≡ key_at s.keys n)
        (weight_is : Some weight.now ≡ node_weight s.graph n) where
      both_are : slot (keyed_of s) n ≡ Some (key.now, weight.now)
      both_are = keyed_here s n key.now weight.now key_is weight_is

      pub may_ask : pre f key weight
      may_ask =
          may_call (λ n. n) (TakesBoth pre) (CalledWithBoth step) (λ x. x) keyed_of without_named asked old f s i n is a.turns
          (key.now, weight.now) both_are (record { ref_ptr = key.ref_ptr; now = (key.now, weight.now) }) refl key weight refl
          refl

      called : (stays : Bool) (next : F) → step f key weight stays next
          → CalledAt (CalledWithBoth step) (λ n. n) f n (key.now, weight.now) stays next
      called stays next steps =
          record {
            shown = record { ref_ptr = key.ref_ptr; now = (key.now, weight.now) };
            shows = refl;
            called = (key, weight, refl, refl, steps);
          }

      pub asked_stays : (next : F) → step f key weight true next → AreAsked next s n
      asked_stays next steps =
          record {
            turns =
                slot_stays (λ n. n) (TakesBoth pre) (CalledWithBoth step) (λ x. x) keyed_of without_named asked old f s i n is
                a.turns (key.now, weight.now) next both_are (called true next steps);
            left = a.left;
          }

      pub asked_removed : (next : F) → step f key weight false next → (t : Naming K N E) → t ≡ without_named s n
          → AreAsked next t n
      asked_removed next steps t without =
          record {
            turns =
                slot_removed (λ n. n) (TakesBoth pre) (CalledWithBoth step) (λ x. x) keyed_of without_named asked old f s i n is
                a.turns (key.now, weight.now) next t both_are (called false next steps) without
                (keyed_below s n (slot_inside s.graph.nodes n weight.now (sym weight_is)));
            left = rw without (left_without old s n key.now (sym key_is) a.left);
          }

  pub all_asked_of : {f : F} {s : Naming K N E} {i : ℕ} → i ≡ 0 → AreAsked f s i → RetainsKeys step asked old s
  all_asked_of {f} {s} {i} none a =
      all_asked (λ n. n) (TakesBoth pre) (CalledWithBoth step) (λ x. x) keyed_of without_named asked old f s i none a.turns
