-- The keys that a list has, each with its index.
use Rattle.std.proofs.Common.{◌≡◌, ℕ, zero, suc, ◌+◌, ◌<◌, ◌≤◌, inl, inr, List, [], ◌∷◌, ◌++◌, length, set, refl, sym, ap, subst, ◌∙◌}
use Rattle.std.proofs.Common.{arith, Option, Some, None, IsPermutation}
use Rattle.std.proofs.lemmas.List.Sorted.{IsPermutation-refl, IsPermutation-cons, IsPermutation-trans, IsPermutation-middle}
use Rattle.std.proofs.lemmas.List.Sorted.{IsPermutation-append, IsPermutation-append_right}
use Rattle.std.specs.List.{AllByRecursion}
use Rattle.std.specs.declared.cmp.Reverse.{Reverse}
use Rattle.std.proofs.lemmas.Bool.{cases_eq}
use Rattle.std.proofs.lemmas.List.{length_push}
use Rattle.daggy_base.specs.Graph.{Graph, HasNode, slot}
use Rattle.daggy_base.proofs.Lists.{Mem, mem_left, mem_right}
use Rattle.daggy_schedule.specs.LeastFirst.{nodes_of}
use Rattle.daggy_schedule.specs.KeyQueue.{keys_from, turned_back}

-- the first of what is left goes to what was taken
pub move_first : {X : Type 0} (taken left left' taken' : List X) (x : X) → IsPermutation left (x ∷ left')
    → IsPermutation (x ∷ taken) taken' → IsPermutation (taken ++ left) (taken' ++ left')
move_first taken left left' taken' x out into =
    IsPermutation-trans _ _ _ (IsPermutation-append_right taken left (x ∷ left') out)
    (IsPermutation-trans _ _ _ (IsPermutation-middle taken x left')
    (IsPermutation-append (x ∷ taken) taken' left' left' into (IsPermutation-refl left')))

module _ {K : Type 0} where
  pub nodes_turned : (ps : List (Reverse K × ℕ)) → nodes_of (turned_back ps) ≡ nodes_of ps
  nodes_turned [] = refl
  nodes_turned (p ∷ ps) = ap (λ z. p.1 ∷ z) (nodes_turned ps)

  pub nodes_joined : (ps qs : List (K × ℕ)) → nodes_of (ps ++ qs) ≡ nodes_of ps ++ nodes_of qs
  nodes_joined [] qs = refl
  nodes_joined (p ∷ ps) qs = ap (λ z. p.1 ∷ z) (nodes_joined ps qs)

  pub keys_few : (i : ℕ) (keys : List (Option K)) → length (keys_from i keys) ≤ length keys
  keys_few i [] = omega arith
  keys_few i (None ∷ keys) = let h = keys_few (i + 1) keys in omega (arith, h)
  keys_few i (Some key ∷ keys) = let h = keys_few (i + 1) keys in omega (arith, h)

  -- each is in the list
  pub key_at : (i : ℕ) (keys : List (Option K)) (n : ℕ) → Mem n (nodes_of (keys_from i keys))
      → (j : ℕ) × (key : K) × (n ≡ i + j) × (j < length keys) × (slot keys j ≡ Some key)
  key_at i [] n m = absurd m
  key_at i (None ∷ keys) n m =
      let h = key_at (i + 1) keys n m in (suc h.0, h.1, omega (arith, h.2), omega (arith, h.3), h.4)
  key_at i (Some key ∷ keys) n m =
      elim m [
        | inl same ↦ (0, key, omega (arith, same), omega arith, refl)
        | inr rest ↦ (
            let h = key_at (i + 1) keys n rest in (suc h.0, h.1, omega (arith, h.2), omega (arith, h.3), h.4)
            )
      ]

  -- one is taken out
  pub key_taken : (i : ℕ) (keys : List (Option K)) (j n : ℕ) (key : K) → n ≡ i + j → slot keys j ≡ Some key
      → IsPermutation (keys_from i keys) ((key, n) ∷ keys_from i (set keys j None))
  key_taken i [] j n key is at = absurd cc
  key_taken i (None ∷ keys) zero n key is at = absurd cc
  key_taken i (None ∷ keys) (suc j) n key is at = key_taken (i + 1) keys j n key (omega (arith, is)) at
  key_taken i (Some k ∷ keys) zero n key is at =
      let same : k ≡ key = cc in
      let here : i ≡ n = omega (arith, is) in
      let P : K → ℕ → Type 0 = λ z m. IsPermutation ((k, i) ∷ keys_from (i + 1) keys) ((z, m) ∷ keys_from (i + 1) keys) in
      subst (λ m. P key m) here (subst (λ z. P z i) same (IsPermutation-refl _))
  key_taken i (Some k ∷ keys) (suc j) n key is at =
      IsPermutation-trans _ _ _ (IsPermutation-cons (k, i) _ _ (key_taken (i + 1) keys j n key (omega (arith, is)) at))
      (IsPermutation-middle ((k, i) ∷ []) (key, n) (keys_from (i + 1) (set keys j None)))

  -- one more
  pub keys_more : (i : ℕ) (keys : List (Option K)) (n : ℕ) (key : K) → i + length keys ≡ n
      → keys_from i (keys ++ Some key ∷ []) ≡ keys_from i keys ++ (key, n) ∷ []
  keys_more i [] n key is = let same : i ≡ n = omega (arith, is) in ap (λ z. (key, z) ∷ []) same
  keys_more i (None ∷ keys) n key is = keys_more (i + 1) keys n key (omega (arith, is))
  keys_more i (Some k ∷ keys) n key is = ap (λ z. (k, i) ∷ z) (keys_more (i + 1) keys n key (omega (arith, is)))

  pub keys_none : (i : ℕ) (keys : List (Option K)) → keys_from i (keys ++ None ∷ []) ≡ keys_from i keys
  keys_none i [] = refl
  keys_none i (None ∷ keys) = keys_none (i + 1) keys
  keys_none i (Some k ∷ keys) = ap (λ z. (k, i) ∷ z) (keys_none (i + 1) keys)

-- the nodes below i, and no others, have keys
pub record AreKeysBelow {N E K : Type 0} (IsKey : K × ℕ → Type 0) (g : Graph N E) (i : ℕ) (keys : List (Option K)) : Type 0 where
  pub sized : length keys ≡ i
  pub keyed : AllByRecursion IsKey (keys_from 0 keys)
  pub each : (n : ℕ) → n < i → HasNode g n → Mem n (nodes_of (keys_from 0 keys))

module _ {N E K : Type 0} {IsKey : K × ℕ → Type 0} {g : Graph N E} where
  pub keys_start : AreKeysBelow IsKey g 0 []
  keys_start = record { sized = refl; keyed = tt; each = λ n low has. absurd (omega (arith, low)) }

  module _ {i : ℕ} {keys : List (Option K)} (s : AreKeysBelow IsKey g i keys) where
    pub keys_with : (key : K) → IsKey (key, i) → AreKeysBelow IsKey g (i + 1) (keys ++ Some key ∷ [])
    keys_with key is =
        let more : keys_from 0 (keys ++ Some key ∷ []) ≡ keys_from 0 keys ++ (key, i) ∷ [] =
        keys_more 0 keys i key (omega (arith, s.sized)) in
        let P : List (K × ℕ) → Type 0 = λ z. AllByRecursion IsKey z in
        record {
          sized = length_push keys (Some key) ∙ ap (λ z. z + 1) s.sized;
          keyed = subst P (sym more) (all_more (keys_from 0 keys) s.keyed);
          each = λ n low has.
              (let Q : List ℕ → Type 0 = λ z. Mem n z in
              let is_more = ap nodes_of more ∙ nodes_joined (keys_from 0 keys) ((key, i) ∷ []) in
              subst Q (sym is_more) (elim (cases_eq n i) [
                | inl last ↦ mem_right (nodes_of (keys_from 0 keys)) (i ∷ []) n (inl last)
                | inr other ↦ mem_left (nodes_of (keys_from 0 keys)) (i ∷ []) n (s.each n (omega (arith, low, other)) has)
              ]));
        }
      where
        all_more : (ps : List (K × ℕ)) → AllByRecursion IsKey ps → AllByRecursion IsKey (ps ++ (key, i) ∷ [])
        all_more [] h = (is, tt)
        all_more (p ∷ ps) h = (h.0, all_more ps h.1)

    pub keys_without : (HasNode g i → ⊥) → AreKeysBelow IsKey g (i + 1) (keys ++ None ∷ [])
    keys_without none =
        let P : List (K × ℕ) → Type 0 = λ z. AllByRecursion IsKey z in
        record {
          sized = length_push keys None ∙ ap (λ z. z + 1) s.sized;
          keyed = subst P (sym (keys_none 0 keys)) s.keyed;
          each = λ n low has.
              (let Q : List (K × ℕ) → Type 0 = λ z. Mem n (nodes_of z) in
              elim (cases_eq n i) [
                | inl last ↦ (let H : ℕ → Type 0 = λ z. HasNode g z in absurd (none (subst H last has)))
                | inr other ↦ subst Q (sym (keys_none 0 keys)) (s.each n (omega (arith, low, other)) has)
              ]);
        }
