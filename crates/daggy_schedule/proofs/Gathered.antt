-- Nodes that are ready are gathered, each with its key.
use Rattle.std.proofs.Common.{◌≡◌, ℕ, ◌+◌, ◌≤◌, ◌<◌, ◌↔◌, ◌⊎◌, inl, inr, List, [], ◌∷◌, ◌++◌, length, set, refl, sym, ap, subst, ◌∙◌}
use Rattle.std.proofs.Common.{arith, Option, Some, None, Contains, IsPermutation, append-nil}
use Rattle.std.proofs.lemmas.List.Sorted.{IsPermutation-refl, IsPermutation-trans, IsPermutation-map}
use Rattle.std.proofs.lemmas.List.Sorted.{length_permutation}
use Rattle.std.specs.declared.cmp.Reverse.{Reverse}
use Rattle.daggy_base.specs.Graph.{Graph, HasNode, slot}
use Rattle.daggy_base.proofs.Lists.{Mem, mem_contains, contains_mem}
use Rattle.daggy_schedule.specs.Work.{Work, IsSet, IsUnderWay}
use Rattle.daggy_schedule.specs.LeastFirst.{nodes_of}
use Rattle.daggy_schedule.specs.KeyQueue.{keys_from, turned_back}
use Rattle.daggy_schedule.proofs.Members.{among_in}
use Rattle.daggy_schedule.proofs.Ordering.{mem_shuffled}
use Rattle.daggy_schedule.proofs.KeysFrom.{move_first, key_at, key_taken}

-- some of what was ready at first is candidates by now
pub record IsGathering {N E K : Type 0} (g : Graph N E) (first : Work) (first_keys : List (Option K))
    (first_ones : List (Reverse K × ℕ)) (work : Work) (keys : List (Option K)) (ones : List (Reverse K × ℕ))
    (capacity : ℕ) : Type 0 where
  pub under_way : IsUnderWay g work
  pub keyed : (n : ℕ) → HasNode g n → (IsSet work.out n → ⊥) → Contains (nodes_of (keys_from 0 keys)) n
  pub room : length ones + length (keys_from 0 keys) ≤ capacity
  pub out : (n : ℕ) → (IsSet work.out n ⊎ Mem n work.ready) ↔ (IsSet first.out n ⊎ Mem n first.ready)
  pub done : work.done ≡ first.done
  pub waiting : work.waiting ≡ first.waiting
  pub taken : IsPermutation (nodes_of first_ones ++ first.ready) (nodes_of ones ++ work.ready)
  pub all_keys : IsPermutation (turned_back first_ones ++ keys_from 0 first_keys) (turned_back ones ++ keys_from 0 keys)

module _ {N E K : Type 0} {g : Graph N E} where
  pub gathering_from : (work : Work) (keys : List (Option K)) (ones : List (Reverse K × ℕ)) (capacity : ℕ)
      → IsUnderWay g work
      → ((n : ℕ) → HasNode g n → (IsSet work.out n → ⊥) → Contains (nodes_of (keys_from 0 keys)) n)
      → length ones + length (keys_from 0 keys) ≤ capacity → IsGathering g work keys ones work keys ones capacity
  gathering_from work keys ones capacity under keyed room =
      record {
        under_way = under;
        keyed = keyed;
        room = room;
        out = λ n. (λ h. h, λ h. h);
        done = refl;
        waiting = refl;
        taken = IsPermutation-refl _;
        all_keys = IsPermutation-refl _;
      }

  module _ {first : Work} {first_keys : List (Option K)} {first_ones : List (Reverse K × ℕ)} {work : Work}
      {keys : List (Option K)} {ones : List (Reverse K × ℕ)} {capacity : ℕ}
      (s : IsGathering g first first_keys first_ones work keys ones capacity) where
    -- the next node has its key
    pub next_key : (n : ℕ) → Mem n work.ready → (key : K) × (n < length keys) × (slot keys n ≡ Some key)
    next_key n m =
        let r = (s.under_way.ready n).0 (among_in work.ready n (mem_contains work.ready n m)) in
        let there = key_at 0 keys n (contains_mem _ n (s.keyed n r.0.0 r.1)) in
        let same : there.0 ≡ n = omega (arith, there.2) in
        let P : ℕ → Type 0 = λ z. slot keys z ≡ Some there.1 in
        (there.1, omega (arith, there.2, there.3), subst P same there.4)

    -- a node is gathered
    pub gathering_next : (new : Work) (n : ℕ) (key : K) (more : List (Reverse K × ℕ)) (capacity' : ℕ)
        → work.ready ≡ n ∷ new.ready → ((m : ℕ) → IsSet new.out m ↔ (IsSet work.out m ⊎ (m ≡ n)))
        → new.done ≡ work.done → new.waiting ≡ work.waiting → IsUnderWay g new → slot keys n ≡ Some key
        → IsPermutation ((record { 0 = key }, n) ∷ ones) more → capacity ≤ capacity'
        → IsGathering g first first_keys first_ones new (set keys n None) more capacity'
    gathering_next new n key more capacity' is outs dones waits under at added large =
        let left : IsPermutation (keys_from 0 keys) ((key, n) ∷ keys_from 0 (set keys n None)) =
        key_taken 0 keys n n key (omega arith) at in
        let left_nodes : IsPermutation (nodes_of (keys_from 0 keys)) (n ∷ nodes_of (keys_from 0 (set keys n None))) =
        IsPermutation-map (λ p. p.1) _ _ left in
        let R : List ℕ → Type 0 = λ z. IsPermutation z (n ∷ new.ready) in
        record {
          under_way = under;
          keyed = λ m has not_out.
              (let was = s.keyed m has (λ o. not_out ((outs m).1 (inl o))) in
              elim (mem_shuffled _ _ m left_nodes (contains_mem _ m was)) [
                | inl same ↦ absurd (not_out ((outs m).1 (inr same)))
                | inr rest ↦ mem_contains _ m rest
              ]);
          room =
              omega (
                arith,
                s.room,
                large,
                length_permutation _ _ left,
                length_permutation _ _ added,
              );
          out = λ m. (
            λ h. (s.out m).0 (elim h [
              | inl o ↦ elim ((outs m).0 o) [ inl was ↦ inl was | inr same ↦ inr (ready_now m (inl same)) ]
              | inr r ↦ inr (ready_now m (inr r))
            ]),
            λ h. elim ((s.out m).1 h) [
              | inl was ↦ inl ((outs m).1 (inl was))
              | inr r ↦ elim (ready_then m r) [ inl same ↦ inl ((outs m).1 (inr same)) | inr rest ↦ inr rest ]
            ],
          );
          done = dones ∙ s.done;
          waiting = waits ∙ s.waiting;
          taken = IsPermutation-trans _ _ _ s.taken
              (move_first (nodes_of ones) work.ready new.ready (nodes_of more) n (subst R (sym is) (IsPermutation-refl _))
              (IsPermutation-map (λ p. p.1) _ _ added));
          all_keys = IsPermutation-trans _ _ _ s.all_keys
              (move_first (turned_back ones) (keys_from 0 keys) (keys_from 0 (set keys n None)) (turned_back more) (key, n) left
              (IsPermutation-map (λ p. (p.0.0, p.1)) _ _ added));
        }
      where
        ready_now : (m : ℕ) → Mem m (n ∷ new.ready) → Mem m work.ready
        ready_now m h = let P : List ℕ → Type 0 = λ z. Mem m z in subst P (sym is) h

        ready_then : (m : ℕ) → Mem m work.ready → Mem m (n ∷ new.ready)
        ready_then m h = let P : List ℕ → Type 0 = λ z. Mem m z in subst P is h

    -- all are gathered
    module _ (none : work.ready ≡ []) where
      pub gathered_out : (n : ℕ) → IsSet work.out n ↔ (IsSet first.out n ⊎ Contains first.ready n)
      gathered_out n = (
        λ o. elim ((s.out n).0 (inl o)) [ inl was ↦ inl was | inr r ↦ inr (mem_contains _ n r) ],
        λ h. elim ((s.out n).1 (elim h [ inl was ↦ inl was | inr r ↦ inr (contains_mem _ n r) ])) [
          | inl o ↦ o
          | inr r ↦ (let P : List ℕ → Type 0 = λ z. Mem n z in absurd (subst P none r))
        ],
      )

      pub gathered_taken : IsPermutation (nodes_of first_ones ++ first.ready) (nodes_of ones)
      gathered_taken =
          let P : List ℕ → Type 0 = λ z. IsPermutation (nodes_of first_ones ++ first.ready) z in
          subst P (ap (λ z. nodes_of ones ++ z) none ∙ append-nil (nodes_of ones)) s.taken
