-- A run of consecutive nodes that is put last: the items that are written, and the links then.
use Rattle.std.proofs.Common.{◌≡◌, ◌≢◌, ℕ, zero, suc, ◌+◌, ◌<◌, ◌≤◌, ◌⊎◌, inl, inr, List, [], ◌∷◌, ◌++◌, length, map}
use Rattle.std.proofs.Common.{◌^◌, get_or, set, cond, eqb, refl, sym, ap, subst, ◌∙◌, arith, append_assoc}
use Rattle.std.specs.List.{range_with_len, Contains}
use Rattle.std.proofs.lemmas.Bool.{cases_eq, cases_lt}
use Rattle.std.proofs.lemmas.List.{length-append, length-map, length-set, map-set, get_or-set_same, get_or-set_other}
use Rattle.std.proofs.lemmas.List.FromFn.{length-range_with_len}
use Rattle.daggy_base.proofs.Lists.{Mem, Unique, mem_left, mem_right, mem_cases, unique_append, contains_mem}
use Rattle.daggy_base.proofs.Lists.{mem_contains}
use Rattle.daggy_base.proofs.Sorted.{unique_cross}
use Rattle.daggy_order.specs.declared.list.links.Item.{Item}
use Rattle.daggy_order.specs.Links.{LeadsTo, IsLinkChain, AreLinksOf, LabelsAscend, IsRunWritten, vacant, neighbor}
use Rattle.daggy_order.specs.Links.{nexts_of, previous_of, labels_of, IsLabelled, EndsAtGreatest}
use Rattle.daggy_order.proofs.Chains.{chain_append, chain_left, chain_same, neighbor_end, neighbor_node}
use Rattle.daggy_order.proofs.Items.{previous_many, next_kept, previous_kept}
use Rattle.daggy_order.proofs.LinkedNodes.{Keeps, once, are_links, keeps}
use Rattle.daggy_order.proofs.NodeItems.{linking}
use Rattle.daggy_order.proofs.AscendingLabels.{asc_append, asc_left, asc_then, asc_higher, asc_same}
use Rattle.daggy_order.proofs.Labelled.{labelled_more}
use Rattle.daggy_order.proofs.Tails.{turn_low, turn_high, turn_in, turn_more, unique_turn}

-- a field after an item is written
module _ {I : Type 0} (f : Item I → ℕ) (items : List (Item I)) (at : ℕ) (x : Item I) (d : ℕ) where
  field_here : at < length items → get_or (map f (set items at x)) at d ≡ f x
  field_here low =
      ap (λ (z : List ℕ). get_or z at d) (map-set f items at x)
      ∙ get_or-set_same (map f items) at (f x) d (omega (arith, low, length-map items f))

  field_other : (k : ℕ) → k ≢ at → get_or (map f (set items at x)) k d ≡ get_or (map f items) k d
  field_other k apart =
      ap (λ (z : List ℕ). get_or z k d) (map-set f items at x) ∙ get_or-set_other (map f items) at k (f x) d apart

-- no item is written
pub written_none : {I : Type 0} (end : ℕ) (items : List (Item I)) (n low : ℕ) → IsRunWritten end items items n 0 low low
written_none end items n low = record {
  sized = refl;
  next = λ k a b. absurd (omega (arith, a, b));
  previous = λ k a b. absurd (omega (arith, a, b));
  ascending = omega arith;
  others = λ k h. refl;
}

-- one more
pub written_more : {I : Type 0} {end : ℕ} {old items : List (Item I)} {n i low label : ℕ}
    → IsRunWritten end old items n i low label → (at gap : ℕ) (x : Item I)
    → at ≡ n + i + 1 → at < length items → 0 < gap
    → x.next ≡ at + 1 → x.previous ≡ n + i → x.label ≡ label + gap
    → IsRunWritten end old (set items at x) n (i + 1) low (label + gap)
written_more {I} {end} {old} {items} {n} {i} {low} {label} s at gap x at_is within some next_is previous_is label_is =
    let new : List (Item I) = set items at x in
    let here : get_or (labels_of new) at 0 ≡ label + gap = field_here (λ z. z.label) items at x 0 within ∙ label_is in
    let same : (k : ℕ) → Mem k (range_with_len (n + 1) i) → get_or (labels_of new) k 0 ≡ get_or (labels_of items) k 0 =
    λ k m. field_other (λ z. z.label) items at x 0 k (λ e. omega (arith, e, at_is, turn_high (n + 1) i k m)) in
    let A : List ℕ → Type 0 = λ z. LabelsAscend (labels_of new) low z (label + gap + 1) in
    record {
      sized = length-set items at x ∙ s.sized;
      next = λ k a b. elim (cases_eq k at) [
        | inl e ↦
            ap (λ z. get_or (nexts_of new) z end) e
            ∙ (field_here (λ z. z.next) items at x end within ∙ (next_is ∙ ap (λ z. z + 1) (sym e)))
        | inr d ↦
            field_other (λ z. z.next) items at x end k d ∙ s.next k a (omega (arith, b, d, at_is))
      ];
      previous = λ k a b. elim (cases_eq (k + 1) at) [
        | inl e ↦ (
            let is : n + i ≡ k = omega (arith, e, at_is) in
            ap (λ z. get_or (previous_of new) z end) e
            ∙ (field_here (λ z. z.previous) items at x end within ∙ (previous_is ∙ is))
            )
        | inr d ↦
            field_other (λ z. z.previous) items at x end (k + 1) d ∙ s.previous k a (omega (arith, b, d, at_is))
      ];
      ascending =
          subst A (sym (turn_more (n + 1) i (i + 1) at refl (omega (arith, at_is)))) (asc_append (labels_of new) low
          (range_with_len (n + 1) i) at [] (label + gap + 1) (asc_higher (labels_of new) low (range_with_len (n + 1) i)
          (label + 1) (get_or (labels_of new) at 0) (omega (arith, here, some))
          (asc_same (labels_of items) (labels_of new) low (range_with_len (n + 1) i) (label + 1) same s.ascending))
          (omega (arith, here)));
      others = λ k h.
          let apart : k ≢ at = λ e. elim h [ inl a ↦ omega (arith, a, e, at_is) | inr b ↦ omega (arith, b, e, at_is) ] in
          let before : (k ≤ n) ⊎ (n + i < k) = elim h [ inl a ↦ inl a | inr b ↦ inr (omega (arith, b)) ] in
          get_or-set_other items at k x (vacant end) apart ∙ s.others k before;
    }

-- a chain along consecutive nodes
module _ (M Q : ℕ → ℕ) where
  run_chain : (n count q : ℕ) → ((k : ℕ) → n ≤ k → k < n + count → M k ≡ k + 1)
      → ((k : ℕ) → n ≤ k → k < n + count → Q (k + 1) ≡ k) → M (n + count) ≡ q → Q q ≡ n + count
      → IsLinkChain M Q n (range_with_len (n + 1) count) q
  run_chain n zero q on back last behind =
      let is : n ≡ n + 0 = omega arith in (ap M is ∙ last, behind ∙ sym is)
  run_chain n (suc count) q on back last behind =
      let is : n + 1 + count ≡ n + suc count = omega arith in (
        on n (omega arith) (omega arith),
        back n (omega arith) (omega arith),
        run_chain (n + 1) count q (λ k a b. on k (omega (arith, a)) (omega (arith, b)))
            (λ k a b. back k (omega (arith, a)) (omega (arith, b))) (ap M is ∙ last) (behind ∙ sym is),
      )

-- the run is written, n leads to it, and its last node to the end
module _ {I : Type 0} {end first last : ℕ} (old new between after : List (Item I)) {xs : List ℕ} (first' first'' : ℕ)
    (s : AreLinksOf end (nexts_of old) (previous_of old) first last xs) {n count low high : ℕ}
    (w : IsRunWritten end old new n count low high) (us : List ℕ) (is : xs ≡ us ++ n ∷ [])
    (most : (m : ℕ) → Mem m xs → m ≤ n) (real : n + count < end) (numbered : n + count < length old)
    (to : LeadsTo (neighbor end first (nexts_of new)) (neighbor end first' (nexts_of between)) n (n + 1))
    (close : LeadsTo (neighbor end first' (nexts_of between)) (neighbor end first'' (nexts_of after)) (n + count) end)
    (back : previous_of after ≡ previous_of new) where
  abbrev N : ℕ → ℕ
  N = neighbor end first (nexts_of old)

  abbrev P : ℕ → ℕ
  P = neighbor end last (previous_of old)

  abbrev M : ℕ → ℕ
  M = neighbor end first'' (nexts_of after)

  abbrev Q : ℕ → ℕ
  Q = neighbor end (n + count) (previous_of after)

  once_at : Unique (end ∷ (us ++ n ∷ []))
  once_at = let A : List ℕ → Type 0 = λ z. Unique (end ∷ z) in subst A is (once s)

  low_before : (k : ℕ) → Mem k us → k < n
  low_before k m =
      let A : List ℕ → Type 0 = λ z. Mem k z in
      let up : k ≤ n = most k (subst A (sym is) (mem_left us (n ∷ []) k m)) in
      let apart : k ≢ n = λ e. unique_cross us (n ∷ []) once_at.1 k m (inl e) in
      omega (arith, up, apart)

  -- links outside of the run
  outside : (k : ℕ) → k ≢ n → (k ≤ n) ⊎ (n + count < k) → M k ≡ N k
  outside k apart h =
      close.others k (λ e. elim h [ inl a ↦ omega (arith, a, e, apart) | inr b ↦ omega (arith, b, e) ])
      ∙ (to.others k apart ∙ ap (λ z. cond (eqb k end) first z) (next_kept end old new k (w.others k h)))

  ahead : (k : ℕ) → Mem k (end ∷ us) → M k ≡ N k
  ahead k m =
      elim m [
        | inl e ↦ outside k (λ f. omega (arith, e, f, real)) (inr (omega (arith, e, real)))
        | inr b ↦
            outside k (λ f. omega (arith, f, low_before k b)) (inl (omega (arith, low_before k b)))
      ]

  previous_at : (k : ℕ) → k ≢ end → Q k ≡ get_or (previous_of new) k end
  previous_at k apart =
      neighbor_node end (n + count) (previous_of after) k apart ∙ ap (λ (z : List ℕ). get_or z k end) back

  behind : (k : ℕ) → Mem k (us ++ n ∷ []) → Q k ≡ P k
  behind k m =
      let A : List ℕ → Type 0 = λ z. Mem k z in
      let up : k ≤ n = most k (subst A (sym is) m) in
      let apart : k ≢ end = λ e. omega (arith, e, up, real) in
      previous_at k apart
      ∙ (previous_kept end old new k (w.others k (inl up)) ∙ sym (neighbor_node end last (previous_of old) k apart))

  -- links along the run
  on : (k : ℕ) → n ≤ k → k < n + count → M k ≡ k + 1
  on k a b =
      close.others k (λ e. omega (arith, e, b)) ∙ elim (cases_eq k n) [
        | inl e ↦ ap (neighbor end first' (nexts_of between)) e ∙ (to.led ∙ ap (λ z. z + 1) (sym e))
        | inr d ↦
            to.others k d
            ∙ (neighbor_node end first (nexts_of new) k (λ e. omega (arith, e, b, real))
            ∙ w.next k (omega (arith, a, d)) (omega (arith, b)))
      ]

  back_on : (k : ℕ) → n ≤ k → k < n + count → Q (k + 1) ≡ k
  back_on k a b = previous_at (k + 1) (λ e. omega (arith, e, b, real)) ∙ w.previous k a b

  abbrev run : List ℕ
  run = range_with_len (n + 1) count

  whole : xs ++ run ≡ us ++ n ∷ run
  whole = ap (λ (z : List ℕ). z ++ run) is ∙ append_assoc us (n ∷ []) run

  chained : IsLinkChain M Q end (xs ++ run) end
  chained =
      let A : List ℕ → Type 0 = λ z. IsLinkChain N P end z end in
      let B : List ℕ → Type 0 = λ z. IsLinkChain M Q end z end in
      let left = chain_left N P end us n [] end (subst A is s.chained) in
      subst B (sym whole) (chain_append M Q end us n run end (chain_same N P M Q end us n ahead behind left)
      (run_chain M Q n count end on back_on close.led (neighbor_end end (n + count) (previous_of after))))

  up_to : (k : ℕ) → Mem k (xs ++ run) → k ≤ n + count
  up_to k m =
      elim (mem_cases xs run k m) [
        | inl a ↦ omega (arith, most k a)
        | inr b ↦ omega (arith, turn_high (n + 1) count k b)
      ]

  once_all : Unique (end ∷ (xs ++ run))
  once_all = (
    λ m. omega (arith, up_to end m, real),
    unique_append xs run (once s).1 (unique_turn (n + 1) count)
        (λ k a b. omega (arith, most k a, turn_low (n + 1) count k b)),
  )

  within : (k : ℕ) → Mem k (xs ++ run) → k < length (previous_of after)
  within k m =
      omega (
        arith,
        up_to k m,
        numbered,
        w.sized,
        previous_many new,
        ap (λ (z : List ℕ). length z) back,
      )

  pub extended : (total : ℕ) → total ≡ length xs + count → Keeps end (linking after first'' (n + count)) total (xs ++ run)
  extended total counted =
      keeps (linking after first'' (n + count)) (are_links chained once_all within) total
      (omega (arith, counted, length-append xs run, length-range_with_len (n + 1) count))

-- a node that is put last and is greater than all before it
pub ends_here : (nodes : List ℕ) (n : ℕ) → ((m : ℕ) → Contains nodes m → m < n) → EndsAtGreatest (nodes ++ n ∷ []) n
ends_here nodes n below = record {
  before = nodes;
  is = refl;
  most = λ m h. elim (mem_cases nodes (n ∷ []) m (contains_mem (nodes ++ n ∷ []) m h)) [
    | inl a ↦ omega (arith, below m (mem_contains nodes m a))
    | inr b ↦ elim b [ inl e ↦ omega (arith, e) | inr none ↦ absurd none ]
  ];
}

-- the run behind the last node is labelled above its label
pub labelled_run : {labels nodes : List ℕ} {n : ℕ} → IsLabelled labels nodes → EndsAtGreatest nodes n
    → (new : List ℕ) (count high : ℕ) → LabelsAscend new (get_or labels n 0) (range_with_len (n + 1) count) (high + 1)
    → high < 2 ^ 64 → ((k : ℕ) → (k ≤ n) ⊎ (n + count < k) → get_or new k 0 ≡ get_or labels k 0)
    → IsLabelled new (nodes ++ range_with_len (n + 1) count)
labelled_run {labels} {nodes} {n} s ends new count high ascending fits others =
    let run : List ℕ = range_with_len (n + 1) count in
    let low : ℕ = get_or labels n 0 in
    let same : (k : ℕ) → Mem k nodes → get_or new k 0 ≡ get_or labels k 0 = λ k m.
    others k (inl (ends.most k (mem_contains nodes k m))) in
    let A : List ℕ → Type 0 = λ z. LabelsAscend labels 0 z (2 ^ 64) in
    let B : List ℕ → Type 0 = λ z. LabelsAscend labels 0 z (low + 1) in
    let left =
    asc_append labels 0 ends.before n [] (low + 1)
    (asc_left labels 0 ends.before n [] (2 ^ 64) (subst A ends.is s.ascending)) (omega arith) in
    let whole =
    asc_then new 0 nodes low run (2 ^ 64) (asc_same labels new 0 nodes (low + 1) same (subst B (sym ends.is) left))
    (asc_higher new low run (high + 1) (2 ^ 64) (omega (arith, fits)) ascending) in
    labelled_more s new (nodes ++ run) whole (λ k none. others k (elim (cases_lt n k) [
      | inr b ↦ inl b
      | inl a ↦ elim (cases_lt (n + count) k) [
        | inl c ↦ inr c
        | inr d ↦
            absurd (none (mem_contains (nodes ++ run) k
            (mem_right nodes run k (turn_in (n + 1) count k (omega (arith, a)) (omega (arith, d))))))
      ]
    ])) (λ k m. mem_left nodes run k m)
