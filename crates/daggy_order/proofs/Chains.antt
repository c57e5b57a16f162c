-- Chains of linked nodes, and putting in or taking out a node.
use Rattle.std.proofs.Common.{◌≡◌, ◌≢◌, ℕ, suc, inl, inr, List, [], ◌∷◌, ◌++◌, length, get_or, eqb, refl, sym, ap}
use Rattle.std.proofs.Common.{subst, ◌∙◌}
use Rattle.std.proofs.lemmas.Bool.{eq-eqb, ne_eqb, cond-true, cond-false}
use Rattle.daggy_base.proofs.Lists.{Mem, Unique, mem_left, mem_right, mem_cases, mem_mid, unique_right}
use Rattle.daggy_order.specs.Links.{IsLinkChain, nodes_from, neighbor}
use Rattle.daggy_base.proofs.Sorted.{unique_cross}

-- an element more, at the end
pub unique_last : (xs : List ℕ) (y : ℕ) → Unique xs → (Mem y xs → ⊥) → Unique (xs ++ y ∷ [])
unique_last [] y u d = (λ m. m, tt)
unique_last (x ∷ xs) y u d = (
  λ m. elim (mem_cases xs (y ∷ []) x m) [
    | inl a ↦ u.0 a
    | inr b ↦ elim b [ inl is ↦ d (inl (sym is)) | inr none ↦ none ]
  ],
  unique_last xs y u.1 (λ m. d (inr m)),
)

module _ (N P : ℕ → ℕ) where
  pub chain_append : (p : ℕ) (xs : List ℕ) (y : ℕ) (ys : List ℕ) (q : ℕ)
      → IsLinkChain N P p xs y → IsLinkChain N P y ys q → IsLinkChain N P p (xs ++ y ∷ ys) q
  chain_append p [] y ys q c d = (c.0, c.1, d)
  chain_append p (x ∷ xs) y ys q c d = (c.0, c.1, chain_append x xs y ys q c.2 d)

  pub chain_left : (p : ℕ) (xs : List ℕ) (y : ℕ) (ys : List ℕ) (q : ℕ)
      → IsLinkChain N P p (xs ++ y ∷ ys) q → IsLinkChain N P p xs y
  chain_left p [] y ys q c = (c.0, c.1)
  chain_left p (x ∷ xs) y ys q c = (c.0, c.1, chain_left x xs y ys q c.2)

  pub chain_right : (p : ℕ) (xs : List ℕ) (y : ℕ) (ys : List ℕ) (q : ℕ)
      → IsLinkChain N P p (xs ++ y ∷ ys) q → IsLinkChain N P y ys q
  chain_right p [] y ys q c = c.2
  chain_right p (x ∷ xs) y ys q c = chain_right x xs y ys q c.2

  -- what stands before the end of a chain, and what follows its start
  pub before_in : (p : ℕ) (xs : List ℕ) (q : ℕ) → IsLinkChain N P p xs q → Mem (P q) (p ∷ xs)
  before_in p [] q c = inl c.1
  before_in p (x ∷ xs) q c = inr (before_in x xs q c.2)

  pub after_in : (p : ℕ) (xs : List ℕ) (q : ℕ) → IsLinkChain N P p xs q → Mem (N p) (xs ++ q ∷ [])
  after_in p [] q c = inl c.0
  after_in p (x ∷ xs) q c = inl c.0

module _ (N P M Q : ℕ → ℕ) where
  pub chain_same : (p : ℕ) (xs : List ℕ) (q : ℕ) → ((k : ℕ) → Mem k (p ∷ xs) → M k ≡ N k)
      → ((k : ℕ) → Mem k (xs ++ q ∷ []) → Q k ≡ P k) → IsLinkChain N P p xs q → IsLinkChain M Q p xs q
  chain_same p [] q ahead back c = (ahead p (inl refl) ∙ c.0, back q (inl refl) ∙ c.1)
  chain_same p (x ∷ xs) q ahead back c = (
    ahead p (inl refl) ∙ c.0,
    back x (inl refl) ∙ c.1,
    chain_same x xs q (λ k m. ahead k (inr m)) (λ k m. back k (inr m)) c.2,
  )

  -- n is put behind p
  pub record IsPut (p n : ℕ) : Type 0 where
    pub to : M p ≡ n
    pub on : M n ≡ N p
    pub ahead : (k : ℕ) → k ≢ p → k ≢ n → M k ≡ N k
    pub from : Q n ≡ p
    pub back_to : Q (N p) ≡ n
    pub back : (k : ℕ) → k ≢ n → k ≢ N p → Q k ≡ P k

  pub put_behind_start : (p n : ℕ) (vs : List ℕ) (e : ℕ) → IsPut p n → IsLinkChain N P p vs e
      → (Mem n (vs ++ e ∷ []) → ⊥) → (Mem p vs → ⊥) → Unique (vs ++ e ∷ []) → IsLinkChain M Q p (n ∷ vs) e
  put_behind_start p n [] e w c fresh apart u = (w.to, w.from, (w.on ∙ c.0, ap Q (sym c.0) ∙ w.back_to))
  put_behind_start p n (v ∷ vs) e w c fresh apart u = (
    w.to,
    w.from,
    (
      w.on ∙ c.0,
      ap Q (sym c.0) ∙ w.back_to,
      chain_same v vs e (λ k m.
          let A : ℕ → Type 0 = λ z. Mem z (v ∷ vs) in
          w.ahead k (λ e'. apart (subst A e' m)) (λ e'. fresh (mem_left (v ∷ vs) (e ∷ []) n (subst A e' m)))) (λ k m.
          let B : ℕ → Type 0 = λ z. Mem z (vs ++ e ∷ []) in
          w.back k (λ e'. fresh (inr (subst B e' m))) (λ e'. u.0 (subst B (e' ∙ c.0) m))) c.2,
    ),
  )

  pub put_behind_member : (p n : ℕ) (us vs : List ℕ) (e : ℕ) → IsPut p n → IsLinkChain N P e (us ++ p ∷ vs) e
      → Unique (e ∷ (us ++ p ∷ vs)) → (Mem n (e ∷ (us ++ p ∷ vs)) → ⊥) → IsLinkChain M Q e (us ++ p ∷ (n ∷ vs)) e
  put_behind_member p n us vs e w c u fresh =
      let left = chain_left N P e us p vs e c in
      let right = chain_right N P e us p vs e c in
      let apart_right : Unique (p ∷ vs) = unique_right us (p ∷ vs) u.1 in
      let no_end : Mem e vs → ⊥ = λ m. u.0 (mem_right us (p ∷ vs) e (inr m)) in
      let last : Unique (vs ++ e ∷ []) = unique_last vs e apart_right.1 no_end in
      let fresh_right : Mem n (vs ++ e ∷ []) → ⊥ = λ m. elim (mem_cases vs (e ∷ []) n m) [
        | inl a ↦ fresh (inr (mem_right us (p ∷ vs) n (inr a)))
        | inr b ↦ elim b [ inl is ↦ fresh (inl is) | inr none ↦ none ]
      ] in
      let follows = after_in N P p vs e right in
      chain_append M Q e us p (n ∷ vs) e (chain_same e us p (λ k m.
      let A : ℕ → Type 0 = λ z. Mem z (e ∷ us) in
      w.ahead k (λ is. elim (subst A is m) [
        | inl at_end ↦ u.0 (let B : ℕ → Type 0 = λ z. Mem z (us ++ p ∷ vs) in subst B at_end (mem_mid us vs p))
        | inr inside ↦ unique_cross us (p ∷ vs) u.1 p inside (inl refl)
      ]) (λ is. elim (subst A is m) [
        | inl at_end ↦ fresh (inl at_end)
        | inr inside ↦ fresh (inr (mem_left us (p ∷ vs) n inside))
      ])) (λ k m.
      let A : ℕ → Type 0 = λ z. Mem z (us ++ p ∷ []) in
      let inside : (z : ℕ) → Mem z (us ++ p ∷ []) → Mem z (us ++ p ∷ vs) = λ z i. elim (mem_cases us (p ∷ []) z i) [
        | inl a ↦ mem_left us (p ∷ vs) z a
        | inr b ↦ elim b [ inl is ↦ mem_right us (p ∷ vs) z (inl is) | inr none ↦ absurd none ]
      ] in
      w.back k (λ is. fresh (inr (inside n (subst A is m)))) (λ is.
      let here = subst A is m in
      elim (mem_cases vs (e ∷ []) (N p) follows) [
        | inl a ↦ elim (mem_cases us (p ∷ []) (N p) here) [
          | inl b ↦ unique_cross us (p ∷ vs) u.1 (N p) b (inr a)
          | inr b ↦ elim b [
            | inl same ↦ apart_right.0 (let B : ℕ → Type 0 = λ z. Mem z vs in subst B same a)
            | inr none ↦ none
          ]
        ]
        | inr b ↦ elim b [
          | inl same ↦ u.0 (let B : ℕ → Type 0 = λ z. Mem z (us ++ p ∷ vs) in subst B same (inside (N p) here))
          | inr none ↦ none
        ]
      ])) left) (put_behind_start p n vs e w right fresh_right apart_right.0 last)

  -- n is taken out
  pub record IsTaken (n : ℕ) : Type 0 where
    pub to : M (P n) ≡ N n
    pub ahead : (k : ℕ) → k ≢ P n → M k ≡ N k
    pub from : Q (N n) ≡ P n
    pub back : (k : ℕ) → k ≢ N n → Q k ≡ P k

  taken_between : (s : ℕ) (us : List ℕ) {n : ℕ} (vs : List ℕ) (e : ℕ) → IsTaken n → IsLinkChain N P s us n
      → IsLinkChain N P n vs e → Unique (s ∷ (us ++ vs)) → (Mem e (us ++ vs) → ⊥) → IsLinkChain M Q s (us ++ vs) e
  taken_between s [] [] e w c d u apart = (ap M (sym c.1) ∙ (w.to ∙ d.0), ap Q (sym d.0) ∙ (w.from ∙ c.1))
  taken_between s [] (v ∷ vs) e w c d u apart = (
    ap M (sym c.1) ∙ (w.to ∙ d.0),
    ap Q (sym d.0) ∙ (w.from ∙ c.1),
    chain_same v vs e (λ k m.
        let A : ℕ → Type 0 = λ z. Mem z (v ∷ vs) in
        w.ahead k (λ is. u.0 (subst A (is ∙ c.1) m))) (λ k m.
        let A : ℕ → Type 0 = λ z. Mem z (vs ++ e ∷ []) in
        w.back k (λ is. elim (mem_cases vs (e ∷ []) v (subst A (is ∙ d.0) m)) [
          | inl a ↦ u.1.0 a
          | inr b ↦ elim b [ inl same ↦ apart (inl (sym same)) | inr none ↦ none ]
        ])) d.2,
  )
  taken_between s (t ∷ us) {n} vs e w c d u apart = (
    w.ahead s (λ is.
        let A : ℕ → Type 0 = λ z. Mem z (t ∷ us) in
        u.0 (mem_left (t ∷ us) vs s (subst A (sym is) (before_in N P t us n c.2)))) ∙ c.0,
    w.back t (λ is.
        let A : ℕ → Type 0 = λ z. Mem z (vs ++ e ∷ []) in
        elim (mem_cases vs (e ∷ []) t (subst A (sym is) (after_in N P n vs e d))) [
          | inl a ↦ u.1.0 (mem_right us vs t a)
          | inr b ↦ elim b [ inl same ↦ apart (inl (sym same)) | inr none ↦ none ]
        ]) ∙ c.1,
    taken_between t us vs e w c.2 d u.1 (λ m. apart (inr m)),
  )

  pub take_member : (n : ℕ) (us vs : List ℕ) (e : ℕ)
      → IsTaken n → IsLinkChain N P e (us ++ n ∷ vs) e → Unique (e ∷ (us ++ vs)) → IsLinkChain M Q e (us ++ vs) e
  take_member n us vs e w c u =
      taken_between e us vs e w (chain_left N P e us n vs e c) (chain_right N P e us n vs e c) u u.0

  -- n is renamed to m
  pub record IsRenamed (n m : ℕ) : Type 0 where
    pub to : M (P n) ≡ m
    pub on : M m ≡ N n
    pub ahead : (k : ℕ) → k ≢ P n → k ≢ m → M k ≡ N k
    pub from : Q m ≡ P n
    pub back_to : Q (N n) ≡ m
    pub back : (k : ℕ) → k ≢ m → k ≢ N n → Q k ≡ P k

  renamed_left : (s : ℕ) (us : List ℕ) {n m : ℕ} (vs : List ℕ) (e : ℕ) → IsRenamed n m → IsLinkChain N P s us n
      → IsLinkChain N P n vs e → Unique (s ∷ (us ++ vs)) → (Mem e (us ++ vs) → ⊥) → (Mem m (s ∷ us) → ⊥)
      → IsLinkChain M Q s us m
  renamed_left s [] vs e w c d u apart fresh = (ap M (sym c.1) ∙ w.to, w.from ∙ c.1)
  renamed_left s (t ∷ us) {n} vs e w c d u apart fresh = (
    w.ahead s (λ is.
        let A : ℕ → Type 0 = λ z. Mem z (t ∷ us) in
        u.0 (mem_left (t ∷ us) vs s (subst A (sym is) (before_in N P t us n c.2)))) (λ is. fresh (inl (sym is))) ∙ c.0,
    w.back t (λ is. fresh (inr (inl (sym is)))) (λ is.
        let A : ℕ → Type 0 = λ z. Mem z (vs ++ e ∷ []) in
        elim (mem_cases vs (e ∷ []) t (subst A (sym is) (after_in N P n vs e d))) [
          | inl a ↦ u.1.0 (mem_right us vs t a)
          | inr b ↦ elim b [ inl same ↦ apart (inl (sym same)) | inr none ↦ none ]
        ]) ∙ c.1,
    renamed_left t us vs e w c.2 d u.1 (λ h. apart (inr h)) (λ h. fresh (inr h)),
  )

  renamed_right : (n m : ℕ) (vs : List ℕ) (e : ℕ) → IsRenamed n m → IsLinkChain N P n vs e
      → (Mem (P n) vs → ⊥) → (Mem m (vs ++ e ∷ []) → ⊥) → Unique (vs ++ e ∷ []) → IsLinkChain M Q m vs e
  renamed_right n m [] e w d apart fresh u = (w.on ∙ d.0, ap Q (sym d.0) ∙ w.back_to)
  renamed_right n m (v ∷ vs) e w d apart fresh u = (
    w.on ∙ d.0,
    ap Q (sym d.0) ∙ w.back_to,
    chain_same v vs e (λ k h.
        let A : ℕ → Type 0 = λ z. Mem z (v ∷ vs) in
        w.ahead k (λ is. apart (subst A is h)) (λ is. fresh (mem_left (v ∷ vs) (e ∷ []) m (subst A is h)))) (λ k h.
        let B : ℕ → Type 0 = λ z. Mem z (vs ++ e ∷ []) in
        w.back k (λ is. fresh (inr (subst B is h))) (λ is. u.0 (subst B (is ∙ d.0) h))) d.2,
  )

  pub rename_member : (n m : ℕ) (us vs : List ℕ) (e : ℕ) → IsRenamed n m → IsLinkChain N P e (us ++ n ∷ vs) e
      → Unique (e ∷ (us ++ vs)) → (Mem m (e ∷ (us ++ n ∷ vs)) → ⊥) → IsLinkChain M Q e (us ++ m ∷ vs) e
  rename_member n m us vs e w c u' fresh =
      let left = chain_left N P e us n vs e c in
      let right = chain_right N P e us n vs e c in
      let no_end : Mem e vs → ⊥ = λ h. u'.0 (mem_right us vs e h) in
      let last : Unique (vs ++ e ∷ []) = unique_last vs e (unique_right us vs u'.1) no_end in
      let apart : Mem (P n) vs → ⊥ = λ h. elim (before_in N P e us n left) [
        | inl is ↦ no_end (let A : ℕ → Type 0 = λ z. Mem z vs in subst A is h)
        | inr b ↦ unique_cross us vs u'.1 (P n) b h
      ] in
      let fresh_left : Mem m (e ∷ us) → ⊥ = λ h. elim h [
        | inl is ↦ fresh (inl is)
        | inr b ↦ fresh (inr (mem_left us (n ∷ vs) m b))
      ] in
      let fresh_right : Mem m (vs ++ e ∷ []) → ⊥ = λ h. elim (mem_cases vs (e ∷ []) m h) [
        | inl a ↦ fresh (inr (mem_right us (n ∷ vs) m (inr a)))
        | inr b ↦ elim b [ inl is ↦ fresh (inl is) | inr none ↦ none ]
      ] in
      chain_append M Q e us m vs e (renamed_left e us vs e w left right u' u'.0 fresh_left)
      (renamed_right n m vs e w right apart fresh_right last)

-- where a node leads
pub neighbor_end : (end outer : ℕ) (links : List ℕ) → neighbor end outer links end ≡ outer
neighbor_end end outer links = cond-true {A = ℕ} (eqb end end) outer (get_or links end end) (eq-eqb end end refl)

pub neighbor_node : (end outer : ℕ) (links : List ℕ) (n : ℕ) → n ≢ end → neighbor end outer links n ≡ get_or links n end
neighbor_node end outer links n real = cond-false {A = ℕ} (eqb n end) outer (get_or links n end) (ne_eqb n end real)

walk_on : (end first : ℕ) (next : List ℕ) (P : ℕ → ℕ) (p : ℕ) (xs : List ℕ) (q : ℕ)
    → IsLinkChain (neighbor end first next) P p xs q → (Mem end xs → ⊥)
    → nodes_from end next (neighbor end first next p) (length xs) ≡ xs
walk_on end first next P p [] q c real = refl
walk_on end first next P p (x ∷ xs) q c real =
    let on : neighbor end first next x ≡ get_or next x end = neighbor_node end first next x (λ e. real (inl (sym e))) in
    ap (λ z. nodes_from end next z (suc (length xs))) c.0
    ∙ ap (λ (z : List ℕ). x ∷ z)
    (ap (λ z. nodes_from end next z (length xs)) (sym on) ∙ walk_on end first next P x xs q c.2 (λ m. real (inr m)))

pub walk_is : (end first : ℕ) (next : List ℕ) (P : ℕ → ℕ) (xs : List ℕ)
    → IsLinkChain (neighbor end first next) P end xs end → (Mem end xs → ⊥) → nodes_from end next first (length xs) ≡ xs
walk_is end first next P xs c real =
    ap (λ z. nodes_from end next z (length xs)) (sym (neighbor_end end first next))
    ∙ walk_on end first next P end xs end c real
