-- Listing the children of a node, and of several nodes.
use Rattle.std.proofs.Common.{◌≡◌, ℕ, ◌+◌, ◌<◌, ◌≤◌, ◌⊎◌, ◌↔◌, inl, inr, List, [], ◌∷◌, ◌++◌, length, take, drop, get_or}
use Rattle.std.proofs.Common.{refl, sym, ap, subst, ◌∙◌, arith, Contains}
use Rattle.std.proofs.lemmas.List.{take_more, take_all, take-append-drop}
use Rattle.daggy_base.specs.Graph.{Graph, out_list}
use Rattle.daggy_base.specs.Ordered.{edges_from}
use Rattle.daggy_base.specs.Path.{AreJoined}
use Rattle.daggy_base.proofs.Lists.{Mem, mem_left, mem_right, mem_cases, mem_contains, contains_mem}
use Rattle.daggy_reduction.specs.Descendants.{IsChildOfAny}

last_cases : (xs : List ℕ) (y n : ℕ) → Mem n (xs ++ y ∷ []) → Mem n xs ⊎ (n ≡ y)
last_cases xs y n m =
    elim (mem_cases xs (y ∷ []) n m) [
      | inl a ↦ inl a
      | inr b ↦ elim b [ inl e ↦ inr e | inr none ↦ absurd none ]
    ]

-- behind what was listed before, only children of u are listed
pub record Listing {N E : Type 0} (g : Graph N E) (u : ℕ) (before now : List ℕ) : Type 0 where
  pub only : (n : ℕ) → Mem n now → Mem n before ⊎ AreJoined g u n
  pub kept : (n : ℕ) → Mem n before → Mem n now

pub list_one : {N E : Type 0} {g : Graph N E} {u : ℕ} {before now : List ℕ}
    → Listing g u before now → (v : ℕ) → AreJoined g u v → Listing g u before (now ++ v ∷ [])
list_one {N} {E} {g} {u} {before} {now} s v joined =
    record {
      only = λ n m. elim (last_cases now v n m) [
        | inl earlier ↦ s.only n earlier
        | inr here ↦ (let J : ℕ → Type 0 = λ z. AreJoined g u z in inr (subst J (sym here) joined))
      ];
      kept = λ n m. mem_left now (v ∷ []) n (s.kept n m);
    }

pub edges_from_more : {N E : Type 0} (g : Graph N E) (us : List ℕ) (u : ℕ)
    → edges_from g (us ++ u ∷ []) ≡ edges_from g us + length (out_list g u)
edges_from_more g [] u = omega arith
edges_from_more g (x ∷ us) u = omega (arith, edges_from_more g us u)

-- the children of the first `seen` given nodes are listed, and the edges of these nodes were looked at
pub record ListingAll {N E : Type 0} (g : Graph N E) (given : List ℕ) (seen : ℕ) (listed : List ℕ) : Type 0 where
  pub only : (n : ℕ) → Mem n listed → (a : ℕ) × Mem a (take seen given) × AreJoined g a n
  pub kept : (a n : ℕ) → Mem a (take seen given) → AreJoined g a n → Mem n listed

module _ {N E : Type 0} {g : Graph N E} {given : List ℕ} {seen : ℕ} {listed : List ℕ}
    (s : ListingAll g given seen listed) (low : seen < length given) {u : ℕ} (is : u ≡ get_or given seen u) where
  more : take (seen + 1) given ≡ take seen given ++ u ∷ []
  more = take_more given seen u low ∙ ap (λ z. take seen given ++ z ∷ []) (sym is)

  pub list_children : {listed' : List ℕ}
      → ((n : ℕ) → Contains listed' n ↔ (Contains listed n ⊎ AreJoined g u n)) → ListingAll g given (seen + 1) listed'
  list_children {listed'} exact =
      record {
        only = λ n m. (
            let P : ℕ → Type 0 = λ a. Mem a (take (seen + 1) given) in
            let Q : List ℕ → ℕ → Type 0 = λ z a. Mem a z in
            elim ((exact n).0 (mem_contains listed' n m)) [
              | inl earlier ↦ (
                  let found = s.only n (contains_mem listed n earlier) in
                  (found.0, subst (λ z. Q z found.0) (sym more) (mem_left (take seen given) (u ∷ []) found.0 found.1), found.2)
                  )
              | inr joined ↦ (u, subst (λ z. Q z u) (sym more) (mem_right (take seen given) (u ∷ []) u (inl refl)), joined)
            ]
            );
        kept = λ a n m joined. (
            let Q : List ℕ → Type 0 = λ z. Mem a z in
            contains_mem listed' n ((exact n).1 (elim (last_cases (take seen given) u a (subst Q more m)) [
              | inl earlier ↦ inl (mem_contains listed n (s.kept a n earlier joined))
              | inr here ↦ (let J : ℕ → Type 0 = λ z. AreJoined g z n in inr (subst J here joined))
            ]))
            );
      }

  pub edges_more : edges_from g (take (seen + 1) given) ≡ edges_from g (take seen given) + length (out_list g u)
  edges_more = ap (edges_from g) more ∙ edges_from_more g (take seen given) u

pub list_none : {N E : Type 0} (g : Graph N E) (given : List ℕ) → ListingAll g given 0 []
list_none g given =
    record { only = λ n m. absurd m; kept = λ a n m joined. absurd (none given a m) }
  where
    none : (xs : List ℕ) (a : ℕ) → Mem a (take 0 xs) → ⊥
    none [] a m = m
    none (x ∷ xs) a m = m

pub all_listed : {N E : Type 0} {g : Graph N E} {given : List ℕ} {seen : ℕ} {listed : List ℕ}
    → ListingAll g given seen listed → length given ≤ seen
    → (n : ℕ) → Contains listed n ↔ IsChildOfAny g given n
all_listed {N} {E} {g} {given} {seen} {listed} s past n =
    let whole : take seen given ≡ given = take_all seen given past in (
      λ c. (
          let found = s.only n (contains_mem listed n c) in
          let Q : List ℕ → Type 0 = λ z. Mem found.0 z in
          (found.0, mem_contains given found.0 (subst Q whole found.1), found.2)
          ),
      λ child. (
          let Q : List ℕ → Type 0 = λ z. Mem child.0 z in
          mem_contains listed n (s.kept child.0 n (subst Q (sym whole) (contains_mem given child.0 child.1)) child.2)
          ),
    )

edges_from_append : {N E : Type 0} (g : Graph N E) (us vs : List ℕ)
    → edges_from g (us ++ vs) ≡ edges_from g us + edges_from g vs
edges_from_append g [] vs = omega arith
edges_from_append g (x ∷ us) vs = omega (arith, edges_from_append g us vs)

pub edges_from_take : {N E : Type 0} (g : Graph N E) (k : ℕ) (us : List ℕ)
    → edges_from g (take k us) ≤ edges_from g us
edges_from_take g k us =
    omega (arith, edges_from_append g (take k us) (drop k us), ap (edges_from g) (take-append-drop k us))
