-- Nodes each of which is the start or a neighbor of a node before it.
use Rattle.std.proofs.Common.{◌≡◌, ℕ, ◌≤◌, true, inl, inr, List, [], ◌∷◌, ◌++◌, length, refl, sym, ap, subst, ◌∙◌}
use Rattle.std.proofs.Common.{append_assoc}
use Rattle.std.proofs.lemmas.List.{append-nil}
use Rattle.daggy_base.specs.declared.index.Direction.{Direction}
use Rattle.daggy_base.specs.Graph.{Graph, node_bound}
use Rattle.daggy_base.specs.WellFormed.{IsWellFormed}
use Rattle.daggy_base.proofs.Lists.{Mem, Unique, mem_left, mem_right, mem_cases, fewer_than}
use Rattle.daggy_base.proofs.OutEdgesRead.{below_bound}
use Rattle.daggy_traversal.specs.Traversal.{LeadsFar, neighbors, neighbors_of, begin, is_among, are_found}
use Rattle.daggy_traversal.proofs.Begin.{begin_only}
use Rattle.daggy_traversal.proofs.Edges.{neighbor_leads}
use Rattle.daggy_traversal.proofs.Members.{among_mem, mem_among, and_left, and_right, and_both}
use Rattle.daggy_traversal.proofs.Reaching.{leads_farther, leads_nowhere, far_exists}

pub neighbors_of_append : {N E : Type 0} (dir : Direction) (g : Graph N E) (xs ys : List ℕ)
    → neighbors_of dir g (xs ++ ys) ≡ neighbors_of dir g xs ++ neighbors_of dir g ys
neighbors_of_append dir g [] ys = refl
neighbors_of_append dir g (x ∷ xs) ys =
    ap (λ z. neighbors dir g x ++ z) (neighbors_of_append dir g xs ys)
    ∙ sym (append_assoc (neighbors dir g x) (neighbors_of dir g xs) (neighbors_of dir g ys))

pub neighbors_of_has : {N E : Type 0} (dir : Direction) (g : Graph N E) (xs : List ℕ) (u v : ℕ)
    → Mem u xs → Mem v (neighbors dir g u) → Mem v (neighbors_of dir g xs)
neighbors_of_has dir g [] u v m n = absurd m
neighbors_of_has dir g (x ∷ xs) u v m n =
    elim m [
      | inl same ↦ mem_left (neighbors dir g x) (neighbors_of dir g xs) v
          (let P : ℕ → Type 0 = λ z. Mem v (neighbors dir g z) in subst P same n)
      | inr there ↦ mem_right (neighbors dir g x) (neighbors_of dir g xs) v (neighbors_of_has dir g xs u v there n)
    ]

neighbor_of_some : {N E : Type 0} (dir : Direction) (g : Graph N E) (xs : List ℕ) (v : ℕ)
    → Mem v (neighbors_of dir g xs) → (u : ℕ) × Mem u xs × Mem v (neighbors dir g u)
neighbor_of_some dir g [] v m = absurd m
neighbor_of_some dir g (x ∷ xs) v m =
    elim (mem_cases (neighbors dir g x) (neighbors_of dir g xs) v m) [
      | inl here ↦ (x, inl refl, here)
      | inr later ↦ (let r = neighbor_of_some dir g xs v later in (r.0, inr r.1, r.2))
    ]

module _ {N E : Type 0} (dir : Direction) (g : Graph N E) (start : ℕ) where
  pub found_first : (before : List ℕ) (x : ℕ) (xs : List ℕ) → are_found dir g start before (x ∷ xs) ≡ true
      → Mem x (begin g start ++ neighbors_of dir g before)
  found_first before x xs h =
      among_mem (begin g start ++ neighbors_of dir g before) x
      (and_left (is_among (begin g start ++ neighbors_of dir g before) x)
      (are_found dir g start (before ++ x ∷ []) xs) h)

  pub found_rest : (before : List ℕ) (x : ℕ) (xs : List ℕ) → are_found dir g start before (x ∷ xs) ≡ true
      → are_found dir g start (before ++ x ∷ []) xs ≡ true
  found_rest before x xs h =
      and_right (is_among (begin g start ++ neighbors_of dir g before) x)
      (are_found dir g start (before ++ x ∷ []) xs) h

  pub found_push : (before xs : List ℕ) (n : ℕ) → are_found dir g start before xs ≡ true
      → Mem n (begin g start ++ neighbors_of dir g (before ++ xs)) → are_found dir g start before (xs ++ n ∷ []) ≡ true
  found_push before [] n h m =
      let P : List ℕ → Type 0 = λ z. Mem n (begin g start ++ neighbors_of dir g z) in
      and_both (is_among (begin g start ++ neighbors_of dir g before) n) true
      (mem_among (begin g start ++ neighbors_of dir g before) n (subst P (append-nil before) m)) refl
  found_push before (x ∷ xs) n h m =
      let P : List ℕ → Type 0 = λ z. Mem n (begin g start ++ neighbors_of dir g z) in
      and_both (is_among (begin g start ++ neighbors_of dir g before) x)
      (are_found dir g start (before ++ x ∷ []) (xs ++ n ∷ []))
      (mem_among (begin g start ++ neighbors_of dir g before) x (found_first before x xs h))
      (found_push (before ++ x ∷ []) xs n (found_rest before x xs h)
      (subst P (sym (append_assoc before (x ∷ []) xs)) m))

module _ {N E : Type 0} {end : ℕ} {g : Graph N E} (w : IsWellFormed end g) (dir : Direction) (start : ℕ) where
  pub found_far : (before xs : List ℕ) → ((x : ℕ) → Mem x before → LeadsFar dir g start x)
      → are_found dir g start before xs ≡ true → (x : ℕ) → Mem x (before ++ xs) → LeadsFar dir g start x
  found_far before [] far h x m =
      let P : List ℕ → Type 0 = λ z. Mem x z in far x (subst P (append-nil before) m)
  found_far before (y ∷ ys) far h x m =
      let P : List ℕ → Type 0 = λ z. Mem x z in
      found_far (before ++ y ∷ []) ys (λ z k. elim (mem_cases before (y ∷ []) z k) [
        | inl old ↦ far z old
        | inr new ↦ elim new [
          | inl same ↦ (let Q : ℕ → Type 0 = λ a. LeadsFar dir g start a in subst Q (sym same) (here before far y (found_first dir g start before y ys h)))
          | inr none ↦ absurd none
        ]
      ]) (found_rest dir g start before y ys h) x (subst P (sym (append_assoc before (y ∷ []) ys)) m)
    where
      here : (before : List ℕ) → ((x : ℕ) → Mem x before → LeadsFar dir g start x) → (y : ℕ)
          → Mem y (begin g start ++ neighbors_of dir g before) → LeadsFar dir g start y
      here before far y m =
          elim (mem_cases (begin g start) (neighbors_of dir g before) y m) [
            | inl first ↦ (
                let o = begin_only g start y first in
                let Q : ℕ → Type 0 = λ a. LeadsFar dir g start a in
                subst Q (sym o.0) (leads_nowhere g dir start o.1)
                )
            | inr later ↦ (
                let r = neighbor_of_some dir g before y later in
                leads_farther w dir start r.0 y (far r.0 r.1) (neighbor_leads w dir r.0 y r.2)
                )
          ]

  -- they are at most as many as the graph has indices
  pub given_few : (given : List ℕ)
      → Unique given → ((x : ℕ) → Mem x given → LeadsFar dir g start x) → length given ≤ node_bound g
  given_few given once far =
      fewer_than given (node_bound g) once (λ x m. below_bound g.nodes x (far_exists g dir start x (far x m)))
