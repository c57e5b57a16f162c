-- The edges left when edges are removed from the highest index down: no edge below the index just removed is renamed.
use Rattle.std.proofs.Common.{◌≡◌, ◌≢◌, ℕ, zero, suc, ◌-◌, ◌<◌, ◌⊎◌, ◌↔◌, inl, inr, List, [], ◌∷◌, length, get_or, set}
use Rattle.std.proofs.Common.{take, Option, Some, None, refl, sym, ap, subst, ◌∙◌, arith}
use Rattle.std.proofs.lemmas.Bool.{cases_eq}
use Rattle.std.proofs.lemmas.Option.{same_Some}
use Rattle.daggy_base.specs.Graph.{Graph, Edge, HasNode, edge_at, slot}
use Rattle.daggy_base.specs.Removal.{without_edge, without_edges}
use Rattle.daggy_base.specs.declared.kind.Kind.{Kind}
use Rattle.daggy_base.specs.declared.kind.Kind.TheVariants.{Compact, Stable}
use Rattle.daggy_base.specs.Reduction.{IsDescending, IsReduction, IsBelow, ReachesIndirectly}
use Rattle.daggy_base.proofs.Lists.{Mem, contains_mem, mem_contains}
use Rattle.daggy_base.proofs.PathsWithoutEdge.{slot_of}
use Rattle.daggy_reduction.proofs.LostPairs.{LosesRoundPairs}

pub slot_inside : {A : Type 0} (xs : List (Option A)) (i : ℕ) (y : A) → slot xs i ≡ Some y → i < length xs
slot_inside [] i y h = absurd cc
slot_inside (x ∷ xs) zero y h = omega arith
slot_inside (x ∷ xs) (suc i) y h = let more = slot_inside xs i y h in omega (arith, more)

pub slot_front : {A : Type 0} (xs : List (Option A)) (n i : ℕ) → i < n → slot (take n xs) i ≡ slot xs i
slot_front [] zero i p = refl
slot_front [] (suc n) i p = refl
slot_front (x ∷ xs) zero i p = absurd (omega arith)
slot_front (x ∷ xs) (suc n) zero p = refl
slot_front (x ∷ xs) (suc n) (suc i) p = slot_front xs n i (omega arith)

slot_front_within : {A : Type 0} (xs : List (Option A)) (n i : ℕ) (y : A) → slot (take n xs) i ≡ Some y → i < n
slot_front_within [] zero i y h = absurd cc
slot_front_within [] (suc n) i y h = absurd cc
slot_front_within (x ∷ xs) zero i y h = absurd cc
slot_front_within (x ∷ xs) (suc n) zero y h = omega arith
slot_front_within (x ∷ xs) (suc n) (suc i) y h = let more = slot_front_within xs n i y h in omega (arith, more)

pub slot_set_same : {A : Type 0} (xs : List (Option A)) (i : ℕ) (o : Option A) → i < length xs → slot (set xs i o) i ≡ o
slot_set_same [] i o within = absurd (omega arith)
slot_set_same (x ∷ xs) zero o within = refl
slot_set_same (x ∷ xs) (suc i) o within = slot_set_same xs i o (omega arith)

pub slot_set_other : {A : Type 0} (xs : List (Option A)) (i f : ℕ) (o : Option A)
    → f ≢ i → slot (set xs i o) f ≡ slot xs f
slot_set_other [] zero f o other = refl
slot_set_other [] (suc i) f o other = refl
slot_set_other (x ∷ xs) zero zero o other = absurd (other refl)
slot_set_other (x ∷ xs) zero (suc f) o other = refl
slot_set_other (x ∷ xs) (suc i) zero o other = refl
slot_set_other (x ∷ xs) (suc i) (suc f) o other = slot_set_other xs i f o (λ e. other (ap suc e))

pub slot_or : {A : Type 0} (xs : List (Option A)) (i : ℕ) (y : A) → slot xs i ≡ Some y → get_or xs i None ≡ Some y
slot_or [] i y h = absurd cc
slot_or (x ∷ xs) zero y h = h
slot_or (x ∷ xs) (suc i) y h = slot_or xs i y h

-- an emptied slot holds nothing
pub slot_emptied : {A : Type 0} (xs : List (Option A)) (i : ℕ) (y : A) → slot (set xs i None) i ≡ Some y → ⊥
slot_emptied [] zero y h = cc
slot_emptied [] (suc i) y h = cc
slot_emptied (x ∷ xs) zero y h = cc
slot_emptied (x ∷ xs) (suc i) y h = slot_emptied xs i y h

module _ {N E : Type 0} (g : Graph N E) (d : ℕ) where
  -- an edge that is left stood where it stands, or came from behind
  left_before : (kind : Kind) (i : ℕ) (x : Edge E)
      → edge_at (without_edge kind g d) i ≡ Some x → (j : ℕ) × (edge_at g j ≡ Some x) × (j ≢ d) × ((j ≡ i) ⊎ (d < j))
  left_before Stable i x h =
      elim (cases_eq i d) [
        | inl e ↦
            (let P : ℕ → Type 0 = λ z. edge_at (without_edge Stable g d) z ≡ Some x in
            absurd (slot_emptied g.edges d x (subst P e h)))
        | inr other ↦ (i, sym (slot_set_other g.edges d i None other) ∙ h, other, inl refl)
      ]
  left_before Compact i x h =
      let last = length g.edges - 1 in
      let moved = get_or g.edges last None in
      let within : i < last = slot_front_within (set g.edges d moved) last i x h in
      let written : slot (set g.edges d moved) i ≡ Some x = sym (slot_front (set g.edges d moved) last i within) ∙ h in
      elim (cases_eq i d) [
        | inl e ↦ (
            let low : d < length g.edges = omega (arith, within, e) in
            let P : ℕ → Type 0 = λ z. slot (set g.edges d moved) z ≡ Some x in
            let is : moved ≡ Some x = sym (slot_set_same g.edges d moved low) ∙ subst P e written in
            (last, slot_of g.edges last x is, (λ k. omega (arith, within, e, k)), inr (omega (arith, within, e)))
            )
        | inr other ↦ (i, sym (slot_set_other g.edges d i moved other) ∙ written, other, inl refl)
      ]

  -- another edge is left where it stood, or in the place of the removed one
  left_after : (kind : Kind) (j : ℕ) (x : Edge E) → d < length g.edges → edge_at g j ≡ Some x → j ≢ d
      → (i : ℕ) × (edge_at (without_edge kind g d) i ≡ Some x) × ((i ≡ j) ⊎ (i ≡ d))
  left_after Stable j x low h other = (j, slot_set_other g.edges d j None other ∙ h, inl refl)
  left_after Compact j x low h other =
      let last = length g.edges - 1 in
      let moved = get_or g.edges last None in
      let inside = slot_inside g.edges j x h in
      elim (cases_eq j last) [
        | inl e ↦ (
            let P : ℕ → Type 0 = λ z. slot g.edges z ≡ Some x in
            let is : moved ≡ Some x = slot_or g.edges last x (subst P e h) in
            let apart : d ≢ last = λ k. other (e ∙ sym k) in
            let front : d < last = omega (arith, low, inside, e, apart) in
            (d, slot_front (set g.edges d moved) last d front ∙ slot_set_same g.edges d moved low ∙ is, inr refl)
            )
        | inr apart ↦ (
            let front : j < last = omega (arith, inside, apart) in
            (j, slot_front (set g.edges d moved) last j front ∙ slot_set_other g.edges d j moved other ∙ h, inl refl)
            )
      ]

  -- below the removed one each edge stands where it stood
  pub left_below : (kind : Kind) (e : ℕ) → d < length g.edges → e < d → edge_at (without_edge kind g d) e ≡ edge_at g e
  left_below Stable e low under = slot_set_other g.edges d e None (λ k. omega (arith, under, k))
  left_below Compact e low under =
      let last = length g.edges - 1 in
      let moved = get_or g.edges last None in
      slot_front (set g.edges d moved) last e (omega (arith, low, under))
      ∙ slot_set_other g.edges d e moved (λ k. omega (arith, under, k))

  node_left : (kind : Kind) (n : ℕ) → HasNode (without_edge kind g d) n ↔ HasNode g n
  node_left Compact n = (λ h. h, λ h. h)
  node_left Stable n = (λ h. h, λ h. h)

pub below_first : (d : ℕ) (ds : List ℕ) → IsDescending (d ∷ ds) → (y : ℕ) → Mem y ds → y < d
below_first d [] s y m = absurd m
below_first d (e ∷ ds) s y m =
    elim m [
      | inl here ↦ omega (arith, s.0, here)
      | inr later ↦ let low = below_first e ds s.1 y later in omega (arith, s.0, low)
    ]

pub descending_rest : (d : ℕ) (ds : List ℕ) → IsDescending (d ∷ ds) → IsDescending ds
descending_rest d [] s = tt
descending_rest d (e ∷ ds) s = s.1

module _ {N E : Type 0} (kind : Kind) where
  pub survivor_before : (ds : List ℕ) (g : Graph N E) → IsDescending ds → (i : ℕ) (x : Edge E)
      → edge_at (without_edges kind g ds) i ≡ Some x → (j : ℕ) × (edge_at g j ≡ Some x) × (Mem j ds → ⊥)
  survivor_before [] g s i x h = (i, h, λ m. m)
  survivor_before (d ∷ ds) g s i x h =
      let later = survivor_before ds (without_edge kind g d) (descending_rest d ds s) i x h in
      let here = left_before g d kind later.0 x later.1 in
      let P : ℕ → Type 0 = λ z. Mem z ds in (
        here.0,
        here.1,
        λ m. elim m [
          | inl e ↦ here.2 e
          | inr among ↦ elim here.3 [
            | inl same ↦ later.2 (subst P same among)
            | inr behind ↦ (let low = below_first d ds s here.0 among in omega (arith, low, behind))
          ]
        ],
      )

  pub survivor_after : (ds : List ℕ) (g : Graph N E) → IsDescending ds
      → ((d : ℕ) → Mem d ds → (x : Edge E) × (edge_at g d ≡ Some x)) → (j : ℕ) (x : Edge E) → edge_at g j ≡ Some x
      → (Mem j ds → ⊥) → (i : ℕ) × (edge_at (without_edges kind g ds) i ≡ Some x)
  survivor_after [] g s exist j x h out = (j, h)
  survivor_after (d ∷ ds) g s exist j x h out =
      let first = exist d (inl refl) in
      let low = slot_inside g.edges d first.0 first.1 in
      let here = left_after g d kind j x low h (λ e. out (inl e)) in
      let still : (e : ℕ) → Mem e ds → (y : Edge E) × (edge_at (without_edge kind g d) e ≡ Some y) = λ e m. (
      let before = exist e (inr m) in
      (before.0, left_below g d kind e low (below_first d ds s e m) ∙ before.1)
      ) in
      let gone : Mem here.0 ds → ⊥ = λ m. (
      let P : ℕ → Type 0 = λ z. Mem z ds in
      elim here.2 [
        | inl same ↦ out (inr (subst P same m))
        | inr there ↦ (let under = below_first d ds s here.0 m in omega (arith, under, there))
      ]
      ) in
      survivor_after ds (without_edge kind g d) (descending_rest d ds s) still here.0 x here.1 gone

  pub nodes_after : (ds : List ℕ) (g : Graph N E) (n : ℕ) → HasNode (without_edges kind g ds) n ↔ HasNode g n
  nodes_after [] g n = (λ h. h, λ h. h)
  nodes_after (d ∷ ds) g n =
      let later = nodes_after ds (without_edge kind g d) n in
      let here = node_left g d kind n in
      (λ h. here.0 (later.0 h), λ h. later.1 (here.1 h))

mem_or_not : (x : ℕ) (xs : List ℕ) → Mem x xs ⊎ (Mem x xs → ⊥)
mem_or_not x [] = inr (λ m. m)
mem_or_not x (y ∷ ys) =
    elim (cases_eq x y) [
      | inl e ↦ inl (inl e)
      | inr other ↦ elim (mem_or_not x ys) [
        | inl m ↦ inl (inr m)
        | inr out ↦ inr (λ m. elim m [ inl e ↦ other e | inr k ↦ out k ])
      ]
    ]

-- a reduction loses exactly the pairs that a longer way makes redundant
pub reduction_loses : {N E : Type 0} (kind : Kind) (roots : List ℕ) (old new : Graph N E)
    → IsReduction kind roots old new → LosesRoundPairs roots old new
reduction_loses {N} {E} kind roots old new r =
    let ds = r.redundant in
    let P : Graph N E → Type 0 = λ z. LosesRoundPairs roots old z in
    subst P (sym r.removed) (record {
      nodes = λ n. (let same = nodes_after kind ds old n in (same.1, same.0));
      joined = λ u v j. (let before = survivor_before kind ds old r.descending j.0 _ j.2 in (before.0, j.1, before.1));
      kept = λ u v j. elim (mem_or_not j.0 ds) [
        | inl m ↦ (
            let redundant = (r.exact j.0).0 (mem_contains ds j.0 m) in
            let same : redundant.edge ≡ record { parent = u; child = v; weight = j.1 } =
            same_Some _ _ (sym redundant.at ∙ j.2) in
            let B : Edge E → Type 0 = λ x. IsBelow old roots x.parent in
            let R : Edge E → Type 0 = λ x. ReachesIndirectly old x.parent x.child in
            inr (subst B same redundant.below, subst R same redundant.round)
            )
        | inr out ↦
            (let after = survivor_after kind ds old r.descending exist j.0 _ j.2 out in inl (after.0, j.1, after.1))
      ];
      lost = λ u v j below round. (
          let before = survivor_before kind ds old r.descending j.0 _ j.2 in
          before.2 (contains_mem ds before.0
          ((r.exact before.0).1 (record { edge = _; at = before.1; below = below; round = round })))
          );
    })
  where
    exist : (d : ℕ) → Mem d r.redundant → (x : Edge E) × (edge_at old d ≡ Some x)
    exist d m = let redundant = (r.exact d).0 (mem_contains r.redundant d m) in (redundant.edge, redundant.at)
