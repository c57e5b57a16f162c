-- The edges between components, kept one after another.
use Rattle.std.proofs.Common.{◌≡◌, ◌≢◌, ℕ, zero, suc, ◌+◌, ◌<◌, ◌≤◌, inl, inr, List, [], ◌∷◌, ◌++◌, length, drop}
use Rattle.std.proofs.Common.{get_or, Option, Some, None, IsSome, refl, sym, ap, subst, ◌∙◌, arith}
use Rattle.std.proofs.Common.{append_assoc}
use Rattle.std.specs.List.{concat}
use Rattle.std.specs.Prelude.{Contains, option_copied}
use Rattle.std.specs.Borrow.{Bor}
use Rattle.std.proofs.lemmas.List.{drop_more, drop_all, append-nil}
use Rattle.daggy_base.specs.Graph.{Graph, Edge, HasNode, slot, edge_at}
use Rattle.daggy_base.specs.WellFormed.{IsWellFormed}
use Rattle.daggy_base.specs.Mapping.{CalledAt}
use Rattle.daggy_base.proofs.EdgeEnds.{HasEnds}
use Rattle.daggy_base.proofs.Lists.{Mem, contains_mem, mem_contains, unique_from_distinct}
use Rattle.daggy_base.proofs.OutEdgesRead.{slot_get_or}
use Rattle.daggy_base.proofs.PathsWithoutEdge.{slot_of}
use Rattle.daggy_components.specs.Components.{AreComponents, component}
use Rattle.daggy_components.proofs.Gathering.{same_component}
use Rattle.daggy_components.proofs.Tallies.{component_of}
use Rattle.daggy_condensation.specs.Between.{LiesWithin, Crosses, JoinsComponents, KeepsBetween}

-- what a store shows of a weight

pub is_shown : {A : Type 0} (shown : Option (Bor A)) (w : A) → option_copied shown ≡ Some w → IsSome shown
is_shown None w h = absurd cc
is_shown (Some s) w h = refl

pub shows_weight : {A : Type 0} (shown : Bor A) (w : A) → option_copied (Some shown) ≡ Some w → shown.now ≡ w
shows_weight shown w h = cc

-- a component with a member is one of them
pub component_low : (cs : List (List ℕ)) (k v : ℕ) → Contains (component cs k) v → k < length cs
component_low cs k v m = within cs k (contains_mem (component cs k) v m)
  where
    within : (ds : List (List ℕ)) (i : ℕ) → Mem v (component ds i) → i < length ds
    within [] i i_in = absurd i_in
    within (d ∷ ds) zero i_in = omega arith
    within (d ∷ ds) (suc i) i_in = let h = within ds i i_in in omega (arith, h)

-- the components of the ends of an edge, in the words of the code
module _ {N E : Type 0} {end : ℕ} {g : Graph N E} {cs : List (List ℕ)} (w : IsWellFormed end g) (are : AreComponents g cs)
    (e : ℕ) (p : ℕ × ℕ) (ends : HasEnds (edge_at g e) p) where
  has_component : (n : ℕ) → HasNode g n → (k : ℕ) × Contains (component cs k) n
  has_component n h =
      let q = component_of cs n (contains_mem (concat cs) n ((are.exact n).1 h)) in
      (q.0, mem_contains (component cs q.0) n q.2)

  pub parent_in : (k : ℕ) × Contains (component cs k) p.0
  parent_in =
      let P : ℕ → Type 0 = λ z. HasNode g z in
      has_component p.0 (subst P (sym ends.2) (w.parents e ends.0 ends.1))

  pub child_in : (k : ℕ) × Contains (component cs k) p.1
  child_in =
      let P : ℕ → Type 0 = λ z. HasNode g z in
      has_component p.1 (subst P (sym ends.3) (w.children e ends.0 ends.1))

  module _ (j k : ℕ) (from : Contains (component cs j) p.0) (to : Contains (component cs k) p.1) where
    pub leads_across : j ≢ k → (x : Edge E) × (edge_at g e ≡ Some x) × Crosses cs x j k
    leads_across apart =
        let P : ℕ → Type 0 = λ z. Contains (component cs j) z in
        let Q : ℕ → Type 0 = λ z. Contains (component cs k) z in
        (ends.0, ends.1, (apart, subst P ends.2 from, subst Q ends.3 to))

    pub lies_within : j ≡ k → (x : Edge E) → edge_at g e ≡ Some x → LiesWithin cs x
    lies_within same x at =
        let one : Some ends.0 ≡ Some x = sym ends.1 ∙ at in
        let whole : ends.0 ≡ x = cc in
        let P : ℕ → Type 0 = λ z. Contains (component cs j) z in
        let Q : ℕ → Type 0 = λ z. Contains (component cs z) x.child in
        let R : ℕ → Type 0 = λ z. Contains (component cs k) z in (
          j,
          subst P (ends.2 ∙ ap (λ (y : Edge E). y.parent) whole) from,
          subst Q (sym same) (subst R (ends.3 ∙ ap (λ (y : Edge E). y.child) whole) to),
        )

module _ {E F I W : Type 0} (step : F → I → Bor E → W → F → Type 0) (of : ℕ → I) (cs : List (List ℕ)) where
  -- The slots before the slot i were gone through: what the rest gives comes after what there is.
  pub record KeptBelow (first : F) (slots : List (Option (Edge E))) (f : F) (new : List (Option (Edge W))) (i : ℕ)
      : Type 0 where
    pub goes_on : (later : List (Option (Edge W))) → KeepsBetween step of cs f i (drop i slots) later
        → KeepsBetween step of cs first 0 slots (new ++ later)

  pub kept_none : (f : F) (slots : List (Option (Edge E))) → KeptBelow f slots f [] 0
  kept_none f slots = record { goes_on = λ later k. k }

  module _ {first : F} {slots : List (Option (Edge E))} {f : F} {new : List (Option (Edge W))} {i : ℕ}
      (s : KeptBelow first slots f new i) where
    pub kept_all : length slots ≤ i → KeepsBetween step of cs first 0 slots new
    kept_all past = rw (append-nil new) at (s.goes_on [] (rw (drop_all i slots past) refl))

    module _ (within : i < length slots) where
      opened : {y : Option (Edge E)} → get_or slots i None ≡ y → drop i slots ≡ y ∷ drop (i + 1) slots
      opened read = drop_more slots i None within ∙ ap (λ z. z ∷ drop (i + 1) slots) read

      -- past a slot that holds no edge, or one within a component
      pub kept_passed : ((x : Edge E) → slot slots i ≡ Some x → LiesWithin cs x) → KeptBelow first slots f new (i + 1)
      kept_passed inner = go (get_or slots i None) refl
        where
          go : (y : Option (Edge E)) → get_or slots i None ≡ y → KeptBelow first slots f new (i + 1)
          go None read = record { goes_on = λ later k. s.goes_on later (rw (opened read) k) }
          go (Some x) read =
              record { goes_on = λ later k. s.goes_on later (rw (opened read) (inl (inner x (slot_of slots i x read), k))) }

      -- past an edge between two components
      pub kept_called : {x : Edge E} {j k : ℕ} {w : W} {next : F} {new' : List (Option (Edge W))}
          → slot slots i ≡ Some x → Crosses cs x j k → CalledAt step of f i x.weight w next
          → new' ≡ new ++ Some (record { parent = j; child = k; weight = w }) ∷ []
          → KeptBelow first slots next new' (i + 1)
      kept_called {x} {j} {k} {w} {next} {new'} at crosses called is =
          record {
            goes_on = λ later more.
                let own : Edge W = record { parent = j; child = k; weight = w } in
                let whole : KeepsBetween step of cs first 0 slots (new ++ Some own ∷ later) =
                s.goes_on (Some own ∷ later) (rw (opened (slot_get_or slots i x at))
                (inr (j, k, crosses, w, next, called, later, refl, more))) in
                let same : new' ++ later ≡ new ++ Some own ∷ later =
                ap (λ z. z ++ later) is ∙ append_assoc new (Some own ∷ []) later in
                subst (KeepsBetween step of cs first 0 slots) (sym same) whole;
          }

  -- there are no more than slots
  pub kept_few : (f : F) (i : ℕ) (xs : List (Option (Edge E))) (new : List (Option (Edge W)))
      → KeepsBetween step of cs f i xs new → length new ≤ length xs
  kept_few f i [] new k = omega (arith, ap (λ z. length z) k)
  kept_few f i (None ∷ xs) new k = omega (arith, kept_few f (i + 1) xs new k)
  kept_few f i (Some x ∷ xs) new k =
      elim k [
        | inl p ↦ omega (arith, kept_few f (i + 1) xs new p.1)
        | inr p ↦ omega (arith, ap (λ z. length z) p.7, kept_few p.4 (i + 1) xs p.6 p.8)
      ]

  -- and none of them is vacant
  pub kept_full : (f : F) (i : ℕ) (xs : List (Option (Edge E))) (new : List (Option (Edge W)))
      → KeepsBetween step of cs f i xs new → (h : ℕ) → h < length new → IsSome (slot new h)
  kept_full f i [] new k h low = absurd (omega (arith, ap (λ z. length z) k))
  kept_full f i (None ∷ xs) new k h low = kept_full f (i + 1) xs new k h low
  kept_full f i (Some x ∷ xs) new k h low =
      elim k [
        | inl p ↦ kept_full f (i + 1) xs new p.1 h low
        | inr p ↦ (
            let P : List (Option (Edge W)) → Type 0 = λ z. h < length z → IsSome (slot z h) in
            let own : Edge W = record { parent = p.0; child = p.1; weight = p.3 } in
            let there : P (Some own ∷ p.6) = at own p.6 (kept_full p.4 (i + 1) xs p.6 p.8) h in
            subst P (sym p.7) there low
            )
      ]
    where
      at : (own : Edge W) (later : List (Option (Edge W))) → ((g : ℕ) → g < length later → IsSome (slot later g))
          → (g : ℕ) → g < length (Some own ∷ later) → IsSome (slot (Some own ∷ later) g)
      at own later rest zero within = refl
      at own later rest (suc g) within = rest g (omega (arith, within))

  -- each is for an edge between its components
  pub kept_lead : (f : F) (i : ℕ) (xs : List (Option (Edge E))) (new : List (Option (Edge W)))
      → KeepsBetween step of cs f i xs new → (h : ℕ) (y : Edge W) → slot new h ≡ Some y
      → (e : ℕ) × (x : Edge E) × (slot xs e ≡ Some x) × Crosses cs x y.parent y.child
  kept_lead f i [] new k h y is =
      let none : None ≡ Some y = sym (ap (λ z. slot z h) k) ∙ is in
      absurd cc
  kept_lead f i (None ∷ xs) new k h y is =
      let r = kept_lead f (i + 1) xs new k h y is in
      (suc r.0, r.1, r.2, r.3)
  kept_lead f i (Some x ∷ xs) new k h y is =
      elim k [
        | inl p ↦ (let r = kept_lead f (i + 1) xs new p.1 h y is in (suc r.0, r.1, r.2, r.3))
        | inr p ↦ at p.0 p.1 p.2 p.3 p.6 (kept_lead p.4 (i + 1) xs p.6 p.8) h (sym (ap (λ z. slot z h) p.7) ∙ is)
      ]
    where
      at : (a b : ℕ) → Crosses cs x a b → (w : W) (later : List (Option (Edge W)))
          → ((g : ℕ) (z : Edge W) → slot later g ≡ Some z
          → (e : ℕ) × (u : Edge E) × (slot xs e ≡ Some u) × Crosses cs u z.parent z.child)
          → (g : ℕ) → slot (Some (record { parent = a; child = b; weight = w }) ∷ later) g ≡ Some y
          → (e : ℕ) × (u : Edge E) × (slot (Some x ∷ xs) e ≡ Some u) × Crosses cs u y.parent y.child
      at a b crosses w later rest zero there =
          let own : Edge W = record { parent = a; child = b; weight = w } in
          let same : own ≡ y = cc in
          let P : Edge W → Type 0 = λ z. Crosses cs x z.parent z.child in
          (0, x, refl, subst P same crosses)
      at a b crosses w later rest (suc g) there = let r = rest g y there in (suc r.0, r.1, r.2, r.3)

  -- and each edge between two components is kept
  pub kept_every : ((a b v : ℕ) → Contains (component cs a) v → Contains (component cs b) v → a ≡ b) → (f : F) (i : ℕ)
      (xs : List (Option (Edge E))) (new : List (Option (Edge W))) → KeepsBetween step of cs f i xs new
      → (e : ℕ) (x : Edge E) → slot xs e ≡ Some x → (a b : ℕ) → Crosses cs x a b
      → (h : ℕ) × (y : Edge W) × (slot new h ≡ Some y) × (y.parent ≡ a) × (y.child ≡ b)
  kept_every one f i [] new k e x is a b crosses = absurd cc
  kept_every one f i (None ∷ xs) new k zero x is a b crosses = absurd cc
  kept_every one f i (None ∷ xs) new k (suc e) x is a b crosses =
      kept_every one f (i + 1) xs new k e x is a b crosses
  kept_every one f i (Some z ∷ xs) new k zero x is a b crosses =
      let same : z ≡ x = cc in
      elim k [
        | inl p ↦ (
            let P : Edge E → Type 0 = λ u. LiesWithin cs u in
            let inner = subst P same p.0 in
            absurd (crosses.0 (one a inner.0 x.parent crosses.1 inner.1 ∙ one inner.0 b x.child inner.2 crosses.2))
            )
        | inr p ↦ (
            let P : Edge E → Type 0 = λ u. Crosses cs u p.0 p.1 in
            let own = subst P same p.2 in (
              0,
              record { parent = p.0; child = p.1; weight = p.3 },
              ap (λ u. slot u 0) p.7,
              one p.0 a x.parent own.1 crosses.1,
              one p.1 b x.child own.2 crosses.2,
            )
            )
      ]
  kept_every one f i (Some z ∷ xs) new k (suc e) x is a b crosses =
      elim k [
        | inl p ↦ kept_every one f (i + 1) xs new p.1 e x is a b crosses
        | inr p ↦ (
            let r = kept_every one p.4 (i + 1) xs p.6 p.8 e x is a b crosses in
            (suc r.0, r.1, ap (λ u. slot u (suc r.0)) p.7 ∙ r.2, r.3, r.4)
            )
      ]

  pub kept_joins : {N : Type 0} {g : Graph N E} → AreComponents g cs → (f : F) (new : List (Option (Edge W)))
      → KeepsBetween step of cs f 0 g.edges new → JoinsComponents g cs new
  kept_joins {N} {g} are f new k =
      record {
        lead = λ i y is.
            let r = kept_lead f 0 g.edges new k i y is in
            (r.3.0, r.0, (r.1, r.2, r.3.1, r.3.2));
        every = λ e j l between apart.
            kept_every one f 0 g.edges new k e between.0 between.1 j l (apart, between.2, between.3);
      }
    where
      one : (a b v : ℕ) → Contains (component cs a) v → Contains (component cs b) v → a ≡ b
      one a b v m n =
          same_component cs (unique_from_distinct (concat cs) are.once) a b v (contains_mem (component cs a) v m)
          (contains_mem (component cs b) v n)
