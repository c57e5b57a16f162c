-- Clones of stored nodes and edges: each weight is mapped to its clone.
use Rattle.std.proofs.Common.{◌≡◌, ℕ, ◌+◌, List, [], ◌∷◌, map, Option, Some, None, refl, ap}
use Rattle.std.specs.List.{AllZip}
use Rattle.daggy_base.specs.declared.index.Direction.{Direction}
use Rattle.daggy_base.specs.declared.index.Direction.TheVariants.{Outgoing, Incoming}
use Rattle.daggy_base.specs.Copying.{clone_step}
use Rattle.daggy_base.specs.Mapping.{MapsSlots}
use Rattle.daggy_cells.specs.declared.cell.Node.{Node}
use Rattle.daggy_cells.specs.declared.cell.Edge.{Edge}
use Rattle.daggy_cells.specs.Fields.{firsts_of, nexts_of, ends_of}
use Rattle.daggy_cells.specs.Raw.{raw_first, raw_next}

-- a node is a clone of another, and an edge, where its weight is one and its links are the same
abbrev pub IsNodeClone : {N Ix : Type 0} → (N → N → Type 0) → Node N Ix → Node N Ix → Type 0
IsNodeClone is x y = is x.weight y.weight × ((x.first_out ≡ y.first_out) × (x.first_in ≡ y.first_in))

abbrev pub IsEdgeClone : {E Ix : Type 0} → (E → E → Type 0) → Edge E Ix → Edge E Ix → Type 0
IsEdgeClone is x y =
    is x.weight y.weight
    × ((x.parent ≡ y.parent) × ((x.child ≡ y.child) × ((x.next_out ≡ y.next_out) × (x.next_in ≡ y.next_in))))

module _ {A W : Type 0} (is : W → W → Type 0) (weight : A → W) (with : A → W → A) where
  -- what a slot and its copy hold
  abbrev pub AreCloned : Option A → Option A → Type 0
  AreCloned None None = Unit {0}
  AreCloned None (Some b) = ⊥
  AreCloned (Some a) None = ⊥
  AreCloned (Some a) (Some b) = is (weight a) (weight b) × (b ≡ with a (weight b))

  slot_cloned : (i : ℕ) (o p : Option A) (xs ys : List (Option A))
      → AreCloned o p → MapsSlots (clone_step is) (λ n. n) weight with tt (i + 1) xs ys
      → MapsSlots (clone_step is) (λ n. n) weight with tt i (o ∷ xs) (p ∷ ys)
  slot_cloned i None None xs ys c m = (ys, refl, m)
  slot_cloned i None (Some b) xs ys c m = absurd c
  slot_cloned i (Some a) None xs ys c m = absurd c
  slot_cloned i (Some a) (Some b) xs ys c m = (
    weight b,
    tt,
    record { shown = record { ref_ptr = (0, 0); now = weight a }; shows = refl; called = c.0 },
    ys,
    ap (λ z. Some z ∷ ys) c.1,
    m,
  )

  -- slots that show an A are copied, where R says what the copy of a cell may be
  pub slots_cloned : {C : Type 0} (R : C → C → Type 0) (read : C → Option A)
      → ((x y : C) → R x y → AreCloned (read x) (read y))
      → (i : ℕ) (xs ys : List C) → AllZip R xs ys
      → MapsSlots (clone_step is) (λ n. n) weight with tt i (map read xs) (map read ys)
  slots_cloned R read cloned i [] [] z = refl
  slots_cloned R read cloned i [] (y ∷ ys) z = absurd z
  slots_cloned R read cloned i (x ∷ xs) [] z = absurd z
  slots_cloned R read cloned i (x ∷ xs) (y ∷ ys) z =
      slot_cloned i (read x) (read y) (map read xs) (map read ys) (cloned x y z.0)
      (slots_cloned R read cloned (i + 1) xs ys z.1)

-- and what is no weight is the same
kept : {C : Type 0} (R : C → C → Type 0) (part : C → ℕ) → ((x y : C) → R x y → part x ≡ part y)
    → (xs ys : List C) → AllZip R xs ys → map part ys ≡ map part xs
kept R part same [] [] z = refl
kept R part same [] (y ∷ ys) z = absurd z
kept R part same (x ∷ xs) [] z = absurd z
kept R part same (x ∷ xs) (y ∷ ys) z = rw (same x y z.0) (ap (λ l. part y ∷ l) (kept R part same xs ys z.1))

pub firsts_cloned : {N Ix : Type 0} (is : N → N → Type 0) (xs ys : List (Node N Ix))
    → AllZip (IsNodeClone is) xs ys → (dir : Direction) → firsts_of dir ys ≡ firsts_of dir xs
firsts_cloned is xs ys z = elim [
  | Outgoing ↦ kept (IsNodeClone is) (raw_first Outgoing) (λ x y c. c.1.0) xs ys z
  | Incoming ↦ kept (IsNodeClone is) (raw_first Incoming) (λ x y c. c.1.1) xs ys z
]

pub nexts_cloned : {E Ix : Type 0} (is : E → E → Type 0) (xs ys : List (Edge E Ix))
    → AllZip (IsEdgeClone is) xs ys → (dir : Direction) → nexts_of dir ys ≡ nexts_of dir xs
nexts_cloned is xs ys z = elim [
  | Outgoing ↦ kept (IsEdgeClone is) (raw_next Outgoing) (λ x y c. c.1.1.1.0) xs ys z
  | Incoming ↦ kept (IsEdgeClone is) (raw_next Incoming) (λ x y c. c.1.1.1.1) xs ys z
]

pub ends_cloned : {E Ix : Type 0} (is : E → E → Type 0) (xs ys : List (Edge E Ix))
    → AllZip (IsEdgeClone is) xs ys → (dir : Direction) → ends_of dir ys ≡ ends_of dir xs
ends_cloned is xs ys z = elim [
  | Outgoing ↦ kept (IsEdgeClone is) (λ x. x.parent) (λ x y c. c.1.0) xs ys z
  | Incoming ↦ kept (IsEdgeClone is) (λ x. x.child) (λ x y c. c.1.1.0) xs ys z
]
