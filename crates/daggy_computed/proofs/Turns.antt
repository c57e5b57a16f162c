-- Nodes that have their turns, one after another.
use Rattle.std.proofs.Common.{◌≡◌, ℕ, ◌⊎◌, Bool, true, List, [], ◌∷◌}
use Rattle.std.proofs.Common.{refl, sym, ap, ◌∙◌, ◌++◌, if◌then◌else◌, false, subst}
use Rattle.daggy_base.specs.Graph.{Graph}
use Rattle.daggy_base.proofs.Lists.{Mem}
use Rattle.daggy_computed.specs.declared.cell.Cell.{Cell}
use Rattle.daggy_computed.specs.Marking.{IsStale, children_of}
use Rattle.daggy_computed.specs.Settling.{IsTurn, Refreshes, AreValues}
use Rattle.daggy_computed.proofs.ValuesKept.{SameShape, same_shape, same_shapes, IsTwoWay, two_way_kept}
use Rattle.daggy_computed.proofs.ValuesKept.{stale_after, shape_after, values_after}

module _ {K V E : Type 0} (eq : V → V → Bool) (gives : K → List V → V → Type 0) where
  shape_turned : (n : ℕ) (old mid : Graph (Cell K V) E) (b : Bool) → IsTurn eq gives n old mid b → SameShape old mid
  shape_turned n old mid b r = subst (SameShape old) (sym r.is) (shape_after eq old n r.cell r.there r.value _ refl)

  -- what is stale after the turn of a node: its children, or others that were stale before
  pub stale_turned : (n : ℕ) (old mid : Graph (Cell K V) E) (b : Bool) → IsTurn eq gives n old mid b
      → (m : ℕ) → IsStale mid m → Mem m (children_of old n) ⊎ ((m ≡ n → ⊥) × IsStale old m)
  stale_turned n old mid b r m s =
      let P : Graph (Cell K V) E → Type 0 = λ z. IsStale z m in
      stale_after eq old n r.cell r.there r.value _ refl m (subst P r.is s)

  pub shape_refreshed : (ns : List ℕ) (old new : Graph (Cell K V) E) (changed : List ℕ) → Refreshes eq gives ns old new changed
      → SameShape old new
  shape_refreshed [] old new changed r = subst (SameShape old) (sym r.0) (same_shape old)
  shape_refreshed (n ∷ ns) old new changed r =
      same_shapes old r.0 new (shape_turned n old r.0 r.1 r.3) (shape_refreshed ns r.0 new r.2 r.4)

  -- one turn more
  pub one_more : (ns : List ℕ) (n : ℕ) (old mid new : Graph (Cell K V) E) (changed : List ℕ) (b : Bool)
      → Refreshes eq gives ns old mid changed → IsTurn eq gives n mid new b
      → Refreshes eq gives (ns ++ n ∷ []) old new (changed ++ (if b then n ∷ [] else []))
  one_more [] n old mid new changed b r v =
      let P : Graph (Cell K V) E → Type 0 = λ z. IsTurn eq gives n z new b in
      (new, b, [], subst P r.0 v, (refl, refl), ap (λ z. z ++ (if b then n ∷ [] else [])) r.1)
  one_more (m ∷ ns) n old mid new changed b r v = (
    r.0,
    r.1,
    r.2 ++ (if b then n ∷ [] else []),
    r.3,
    one_more ns n r.0 mid new r.2 b r.4 v,
    ap (λ z. z ++ (if b then n ∷ [] else [])) r.5 ∙ split r.1,
  )
    where
      split : (kept : Bool) → (if kept then m ∷ r.2 else r.2) ++ (if b then n ∷ [] else [])
          ≡ (if kept then m ∷ (r.2 ++ (if b then n ∷ [] else [])) else (r.2 ++ (if b then n ∷ [] else [])))
      split true = refl
      split false = refl

  -- the values stay right
  module _ (allowed : K → List V → V → Bool) (are : (k : K) (vs : List V) (v : V) → gives k vs v → allowed k vs v ≡ true) where
    values_turned : (n : ℕ) (old mid : Graph (Cell K V) E) (b : Bool) → IsTurn eq gives n old mid b
        → IsTwoWay old → AreValues eq allowed old → AreValues eq allowed mid
    values_turned n old mid b r two hold =
        subst (AreValues eq allowed) (sym r.is)
        (values_after eq old n r.cell r.there r.value allowed two (are r.cell.formula _ r.value r.given) hold _ refl)

    pub values_at_end : (ns : List ℕ) (old new : Graph (Cell K V) E) (changed : List ℕ) → IsTwoWay old
        → Refreshes eq gives ns old new changed → AreValues eq allowed old → AreValues eq allowed new
    values_at_end [] old new changed two r hold = subst (AreValues eq allowed) (sym r.0) hold
    values_at_end (n ∷ ns) old new changed two r hold =
        values_at_end ns r.0 new r.2 (two_way_kept old r.0 (shape_turned n old r.0 r.1 r.3) two) r.4
        (values_turned n old r.0 r.1 r.3 two hold)
