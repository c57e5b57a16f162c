-- What the calls that map the slots in turn return.
use Rattle.std.proofs.Common.{◌≡◌, ℕ, suc, ◌+◌, List, [], ◌∷◌, length, Option, Some, None, refl, ap, ◌∙◌}
use Rattle.std.specs.Borrow.{Bor}
use Rattle.daggy_base.specs.Mapping.{CalledAt, MapsSlots}

module _ {F I W V : Type 0} (step : F → I → Bor W → V → F → Type 0) (of : ℕ → I) where
  pub CalledAt-from_step : (f : F) (i : ℕ) (shown : Bor W) (v : V) (next : F)
      → step f (of i) shown v next → CalledAt step of f i shown.now v next
  CalledAt-from_step f i shown v next called = record { shown = shown; shows = refl; called = called }

module _ {F I W V A B : Type 0} (step : F → I → Bor W → V → F → Type 0) (of : ℕ → I) (weight : A → W)
    (with : A → V → B) where
  -- as many slots as before
  pub mapped_length : (f : F) (i : ℕ) (xs : List (Option A)) (new : List (Option B))
      → MapsSlots step of weight with f i xs new → length new ≡ length xs
  mapped_length f i [] new is = ap length is
  mapped_length f i (None ∷ xs) new (later, is, more) = ap length is ∙ ap suc (mapped_length f (i + 1) xs later more)
  mapped_length f i (Some x ∷ xs) new (v, next, called, later, is, more) =
      ap length is ∙ ap suc (mapped_length next (i + 1) xs later more)
