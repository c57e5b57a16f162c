-- A loop that calls a closure at each slot in turn makes only calls that may be made.
use Rattle.std.proofs.Common.{◌≡◌, ℕ, ◌+◌, ◌<◌, List, [], ◌∷◌, length, drop, get_or, Option, Some, None, refl, ap}
use Rattle.std.proofs.Common.{subst}
use Rattle.std.proofs.Common.{◌∙◌, ◌⊎◌, inl, inr, map, sym, arith, take, zero, suc, ◌++◌, is_some}
use Rattle.std.proofs.lemmas.List.{drop_more, get_or-map, length-map, length-take}
use Rattle.std.specs.Borrow.{Bor, MutBor}
use Rattle.std.specs.Iterator.{CallableAtEachTurn, YieldsFirst, Yields}
use Rattle.daggy_base.specs.Iterating.{numbered}
use Rattle.daggy_base.specs.Mapping.{CalledAt}
use Rattle.daggy_base.specs.CallsInTurn.{TakesSlot, CalledAtSlot, TakesToWrite, CanCallAtSlots, CanCallAtSomeSlots}
use Rattle.daggy_base.proofs.OutEdgesRead.{below_bound}
use Rattle.daggy_base.proofs.PathsWithoutEdge.{slot_of, slot_taken_front}

-- R says what a call may leave of what is called, and Q what the call asks of it
module _ {F A : Type 0} (R : F → ℕ × A → F → Type 0) (Q : F → ℕ × A → Type 0) where
  abbrev pub Turns : F → List (ℕ × A) → Type 0
  Turns f xs = CallableAtEachTurn (YieldsFirst (λ l. l)) R Q xs f

  asks_first : (f : F) (x : ℕ × A) (xs : List (ℕ × A)) → Turns f (x ∷ xs) → Q f x
  asks_first f x xs h = h.at [] (x ∷ xs) f x xs refl refl refl

  after_first : (f next : F) (x : ℕ × A) (xs : List (ℕ × A)) → R f x next → Turns f (x ∷ xs) → Turns next xs
  after_first f next x xs called h =
      record {
        at = λ more t q y u yields folds gives.
            h.at (x ∷ more) t q y u (xs, refl, yields) (next, called, folds) gives;
      }

  module _ (all : List (Option A)) where
    -- the turns from the slot i on may be taken
    abbrev pub TurnsFrom : F → ℕ → Type 0
    TurnsFrom f i = Turns f (numbered i (drop i all))

    opened : {i : ℕ} → i < length all → {y : Option A} → get_or all i None ≡ y → drop i all ≡ y ∷ drop (i + 1) all
    opened {i} within read = drop_more all i None within ∙ ap (λ z. z ∷ drop (i + 1) all) read

    module _ {f : F} {i : ℕ} (within : i < length all) where
      pub turn_asks : {x : A} → get_or all i None ≡ Some x → TurnsFrom f i → Q f (i, x)
      turn_asks {x} read h =
          asks_first f (i, x) (numbered (i + 1) (drop (i + 1) all))
          (subst (λ l. Turns f (numbered i l)) (opened within read) h)

      pub turn_taken : {next : F} {x : A} → get_or all i None ≡ Some x → R f (i, x) next → TurnsFrom f i
          → TurnsFrom next (i + 1)
      turn_taken {next} {x} read called h =
          after_first f next (i, x) (numbered (i + 1) (drop (i + 1) all)) called
          (subst (λ l. Turns f (numbered i l)) (opened within read) h)

      pub turn_vacant : get_or all i None ≡ None → TurnsFrom f i → TurnsFrom f (i + 1)
      turn_vacant read h = subst (λ l. Turns f (numbered i l)) (opened within read) h

      -- where a turn may leave things as they are, it may be passed over
      pub turn_passed : ((x : ℕ × A) → R f x f) → TurnsFrom f i → TurnsFrom f (i + 1)
      turn_passed stays h = go (get_or all i None) refl
        where
          go : (y : Option A) → get_or all i None ≡ y → TurnsFrom f (i + 1)
          go None read = turn_vacant read h
          go (Some x) read = turn_taken read (stays (i, x)) h

module _ {F I W V A : Type 0} (of : ℕ → I) (pre : F → I → Bor W → Type 0) (step : F → I → Bor W → V → F → Type 0)
    (weight : A → W) (all : List (Option A)) where
  -- f may be called at each slot in turn from the slot i on
  abbrev pub CanCallFrom : F → ℕ → Type 0
  CanCallFrom = TurnsFrom (CalledAtSlot of pre step weight) (TakesSlot of pre step weight all) all

  -- and at any of them
  abbrev pub CanCallSomeFrom : F → ℕ → Type 0
  CanCallSomeFrom =
      TurnsFrom (λ p x q. (p ≡ q) ⊎ CalledAtSlot of pre step weight p x q) (TakesSlot of pre step weight all) all

-- a loop reads the cell c at the place i
module _ {A C : Type 0} (read : C → Option A) (cells : List C) {i : ℕ} {c : C} (within : i < length cells)
    (is : c ≡ get_or cells i c) where
  slots_within : i < length (map read cells)
  slots_within = omega (arith, within, length-map cells read)

  slot_is : get_or (map read cells) i None ≡ read c
  slot_is = get_or-map read cells i c None within ∙ ap read (sym is)

-- and calls a closure at what it holds
module _ {F I W V A C : Type 0} (of : ℕ → I) (pre : F → I → Bor W → Type 0) (step : F → I → Bor W → V → F → Type 0)
    (weight : A → W) (read : C → Option A) (cells : List C) {f : F} {i : ℕ} {c : C} (within : i < length cells)
    (is : c ≡ get_or cells i c) where
  takes : {x : A} → read c ≡ Some x → TakesSlot of pre step weight (map read cells) f (i, x)
      → (shown : Bor W) → shown.now ≡ weight x → pre f (of i) shown
  takes {x} holds t =
      let there = slot_of (map read cells) i x (slot_is read cells within is ∙ holds) in
      t there (below_bound (map read cells) i (ap is_some there)) (slots_within read cells within is)

  -- the call there may be made
  pub may_call : {x : A} → read c ≡ Some x → CanCallFrom of pre step weight (map read cells) f i
      → (shown : Bor W) → shown.now ≡ weight x → pre f (of i) shown
  may_call holds can =
      takes holds (turn_asks _ _ (map read cells) (slots_within read cells within is)
      (slot_is read cells within is ∙ holds) can)

  pub may_call_some : {x : A} → read c ≡ Some x → CanCallSomeFrom of pre step weight (map read cells) f i
      → (shown : Bor W) → shown.now ≡ weight x → pre f (of i) shown
  may_call_some holds can =
      takes holds (turn_asks _ _ (map read cells) (slots_within read cells within is)
      (slot_is read cells within is ∙ holds) can)

  -- and after it the others
  pub called_on : {x : A} {v : V} {next : F} → read c ≡ Some x → CalledAt step of f i (weight x) v next
      → CanCallFrom of pre step weight (map read cells) f i → CanCallFrom of pre step weight (map read cells) next
      (i + 1)
  called_on {x} {v} {next} holds called =
      turn_taken _ _ (map read cells) (slots_within read cells within is) (slot_is read cells within is ∙ holds)
      (v, called)

  pub called_some_on : {x : A} {v : V} {next : F} → read c ≡ Some x → CalledAt step of f i (weight x) v next
      → CanCallSomeFrom of pre step weight (map read cells) f i
      → CanCallSomeFrom of pre step weight (map read cells) next (i + 1)
  called_some_on {x} {v} {next} holds called =
      turn_taken _ _ (map read cells) (slots_within read cells within is) (slot_is read cells within is ∙ holds)
      (inr (v, called))

  pub vacant_on : read c ≡ None
      → CanCallFrom of pre step weight (map read cells) f i → CanCallFrom of pre step weight (map read cells) f (i + 1)
  vacant_on holds =
      turn_vacant _ _ (map read cells) (slots_within read cells within is) (slot_is read cells within is ∙ holds)

  pub passed_on : CanCallSomeFrom of pre step weight (map read cells) f i
      → CanCallSomeFrom of pre step weight (map read cells) f (i + 1)
  passed_on = turn_passed _ _ (map read cells) (slots_within read cells within is) (λ x. inl refl)

-- what may be called with a weight that is shown may be called with it to write
pub may_write : {F I W : Type 0} (pre : F → I → MutBor W → Type 0) (f : F) (i : I) (lent : MutBor W)
    → ((shown : Bor W) → shown.now ≡ lent.now → TakesToWrite pre f i shown) → pre f i lent
may_write pre f i lent takes = takes (record { ref_ptr = lent.ref_ptr; now = lent.now }) refl lent refl

-- the turns of the first slots may be taken where those of all may
first_slots : {A : Type 0} (i b : ℕ) (xs : List (Option A))
    → (rest : List (ℕ × A)) × (numbered i xs ≡ numbered i (take b xs) ++ rest)
first_slots i zero [] = ([], refl)
first_slots i (suc b) [] = ([], refl)
first_slots i zero (x ∷ xs) = (numbered i (x ∷ xs), refl)
first_slots i (suc b) (None ∷ xs) = first_slots (i + 1) b xs
first_slots i (suc b) (Some x ∷ xs) =
    let more = first_slots (i + 1) b xs in (more.0, ap (λ l. (i, x) ∷ l) more.1)

module _ {F X : Type 0} (R : F → X → F → Type 0) (Q : F → X → Type 0) (rest : List X) where
  yields_more : (xs items last : List X) → Yields (YieldsFirst (λ l. l)) xs items last
      → Yields (YieldsFirst (λ l. l)) (xs ++ rest) items (last ++ rest)
  yields_more xs [] last same = ap (λ l. l ++ rest) same
  yields_more xs (x ∷ items) last (next, is, more) =
      (next ++ rest, ap (λ l. l ++ rest) is, yields_more next items last more)

  first_turns : (P : F → X → Type 0) → ((f : F) (x : X) → Q f x → P f x) → (f : F) (xs : List X)
      → CallableAtEachTurn (YieldsFirst (λ l. l)) R Q (xs ++ rest) f → CallableAtEachTurn (YieldsFirst (λ l. l)) R P
      xs f
  first_turns P weaker f xs h =
      record {
        at = λ items t q y u yields folds gives.
            weaker q y (h.at items (t ++ rest) q y (u ++ rest) (yields_more xs items t yields) folds
            (ap (λ l. l ++ rest) gives));
      }

module _ {F I W V A : Type 0} (of : ℕ → I) (pre : F → I → Bor W → Type 0) (step : F → I → Bor W → V → F → Type 0)
    (weight : A → W) (f : F) (b : ℕ) (all : List (Option A)) where
  takes_first : (f : F) (x : ℕ × A) → TakesSlot of pre step weight all f x
      → TakesSlot of pre step weight (take b all) f x
  takes_first f x t holds low within =
      let there = slot_taken_front all b x.0 x.1 holds in
      t there (below_bound all x.0 (ap is_some there)) (omega (arith, within, length-take b all))

  up_to : (R : F → ℕ × A → F → Type 0)
      → CallableAtEachTurn (YieldsFirst (λ l. l)) R (TakesSlot of pre step weight all) (numbered 0 all) f
      → CallableAtEachTurn (YieldsFirst (λ l. l)) R (TakesSlot of pre step weight (take b all))
      (numbered 0 (take b all)) f
  up_to R h =
      let first = first_slots 0 b all in
      let Q = TakesSlot of pre step weight all in
      first_turns R Q first.0 (TakesSlot of pre step weight (take b all)) takes_first f (numbered 0 (take b all))
      (subst (λ l. CallableAtEachTurn (YieldsFirst (λ l. l)) R Q l f) first.1 h)

  pub call_up_to : CanCallAtSlots of pre step weight f all → CanCallAtSlots of pre step weight f (take b all)
  call_up_to = up_to (CalledAtSlot of pre step weight)

  pub call_some_up_to : CanCallAtSomeSlots of pre step weight f all
      → CanCallAtSomeSlots of pre step weight f (take b all)
  call_some_up_to = up_to (λ p x q. (p ≡ q) ⊎ CalledAtSlot of pre step weight p x q)
