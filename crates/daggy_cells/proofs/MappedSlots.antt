-- A loop that maps the slots in turn.
use Rattle.std.proofs.Common.{◌≡◌, ◌⊎◌, inl, inr, ℕ, ◌+◌, ◌<◌, ◌≤◌, List, [], ◌∷◌, ◌++◌, map, length, take, drop}
use Rattle.std.proofs.Common.{get_or, Option, Some, None, refl, sym, ap, subst, ◌∙◌, arith, append-nil, append_assoc}
use Rattle.std.proofs.lemmas.List.{length_push, length-map, get_or-map, map_push, drop_more, drop_all, take_more}
use Rattle.std.proofs.lemmas.List.{take_all}
use Rattle.std.specs.Borrow.{Bor}
use Rattle.daggy_base.specs.declared.index.Direction.{Direction}
use Rattle.daggy_base.specs.Mapping.{CalledAt, MapsSlots}
use Rattle.daggy_cells.specs.declared.cell.Edge.{Edge}
use Rattle.daggy_cells.specs.Raw.{raw_next}
use Rattle.daggy_cells.specs.Fields.{end_at}
use Rattle.daggy_base.proofs.CallsInTurn.{CanCallFrom, called_on, vacant_on, may_call}

-- a link of the edge, or an end
abbrev pub link_or_end : {E Ix : Type 0} → Direction ⊎ Direction → Edge E Ix → ℕ
link_or_end (inl dir) x = raw_next dir x
link_or_end (inr dir) x = end_at dir x

-- what is left maps as the whole did
pub record MappedSlots {F I W V A B : Type 0} (step : F → I → Bor W → V → F → Type 0) (of : ℕ → I) (weight : A → W)
    (with : A → V → B) (first : F) (old : List (Option A)) (f : F) (new : List (Option B)) (i : ℕ) : Type 0 where
  pub rest : (later : List (Option B)) → MapsSlots step of weight with f i (drop i old) later
      → MapsSlots step of weight with first 0 old (new ++ later)

-- a loop reads the cell x at the place i
pub record Reads {C : Type 0} (cells : List C) (i : ℕ) (x : C) : Type 0 where
  pub within : i < length cells
  pub is : x ≡ get_or cells i x

-- so does a loop over slots that are read from cells
module _ {A C : Type 0} (read : C → Option A) {cells : List C} {i : ℕ} {x : C} (at : Reads cells i x) where
  slots_within : i < length (map read cells)
  slots_within = omega (arith, at.within, length-map cells read)

  slot_is : get_or (map read cells) i None ≡ read x
  slot_is = get_or-map read cells i x None at.within ∙ ap read (sym at.is)

module _ {F I W V A B : Type 0} {step : F → I → Bor W → V → F → Type 0} {of : ℕ → I} {weight : A → W}
    {with : A → V → B} {first : F} where
  MappedSlots-passed : {old : List (Option A)} {f : F} {new : List (Option B)} {i : ℕ} → i < length old
      → get_or old i None ≡ None → MappedSlots step of weight with first old f new i
      → MappedSlots step of weight with first old f (new ++ None ∷ []) (i + 1)
  MappedSlots-passed {old} {f} {new} {i} within read kept =
      let gap : drop i old ≡ None ∷ drop (i + 1) old =
      drop_more old i None within ∙ ap (λ y. y ∷ drop (i + 1) old) read in
      record { rest = λ later more. rw (append_assoc) (kept.rest (None ∷ later) (rw gap (later, refl, more))) }

  MappedSlots-called : {old : List (Option A)} {f next : F} {new : List (Option B)} {i : ℕ} {x : A} {v : V}
      → i < length old → get_or old i None ≡ Some x → CalledAt step of f i (weight x) v next
      → MappedSlots step of weight with first old f new i
      → MappedSlots step of weight with first old next (new ++ Some (with x v) ∷ []) (i + 1)
  MappedSlots-called {old} {f} {next} {new} {i} {x} {v} within read called kept =
      let slots : drop i old ≡ Some x ∷ drop (i + 1) old =
      drop_more old i None within ∙ ap (λ y. y ∷ drop (i + 1) old) read in
      record {
        rest = λ later more.
            rw (append_assoc) (kept.rest (Some (with x v) ∷ later) (rw slots (v, next, called, later, refl, more)));
      }

  pub MappedSlots-done : {old : List (Option A)} {f : F} {new : List (Option B)} {i : ℕ}
      → length old ≤ i → MappedSlots step of weight with first old f new i
      → MapsSlots step of weight with first 0 old new
  MappedSlots-done {old} {new = new} {i} past kept =
      rw (append-nil new) at (kept.rest [] (rw (drop_all i old past) refl))

  -- the same by cells, of which read and read' are the slots
  module _ {C D : Type 0} (read : C → Option A) (read' : D → Option B) {cells : List C} (new : List D) {f : F}
      {i : ℕ} {x : C} (y : D) (at : Reads cells i x) where
    pub MappedSlots-pass : read x ≡ None → read' y ≡ None
        → MappedSlots step of weight with first (map read cells) f (map read' new) i
        → MappedSlots step of weight with first (map read cells) f (map read' (new ++ y ∷ [])) (i + 1)
    MappedSlots-pass none none' kept =
        subst (λ l. MappedSlots step of weight with first (map read cells) f l (i + 1))
        (sym (map_push read' new y ∙ ap (λ z. map read' new ++ z ∷ []) none'))
        (MappedSlots-passed (slots_within read at) (slot_is read at ∙ none) kept)

    pub MappedSlots-call : (next : F) {a : A} (v : V) → read x ≡ Some a → read' y ≡ Some (with a v)
        → CalledAt step of f i (weight a) v next
        → MappedSlots step of weight with first (map read cells) f (map read' new) i
        → MappedSlots step of weight with first (map read cells) next (map read' (new ++ y ∷ [])) (i + 1)
    MappedSlots-call next v some some' called kept =
        subst (λ l. MappedSlots step of weight with first (map read cells) next l (i + 1))
        (sym (map_push read' new y ∙ ap (λ z. map read' new ++ z ∷ []) some'))
        (MappedSlots-called (slots_within read at) (slot_is read at ∙ some) called kept)

-- what each cell keeps of its own
module _ {C D X : Type 0} (keep : C → X) (keep' : D → X) where
  kept_more : {cells : List C} (new : List D) {i : ℕ} {x : C} (y : D)
      → Reads cells i x → keep' y ≡ keep x → map keep' new ≡ take i (map keep cells)
      → map keep' (new ++ y ∷ []) ≡ take (i + 1) (map keep cells)
  kept_more {cells} new {i} {x} y at same kept =
      let inside : i < length (map keep cells) = omega (arith, at.within, length-map cells keep) in
      map_push keep' new y ∙ ap (λ l. l ++ keep' y ∷ []) kept
      ∙ ap (λ z. take i (map keep cells) ++ z ∷ [])
      (same ∙ ap keep at.is ∙ sym (get_or-map keep cells i x (keep x) at.within))
      ∙ sym (take_more (map keep cells) i (keep x) inside)

  kept_all : (cells : List C) (new : List D) (i : ℕ)
      → length cells ≤ i → map keep' new ≡ take i (map keep cells) → map keep' new ≡ map keep cells
  kept_all cells new i past kept = kept ∙ take_all i (map keep cells) (omega (arith, past, length-map cells keep))

module _ {F I W V A B C D K : Type 0} (of : ℕ → I) (pre : F → I → Bor W → Type 0)
    (step : F → I → Bor W → V → F → Type 0) (weight : A → W) (with : A → V → B) (read : C → Option A) (read' : D → Option B) (link : K → C → ℕ)
    (link' : K → D → ℕ) (first : F) (old : List C) where
  -- the cells below i are mapped, and keep their links
  pub record MappedBelow (f : F) (new : List D) (i : ℕ) : Type 0 where
    pub callable : CanCallFrom of pre step weight (map read old) f i
    pub count : length new ≡ i
    pub mapped : MappedSlots step of weight with first (map read old) f (map read' new) i
    pub links : (k : K) → map (link' k) new ≡ take i (map (link k) old)

module _ {F I W V A B C D K : Type 0} {of : ℕ → I} {pre : F → I → Bor W → Type 0}
    {step : F → I → Bor W → V → F → Type 0} {weight : A → W} {with : A → V → B} {read : C → Option A}
    {read' : D → Option B} {link : K → C → ℕ} {link' : K → D → ℕ} {first : F} {old : List C} where
  pub mapped_none : {new : List D} → new ≡ [] → CanCallFrom of pre step weight (map read old) first 0
      → MappedBelow of pre step weight with read read' link link' first old first new 0
  mapped_none none callable =
      rw none (record {
        callable = callable;
        count = refl;
        mapped = record { rest = λ later more. more };
        links = λ k. refl;
      })

  module _ {f : F} {new : List D} {i : ℕ}
      (m : MappedBelow of pre step weight with read read' link link' first old f new i) (within : i < length old)
      {x : C} (is : x ≡ get_or old i x) where
    -- a weight there may be shown
    pub may_show : {a : A} → read x ≡ Some a → (shown : Bor W) → shown.now ≡ weight a → pre f (of i) shown
    may_show some = may_call of pre step weight read old within is some m.callable

    module _ {new' : List D} (y : D) (pushed : new' ≡ new ++ y ∷ []) (same : (k : K) → link' k y ≡ link k x) where
      one_more : {next : F} → CanCallFrom of pre step weight (map read old) next (i + 1)
          → MappedSlots step of weight with first (map read old) next (map read' (new ++ y ∷ [])) (i + 1)
          → MappedBelow of pre step weight with read read' link link' first old next new' (i + 1)
      one_more callable mapped =
          rw pushed (record {
            callable = callable;
            count = length_push new y ∙ ap (λ n. n + 1) m.count;
            mapped = mapped;
            links = λ k. kept_more (link k) (link' k) new y (record { within = within; is = is }) (same k) (m.links k);
          })

      pub mapped_vacant : read x ≡ None → read' y ≡ None
          → MappedBelow of pre step weight with read read' link link' first old f new' (i + 1)
      mapped_vacant none none' =
          one_more (vacant_on of pre step weight read old within is none m.callable)
          (MappedSlots-pass read read' new y (record { within = within; is = is }) none none' m.mapped)

      pub mapped_called : {next : F} {a : A} {shown : Bor W} {v : V}
          → step f (of i) shown v next → read x ≡ Some a → shown.now ≡ weight a → read' y ≡ Some (with a v)
          → MappedBelow of pre step weight with read read' link link' first old next new' (i + 1)
      mapped_called {next} {a} {shown} {v} called some shows some' =
          let call : CalledAt step of f i (weight a) v next =
          record { shown = shown; shows = shows; called = called } in
          one_more (called_on of pre step weight read old within is some call m.callable)
          (MappedSlots-call read read' new y (record { within = within; is = is }) next v some some' call m.mapped)

  module _ {f : F} {new : List D} {i : ℕ}
      (m : MappedBelow of pre step weight with read read' link link' first old f new i) (past : length old ≤ i) where
    pub mapped_all : MapsSlots step of weight with first 0 (map read old) (map read' new)
    mapped_all = MappedSlots-done (omega (arith, past, length-map old read)) m.mapped

    pub links_all : (k : K) → map (link' k) new ≡ map (link k) old
    links_all k = kept_all (link k) (link' k) old new i past (m.links k)
