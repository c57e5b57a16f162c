-- A loop that passes the weights in slots to a closure in turn.
use Rattle.std.proofs.Common.{◌≡◌, ℕ, ◌+◌, ◌<◌, ◌≤◌, List, ◌∷◌, [], ◌++◌, map, length, take, drop, get_or, set, Option}
use Rattle.std.proofs.Common.{Some, None, refl, sym, ap, subst, ◌∙◌, arith}
use Rattle.std.proofs.lemmas.List.{length-map, length-set, drop_more, take_all, take_more_set, drop-set-lt}
use Rattle.std.specs.Borrow.{MutBor}
use Rattle.daggy_base.specs.Mapping.{CalledAt, MapsSlots}
use Rattle.daggy_base.specs.Rewriting.{Leaves}
use Rattle.daggy_base.specs.CallsInTurn.{TakesToWrite}
use Rattle.daggy_base.proofs.CallsInTurn.{CanCallFrom, called_on, vacant_on, may_call, may_write}
use Rattle.daggy_base.proofs.Lists.{map-set_same}
use Rattle.daggy_cells.proofs.MappedSlots.{Reads, MappedSlots, MappedSlots-pass, MappedSlots-call, MappedSlots-done}

module _ {F I W A C K : Type 0} (of : ℕ → I) (pre : F → I → MutBor W → Type 0)
    (step : F → I → MutBor W → Unit {0} → MutBor W → F → Type 0) (weight : A → W) (with : A → W → A)
    (read : C → Option A) (link : K → C → ℕ) (first : F) (old : List C) where
  -- the weights below i were handed out; the cells from i on are as they were, and so are all links
  pub record WrittenBelow (f : F) (new : List C) (i : ℕ) : Type 0 where
    pub callable : CanCallFrom of (TakesToWrite pre) (Leaves step) weight (map read old) f i
    pub count : length new ≡ length old
    pub rest : drop i new ≡ drop i old
    pub mapped : MappedSlots (Leaves step) of weight with first (map read old) f (map read (take i new)) i
    pub links : (k : K) → map (link k) new ≡ map (link k) old

module _ {F I W A C K : Type 0} {of : ℕ → I} {pre : F → I → MutBor W → Type 0}
    {step : F → I → MutBor W → Unit {0} → MutBor W → F → Type 0} {weight : A → W} {with : A → W → A}
    {read : C → Option A} {link : K → C → ℕ} {first : F} {old : List C} where
  pub written_none : CanCallFrom of (TakesToWrite pre) (Leaves step) weight (map read old) first 0
      → WrittenBelow of pre step weight with read link first old first old 0
  written_none callable =
      record {
        callable = callable;
        count = refl;
        rest = refl;
        mapped = record { rest = λ later more. more };
        links = λ k. refl;
      }

  module _ {f : F} {new : List C} {i : ℕ} (w : WrittenBelow of pre step weight with read link first old f new i)
      (within : i < length old) (x : C) (is : x ≡ get_or new i x) where
    inside : i < length new
    inside = omega (within, w.count, arith)

    -- what both lists hold behind the place
    same_behind : get_or new i x ∷ drop (i + 1) new ≡ get_or old i x ∷ drop (i + 1) old
    same_behind = sym (drop_more new i x inside) ∙ w.rest ∙ drop_more old i x within

    -- the cell at the place is the old one
    read_old : x ≡ get_or old i x
    read_old = is ∙ ap (λ l. get_or l 0 x) same_behind

    reads : Reads old i x
    reads = record { within = within; is = read_old }

    -- a weight there may be handed out
    pub may_lend : {a : A} → read x ≡ Some a → (lent : MutBor W) → lent.now ≡ weight a → pre f (of i) lent
    may_lend some lent lends =
        may_write pre f (of i) lent (λ shown shows.
        may_call of (TakesToWrite pre) (Leaves step) weight read old within read_old some w.callable shown
        (shows ∙ lends))

    module _ (y : C) (same : (k : K) → link k y ≡ link k x) where
      abbrev cells : List C
      cells = set new i y

      stays_so : {next : F} → CanCallFrom of (TakesToWrite pre) (Leaves step) weight (map read old) next (i + 1)
          → MappedSlots (Leaves step) of weight with first (map read old) next (map read (take i new ++ y ∷ [])) (i + 1)
          → WrittenBelow of pre step weight with read link first old next cells (i + 1)
      stays_so {next} callable mapped =
          record {
            callable = callable;
            count = length-set new i y ∙ w.count;
            rest = drop-set-lt (i + 1) new i y (omega arith) ∙ ap (drop 1) same_behind;
            mapped =
                subst (λ l. MappedSlots (Leaves step) of weight with first (map read old) next (map read l) (i + 1))
                (sym (take_more_set new i y inside)) mapped;
            links = λ k. map-set_same (link k) new i x y is (same k) ∙ w.links k;
          }

      -- a vacant slot is passed by
      pub written_vacant : read x ≡ None → read y ≡ None
          → WrittenBelow of pre step weight with read link first old f cells (i + 1)
      written_vacant none none' =
          stays_so (vacant_on of (TakesToWrite pre) (Leaves step) weight read old within read_old none w.callable)
          (MappedSlots-pass read read (take i new) y reads none none' w.mapped)

      -- a call was handed the weight there, and left another
      pub written_called : {next : F} {a : A} (lent left : MutBor W)
          → step f (of i) lent tt left next → read x ≡ Some a → lent.now ≡ weight a → read y ≡ Some (with a left.now)
          → WrittenBelow of pre step weight with read link first old next cells (i + 1)
      written_called {next} {a} lent left called some lends some' =
          let call : CalledAt (Leaves step) of f i (weight a) left.now next =
          record {
            shown = record { ref_ptr = lent.ref_ptr; now = lent.now };
            shows = lends;
            called = (lent, left, refl, refl, called);
          } in
          stays_so (called_on of (TakesToWrite pre) (Leaves step) weight read old within read_old some call w.callable)
          (MappedSlots-call read read (take i new) y reads next left.now some some' call w.mapped)

  pub written_all : {f : F} {new : List C} {i : ℕ} → length old ≤ i
      → WrittenBelow of pre step weight with read link first old f new i
      → MapsSlots (Leaves step) of weight with first 0 (map read old) (map read new)
  written_all {f} {new} {i} past w =
      MappedSlots-done (omega (past, length-map old read, arith))
      (subst (λ l. MappedSlots (Leaves step) of weight with first (map read old) f (map read l) i)
      (take_all i new (omega (past, w.count, arith))) w.mapped)
