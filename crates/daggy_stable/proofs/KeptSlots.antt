-- A loop that keeps slots in turn.
use Rattle.std.proofs.Common.{◌≡◌, ℕ, ◌+◌, ◌<◌, ◌≤◌, Bool, true, false, cond, List, [], ◌∷◌, ◌++◌, map, length, take}
use Rattle.std.proofs.Common.{drop, get_or, Option, Some, None, IsSome, is_some, refl, sym, ap, ◌∙◌, arith, append-nil}
use Rattle.std.proofs.Common.{append_assoc}
use Rattle.std.specs.Borrow.{Bor}
use Rattle.std.specs.List.{take-map}
use Rattle.std.specs.Option.{option_map}
use Rattle.std.proofs.lemmas.List.{length-map, length_push, length-take-le, drop_more, drop_all}
use Rattle.std.proofs.lemmas.Option.{same_Some, none-some}
use Rattle.std.proofs.lemmas.Simd.{map-map}
use Rattle.daggy_base.specs.Graph.{Edge as PlainEdge, slot, bound_of}
use Rattle.daggy_base.proofs.PathsWithNode.{bound_low}
use Rattle.daggy_cells.specs.declared.cell.Edge.{Edge}
use Rattle.daggy_base.specs.Mapping.{CalledAt, weight_in}
use Rattle.daggy_base.specs.FilteringInPlace.{KeepsSlots, if_ends_exist}
use Rattle.daggy_stable.specs.Stored.{plain, plain_edge}

module _ {F I W V A B : Type 0} (step : F → I → Bor W → Option V → F → Type 0) (of : ℕ → I) (weight : A → W)
    (with : A → V → B) where
  -- what is left is kept as the whole was
  abbrev pub KeptSlots : F → List (Option A) → F → List (Option B) → ℕ → Type 0
  KeptSlots first old f new i =
      (later : List (Option B)) → KeepsSlots step of weight with f i (drop i old) later
      → KeepsSlots step of weight with first 0 old (new ++ later)

  pub KeptSlots-passed : (first : F) (old : List (Option A)) (f : F) (new : List (Option B)) {new' : List (Option B)}
      (i : ℕ)
      → i < length old → get_or old i None ≡ None → new' ≡ new ++ None ∷ [] → KeptSlots first old f new i
      → KeptSlots first old f new' (i + 1)
  KeptSlots-passed first old f new i within read is kept later more =
      let rest : drop i old ≡ None ∷ drop (i + 1) old =
      drop_more old i None within ∙ ap (λ y. y ∷ drop (i + 1) old) read in
      rw (is, append_assoc) (kept (None ∷ later) (rw rest (later, refl, more)))

  pub KeptSlots-called : (first : F) (old : List (Option A)) {f next : F} (new : List (Option B))
      {new' : List (Option B)} {i : ℕ} {x : A}
      {r : Option V}
      → i < length old → get_or old i None ≡ Some x → CalledAt step of f i (weight x) r next
      → new' ≡ new ++ option_map (with x) r ∷ []
      → KeptSlots first old f new i → KeptSlots first old next new' (i + 1)
  KeptSlots-called first old {f} {next} new {new'} {i} {x} {r} within read called is kept later more =
      let rest : drop i old ≡ Some x ∷ drop (i + 1) old =
      drop_more old i None within ∙ ap (λ y. y ∷ drop (i + 1) old) read in
      rw (is, append_assoc) (kept (option_map (with x) r ∷ later) (rw rest (r, next, called, later, refl, more)))

  pub KeptSlots-done : (first : F) (old : List (Option A)) (f : F) (new : List (Option B)) (i : ℕ)
      → length old ≤ i → KeptSlots first old f new i → KeepsSlots step of weight with first 0 old new
  KeptSlots-done first old f new i past kept = rw (append-nil new) at (kept [] (rw (drop_all i old past) refl))

pub option_map_same : {A : Type 0} (o : Option A) → o ≡ option_map (λ x. x) o
option_map_same None = refl
option_map_same (Some x) = refl

pub one_longer : {A B : Type 0} (read : A → B) (old new : List A) (y : B)
    → map read new ≡ map read old ++ y ∷ [] → length new ≡ length old + 1
one_longer read old new y is =
    omega (arith, ap length is, length_push (map read old) y, length-map old read, length-map new read)

joined_by : {E : Type 0} (a b : Bool) (y : PlainEdge E) (w : E)
    → Some w ≡ option_map weight_in (cond a (cond b (Some y) None) None) → (a ≡ true) × (b ≡ true) × (y.weight ≡ w)
joined_by true true y w is = (refl, refl, same_Some y.weight w (sym is))
joined_by true false y w is = absurd (none-some w (sym is))
joined_by false b y w is = absurd (none-some w (sym is))

lost_by : {E : Type 0} (a b : Bool) (y : PlainEdge E)
    → None ≡ option_map weight_in (cond a (cond b (Some y) None) None) → cond a (cond b (Some y) None) None ≡ None
lost_by true true y is = absurd (none-some y.weight is)
lost_by true false y is = refl
lost_by false b y is = refl

module _ {N E Ix : Type 0} (nodes : List (Option N)) (x : Edge (Option E) Ix) where
  -- what is told of an edge that exists and has both its ends
  pub record IsJoined (w : E) : Type 0 where
    pub stored : plain_edge x ≡ Some (plain x w)
    pub edge : if_ends_exist nodes (plain_edge x) ≡ Some (plain x w)
    pub parent : IsSome (slot nodes x.parent)
    pub child : IsSome (slot nodes x.child)

  pub joined_is : (w : E) → Some w ≡ option_map weight_in (if_ends_exist nodes (plain_edge x)) → IsJoined w
  joined_is w is = go x.weight refl
    where
      go : (o : Option E) → x.weight ≡ o → IsJoined w
      go None none =
          absurd (none-some w
          (sym (is ∙ ap (λ o. option_map weight_in (if_ends_exist nodes (option_map (plain x) o))) none)))
      go (Some v) some =
          let y = plain x v in
          let p = is_some (slot nodes x.parent) in
          let q = is_some (slot nodes x.child) in
          let by =
          joined_by p q y w (is ∙ ap (λ o. option_map weight_in (if_ends_exist nodes (option_map (plain x) o))) some) in
          record {
            stored = ap (option_map (plain x)) some ∙ ap (λ z. Some (plain x z)) by.2;
            edge =
                ap (λ o. if_ends_exist nodes (option_map (plain x) o)) some
                ∙ ap (λ a. cond a (cond q (Some y) None) None) by.0 ∙ ap (λ b. cond b (Some y) None) by.1
                ∙ ap (λ z. Some (plain x z)) by.2;
            parent = by.0;
            child = by.1;
          }

  pub lost_is : None ≡ option_map weight_in (if_ends_exist nodes (plain_edge x))
      → if_ends_exist nodes (plain_edge x) ≡ None
  lost_is is = go x.weight refl
    where
      go : (o : Option E) → x.weight ≡ o → if_ends_exist nodes (plain_edge x) ≡ None
      go None none = ap (λ o. if_ends_exist nodes (option_map (plain x) o)) none
      go (Some v) some =
          ap (λ o. if_ends_exist nodes (option_map (plain x) o)) some
          ∙ lost_by (is_some (slot nodes x.parent)) (is_some (slot nodes x.child)) (plain x v)
          (is ∙ ap (λ o. option_map weight_in (if_ends_exist nodes (option_map (plain x) o))) some)

-- the slots up to the bound, which are read as a slice of the cells
module _ {A B : Type 0} (read : A → Option B) (cells slice : List A) (b : ℕ) (bound : b ≡ bound_of (map read cells))
    (same : slice ≡ cells) where
  pub bound_within : b ≤ length slice
  bound_within = omega (arith, bound, bound_low (map read cells), length-map cells read, ap length same)

  pub slice_long : b ≡ length (take b slice)
  slice_long = sym (length-take-le b slice bound_within)

  pub slice_few : (end : ℕ) → length cells ≤ end → length (take b slice) ≤ end
  slice_few end few = omega (arith, slice_long, bound_within, ap length same, few)

  pub slice_read : map read (take b slice) ≡ take (bound_of (map read cells)) (map read cells)
  slice_read =
      sym (take-map read b slice) ∙ ap (λ l. take b (map read l)) same ∙ ap (λ k. take k (map read cells)) bound

pub slice_joined : {N E Ix : Type 0} (nodes nodes' : List (Option N)) (cells slice : List (Edge (Option E) Ix)) (b : ℕ)
    → nodes' ≡ nodes → b ≡ bound_of (map plain_edge cells) → slice ≡ cells
    → map (λ x. if_ends_exist nodes (plain_edge x)) (take b slice)
    ≡ map (if_ends_exist nodes') (take (bound_of (map plain_edge cells)) (map plain_edge cells))
slice_joined nodes nodes' cells slice b stay bound same =
    sym (map-map (if_ends_exist nodes) plain_edge (take b slice))
    ∙ ap (map (if_ends_exist nodes)) (slice_read plain_edge cells slice b bound same)
    ∙ ap (λ l. map (if_ends_exist l) (take (bound_of (map plain_edge cells)) (map plain_edge cells))) (sym stay)
