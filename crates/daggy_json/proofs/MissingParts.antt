-- A value with a fault of its shape has no parts.
use Rattle.std.proofs.Common.{◌≡◌, ℕ, zero, suc, Option, Some, None, IsSome, is_some, List, [], ◌∷◌, ◌++◌, map}
use Rattle.std.proofs.Common.{take, drop, slice_get, refl, sym, ap, subst, ◌∙◌}
use Rattle.std.specs.Prelude.{Result, Err, option_and_then, codes}
use Rattle.std.specs.List.{AllZip}
use Rattle.std.specs.Option.{option_map}
use Rattle.std.proofs.lemmas.Bool.{false≢true}
use Rattle.serde_json.specs.Data.{Data, null, boolean, number, string, array, object}
use Rattle.serde_json.specs.Find.{get, as_array, as_object}
use Rattle.serde_json.specs.View.{view, items_of}
use Rattle.serde_json.specs.declared.value.Value.{Value}
use Rattle.daggy_json.specs.Reading.{array_in, whole_in, all_in, array_at, holes_in, parts_in, ReadsEach}
use Rattle.daggy_json.specs.Fault.{StopsAt, IsWhole, property_in, HasWrongHoles, IsShapeFault}
use Rattle.daggy_json.specs.FoundFault.{StopsIn}
use Rattle.daggy_json.specs.declared.error.ReadError.{ReadError}
use Rattle.daggy_json.specs.declared.error.ReadError.TheVariants.{Shape}
use Rattle.daggy_json.specs.declared.fault.Fault.{Fault}
use Rattle.daggy_json.specs.declared.fault.Member.{Member}
use Rattle.daggy_json.specs.declared.fault.Member.TheVariants.{Document, Nodes, NodeHoles, EdgeProperty, Edges}
use Rattle.daggy_json.proofs.FoundParts.{array_some, array_none}

-- ---- lists

split_at : (ds : List Data) (i : ℕ) (d : Data)
    → slice_get ds i ≡ Some d → ds ≡ take i ds ++ d ∷ drop (suc i) ds
split_at [] i d h = cc
split_at (k ∷ ds) zero d h = let same : k ≡ d = cc in ap (λ z. z ∷ ds) same
split_at (k ∷ ds) (suc i) d h = ap (λ z. k ∷ z) (split_at ds i d h)

pub stops_reads : {A : Type 0} (reads : Data → Result A ReadError → Type 0) (ds : List Data) (i : ℕ) (e : ReadError)
    → StopsAt reads ds i e → ReadsEach reads ds (Err e)
stops_reads reads ds i e s =
    (take i ds, s.entry, drop (suc i) ds, s.before, split_at ds i s.entry s.at, s.earlier, s.fault)

module _ {A : Type 0} (one : Data → Option A) where
  pub each_given : (ds : List Data) (xs : List A) → AllZip (λ d x. one d ≡ Some x) ds xs → all_in one ds ≡ Some xs
  each_given [] [] h = refl
  each_given (d ∷ ds) (x ∷ xs) h = rw (h.0, each_given ds xs h.1) refl
  each_given _ _ h = absurd h

  pub none_given : (ds : List Data) (i : ℕ) (d : Data) → slice_get ds i ≡ Some d → one d ≡ None → all_in one ds ≡ None
  none_given [] i d h none = cc
  none_given (k ∷ ds) zero d h none =
      let same : k ≡ d = cc in ap (option_and_then (λ x. option_map (λ xs. x ∷ xs) (all_in one ds))) (ap one same ∙ none)
  none_given (k ∷ ds) (suc i) d h none =
      ap (λ z. option_and_then (λ x. option_map (λ xs. x ∷ xs) z) (one k)) (none_given ds i d h none) ∙ gone (one k)
    where
      gone : (o : Option A) → option_and_then (λ x. option_map (λ xs. x ∷ xs) None) o ≡ None
      gone None = refl
      gone (Some x) = refl

-- ---- holes

holes_none : (o : Option Data) → IsSome o → option_and_then array_in o ≡ None → holes_in o ≡ None
holes_none None some none = absurd (false≢true some)
holes_none (Some h) some none = ap (option_and_then (all_in whole_in)) none

hole_none : (o : Option Data) (hs : List Data)
    → option_and_then array_in o ≡ Some hs → all_in whole_in hs ≡ None → holes_in o ≡ None
hole_none None hs some none = cc
hole_none (Some h) hs some none = ap (option_and_then (all_in whole_in)) some ∙ none

wrong_holes : (d : Data) (entry : Option ℕ) → HasWrongHoles d entry → holes_in (get (codes "node_holes") d) ≡ None
wrong_holes d None h = holes_none (get (codes "node_holes") d) h.0 h.1
wrong_holes d (Some i) h =
    hole_none (get (codes "node_holes") d) h.0 h.1 (none_given whole_in h.0 i h.2.entry h.2.at h.2.fault.0)

-- ---- in the words of the code

-- a list that was read at the holes
module _ (d h : Data) (got : Some h ≡ get (codes "node_holes") d) (vs : List Value)
    (array : Some (items_of (map view vs)) ≡ as_array h) where
  array_there : array_at (codes "node_holes") d ≡ Some (map view vs)
  array_there = ap (option_and_then array_in) (sym got) ∙ array_some h vs array

  pub holes_given : (hs : List ℕ)
      → all_in whole_in (map view vs) ≡ Some hs → holes_in (get (codes "node_holes") d) ≡ Some hs
  holes_given hs e = ap holes_in (sym got) ∙ (ap (option_and_then (all_in whole_in)) (array_some h vs array) ∙ e)

  pub holes_stopped : (f : Fault) → StopsIn IsWhole (map view vs) NodeHoles f
      → (f.error ≡ Shape) × (f.place.member ≡ NodeHoles) × HasWrongHoles d f.place.entry
  holes_stopped f s =
      let shape : f.error ≡ Shape = s.3.fault.1 in (
        shape,
        s.1,
        subst (HasWrongHoles d) (sym s.2) (
          map view vs,
          array_there,
          subst (λ e. StopsAt IsWhole (map view vs) s.0 e) shape s.3,
        ),
      )

-- what is at the holes is no array
pub holes_no_array : (d h : Data) → Some h ≡ get (codes "node_holes") d → None ≡ as_array h → (f : Fault)
    → f.place.entry ≡ None → HasWrongHoles d f.place.entry
holes_no_array d h got none f at =
    subst (HasWrongHoles d) (sym at) (
      ap is_some (sym got),
      ap (option_and_then array_in) (sym got) ∙ array_none h none,
    )

-- ---- parts

-- one of four is missing
one_missing : {A B C D R : Type 0} (f : A → B → C → D → R) (a : Option A) (b : Option B) (c : Option C) (d : Option D)
    → (IsSome a → IsSome b → IsSome c → IsSome d → ⊥)
    → option_and_then (λ x. option_and_then (λ y. option_and_then (λ z. option_map (f x y z) d) c) b) a ≡ None
one_missing f None b c d h = refl
one_missing f (Some x) None c d h = refl
one_missing f (Some x) (Some y) None d h = refl
one_missing f (Some x) (Some y) (Some z) None h = refl
one_missing f (Some x) (Some y) (Some z) (Some w) h = absurd (h refl refl refl refl)

no_some : {A : Type 0} (o : Option A) → o ≡ None → IsSome o → ⊥
no_some None none some = false≢true some
no_some (Some x) none some = cc

no_object : (d : Data) → as_object d ≡ None → array_at (codes "nodes") d ≡ None
no_object null h = refl
no_object (boolean b) h = refl
no_object (number n) h = refl
no_object (string s) h = refl
no_object (array ds) h = refl
no_object (object ms) h = cc

parts_missing : (d : Data) → (IsSome (array_at (codes "nodes") d) → IsSome (holes_in (get (codes "node_holes") d))
    → IsSome (property_in d) → IsSome (array_at (codes "edges") d) → ⊥)
    → parts_in d ≡ None
parts_missing d h =
    one_missing _ (array_at (codes "nodes") d) (holes_in (get (codes "node_holes") d)) (property_in d)
    (array_at (codes "edges") d) h

pub shape_none : (d : Data) (member : Member) (entry : Option ℕ) → IsShapeFault d member entry → parts_in d ≡ None
shape_none d Document None h = parts_missing d (λ a b c e. no_some _ (no_object d h) a)
shape_none d Nodes None h = parts_missing d (λ a b c e. no_some _ h.1 a)
shape_none d EdgeProperty None h = parts_missing d (λ a b c e. no_some _ h.1 c)
shape_none d Edges None h = parts_missing d (λ a b c e. no_some _ h.2 e)
shape_none d NodeHoles entry h = parts_missing d (λ a b c e. no_some _ (wrong_holes d entry h.3) b)
shape_none d _ _ h = absurd h
