-- Weights and entries that were read so far.
use Rattle.std.proofs.Common.{◌≡◌, ℕ, ◌+◌, ◌<◌, ◌≤◌, IsSome, Option, Some, None, List, [], ◌∷◌, ◌++◌, length}
use Rattle.std.proofs.Common.{get_or, take, map, sym, ap, subst, ◌∙◌, arith}
use Rattle.std.specs.Prelude.{Result, Ok, Err}
use Rattle.std.specs.List.{AllZip}
use Rattle.std.proofs.lemmas.List.{map-append, take_more, take_all, take-map, length-map, length-take-le}
use Rattle.std.proofs.lemmas.Slice.Zip.{AllZip-long}
use Rattle.serde_json.specs.Data.{Data}
use Rattle.serde_json.specs.View.{view}
use Rattle.serde_json.specs.declared.value.Value.{Value}
use Rattle.daggy_base.specs.declared.kind.Kind.{Kind}
use Rattle.daggy_json.specs.Reading.{ReadsEach, triple_in, IsEntryRead}
use Rattle.daggy_base.specs.Graph.{slot}
use Rattle.daggy_base.proofs.Lists.{slice_get_mapped}
use Rattle.daggy_json.specs.FoundFault.{StopsIn}
use Rattle.daggy_json.specs.declared.error.ReadError.{ReadError}
use Rattle.daggy_json.specs.declared.error.ReadError.TheVariants.{Weight}
use Rattle.daggy_json.specs.declared.fault.Fault.{Fault}
use Rattle.daggy_json.specs.declared.fault.Member.{Member}
use Rattle.daggy_json.proofs.Parts.{zip_more}

module _ {A : Type 0} (reads : Data → Result A ReadError → Type 0) where
  -- the first i were read as xs
  pub record EachSoFar (vs : List Value) (i : ℕ) (xs : List A) : Type 0 where
    pub each : AllZip (λ d x. reads d (Ok x)) (map view (take i vs)) xs

  module _ {vs : List Value} {i : ℕ} {xs : List A} (s : EachSoFar vs i xs) where
    pub each_more : (v : Value) (x : A) (xs' : List A)
        → i < length vs → v ≡ get_or vs i v → reads (view v) (Ok x) → xs' ≡ xs ++ x ∷ [] → EachSoFar vs (i + 1) xs'
    each_more v x xs' low is gives more =
        let e : map view (take (i + 1) vs) ≡ map view (take i vs) ++ view v ∷ [] =
        ap (map view) (take_more vs i v low ∙ ap (λ k. take i vs ++ k ∷ []) (sym is))
        ∙ map-append view (take i vs) (v ∷ []) in
        record { each = rw (e, more) (zip_more (λ d x. reads d (Ok x)) _ xs (view v) x s.each gives) }

    counted : i < length vs → length xs ≡ i
    counted low =
        AllZip-long _ _ _ s.each ∙ (length-map (take i vs) view ∙ length-take-le i vs (omega arith))

    -- the next one is not read
    pub each_stops : (v : Value) (member : Member) (f : Fault) (e : ReadError)
        → i < length vs → v ≡ get_or vs i v → reads (view v) (Err e) → f.error ≡ e → f.place.member ≡ member
        → (n : ℕ) → f.place.entry ≡ Some n → n ≡ length xs → StopsIn reads (map view vs) member f
    each_stops v member f e low is gives same of n at long = (
      i,
      of,
      at ∙ ap Some (long ∙ counted low),
      record {
        entry = view v;
        at = slice_get_mapped view vs i v low is;
        fault = subst (λ z. reads (view v) (Err z)) (sym same) gives;
        before = xs;
        earlier = rw (take-map view i vs) s.each;
      },
    )

    -- all were read
    pub each_all : length vs ≤ i → ReadsEach reads (map view vs) (Ok xs)
    each_all past = rw (take_all i vs past) at s.each

-- ---- entries

module _ {N E : Type 0} (kind : Kind) (nodes : List (Option N)) (answers : Data → Option E → Type 0) (d : Data)
    {p q : ℕ} {w : Data} (found : Some (p, q, w) ≡ triple_in d) (parent : IsSome (slot nodes p))
    (child : IsSome (slot nodes q)) where
  pub entry_some : {p' q' : ℕ} (x : E) → p' ≡ p → q' ≡ q → answers w (Some x)
      → IsEntryRead kind nodes answers d (Ok (Some (record { parent = p'; child = q'; weight = x })))
  entry_some {p'} x is is' says = (
    w,
    sym found ∙ (ap (λ k. Some (k, q, w)) (sym is) ∙ ap (λ k. Some (p', k, w)) (sym is')),
    (rw is parent, rw is' child),
    says,
  )

  pub entry_refused : answers w None → IsEntryRead kind nodes answers d (Err Weight)
  entry_refused says = ((p, q, w), sym found, (parent, child), says)
