-- What was written of a list so far, and of an array, an entry and a weight.
use Rattle.std.proofs.Common.{◌≡◌, ℕ, inl, inr, Option, Some, None, List, [], ◌∷◌, ◌++◌, map, refl, sym, ap, subst, ◌∙◌}
use Rattle.std.proofs.Common.{true, is_some, append-nil}
use Rattle.std.specs.Prelude.{Result, Ok, Err}
use Rattle.std.specs.Fn.{Shared}
use Rattle.std.specs.Borrow.{Bor}
use Rattle.std.specs.Option.{option_map}
use Rattle.std.specs.declared.alloc.AllocError.{AllocError}
use Rattle.json.specs.Token.{Token, begin_array, end_array}
use Rattle.serde_json.specs.Data.{Data, null}
use Rattle.serde_json.specs.View.{view}
use Rattle.serde_json.specs.declared.value.Value.{Value}
use Rattle.daggy_base.specs.Graph.{Edge, slot}
use Rattle.daggy_json.specs.Document.{whole, listed, IsEntry}
use Rattle.daggy_json.specs.Weight.{WritesAs}
use Rattle.daggy_json.specs.Passing.{HasFailed, StaysOn, Passes, Writes, AreTokensOf, AreTokensOfA, AreTokensOfWeight}
use Rattle.daggy_json.specs.Passing.{Encodes, IsArrayOf}
use Rattle.daggy_json.specs.declared.text.TextWriter.{TextWriter}
use Rattle.daggy_json.proofs.Parts.{EdgeRead, entry_is, not_some, writes_as}
use Rattle.daggy_json.proofs.PassedTokens.{passes_then, passes_none}
use Rattle.daggy_json.proofs.TokenTrees.{Each, each_more, each_weaker, array_of, array_of_values, array_tokens_of}

-- whether there is something in a slot, by its number
pub slot_filled : {A : Type 0} (slots : List (Option A)) {i n : ℕ} → n ≡ i → is_some (slot slots n) ≡ true
    → is_some (slot slots i) ≡ true
slot_filled slots at some = ap (λ k. is_some (slot slots k)) (sym at) ∙ some

pub none_mapped : {A B : Type 0} (f : A → B) (o : Option A) → None ≡ option_map f o → o ≡ None
none_mapped f None h = refl
none_mapped f (Some x) h = absurd (cc)

pub slot_vacant : {A : Type 0} (slots : List (Option A)) {i n : ℕ} → n ≡ i → (is_some (slot slots n) ≡ true → ⊥)
    → slot slots i ≡ None
slot_vacant slots {i} at vacant = not_some (slot slots i) (λ h. vacant (ap (λ k. is_some (slot slots k)) at ∙ h))

-- what each value may be, given more
pub encodes_later : {W : Type 0} (weight_as : W → Data → Type 0) {failed failed' : Type 0} → (failed → failed')
    → (w : W) (d : Data) → Encodes weight_as failed w d → Encodes weight_as failed' w d
encodes_later weight_as later w d (inl h) = inl h
encodes_later weight_as later w d (inr h) = inr (h.0, later h.1)

pub entry_later : {E : Type 0} (edge_as : E → Data → Type 0) {failed failed' : Type 0} → (failed → failed')
    → (o : Option (Edge E)) (d : Data)
    → IsEntry (Encodes edge_as failed) o d → IsEntry (Encodes edge_as failed') o d
entry_later edge_as later None d h = h
entry_later edge_as later (Some x) d h = (h.0, encodes_later edge_as later x.weight h.0 h.1, h.2)

tokens_later : {A : Type 0} {Is Is' : A → Data → Type 0} → ((x : A) (d : Data) → Is x d → Is' x d)
    → (x : A) (ts : List Token) → AreTokensOfA (Is x) ts → AreTokensOfA (Is' x) ts
tokens_later later x ts h = (h.0, later x h.0 h.1, h.2)

-- a weight that a function encoded, or failed to
weight_tokens : {F W : Type 0} (g : Shared F (Bor W × Unit {0}) (Result Value AllocError)) (f : F) (p : Bor W)
    {failed : Type 0} (r : Result Value AllocError) (ts : List Token) → g.post f (p, tt) r
    → AreTokensOfWeight r failed ts → AreTokensOfA (Encodes (WritesAs g f) failed p.now) ts
weight_tokens g f p (Ok v) ts met h = (view v, inl (writes_as g f p v met), h)
weight_tokens g f p (Err e) ts met h = (null, inr (refl, h.1), h.0)

module _ {W : Type 0} {contents : W → Option (List ℕ)} where
  -- nothing of a list
  pub writes_none : {A : Type 0} (Is : A → List Token → Type 0) (a : TextWriter W) → Writes contents a a (Each Is [])
  writes_none Is a = ([], refl, passes_none a)

  -- one more of a list
  pub writes_more : {A : Type 0} (Is : A → List Token → Type 0) {a b c : TextWriter W} (xs : List A) (x : A)
      {ys : List A} → ys ≡ xs ++ x ∷ [] → Writes contents a b (Each Is xs) → Writes contents b c (Is x)
      → Writes contents a c (Each Is ys)
  writes_more Is {a} {b} {c} xs x more so_far here = (
    so_far.0 ++ here.0,
    subst (λ l. Each Is l (so_far.0 ++ here.0)) (sym more)
        (each_more Is xs x so_far.0 here.0 so_far.1 here.1),
    passes_then so_far.2 here.2,
  )

  -- the same after more was written, which may have failed
  writes_weaker : {A : Type 0} (Is Is' : A → List Token → Type 0) {a b : TextWriter W} (xs : List A)
      → ((x : A) (us : List Token) → Is x us → Is' x us)
      → Writes contents a b (Each Is xs) → Writes contents a b (Each Is' xs)
  writes_weaker Is Is' xs weaker so_far =
      (so_far.0, each_weaker Is Is' weaker xs so_far.0 so_far.1, so_far.2)

  pub weights_later : {N : Type 0} (node_as : N → Data → Type 0) {a b c : TextWriter W} (xs : List N) → StaysOn b c
      → Writes contents a b (Each (λ w us. AreTokensOfA (Encodes node_as (HasFailed b) w) us) xs)
      → Writes contents a b (Each (λ w us. AreTokensOfA (Encodes node_as (HasFailed c) w) us) xs)
  weights_later node_as {a} {b} {c} xs stays =
      writes_weaker (λ w us. AreTokensOfA (Encodes node_as (HasFailed b) w) us)
      (λ w us. AreTokensOfA (Encodes node_as (HasFailed c) w) us) xs
      (tokens_later {Is = Encodes node_as (HasFailed b)} {Is' = Encodes node_as (HasFailed c)}
      (encodes_later node_as stays.failed))

  pub entries_later : {E : Type 0} (edge_as : E → Data → Type 0) {a b c : TextWriter W}
      (xs : List (Option (Edge E))) → StaysOn b c
      → Writes contents a b (Each (λ o us. AreTokensOfA (IsEntry (Encodes edge_as (HasFailed b)) o) us) xs)
      → Writes contents a b (Each (λ o us. AreTokensOfA (IsEntry (Encodes edge_as (HasFailed c)) o) us) xs)
  entries_later edge_as {a} {b} {c} xs stays =
      writes_weaker (λ o us. AreTokensOfA (IsEntry (Encodes edge_as (HasFailed b)) o) us)
      (λ o us. AreTokensOfA (IsEntry (Encodes edge_as (HasFailed c)) o) us) xs
      (tokens_later {Is = IsEntry (Encodes edge_as (HasFailed b))} {Is' = IsEntry (Encodes edge_as (HasFailed c))}
      (entry_later edge_as stays.failed))

  -- the brackets
  bracketed : {a b c d : TextWriter W} {ts : List Token} → Passes contents a b (begin_array ∷ [])
      → Passes contents b c ts → Passes contents c d (end_array ∷ [])
      → Passes contents a d ((begin_array ∷ []) ++ (ts ++ end_array ∷ []))
  bracketed opened inner closed = passes_then opened (passes_then inner closed)

  pub writes_array_of : {A : Type 0} (f : A → Data) {a b c d : TextWriter W} (xs : List A)
      → Passes contents a b (begin_array ∷ []) → Writes contents b c (Each (λ x us. AreTokensOf (f x) us) xs)
      → Passes contents c d (end_array ∷ []) → Writes contents a d (AreTokensOf (listed (map f xs)))
  writes_array_of f xs opened inner closed =
      (_, array_of f xs inner.0 inner.1, bracketed opened inner.2 closed)

  pub writes_array_of_values : {A : Type 0} (Is : A → Data → Type 0) {a b c d : TextWriter W} (xs : List A)
      → Passes contents a b (begin_array ∷ []) → Writes contents b c (Each (λ x us. AreTokensOfA (Is x) us) xs)
      → Passes contents c d (end_array ∷ []) → Writes contents a d (AreTokensOfA (IsArrayOf Is xs))
  writes_array_of_values Is xs opened inner closed =
      (_, array_of_values Is xs inner.0 inner.1, bracketed opened inner.2 closed)

  pub writes_pair : (x y : Data) {a b c d e : TextWriter W} → Passes contents a b (begin_array ∷ [])
      → Writes contents b c (AreTokensOf x) → Writes contents c d (AreTokensOf y)
      → Passes contents d e (end_array ∷ []) → Writes contents a e (AreTokensOf (listed (x ∷ y ∷ [])))
  writes_pair x y opened first second closed = (
    _,
    array_tokens_of (x ∷ y ∷ []) (first.0 ++ second.0)
        (first.0, second.0, first.1, (second.0, [], second.1, refl, sym (append-nil second.0)), refl),
    bracketed opened (passes_then first.2 second.2) closed,
  )

  -- the entry of an edge
  pub writes_entry : {E I : Type 0} (number : I → ℕ) (edge_as : E → Data → Type 0) (o : Option (Edge E)) {p q : ℕ}
      {w : E} {a b c d e f : TextWriter W} → EdgeRead number o p q w → Passes contents a b (begin_array ∷ [])
      → Writes contents b c (AreTokensOf (whole p)) → Writes contents c d (AreTokensOf (whole q))
      → Writes contents d e (AreTokensOfA (Encodes edge_as (HasFailed e) w)) → Passes contents e f (end_array ∷ [])
      → Writes contents a f (AreTokensOfA (IsEntry (Encodes edge_as (HasFailed f)) o))
  writes_entry number edge_as o {p} {q} {w} read opened first second third closed =
      let v = third.1.0 in
      let parts = whole p ∷ whole q ∷ v ∷ [] in
      let says = encodes_later edge_as closed.stays.failed w v third.1.1 in (
        _,
        (
          listed parts,
          entry_is number _ o v read says refl,
          array_tokens_of parts (first.0 ++ (second.0 ++ third.0)) (
            first.0,
            second.0 ++ third.0,
            first.1,
            (second.0, third.0, second.1, (third.0, [], third.1.2, refl, sym (append-nil third.0)), refl),
            refl,
          ),
        ),
        bracketed opened (passes_then first.2 (passes_then second.2 third.2)) closed,
      )

  -- the weight of a node or of an edge
  pub writes_weight : {F V : Type 0} (g : Shared F (Bor V × Unit {0}) (Result Value AllocError)) (f : F) (p : Bor V)
      (r : Result Value AllocError) {a b : TextWriter W} → g.post f (p, tt) r
      → Writes contents a b (AreTokensOfWeight r (HasFailed b))
      → Writes contents a b (AreTokensOfA (Encodes (WritesAs g f) (HasFailed b) p.now))
  writes_weight g f p r met written = (written.0, weight_tokens g f p r written.0 met written.1, written.2)

  -- the entry of a vacant slot
  pub writes_vacant : {E : Type 0} (edge_as : E → Data → Type 0) (o : Option (Edge E)) {a b : TextWriter W}
      → o ≡ None → Writes contents a b (AreTokensOf null) → Writes contents a b (AreTokensOfA (IsEntry edge_as o))
  writes_vacant edge_as None none written = (written.0, (null, refl, written.1), written.2)
  writes_vacant edge_as (Some x) none written = absurd (cc)
