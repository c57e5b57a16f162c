-- What a writer has after a document was written to it.
use Rattle.std.proofs.Common.{◌≡◌, ℕ, inl, inr, Option, Some, None, false, List, [], sym, subst}
use Rattle.std.specs.Prelude.{Result, Ok, Err, OnOk, IfErr, MatchResult}
use Rattle.std.specs.Io.KnownBytes.{Appends}
use Rattle.std.proofs.KnownBytes.{Appends-nil}
use Rattle.json.specs.Print.{print, print_from, ArePrintable}
use Rattle.serde_json.specs.Data.{Data}
use Rattle.daggy_base.specs.Graph.{Graph, Edge}
use Rattle.daggy_json.specs.Document.{IsEntry, IsDocumentOf, IsShortDocumentOf}
use Rattle.daggy_json.specs.Streaming.{IsTextOf, AppendsFront, HasDocument, HasFront, OrNull}
use Rattle.daggy_json.specs.Streaming.{HasShortDocument, HasShortFront}
use Rattle.daggy_json.specs.Passing.{HasFailed, Holds, HasText, Stands, Writes, AreTokensOfA, Encodes}
use Rattle.daggy_json.specs.declared.error.StreamError.{StreamError}
use Rattle.daggy_json.specs.declared.error.StreamError.TheVariants.{Memory}
use Rattle.daggy_json.specs.declared.text.TextWriter.{TextWriter}
use Rattle.daggy_json.proofs.TokenTrees.{text_of_tokens}
use Rattle.daggy_json.proofs.WrittenDocuments.{document_weaker, short_weaker}

-- nothing was written yet
pub stands_new : {W : Type 0} {contents : W → Option (List ℕ)} (writer : W) (a : TextWriter W)
    → a.writer.now ≡ writer → a.block ≡ [] → a.after_value ≡ false → a.fault ≡ None
    → Stands contents (contents writer) [] a
unfolding print_from ArePrintable
stands_new {contents = contents} writer a is nothing place no_fault =
    record {
      printable = tt;
      place = place;
      holds = subst (λ f. HasText (contents writer) [] f (contents a.writer.now) a.block) (sym no_fault)
          ([], subst (λ w. Appends (contents writer) (contents w) []) (sym is) (Appends-nil (contents writer)), sym nothing);
    }

-- without a failure each weight is encoded
encoded : {V : Type 0} (weight_as : V → Data → Type 0) (failed : Type 0) → (failed → ⊥) → (w : V) (d : Data)
    → Encodes weight_as failed w d → weight_as w d
encoded weight_as failed none w d (inl h) = h
encoded weight_as failed none w d (inr h) = absurd (none h.1)

entry_encoded : {E : Type 0} (edge_as : E → Data → Type 0) (failed : Type 0) → (failed → ⊥) → (o : Option (Edge E))
    (d : Data) → IsEntry (Encodes edge_as failed) o d → IsEntry edge_as o d
entry_encoded edge_as failed none None d h = h
entry_encoded edge_as failed none (Some x) d h = (h.0, encoded edge_as failed none x.weight h.0 h.1, h.2)

or_null : {V : Type 0} (weight_as : V → Data → Type 0) (failed : Type 0) (w : V) (d : Data)
    → Encodes weight_as failed w d → OrNull weight_as w d
or_null weight_as failed w d (inl h) = inl h
or_null weight_as failed w d (inr h) = inr h.0

entry_or_null : {E : Type 0} (edge_as : E → Data → Type 0) (failed : Type 0) (o : Option (Edge E)) (d : Data)
    → IsEntry (Encodes edge_as failed) o d → IsEntry (OrNull edge_as) o d
entry_or_null edge_as failed None d h = h
entry_or_null edge_as failed (Some x) d h = (h.0, or_null edge_as failed x.weight h.0 h.1, h.2)

module _ {W : Type 0} {contents : W → Option (List ℕ)} (IsWritten : Data → Type 0) {a b : TextWriter W}
    (start now now' : Option (List ℕ)) (same : now ≡ now') (s : Stands contents start [] a)
    (w : Writes contents a b (AreTokensOfA IsWritten)) where
  -- what `finish` says of the text
  abbrev pub Sent : Result (Unit {0}) StreamError → Type 0
  Sent r =
      (begin : Option (List ℕ)) (text : List ℕ) → Holds contents begin text b
      → MatchResult r (λ _. Appends begin now text) (λ _. AppendsFront begin now text)

  stands : Stands contents start w.0 b
  stands = w.2.stands start [] s

  module _ (Is : Data → Type 0) where
    text_of_written : (r : Result (Unit {0}) StreamError) → (HasFailed b → r ≡ Err Memory) → Sent r
        → ((HasFailed b → ⊥) → (d : Data) → IsWritten d → Is d)
        → OnOk r ((d : Data) × Is d × (text : List ℕ) × IsTextOf d text × Appends start now' text)
    text_of_written (Ok u) failed sent strict =
        let none : HasFailed b → ⊥ = λ h. (let e = failed h in cc) in (
          w.1.0,
          strict none w.1.0 w.1.1,
          print w.0,
          text_of_tokens w.1.0 w.0 w.1.2 stands.printable,
          subst (λ n. Appends start n (print w.0)) same (sent start (print w.0) stands.holds),
        )
    text_of_written (Err e) failed sent strict = tt

    front_of_written : (r : Result (Unit {0}) StreamError) → (HasFailed b → r ≡ Err Memory) → Sent r
        → ((HasFailed b → ⊥) → (d : Data) → IsWritten d → Is d)
        → IfErr r (λ e. ¬ (e ≡ Memory)
        → (d : Data) × Is d × (text : List ℕ) × IsTextOf d text × AppendsFront start now' text)
    front_of_written (Ok u) failed sent strict = tt
    front_of_written (Err e) failed sent strict = λ other.
        let none : HasFailed b → ⊥ = λ h. (let is = failed h in let m : e ≡ Memory = cc in other m) in (
          w.1.0,
          strict none w.1.0 w.1.1,
          print w.0,
          text_of_tokens w.1.0 w.0 w.1.2 stands.printable,
          subst (λ n. AppendsFront start n (print w.0)) same (sent start (print w.0) stands.holds),
        )

    front_after_failure : (r : Result (Unit {0}) StreamError) → Sent r → ((d : Data) → IsWritten d → Is d)
        → r ≡ Err Memory
        → (d : Data) × Is d × (text : List ℕ) × IsTextOf d text × AppendsFront start now' text
    front_after_failure (Ok u) sent loose is = absurd (cc)
    front_after_failure (Err e) sent loose is = (
      w.1.0,
      loose w.1.0 w.1.1,
      print w.0,
      text_of_tokens w.1.0 w.0 w.1.2 stands.printable,
      subst (λ n. AppendsFront start n (print w.0)) same (sent start (print w.0) stands.holds),
    )

module _ {W N E : Type 0} (node_as : N → Data → Type 0) (edge_as : E → Data → Type 0) (graph : Graph N E)
    (b : TextWriter W) where
  abbrev IsLong : Data → Type 0
  IsLong = IsDocumentOf (Encodes node_as (HasFailed b)) (Encodes edge_as (HasFailed b)) graph

  abbrev IsShort : Data → Type 0
  IsShort = IsShortDocumentOf (Encodes node_as (HasFailed b)) (Encodes edge_as (HasFailed b)) graph

  strict : (HasFailed b → ⊥) → (d : Data) → IsLong d → IsDocumentOf node_as edge_as graph d
  strict none d =
      document_weaker _ node_as _ edge_as graph d (encoded node_as (HasFailed b) none)
      (entry_encoded edge_as (HasFailed b) none)

  loose : (d : Data) → IsLong d → IsDocumentOf (OrNull node_as) (OrNull edge_as) graph d
  loose d =
      document_weaker _ (OrNull node_as) _ (OrNull edge_as) graph d (or_null node_as (HasFailed b))
      (entry_or_null edge_as (HasFailed b))

  strict_short : (HasFailed b → ⊥) → (d : Data) → IsShort d → IsShortDocumentOf node_as edge_as graph d
  strict_short none d =
      short_weaker _ node_as _ edge_as graph d (encoded node_as (HasFailed b) none)
      (entry_encoded edge_as (HasFailed b) none)

  loose_short : (d : Data) → IsShort d → IsShortDocumentOf (OrNull node_as) (OrNull edge_as) graph d
  loose_short d =
      short_weaker _ (OrNull node_as) _ (OrNull edge_as) graph d (or_null node_as (HasFailed b))
      (entry_or_null edge_as (HasFailed b))

module _ {W : Type 0} {contents : W → Option (List ℕ)} {N E : Type 0} (node_as : N → Data → Type 0)
    (edge_as : E → Data → Type 0) (graph : Graph N E) {a b : TextWriter W} (start now now' : Option (List ℕ))
    (same : now ≡ now') (s : Stands contents start [] a) where
  module _ (w : Writes contents a b (AreTokensOfA (IsLong node_as edge_as graph b))) where
    pub has_document : (r : Result (Unit {0}) StreamError) → (HasFailed b → r ≡ Err Memory)
        → Sent (IsLong node_as edge_as graph b) start now now' same s w r → OnOk r (HasDocument node_as edge_as graph start now')
    has_document r failed sent =
        text_of_written (IsLong node_as edge_as graph b) start now now' same s w (IsDocumentOf node_as edge_as graph) r failed sent
        (strict node_as edge_as graph b)

    pub has_front : (r : Result (Unit {0}) StreamError) → (HasFailed b → r ≡ Err Memory)
        → Sent (IsLong node_as edge_as graph b) start now now' same s w r
        → IfErr r (λ e. ¬ (e ≡ Memory) → HasFront node_as edge_as graph start now')
    has_front r failed sent =
        front_of_written (IsLong node_as edge_as graph b) start now now' same s w (IsDocumentOf node_as edge_as graph) r failed sent
        (strict node_as edge_as graph b)

    pub has_front_or_null : (r : Result (Unit {0}) StreamError) → Sent (IsLong node_as edge_as graph b) start now now' same s w r
        → r ≡ Err Memory → HasFront (OrNull node_as) (OrNull edge_as) graph start now'
    has_front_or_null r sent =
        front_after_failure (IsLong node_as edge_as graph b) start now now' same s w (IsDocumentOf (OrNull node_as) (OrNull edge_as) graph) r sent
        (loose node_as edge_as graph b)

  module _ (w : Writes contents a b (AreTokensOfA (IsShort node_as edge_as graph b))) where
    pub has_short : (r : Result (Unit {0}) StreamError) → (HasFailed b → r ≡ Err Memory)
        → Sent (IsShort node_as edge_as graph b) start now now' same s w r → OnOk r (HasShortDocument node_as edge_as graph start now')
    has_short r failed sent =
        text_of_written (IsShort node_as edge_as graph b) start now now' same s w (IsShortDocumentOf node_as edge_as graph) r failed sent
        (strict_short node_as edge_as graph b)

    pub has_short_front : (r : Result (Unit {0}) StreamError) → (HasFailed b → r ≡ Err Memory)
        → Sent (IsShort node_as edge_as graph b) start now now' same s w r
        → IfErr r (λ e. ¬ (e ≡ Memory) → HasShortFront node_as edge_as graph start now')
    has_short_front r failed sent =
        front_of_written (IsShort node_as edge_as graph b) start now now' same s w (IsShortDocumentOf node_as edge_as graph) r failed sent
        (strict_short node_as edge_as graph b)

    pub has_short_front_or_null : (r : Result (Unit {0}) StreamError) → Sent (IsShort node_as edge_as graph b) start now now' same s w r
        → r ≡ Err Memory → HasShortFront (OrNull node_as) (OrNull edge_as) graph start now'
    has_short_front_or_null r sent =
        front_after_failure (IsShort node_as edge_as graph b) start now now' same s w
        (IsShortDocumentOf (OrNull node_as) (OrNull edge_as) graph) r sent
        (loose_short node_as edge_as graph b)
