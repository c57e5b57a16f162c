-- Documents whose weights are integers, and their texts.
use Rattle.std.proofs.Common.{◌≡◌, ℕ, ℤ, List, [], ◌∷◌, ◌++◌, codes, Option, Some, None, Result, Ok, Err, false, refl}
use Rattle.std.proofs.Common.{ap, ◌∙◌, append_assoc, inr}
use Rattle.std.specs.List.{AllZip}
use Rattle.std.specs.Option.{IfSome}
use Rattle.std.specs.Result.{IfOk, OnOk, result_ok}
use Rattle.serde_json.specs.Data.{Data}
use Rattle.serde_json.specs.View.{view}
use Rattle.serde_json.specs.Written.{has_float, compact_text}
use Rattle.serde_json.specs.declared.value.Value.{Value}
use Rattle.daggy.specs.Graph.{Graph, Edge}
use Rattle.daggy.specs.Document.{IsEntry, IsDocumentOf}
use Rattle.dagbench_engine.specs.Documents.{StandsFor, IsDocumentText, TellsDocument}
use Rattle.dagbench_lines.specs.Streams.{Appends}
use Rattle.dagbench_engine.proofs.NoFloats.{has_none}

-- what a function says of each weight holds of the weights in a document
module _ {says : ℤ → Data → Type 0} (stands : (w : ℤ) (d : Data) → says w d → StandsFor w d) where
  all_stand : (ws : List ℤ) (ds : List Data) → AllZip says ws ds → AllZip StandsFor ws ds
  all_stand [] [] all = all
  all_stand [] (d ∷ ds) all = absurd all
  all_stand (w ∷ ws) [] all = absurd all
  all_stand (w ∷ ws) (d ∷ ds) all = (stands w d all.0, all_stand ws ds all.1)

  entry : (x : Option (Edge ℤ)) (d : Data) → IsEntry says x d → IsEntry StandsFor x d
  entry None d is = is
  entry (Some x) d is = (is.0, stands x.weight is.0 is.1, is.2)

  entries : (xs : List (Option (Edge ℤ))) (ds : List Data)
      → AllZip (IsEntry says) xs ds → AllZip (IsEntry StandsFor) xs ds
  entries [] [] all = all
  entries [] (d ∷ ds) all = absurd all
  entries (x ∷ xs) [] all = absurd all
  entries (x ∷ xs) (d ∷ ds) all = (entry x d all.0, entries xs ds all.1)

  pub document_made : {E : Type 0} (r : Result Value E) (g : Graph ℤ ℤ)
      → IfOk r (λ v. IsDocumentOf says says g (view v))
      → IfSome (result_ok r) (λ v. IsDocumentOf StandsFor StandsFor g (view v))
  document_made (Err e) g is = tt
  document_made (Ok v) g is = record {
    entries = is.entries;
    weights = is.weights;
    edges = entries _ _ is.edges;
    nodes = all_stand _ _ is.nodes;
    is = is.is;
  }

-- its text
pub document_written : {B E : Type 0} (items : B → List ℕ) (r : Result B E) (g : Graph ℤ ℤ) (d : Data)
    → IsDocumentOf StandsFor StandsFor g d
    → IfOk r (λ b. has_float d ≡ false → items b ≡ compact_text d)
    → IfSome (result_ok r) (λ b. IsDocumentText g (items b))
document_written items (Err e) g d is text = tt
document_written items (Ok b) g d is text = (d, is, text (has_none g d is))

-- and the line that tells it
pub document_told : {A E : Type 0} (r : Result A E) (g : Graph ℤ ℤ) (before between now text : List ℕ)
    → TellsDocument g text
    → between ≡ before ++ text → Appends r between now (10 ∷ [])
    → OnOk r ((text : List ℕ) × TellsDocument g text × (now ≡ before ++ (text ++ 10 ∷ [])))
document_told (Err e) g before between now text tells put ended = tt
document_told (Ok x) g before between now text tells put ended =
    (text, tells, ended ∙ ap (λ t. t ++ 10 ∷ []) put ∙ append_assoc before text (10 ∷ []))

pub no_memory_told : {A E : Type 0} (r : Result A E) (g : Graph ℤ ℤ) (before now : List ℕ)
    → Appends r before now (codes "memory\n")
    → OnOk r ((text : List ℕ) × TellsDocument g text × (now ≡ before ++ (text ++ 10 ∷ [])))
no_memory_told (Err e) g before now put = tt
no_memory_told (Ok x) g before now put = (codes "memory", inr refl, put)
