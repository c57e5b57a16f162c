-- The text of a document, and what a writer has of it.
use Rattle.std.specs.Prelude.{◌≡◌, ◌≤◌, ◌⊎◌, ℕ, List, ◌++◌, Option, Some, false}
use Rattle.std.specs.Io.KnownBytes.{Appends}
use Rattle.json.specs.Lex.{tokens}
use Rattle.json.specs.Print.{print}
use Rattle.serde_json.specs.Data.{Data, null, depth}
use Rattle.serde_json.specs.Read.{read, max_depth}
use Rattle.serde_json.specs.Written.{has_float, compact_text, IsInOrder}
use Rattle.daggy_base.specs.Graph.{Graph}
use Rattle.daggy_json.specs.Document.{IsDocumentOf, IsShortDocumentOf}

-- the text of a value, with what `Value::to_vec` ensures of its text
pub record IsTextOf (d : Data) (text : List ℕ) : Type 0 where
  pub exact : has_float d ≡ false → text ≡ compact_text d
  pub compact : text ≡ print (tokens text)
  pub order : IsInOrder text d
  pub reads_back : depth d ≤ max_depth → read text ≡ Some d

-- known bytes grow by a front of the text
abbrev pub AppendsFront : Option (List ℕ) → Option (List ℕ) → List ℕ → Type 0
AppendsFront old new text = (front : List ℕ) × (rest : List ℕ) × (text ≡ front ++ rest) × Appends old new front

module _ {N E : Type 0} (node_as : N → Data → Type 0) (edge_as : E → Data → Type 0) (g : Graph N E)
    (old new : Option (List ℕ)) where
  -- the writer has the text of a document of the graph
  abbrev pub HasDocument : Type 0
  HasDocument =
      (d : Data) × IsDocumentOf node_as edge_as g d × (text : List ℕ) × IsTextOf d text × Appends old new text

  -- the writer has a front of the text of a document of the graph
  abbrev pub HasFront : Type 0
  HasFront =
      (d : Data) × IsDocumentOf node_as edge_as g d × (text : List ℕ) × IsTextOf d text × AppendsFront old new text

  -- the writer has the text of a short document of the graph
  abbrev pub HasShortDocument : Type 0
  HasShortDocument =
      (d : Data) × IsShortDocumentOf node_as edge_as g d × (text : List ℕ) × IsTextOf d text × Appends old new text

  -- the writer has a front of the text of a short document of the graph
  abbrev pub HasShortFront : Type 0
  HasShortFront =
      (d : Data) × IsShortDocumentOf node_as edge_as g d × (text : List ℕ) × IsTextOf d text × AppendsFront old new text

-- the weight is encoded as this data, or null stands for it
abbrev pub OrNull : {W : Type 0} → (W → Data → Type 0) → W → Data → Type 0
OrNull weight_as w d = weight_as w d ⊎ (d ≡ null)
