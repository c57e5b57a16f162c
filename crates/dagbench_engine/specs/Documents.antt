-- The text of a document.
use Rattle.std.specs.Prelude.{◌≡◌, ◌⊎◌, ℕ, ℤ, List, codes}
use Rattle.serde_json.specs.Data.{Data, number}
use Rattle.serde_json.specs.Find.{of_integer}
use Rattle.serde_json.specs.Written.{compact_text}
use Rattle.daggy.specs.Graph.{Graph}
use Rattle.daggy.specs.Document.{IsDocumentOf}

-- a weight is encoded as an integer
abbrev pub StandsFor : ℤ → Data → Type 0
StandsFor weight d = d ≡ number (of_integer weight)

-- the text of the document of the graph, without spaces
abbrev pub IsDocumentText : Graph ℤ ℤ → List ℕ → Type 0
IsDocumentText g text = (d : Data) × IsDocumentOf StandsFor StandsFor g d × (text ≡ compact_text d)

-- the text of the document of the graph, or `memory`
abbrev pub TellsDocument : Graph ℤ ℤ → List ℕ → Type 0
TellsDocument g text = IsDocumentText g text ⊎ (text ≡ codes "memory")
