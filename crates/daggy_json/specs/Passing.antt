-- What a text writer passes to its writer; for private clauses.
use Rattle.std.specs.Prelude.{◌≡◌, ◌⊎◌, ℕ, List, [], ◌∷◌, ◌++◌, Option, Some, MatchOption, Result, MatchResult}
use Rattle.std.specs.Prelude.{◌<◌, codes, take}
use Rattle.std.specs.List.{AllZip}
use Rattle.std.specs.Io.KnownBytes.{Appends}
use Rattle.std.specs.declared.alloc.AllocError.{AllocError}
use Rattle.json.specs.Token.{Token, begin_object, key, string}
use Rattle.json.specs.Print.{print, ends_value, ArePrintable}
use Rattle.serde_json.specs.Data.{Data, null}
use Rattle.serde_json.specs.View.{view}
use Rattle.serde_json.specs.Written.{WritesValue}
use Rattle.serde_json.specs.declared.value.Value.{Value}
use Rattle.daggy_base.specs.declared.index.Direction.{Direction}
use Rattle.daggy_base.specs.Graph.{Graph, edge_at, edge_bound}
use Rattle.daggy_base.specs.Cursor.{cursor_after}
use Rattle.daggy_base.specs.Iterating.{node_weights}
use Rattle.daggy_json.specs.Document.{listed, wholes, holes_of, IsEntry}
use Rattle.daggy_json.specs.Streaming.{AppendsFront}
use Rattle.daggy_json.specs.declared.error.StreamError.{StreamError}
use Rattle.daggy_json.specs.declared.error.StreamError.TheVariants.{Memory}
use Rattle.daggy_json.specs.declared.text.TextWriter.{TextWriter}

-- ---- bytes

-- without a fault before, these bytes were written, or a front of them and there is a fault; nothing after a fault
abbrev pub SendsBytes : (fault fault' : Option StreamError) → (old new : Option (List ℕ)) → List ℕ → Type 0
SendsBytes fault fault' old new bytes =
    MatchOption fault (MatchOption fault' (Appends old new bytes) (λ _. AppendsFront old new bytes))
    (λ _. (fault' ≡ fault) × (new ≡ old))

-- the writer has all of the text but what is in the block; after a fault, a front of it
abbrev pub HasText : (start : Option (List ℕ)) → (text : List ℕ) → Option StreamError → (now : Option (List ℕ))
    → (block : List ℕ) → Type 0
HasText start text fault now block =
    MatchOption fault ((sent : List ℕ) × Appends start now sent × (text ≡ sent ++ block))
    (λ _. AppendsFront start now text)

-- a function that encodes weights failed
abbrev pub HasFailed : {W : Type 0} → TextWriter W → Type 0
HasFailed out = out.fault ≡ Some Memory

-- both have the same reference to the writer, and the failure stays
pub record StaysOn {W : Type 0} (old new : TextWriter W) : Type 0 where
  pub same_reference : new.writer.ghost_name ≡ old.writer.ghost_name
  pub failed : HasFailed old → HasFailed new

-- since `start` this text was written to it
abbrev pub Holds : {W : Type 0} (contents : W → Option (List ℕ)) (start : Option (List ℕ)) (text : List ℕ)
    → TextWriter W → Type 0
Holds contents start text out = HasText start text out.fault (contents out.writer.now) out.block

-- these bytes were written to it
pub record Puts {W : Type 0} (contents : W → Option (List ℕ)) (old new : TextWriter W) (bytes : List ℕ)
    : Type 0 where
  pub stays : StaysOn old new
  pub place : new.after_value ≡ old.after_value
  pub holds : (start : Option (List ℕ)) (text : List ℕ)
      → Holds contents start text old → Holds contents start (text ++ bytes) new

-- ---- tokens

-- since `start` these tokens were written to it
pub record Stands {W : Type 0} (contents : W → Option (List ℕ)) (start : Option (List ℕ)) (ts : List Token)
    (out : TextWriter W) : Type 0 where
  pub printable : ArePrintable ts
  pub place : out.after_value ≡ ends_value ts
  pub holds : Holds contents start (print ts) out

-- these tokens were written to it
pub record Passes {W : Type 0} (contents : W → Option (List ℕ)) (old new : TextWriter W) (ts : List Token)
    : Type 0 where
  pub stays : StaysOn old new
  pub stands : (start : Option (List ℕ)) (us : List Token)
      → Stands contents start us old → Stands contents start (us ++ ts) new

-- tokens of this kind were written to it
abbrev pub Writes : {W : Type 0} (contents : W → Option (List ℕ)) (old new : TextWriter W)
    → (List Token → Type 0) → Type 0
Writes contents old new AreTokens = (ts : List Token) × AreTokens ts × Passes contents old new ts

-- ---- values

-- the tokens of a value
abbrev pub AreTokensOf : Data → List Token → Type 0
AreTokensOf d ts = WritesValue d [] ts

-- the tokens of one value of this kind
abbrev pub AreTokensOfA : (Data → Type 0) → List Token → Type 0
AreTokensOfA Is ts = (d : Data) × Is d × AreTokensOf d ts

-- the tokens of an encoded weight, or those of null after a failure
abbrev pub AreTokensOfWeight : Result Value AllocError → (failed : Type 0) → List Token → Type 0
AreTokensOfWeight encoded failed ts =
    MatchResult encoded (λ v. AreTokensOf (view v) ts) (λ _. AreTokensOf null ts × failed)

-- the weight is encoded as this data, or null stands for it after a failure
abbrev pub Encodes : {W : Type 0} → (W → Data → Type 0) → (failed : Type 0) → W → Data → Type 0
Encodes weight_as failed w d = weight_as w d ⊎ ((d ≡ null) × failed)

-- an array of one value for each element
abbrev pub IsArrayOf : {A : Type 0} → (A → Data → Type 0) → List A → Data → Type 0
IsArrayOf Is xs d = (ds : List Data) × AllZip Is xs ds × (d ≡ listed ds)

-- the tokens of the document of a graph, up to the weights of its nodes
pub record AreTokensOfParts {N E : Type 0} (node_as : N → Data → Type 0) (edge_as : E → Data → Type 0)
    (g : Graph N E) (ts : List Token) : Type 0 where
  pub entries : List Data
  pub weights : List Data
  pub edges : AllZip (IsEntry edge_as) (take (edge_bound g) g.edges) entries
  pub nodes : AllZip node_as (node_weights g) weights
  pub of_entries : List Token
  pub of_holes : List Token
  pub of_weights : List Token
  pub are_entries : AreTokensOf (listed entries) of_entries
  pub are_holes : AreTokensOf (wholes (holes_of g)) of_holes
  pub are_weights : AreTokensOf (listed weights) of_weights
  pub is : ts
      ≡ begin_object ∷ key (codes "edge_property") ∷ string (codes "directed") ∷ key (codes "edges") ∷ (of_entries
      ++ (key (codes "node_holes") ∷ (of_holes ++ (key (codes "nodes") ∷ of_weights))))

-- ---- orders

-- the edge after e in its list, if there is one, has a lower index
abbrev pub Descends : {N E : Type 0} → (end : ℕ) → Graph N E → Direction → ℕ → Type 0
Descends end g dir e =
    (cursor_after dir end g e (edge_at g e) ≡ end) ⊎ (cursor_after dir end g e (edge_at g e) < e)
