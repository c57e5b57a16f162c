-- What the document of a graph is read as.
use Rattle.std.specs.Prelude.{◌≡◌, ℕ, ◌⊎◌, Option, Some, None, List, Contains, take}
use Rattle.std.specs.Borrow.{Bor}
use Rattle.serde_json.specs.Data.{Data}
use Rattle.daggy_base.specs.Graph.{Graph, node_bound, edge_bound, IsCompact}
use Rattle.daggy_base.specs.Iterating.{node_weights, edge_weights}
use Rattle.daggy_base.specs.WellFormed.{IsDag}
use Rattle.daggy_base.specs.declared.kind.Kind.{Kind}
use Rattle.daggy_base.specs.declared.kind.Kind.TheVariants.{Compact}
use Rattle.daggy_base.specs.Mapping.{IsMapped}
use Rattle.daggy_base.specs.FromSlots.{vacant_down}
use Rattle.daggy_json.specs.Document.{IsDocumentOf}

-- a value of this data decodes to the weight w only
abbrev pub ReadsOnly : {W : Type 0} → (answers : Data → Option W → Type 0) → W → Data → Type 0
ReadsOnly {W} answers w d = (o : Option W) → answers d o → o ≡ Some w

-- The graph without the vacant slots after the greatest index in use. Of the other vacant slots the one with the greatest
-- index comes first.
abbrev pub trimmed : {N E : Type 0} → Graph N E → Graph N E
trimmed g =
    let nodes = take (node_bound g) g.nodes in
    let edges = take (edge_bound g) g.edges in
    record {
      nodes = nodes;
      edges = edges;
      out_lists = take (node_bound g) g.out_lists;
      in_lists = take (node_bound g) g.in_lists;
      vacant_nodes = vacant_down nodes;
      vacant_edges = vacant_down edges;
    }

-- a step of a map that encodes a weight
abbrev pub stand_in : {W V : Type 0} → (weight_as : W → V → Type 0) → Unit {0} → ℕ → Bor W → V → Unit {0} → Type 0
stand_in weight_as state i shown v next = weight_as shown.now v

-- new has the shape of old, and for each weight an encoding of it
abbrev pub IsCopyAs : {N E V W : Type 0}
    → (node_as : N → V → Type 0) → (edge_as : E → W → Type 0) → (old : Graph N E) → (new : Graph V W) → Type 0
IsCopyAs node_as edge_as old new = IsMapped (λ i. i) (stand_in node_as) (stand_in edge_as) tt tt old new

-- a value of this data may decode to the weight w
pub record ReadsTo {W : Type 0} (answers : Data → Option W → Type 0) (d : Data) (w : W) : Type 0 where
  pub answered : answers d (Some w)

-- one of these values may be refused
abbrev pub CanBeRefused : {W : Type 0} → (answers : Data → Option W → Type 0) → List Data → Type 0
CanBeRefused answers ds = (d : Data) × Contains ds d × answers d None

-- one of the weights may be refused
pub record HasRefused {N E : Type 0} (node_answers : Data → Option N → Type 0)
    (edge_answers : Data → Option E → Type 0) (g : Graph Data Data) : Type 0 where
  pub refused : CanBeRefused node_answers (node_weights g) ⊎ CanBeRefused edge_answers (edge_weights g)

-- The value is also the document of a dag of encoded weights, which has the shape of g.
pub record HasValues {N E : Type 0} (kind : Kind) (limit : ℕ) (node_as : N → Data → Type 0)
    (edge_as : E → Data → Type 0) (g : Graph N E) (d : Data) : Type 0 where
  pub values : Graph Data Data
  pub copied : IsCopyAs node_as edge_as g values
  pub dag : IsDag limit values
  pub compact : kind ≡ Compact → IsCompact values
  pub document : IsDocumentOf (λ w v. w ≡ v) (λ w v. w ≡ v) values d
