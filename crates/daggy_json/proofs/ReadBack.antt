-- What a caller knows of a dag that was written and is read back.
use Rattle.std.proofs.Common.{◌≡◌, ℕ, inl, inr, ◌⊎◌, Option, Some, None, refl}
use Rattle.std.specs.Prelude.{Result, MatchResult}
use Rattle.std.proofs.lemmas.Result.{MatchResult-weaker}
use Rattle.serde_json.specs.Data.{Data}
use Rattle.daggy_base.specs.Graph.{Graph}
use Rattle.daggy_base.specs.declared.kind.Kind.{Kind}
use Rattle.daggy_base.specs.Mapping.{weight_in, with_weight}
use Rattle.daggy_json.specs.Restoring.{IsCopyAs, ReadsTo, HasRefused, HasValues, trimmed}
use Rattle.daggy_json.specs.declared.error.ReadError.{ReadError}
use Rattle.daggy_json.specs.declared.error.ReadError.TheVariants.{Weight, Memory}
use Rattle.daggy_json.proofs.CopiedSlots.{copied_from}
use Rattle.daggy_json.proofs.CopiedGraphs.{copy_through, copy_trimmed}

module _ {N E V W D : Type 0} (node_as : N → Data → Type 0) (edge_as : E → Data → Type 0)
    (node_answers : Data → Option V → Type 0) (edge_answers : Data → Option W → Type 0) (graph_of : D → Graph V W) where
  -- what a call answers that reads a dag of these values, of which this graph is left
  abbrev Answers : (values left : Graph Data Data) → Result D ReadError → Type 0
  Answers values left result =
      MatchResult result (λ d. IsCopyAs (ReadsTo node_answers) (ReadsTo edge_answers) left (graph_of d))
      (λ e. (e ≡ Memory) ⊎ (e ≡ Weight) × HasRefused node_answers edge_answers values)

  module _ {kind : Kind} {limit : ℕ} {g : Graph N E} {document : Data}
      (written : HasValues kind limit node_as edge_as g document) (result : Result D ReadError)
      (node_both : N → V → Type 0) (edge_both : E → W → Type 0) where
    none_refused : ((w : N) (d : Data) → node_as w d → node_answers d None → ⊥)
        → ((w : E) (d : Data) → edge_as w d → edge_answers d None → ⊥)
        → (e : ReadError) → (e ≡ Memory) ⊎ (e ≡ Weight) × HasRefused node_answers edge_answers written.values
        → e ≡ Memory
    none_refused no_node no_edge e (inl memory) = memory
    none_refused no_node no_edge e (inr (weight, bad)) =
        elim bad.refused [
          | inl (d, has, refused) ↦
              let w =
              copied_from node_as (λ w. w) (λ w v. v) (λ v. v) (λ w v. refl) 0 g.nodes written.values.nodes
              written.copied.nodes d has in
              absurd (no_node w.0 d w.1 refused)
          | inr (d, has, refused) ↦
              let w =
              copied_from edge_as weight_in with_weight weight_in (λ x v. refl) 0 g.edges written.values.edges
              written.copied.edges d has in
              absurd (no_edge w.0 d w.1 refused)
        ]

    -- Of each value that stands for a weight only a weight is read that stands to it so, and none is refused.
    pub read_back : Answers written.values written.values result
        → ((w : N) (d : Data) (v : V) → node_as w d → node_answers d (Some v) → node_both w v)
        → ((w : E) (d : Data) (v : W) → edge_as w d → edge_answers d (Some v) → edge_both w v)
        → ((w : N) (d : Data) → node_as w d → node_answers d None → ⊥)
        → ((w : E) (d : Data) → edge_as w d → edge_answers d None → ⊥)
        → MatchResult result (λ d. IsCopyAs node_both edge_both g (graph_of d)) (λ e. e ≡ Memory)
    read_back answers nodes edges no_node no_edge =
        MatchResult-weaker result answers
        (λ d. copy_through node_as edge_as (ReadsTo node_answers) (ReadsTo edge_answers) node_both edge_both
        (λ w d v stands read. nodes w d v stands read.answered) (λ w d v stands read. edges w d v stands read.answered)
        g written.values (graph_of d) written.copied)
        (none_refused no_node no_edge)

    -- the same of a stable dag
    pub read_back_stable : Answers written.values (trimmed written.values) result
        → ((w : N) (d : Data) (v : V) → node_as w d → node_answers d (Some v) → node_both w v)
        → ((w : E) (d : Data) (v : W) → edge_as w d → edge_answers d (Some v) → edge_both w v)
        → ((w : N) (d : Data) → node_as w d → node_answers d None → ⊥)
        → ((w : E) (d : Data) → edge_as w d → edge_answers d None → ⊥)
        → MatchResult result (λ d. IsCopyAs node_both edge_both (trimmed g) (graph_of d)) (λ e. e ≡ Memory)
    read_back_stable answers nodes edges no_node no_edge =
        MatchResult-weaker result answers
        (λ d. copy_through node_as edge_as (ReadsTo node_answers) (ReadsTo edge_answers) node_both edge_both
        (λ w d v stands read. nodes w d v stands read.answered) (λ w d v stands read. edges w d v stands read.answered)
        (trimmed g) (trimmed written.values) (graph_of d)
        (copy_trimmed node_as edge_as g written.values written.copied))
        (none_refused no_node no_edge)
