use Rattle.std.proofs.Common.{inl, inr, ◌∙◌}
use Rattle.std.proofs.lemmas.Result.{MatchResult-weaker}
use Rattle.serde_json.specs.View.{view}
use Rattle.daggy_base.specs.declared.kind.Kind.TheVariants.{Compact}
use Rattle.daggy_json.specs.Weight.{ReadsAs}
use Rattle.daggy_json.proofs.ReadAgain.{document_parts, short_parts}
use Rattle.daggy_json.proofs.RestoredDag.{restored, values_again, compact_same, answers_again}
use Rattle.daggy_json.proofs.documents.dag_from_json.Goals as goal

pub returns-clause-restored : goal.returns-clause-restored
returns-clause-restored g c = λ graph dag compact doc.
    MatchResult-weaker c.read.result
    (answers_again (λ d. d.graph) _ _ c.read.result _
    (restored g.Ix.IndexType.greatest Compact (ReadsAs g.F.Fn c.args.fn_node) (ReadsAs g.G.Fn c.args.fn_edge) graph dag
    (λ e. compact) (view c.args.value.now) (document_parts _ _ graph _ doc))
    c.read.ensures.ok c.read.ensures.err)
    (λ d same. same ∙ compact_same g.Ix.IndexType.greatest graph dag.well_formed compact)
    (λ e h. elim h [ inl memory ↦ memory | inr none ↦ absurd none ])

pub returns-clause-restored_shape : goal.returns-clause-restored_shape
returns-clause-restored_shape g c = λ graph dag compact doc.
    MatchResult-weaker c.read.result
    (answers_again (λ d. d.graph) _ _ c.read.result _
    (values_again g.Ix.IndexType.greatest Compact (ReadsAs g.F.Fn c.args.fn_node) (ReadsAs g.G.Fn c.args.fn_edge) graph dag
    (λ e. compact) (view c.args.value.now) (document_parts _ _ graph _ doc))
    c.read.ensures.ok c.read.ensures.err)
    (λ d copy. rw (compact_same g.Ix.IndexType.greatest graph dag.well_formed compact) at copy)
    (λ e h. h)

pub returns-clause-restored_short : goal.returns-clause-restored_short
returns-clause-restored_short g c = λ graph dag compact doc.
    MatchResult-weaker c.read.result
    (answers_again (λ d. d.graph) _ _ c.read.result _
    (restored g.Ix.IndexType.greatest Compact (ReadsAs g.F.Fn c.args.fn_node) (ReadsAs g.G.Fn c.args.fn_edge) graph dag
    (λ e. compact) (view c.args.value.now) (short_parts _ _ graph _ doc))
    c.read.ensures.ok c.read.ensures.err)
    (λ d same. same ∙ compact_same g.Ix.IndexType.greatest graph dag.well_formed compact)
    (λ e h. elim h [ inl memory ↦ memory | inr none ↦ absurd none ])

pub returns-clause-restored_short_shape : goal.returns-clause-restored_short_shape
returns-clause-restored_short_shape g c = λ graph dag compact doc.
    MatchResult-weaker c.read.result
    (answers_again (λ d. d.graph) _ _ c.read.result _
    (values_again g.Ix.IndexType.greatest Compact (ReadsAs g.F.Fn c.args.fn_node) (ReadsAs g.G.Fn c.args.fn_edge) graph dag
    (λ e. compact) (view c.args.value.now) (short_parts _ _ graph _ doc))
    c.read.ensures.ok c.read.ensures.err)
    (λ d copy. rw (compact_same g.Ix.IndexType.greatest graph dag.well_formed compact) at copy)
    (λ e h. h)
