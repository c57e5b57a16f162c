use Rattle.std.proofs.Common.{◌≡◌, Ok, Err, refl, sym, ap, subst, ◌∙◌}
use Rattle.std.specs.Prelude.{option_copied}
use Rattle.daggy_computed.specs.Cells.{cells, values_of, entry_at, cell_of}
use Rattle.daggy_computed.specs.Inputs.{inputs}
use Rattle.daggy_computed.proofs.Celled.{cell_at}
use Rattle.daggy_computed.proofs.Listed.{on_ok}
use Rattle.daggy_computed.proofs.turn.evaluate.Goals as goal

pub returns-in-Ok-clause-value : goal.returns-in-Ok-clause-value
returns-in-Ok-clause-value g c =
    let graph = g.S.EdgeSource.graph c.args.store.now in
    let es = c.args.entries.now in
    let noted = on_ok c.note_parents.result _ (sym c.is_err.ensures.value ∙ c.if-is_err.false) c.note_parents.ensures.values in
    let given : c.new.result ≡ inputs (cells graph es) (g.Ix.IndexType.number c.args.n) =
    c.new.ensures ∙ (ap (values_of es) c.as_slice.ensures.value ∙ noted) in (
      c.unwrap-formula.result.now,
      sym c.node_weight.ensures ∙ ap option_copied c.unwrap-formula.ensures,
      (
        c.unwrap-formula.result,
        refl,
        subst (λ z. g.F.Fn.post c.args.f.now (c.unwrap-formula.result, (z, tt)) (Ok c.in-Ok.value)) given c.in-Ok.ensures,
      ),
    )

pub returns-in-Err-clause-failed : goal.returns-in-Err-clause-failed
returns-in-Err-clause-failed g c =
    let graph = g.S.EdgeSource.graph c.args.store.now in
    let es = c.args.entries.now in
    let n = g.Ix.IndexType.number c.args.n in
    let noted = on_ok c.note_parents.result _ (sym c.is_err.ensures.value ∙ c.if-is_err.false) c.note_parents.ensures.values in
    let given : c.new.result ≡ inputs (cells graph es) n = c.new.ensures ∙ (ap (values_of es) c.as_slice.ensures.value ∙ noted) in
    record {
      cell = cell_of (entry_at es n) c.unwrap-formula.result.now;
      there = cell_at graph es n c.unwrap-formula.result.now
          (sym c.node_weight.ensures ∙ ap option_copied c.unwrap-formula.ensures);
      stale = c.requires.stale;
      refused = (
        c.unwrap-formula.result,
        refl,
        subst (λ z. g.F.Fn.post c.args.f.now (c.unwrap-formula.result, (z, tt)) (Err c.in-Err.error)) given c.in-Err.ensures,
      );
    }
