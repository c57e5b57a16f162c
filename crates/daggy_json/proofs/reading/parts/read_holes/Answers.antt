use Rattle.std.proofs.Common.{inl, inr}
use Rattle.std.proofs.lemmas.Result.{IfOk-weaker, IfErr-weaker}
use Rattle.serde_json.specs.View.{view}
use Rattle.daggy_json.proofs.MissingParts.{holes_given, holes_stopped}
use Rattle.daggy_json.proofs.reading.parts.read_holes.Goals as goal

pub returns-clause-ok : goal.returns-clause-ok
returns-clause-ok c =
    IfOk-weaker c.read_numbers.result _ _
    (λ v e. holes_given (view c.args.value.now) (view c.in-Some.holes.now) c.in-Some.ensures c.in-Some-as_array.list.now.items c.in-Some-as_array.ensures v.items e) c.read_numbers.ensures.ok

pub returns-clause-err : goal.returns-clause-err
returns-clause-err c =
    IfErr-weaker c.read_numbers.result _ _
    (λ f h. elim h [
      | inl memory ↦ inl memory
      | inr s ↦ inr (holes_stopped (view c.args.value.now) (view c.in-Some.holes.now) c.in-Some.ensures c.in-Some-as_array.list.now.items c.in-Some-as_array.ensures f s)
    ]) c.read_numbers.ensures.err
