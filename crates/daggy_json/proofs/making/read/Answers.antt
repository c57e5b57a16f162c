use Rattle.std.proofs.Common.{inl, inr}
use Rattle.std.specs.Prelude.{Ok, Err}
use Rattle.std.proofs.lemmas.Result.{IfOk-weaker, IfErr-weaker}
use Rattle.serde_json.specs.View.{view}
use Rattle.daggy_json.specs.Weight.{ReadsAs}
use Rattle.daggy_json.specs.Reading.{IsTested}
use Rattle.daggy_json.proofs.FaultPlaces.{fault_given}
use Rattle.daggy_json.proofs.making.read.Goals as goal

pub returns-clause-ok : goal.returns-clause-ok
returns-clause-ok g c =
    rw (← c.KIND.ensures) (IfOk-weaker c.make.result _ _ (λ d t. c.in-Ok.ensures.ok (Ok d.graph) t)
    c.make.ensures.ok)

pub returns-clause-err : goal.returns-clause-err
returns-clause-err g c =
    rw (← c.KIND.ensures) (IfErr-weaker c.make.result _ _
    (λ e h. elim h [ inl m ↦ inl m | inr t ↦ inr (c.in-Ok.ensures.ok (Err e) t) ]) c.make.ensures.err)

pub returns-in-Err-clause-err : goal.returns-in-Err-clause-err
returns-in-Err-clause-err g c =
    elim c.in-Err.ensures.fault [
      | inl memory ↦ inl memory
      | inr h ↦
          inr (rw (← c.KIND.ensures) (fault_given g.Ix.IndexType.greatest c.KIND.result (ReadsAs g.F.Fn c.args.fn_node.now)
          (ReadsAs g.G.Fn c.args.fn_edge.now) IsTested (view c.args.value.now) c.in-Err.fault.error
          c.in-Err.fault.place.member c.in-Err.fault.place.entry h))
    ]
