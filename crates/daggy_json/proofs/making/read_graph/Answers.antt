use Rattle.std.proofs.Common.{inl, inr}
use Rattle.serde_json.specs.View.{view}
use Rattle.daggy_json.specs.Weight.{ReadsAs}
use Rattle.daggy_json.specs.Reading.{IsItself}
use Rattle.daggy_json.proofs.FaultPlaces.{fault_given}
use Rattle.daggy_json.proofs.making.read_graph.Goals as goal

pub returns-in-Err-clause-err : goal.returns-in-Err-clause-err
returns-in-Err-clause-err g c =
    elim c.in-Err.ensures.fault [
      | inl memory ↦ inl memory
      | inr h ↦
          inr (rw (← c.KIND.ensures) (fault_given g.Ix.IndexType.greatest c.KIND.result (ReadsAs g.F.Fn c.args.fn_node.now)
          (ReadsAs g.G.Fn c.args.fn_edge.now) IsItself (view c.args.value.now) c.in-Err.fault.error
          c.in-Err.fault.place.member c.in-Err.fault.place.entry h))
    ]
