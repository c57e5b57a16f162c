use Rattle.std.proofs.Common.{inl, inr}
use Rattle.serde_json.specs.View.{view}
use Rattle.daggy_json.specs.Weight.{ReadsAs}
use Rattle.daggy_json.specs.Reading.{IsItself}
use Rattle.daggy_json.proofs.FaultPlaces.{IsFault, fault_given}
use Rattle.daggy_json.proofs.ReadOnce.{agrees_none, agrees_fault}
use Rattle.daggy_json.proofs.finding.find_fault.Goals as goal

pub returns : goal.returns
returns g c =
    let at : IsFault g.Ix.IndexType.greatest c.args.kind (ReadsAs g.F.Fn c.args.fn_node) (ReadsAs g.G.Fn c.args.fn_edge)
    (view c.args.value.now) c.in-Err.fault =
    elim c.in-Err.ensures.fault [ inl memory ↦ absurd (c.in_default.not-Memory memory) | inr h ↦ h ] in
    let error =
    fault_given g.Ix.IndexType.greatest c.args.kind (ReadsAs g.F.Fn c.args.fn_node)
    (ReadsAs g.G.Fn c.args.fn_edge) IsItself (view c.args.value.now) c.in-Err.fault.error
    c.in-Err.fault.place.member c.in-Err.fault.place.entry at in
    record {
      none = tt;
      error = error;
      place = at;
      agrees = λ nodes edges r h.
          agrees_fault g.Ix.IndexType.greatest c.args.kind (ReadsAs g.F.Fn c.args.fn_node)
          (ReadsAs g.G.Fn c.args.fn_edge) nodes edges (view c.args.value.now) c.in-Err.fault error r h;
    }

pub returns-in-Ok-clause-agrees : goal.returns-in-Ok-clause-agrees
returns-in-Ok-clause-agrees g c = λ nodes edges r h.
    agrees_none g.Ix.IndexType.greatest c.args.kind (ReadsAs g.F.Fn c.args.fn_node) (ReadsAs g.G.Fn c.args.fn_edge)
    nodes edges (view c.args.value.now) _ c.in-Ok.ensures.graph r h
