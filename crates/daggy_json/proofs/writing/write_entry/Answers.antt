use Rattle.std.proofs.lemmas.Result.{IfOk-weaker}
use Rattle.daggy_json.proofs.Parts.{entry_is, writes_as}
use Rattle.daggy_json.proofs.writing.write_entry.Goals as goal

pub returns : goal.returns
returns g c =
    IfOk-weaker c.write_triple.result _ _
    (λ v e. entry_is g.Ix.IndexType.number _ _ _ (record {
      ends = c.in-Some.ends;
      ends_are = c.in-Some.ensures;
      parent = c.index.ensures.value;
      child = c.index-2.ensures.value;
      weight_is = c.in-Some-edge_weight.ensures;
    }) (writes_as _ _ c.in-Some-edge_weight.weight _ c.in_ok-value.ensures) e) c.write_triple.ensures
