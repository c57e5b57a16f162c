use Rattle.std.proofs.Common.{arith}
use Rattle.daggy_json.proofs.Parts.{below_length, entry_more}
use Rattle.daggy_json.proofs.writing.write_entries.Goals as goal

pub new-requires : goal.new-requires
new-requires g c =
    omega (
      arith,
      below_length (g.S.EdgeSource.graph c.args.store.now).edges _ _ c.edge_bound-bound.ensures c.edges-test.true,
      c.invariant.ensures.well_formed.few_edges,
    )

pub edges-preserved : goal.edges-preserved
edges-preserved g c =
    let slots = (g.S.EdgeSource.graph c.args.store.now).edges in
    record {
      within = omega (arith, c.edges-test.true);
      written =
          entry_more slots c.new.ensures.number _ _ c.in_ok-write_entry.field-0
          (below_length slots _ _ c.edge_bound-bound.ensures c.edges-test.true) c.edges.invariant.written
          c.in_ok-write_entry.ensures c.in_ok-push.ensures.items;
    }
