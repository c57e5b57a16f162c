use Rattle.std.proofs.Common.{◌∙◌, arith}
use Rattle.daggy_base.specs.Graph.{edge_bound}
use Rattle.daggy_reduction.specs.Blocks.{segment_at}
use Rattle.daggy_reduction.specs.CountedArcs.{times}
use Rattle.daggy_reduction.proofs.CountedArcs.{key, counted, sum_few, sum_same}
use Rattle.daggy_reduction.proofs.arcs.ByIndexListArcs.list_arcs.Goals as goal

pub lay_out-requires-clause-arcs_fit : goal.lay_out-requires-clause-arcs_fit
lay_out-requires-clause-arcs_fit g c =
    let graph = g.S.EdgeSource.graph c.args.source.now in
    let t = counted graph c.args.work.now.nodes c.args.work.now.cursors c.args.count in
    omega (
      arith,
      sum_same (λ j. (segment_at c.count_arcs.new.segments j).end) (times (key t) (edge_bound graph)) c.args.count
          c.count_arcs.ensures.ends,
      sum_few (key t) (edge_bound graph) c.args.count,
      c.requires.arcs_fit,
    )

pub put_arcs-requires-clause-begins : goal.put_arcs-requires-clause-begins
put_arcs-requires-clause-begins g c k low =
    let graph = g.S.EdgeSource.graph c.args.source.now in
    let t = counted graph c.args.work.now.nodes c.args.work.now.cursors c.args.count in
    rw c.count_arcs.ensures.same
    (c.lay_out.ensures.begins k low
    ∙ sum_same (λ j. (segment_at c.count_arcs.new.segments j).end) (times (key t) (edge_bound graph)) k
    (λ j before. c.count_arcs.ensures.ends j (omega (arith, before, low))))
