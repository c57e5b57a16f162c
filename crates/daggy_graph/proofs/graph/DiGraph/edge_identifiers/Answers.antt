use Rattle.std.proofs.Common.{◌≡◌, ◌-◌, length, sym, ap, ◌∙◌, arith}
use Rattle.std.specs.List.{range_with_len}
use Rattle.std.proofs.lemmas.List.FromFn.{length-range_with_len}
use Rattle.daggy_base.specs.Iterating.{edge_identifiers}
use Rattle.daggy_cells.specs.Fields.{plain}
use Rattle.daggy_cells.proofs.RestLemmas.{numbers_are}
use Rattle.daggy_graph.proofs.graph.DiGraph.edge_identifiers.Goals as goal

pub returns-clause-rest : goal.returns-clause-rest
returns-clause-rest g c =
    let many : c.new-end.result - c.new-next.result ≡ length c.self.inside.edges.items =
    omega (arith, c.new-next.ensures, c.new-end.ensures, c.len.ensures) in
    ap (λ a. range_with_len a (c.new-end.result - c.new-next.result)) c.new-next.ensures ∙ ap (range_with_len 0) many
    ∙ sym (numbers_are plain 0 c.self.inside.edges.items) ∙ ap (λ s. edge_identifiers s.graph) c.self.view_is

pub returns-clause-fits : goal.returns-clause-fits
returns-clause-fits g c =
    omega (arith, length-range_with_len c.new-next.result (c.new-end.result - c.new-next.result), c.new-end.ensures, c.len.ensures)
