use Rattle.std.proofs.Common.{◌≡◌, ◌-◌, length, sym, ap, ◌∙◌, arith}
use Rattle.std.specs.List.{range_with_len}
use Rattle.std.proofs.lemmas.List.FromFn.{length-range_with_len}
use Rattle.daggy_base.specs.Iterating.{node_identifiers}
use Rattle.daggy_cells.proofs.RestLemmas.{numbers_are}
use Rattle.daggy_graph.proofs.graph.DiGraph.node_identifiers.Goals as goal

pub returns-clause-rest : goal.returns-clause-rest
returns-clause-rest g c =
    let many : c.new-2.result - c.new.result ≡ length c.self.inside.nodes.items =
    omega (arith, c.new.ensures, c.new-2.ensures, c.len.ensures) in
    ap (λ a. range_with_len a (c.new-2.result - c.new.result)) c.new.ensures ∙ ap (range_with_len 0) many
    ∙ sym (numbers_are (λ x. x.weight) 0 c.self.inside.nodes.items) ∙ ap (λ s. node_identifiers s.graph) c.self.view_is

pub returns-clause-fits : goal.returns-clause-fits
returns-clause-fits g c =
    omega (arith, length-range_with_len c.new.result (c.new-2.result - c.new.result), c.new-2.ensures, c.len.ensures)
