use Rattle.std.proofs.Common.{refl, sym, ap, ◌∙◌}
use Rattle.std.specs.Option.{option_copied_mut}
use Rattle.daggy_cells.proofs.CellLemmas.{called_at}
use Rattle.daggy_stable.proofs.stable_graph.two_weights.at_slots.Goals as goal

pub returns : goal.returns
returns g c =
    called_at c.unwrap-v.result c.unwrap-w.result _ _
    (sym c.as_mut.ensures.value ∙ ap option_copied_mut c.unwrap-v.ensures)
    (sym c.as_mut-2.ensures.value ∙ ap option_copied_mut c.unwrap-w.ensures) c.f.ensures refl
