use Rattle.daggy_cells.proofs.FieldLemmas.{both_written}
use Rattle.daggy_cells.proofs.links.put_first.Goals as goal

pub returns-clause-led : goal.returns-clause-led
returns-clause-led g c =
    both_written _ _ c.index-u.ensures.value c.index-v.ensures.value c.index_mut.ensures.value
    c.set_first.ensures c.index_mut-2.ensures.value c.set_first-2.ensures
