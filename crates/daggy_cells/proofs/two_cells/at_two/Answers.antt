use Rattle.std.proofs.Common.{◌<◌, arith}
use Rattle.daggy_cells.proofs.CellLemmas.{called_at, item_left, item_right, left_first, right_first}
use Rattle.daggy_cells.proofs.two_cells.at_two.Goals as goal

pub split_at_mut-front-requires : goal.split_at_mut-front-requires
split_at_mut-front-requires g c = omega (arith, c.requires.second)

pub bounds-front-a : goal.bounds-front-a
bounds-front-a g c = omega (arith, c.if-a-b.true, c.split_at_mut-front.ensures.front_len)

pub f-requires : goal.f-requires
f-requires g c =
    let cut = c.split_at_mut-front.ensures in
    c.requires.callable _ _
    (item_left _ _ _ cut.value _ c.requires.first (omega (arith, c.if-a-b.true, cut.front_len)) c.index-front-a.is)
    (item_right _ _ _ cut.value _ c.requires.second cut.front_len c.index-back-0.is)

pub split_at_mut-front-requires-else-a-b : goal.split_at_mut-front-requires-else-a-b
split_at_mut-front-requires-else-a-b g c = omega (arith, c.requires.first)

pub bounds-front-b : goal.bounds-front-b
bounds-front-b g c =
    omega (arith, c.if-a-b.false, c.requires.different, c.split_at_mut-front-else-a-b.ensures.front_len)

pub f-requires-else-a-b : goal.f-requires-else-a-b
f-requires-else-a-b g c =
    let cut = c.split_at_mut-front-else-a-b.ensures in
    let order : c.args.b < c.args.a = omega (arith, c.if-a-b.false, c.requires.different) in
    c.requires.callable _ _
    (item_right _ _ _ cut.value _ c.requires.first cut.front_len c.index-back-0-else-a-b.is)
    (item_left _ _ _ cut.value _ c.requires.second (omega (arith, order, cut.front_len)) c.index-front-b.is)

pub returns-then-a-b : goal.returns-then-a-b
returns-then-a-b g c =
    let cut = c.split_at_mut-front.ensures in
    called_at _ _ _ _
    (item_left _ _ _ cut.value _ c.requires.first (omega (arith, c.if-a-b.true, cut.front_len)) c.index-front-a.is)
    (item_right _ _ _ cut.value _ c.requires.second cut.front_len c.index-back-0.is)
    c.f.ensures
    (left_first _ _ _ cut.value _ _ _ cut.front_len c.if-a-b.true)

pub returns-else-a-b : goal.returns-else-a-b
returns-else-a-b g c =
    let cut = c.split_at_mut-front-else-a-b.ensures in
    let order : c.args.b < c.args.a = omega (arith, c.if-a-b.false, c.requires.different) in
    called_at _ _ _ _
    (item_right _ _ _ cut.value _ c.requires.first cut.front_len c.index-back-0-else-a-b.is)
    (item_left _ _ _ cut.value _ c.requires.second (omega (arith, order, cut.front_len)) c.index-front-b.is)
    c.f-else-a-b.ensures
    (right_first _ _ _ cut.value _ _ _ cut.front_len order)
