use Rattle.std.proofs.Common.{◌<◌, ◌-◌, length, sym, arith}
use Rattle.std.proofs.lemmas.List.{length-map}
use Rattle.daggy_cells.proofs.RelinkedLists.{relinking_start, relinking_step, relinking_within, relinking_done}
use Rattle.daggy_cells.proofs.RelinkedLists.{number_read}
use Rattle.daggy_cells.proofs.links.relink.Goals as goal

pub back-init : goal.back-init
back-init g c =
    relinking_start _ _ _ _ _ _ (sym (length-map c.args.list.now g.Ix.IndexType.number)) c.end-after.ensures.value

pub index_mut-requires : goal.index_mut-requires
index_mut-requires g c =
    let number = g.Ix.IndexType.number in
    let left_in : c.back.left - 1 < length c.args.list.now =
    omega (arith, c.back-test.true, c.back.invariant.bound, length-map c.args.list.now number) in
    let read =
    number_read number c.args.list.now (c.back.left - 1) c.of_edge-e.result _ left_in c.index-list-left.is
    c.of_edge-e.ensures in
    let within =
    relinking_within _ _ _ _ c.requires.list c.of_edge-e.result c.back.invariant
    (omega (arith, c.back-test.true)) read in
    omega (arith, within, c.index-i.ensures.value)

pub back-preserved : goal.back-preserved
back-preserved g c =
    let number = g.Ix.IndexType.number in
    let left_in : c.back.left - 1 < length c.args.list.now =
    omega (arith, c.back-test.true, c.back.invariant.bound, length-map c.args.list.now number) in
    let read =
    number_read number c.args.list.now (c.back.left - 1) c.of_edge-e.result _ left_in c.index-list-left.is
    c.of_edge-e.ensures in
    relinking_step _ _ _ _ c.requires.list c.back.invariant (omega (arith, c.back-test.true)) read
    c.index-i.ensures.value c.index_mut.ensures.value c.set_next.ensures

pub returns-clause-links : goal.returns-clause-links
returns-clause-links g c =
    (relinking_done _ _ _ _ c.back.invariant (omega (arith, c.back-test.false))
    c.index_mut-2.ensures.value c.set_first.ensures).0

pub returns-clause-nodes : goal.returns-clause-nodes
returns-clause-nodes g c =
    (relinking_done _ _ _ _ c.back.invariant (omega (arith, c.back-test.false))
    c.index_mut-2.ensures.value c.set_first.ensures).1

pub returns-clause-edges : goal.returns-clause-edges
returns-clause-edges g c = c.back.invariant.keeps
