use Rattle.std.proofs.Common.{refl, ◌<◌, length, arith}
use Rattle.daggy_base.specs.declared.index.Direction.TheVariants.{Outgoing, Incoming}
use Rattle.daggy_cells.proofs.WrittenSlots.{written_none, may_lend, written_called, written_all}
use Rattle.daggy_graph.proofs.graph.rewriting.write_nodes.Goals as goal

pub each-init : goal.each-init
each-init g c = written_none c.requires.callable

pub index_mut-x-requires : goal.index_mut-x-requires
index_mut-x-requires g c = omega (arith, c.each.invariant.count)

pub f-requires : goal.f-requires
f-requires g c =
    let within : c.each.i < length c.args.nodes.now.items = omega arith in
    rw c.new.ensures.value
    (may_lend c.each.invariant within c.index_mut-x.result.now c.index_mut-x.ensures.value refl _ refl)

pub each-preserved : goal.each-preserved
each-preserved g c =
    let within : c.each.i < length c.args.nodes.now.items = omega arith in
    written_called c.each.invariant within c.index_mut-x.result.now c.index_mut-x.ensures.value _
    (elim [ Outgoing ↦ refl | Incoming ↦ refl ]) _ _
    (rw c.new.ensures.value at c.f.ensures) refl refl refl

pub returns-clause-written : goal.returns-clause-written
returns-clause-written g c = written_all (omega arith) c.each.invariant

pub returns-clause-links : goal.returns-clause-links
returns-clause-links g c = c.each.invariant.links
