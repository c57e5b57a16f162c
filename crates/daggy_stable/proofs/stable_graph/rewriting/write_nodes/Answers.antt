use Rattle.std.proofs.Common.{refl, sym, ◌<◌, length, arith}
use Rattle.daggy_base.specs.declared.index.Direction.TheVariants.{Outgoing, Incoming}
use Rattle.daggy_cells.proofs.WrittenSlots.{written_none, may_lend, written_vacant, written_called, written_all}
use Rattle.daggy_stable.proofs.stable_graph.rewriting.write_nodes.Goals.{in-Some, in_default}
use Rattle.daggy_stable.proofs.stable_graph.rewriting.write_nodes.Goals as goal

pub each-init : goal.each-init
each-init g c = written_none c.requires.callable

pub index_mut-x-requires : goal.index_mut-x-requires
index_mut-x-requires g c = omega (arith, c.each.invariant.count)

pub f-requires : goal.f-requires
f-requires g c =
    let within : c.each.i < length c.args.nodes.now.items = omega arith in
    rw c.new.ensures.value (may_lend c.each.invariant within c.index_mut-x.result.now c.index_mut-x.ensures.value
    (sym c.in-Some.ensures.value) c.in-Some.weight refl)

pub each-preserved : goal.each-preserved
each-preserved g c =
    let within : c.each.i < length c.args.nodes.now.items = omega arith in
    elim c.match-as_mut.branch [
      | in-Some w ↦
          rw (w.nodes-is, w.f-is)
          (written_called c.each.invariant within c.index_mut-x.result.now c.index_mut-x.ensures.value _
          (elim [ Outgoing ↦ refl | Incoming ↦ refl ]) w.in-Some.weight _
          (rw w.new.ensures.value at w.f.ensures) (sym w.in-Some.ensures.value) refl refl)
      | in_default w ↦
          let none = sym w.in_default.ensures.value in
          rw (w.nodes-is, w.f-is)
          (written_vacant c.each.invariant within c.index_mut-x.result.now c.index_mut-x.ensures.value _
          (elim [ Outgoing ↦ refl | Incoming ↦ refl ]) none none)
    ]

pub returns-clause-written : goal.returns-clause-written
returns-clause-written g c = written_all (omega arith) c.each.invariant

pub returns-clause-links : goal.returns-clause-links
returns-clause-links g c = c.each.invariant.links
