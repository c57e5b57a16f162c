use Rattle.std.proofs.Common.{inl, inr, refl, arith}
use Rattle.daggy_base.specs.declared.index.Direction.TheVariants.{Outgoing, Incoming}
use Rattle.daggy_cells.proofs.MappedSlots.{mapped_none, may_show, mapped_called, mapped_all, links_all}
use Rattle.daggy_graph.proofs.graph.map.map_edges.Goals as goal

pub each-init : goal.each-init
each-init g c = record { below = mapped_none c.requires.empty c.requires.callable; capacity = c.requires.capacity }

pub g-weight-requires : goal.g-weight-requires
g-weight-requires g c =
    rw c.new.ensures.value (may_show c.each.invariant.below (omega arith) c.index-edges-i.is refl _ refl)

pub each-preserved : goal.each-preserved
each-preserved g c =
    record {
      below =
          mapped_called c.each.invariant.below (omega arith) c.index-edges-i.is _
          (rw c.edge_like.ensures at c.push_reserved.ensures.items)
          (elim [ inl Outgoing ↦ refl | inl Incoming ↦ refl | inr Outgoing ↦ refl | inr Incoming ↦ refl ])
          (rw c.new.ensures.value at c.g-weight.ensures) refl refl refl;
      capacity = omega (arith, c.push_reserved.ensures.capacity, c.each.invariant.capacity);
    }

pub returns-clause-mapped : goal.returns-clause-mapped
returns-clause-mapped g c = mapped_all c.each.invariant.below (omega arith)

pub returns-clause-links : goal.returns-clause-links
returns-clause-links g c = λ dir. links_all c.each.invariant.below (omega arith) (inl dir)

pub returns-clause-ends : goal.returns-clause-ends
returns-clause-ends g c = λ dir. links_all c.each.invariant.below (omega arith) (inr dir)
