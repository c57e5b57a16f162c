use Rattle.std.proofs.Common.{ap, refl, sym, arith}
use Rattle.daggy_base.specs.declared.index.Direction.TheVariants.{Outgoing, Incoming}
use Rattle.std.specs.Option.{option_map}
use Rattle.daggy_stable.specs.Stored.{plain}
use Rattle.daggy_cells.proofs.MappedSlots.{mapped_none, may_show, mapped_vacant, mapped_called, mapped_all, links_all}
use Rattle.daggy_stable.proofs.stable_graph.map.map_edges.Goals as goal

pub each-init : goal.each-init
each-init g c = record { below = mapped_none c.requires.empty c.requires.callable; capacity = c.requires.capacity }

pub each-preserved-in-None : goal.each-preserved-in-None
each-preserved-in-None g c =
    record {
      below =
          mapped_vacant c.each.invariant.below (omega arith) c.index-edges-i.is _
          (rw c.edge_like.ensures at c.push_reserved.ensures.items) (elim [ Outgoing ↦ refl | Incoming ↦ refl ])
          (ap (option_map (plain c.index-edges-i.result)) (sym c.in-None.ensures.value)) refl;
      capacity = omega (arith, c.push_reserved.ensures.capacity, c.each.invariant.capacity);
    }

pub g-weight-requires : goal.g-weight-requires
g-weight-requires g c =
    rw c.new.ensures.value (may_show c.each.invariant.below (omega arith) c.index-edges-i.is
    (ap (option_map (plain c.index-edges-i.result)) (sym c.in-Some.ensures.value)) _ refl)

pub each-preserved : goal.each-preserved
each-preserved g c =
    record {
      below =
          mapped_called c.each.invariant.below (omega arith) c.index-edges-i.is _
          (rw c.edge_like-in-each.ensures at c.push_reserved-in-each.ensures.items)
          (elim [ Outgoing ↦ refl | Incoming ↦ refl ]) (rw c.new.ensures.value at c.g-weight.ensures)
          (ap (option_map (plain c.index-edges-i.result)) (sym c.in-Some.ensures.value)) refl refl;
      capacity = omega (arith, c.push_reserved-in-each.ensures.capacity, c.each.invariant.capacity);
    }

pub returns-clause-mapped : goal.returns-clause-mapped
returns-clause-mapped g c = mapped_all c.each.invariant.below (omega arith)

pub returns-clause-links : goal.returns-clause-links
returns-clause-links g c = links_all c.each.invariant.below (omega arith)
