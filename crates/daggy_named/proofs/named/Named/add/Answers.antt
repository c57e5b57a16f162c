use Rattle.std.proofs.Common.{ap, sym, subst, ◌∙◌, Some}
use Rattle.std.specs.Map.{lookup}
use Rattle.daggy_base.specs.Adding.{next_node, with_node, with_slot_filled}
use Rattle.daggy_base.proofs.PathsWithNewNode.{free_slots}
use Rattle.daggy_named.specs.Naming.{index_in}
use Rattle.daggy_named.specs.Places.{IsKept}
use Rattle.daggy_named.proofs.Kept.{none_found}
use Rattle.daggy_named.proofs.Added.{low_entered, keys_entered, kept_entered}
use Rattle.daggy_named.proofs.named.Named.add.Goals as goal

pub put_name-requires-clause-absent : goal.put_name-requires-clause-absent
put_name-requires-clause-absent g c =
    let eq = g.K.PartialEq.eq in
    let k = c.args.key in
    ap (lookup (eq k)) c.make_room.ensures.same
    ∙ none_found g.met.K.Eq.laws c.self.invariant k c.index_of.result
    (c.index_of.ensures.found ∙ ap (λ s. index_in eq s.keys k) (sym c.self.view_is)) (sym c.if-is_some.ensures)

pub put_name-requires-clause-low : goal.put_name-requires-clause-low
put_name-requires-clause-low g c =
    let old = c.self.inside.dag.graph in
    let free = free_slots old.nodes old.vacant_nodes c.node_count-count.ensures.dag.well_formed.node_slots in
    low_entered c.self.invariant old.vacant_nodes free c.args.key c.in-Ok.n c.in-Ok.ensures.added.0
    c.make_room.ensures.same c.make_room.ensures.same_places

pub invariant_of-self-in-Ok : goal.invariant_of-self-in-Ok
invariant_of-self-in-Ok g c =
    let old = c.self.inside.dag.graph in
    let free = free_slots old.nodes old.vacant_nodes c.node_count-count.ensures.dag.well_formed.node_slots in
    let put = c.put_name.ensures in
    let left = c.put_name.new in
    subst (λ z. IsKept g.K.PartialEq.eq g.Ix.IndexType.number z left.nodes.entries left.places.items)
    (sym (ap (λ z. z.nodes) c.in-Ok.ensures.added.1))
    (kept_entered c.self.invariant old.vacant_nodes free c.args.key c.in-Ok.n c.in-Ok.ensures.added.0
    c.make_room.ensures.same c.make_room.ensures.same_places left.nodes.entries left.places.items
    put.entered put.filled put.pushed c.args.weight put.once)

pub returns-in-Ok-clause-added : goal.returns-in-Ok-clause-added
returns-in-Ok-clause-added g c =
    let old = c.self.inside.dag.graph in
    let free = free_slots old.nodes old.vacant_nodes c.node_count-count.ensures.dag.well_formed.node_slots in
    let put = c.put_name.ensures in
    let left = c.put_name.new in (
      c.in-Ok.ensures.added.0 ∙ ap (λ s. next_node s.graph) c.self.view_is,
      c.in-Ok.ensures.added.1 ∙ ap (λ s. with_node s.graph c.args.weight) c.self.view_is,
      keys_entered c.self.invariant old.vacant_nodes free c.args.key c.in-Ok.n c.in-Ok.ensures.added.0
          c.make_room.ensures.same c.make_room.ensures.same_places left.nodes.entries left.places.items
          put.entered put.filled put.pushed
          ∙ ap (λ s. with_slot_filled s.keys s.graph.vacant_nodes (Some c.args.key)) c.self.view_is,
    )
