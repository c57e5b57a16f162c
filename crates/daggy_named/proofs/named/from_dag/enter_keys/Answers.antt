use Rattle.std.proofs.Common.{◌≡◌, ◌<◌, ◌+◌, ◌∷◌, ◌∙◌, length, ap, subst, rules, arith}
use Rattle.std.proofs.Common.{IsSome}
use Rattle.std.proofs.lemmas.List.{length_push}
use Rattle.std.specs.Option.{option_to_list}
use Rattle.std.specs.Vec.Iter.{into_iter_items}
use Rattle.daggy_base.specs.Graph.{slot, HasNode}
use Rattle.daggy_named.proofs.KeyedNodes.{none_entered, vacant_entered, some_left, key_entered, all_entered, absent_yet}
use Rattle.daggy_named.proofs.named.from_dag.enter_keys.Goals as goal

pub slots-init : goal.slots-init
slots-init g c =
    record {
      entered =
          none_entered g.K.PartialEq.eq g.Ix.IndexType.number (search rules) c.requires.distinct c.requires.empty
          c.requires.no_places c.into_iter-keys.ensures.rest;
      counted = search rules;
      placed = search rules;
      room = search rules;
      place_room = c.requires.place_room;
    }

pub returns-clause-keys : goal.returns-clause-keys
returns-clause-keys g c = (all_entered _ _ c.slots.invariant.entered (search rules)).0

pub returns-clause-kept : goal.returns-clause-kept
returns-clause-kept g c = (all_entered _ _ c.slots.invariant.entered (search rules)).1

pub slots-preserved-then-not-contains_node : goal.slots-preserved-then-not-contains_node
slots-preserved-then-not-contains_node g c =
    let slots = c.args.graph.now.graph.nodes in
    let number : g.Ix.IndexType.number c.new-n.result ≡ c.slots.i = search rules in
    let vacant : ¬ HasNode c.args.graph.now.graph (g.Ix.IndexType.number c.new-n.result) = search rules in
    let low : c.slots.i < length c.args.graph.now.graph.nodes = search rules in
    record {
      entered =
          vacant_entered _ _ c.slots.invariant.entered low (subst (λ n. ¬ IsSome (slot slots n)) number vacant) _
          c.push_reserved.ensures.items;
      counted = c.slots.invariant.counted;
      placed = search rules;
      room = c.slots.invariant.room;
      place_room = search rules;
    }

pub unwrap-key-requires : goal.unwrap-key-requires
unwrap-key-requires g c =
    let low : c.slots.i < length c.args.graph.now.graph.nodes = search rules in
    let number : g.Ix.IndexType.number c.new-n.result ≡ c.slots.i = search rules in
    let there : HasNode c.args.graph.now.graph (g.Ix.IndexType.number c.new-n.result) = search rules in
    let left =
    some_left _ _ c.slots.invariant.entered low (subst (λ n. IsSome (slot c.args.graph.now.graph.nodes n)) number there)
    in
    c.next.ensures.variant.1 (omega (arith, left, c.slots.invariant.counted))

pub put_name-requires-clause-absent : goal.put_name-requires-clause-absent
put_name-requires-clause-absent g c =
    let left : into_iter_items c.slots.keys ≡ c.unwrap-key.result ∷ into_iter_items c.next.new.self = search rules in
    absent_yet g.K.PartialEq.eq g.met.K.Eq.laws c.slots.nodes.entries _ _ _ left c.slots.invariant.entered.distinct

pub slots-preserved : goal.slots-preserved
slots-preserved g c =
    let low : c.slots.i < length c.args.graph.now.graph.nodes = search rules in
    let left : into_iter_items c.slots.keys ≡ c.unwrap-key.result ∷ into_iter_items c.next.new.self = search rules in
    let number : g.Ix.IndexType.number c.new-n.result ≡ c.slots.i = search rules in
    let there : HasNode c.args.graph.now.graph (g.Ix.IndexType.number c.new-n.result) = search rules in
    let last : g.Ix.IndexType.number c.new-n.result ≡ length c.slots.places.items = search rules in
    let pushed = c.put_name.ensures.pushed last in
    let one : length (into_iter_items c.slots.keys) ≡ length (into_iter_items c.next.new.self) + 1 =
    ap length left ∙ omega (arith) in
    let taken : length (option_to_list c.next.result) ≡ 1 =
    ap (λ o. length (option_to_list o)) c.unwrap-key.ensures in
    let long : length c.put_name.new.places.items ≡ length c.slots.places.items + 1 =
    ap length pushed ∙ length_push c.slots.places.items _ in
    record {
      entered =
          key_entered _ _ c.slots.invariant.entered low _ _ left _ number
          (subst (λ n. IsSome (slot c.args.graph.now.graph.nodes n)) number there) _ _ c.put_name.ensures.entered pushed
          c.put_name.ensures.once;
      counted = omega (arith, taken, c.next.ensures.len, one, c.slots.invariant.counted);
      placed = search (rules, long);
      room = omega (arith, one, c.slots.invariant.room, c.put_name.ensures.spare);
      place_room = search rules;
    }
