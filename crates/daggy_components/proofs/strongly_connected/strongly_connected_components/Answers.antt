use Rattle.std.proofs.Common.{rules, ◌≡◌, ◌≢◌, ℕ, ◌+◌, ◌-◌, ◌<◌, ◌≤◌, ◌++◌, ◌∷◌, [], map, length, get_or, set, ap, sym, subst, ◌∙◌}
use Rattle.std.proofs.Common.{refl, arith}
use Rattle.std.proofs.lemmas.Bool.{false≢true}
use Rattle.std.proofs.lemmas.List.{get_or_read_under}
use Rattle.daggy_base.specs.Graph.{HasNode}
use Rattle.daggy_base.proofs.PathsWithNode.{bound_low}
use Rattle.daggy_components.proofs.Progress.{rests, skipped, begins, few_rested, all_found, all_stored, cuts}
use Rattle.daggy_components.proofs.Steps.{sizes_walked, node_low, number_left, few_walked, edge_here, base_read, place_read}
use Rattle.daggy_components.proofs.Steps.{opened_some, rest_within, part_low, apart, child_low, room_here, looked_once}
use Rattle.daggy_components.proofs.Steps.{steps_in, steps_over, first_base}
use Rattle.std.proofs.lemmas.List.{length-map}
use Rattle.daggy_components.specs.Stored.{placed}
use Rattle.daggy_components.proofs.Parts.{part}
use Rattle.daggy_components.proofs.Parts.{map_push}
use Rattle.daggy_components.proofs.Steps.{Finished, finished_closed, finished_left, finish_ends, finish_low, finish_goes}
use Rattle.daggy_components.proofs.strongly_connected.strongly_connected_components.Given.{Over}
use Rattle.daggy_components.proofs.strongly_connected.strongly_connected_components.Goals.{Joined-index-base}
use Rattle.daggy_components.proofs.strongly_connected.strongly_connected_components.Goals.{
  then-index-base+in_ok-push+in_ok-close+in_ok-push-2,
  else-index-base,
}
use Rattle.daggy_components.proofs.strongly_connected.strongly_connected_components.Goals.{then-not-contains_node-via-then-not-contains_node}
use Rattle.daggy_components.proofs.strongly_connected.strongly_connected_components.Goals.{
  then-not-contains_node-via-else-not-contains_node+then-index-end,
}
use Rattle.daggy_components.proofs.strongly_connected.strongly_connected_components.Goals as goal

-- a node was finished: its group is a component, or it is left
finished : (g : Over) (c : Joined-index-base g)
    → Finished g.Ix.IndexType.greatest record {
      graph = g.S.EdgeSource.graph c.args.source.now;
      bound = c.node_bound-bound.result;
      looks = g.S.EdgeSource.looks c.args.source.now;
    } (c.roots.i + 1) record {
      graph = g.S.EdgeSource.graph c.steps.source;
      lists = record {
        places = c.if-index-base.places.items;
        nodes = c.if-index-base.nodes.items;
        bases = c.steps.bases.items;
        members = map g.Ix.IndexType.number c.if-index-base.members.items;
        ends = c.if-index-base.ends.items;
        top = c.if-index-base.top;
      };
      cursors = c.steps.cursors.items;
      looks = g.S.EdgeSource.looks c.steps.source;
    } c.steps.len c.if-index-base.groups c.if-index-base.opened
finished g c =
    let at_end : g.Ix.IndexType.number c.steps.e ≡ g.Ix.IndexType.greatest = cc in
    let base = base_read c.node_bound-bound.ensures.well_formed c.steps.invariant c.index-base.ensures.value c.index-then-index-end-2.ensures in
    let read =
    place_read c.node_bound-bound.ensures.well_formed c.steps.invariant c.index-then-index-end-2-4.ensures.value c.index-then-index-end-2-3.ensures
    c.index-then-index-end-2-2.ensures.value (node_low c.node_bound-bound.ensures.well_formed c.steps.invariant) in
    let number = g.Ix.IndexType.number in
    let n = number c.steps.n in
    let places = c.steps.places.items in
    let rest = c.steps.top + (c.steps.opened - c.index-base.result - 1) in
    let moved = part c.steps.top (rest - c.steps.top) c.steps.nodes.items in
    elim c.if-index-base.branch [
      | then-index-base+in_ok-push+in_ok-close+in_ok-push-2 w ↦ (
          let at : get_or places n g.Ix.IndexType.greatest ≡ c.index-base.result =
          read ∙ (let e : c.index-then-index-end-2-4.result ≡ c.index-base.result = cc in e) in
          let place_is : w.new-place.result ≡ c.node_bound-bound.result - 1 - length c.steps.ends.items =
          let count : w.len.result ≡ length c.steps.ends.items = omega (arith, w.len.ensures) in
          w.new-place.ensures ∙ ap (λ (z : ℕ). c.node_bound-bound.result - 1 - z) count in
          let places_are : c.if-index-base.places.items
          ≡ placed (set places n (c.node_bound-bound.result - 1 - length c.steps.ends.items)) moved
          (c.node_bound-bound.result - 1 - length c.steps.ends.items) =
          rw w.places-is (w.in_ok-close.ensures.placed
          ∙ (ap (λ (z : ℕ). placed (set places z w.new-place.result) moved w.new-place.result)
          w.index-then-index-base.ensures.value
          ∙ ap (λ (z : ℕ). placed (set places n z) moved z) place_is)) in
          let members_are : map number c.if-index-base.members.items
          ≡ map number c.steps.members.items ++ n ∷ moved =
          rw w.members-is (w.in_ok-close.ensures.moved
          ∙ (ap (λ z. map number z ++ moved) w.in_ok-push.ensures.items
          ∙ map_push number c.steps.members.items c.steps.n moved)) in
          let ends_are : c.if-index-base.ends.items
          ≡ c.steps.ends.items ++ length (map number c.if-index-base.members.items) ∷ [] =
          let count : w.len-then-index-base.result ≡ length w.close.new.members.items =
          omega (arith, w.len-then-index-base.ensures) in
          rw (w.ends-is, w.members-is) (w.in_ok-push-2.ensures.items
          ∙ ap (λ (z : ℕ). c.steps.ends.items ++ z ∷ []) (count ∙ sym (length-map w.close.new.members.items number))) in
          let f =
          finished_closed c.node_bound-bound.ensures.well_formed c.steps.invariant at_end base at refl places_are members_are ends_are in
          rw (w.nodes-is, w.top-is, w.groups-is, w.opened-is) f
          )
      | else-index-base w ↦ (
          let not_at : get_or places n g.Ix.IndexType.greatest ≢ c.index-base.result = λ h.
          let e : c.index-then-index-end-2-4.result ≡ c.index-base.result = sym read ∙ h in w.if-index-base.false cc in
          let f =
          finished_left c.node_bound-bound.ensures.well_formed c.steps.invariant at_end base not_at (c.steps.top - 1) (omega (arith, apart c.node_bound-bound.ensures.well_formed c.steps.invariant)) in
          rw (w.places-is, w.nodes-is, w.members-is, w.ends-is, w.top-is, w.groups-is, w.opened-is, w.of_node.ensures) f
          )
    ]

pub roots-init : goal.roots-init
roots-init g c =
    let is = c.node_bound-bound.ensures.value in
    let low : c.node_bound-bound.result ≤ g.Ix.IndexType.greatest =
    omega (
      arith,
      is,
      bound_low (g.S.EdgeSource.graph c.args.source.now).nodes,
      c.node_bound-bound.ensures.well_formed.few_nodes,
    ) in
    rests (g.S.EdgeSource.graph c.args.source.now) _ c.in_ok-cursors.cursors.items (g.S.EdgeSource.looks c.args.source.now) is
    low c.in_ok-places.ensures c.in_ok-nodes.ensures c.in_ok-bases.ensures c.in_ok-cursors.ensures
    (ap (λ z. map g.Ix.IndexType.number z) c.in_ok-members.ensures.items) c.new-ends.ensures.items refl

pub roots-preserved-then-not-contains_node : goal.roots-preserved-then-not-contains_node
roots-preserved-then-not-contains_node g c =
    skipped c.node_bound-bound.ensures.well_formed c.roots.invariant (elim c.then-not-contains_node.branch [
      | then-not-contains_node-via-then-not-contains_node w ↦
          (λ h.
          absurd (false≢true (sym w.if-not-contains_node.true ∙ c.contains_node.ensures.exists.1 (let P : ℕ → Type 0 =
          λ z. HasNode (g.S.EdgeSource.graph c.roots.source) z in subst P (sym c.new-root.ensures.number) h))))
      | then-not-contains_node-via-else-not-contains_node+then-index-end w ↦
          (λ h eq.
          let low : c.roots.i < length c.roots.places.items = omega (arith, c.roots.invariant.between.tally.sized_places) in
          let read =
          get_or_read_under c.roots.places.items c.roots.i (length c.roots.places.items) w.index.result.now
          g.Ix.IndexType.greatest w.index.ensures low refl in
          let e : w.index-else-not-contains_node.result ≡ g.Ix.IndexType.greatest =
          w.index-else-not-contains_node.ensures.value ∙ (read ∙ eq) in
          let f : c.index-end.result ≡ g.Ix.IndexType.greatest = cc in
          absurd (omega (arith, e, f, w.if-index-end.true)))
    ])

pub steps-init : goal.steps-init
steps-init g c =
    let there : HasNode (g.S.EdgeSource.graph c.roots.source) (g.Ix.IndexType.number c.new-root.result) = search rules in
    let P : ℕ → Type 0 = λ z. HasNode (g.S.EdgeSource.graph c.roots.source) z in
    let low : c.roots.i < length c.roots.places.items = omega (arith, c.roots.invariant.between.tally.sized_places) in
    let read =
    get_or_read_under c.roots.places.items c.roots.i (length c.roots.places.items) c.index.result.now
    g.Ix.IndexType.greatest c.index.ensures low refl in
    let e : c.index-else-not-contains_node.result ≡ g.Ix.IndexType.greatest = cc in
    let unseen : get_or c.roots.places.items c.roots.i g.Ix.IndexType.greatest ≡ g.Ix.IndexType.greatest =
    sym read ∙ (sym c.index-else-not-contains_node.ensures.value ∙ e) in
    rw (c.new.ensures, c.new-in-roots.ensures) (begins c.node_bound-bound.ensures.well_formed c.roots.invariant (subst P c.new-root.ensures.number there) unseen
    c.new-root.ensures.number c.first-e.ensures)

pub index-requires-then-index-end-2 : goal.index-requires-then-index-end-2
index-requires-then-index-end-2 g c =
    let z = sizes_walked c.node_bound-bound.ensures.well_formed c.steps.invariant in
    omega (arith, z.0, z.1, z.2, c.steps.invariant.between.tally.sized_bases)

pub index-requires-then-index-end-2-3 : goal.index-requires-then-index-end-2-3
index-requires-then-index-end-2-3 g c =
    omega (arith, node_low c.node_bound-bound.ensures.well_formed c.steps.invariant, c.steps.invariant.between.tally.sized_places, c.index-then-index-end-2-2.ensures.value)

pub overflow_sub-bound-then-index-base : goal.overflow_sub-bound-then-index-base
overflow_sub-bound-then-index-base g c =
    omega (arith, number_left c.node_bound-bound.ensures.well_formed c.steps.invariant, c.len.ensures)

pub overflow_sub-rest : goal.overflow_sub-rest
overflow_sub-rest g c =
    let base = base_read c.node_bound-bound.ensures.well_formed c.steps.invariant c.index-base.ensures.value c.index-then-index-end-2.ensures in
    omega (arith, base, opened_some c.node_bound-bound.ensures.well_formed c.steps.invariant)

pub overflow_sub-rest-then-index-base : goal.overflow_sub-rest-then-index-base
overflow_sub-rest-then-index-base g c =
    let base = base_read c.node_bound-bound.ensures.well_formed c.steps.invariant c.index-base.ensures.value c.index-then-index-end-2.ensures in
    omega (arith, base, opened_some c.node_bound-bound.ensures.well_formed c.steps.invariant)

pub overflow_add-rest : goal.overflow_add-rest
overflow_add-rest g c =
    let at_end : g.Ix.IndexType.number c.steps.e ≡ g.Ix.IndexType.greatest = cc in
    let base = base_read c.node_bound-bound.ensures.well_formed c.steps.invariant c.index-base.ensures.value c.index-then-index-end-2.ensures in
    let read =
    place_read c.node_bound-bound.ensures.well_formed c.steps.invariant c.index-then-index-end-2-4.ensures.value c.index-then-index-end-2-3.ensures
    c.index-then-index-end-2-2.ensures.value (node_low c.node_bound-bound.ensures.well_formed c.steps.invariant) in
    let at : get_or c.steps.places.items (g.Ix.IndexType.number c.steps.n) g.Ix.IndexType.greatest ≡ c.index-base.result =
    read ∙ (let e : c.index-then-index-end-2-4.result ≡ c.index-base.result = cc in e) in
    let h : c.steps.top + (c.steps.opened - c.index-base.result - 1) ≤ c.node_bound-bound.result = rest_within c.node_bound-bound.ensures.well_formed c.steps.invariant at_end base at in
    search rules

pub index_mut-requires-then-index-base : goal.index_mut-requires-then-index-base
index_mut-requires-then-index-base g c =
    omega (arith, node_low c.node_bound-bound.ensures.well_formed c.steps.invariant, c.steps.invariant.between.tally.sized_places, c.index-then-index-base.ensures.value)

pub returns-in_err-push-clause-counted : goal.returns-in_err-push-clause-counted
returns-in_err-push-clause-counted g c = (few_walked c.node_bound-bound.ensures.well_formed c.steps.invariant).1

pub close-requires-clause-within : goal.close-requires-clause-within
close-requires-clause-within g c =
    let at_end : g.Ix.IndexType.number c.steps.e ≡ g.Ix.IndexType.greatest = cc in
    let base = base_read c.node_bound-bound.ensures.well_formed c.steps.invariant c.index-base.ensures.value c.index-then-index-end-2.ensures in
    let read =
    place_read c.node_bound-bound.ensures.well_formed c.steps.invariant c.index-then-index-end-2-4.ensures.value c.index-then-index-end-2-3.ensures
    c.index-then-index-end-2-2.ensures.value (node_low c.node_bound-bound.ensures.well_formed c.steps.invariant) in
    let at : get_or c.steps.places.items (g.Ix.IndexType.number c.steps.n) g.Ix.IndexType.greatest ≡ c.index-base.result =
    read ∙ (let e : c.index-then-index-end-2-4.result ≡ c.index-base.result = cc in e) in
    omega (arith, rest_within c.node_bound-bound.ensures.well_formed c.steps.invariant at_end base at, c.steps.invariant.between.tally.sized_nodes)

pub close-requires-clause-low : goal.close-requires-clause-low
close-requires-clause-low g c =
    let at_end : g.Ix.IndexType.number c.steps.e ≡ g.Ix.IndexType.greatest = cc in
    let base = base_read c.node_bound-bound.ensures.well_formed c.steps.invariant c.index-base.ensures.value c.index-then-index-end-2.ensures in
    let read =
    place_read c.node_bound-bound.ensures.well_formed c.steps.invariant c.index-then-index-end-2-4.ensures.value c.index-then-index-end-2-3.ensures
    c.index-then-index-end-2-2.ensures.value (node_low c.node_bound-bound.ensures.well_formed c.steps.invariant) in
    let at : get_or c.steps.places.items (g.Ix.IndexType.number c.steps.n) g.Ix.IndexType.greatest ≡ c.index-base.result =
    read ∙ (let e : c.index-then-index-end-2-4.result ≡ c.index-base.result = cc in e) in
    λ k above below. omega (arith, part_low c.node_bound-bound.ensures.well_formed c.steps.invariant at_end base at k above below, c.steps.invariant.between.tally.sized_places)

pub returns-in_err-close-clause-counted : goal.returns-in_err-close-clause-counted
returns-in_err-close-clause-counted g c = (few_walked c.node_bound-bound.ensures.well_formed c.steps.invariant).1

pub returns-in_err-push-2-clause-counted : goal.returns-in_err-push-2-clause-counted
returns-in_err-push-2-clause-counted g c = (few_walked c.node_bound-bound.ensures.well_formed c.steps.invariant).1

pub overflow_sub-top : goal.overflow_sub-top
overflow_sub-top g c =
    omega (arith, apart c.node_bound-bound.ensures.well_formed c.steps.invariant)

pub index-requires-then-index-end-2-5 : goal.index-requires-then-index-end-2-5
index-requires-then-index-end-2-5 g c =
    let f = finished g (goal.at.index-requires-then-index-end-2-5 g c).Joined-index-base in
    omega (arith, finish_low f c.if-len-eq0.false)

pub index-requires-then-index-end-2-6 : goal.index-requires-then-index-end-2-6
index-requires-then-index-end-2-6 g c =
    let z = sizes_walked c.node_bound-bound.ensures.well_formed c.steps.invariant in
    omega (arith, z.3, z.2, c.steps.invariant.between.sized_cursors)

pub steps-preserved-then-index-end-2 : goal.steps-preserved-then-index-end-2
steps-preserved-then-index-end-2 g c =
    let f = finished g (goal.at.steps-preserved-then-index-end-2 g c).Joined-index-base in
    let z = sizes_walked c.node_bound-bound.ensures.well_formed c.steps.invariant in
    let xs = c.if-index-base.nodes.items in
    let ys = c.steps.cursors.items in
    let k = c.steps.len - 1 in
    let within : k < length ys = omega (arith, z.3, z.2, c.steps.invariant.between.sized_cursors) in
    finish_goes f c.if-len-eq0.false refl (λ d.
    c.node-n.ensures.value
    ∙ get_or_read_under xs k (length xs) c.index-then-index-end-2-5.result.now d c.index-then-index-end-2-5.ensures
    (finish_low f c.if-len-eq0.false) refl) (λ d.
    c.edge-e.ensures.value
    ∙ get_or_read_under ys k (length ys) c.index-then-index-end-2-6.result.now d c.index-then-index-end-2-6.ensures within
    refl) refl refl

pub look-v-requires : goal.look-v-requires
look-v-requires g c =
    let here : g.Ix.IndexType.number c.steps.e ≢ g.Ix.IndexType.greatest = λ h. c.if-index-end-2.false cc in
    edge_here c.node_bound-bound.ensures.well_formed c.steps.invariant here

pub index-requires-else-index-end-2-2 : goal.index-requires-else-index-end-2-2
index-requires-else-index-end-2-2 g c =
    let here : g.Ix.IndexType.number c.steps.e ≢ g.Ix.IndexType.greatest = λ h. c.if-index-end-2.false cc in
    let low = child_low c.node_bound-bound.ensures.well_formed c.steps.invariant here c.look-v.ensures.gives in
    omega (arith, low, c.index-else-index-end-2.ensures.value, c.steps.invariant.between.tally.sized_places)

pub index_mut-requires-then-at-end : goal.index_mut-requires-then-at-end
index_mut-requires-then-at-end g c =
    let z = sizes_walked c.node_bound-bound.ensures.well_formed c.steps.invariant in
    omega (arith, z.3, z.2, c.steps.invariant.between.tally.sized_nodes)

pub index_mut-requires-then-at-end-2 : goal.index_mut-requires-then-at-end-2
index_mut-requires-then-at-end-2 g c =
    let z = sizes_walked c.node_bound-bound.ensures.well_formed c.steps.invariant in
    omega (arith, z.3, z.2, c.steps.invariant.between.sized_cursors)

pub new-requires-then-at-end : goal.new-requires-then-at-end
new-requires-then-at-end g c =
    let z = sizes_walked c.node_bound-bound.ensures.well_formed c.steps.invariant in
    omega (arith, z.2, c.steps.invariant.between.tally.bound_low)

pub index_mut-requires-then-at-end-3 : goal.index_mut-requires-then-at-end-3
index_mut-requires-then-at-end-3 g c =
    let here : g.Ix.IndexType.number c.steps.e ≢ g.Ix.IndexType.greatest = λ h. c.if-index-end-2.false cc in
    let low = child_low c.node_bound-bound.ensures.well_formed c.steps.invariant here c.look-v.ensures.gives in
    omega (arith, low, c.index-then-at-end.ensures.value, c.steps.invariant.between.tally.sized_places)

pub new-requires-then-at-end-2 : goal.new-requires-then-at-end-2
new-requires-then-at-end-2 g c =
    let z = sizes_walked c.node_bound-bound.ensures.well_formed c.steps.invariant in
    omega (arith, z.2, c.steps.invariant.between.tally.bound_low)

pub index_mut-requires-then-at-end-4 : goal.index_mut-requires-then-at-end-4
index_mut-requires-then-at-end-4 g c =
    let here : g.Ix.IndexType.number c.steps.e ≢ g.Ix.IndexType.greatest = λ h. c.if-index-end-2.false cc in
    let low = child_low c.node_bound-bound.ensures.well_formed c.steps.invariant here c.look-v.ensures.gives in
    let read = place_read c.node_bound-bound.ensures.well_formed c.steps.invariant c.index-at.ensures.value c.index-else-index-end-2-2.ensures c.index-else-index-end-2.ensures.value low in
    let unseen : get_or c.steps.places.items (g.Ix.IndexType.number c.look-v.result.0) g.Ix.IndexType.greatest ≡ g.Ix.IndexType.greatest =
    read ∙ (let e : c.index-at.result ≡ g.Ix.IndexType.greatest = cc in e) in
    let z = sizes_walked c.node_bound-bound.ensures.well_formed c.steps.invariant in
    omega (arith, room_here c.node_bound-bound.ensures.well_formed c.steps.invariant here c.look-v.ensures.gives unseen, z.1, c.steps.invariant.between.tally.sized_bases)

pub overflow_add-len : goal.overflow_add-len
overflow_add-len g c =
    let z = sizes_walked c.node_bound-bound.ensures.well_formed c.steps.invariant in
    let h : c.steps.len + 1 ≤ c.node_bound-bound.result = omega (arith, z.3, z.2) in
    search rules

pub overflow_add-groups : goal.overflow_add-groups
overflow_add-groups g c =
    let here : g.Ix.IndexType.number c.steps.e ≢ g.Ix.IndexType.greatest = λ h. c.if-index-end-2.false cc in
    let low = child_low c.node_bound-bound.ensures.well_formed c.steps.invariant here c.look-v.ensures.gives in
    let read = place_read c.node_bound-bound.ensures.well_formed c.steps.invariant c.index-at.ensures.value c.index-else-index-end-2-2.ensures c.index-else-index-end-2.ensures.value low in
    let unseen : get_or c.steps.places.items (g.Ix.IndexType.number c.look-v.result.0) g.Ix.IndexType.greatest ≡ g.Ix.IndexType.greatest =
    read ∙ (let e : c.index-at.result ≡ g.Ix.IndexType.greatest = cc in e) in
    let z = sizes_walked c.node_bound-bound.ensures.well_formed c.steps.invariant in
    let h : c.steps.groups + 1 ≤ c.node_bound-bound.result = omega (arith, room_here c.node_bound-bound.ensures.well_formed c.steps.invariant here c.look-v.ensures.gives unseen, z.1) in
    search rules

pub overflow_add-opened : goal.overflow_add-opened
overflow_add-opened g c =
    let here : g.Ix.IndexType.number c.steps.e ≢ g.Ix.IndexType.greatest = λ h. c.if-index-end-2.false cc in
    let low = child_low c.node_bound-bound.ensures.well_formed c.steps.invariant here c.look-v.ensures.gives in
    let read = place_read c.node_bound-bound.ensures.well_formed c.steps.invariant c.index-at.ensures.value c.index-else-index-end-2-2.ensures c.index-else-index-end-2.ensures.value low in
    let unseen : get_or c.steps.places.items (g.Ix.IndexType.number c.look-v.result.0) g.Ix.IndexType.greatest ≡ g.Ix.IndexType.greatest =
    read ∙ (let e : c.index-at.result ≡ g.Ix.IndexType.greatest = cc in e) in
    let h : c.steps.opened + 1 ≤ c.node_bound-bound.result = omega (arith, room_here c.node_bound-bound.ensures.well_formed c.steps.invariant here c.look-v.ensures.gives unseen) in
    search rules

pub steps-smaller-then-at-end : goal.steps-smaller-then-at-end
steps-smaller-then-at-end g c =
    let here : g.Ix.IndexType.number c.steps.e ≢ g.Ix.IndexType.greatest = λ h. c.if-index-end-2.false cc in
    omega (arith, looked_once c.node_bound-bound.ensures.well_formed c.steps.invariant here c.look-v.ensures.gives c.look-v.ensures.counted, c.look-v.ensures.counted)

pub steps-preserved-then-at-end : goal.steps-preserved-then-at-end
steps-preserved-then-at-end g c =
    let here : g.Ix.IndexType.number c.steps.e ≢ g.Ix.IndexType.greatest = λ h. c.if-index-end-2.false cc in
    let low = child_low c.node_bound-bound.ensures.well_formed c.steps.invariant here c.look-v.ensures.gives in
    let read = place_read c.node_bound-bound.ensures.well_formed c.steps.invariant c.index-at.ensures.value c.index-else-index-end-2-2.ensures c.index-else-index-end-2.ensures.value low in
    let unseen : get_or c.steps.places.items (g.Ix.IndexType.number c.look-v.result.0) g.Ix.IndexType.greatest ≡ g.Ix.IndexType.greatest =
    read ∙ (let e : c.index-at.result ≡ g.Ix.IndexType.greatest = cc in e) in
    let s =
    steps_in c.node_bound-bound.ensures.well_formed c.steps.invariant here c.look-v.ensures.gives unseen c.look-v.ensures.same c.look-v.ensures.counted c.first-e-then-at-end.ensures in
    rw (
      c.index-then-at-end.ensures.value,
      c.new-then-at-end.ensures,
      c.new-then-at-end-2.ensures,
      c.of_node-then-at-end.ensures,
      c.of_edge.ensures,
    ) s

pub joined-groups-requires-clause-within : goal.joined-groups-requires-clause-within
joined-groups-requires-clause-within g c =
    let z = sizes_walked c.node_bound-bound.ensures.well_formed c.steps.invariant in
    omega (arith, z.1, z.2, c.steps.invariant.between.tally.sized_bases)

pub joined-groups-requires-clause-first : goal.joined-groups-requires-clause-first
joined-groups-requires-clause-first g c =
    let here : g.Ix.IndexType.number c.steps.e ≢ g.Ix.IndexType.greatest = λ h. c.if-index-end-2.false cc in
    let low = child_low c.node_bound-bound.ensures.well_formed c.steps.invariant here c.look-v.ensures.gives in
    let read = place_read c.node_bound-bound.ensures.well_formed c.steps.invariant c.index-at.ensures.value c.index-else-index-end-2-2.ensures c.index-else-index-end-2.ensures.value low in
    omega (arith, first_base c.node_bound-bound.ensures.well_formed c.steps.invariant here c.look-v.ensures.gives, read)

pub steps-smaller : goal.steps-smaller
steps-smaller g c =
    let here : g.Ix.IndexType.number c.steps.e ≢ g.Ix.IndexType.greatest = λ h. c.if-index-end-2.false cc in
    omega (arith, looked_once c.node_bound-bound.ensures.well_formed c.steps.invariant here c.look-v.ensures.gives c.look-v.ensures.counted, c.look-v.ensures.counted)

pub steps-preserved : goal.steps-preserved
steps-preserved g c =
    let here : g.Ix.IndexType.number c.steps.e ≢ g.Ix.IndexType.greatest = λ h. c.if-index-end-2.false cc in
    let low = child_low c.node_bound-bound.ensures.well_formed c.steps.invariant here c.look-v.ensures.gives in
    let read = place_read c.node_bound-bound.ensures.well_formed c.steps.invariant c.index-at.ensures.value c.index-else-index-end-2-2.ensures c.index-else-index-end-2.ensures.value low in
    let seen : get_or c.steps.places.items (g.Ix.IndexType.number c.look-v.result.0) g.Ix.IndexType.greatest ≢ g.Ix.IndexType.greatest =
    λ h. let e : c.index-at.result ≡ g.Ix.IndexType.greatest = sym read ∙ h in c.if-at-end.false cc in
    steps_over c.node_bound-bound.ensures.well_formed c.steps.invariant here c.look-v.ensures.gives seen c.joined-groups.ensures.left
    (λ k above below. omega (arith, c.joined-groups.ensures.joins k above below, read))
    (omega (arith, c.joined-groups.ensures.stays, read)) c.joined-groups.ensures.fewer c.look-v.ensures.same
    c.look-v.ensures.counted

pub roots-preserved : goal.roots-preserved
roots-preserved g c =
    let f = finished g (goal.at.roots-preserved g c).Joined-index-base in
    finish_ends f c.if-len-eq0.true

pub returns-clause-components : goal.returns-clause-components
returns-clause-components g c =
    let all : c.node_bound-bound.result ≤ c.roots.i = omega arith in
    rw c.of.ensures (rw (cuts c.node_bound-bound.ensures.well_formed c.roots.invariant) (all_found c.node_bound-bound.ensures.well_formed c.roots.invariant all))

pub returns-clause-counted : goal.returns-clause-counted
returns-clause-counted g c = (few_rested c.node_bound-bound.ensures.well_formed c.roots.invariant).1

pub of-requires : goal.of-requires
of-requires g c = all_stored c.node_bound-bound.ensures.well_formed c.roots.invariant
