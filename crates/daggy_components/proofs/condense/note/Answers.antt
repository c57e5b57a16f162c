use Rattle.std.proofs.Common.{◌≡◌, ℕ, ◌<◌, ◌≤◌, inl, inr, set, Some, refl, ap, subst, ◌∙◌, arith, length, slice_index}
use Rattle.std.specs.Option.{option_map}
use Rattle.std.proofs.lemmas.List.{get_or_read, length-map}
use Rattle.daggy_base.specs.FromSlots.{edges_by, edge_of}
use Rattle.daggy_components.specs.Noting.{IsLowered, Joins}
use Rattle.daggy_components.proofs.NotedEdges.{stays_least, takes_place, push_by, slot_low}
use Rattle.daggy_components.proofs.condense.note.Given.{Over}
use Rattle.daggy_components.proofs.condense.note.Goals.{After-index-at}
use Rattle.daggy_components.proofs.condense.note.Goals as goal

-- which slot is noted
at_is : (g : Over) (c : After-index-at g) → c.index-at.result.now ≡ slice_index c.args.found.now.items c.args.k
at_is g c =
    get_or_read c.args.found.now.items c.args.k c.index-at.result.now
    (omega (arith, c.requires.within, c.args.found.now.ok.0)) c.index-at.ensures 0

pub returns-in_default : goal.returns-in_default
returns-in_default g c =
    let at = goal.at.returns-in_default g c in
    let number = g.Ix.IndexType.number in
    let long : c.len.result ≡ length (edges_by number c.args.slots.now.items) =
    omega (arith, c.len.ensures, length-map c.args.slots.now.items (option_map (edge_of number))) in
    let P : ℕ → Type 0 = λ z. Joins (edges_by number c.args.slots.now.items) z c.args.j c.args.k → ⊥ in
    record {
      noted = inr (record {
        was = subst P (at_is g at.After-index-at) c.in_default.ensures.none;
        slots =
            ap (λ z. edges_by number z) c.in_ok-push.ensures.items
            ∙ push_by number c.args.slots.now.items c.new.result c.new-2.result c.args.e c.new.ensures.number c.new-2.ensures.number;
        noted = rw long refl;
      });
    }

pub index_mut-requires-then-index : goal.index_mut-requires-then-index
index_mut-requires-then-index g c =
    let number = g.Ix.IndexType.number in
    omega (
      arith,
      slot_low (edges_by number c.args.slots.now.items) c.index-at.result.now _ c.in-Some.ensures.some,
      length-map c.args.slots.now.items (option_map (edge_of number)),
    )

pub returns-then-index : goal.returns-then-index
returns-then-index g c =
    let at = goal.at.returns-then-index g c in
    let number = g.Ix.IndexType.number in
    let low : number c.args.e < number c.in-Some.least =
    omega (arith, c.if-index.true, c.index.ensures.value, c.index-2.ensures.value) in
    let P : ℕ → Type 0 = λ z.
    IsLowered number (edges_by number c.args.slots.now.items)
    (edges_by number (set c.args.slots.now.items c.index-at.result.now (Some (c.new.result, c.new-2.result, c.args.e)))) z
    c.args.j c.args.k c.args.e in
    let noted : P c.index-at.result.now =
    takes_place number c.args.slots.now.items c.new.result c.new-2.result c.in-Some.least c.args.e c.in-Some.ensures.some
    c.new.ensures.number c.new-2.ensures.number low in
    record { noted = inl (subst P (at_is g at.After-index-at) noted, refl) }

pub returns : goal.returns
returns g c =
    let at = goal.at.returns g c in
    let number = g.Ix.IndexType.number in
    let low : number c.in-Some.least ≤ number c.args.e =
    omega (arith, c.if-index.false, c.index.ensures.value, c.index-2.ensures.value) in
    let P : ℕ → Type 0 = λ z.
    IsLowered number (edges_by number c.args.slots.now.items) (edges_by number c.args.slots.now.items) z c.args.j c.args.k
    c.args.e in
    let noted : P c.index-at.result.now = stays_least number c.in-Some.least c.args.e c.in-Some.ensures.some low in
    record { noted = inl (subst P (at_is g at.After-index-at) noted, refl) }
