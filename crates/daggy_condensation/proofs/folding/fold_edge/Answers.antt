use Rattle.std.proofs.Common.{◌≡◌, ℕ, ◌<◌, inl, inr, set, Some, None, refl, sym, ap, subst, ◌∙◌, arith, length, slice_index}
use Rattle.std.specs.Option.{option_map}
use Rattle.std.proofs.lemmas.List.{get_or_read, length-map}
use Rattle.daggy_base.specs.FromSlots.{edges_by, edge_of}
use Rattle.daggy_base.proofs.PathsWithoutEdge.{slot_of}
use Rattle.daggy_components.specs.Noting.{Joins}
use Rattle.daggy_components.proofs.NotedEdges.{slot_low}
use Rattle.daggy_condensation.specs.Replacing.{IsReplaced}
use Rattle.daggy_condensation.proofs.FoldedEdges.{replaces, push_by}
use Rattle.daggy_condensation.proofs.folding.fold_edge.Given.{Over}
use Rattle.daggy_condensation.proofs.folding.fold_edge.Goals.{After-index-at, In-Some}
use Rattle.daggy_condensation.proofs.folding.fold_edge.Goals as goal

-- which slot is noted
at_is : (g : Over) (c : After-index-at g) → c.index-at.result.now ≡ slice_index c.args.found.now.items c.args.k
at_is g c =
    get_or_read c.args.found.now.items c.args.k c.index-at.result.now
    (omega (arith, c.requires.within, c.args.found.now.ok.0)) c.index-at.ensures 0

pub f-made-requires : goal.f-made-requires
f-made-requires g c =
    let at = goal.at.f-made-requires g c in
    let P : ℕ → Type 0 = λ z. Joins (edges_by g.Ix.IndexType.number c.args.slots.now.items) z c.args.j c.args.k → ⊥ in
    c.requires.first (subst P (at_is g at.After-index-at) c.in_default.ensures.none)

-- the slot holds an edge
low : (g : Over) (c : In-Some g) → c.index-at.result.now < length c.args.slots.now.items
low g c =
    omega (
      arith,
      slot_low (edges_by g.Ix.IndexType.number c.args.slots.now.items) c.index-at.result.now _ c.in-Some.ensures.some,
      length-map c.args.slots.now.items (option_map (edge_of g.Ix.IndexType.number)),
    )

pub returns-in-Some : goal.returns-in-Some
returns-in-Some g c =
    let at = goal.at.returns-in-Some g c in
    let number = g.Ix.IndexType.number in
    let items = c.args.slots.now.items in
    let there =
    slot_of items c.index-at.result.now c.unwrap-a.result
    (sym (get_or_read items c.index-at.result.now c.index_mut.result.now (low g at.In-Some) c.index_mut.ensures.value None)
    ∙ (sym c.take.ensures.value ∙ c.unwrap-a.ensures)) in
    let P : ℕ → Type 0 = λ z.
    IsReplaced (λ given made. goal.F-post g c.args.f.now (Some given) c.args.e c.args.weight made)
    (edges_by number items)
    (edges_by number (set (set items c.index-at.result.now c.take.new.self) c.index-at.result.now
    (Some (c.unwrap-a.result.0, c.unwrap-a.result.1, c.f.result)))) z c.args.j c.args.k in
    let replaced : P c.index-at.result.now =
    replaces number (λ given made. goal.F-post g c.args.f.now (Some given) c.args.e c.args.weight made) items
    c.index-at.result.now c.args.j c.args.k c.take.new.self c.unwrap-a.result.0 c.unwrap-a.result.1 c.unwrap-a.result.2
    c.f.result c.in-Some.field-0.now there c.in-Some.ensures.some c.f.ensures in
    inl (subst P (at_is g at.After-index-at) replaced, refl)

pub returns : goal.returns
returns g c =
    let at = goal.at.returns g c in
    let number = g.Ix.IndexType.number in
    let items = c.args.slots.now.items in
    let long : c.len.result ≡ length (edges_by number items) =
    omega (arith, c.len.ensures, length-map items (option_map (edge_of number))) in
    let P : ℕ → Type 0 = λ z. Joins (edges_by number items) z c.args.j c.args.k → ⊥ in
    inr (
      c.f-made.result,
      c.f-made.ensures,
      record {
        was = subst P (at_is g at.After-index-at) c.in_default.ensures.none;
        slots =
            ap (λ z. edges_by number z) c.in_ok-push.ensures.items
            ∙ push_by number items c.new.result c.new-2.result c.f-made.result c.new.ensures.number c.new-2.ensures.number;
        noted = rw long refl;
      },
    )
