use Rattle.std.proofs.Common.{◌≡◌, ◌<◌, ◌∷◌, ℕ, map, length, reverse, ap, sym, subst, ◌∙◌, arith}
use Rattle.std.specs.Prelude.{slice_index, Contains}
use Rattle.std.proofs.lemmas.List.{length-map}
use Rattle.daggy_base.proofs.Lists.{mem_at, mem_contains}
use Rattle.daggy_components.proofs.MetChildren.{read_place}
use Rattle.daggy_cycles.specs.Queue.{place_before}
use Rattle.daggy_cycles.proofs.CycleEdges.{spot}
use Rattle.daggy_cycles.proofs.Searching.{way_goes_back, turned_more}
use Rattle.daggy_cycles.proofs.shortest.way_to.Given.{Over}
use Rattle.daggy_cycles.proofs.shortest.way_to.Goals.{After-index, After-index-i}
use Rattle.daggy_cycles.proofs.shortest.way_to.Goals as goal

-- the node at the place i
here : (g : Over) (c : After-index g)
    → slice_index (map g.Ix.IndexType.number c.args.nodes.now.items) c.way.i ≡ g.Ix.IndexType.number c.index-n.result.now
here g c =
    let number = g.Ix.IndexType.number in
    let low : c.way.i < length c.args.nodes.now.items =
    omega (arith, c.way.invariant.low, length-map c.args.nodes.now.items number) in
    spot number c.args.nodes.now.items c.way.i c.index-n.result.now low c.index-n.ensures

low_n : (g : Over) (c : After-index g) → g.Ix.IndexType.number c.index-n.result.now < length c.args.places.now.items
low_n g c =
    let nodes = map g.Ix.IndexType.number c.args.nodes.now.items in
    let P : ℕ → Type 0 = λ z. Contains nodes z in
    let there = subst P (here g c) (mem_contains nodes (slice_index nodes c.way.i) (mem_at nodes c.way.i 0 c.way.invariant.low)) in
    omega (arith, c.requires.low (g.Ix.IndexType.number c.index-n.result.now) there, c.args.places.now.ok.0)

pub index-requires-in-way : goal.index-requires-in-way
index-requires-in-way g c = omega (arith, low_n g c, c.index.ensures.value, c.args.places.now.ok.0)

-- where the code goes on
goes : (g : Over) (c : After-index-i g)
    → c.index-i.result
    ≡ place_before g.Ix.IndexType.greatest c.args.places.now.items (map g.Ix.IndexType.number c.args.nodes.now.items) c.way.i
goes g c =
    let at = goal.at.way-smaller g c in
    let is = here g at.After-index in
    let low : slice_index (map g.Ix.IndexType.number c.args.nodes.now.items) c.way.i < length c.args.places.now.items =
    omega (arith, low_n g at.After-index, is) in
    sym (read_place c.args.places.now.items g.Ix.IndexType.greatest c.index-in-way.ensures c.index-i.ensures.value
    (c.index.ensures.value ∙ sym is) low)

pub way-smaller : goal.way-smaller
way-smaller g c =
    omega (
      arith,
      goes g c,
      c.requires.earlier c.way.i c.way-test.true
          (omega (
            arith,
            c.way.invariant.low,
            length-map c.args.nodes.now.items g.Ix.IndexType.number,
            c.args.nodes.now.ok.0,
          )),
    )

pub way-preserved : goal.way-preserved
way-preserved g c =
    let at = goal.at.way-preserved g c in
    let number = g.Ix.IndexType.number in
    let low : c.way.i < c.args.nodes.now.len =
    omega (arith, c.way.invariant.low, length-map c.args.nodes.now.items number, c.args.nodes.now.ok.0) in
    way_goes_back c.way.invariant c.way-test.true (c.requires.earlier c.way.i c.way-test.true low) (goes g c)
    (ap (λ z. map number (reverse z)) c.in_ok-push.ensures.items
    ∙ (turned_more number c.way.way.items c.index-n.result.now
    ∙ ap (λ (z : ℕ). z ∷ map number (reverse c.way.way.items)) (sym (here g at.After-index))))
