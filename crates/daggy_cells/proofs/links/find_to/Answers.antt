use Rattle.std.proofs.Common.{◌≡◌, ◌<◌, ◌≤◌, length, get_or, true, false, eqb, Some, slice_get, refl, sym, ap, ◌∙◌}
use Rattle.std.proofs.Common.{arith}
use Rattle.std.proofs.lemmas.Bool.{eq-eqb, ne_eqb}
use Rattle.std.proofs.lemmas.List.{length-map, get_or-map}
use Rattle.daggy_base.proofs.Lists.{slice_get_mapped}
use Rattle.daggy_base.specs.declared.index.Direction.TheVariants.{Outgoing, Incoming}
use Rattle.daggy_cells.specs.Raw.{raw_next}
use Rattle.daggy_cells.specs.Fields.{nexts_of, end_at, enters}
use Rattle.daggy_cells.proofs.LinkedLists.{IsScan-done, IsScan-here, IsScan-step, IsScan-shorter}
use Rattle.daggy_cells.proofs.links.find_to.Given.{Over}
use Rattle.daggy_cells.proofs.links.find_to.Goals.{At-along, After-index-x}
use Rattle.daggy_cells.proofs.links.find_to.Goals as goal

-- the links are few
limit : (g : Over) (c : At-along g) → length (nexts_of Outgoing c.args.edges.now.items) ≤ g.Ix.IndexType.greatest
limit g c = omega (arith, length-map c.args.edges.now.items (raw_next Outgoing), c.requires.few)

-- the edge that is read
inside : (g : Over) (c : After-index-x g) → c.along.e < length c.args.edges.now.items
inside g c = omega (arith, c.if-i-len.false, c.index-i.ensures.value, c.len.ensures)

within : (g : Over) (c : After-index-x g) → c.along.e < length (nexts_of Outgoing c.args.edges.now.items)
within g c = omega (arith, length-map c.args.edges.now.items (raw_next Outgoing), inside g c)

reads : (g : Over) (c : After-index-x g)
    → c.index-x.result.now ≡ get_or c.args.edges.now.items c.along.e c.index-x.result.now
reads g c = c.index-x.ensures ∙ ap (λ z. get_or c.args.edges.now.items z c.index-x.result.now) c.index-i.ensures.value

-- whether it enters the node that is looked for
seen : (g : Over) (c : After-index-x g)
    → enters c.args.edges.now.items c.args.child c.along.e ≡ eqb (end_at Incoming c.index-x.result.now) c.args.child
seen g c =
    ap (λ z. eqb z c.args.child)
    (get_or-map (end_at Incoming) c.args.edges.now.items c.along.e c.index-x.result.now 0 (inside g c)
    ∙ ap (end_at Incoming) (sym (reads g c)))

-- the link that goes on from it
goes : (g : Over) (c : After-index-x g)
    → slice_get (nexts_of Outgoing c.args.edges.now.items) c.along.e ≡ Some (raw_next Outgoing c.index-x.result.now)
goes g c =
    slice_get_mapped (raw_next Outgoing) c.args.edges.now.items c.along.e c.index-x.result.now (inside g c) (reads g c)

pub along-init : goal.along-init
along-init g c = record { rest = _; from_here = c.requires.linked; same = refl }

pub returns-then-i-len : goal.returns-then-i-len
returns-then-i-len g c =
    sym (IsScan-done _ _ _ _ _ c.along.invariant (omega (
      arith,
      length-map c.args.edges.now.items (raw_next Outgoing),
      c.if-i-len.true,
      c.index-i.ensures.value,
      c.len.ensures,
    )))

pub returns-then-index-child : goal.returns-then-index-child
returns-then-index-child g c =
    let at = goal.at.returns-then-index-child g c in
    let met : eqb (end_at Incoming c.index-x.result.now) c.args.child ≡ true =
    eq-eqb _ _ (sym c.endpoint.ensures ∙ sym c.index.ensures.value ∙ c.if-index-child.true) in
    sym (IsScan-here _ _ _ _ _ c.along.invariant (within g at.After-index-x) (limit g at.At-along)
    (seen g at.After-index-x ∙ met))

pub along-smaller : goal.along-smaller
along-smaller g c =
    let at = goal.at.along-smaller g c in
    IsScan-shorter c.along.invariant (within g at.After-index-x) (limit g at.At-along)
    (goes g at.After-index-x ∙ ap Some (sym c.next-e.ensures))

pub along-preserved : goal.along-preserved
along-preserved g c =
    let at = goal.at.along-preserved g c in
    let other : eqb (end_at Incoming c.index-x.result.now) c.args.child ≡ false =
    ne_eqb _ _ (λ q. c.if-index-child.false (c.index.ensures.value ∙ c.endpoint.ensures ∙ q)) in
    IsScan-step c.along.invariant (within g at.After-index-x) (limit g at.At-along) (seen g at.After-index-x ∙ other)
    (goes g at.After-index-x ∙ ap Some (sym c.next-e.ensures))
