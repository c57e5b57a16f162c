use Rattle.std.proofs.Common.{◌≡◌, ◌<◌, length, slice_get, Some, sym, ap, ◌∙◌, arith}
use Rattle.std.proofs.lemmas.List.{length-map}
use Rattle.daggy_cells.specs.Raw.{raw_next}
use Rattle.daggy_cells.specs.Fields.{nexts_of}
use Rattle.daggy_cells.proofs.LinkedLists.{IsRest-start, IsRest-step, IsRest-within, IsRest-found, IsRest-shorter}
use Rattle.daggy_base.proofs.Lists.{slice_get_mapped}
use Rattle.daggy_cells.proofs.links.find_before.Given.{Over}
use Rattle.daggy_cells.proofs.links.find_before.Goals.{After-next-next}
use Rattle.daggy_cells.proofs.links.find_before.Goals as goal

-- the link that goes on from the edge in turn
goes : (g : Over) (c : After-next-next g)
    → slice_get (nexts_of c.args.dir c.args.edges.now) c.along.e ≡ Some c.next-next.result
goes g c =
    let within : c.along.e < length (nexts_of c.args.dir c.args.edges.now) =
    IsRest-within _ _ _ _ _ c.along.invariant in
    let reads = rw c.index-i.ensures.value at c.index-edges-i.is in
    let inside : c.along.e < length c.args.edges.now
    = omega (arith, within, length-map c.args.edges.now (raw_next c.args.dir)) in
    slice_get_mapped (raw_next c.args.dir) c.args.edges.now c.along.e c.index-edges-i.result inside reads
    ∙ ap Some (sym c.next-next.ensures)

pub along-init : goal.along-init
along-init g c =
    rw c.index-target.ensures.value (IsRest-start _ _ _ _ _ c.requires.linked c.requires.listed c.requires.later)

pub offset_bounds-edges-i : goal.offset_bounds-edges-i
offset_bounds-edges-i g c =
    omega (
      arith,
      IsRest-within _ _ _ _ _ c.along.invariant,
      length-map c.args.edges.now (raw_next c.args.dir),
      c.index-i.ensures.value,
    )

pub bounds-edges-i : goal.bounds-edges-i
bounds-edges-i g c =
    omega (
      arith,
      IsRest-within _ _ _ _ _ c.along.invariant,
      length-map c.args.edges.now (raw_next c.args.dir),
      c.index-i.ensures.value,
    )

pub returns-then-index-target-clause-listed : goal.returns-then-index-target-clause-listed
returns-then-index-target-clause-listed g c =
    let met = sym c.index.ensures.value ∙ c.if-index-target.true in
    let found = IsRest-found _ _ _ _ _ c.along.invariant
    ((goes g (goal.at.returns-then-index-target-clause-listed g c).After-next-next) ∙ ap Some met) in
    found.0

pub returns-then-index-target-clause-before : goal.returns-then-index-target-clause-before
returns-then-index-target-clause-before g c =
    let met = sym c.index.ensures.value ∙ c.if-index-target.true in
    let found = IsRest-found _ _ _ _ _ c.along.invariant
    ((goes g (goal.at.returns-then-index-target-clause-before g c).After-next-next) ∙ ap Some met) in
    found.1 ∙ c.index-target.ensures.value

pub along-smaller : goal.along-smaller
along-smaller g c =
    IsRest-shorter _ _ _ _ _ _ c.along.invariant (goes g (goal.at.along-smaller g c).After-next-next)
    (omega (arith, length-map c.args.edges.now (raw_next c.args.dir), c.requires.few))

pub along-preserved : goal.along-preserved
along-preserved g c =
    IsRest-step _ _ _ _ _ _ c.along.invariant (goes g (goal.at.along-preserved g c).After-next-next)
    (λ q. c.if-index-target.false (c.index.ensures.value ∙ q))
