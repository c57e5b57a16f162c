use Rattle.std.proofs.Common.{◌≡◌, suc, ◌-◌, refl, sym, ap, ◌∙◌, arith}
use Rattle.std.proofs.lemmas.List.{length-map}
use Rattle.daggy_guard.proofs.EdgesRolledBack.{left_within, by_test, made_where_compact, made_at_end, numbered_at}
use Rattle.daggy_guard.proofs.ParentsTakenBack.{putting_starts, puts_on, there_is}
use Rattle.daggy_guard.proofs.parents.take_back_parents.Given.{Over}
use Rattle.daggy_guard.proofs.parents.take_back_parents.Goals as goal

-- an index is determined by its number
one_index : (g : Over) (i j : g.row.Ix.Denot) → g.Ix.IndexType.number i ≡ g.Ix.IndexType.number j → i ≡ j
one_index g i j h = sym (g.Ix.IndexType.of_number i) ∙ ap g.Ix.IndexType.of h ∙ g.Ix.IndexType.of_number j

pub steps-init : goal.steps-init
steps-init g c =
    let many = length-map c.args.edges.now g.Ix.IndexType.number in
    λ before n given s. putting_starts s (sym many) (omega (arith, many, c.requires.capacity))

pub offset_bounds-edges-left : goal.offset_bounds-edges-left
offset_bounds-edges-left g c =
    let r = c.requires.batch in
    omega (
      arith,
      left_within (c.steps.invariant r.0 r.1 r.2 r.3).rolling,
      c.steps-test.true,
      length-map c.args.edges.now g.Ix.IndexType.number,
    )

pub bounds-edges-left : goal.bounds-edges-left
bounds-edges-left g c =
    let r = c.requires.batch in
    omega (
      arith,
      left_within (c.steps.invariant r.0 r.1 r.2 r.3).rolling,
      c.steps-test.true,
      length-map c.args.edges.now g.Ix.IndexType.number,
    )

pub returns-in_default-clause-undone : goal.returns-in_default-clause-undone
returns-in_default-clause-undone g c =
    let one : c.steps.left ≡ suc (c.steps.left - 1) = omega (arith, c.steps-test.true) in
    λ before n given s. absurd (there_is (one_index g) (c.steps.invariant before n given s) record {
      one = one;
      is = numbered_at g.Ix.IndexType.number c.args.edges.now (c.steps.left - 1) c.index-edges-left.result
          c.index-edges-left.is;
    } c.in_default.ensures)

pub returns-in_default-clause-returned : goal.returns-in_default-clause-returned
returns-in_default-clause-returned g c =
    let one : c.steps.left ≡ suc (c.steps.left - 1) = omega (arith, c.steps-test.true) in
    λ before n given s. absurd (there_is (one_index g) (c.steps.invariant before n given s) record {
      one = one;
      is = numbered_at g.Ix.IndexType.number c.args.edges.now (c.steps.left - 1) c.index-edges-left.result
          c.index-edges-left.is;
    } c.in_default.ensures)

pub take_back_edge-weight-requires-clause-compact : goal.take_back_edge-weight-requires-clause-compact
take_back_edge-weight-requires-clause-compact g c =
    let r = c.requires.batch in
    let one : c.steps.left ≡ suc (c.steps.left - 1) = omega (arith, c.steps-test.true) in
    made_where_compact (c.steps.invariant r.0 r.1 r.2 r.3).rolling record {
      one = one;
      is = numbered_at g.Ix.IndexType.number c.args.edges.now (c.steps.left - 1) c.index-edges-left.result
          c.index-edges-left.is;
    } (by_test _ _ _ c.index.ensures.value)

pub take_back_edge-weight-requires-clause-last : goal.take_back_edge-weight-requires-clause-last
take_back_edge-weight-requires-clause-last g c =
    let r = c.requires.batch in
    let one : c.steps.left ≡ suc (c.steps.left - 1) = omega (arith, c.steps-test.true) in
    made_at_end (c.steps.invariant r.0 r.1 r.2 r.3).rolling record {
      one = one;
      is = numbered_at g.Ix.IndexType.number c.args.edges.now (c.steps.left - 1) c.index-edges-left.result
          c.index-edges-left.is;
    } (by_test _ _ _ c.index.ensures.value)

pub steps-preserved : goal.steps-preserved
steps-preserved g c =
    let one : c.steps.left ≡ suc (c.steps.left - 1) = omega (arith, c.steps-test.true) in
    λ before n given s. puts_on (one_index g) (c.steps.invariant before n given s) record {
      one = one;
      is = numbered_at g.Ix.IndexType.number c.args.edges.now (c.steps.left - 1) c.index-edges-left.result
          c.index-edges-left.is;
    } (by_test _ _ _ c.index.ensures.value) record {
      ends = c.in-Some.ensures;
      gives = sym c.take_back_edge-weight.ensures.gives;
      is_back = c.take_back_edge-weight.ensures.removed;
      left = refl;
      weights = refl;
      weights_held = c.push_reserved.ensures.len;
      capacity = c.push_reserved.ensures.capacity;
      looks = c.take_back_edge-weight.ensures.counted;
      put = c.push_reserved.ensures.items;
    }
