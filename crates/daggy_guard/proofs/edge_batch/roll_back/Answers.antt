use Rattle.std.proofs.Common.{◌≡◌, suc, ◌-◌, refl, sym, arith}
use Rattle.std.proofs.lemmas.List.{length-map}
use Rattle.daggy_guard.proofs.EdgesRolledBack.{rolling_starts, left_within, by_test, has_edge, made_where_compact}
use Rattle.daggy_guard.proofs.EdgesRolledBack.{made_at_end, rolls_on, numbered_at}
use Rattle.daggy_guard.proofs.edge_batch.roll_back.Goals as goal

pub steps-init : goal.steps-init
steps-init g c =
    let many = length-map c.args.edges.now g.Ix.IndexType.number in
    λ before xs s. rolling_starts s (sym many) c.requires.empty (omega (arith, many, c.requires.capacity)) refl

pub offset_bounds-edges-left : goal.offset_bounds-edges-left
offset_bounds-edges-left g c =
    let r = c.requires.batch in
    omega (
      arith,
      left_within (c.steps.invariant r.0 r.1 r.2),
      c.steps-test.true,
      length-map c.args.edges.now g.Ix.IndexType.number,
    )

pub bounds-edges-left : goal.bounds-edges-left
bounds-edges-left g c =
    let r = c.requires.batch in
    omega (
      arith,
      left_within (c.steps.invariant r.0 r.1 r.2),
      c.steps-test.true,
      length-map c.args.edges.now g.Ix.IndexType.number,
    )

pub take_back_edge-weight-requires-clause-exists : goal.take_back_edge-weight-requires-clause-exists
take_back_edge-weight-requires-clause-exists g c =
    let r = c.requires.batch in
    let one : c.steps.left ≡ suc (c.steps.left - 1) = omega (arith, c.steps-test.true) in
    has_edge (c.steps.invariant r.0 r.1 r.2) record {
      one = one;
      is =
          numbered_at g.Ix.IndexType.number c.args.edges.now (c.steps.left - 1) c.index-edges-left.result
          c.index-edges-left.is;
    }

pub take_back_edge-weight-requires-clause-compact : goal.take_back_edge-weight-requires-clause-compact
take_back_edge-weight-requires-clause-compact g c =
    let r = c.requires.batch in
    let one : c.steps.left ≡ suc (c.steps.left - 1) = omega (arith, c.steps-test.true) in
    made_where_compact (c.steps.invariant r.0 r.1 r.2) record {
      one = one;
      is =
          numbered_at g.Ix.IndexType.number c.args.edges.now (c.steps.left - 1) c.index-edges-left.result
          c.index-edges-left.is;
    } (by_test _ _ _ c.index.ensures.value)

pub take_back_edge-weight-requires-clause-last : goal.take_back_edge-weight-requires-clause-last
take_back_edge-weight-requires-clause-last g c =
    let r = c.requires.batch in
    let one : c.steps.left ≡ suc (c.steps.left - 1) = omega (arith, c.steps-test.true) in
    made_at_end (c.steps.invariant r.0 r.1 r.2) record {
      one = one;
      is =
          numbered_at g.Ix.IndexType.number c.args.edges.now (c.steps.left - 1) c.index-edges-left.result
          c.index-edges-left.is;
    } (by_test _ _ _ c.index.ensures.value)

pub steps-preserved : goal.steps-preserved
steps-preserved g c =
    let one : c.steps.left ≡ suc (c.steps.left - 1) = omega (arith, c.steps-test.true) in
    λ before xs s. rolls_on (c.steps.invariant before xs s) record {
      one = one;
      is =
          numbered_at g.Ix.IndexType.number c.args.edges.now (c.steps.left - 1) c.index-edges-left.result
          c.index-edges-left.is;
    } (by_test _ _ _ c.index.ensures.value) record {
      weight = _;
      gives = sym c.take_back_edge-weight.ensures.gives;
      is_back = c.take_back_edge-weight.ensures.removed;
      left = refl;
      weights = c.push_reserved.ensures.items;
      weights_held = c.push_reserved.ensures.len;
      capacity = c.push_reserved.ensures.capacity;
      looks = c.take_back_edge-weight.ensures.counted;
    }
