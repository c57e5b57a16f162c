use Rattle.std.proofs.Common.{◌≡◌, ℕ, ◌+◌, vec_len, length, map, subst, arith, rules}
use Rattle.std.proofs.lemmas.Slice.Zip.{AllZip-long}
use Rattle.serde_json.specs.View.{view}
use Rattle.daggy_json.specs.Reading.{Ascend}
use Rattle.daggy_json.proofs.reading.gathering.gather_nodes.Goals as goal

pub place_weights-requires-clause-ascend : goal.place_weights-requires-clause-ascend
place_weights-requires-clause-ascend g c =
    let laid = c.in_ok-check_layout.ensures.ok in
    let long = AllZip-long _ _ _ c.in_ok-weights.ensures.ok in
    let size : vec_len c.in_ok-weights.weights ≡ length c.in_ok-weights.weights.items = search rules in
    let holes : vec_len c.args.parts.now.holes ≡ length c.args.parts.now.holes.items = search rules in
    let same : length (map view c.args.parts.now.nodes.now.items) + length c.args.parts.now.holes.items
    ≡ vec_len c.in_ok-weights.weights + vec_len c.args.parts.now.holes =
    omega (arith, long, size, holes) in
    let P : ℕ → Type 0 = λ k. Ascend 0 k c.args.parts.now.holes.items in
    subst P same laid.1.ascend
