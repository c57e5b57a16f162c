-- How many looks the blocks take.
use Rattle.std.proofs.Common.{◌≡◌, ℕ, ◌+◌, ◌-◌, ◌*◌, ◌/◌, ◌<◌, ◌≤◌, inl, inr, List, ap, ◌∙◌, arith}
use Rattle.std.proofs.Math.Nat.{add-mul, mul_assoc, mul_comm, mul-le-mul_right}
use Rattle.std.proofs.lemmas.Bool.{cases_lt}
use Rattle.daggy_search.specs.declared.arcs.Segment.{Segment}
use Rattle.daggy_reduction.specs.Blocks.{blocks_of, segment_length, arcs_in}
use Rattle.daggy_reduction.proofs.CountedArcs.{sum_up}
use Rattle.daggy_reduction.proofs.LaidOut.{arcs_between}

pub blocks_up : (low high : ℕ) → low ≤ high → blocks_of low ≤ blocks_of high
blocks_up low high up = omega (arith, up)

blocks_more : (low high : ℕ) → low ≡ 512 * blocks_of low → low < high → blocks_of low + 1 ≤ blocks_of high
blocks_more low high full up = omega (arith, full, up)

pub blocks_full : (low high : ℕ) → low ≡ 512 * blocks_of low → high ≡ low + 512 → high ≡ 512 * blocks_of high
blocks_full low high full is = omega (arith, full, is)

-- one block more
pub block_paid : (edges base low high looks looks' : ℕ) → low ≡ 512 * blocks_of low → low < high
    → looks ≤ base + 2 * (blocks_of low * edges) → looks' ≤ looks + 2 * edges
    → looks' ≤ base + 2 * (blocks_of high * edges)
block_paid edges base low high looks looks' full up paid more =
    let step : (blocks_of low + 1) * edges ≤ blocks_of high * edges =
    mul-le-mul_right edges (blocks_more low high full up) in
    omega (arith, paid, more, step, add-mul (blocks_of low) 1 edges)

-- a block takes no more than two looks at each edge
pub block_most : (segments : List Segment) (high count edges first looks looks' : ℕ) → high ≤ count
    → arcs_in segments count ≤ edges → looks' + 2 * arcs_in segments first ≤ looks + 2 * arcs_in segments high
    → looks' ≤ looks + 2 * edges
block_most segments high count edges first looks looks' within few paid =
    omega (arith, paid, few, sum_up (segment_length segments) high count within)

-- where the block before the one that begins at low begins
abbrev pub block_before : ℕ → ℕ
block_before low = 512 * (blocks_of low - 1)

-- Blocks that go back no farther than the block before: each arc is paid for in its own block and in the next one.
pub record NearPaid (segments : List Segment) (count low first base edges looks : ℕ) : Type 0 where
  pub reached : low < count → block_before low ≤ first
  pub paid : looks + 4 * arcs_in segments count
      ≤ base + 4 * edges + 2 * arcs_in segments low + 2 * arcs_in segments (block_before low)

pub near_start : (segments : List Segment) (count base edges looks : ℕ) → looks ≤ base → arcs_in segments count ≤ edges
    → NearPaid segments count 0 0 base edges looks
near_start segments count base edges looks paid few =
    record { reached = λ more. omega arith; paid = omega (arith, paid, few) }

pub near_on : {old : List Segment} {count low first base edges looks : ℕ}
    → NearPaid old count low first base edges looks → low < count → low ≡ 512 * blocks_of low → (high first' : ℕ)
    → low < high → high ≤ count → high ≤ low + 512 → (high < count → high ≡ low + 512) → high ≤ first' + 512
    → (new : List Segment) → ((k : ℕ) → segment_length new k ≤ segment_length old k) → (looks' : ℕ)
    → looks' + 2 * arcs_in old first ≤ looks + 2 * arcs_in old high
    → NearPaid new count high first' base edges looks'
near_on {old} {count} {low} {first} n more full high first' up within few whole near new less looks' paid' =
    let before : block_before high ≡ low = omega (arith, full, up, few) in
    record {
      reached = λ on. omega (arith, before, whole on, near);
      paid =
          omega (
            arith,
            n.paid,
            paid',
            sum_up (segment_length old) (block_before low) first (n.reached more),
            arcs_between old new less high count within,
            arcs_between old new less low count (omega (arith, more)),
            ap (arcs_in new) before,
          );
    }

pub near_done : {segments : List Segment} {count low first base edges looks : ℕ}
    → NearPaid segments count low first base edges looks → low ≡ count → looks ≤ base + 4 * edges
near_done {segments} {count} {low} n done =
    let before : block_before low ≤ count = omega (arith, done) in
    omega (
      arith,
      n.paid,
      ap (arcs_in segments) done,
      sum_up (segment_length segments) (block_before low) count before,
    )

pub near_paid : (edges passes old looks : ℕ) → looks ≤ old + (passes + 1) * edges + 4 * edges
    → looks ≤ old + (passes + 5) * edges
near_paid edges passes old looks paid = omega (arith, paid, add-mul passes 1 edges, add-mul passes 5 edges)

-- all blocks, after the passes that found and listed what is in them
pub blocks_paid : (edges old looks passes count nodes : ℕ) → count ≤ nodes
    → looks ≤ old + (passes + 1) * edges + 2 * (blocks_of count * edges)
    → looks ≤ old + (2 * blocks_of nodes + (passes + 1)) * edges
blocks_paid edges old looks passes count nodes few paid =
    let step : blocks_of count * edges ≤ blocks_of nodes * edges = mul-le-mul_right edges (blocks_up count nodes few) in
    omega (
      arith,
      paid,
      step,
      add-mul (2 * blocks_of nodes) (passes + 1) edges,
      mul_assoc 2 (blocks_of nodes) edges,
    )

-- with four nodes or more, a pass before them is paid too
pub blocks_few : (edges old mid looks nodes : ℕ) → 4 ≤ nodes → mid ≤ old + edges
    → looks ≤ mid + (2 * blocks_of nodes + 3) * edges → looks ≤ old + (nodes + 2) * edges
blocks_few edges old mid looks nodes many before paid =
    let fits : 2 * blocks_of nodes + 3 + 1 ≤ nodes + 2 = omega (arith, many) in
    let step : (2 * blocks_of nodes + 3 + 1) * edges ≤ (nodes + 2) * edges = mul-le-mul_right edges fits in
    omega (arith, before, paid, step, add-mul (2 * blocks_of nodes + 3) 1 edges)

pub blocks_spanned : (edges old mid looks nodes all : ℕ) → mid ≤ old + edges
    → looks ≤ mid + (2 * blocks_of nodes + 3) * edges → 2 * blocks_of nodes * edges ≤ all
    → looks ≤ old + 4 * edges + all
blocks_spanned edges old mid looks nodes all before paid fewer =
    omega (arith, before, paid, fewer, add-mul (2 * blocks_of nodes) 3 edges)

-- what blocks were expected to take, and the searches to take more
pub blocks_told : (edges nodes looks all : ℕ) → looks ≡ (nodes / 512 + 1) * (edges * 2) → looks ≤ all
    → 2 * blocks_of nodes * edges ≤ all
blocks_told edges nodes looks all is less =
    let few : blocks_of nodes ≤ nodes / 512 + 1 = omega arith in
    let step : blocks_of nodes * (edges * 2) ≤ (nodes / 512 + 1) * (edges * 2) = mul-le-mul_right (edges * 2) few in
    let same : 2 * blocks_of nodes * edges ≡ blocks_of nodes * (edges * 2) =
    ap (λ z. z * edges) (mul_comm 2 (blocks_of nodes)) ∙ mul_assoc (blocks_of nodes) 2 edges
    ∙ ap (λ z. blocks_of nodes * z) (mul_comm 2 edges) in
    omega (arith, is, less, step, same)

-- searches after a pass that told how much they span
pub searches_few : (edges old mid looks nodes all : ℕ) → (nodes < 4 → mid ≡ old) → mid ≤ old + edges
    → looks ≤ mid + (nodes + 2) * edges → looks ≤ mid + 2 * edges + all → (1 ≤ nodes → all + edges ≤ nodes * edges)
    → looks ≤ old + (nodes + 2) * edges
searches_few edges old mid looks nodes all none before paid spans short =
    elim (cases_lt nodes 4) [
      | inl few ↦ omega (arith, none few, paid)
      | inr many ↦ omega (arith, before, spans, short (omega (arith, many)), add-mul nodes 2 edges)
    ]
