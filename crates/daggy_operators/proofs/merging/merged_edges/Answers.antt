use Rattle.std.proofs.Common.{◌≡◌, ◌≤◌, ◌<◌, ◌∙◌, ◌+◌, ℕ, List, Option, length, sym, ap, subst, arith}
use Rattle.std.specs.Option.{option_map}
use Rattle.daggy_base.specs.Graph.{edge_at, ends_of}
use Rattle.daggy_operators.specs.Parts.{ends_by}
use Rattle.daggy_operators.proofs.Merged.{ShowsFrom, still_shown, one_more_from, all_from, no_edge}
use Rattle.daggy_operators.proofs.PartSlots.{ShowsBelow, ends_shown}
use Rattle.daggy_operators.proofs.merging.merged_edges.Goals as goal

pub second-preserved : goal.second-preserved
second-preserved g c =
    let a = g.S.EdgeSource.graph c.args.first.now in
    let b = g.T.EdgeSource.graph c.args.second.now in
    let base = length a.edges in
    let ends = ends_by g.Ix.IndexType.number in
    let of_a : ℕ → Option (ℕ × ℕ) = λ e. option_map ends_of (edge_at a e) in
    let of_b : ℕ → Option (ℕ × ℕ) = λ e. option_map ends_of (edge_at b e) in
    let s = c.second.invariant in
    let old = c.second.slots.items in
    let long : length old ≡ base + c.second.i = omega (arith, s.sized, c.second.slots.ok.0) in
    let here = c.ends_slot-in-second.ensures ∙ ap of_b c.new-in-second.ensures.number in
    let x = c.ends_slot-in-second.result in
    let items = sym c.in_ok-push-2.ensures.items in
    let P : List (Option _) → Type 0 = λ z. ShowsBelow ends of_a base z in
    let Q : List (Option _) → Type 0 = λ z. ShowsFrom ends of_b base (c.second.i + 1) z in
    record {
      sized = omega (arith, c.in_ok-push-2.ensures.len, s.sized);
      first = subst P items (still_shown ends of_a base old x (omega (arith, long)) s.first);
      second = subst Q items (one_more_from ends of_b base c.second.i old x long s.second here);
    }

pub returns-clause-first : goal.returns-clause-first
returns-clause-first g c e low =
    ends_shown g.Ix.IndexType.number c.second.slots.items e ∙ c.second.invariant.first e low

pub returns-clause-second : goal.returns-clause-second
returns-clause-second g c e =
    let a = g.S.EdgeSource.graph c.args.first.now in
    let b = g.T.EdgeSource.graph c.args.second.now in
    let s = c.second.invariant in
    let long : length c.second.slots.items ≡ length a.edges + c.second.i = omega (arith, s.sized, c.second.slots.ok.0) in
    ends_shown g.Ix.IndexType.number c.second.slots.items (length a.edges + e)
    ∙ all_from (ends_by g.Ix.IndexType.number) (λ e. option_map ends_of (edge_at b e)) (length a.edges) c.second.i
    c.second.slots.items long s.second (λ i past. no_edge b i
    (omega (arith, past, c.second-test.false, c.edge_slots-i-end-2.ensures))) e
