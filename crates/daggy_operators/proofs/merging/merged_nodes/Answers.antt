use Rattle.std.proofs.Common.{◌≡◌, ◌≤◌, ◌∙◌, ◌+◌, ℕ, List, Option, sym, ap, subst, arith, max}
use Rattle.daggy_base.specs.Graph.{node_weight}
use Rattle.daggy_operators.specs.Merging.{either}
use Rattle.daggy_operators.proofs.Merged.{neither}
use Rattle.daggy_operators.proofs.PartSlots.{ShowsBelow, shows_one_more, shows_all}
use Rattle.daggy_operators.proofs.merging.merged_nodes.Goals as goal

pub nodes-preserved : goal.nodes-preserved
nodes-preserved g c =
    let a = g.S.EdgeSource.graph c.args.first.now in
    let b = g.T.EdgeSource.graph c.args.second.now in
    let wanted : ℕ → Option g.row.N.Denot = λ n. either (node_weight a n) (node_weight b n) in
    let s = c.nodes.invariant in
    let here = c.node_of_either.ensures ∙ ap wanted c.new.ensures.number in
    record {
      sized = c.in_ok-push.ensures.len ∙ ap (λ z. z + 1) s.sized;
      shown =
          (let P : List (Option _) → Type 0 = λ z. ShowsBelow (λ b. b.now) wanted (c.nodes.i + 1) z in
          subst P (sym c.in_ok-push.ensures.items)
          (shows_one_more (λ b. b.now) wanted c.nodes.i c.nodes.slots.items c.node_of_either.result
          (omega (arith, s.sized, c.nodes.slots.ok.0)) s.shown here));
    }

pub returns-clause-same : goal.returns-clause-same
returns-clause-same g c =
    let a = g.S.EdgeSource.graph c.args.first.now in
    let b = g.T.EdgeSource.graph c.args.second.now in
    let wanted : ℕ → Option g.row.N.Denot = λ n. either (node_weight a n) (node_weight b n) in
    let s = c.nodes.invariant in
    shows_all (λ b. b.now) wanted c.nodes.i c.nodes.slots.items (omega (arith, s.sized, c.nodes.slots.ok.0)) s.shown
    (λ n past. neither a b n
    (omega (arith, past, c.nodes-test.false, c.max-bound.ensures, c.node_slots.ensures, c.node_slots-2.ensures))
    (omega (arith, past, c.nodes-test.false, c.max-bound.ensures, c.node_slots.ensures, c.node_slots-2.ensures)))
