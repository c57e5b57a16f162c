use Rattle.std.proofs.Common.{◌∙◌, ◌+◌, ℕ, List, Option, sym, ap, subst, arith}
use Rattle.std.specs.Option.{option_map}
use Rattle.daggy_base.specs.Graph.{edge_at, ends_of}
use Rattle.daggy_operators.specs.Parts.{ends_by, kept_ends}
use Rattle.daggy_operators.proofs.PartSlots.{ShowsBelow, shows_one_more, shows_all, no_edge_past, ends_shown}
use Rattle.daggy_operators.proofs.parts.edge_slots.Goals as goal

pub edges-preserved : goal.edges-preserved
edges-preserved g c =
    let graph = g.S.EdgeSource.graph c.args.store.now in
    let wanted : ℕ → Option (ℕ × ℕ) = λ e. kept_ends c.args.dir c.args.marks.now.items (option_map ends_of (edge_at graph e)) in
    let s = c.edges.invariant in
    let here = c.edge_slot.ensures ∙ ap wanted c.new.ensures.number in
    record {
      sized = c.in_ok-push.ensures.len ∙ ap (λ z. z + 1) s.sized;
      shown =
          (let P : List (Option _) → Type 0 = λ z. ShowsBelow (ends_by g.Jx.IndexType.number) wanted (c.edges.i + 1) z in
          subst P (sym c.in_ok-push.ensures.items)
          (shows_one_more (ends_by g.Jx.IndexType.number) wanted c.edges.i c.edges.slots.items c.edge_slot.result
          (omega (arith, s.sized, c.edges.slots.ok.0)) s.shown here));
    }

pub returns-clause-kept : goal.returns-clause-kept
returns-clause-kept g c =
    let graph = g.S.EdgeSource.graph c.args.store.now in
    let wanted : ℕ → Option (ℕ × ℕ) = λ e. kept_ends c.args.dir c.args.marks.now.items (option_map ends_of (edge_at graph e)) in
    let s = c.edges.invariant in
    let slots = c.edges.slots.items in
    λ e. ends_shown g.Jx.IndexType.number slots e
    ∙ shows_all (ends_by g.Jx.IndexType.number) wanted c.edges.i slots (omega (arith, s.sized, c.edges.slots.ok.0)) s.shown
    (λ i past. no_edge_past c.args.dir c.args.marks.now.items graph i
    (omega (arith, past, c.edges-test.false, c.edge_slots-bound.ensures))) e
