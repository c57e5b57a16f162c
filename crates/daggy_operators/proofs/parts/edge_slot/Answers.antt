use Rattle.std.proofs.Common.{◌≡◌, ◌<◌, ℕ, Some, length, sym, ap, ◌∙◌, arith}
use Rattle.std.specs.Option.{option_map}
use Rattle.daggy_base.specs.declared.index.Direction.TheVariants.{Outgoing, Incoming}
use Rattle.daggy_base.specs.Graph.{Edge, edge_at, ends_of}
use Rattle.daggy_operators.specs.Parts.{ends_by, kept_ends, turned}
use Rattle.daggy_operators.proofs.PartPaths.{shown_from, kept_to}
use Rattle.daggy_operators.proofs.PartSlots.{same_pair}
use Rattle.daggy_operators.proofs.Wholes.{exists_low}
use Rattle.daggy_operators.proofs.parts.edge_slot.Given.{Over}
use Rattle.daggy_operators.proofs.parts.edge_slot.Goals.{In_ok-parent, in-Outgoing, in-Incoming}
use Rattle.daggy_operators.proofs.parts.edge_slot.Goals as goal

module _ (g : Over) (c : In_ok-parent g) where
  -- the edge that was found
  found : (x : Edge _) × (edge_at (g.S.EdgeSource.graph c.args.store.now) (g.Ix.IndexType.number c.args.e) ≡ Some x)
      × (ends_of x ≡ (g.Ix.IndexType.number c.in_ok-parent.parent, g.Ix.IndexType.number c.in_ok-parent.child))
  found = shown_from ends_of (edge_at (g.S.EdgeSource.graph c.args.store.now) (g.Ix.IndexType.number c.args.e)) _ (sym c.in_ok-parent.ensures)

  parent_is : found.0.parent ≡ g.Ix.IndexType.number c.in_ok-parent.parent
  parent_is = ap (λ z. z.0) found.2

  child_is : found.0.child ≡ g.Ix.IndexType.number c.in_ok-parent.child
  child_is = ap (λ z. z.1) found.2

  parent_low : g.Ix.IndexType.number c.in_ok-parent.parent < length (g.S.EdgeSource.graph c.args.store.now).nodes
  parent_low =
      let low = exists_low (g.S.EdgeSource.graph c.args.store.now) found.0.parent (c.invariant.ensures.well_formed.parents _ found.0 found.1) in
      omega (arith, low, parent_is)

  child_low : g.Ix.IndexType.number c.in_ok-parent.child < length (g.S.EdgeSource.graph c.args.store.now).nodes
  child_low =
      let low = exists_low (g.S.EdgeSource.graph c.args.store.now) found.0.child (c.invariant.ensures.well_formed.children _ found.0 found.1) in
      omega (arith, low, child_is)

pub is_marked-requires : goal.is_marked-requires
is_marked-requires g c =
    omega (arith, parent_low g (goal.at.is_marked-requires g c).In_ok-parent, c.requires.sized)

pub is_marked-requires-else-not-is_marked : goal.is_marked-requires-else-not-is_marked
is_marked-requires-else-not-is_marked g c =
    omega (arith, child_low g (goal.at.is_marked-requires-else-not-is_marked g c).In_ok-parent, c.requires.sized)

pub new-parent-requires : goal.new-parent-requires
new-parent-requires g c =
    omega (arith, parent_low g (goal.at.new-parent-requires g c).In_ok-parent, c.index.ensures.value, c.requires.few)

pub new-child-requires : goal.new-child-requires
new-child-requires g c =
    omega (arith, child_low g (goal.at.new-child-requires g c).In_ok-parent, c.index-2.ensures.value, c.requires.few)

pub returns : goal.returns
returns g c =
    let w = (goal.at.returns g c).In_ok-parent in
    let number = g.Jx.IndexType.number in
    let ends = option_map ends_of (edge_at (g.S.EdgeSource.graph c.args.store.now) (g.Ix.IndexType.number c.args.e)) in
    let marks = c.args.marks.now.items in
    let at : ℕ × ℕ = (g.Ix.IndexType.number c.in_ok-parent.parent, g.Ix.IndexType.number c.in_ok-parent.child) in
    let p = sym c.is_marked.ensures ∙ c.if-not-is_marked.false in
    let k = sym c.is_marked-else-not-is_marked.ensures ∙ c.if-not-is_marked-2.false in
    let from = c.new-parent.ensures.number ∙ c.index.ensures.value in
    let to = c.new-child.ensures.number ∙ c.index-2.ensures.value in
    elim c.match-dir.branch [
      | in-Outgoing b ↦ ap (λ z. Some (ends_by number z)) b.result-is ∙ ap Some (same_pair _ (turned Outgoing at) from to)
          ∙ sym (kept_to Outgoing marks ends at (sym c.in_ok-parent.ensures) p k)
          ∙ ap (λ d. kept_ends d marks ends) (sym b.in-Outgoing.is)
      | in-Incoming b ↦ ap (λ z. Some (ends_by number z)) b.result-is ∙ ap Some (same_pair _ (turned Incoming at) to from)
          ∙ sym (kept_to Incoming marks ends at (sym c.in_ok-parent.ensures) p k)
          ∙ ap (λ d. kept_ends d marks ends) (sym b.in-Incoming.is)
    ]
