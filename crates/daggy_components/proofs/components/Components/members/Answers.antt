use Rattle.std.proofs.Common.{map, sym, ap, ◌∙◌, arith}
use Rattle.std.proofs.lemmas.List.{length-map}
use Rattle.daggy_components.proofs.Cuts.{Begins, begins_first, begins_later, whole, none_past, cut_length, map_range}
use Rattle.daggy_components.proofs.components.Components.members.Goals.{then-k-eq0, else-k-eq0}
use Rattle.daggy_components.proofs.components.Components.members.Goals.{Joined-k-eq0, After-index-2}
use Rattle.daggy_components.proofs.components.Components.members.Given.{Over}
use Rattle.daggy_components.proofs.components.Components.members.Goals as goal

-- where the component begins
begins : (g : Over) (c : Joined-k-eq0 g) → Begins c.self.inside.ends.items c.args.k c.if-k-eq0.begin
begins g c =
    elim c.if-k-eq0.branch [
      | then-k-eq0 w ↦ rw w.begin-is (begins_first c.self.inside.ends.items c.args.k w.if-k-eq0.true)
      | else-k-eq0 w ↦
          rw w.begin-is (begins_later c.self.inside.ends.items c.args.k w.index.result.now w.if-k-eq0.false w.index.ensures
          (omega (arith, c.len.ensures, c.if-k-len.false)))
    ]

pub returns-then-k-len : goal.returns-then-k-len
returns-then-k-len g c =
    let count = cut_length 0 c.self.inside.ends.items (map g.Ix.IndexType.number c.self.inside.nodes.items) in
    sym (rw (← c.self.view_is) (none_past _ c.args.k (omega (arith, count, c.len.ensures, c.if-k-len.true))))

pub between-requires-clause-order : goal.between-requires-clause-order
between-requires-clause-order g c =
    let at = goal.at.between-requires-clause-order g c in
    let p = whole c.self.invariant (omega (arith, c.len.ensures, c.if-k-len.false)) (begins g at.Joined-k-eq0) c.index-2.ensures in
    p.0

pub between-requires-clause-within : goal.between-requires-clause-within
between-requires-clause-within g c =
    let at = goal.at.between-requires-clause-within g c in
    let p = whole c.self.invariant (omega (arith, c.len.ensures, c.if-k-len.false)) (begins g at.Joined-k-eq0) c.index-2.ensures in
    omega (arith, p.1, length-map c.self.inside.nodes.items g.Ix.IndexType.number)

pub returns : goal.returns
returns g c =
    let at = goal.at.returns g c in
    let number = g.Ix.IndexType.number in
    let p = whole c.self.invariant (omega (arith, c.len.ensures, c.if-k-len.false)) (begins g at.Joined-k-eq0) c.index-2.ensures in
    rw (← c.self.view_is) (ap (λ z. map number z) c.between.ensures
    ∙ (map_range number c.self.inside.nodes.items c.if-k-eq0.begin c.index-2.result.now ∙ p.2))
