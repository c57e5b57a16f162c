use Rattle.std.proofs.Common.{◌≡◌, ◌<◌, ◌∙◌, ◌+◌, ℕ, Bool, List, Some, None, true, false, set, vec_len, length, sym, ap, subst, arith}
use Rattle.std.proofs.lemmas.Bool.{false≢true}
use Rattle.std.proofs.lemmas.List.{length-replicate}
use Rattle.daggy_base.specs.Graph.{Edge, edge_at}
use Rattle.daggy_base.proofs.EdgeEnds.{edge_here, no_edge_here}
use Rattle.daggy_operators.specs.Parts.{mark_of}
use Rattle.daggy_operators.proofs.Wholes.{exists_low}
use Rattle.daggy_operators.proofs.CommonAncestors.{AreAbove, above_none, above_past, above_set, above_all}
use Rattle.daggy_operators.proofs.common.marks_above.Given.{Over}
use Rattle.daggy_operators.proofs.common.marks_above.Goals.{In-Some, then-has_both, else-has_both}
use Rattle.daggy_operators.proofs.common.marks_above.Goals as goal

-- the edge whose ends were found
found : (g : Over) (c : In-Some g)
    → (x : Edge g.row.S-EdgeWeight.Denot) × (edge_at (g.S.EdgeSource.graph c.args.store.now) c.edges.i ≡ Some x)
    × (g.Ix.IndexType.number c.in-Some.ends.0 ≡ x.parent) × (g.Ix.IndexType.number c.in-Some.ends.1 ≡ x.child)
found g c =
    edge_here (g.S.EdgeSource.graph c.args.store.now) _ c.edges.i _ c.new.ensures.number c.in-Some.ensures

child_low : (g : Over) (c : In-Some g)
    → g.Ix.IndexType.number c.in-Some.ends.1 < length (g.S.EdgeSource.graph c.args.store.now).nodes
child_low g c =
    let x = found g c in
    let low = exists_low (g.S.EdgeSource.graph c.args.store.now) x.0.child (c.invariant.ensures.well_formed.children _ x.0 x.1) in
    omega (arith, low, x.3)

parent_low : (g : Over) (c : In-Some g)
    → g.Ix.IndexType.number c.in-Some.ends.0 < length (g.S.EdgeSource.graph c.args.store.now).nodes
parent_low g c =
    let x = found g c in
    let low = exists_low (g.S.EdgeSource.graph c.args.store.now) x.0.parent (c.invariant.ensures.well_formed.parents _ x.0 x.1) in
    omega (arith, low, x.2)

pub edges-init : goal.edges-init
edges-init g c =
    record {
      sized = omega (arith, c.len.ensures, c.in_ok-marks.marks.ok.0, ap (λ z. length z) c.in_ok-marks.ensures, length-replicate c.len.result false);
      above = above_none (g.S.EdgeSource.graph c.args.store.now) _ c.len.result c.in_ok-marks.marks.items c.in_ok-marks.ensures;
    }

pub edges-preserved-in_default : goal.edges-preserved-in_default
edges-preserved-in_default g c =
    let graph = g.S.EdgeSource.graph c.args.store.now in
    let none = no_edge_here graph _ c.edges.i c.new.ensures.number c.in_default.ensures in
    record {
      sized = c.edges.invariant.sized;
      above = above_past graph _ c.edges.i c.edges.marks.items c.edges.invariant.above (λ x at. absurd (let no : None ≡ Some x = sym none ∙ at in cc));
    }

pub has_both-requires-clause-first : goal.has_both-requires-clause-first
has_both-requires-clause-first g c =
    omega (arith, child_low g (goal.at.has_both-requires-clause-first g c).In-Some, c.requires.first)

pub has_both-requires-clause-second : goal.has_both-requires-clause-second
has_both-requires-clause-second g c =
    omega (arith, child_low g (goal.at.has_both-requires-clause-second g c).In-Some, c.requires.second)

pub index_mut-requires : goal.index_mut-requires
index_mut-requires g c =
    omega (
      arith,
      parent_low g (goal.at.index_mut-requires g c).In-Some,
      c.index.ensures.value,
      c.edges.invariant.sized,
      c.requires.first,
    )

pub edges-preserved : goal.edges-preserved
edges-preserved g c =
    let graph = g.S.EdgeSource.graph c.args.store.now in
    let at = (goal.at.edges-preserved g c).In-Some in
    let x = found g at in
    let Chosen : ℕ → Type 0 = λ v.
    (mark_of c.args.first.now.items v ≡ true) × (mark_of c.args.second.now.items v ≡ true) in
    let marks = c.edges.marks.items in
    let low = parent_low g at in
    elim c.if-has_both.branch [
      | then-has_both w ↦
          record {
            sized = ap vec_len w.marks-is ∙ c.edges.invariant.sized;
            above =
                (let P : List Bool → Type 0 = AreAbove graph Chosen (c.edges.i + 1) in
                let is : c.if-has_both.marks.items ≡ set marks x.0.parent true =
                ap (λ z. z.items) w.marks-is ∙ ap (λ z. set marks z true) (w.index.ensures.value ∙ x.2) in
                subst P (sym is) (above_set graph Chosen c.edges.i marks c.edges.invariant.above x.0 x.1
                (subst Chosen x.3 (c.has_both.ensures.0 w.if-has_both.true))
                (omega (arith, low, x.2, c.edges.invariant.sized, c.requires.first, c.edges.marks.ok.0))));
          }
      | else-has_both w ↦
          record {
            sized = ap vec_len w.marks-is ∙ c.edges.invariant.sized;
            above =
                (let P : List Bool → Type 0 = AreAbove graph Chosen (c.edges.i + 1) in
                subst P (sym (ap (λ z. z.items) w.marks-is)) (above_past graph Chosen c.edges.i marks c.edges.invariant.above
                (λ y there chosen.
                let both : Some y ≡ Some x.0 = sym there ∙ x.1 in
                let one : y ≡ x.0 = cc in
                let here : Chosen (g.Ix.IndexType.number at.in-Some.ends.1) =
                subst Chosen (ap (λ (z : Edge _). z.child) one ∙ sym x.3) chosen in
                absurd (false≢true (sym w.if-has_both.false ∙ c.has_both.ensures.1 here)))));
          }
    ]

pub returns-clause-marked : goal.returns-clause-marked
returns-clause-marked g c =
    above_all (g.S.EdgeSource.graph c.args.store.now) _ c.edges.i c.edges.marks.items c.edges.invariant.above
    (omega (arith, c.edges-test.false, c.edge_slots-i-end.ensures))
