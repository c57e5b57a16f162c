use Rattle.std.proofs.Common.{◌≡◌, ◌++◌, ◌∷◌, [], map, take, length, sym, ap, ◌∙◌, arith}
use Rattle.std.proofs.Math.Seq.{take-length}
use Rattle.std.proofs.lemmas.List.{map-append}
use Rattle.daggy_operators.proofs.Marks.{numbers_more}
use Rattle.daggy_operators.proofs.SortedChildren.{edges_seen}
use Rattle.daggy_operators.proofs.sorted_children.edges_of_keyed.Goals as goal

pub edges-init : goal.edges-init
edges-init g c = ap (map g.Ix.IndexType.number) c.in_ok-edges.ensures.items

pub edges-preserved : goal.edges-preserved
edges-preserved g c =
    let number = g.Ix.IndexType.number in
    let done = map number c.edges.edges.items in
    ap (map number) c.in_ok-push.ensures.items
    ∙ (map-append number c.edges.edges.items _
    ∙ (ap (λ z. done ++ number z.1.1 ∷ []) (sym c.index-keyed-i.is)
    ∙ (ap (λ z. z ++ number c.index-keyed-i.result.1.1 ∷ []) c.edges.invariant
    ∙ sym (numbers_more (λ p. number p.1.1) c.args.keyed.now c.edges.i c.index-keyed-i.result c.edges-test.true
    c.index-keyed-i.is))))

pub returns : goal.returns
returns g c =
    let number = g.Ix.IndexType.number in
    let over : c.edges.i ≡ length c.args.keyed.now = omega (arith, c.edges-test.false, c.edges.auto.i-end) in
    c.edges.invariant
    ∙ (ap (λ k. map (λ p. number p.1.1) (take k c.args.keyed.now)) over
    ∙ (ap (map (λ p. number p.1.1)) (take-length c.args.keyed.now) ∙ edges_seen number c.args.keyed.now))
