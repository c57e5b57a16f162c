use Rattle.std.proofs.Common.{◌≡◌, ℕ, List, map, set, take, true, length, vec_len, sym, ap, subst, ◌∙◌, arith}
use Rattle.std.proofs.lemmas.List.{take_all}
use Rattle.daggy_operators.proofs.Marks.{AreMarked, one_marked, numbers_more}
use Rattle.daggy_operators.proofs.parts.marks_of.Goals.{then-i-slots, else-i-slots}
use Rattle.daggy_operators.proofs.parts.marks_of.Goals as goal

pub nodes-preserved : goal.nodes-preserved
nodes-preserved g c =
    let number = g.Ix.IndexType.number in
    let s = c.nodes.invariant in
    let x = c.index-nodes-k.result in
    let given = map number (take c.nodes.k c.args.nodes.now) in
    let marks = c.nodes.marks.items in
    let long : length marks ≡ c.args.slots = omega (arith, s.sized, c.nodes.marks.ok.0) in
    let more = numbers_more number c.args.nodes.now c.nodes.k x c.nodes-test.true c.index-nodes-k.is in
    elim c.if-i-slots.branch [
      | then-i-slots w ↦
          record {
            sized = ap vec_len w.marks-is ∙ s.sized;
            marked =
                (let P : List ℕ → Type 0 = λ z. AreMarked c.args.slots z c.if-i-slots.marks.items in
                subst P (sym more)
                (one_marked c.args.slots (number x) given marks c.if-i-slots.marks.items long s.marked
                (λ _. ap (λ z. z.items) w.marks-is ∙ ap (λ z. set marks z true) c.index-i.ensures.value)
                (λ no. absurd (no (omega (arith, w.if-i-slots, c.index-i.ensures.value))))));
          }
      | else-i-slots w ↦
          record {
            sized = ap vec_len w.marks-is ∙ s.sized;
            marked =
                (let P : List ℕ → Type 0 = λ z. AreMarked c.args.slots z c.if-i-slots.marks.items in
                subst P (sym more)
                (one_marked c.args.slots (number x) given marks c.if-i-slots.marks.items long s.marked
                (λ low. absurd (omega (arith, w.if-i-slots, low, c.index-i.ensures.value)))
                (λ _. ap (λ z. z.items) w.marks-is)));
          }
    ]

pub returns-clause-marked : goal.returns-clause-marked
returns-clause-marked g c =
    let P : List _ → Type 0 = λ z. AreMarked c.args.slots (map g.Ix.IndexType.number z) c.nodes.marks.items in
    subst P (take_all c.nodes.k c.args.nodes.now (omega (arith, c.nodes-test.false))) c.nodes.invariant.marked
