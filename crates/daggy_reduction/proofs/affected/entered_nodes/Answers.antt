use Rattle.std.proofs.Common.{rules, ◌≡◌, false, true, [], ◌∷◌, ◌++◌, map, get_or, sym, ap, subst, ◌∙◌, arith}
use Rattle.std.proofs.lemmas.List.{map-append, get_or_past}
use Rattle.daggy_reduction.proofs.AffectedNodes.{Reading, reading_found, reading_passed}
use Rattle.daggy_reduction.proofs.affected.entered_nodes.Goals.{else-i-len-via-then-i-len+else-is_entered}
use Rattle.daggy_reduction.proofs.affected.entered_nodes.Goals.{else-i-len-via-else-i-len}
use Rattle.daggy_reduction.proofs.affected.entered_nodes.Goals as goal

pub nodes-preserved-then-is_entered : goal.nodes-preserved-then-is_entered
nodes-preserved-then-is_entered g c =
    let number = g.Ix.IndexType.number in
    let entered = c.args.work.now.entered in
    let n = c.in-Some.n in
    let passes : get_or entered (number n) false ≡ true = cc in
    let more : map number c.push.new.self.items ≡ map number c.nodes.found.items ++ number n ∷ [] =
    ap (map number) c.in_ok-push.ensures.items ∙ map-append number c.nodes.found.items (n ∷ []) in
    record {
      can = search rules;
      ends = search rules;
      reading =
          subst (Reading (λ k. get_or entered k false) c.args.order.now c.next.new.self) (sym more)
          (reading_found c.nodes.invariant.reading c.in-Some.ensures.steps passes);
    }

pub nodes-preserved : goal.nodes-preserved
nodes-preserved g c =
    let entered = c.args.work.now.entered in
    let n = g.Ix.IndexType.number c.in-Some.n in
    let fails : get_or entered n false ≡ false =
    elim c.else-i-len.branch [
      | else-i-len-via-then-i-len+else-is_entered w ↦ cc
      | else-i-len-via-else-i-len w ↦
          get_or_past entered n false
          (omega (arith, w.if-i-len.false, c.len.ensures, c.requires.entered_are, c.index-i.ensures.value))
    ] in
    record {
      can = search rules;
      ends = search rules;
      reading = reading_passed c.nodes.invariant.reading c.in-Some.ensures.steps fails;
    }
