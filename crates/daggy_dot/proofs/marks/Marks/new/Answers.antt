use Rattle.std.proofs.Common.{◌≡◌, ◌∙◌, ◌∷◌, [], ◌==◌, ◌&&◌, ◌||◌, ap, sym, rules}
use Rattle.std.proofs.lemmas.List.{nil_from_length}
use Rattle.daggy_dot.specs.Picture.{is_marked, is_on, is_step, goes, begins_with}
use Rattle.daggy_dot.proofs.Marking.{or_moved, or_none}
use Rattle.daggy_dot.proofs.marks.Marks.new.Goals as goal

pub loop-n-preserved : goal.loop-n-preserved
loop-n-preserved g c =
    let number = g.Ix.IndexType.number in
    let n = c.in-Some.n.now in
    let after = c.in-Some.after.now in
    let s = c.loop-n.invariant in
    let old = c.loop-n.marks in
    let rest : c.loop-n.rest.now ≡ n ∷ after = search rules in
    record {
      nodes = λ q.
          ap (λ b. b || is_on number after q) (c.in_ok-add.ensures.nodes q)
          ∙ or_moved (number n == q) (is_marked old q) (is_on number after q)
          ∙ ap (λ xs. is_marked old q || is_on number xs q) (sym rest)
          ∙ s.nodes q;
      steps = λ a b.
          ap (λ x. x || goes number after a b) (c.in_ok-add.ensures.steps a b)
          ∙ or_moved (number n == a && begins_with number after b) (is_step old a b) (goes number after a b)
          ∙ ap (λ xs. is_step old a b || goes number xs a b) (sym rest)
          ∙ s.steps a b;
    }

pub returns : goal.returns
returns g c =
    let number = g.Ix.IndexType.number in
    let s = c.loop-n.invariant in
    let marks = c.loop-n.marks in
    let rest : c.loop-n.rest.now ≡ [] = nil_from_length _ c.in_default.ensures.cases in
    record {
      nodes = λ q.
          sym (or_none (is_marked marks q)) ∙ ap (λ xs. is_marked marks q || is_on number xs q) (sym rest) ∙ s.nodes q;
      steps = λ a b.
          sym (or_none (is_step marks a b)) ∙ ap (λ xs. is_step marks a b || goes number xs a b) (sym rest) ∙ s.steps a b;
    }
