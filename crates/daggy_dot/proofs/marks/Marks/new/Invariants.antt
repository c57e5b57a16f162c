use Rattle.std.proofs.Common.{◌≡◌, ◌||◌, ℕ, length}
use Rattle.daggy_dot.specs.Picture.{is_marked, is_on, is_step, goes}
use Rattle.daggy_dot.proofs.marks.Marks.new.Given as goal

abbrev pub invariant-loop-n : goal.invariant-loop-n
invariant-loop-n g l =
    let number = g.Ix.IndexType.number in
    record {
      nodes : (q : ℕ) → (is_marked l.marks q || is_on number l.rest q) ≡ is_on number l.fn.path q;
      steps : (a b : ℕ) → (is_step l.marks a b || goes number l.rest a b) ≡ goes number l.fn.path a b;
    }

abbrev pub decreases-loop-n : goal.decreases-loop-n
decreases-loop-n g l = length l.rest
