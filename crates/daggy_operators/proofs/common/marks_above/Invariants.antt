use Rattle.std.proofs.Common.{◌≡◌, true, vec_len}
use Rattle.daggy_operators.specs.Parts.{mark_of}
use Rattle.daggy_operators.proofs.CommonAncestors.{AreAbove}
use Rattle.daggy_operators.proofs.common.marks_above.Given as goal

abbrev pub invariant-edges : goal.invariant-edges
invariant-edges g l =
    record {
      sized : vec_len l.marks ≡ vec_len l.first;
      above : AreAbove (g.S.EdgeSource.graph l.store)
          (λ v. (mark_of l.first.items v ≡ true) × (mark_of l.second.items v ≡ true)) l.i l.marks.items;
    }
