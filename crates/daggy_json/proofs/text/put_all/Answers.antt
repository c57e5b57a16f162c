use Rattle.std.proofs.Common.{◌≡◌, ℕ, List, ◌++◌, take, drop, sym, ap, ◌∙◌, append_assoc, take-append-drop}
use Rattle.std.proofs.lemmas.List.{take_rest}
use Rattle.std.proofs.KnownBytes.{Appends-trans, Appends-kept}
use Rattle.daggy_json.proofs.text.put_all.Goals as goal
use Rattle.daggy_json.proofs.text.put_all.Goals.{in-Ok, in-Err+else-ne}

-- some of the rest was written too
passed : (all done rest rest' : List ℕ) (n : ℕ)
    → all ≡ done ++ rest → rest' ≡ drop n rest → all ≡ (done ++ take n rest) ++ rest'
passed all done rest rest' n split is =
    split ∙ (ap (λ l. done ++ l) (sym (take-append-drop n rest) ∙ ap (λ l. take n rest ++ l) (sym is))
    ∙ sym (append_assoc done (take n rest) rest'))

pub writes-preserved : goal.writes-preserved
writes-preserved g c =
    let i = c.writes.invariant in
    elim c.match-write.branch [
      | in-Ok w ↦ (
        i.0 ++ take w.in-Ok.count c.writes.rest.now,
        passed _ i.0 c.writes.rest.now _ w.in-Ok.count i.1 (ap (λ r. r.now) w.rest-is ∙ take_rest _ w.in-Ok.count),
        Appends-trans _ _ _ _ _ i.2 w.in-Ok.ensures.bytes,
      )
      | in-Err+else-ne w ↦ (i.0, i.1 ∙ ap (λ r. i.0 ++ r.now) (sym w.rest-is), Appends-kept _ _ _ _ i.2 w.in-Err.ensures.bytes)
    ]
