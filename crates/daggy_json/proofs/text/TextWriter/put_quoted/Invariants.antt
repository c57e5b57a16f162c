use Rattle.std.proofs.Common.{◌≡◌, ℕ, List, [], ◌∷◌, ◌++◌, drop}
use Rattle.json.specs.Print.{escape}
use Rattle.daggy_json.specs.Passing.{Puts}
use Rattle.daggy_json.proofs.text.TextWriter.put_quoted.Given as goal

abbrev pub invariant-loop-byte : goal.invariant-loop-byte
invariant-loop-byte g l =
    (done : List ℕ) × Puts g.W.Write.contents l.initial.self l.self done
    × (done ++ (escape (drop l.byte-index l.byte-items) ++ 34 ∷ []) ≡ escape l.byte-items ++ 34 ∷ [])
