-- Writing bytes piece by piece.
use Rattle.std.proofs.Common.{◌≡◌, ℕ, ◌-◌, List, [], ◌++◌, length, take, drop, Option, sym, ap, ◌∙◌, subst}
use Rattle.std.proofs.Common.{append_assoc, append-nil, take-append-drop}
use Rattle.std.proofs.lemmas.List.{take_rest}
use Rattle.std.proofs.Math.Seq.{take-append_seam}
use Rattle.std.specs.Io.KnownBytes.{Appends, Keeps}
use Rattle.std.proofs.KnownBytes.{Appends-trans, Appends-kept}

-- so far these bytes are done, and that is what the writer holds more than before
abbrev pub IsPut : (held_old held : Option (List ℕ)) (bytes rest : List ℕ) → Type 0
IsPut held_old held bytes rest = (done : List ℕ) × (bytes ≡ done ++ rest) × Appends held_old held done

-- one piece more
pub piece_put : (held_old held held_new : Option (List ℕ)) (bytes rest : List ℕ) (n : ℕ)
    → IsPut held_old held bytes rest → Appends held held_new (take n rest)
    → IsPut held_old held_new bytes (take (length rest - n) (drop n rest))
piece_put held_old held held_new bytes rest n (done, split, put) more = (
  done ++ take n rest,
  split ∙ ap (λ l. done ++ l) (sym (take-append-drop n rest)) ∙ sym (append_assoc done (take n rest) (drop n rest))
      ∙ ap (λ l. (done ++ take n rest) ++ l) (sym (take_rest rest n)),
  Appends-trans held_old held held_new done (take n rest) put more,
)

-- where it stops, a front was put
pub front_put : (held_old held held_new : Option (List ℕ)) (bytes rest : List ℕ)
    → IsPut held_old held bytes rest → Keeps held held_new → (n : ℕ) × Appends held_old held_new (take n bytes)
front_put held_old held held_new bytes rest (done, split, put) kept =
    let front : take (length done) bytes ≡ done = ap (take (length done)) split ∙ take-append_seam done rest in
    (length done, subst (Appends held_old held_new) (sym front) (Appends-kept held_old held held_new done put kept))

-- with nothing left all bytes were put
pub all_put : (held_old held held_new : Option (List ℕ)) (bytes rest : List ℕ)
    → IsPut held_old held bytes rest → rest ≡ [] → Keeps held held_new → Appends held_old held_new bytes
all_put held_old held held_new bytes rest (done, split, put) none kept =
    subst (Appends held_old held_new) (sym (split ∙ ap (λ l. done ++ l) none ∙ append-nil done))
    (Appends-kept held_old held held_new done put kept)
