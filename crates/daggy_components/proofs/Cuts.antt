-- The number of parts, and the place of a node.
use Rattle.std.proofs.Common.{◌≡◌, ℕ, zero, suc, ◌-◌, ◌<◌, ◌≤◌, ◌↔◌, inl, inr, List, [], ◌∷◌, Some, None}
use Rattle.std.proofs.Common.{◌+◌, ◌++◌, ◌∙◌, length, get_or, take, drop, map, refl, sym, ap, subst, arith, append_assoc}
use Rattle.std.specs.List.{slice_range, concat}
use Rattle.std.proofs.lemmas.List.{length-append, get_or_past}
use Rattle.std.proofs.Math.Seq.{take-append_seam, drop-append_seam}
use Rattle.std.specs.List.{Contains}
use Rattle.std.proofs.lemmas.Bool.{cases_lt}
use Rattle.daggy_components.specs.Components.{component}
use Rattle.daggy_components.specs.Stored.{cut, ends_of, ArePlaced, AreStored}

pub cut_length : (start : ℕ) (ends xs : List ℕ) → length (cut start ends xs) ≡ length ends
cut_length start [] xs = refl
cut_length start (e ∷ es) xs = ap (λ (z : ℕ). suc z) (cut_length e es xs)

-- parts cut at their ends
pub cut_ends : (before : List ℕ) (cs : List (List ℕ))
    → cut (length before) (ends_of (length before) cs) (before ++ concat cs) ≡ cs
cut_ends before [] = refl
cut_ends before (c ∷ cs) =
    let whole : before ++ (c ++ concat cs) ≡ (before ++ c) ++ concat cs =
    sym (append_assoc before c (concat cs)) in
    let long : length before + length c ≡ length (before ++ c) = sym (length-append before c) in
    let first : drop (length before) (take (length before + length c) (before ++ (c ++ concat cs))) ≡ c =
    ap (λ (z : List ℕ). drop (length before) (take (length before + length c) z)) whole
    ∙ (ap (λ (z : ℕ). drop (length before) (take z ((before ++ c) ++ concat cs))) long
    ∙ (ap (λ (z : List ℕ). drop (length before) z) (take-append_seam (before ++ c) (concat cs))
    ∙ drop-append_seam before c)) in
    let rest : cut (length before + length c) (ends_of (length before + length c) cs) (before ++ (c ++ concat cs))
    ≡ cs =
    ap (λ (z : List ℕ). cut (length before + length c) (ends_of (length before + length c) cs) z) whole
    ∙ (ap (λ (z : ℕ). cut z (ends_of z cs) ((before ++ c) ++ concat cs)) long ∙ cut_ends (before ++ c) cs) in
    ap (λ (z : List ℕ). z ∷ cut (length before + length c) (ends_of (length before + length c) cs)
    (before ++ (c ++ concat cs))) first
    ∙ ap (λ (z : List (List ℕ)). c ∷ z) rest

-- the part of the members between two ends is a component
part_of : (before : List ℕ) (at : ℕ) → at ≡ length before → (cs : List (List ℕ)) (k d : ℕ) → k < length cs
    → (get_or (at ∷ ends_of at cs) k d ≤ get_or (ends_of at cs) k d)
    × (get_or (ends_of at cs) k d ≤ length (before ++ concat cs))
    × (slice_range (before ++ concat cs) (get_or (at ∷ ends_of at cs) k d) (get_or (ends_of at cs) k d)
    ≡ component cs k)
part_of before at is [] k d low = absurd (omega arith)
part_of before at is (c ∷ cs) zero d low =
    let count : at + length c - at ≡ length c = omega arith in (
      omega arith,
      omega (arith, is, length-append before (c ++ concat cs), length-append c (concat cs)),
      ap (λ (z : ℕ). take z (drop at (before ++ (c ++ concat cs)))) count
          ∙ (ap (λ (z : ℕ). take (length c) (drop z (before ++ (c ++ concat cs)))) is
          ∙ (ap (λ (z : List ℕ). take (length c) z) (drop-append_seam before (c ++ concat cs))
          ∙ take-append_seam c (concat cs))),
    )
part_of before at is (c ∷ cs) (suc k) d low =
    let more : at + length c ≡ length (before ++ c) = omega (arith, is, length-append before c) in
    let rest = part_of (before ++ c) (at + length c) more cs k d (omega arith) in
    let P : List ℕ → Type 0 = λ z.
    (get_or ((at + length c) ∷ ends_of (at + length c) cs) k d ≤ get_or (ends_of (at + length c) cs) k d)
    × (get_or (ends_of (at + length c) cs) k d ≤ length z)
    × (slice_range z (get_or ((at + length c) ∷ ends_of (at + length c) cs) k d) (get_or (ends_of (at + length c) cs) k d)
    ≡ component cs k) in
    subst P (append_assoc before c (concat cs)) rest

-- past the last there is none
pub none_past : (cs : List (List ℕ)) (k : ℕ) → length cs ≤ k → component cs k ≡ []
none_past [] k high = refl
none_past (c ∷ cs) zero high = absurd (omega arith)
none_past (c ∷ cs) (suc k) high = none_past cs k (omega arith)

pub ends_length : (at : ℕ) (cs : List (List ℕ)) → length (ends_of at cs) ≡ length cs
ends_length at [] = refl
ends_length at (c ∷ cs) = ap (λ (z : ℕ). suc z) (ends_length (at + length c) cs)

-- where the component k begins
abbrev pub Begins : (ends : List ℕ) (k begin : ℕ) → Type 0
Begins ends k begin = (d : ℕ) → begin ≡ get_or (0 ∷ ends) k d

pub begins_first : (ends : List ℕ) (k : ℕ) → k ≡ 0 → Begins ends k 0
begins_first ends k is d = ap (λ (z : ℕ). get_or (0 ∷ ends) z d) (sym is)

pub begins_later : (ends : List ℕ) (k x : ℕ) → (k ≡ 0 → ⊥) → x ≡ get_or ends (k - 1) x → k ≤ length ends
    → Begins ends k x
begins_later ends zero x some read low d = absurd (some refl)
begins_later ends (suc k) x some read low d =
    let one : suc k - 1 ≡ k = omega arith in
    read ∙ (ap (λ (z : ℕ). get_or ends z x) one ∙ get_or_within ends k x d (omega arith))
  where
    get_or_within : (xs : List ℕ) (i a b : ℕ) → i < length xs → get_or xs i a ≡ get_or xs i b
    get_or_within [] i a b within = absurd (omega arith)
    get_or_within (x ∷ xs) zero a b within = refl
    get_or_within (x ∷ xs) (suc i) a b within = get_or_within xs i a b (omega arith)

module _ {end : ℕ} {nodes ends places : List ℕ} {cs : List (List ℕ)} (stored : AreStored end nodes ends places cs) where
  pub whole : {k begin to : ℕ} → k < length ends → Begins ends k begin → to ≡ get_or ends k to
      → (begin ≤ to) × (to ≤ length nodes) × (slice_range nodes begin to ≡ component cs k)
  whole {k} {begin} {to} low from read =
      let low_k : k < length cs =
      omega (arith, low, ap (λ (z : List ℕ). length z) stored.ends_are, ends_length 0 cs) in
      let part = part_of [] 0 refl cs k to low_k in
      let begin_is : begin ≡ get_or (0 ∷ ends_of 0 cs) k to =
      from to ∙ ap (λ (z : List ℕ). get_or (0 ∷ z) k to) stored.ends_are in
      let to_is : to ≡ get_or (ends_of 0 cs) k to = read ∙ ap (λ (z : List ℕ). get_or z k to) stored.ends_are in
      let long : length nodes ≡ length (concat cs) = ap (λ (z : List ℕ). length z) stored.nodes_are in (
        omega (arith, part.0, begin_is, to_is),
        omega (arith, part.1, to_is, long),
        ap (λ (z : List ℕ). slice_range z begin to) stored.nodes_are
            ∙ (ap (λ (z : ℕ). slice_range (concat cs) z to) begin_is
            ∙ (ap (λ (z : ℕ). slice_range (concat cs) (get_or (0 ∷ ends_of 0 cs) k to) z) to_is ∙ part.2)),
      )

-- a part of what is mapped
pub map_range : {A : Type 0} (f : A → ℕ) (xs : List A) (from to : ℕ)
    → map f (slice_range xs from to) ≡ slice_range (map f xs) from to
map_range {A} f xs from to = map_take (to - from) (drop from xs) ∙ ap (λ (z : List ℕ). take (to - from) z) (map_drop from xs)
  where
    map_take : (n : ℕ) (ys : List A) → map f (take n ys) ≡ take n (map f ys)
    map_take zero ys = refl
    map_take (suc n) [] = refl
    map_take (suc n) (y ∷ ys) = ap (λ (z : List ℕ). f y ∷ z) (map_take n ys)

    map_drop : (n : ℕ) (ys : List A) → map f (drop n ys) ≡ drop n (map f ys)
    map_drop zero ys = refl
    map_drop (suc n) [] = refl
    map_drop (suc n) (y ∷ ys) = map_drop n ys

module _ {end : ℕ} {places : List ℕ} {cs : List (List ℕ)} (p : ArePlaced end places cs) (v : ℕ) where
  -- a node whose place is within the places
  pub found : get_or places v end < length places
      → (k : ℕ) → (Some (length places - 1 - get_or places v end) ≡ Some k) ↔ Contains (component cs k) v
  found low k = (
    λ eq. elim (p.other v within) [
      | inl e ↦ absurd (omega (arith, e, low, p.few))
      | inr m ↦ (
          let at = p.at m.0 v m.1 in
          let same : m.0 ≡ k = let e : length places - 1 - get_or places v end ≡ k = some_same eq in omega (arith, at, e) in
          let P : ℕ → Type 0 = λ z. Contains (component cs z) v in
          subst P same m.1
          )
    ],
    λ m. ap (λ (z : ℕ). Some z) (let at = p.at k v m in let e : length places - 1 - get_or places v end ≡ k = omega (arith, at) in e),
  )
    where
      some_same : {a b : ℕ} → Some a ≡ Some b → a ≡ b
      some_same e = cc

      within : v < length places
      within =
          elim (cases_lt v (length places)) [
            | inl a ↦ a
            | inr b ↦ absurd (omega (arith, get_or_past places v end b, low, p.few))
          ]

  -- another
  pub missed : (length places ≤ get_or places v end) → (k : ℕ) → (None ≡ Some k) ↔ Contains (component cs k) v
  missed high k = (
    λ eq. absurd (none_some eq),
    λ m. let at = p.at k v m in absurd (omega (arith, at, high)),
  )
    where
      none_some : {a : ℕ} → None ≡ Some a → ⊥
      none_some e = cc

  -- the same, by what the code reads
  pub found_by : {len at : ℕ} → len ≡ length places → get_or places v end ≡ at → at < len → {cs' : List (List ℕ)}
      → cs' ≡ cs → (k : ℕ) → (Some (len - 1 - at) ≡ Some k) ↔ Contains (component cs' k) v
  found_by {len} {at} long read low {cs'} same k =
      let P : List (List ℕ) → Type 0 = λ z. (Some (len - 1 - at) ≡ Some k) ↔ Contains (component z k) v in
      let Q : ℕ → Type 0 = λ z. (Some z ≡ Some k) ↔ Contains (component cs k) v in
      let is : length places - 1 - get_or places v end ≡ len - 1 - at = omega (arith, long, read) in
      subst P (sym same) (subst Q is (found (omega (arith, long, read, low)) k))

  pub missed_by : {at : ℕ} → get_or places v end ≡ at → length places ≤ at → {cs' : List (List ℕ)} → cs' ≡ cs
      → (k : ℕ) → (None ≡ Some k) ↔ Contains (component cs' k) v
  missed_by {at} read high {cs'} same k =
      let P : List (List ℕ) → Type 0 = λ z. (None ≡ Some k) ↔ Contains (component z k) v in
      subst P (sym same) (missed (omega (arith, read, high)) k)

  pub past : length places ≤ v → {cs' : List (List ℕ)} → cs' ≡ cs
      → (k : ℕ) → (None ≡ Some k) ↔ Contains (component cs' k) v
  past high same k = missed_by (get_or_past places v end high) p.few same k
