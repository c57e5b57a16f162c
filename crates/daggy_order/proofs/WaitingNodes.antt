-- The nodes that a search found, in one list: of those, the ones between two places wait to be read.
use Rattle.std.proofs.Common.{◌≡◌, ℕ, zero, suc, ◌+◌, ◌-◌, ◌<◌, ◌≤◌, List, [], ◌∷◌, ◌++◌, length}
use Rattle.std.proofs.Common.{get_or, set, take, drop, sym, ap, subst, ◌∙◌, arith}
use Rattle.std.specs.List.{Contains}
use Rattle.std.specs.List.Sorted.{IsPermutation}
use Rattle.std.proofs.Math.Seq.{take-set-lt}
use Rattle.std.proofs.lemmas.List.{length-set, length-take-le, take_more, take_more_set, take-set-le}
use Rattle.std.proofs.lemmas.List.{drop-append-le, drop-set-add, length-drop, get_or-take, get_or-drop, get_or-set_same}
use Rattle.std.proofs.lemmas.List.{get_or-set_other}
use Rattle.std.proofs.lemmas.List.Edits.{swap_is}
use Rattle.std.proofs.lemmas.List.Sorted.{Contains-permutation, length_permutation, IsPermutation-refl, IsPermutation-sym}
use Rattle.std.proofs.lemmas.List.Sorted.{IsPermutation-trans, IsPermutation-cons, IsPermutation-middle}
use Rattle.std.proofs.lemmas.List.Sorted.{IsPermutation-to_front, IsPermutation-swap}
use Rattle.daggy_base.proofs.Lists.{Mem, Unique, mem_at, contains_mem, mem_contains, Contains-there}
use Rattle.daggy_order.proofs.MovedNodes.{unique_same}

-- lists in another order have the same members
pub members_in : (xs ys : List ℕ) → IsPermutation xs ys → (n : ℕ) → Mem n xs → Mem n ys
members_in xs ys perm n m = contains_mem ys n (Contains-permutation xs ys n perm (mem_contains xs n m))

pub once_in : (xs ys : List ℕ) → IsPermutation xs ys → Unique xs → Unique ys
once_in xs ys perm once =
    unique_same xs ys once (omega (arith, length_permutation xs ys perm)) (members_in xs ys perm)

-- at a place of a list another number is written, and what stood there follows at the end
written : (xs : List ℕ) (i read node : ℕ) → i ≤ length xs → (i < length xs → read ≡ get_or xs i 0)
    → IsPermutation (node ∷ xs) (set (xs ++ read ∷ []) i node)
written [] zero read node low is = IsPermutation-refl (node ∷ [])
written [] (suc i) read node low is = absurd (omega (arith, low))
written (x ∷ xs) zero read node low is =
    let same : read ≡ x = is (omega arith) in
    let P : ℕ → Type 0 = λ z. IsPermutation (node ∷ x ∷ xs) (node ∷ (xs ++ z ∷ [])) in
    subst P (sym same) (IsPermutation-cons node (x ∷ xs) (xs ++ x ∷ [])
    (IsPermutation-sym (xs ++ x ∷ []) (x ∷ xs) (IsPermutation-to_front xs x)))
written (x ∷ xs) (suc i) read node low is =
    IsPermutation-trans (node ∷ x ∷ xs) (x ∷ node ∷ xs) (x ∷ set (xs ++ read ∷ []) i node)
    (IsPermutation-middle (node ∷ []) x xs)
    (IsPermutation-cons x (node ∷ xs) (set (xs ++ read ∷ []) i node)
    (written xs i read node (omega (arith, low)) (λ h. is (omega (arith, h)))))

-- two of the first n change places
module _ (xs : List ℕ) (head n : ℕ) where
  put_within : (ys : List ℕ) (i a : ℕ) → head ≤ i → i < n
      → drop head (take n (set ys i a)) ≡ set (drop head (take n ys)) (i - head) a
  put_within ys i a from low =
      let at : i ≡ head + (i - head) = omega (arith, from) in
      ap (drop head) (take-set-lt n ys i a low ∙ ap (λ k. set (take n ys) k a) at)
      ∙ drop-set-add head (take n ys) (i - head) a

  read_within : (i : ℕ) → head ≤ i → i < n → get_or (drop head (take n xs)) (i - head) 0 ≡ get_or xs i 0
  read_within i from low =
      let at : head + (i - head) ≡ i = omega (arith, from) in
      get_or-drop head (take n xs) (i - head) 0 ∙ ap (λ k. get_or (take n xs) k 0) at ∙ get_or-take n xs i 0 low

  pub exchanged : n ≤ length xs → (i j a b : ℕ) → head ≤ i → i < n → head ≤ j → j < n → a ≡ get_or xs i 0
      → b ≡ get_or xs j 0 → IsPermutation (drop head (take n xs)) (drop head (take n (set (set xs i b) j a)))
  exchanged fits i j a b i_from i_low j_from j_low a_is b_is =
      let ws = drop head (take n xs) in
      let long : length ws ≡ n - head =
      length-drop head (take n xs) ∙ ap (λ k. k - head) (length-take-le n xs fits) in
      let whole : drop head (take n (set (set xs i b) j a)) ≡ set (set ws (i - head) b) (j - head) a =
      put_within (set xs i b) j a j_from j_low ∙ ap (λ l. set l (j - head) a) (put_within xs i b i_from i_low) in
      let here : set (set ws (i - head) b) (j - head) a
      ≡ set (set ws (i - head) (get_or ws (j - head) 0)) (j - head) (get_or ws (i - head) 0) =
      ap (λ k. set (set ws (i - head) k) (j - head) a) (b_is ∙ sym (read_within j j_from j_low))
      ∙ ap (λ k. set (set ws (i - head) (get_or ws (j - head) 0)) (j - head) k)
      (a_is ∙ sym (read_within i i_from i_low)) in
      IsPermutation-swap ws (drop head (take n (set (set xs i b) j a))) (i - head) (j - head)
      (omega (arith, long, i_from, i_low)) (omega (arith, long, j_from, j_low))
      (whole ∙ here ∙ swap_is ws (i - head) (j - head) 0 (omega (arith, long, i_from, i_low))
      (omega (arith, long, j_from, j_low)))

-- `node` is put at the end of those that wait, and what stood there at the end of all
module _ (xs : List ℕ) (head tail count : ℕ) (from : head ≤ tail) (to : tail ≤ count) (room : count < length xs)
    (read node : ℕ) (is : read ≡ get_or xs tail 0) where
  abbrev pub one_put : List ℕ
  one_put = set (set xs count read) tail node

  long : length (set xs count read) ≡ length xs
  long = length-set xs count read

  taken : length (take count xs) ≡ count
  taken = length-take-le count xs (omega (arith, room))

  pub one_found : IsPermutation (node ∷ take count xs) (take (count + 1) one_put)
  one_found =
      let all : take (count + 1) one_put ≡ set (take count xs ++ read ∷ []) tail node =
      take-set-lt (count + 1) (set xs count read) tail node (omega (arith, to))
      ∙ ap (λ l. set l tail node) (take_more_set xs count read room) in
      let P : List ℕ → Type 0 = λ z. IsPermutation (node ∷ take count xs) z in
      subst P (sym all) (written (take count xs) tail read node (omega (arith, to, taken)) (λ h. is
      ∙ sym (get_or-take count xs tail 0 (omega (arith, h, taken)))))

  pub one_more_waits : IsPermutation (node ∷ drop head (take tail xs)) (drop head (take (tail + 1) one_put))
  one_more_waits =
      let part : length (take tail xs) ≡ tail = length-take-le tail xs (omega (arith, to, room)) in
      let all : drop head (take (tail + 1) one_put) ≡ drop head (take tail xs) ++ node ∷ [] =
      ap (drop head) (take_more_set (set xs count read) tail node (omega (arith, to, room, long))
      ∙ ap (λ l. l ++ node ∷ []) (take-set-le tail xs count read to))
      ∙ drop-append-le head (take tail xs) (node ∷ []) (omega (arith, from, part)) in
      let P : List ℕ → Type 0 = λ z. IsPermutation (node ∷ drop head (take tail xs)) z in
      subst P (sym all) (IsPermutation-sym (drop head (take tail xs) ++ node ∷ []) (node ∷ drop head (take tail xs))
      (IsPermutation-to_front (drop head (take tail xs)) node))

  pub last_found : head < tail → {last : ℕ} → last ≡ get_or one_put (tail - 1) 0 → Contains (node ∷ take count xs) last
  last_found some {last} at =
      let low : tail - 1 < count = omega (arith, some, to) in
      let here : last ≡ get_or (take count xs) (tail - 1) 0 =
      at ∙ get_or-set_other (set xs count read) tail (tail - 1) node 0 (omega (arith, some))
      ∙ get_or-set_other xs count (tail - 1) read 0 (omega (arith, low))
      ∙ sym (get_or-take count xs (tail - 1) 0 low) in
      let P : ℕ → Type 0 = λ z. Mem z (take count xs) in
      Contains-there node last (take count xs) (mem_contains (take count xs) last (subst P (sym here)
      (mem_at (take count xs) (tail - 1) 0 (omega (arith, low, taken)))))

  -- the last two of those that wait change places
  module _ (some : head < tail) {last : ℕ} (at : last ≡ get_or one_put (tail - 1) 0) where
    abbrev pub two_put : List ℕ
    two_put = set (set one_put (tail - 1) node) tail last

    put_long : length one_put ≡ length xs
    put_long = length-set (set xs count read) tail node ∙ long

    node_is : node ≡ get_or one_put tail 0
    node_is = sym (get_or-set_same (set xs count read) tail node 0 (omega (arith, to, room, long)))

    pub two_found : IsPermutation (node ∷ take count xs) (take (count + 1) two_put)
    two_found =
        IsPermutation-trans (node ∷ take count xs) (take (count + 1) one_put) (take (count + 1) two_put) one_found
        (exchanged one_put 0 (count + 1) (omega (arith, put_long, room)) (tail - 1) tail last node (omega arith)
        (omega (arith, to)) (omega arith) (omega (arith, to)) at node_is)

    pub two_wait : IsPermutation (node ∷ drop head (take tail xs)) (drop head (take (tail + 1) two_put))
    two_wait =
        IsPermutation-trans (node ∷ drop head (take tail xs)) (drop head (take (tail + 1) one_put))
        (drop head (take (tail + 1) two_put)) one_more_waits
        (exchanged one_put head (tail + 1) (omega (arith, put_long, to, room)) (tail - 1) tail last node
        (omega (arith, some)) (omega arith) from (omega arith) at node_is)

-- the last of those that wait
pub last_waits : (found : List ℕ) {head tail u : ℕ} → head < tail → tail ≤ length found → u ≡ get_or found (tail - 1) u
    → drop head (take tail found) ≡ drop head (take (tail - 1) found) ++ u ∷ []
last_waits found {head} {tail} {u} some within is =
    let on : tail ≡ tail - 1 + 1 = omega (arith, some) in
    let part : length (take (tail - 1) found) ≡ tail - 1 = length-take-le (tail - 1) found (omega (arith, within)) in
    ap (λ k. drop head (take k found)) on
    ∙ ap (drop head) (take_more found (tail - 1) u (omega (arith, some, within))
    ∙ ap (λ z. take (tail - 1) found ++ z ∷ []) (sym is))
    ∙ drop-append-le head (take (tail - 1) found) (u ∷ []) (omega (arith, some, part))
