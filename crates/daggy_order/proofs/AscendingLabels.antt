-- Labels that ascend along a list.
use Rattle.std.proofs.Common.{◌≡◌, ◌≢◌, ℕ, suc, ◌+◌, ◌<◌, ◌≤◌, ◌^◌, inl, inr, List, [], ◌∷◌, ◌++◌, length, get_or, set}
use Rattle.std.proofs.Common.{refl, sym, ap, subst, ◌∙◌, arith, append_assoc}
use Rattle.std.proofs.lemmas.List.{get_or-set_other, get_or-set_same, get_or_past, length-append, append-nil}
use Rattle.std.proofs.lemmas.Bool.{cases_lt}
use Rattle.daggy_base.specs.Cursor.{first_of}
use Rattle.daggy_base.proofs.Lists.{Mem, Unique, mem_left, mem_right, mem_mid, unique_right}
use Rattle.daggy_order.specs.Links.{LabelsAscend, IsSegment, HasGap, HasFirst, HasLast}
use Rattle.daggy_base.proofs.Sorted.{unique_cross}
use Rattle.daggy_order.proofs.LinkedNodes.{ended}

module _ (labels : List ℕ) where
  pub asc_lower : (low low' : ℕ) (xs : List ℕ) (high : ℕ)
      → low' ≤ low → LabelsAscend labels low xs high → LabelsAscend labels low' xs high
  asc_lower low low' [] high h c = omega (arith, h, c)
  asc_lower low low' (x ∷ xs) high h c = (omega (arith, h, c.0), c.1)

  pub asc_higher : (low : ℕ) (xs : List ℕ) (high high' : ℕ)
      → high ≤ high' → LabelsAscend labels low xs high → LabelsAscend labels low xs high'
  asc_higher low [] high high' h c = omega (arith, h, c)
  asc_higher low (x ∷ xs) high high' h c = (c.0, asc_higher (get_or labels x 0) xs high high' h c.1)

  pub asc_append : (low : ℕ) (xs : List ℕ) (y : ℕ) (ys : List ℕ) (high : ℕ)
      → LabelsAscend labels low xs (get_or labels y 0) → LabelsAscend labels (get_or labels y 0) ys high
      → LabelsAscend labels low (xs ++ y ∷ ys) high
  asc_append low [] y ys high c d = (c, d)
  asc_append low (x ∷ xs) y ys high c d = (c.0, asc_append (get_or labels x 0) xs y ys high c.1 d)

  pub asc_left : (low : ℕ) (xs : List ℕ) (y : ℕ) (ys : List ℕ) (high : ℕ)
      → LabelsAscend labels low (xs ++ y ∷ ys) high → LabelsAscend labels low xs (get_or labels y 0)
  asc_left low [] y ys high c = c.0
  asc_left low (x ∷ xs) y ys high c = (c.0, asc_left (get_or labels x 0) xs y ys high c.1)

  pub asc_right : (low : ℕ) (xs : List ℕ) (y : ℕ) (ys : List ℕ) (high : ℕ)
      → LabelsAscend labels low (xs ++ y ∷ ys) high → LabelsAscend labels (get_or labels y 0) ys high
  asc_right low [] y ys high c = c.1
  asc_right low (x ∷ xs) y ys high c = asc_right (get_or labels x 0) xs y ys high c.1

  -- what ascends above all that stands before it
  pub asc_then : (low : ℕ) (xs : List ℕ) (mid : ℕ) (ys : List ℕ) (high : ℕ)
      → LabelsAscend labels low xs (mid + 1) → LabelsAscend labels mid ys high → LabelsAscend labels low (xs ++ ys) high
  asc_then low [] mid ys high c d = asc_lower mid low ys high (omega (arith, c)) d
  asc_then low (x ∷ xs) mid ys high c d = (c.0, asc_then (get_or labels x 0) xs mid ys high c.1 d)

  pub asc_between : (low : ℕ) (xs : List ℕ) (high : ℕ) → LabelsAscend labels low xs high → low < high
  asc_between low [] high c = c
  asc_between low (x ∷ xs) high c = let rest = asc_between (get_or labels x 0) xs high c.1 in omega (arith, rest, c.0)

  pub asc_above : (low : ℕ) (xs : List ℕ) (high : ℕ)
      → LabelsAscend labels low xs high → (x : ℕ) → Mem x xs → low < get_or labels x 0
  asc_above low [] high c x m = absurd m
  asc_above low (y ∷ ys) high c x m =
      elim m [
        | inl e ↦
            (let is : get_or labels x 0 ≡ get_or labels y 0 = ap (λ z. get_or labels z 0) e in omega (arith, is, c.0))
        | inr b ↦ let rest = asc_above (get_or labels y 0) ys high c.1 x b in omega (arith, rest, c.0)
      ]

  pub asc_below : (low : ℕ) (xs : List ℕ) (high : ℕ)
      → LabelsAscend labels low xs high → (x : ℕ) → Mem x xs → get_or labels x 0 < high
  asc_below low [] high c x m = absurd m
  asc_below low (y ∷ ys) high c x m =
      elim m [
        | inl e ↦
            (let is : get_or labels x 0 ≡ get_or labels y 0 = ap (λ z. get_or labels z 0) e in
            omega (arith, is, asc_between (get_or labels y 0) ys high c.1))
        | inr b ↦ asc_below (get_or labels y 0) ys high c.1 x b
      ]

  -- labels are ordered as places, so no two are one
  pub asc_before : (low : ℕ) (us : List ℕ) (x : ℕ) (vs : List ℕ) (high : ℕ)
      → LabelsAscend labels low (us ++ x ∷ vs) high → (u : ℕ) → Mem u us → get_or labels u 0 < get_or labels x 0
  asc_before low us x vs high c = asc_below low us (get_or labels x 0) (asc_left low us x vs high c)

  pub asc_behind : (low : ℕ) (us : List ℕ) (x : ℕ) (vs : List ℕ) (high : ℕ)
      → LabelsAscend labels low (us ++ x ∷ vs) high → (v : ℕ) → Mem v vs → get_or labels x 0 < get_or labels v 0
  asc_behind low us x vs high c = asc_above (get_or labels x 0) vs high (asc_right low us x vs high c)

pub asc_same : (old new : List ℕ) (low : ℕ) (xs : List ℕ) (high : ℕ)
    → ((k : ℕ) → Mem k xs → get_or new k 0 ≡ get_or old k 0) → LabelsAscend old low xs high
    → LabelsAscend new low xs high
asc_same old new low [] high same c = c
asc_same old new low (x ∷ xs) high same c =
    let P : ℕ → Type 0 = λ z. (low < z) × LabelsAscend new z xs high in
    subst P (sym (same x (inl refl))) (c.0, asc_same old new (get_or old x 0) xs high (λ k m. same k (inr m)) c.1)

-- what a run of nodes is labelled so far
pub record Numbering (end : ℕ) (before labels run behind : List ℕ) (low i n label : ℕ) : Type 0 where
  pub done : List ℕ
  pub rest : List ℕ
  pub split : run ≡ done ++ rest
  pub counted : length done ≡ i
  pub ascending : LabelsAscend labels low done (label + 1)
  pub others : (k : ℕ) → (Mem k run → ⊥) → get_or labels k 0 ≡ get_or before k 0
  pub here : n ≡ first_of end (rest ++ behind)

pub numbers_none : (end : ℕ) (labels run behind : List ℕ) (low n : ℕ)
    → n ≡ first_of end (run ++ behind) → Numbering end labels labels run behind low 0 n low
numbers_none end labels run behind low n is =
    record {
      done = [];
      rest = run;
      split = refl;
      counted = refl;
      ascending = omega arith;
      others = λ k d. refl;
      here = is;
    }

pub some_left : (xs : List ℕ) → 0 < length xs → (x : ℕ) × (ys : List ℕ) × (xs ≡ x ∷ ys)
some_left [] h = absurd (omega arith)
some_left (x ∷ xs) h = (x, xs, refl)

module _ {end : ℕ} {before labels run behind : List ℕ} {low i n label : ℕ}
    (s : Numbering end before labels run behind low i n label) (left : i < length run) where
  pub node_is : (ms : List ℕ) × (run ≡ s.done ++ n ∷ ms) × (s.rest ≡ n ∷ ms)
  node_is =
      let long : length run ≡ length s.done + length s.rest =
      ap (λ (z : List ℕ). length z) s.split ∙ length-append s.done s.rest in
      let r = some_left s.rest (omega (arith, long, s.counted, left)) in
      let is : n ≡ r.0 = s.here ∙ ap (λ (z : List ℕ). first_of end (z ++ behind)) r.2 in
      let here : s.rest ≡ n ∷ r.1 = r.2 ∙ ap (λ (z : ℕ). z ∷ r.1) (sym is) in
      (r.1, s.split ∙ ap (λ (z : List ℕ). s.done ++ z) here, here)

  pub node_in : Mem n run
  node_in = let h = node_is in let P : List ℕ → Type 0 = λ z. Mem n z in subst P (sym h.1) (mem_mid s.done h.0 n)

  pub numbers_more : Unique run → n < length labels → (gap next : ℕ) → 0 < gap
      → ((ms : List ℕ) → s.rest ≡ n ∷ ms → next ≡ first_of end (ms ++ behind))
      → Numbering end before (set labels n (label + gap)) run behind low (i + 1) next (label + gap)
  numbers_more once within gap next some on =
      let h = node_is in
      let U : List ℕ → Type 0 = λ z. Unique z in
      let u = subst U h.1 once in
      let new = set labels n (label + gap) in
      let same : (k : ℕ) → Mem k s.done → get_or new k 0 ≡ get_or labels k 0 = λ k m.
      get_or-set_other labels n k (label + gap) 0 (λ e. unique_cross s.done (n ∷ h.0) u k m (inl e)) in
      let here : get_or new n 0 ≡ label + gap = get_or-set_same labels n (label + gap) 0 within in
      record {
        done = s.done ++ n ∷ [];
        rest = h.0;
        split = h.1 ∙ sym (append_assoc s.done (n ∷ []) h.0);
        counted = omega (arith, length-append s.done (n ∷ []), s.counted);
        ascending =
            asc_append new low s.done n [] (label + gap + 1) (asc_higher new low s.done (label + 1) (get_or new n 0)
            (omega (arith, here, some)) (asc_same labels new low s.done (label + 1) same s.ascending))
            (omega (arith, here));
        others = λ k d.
            get_or-set_other labels n k (label + gap) 0
            (λ e. d (let P : ℕ → Type 0 = λ z. Mem z run in subst P (sym e) node_in))
            ∙ s.others k d;
        here = on h.0 h.2;
      }

pub all_numbered : {end : ℕ} {before labels run behind : List ℕ} {low i n label : ℕ}
    (s : Numbering end before labels run behind low i n label)
    → length run ≡ i → LabelsAscend labels low run (label + 1)
all_numbered {end} {before} {labels} {run} {behind} {low} {i} {n} {label} s all =
    let long : length run ≡ length s.done + length s.rest =
    ap (λ (z : List ℕ). length z) s.split ∙ length-append s.done s.rest in
    let none = nothing s.rest (omega (arith, long, s.counted, all)) in
    let P : List ℕ → Type 0 = λ z. LabelsAscend labels low z (label + 1) in
    subst P (sym (s.split ∙ (ap (λ (z : List ℕ). s.done ++ z) none ∙ append-nil s.done))) s.ascending
  where
    nothing : (xs : List ℕ) → length xs ≡ 0 → xs ≡ []
    nothing [] h = refl
    nothing (x ∷ xs) h = absurd (omega arith)

-- an element less
pub asc_drop : (labels : List ℕ) (low : ℕ) (xs : List ℕ) (y : ℕ) (ys : List ℕ) (high : ℕ)
    → LabelsAscend labels low (xs ++ y ∷ ys) high → LabelsAscend labels low (xs ++ ys) high
asc_drop labels low [] y ys high c = asc_lower labels (get_or labels y 0) low ys high (omega (arith, c.0)) c.1
asc_drop labels low (x ∷ xs) y ys high c = (c.0, asc_drop labels (get_or labels x 0) xs y ys high c.1)

module _ {end : ℕ} {labels nodes : List ℕ} {a from size after : ℕ} (s : HasGap end labels nodes a from size after) where
  pub gap_a : Mem a nodes
  gap_a = let P : List ℕ → Type 0 = λ z. Mem a z in subst P (sym s.is) (mem_mid s.before (s.run ++ s.behind) a)

  pub gap_run : IsSegment end nodes from size (s.before ++ a ∷ []) s.run s.behind
  gap_run =
      record {
        is = s.is ∙ sym (append_assoc s.before (a ∷ []) (s.run ++ s.behind));
        counted = s.counted;
        begins = s.begins;
      }

  pub gap_low : get_or labels a 0 < 2 ^ 64
  gap_low = asc_below labels 0 (s.before ++ a ∷ s.behind) (2 ^ 64) s.ascending a (mem_mid s.before s.behind a)

  module _ (real : after ≢ end) where
    pub follows : (ms : List ℕ) × (s.behind ≡ after ∷ ms)
    follows = first s.behind s.ends where
      first : (xs : List ℕ) → after ≡ first_of end xs → (ms : List ℕ) × (xs ≡ after ∷ ms)
      first [] is = absurd (real is)
      first (x ∷ xs) is = (xs, ap (λ (z : ℕ). z ∷ xs) (sym is))

    pub gap_after : Mem after nodes
    gap_after =
        let P : List ℕ → Type 0 = λ z. Mem after z in
        let here : Mem after s.behind = subst P (sym follows.1) (inl refl) in
        subst P (sym s.is)
        (mem_right s.before (a ∷ (s.run ++ s.behind)) after (inr (mem_right s.run s.behind after here)))

    pub gap_high : get_or labels a 0 < get_or labels after 0
    gap_high =
        let P : List ℕ → Type 0 = λ z. Mem after z in
        asc_behind labels 0 s.before a s.behind (2 ^ 64) s.ascending after (subst P (sym follows.1) (inl refl))

    -- one node more
    pub gap_more : (next : ℕ) → ((ns ms : List ℕ) → nodes ≡ ns ++ after ∷ ms → next ≡ first_of end ms)
        → HasGap end labels nodes a from (size + 1) next
    gap_more next on =
        let f = follows in
        let ms = f.0 in
        let split : s.run ++ s.behind ≡ (s.run ++ after ∷ []) ++ ms =
        ap (λ (z : List ℕ). s.run ++ z) f.1 ∙ sym (append_assoc s.run (after ∷ []) ms) in
        let P : List ℕ → Type 0 = λ z. LabelsAscend labels 0 (s.before ++ a ∷ z) (2 ^ 64) in
        let shorter : LabelsAscend labels 0 (s.before ++ a ∷ ms) (2 ^ 64) =
        let Q : List ℕ → Type 0 = λ z. LabelsAscend labels 0 z (2 ^ 64) in
        subst Q (append_assoc s.before (a ∷ []) ms) (asc_drop labels 0 (s.before ++ a ∷ []) after ms (2 ^ 64)
        (subst Q (sym (append_assoc s.before (a ∷ []) (after ∷ ms))) (subst P f.1 s.ascending))) in
        record {
          before = s.before;
          run = s.run ++ after ∷ [];
          behind = ms;
          is = s.is ∙ ap (λ (z : List ℕ). s.before ++ a ∷ z) split;
          counted = omega (arith, length-append s.run (after ∷ []), s.counted);
          begins = s.begins ∙ ap (first_of end) split;
          ends =
              on (s.before ++ a ∷ s.run) ms (s.is ∙ (ap (λ (z : List ℕ). s.before ++ a ∷ (s.run ++ z)) f.1
              ∙ sym (append_assoc s.before (a ∷ s.run) (after ∷ ms))));
          ascending = shorter;
        }

  -- `new` labels the nodes of the gap's run up to `mid`, below `high`, which is the label of the node after the gap or,
  -- if none follows, below 2 ^ 64; the other nodes' labels are kept
  pub record FillsGap (new : List ℕ) (mid high : ℕ) : Type 0 where
    pub run : LabelsAscend new (get_or labels a 0) s.run (mid + 1)
    pub others : (k : ℕ) → (Mem k s.run → ⊥) → get_or new k 0 ≡ get_or labels k 0
    pub fits : mid < high
    pub at_end : after ≡ end → high < 2 ^ 64
    pub at_node : after ≢ end → high ≡ get_or labels after 0

  -- the gap is filled
  pub gap_filled : (new : List ℕ) (mid high : ℕ) → FillsGap new mid high → Unique nodes → (Mem end nodes → ⊥)
      → LabelsAscend new 0 nodes (2 ^ 64)
  gap_filled new mid high fills once real =
      let U : List ℕ → Type 0 = λ z. Unique z in
      let u : Unique (s.before ++ a ∷ (s.run ++ s.behind)) = subst U s.is once in
      let v : Unique (a ∷ (s.run ++ s.behind)) = unique_right s.before (a ∷ (s.run ++ s.behind)) u in
      let keep_a : get_or new a 0 ≡ get_or labels a 0 = fills.others a (λ m. v.0 (mem_left s.run s.behind a m)) in
      let keep_before : (k : ℕ) → Mem k s.before → get_or new k 0 ≡ get_or labels k 0 = λ k m.
      fills.others k
      (λ r. unique_cross s.before (a ∷ (s.run ++ s.behind)) u k m (inr (mem_left s.run s.behind k r))) in
      let keep_behind : (k : ℕ) → Mem k s.behind → get_or new k 0 ≡ get_or labels k 0 = λ k m.
      fills.others k (λ r. unique_cross s.run s.behind v.1 k r m) in
      let left : LabelsAscend new 0 s.before (get_or labels a 0) =
      asc_same labels new 0 s.before (get_or labels a 0) keep_before
      (asc_left labels 0 s.before a s.behind (2 ^ 64) s.ascending) in
      let right : LabelsAscend new mid s.behind (2 ^ 64) =
      asc_same labels new mid s.behind (2 ^ 64) keep_behind
      (above s.behind s.ends (λ m. real (let P : List ℕ → Type 0 = λ z. Mem end z in
      subst P (sym s.is) (mem_right s.before (a ∷ (s.run ++ s.behind)) end (inr (mem_right s.run s.behind end m)))))
      (asc_right labels 0 s.before a s.behind (2 ^ 64) s.ascending)) in
      let P : ℕ → Type 0 = λ z. LabelsAscend new 0 s.before z in
      let Q : ℕ → Type 0 = λ z. LabelsAscend new z (s.run ++ s.behind) (2 ^ 64) in
      let R : List ℕ → Type 0 = λ z. LabelsAscend new 0 z (2 ^ 64) in
      subst R (sym s.is) (asc_append new 0 s.before a (s.run ++ s.behind) (2 ^ 64) (subst P (sym keep_a) left)
      (subst Q (sym keep_a) (asc_then new (get_or labels a 0) s.run mid s.behind (2 ^ 64) fills.run right)))
    where
      above : (xs : List ℕ) → after ≡ first_of end xs → (Mem end xs → ⊥)
          → LabelsAscend labels (get_or labels a 0) xs (2 ^ 64) → LabelsAscend labels mid xs (2 ^ 64)
      above [] is none c = omega (arith, fills.fits, fills.at_end is)
      above (x ∷ xs) is none c =
          let high_is : high ≡ get_or labels x 0 =
          fills.at_node (λ e. none (inl (sym e ∙ is))) ∙ ap (λ z. get_or labels z 0) is in
          (omega (arith, fills.fits, high_is), c.1)

-- a node that was put last, or first
pub gap_last : {end : ℕ} {labels nodes : List ℕ} {last n : ℕ}
    → HasLast labels nodes last n → (length nodes ≡ 1 → ⊥) → HasGap end labels nodes last n 1 end
gap_last {end} {labels} {nodes} {last} {n} h more =
    let long : length nodes ≡ length h.before + 1 =
    ap (λ (z : List ℕ). length z) h.is ∙ length-append h.before (n ∷ []) in
    let some : 0 < length h.before =
    elim (cases_lt 0 (length h.before)) [ inl l ↦ l | inr none ↦ absurd (more (omega (arith, long, none))) ] in
    let e = ended h.before some in
    let split : h.before ≡ e.0 ++ last ∷ [] = e.2 ∙ ap (λ (z : ℕ). e.0 ++ z ∷ []) (sym (h.ends e.0 e.1 e.2)) in
    let P : List ℕ → Type 0 = λ z. LabelsAscend labels 0 z (2 ^ 64) in
    record {
      before = e.0;
      run = n ∷ [];
      behind = [];
      is = h.is ∙ (ap (λ (z : List ℕ). z ++ n ∷ []) split ∙ append_assoc e.0 (last ∷ []) (n ∷ []));
      counted = refl;
      begins = refl;
      ends = refl;
      ascending = subst P split h.ascending;
    }

pub last_in : {labels nodes : List ℕ} {last n : ℕ}
    → HasLast labels nodes last n → (length nodes ≡ 1 → ⊥) → Mem last nodes
last_in {labels} {nodes} {last} {n} h more =
    let gap = gap_last {end = 0} h more in
    let P : List ℕ → Type 0 = λ z. Mem last z in
    subst P (sym gap.is) (mem_right gap.before (last ∷ (gap.run ++ gap.behind)) last (inl refl))

pub last_labelled : (end : ℕ) {labels nodes : List ℕ} {last n : ℕ} → HasLast labels nodes last n → Unique nodes
    → (Mem end nodes → ⊥) → (length nodes ≡ 1 → ⊥) → n < length labels → (label : ℕ) → get_or labels last 0 < label
    → label + 1 < 2 ^ 64 → LabelsAscend (set labels n label) 0 nodes (2 ^ 64)
unfolding gap_last
last_labelled end {labels} {nodes} {last} {n} h once real more within label above below =
    let new = set labels n label in
    let here : get_or new n 0 ≡ label = get_or-set_same labels n label 0 within in
    gap_filled (gap_last {end = end} h more) new label (label + 1) record {
      run = (omega (arith, here, above), omega (arith, here));
      others = λ k d. get_or-set_other labels n k label 0 (λ e. d (inl e));
      fits = omega arith;
      at_end = λ e. below;
      at_node = λ d. absurd (d refl);
    } once real

pub first_labelled : {end : ℕ} {labels nodes : List ℕ} {first n : ℕ} (h : HasFirst end labels nodes first n)
    → Unique nodes → (length nodes ≡ 1 → ⊥) → n < length labels → (label : ℕ) → 0 < label
    → label < get_or labels first 0 → LabelsAscend (set labels n label) 0 nodes (2 ^ 64)
first_labelled {end} {labels} {nodes} {first} {n} h once more within label some below =
    let U : List ℕ → Type 0 = λ z. Unique z in
    let u = subst U h.is once in
    let new = set labels n label in
    let here : get_or new n 0 ≡ label = get_or-set_same labels n label 0 within in
    let long : length nodes ≡ suc (length h.behind) = ap (λ (z : List ℕ). length z) h.is in
    let same : (k : ℕ) → Mem k h.behind → get_or new k 0 ≡ get_or labels k 0 = λ k m.
    get_or-set_other labels n k label 0 (λ e. u.0 (let M : ℕ → Type 0 = λ z. Mem z h.behind in subst M e m)) in
    let above = rest h.behind h.begins (λ e. more (omega (arith, long, ap (λ (z : List ℕ). length z) e))) h.ascending in
    let P : List ℕ → Type 0 = λ z. LabelsAscend new 0 z (2 ^ 64) in
    let Q : ℕ → Type 0 = λ z. LabelsAscend new z h.behind (2 ^ 64) in
    subst P (sym h.is)
    (omega (arith, here, some), subst Q (sym here) (asc_same labels new label h.behind (2 ^ 64) same above))
  where
    rest : (xs : List ℕ) → first ≡ first_of end xs → (xs ≡ [] → ⊥) → LabelsAscend labels 0 xs (2 ^ 64)
        → LabelsAscend labels label xs (2 ^ 64)
    rest [] is d c = absurd (d refl)
    rest (x ∷ xs) is d c = let at : get_or labels first 0 ≡ get_or labels x 0 = ap (λ z. get_or labels z 0) is in
        (omega (arith, at, below), c.1)

pub first_in : {end : ℕ} {labels nodes : List ℕ} {first n : ℕ}
    → HasFirst end labels nodes first n → (length nodes ≡ 1 → ⊥) → Mem first nodes
first_in {end} {labels} {nodes} {first} {n} h more =
    let P : List ℕ → Type 0 = λ z. Mem first z in
    let long : length nodes ≡ suc (length h.behind) = ap (λ (z : List ℕ). length z) h.is in
    subst P (sym h.is) (inr (head h.behind h.begins (λ e. more (omega (arith, long, ap (λ (z : List ℕ). length z) e)))))
  where
    head : (xs : List ℕ) → first ≡ first_of end xs → (xs ≡ [] → ⊥) → Mem first xs
    head [] is d = absurd (d refl)
    head (x ∷ xs) is d = inl is

-- where labels are not 0
pub asc_held : (labels : List ℕ) (n : ℕ) → 0 < get_or labels n 0 → n < length labels
asc_held labels n h =
    elim (cases_lt n (length labels)) [
      | inl l ↦ l
      | inr past ↦ absurd (omega (arith, h, get_or_past labels n 0 past))
    ]
