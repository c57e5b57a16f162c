-- The invariant of the links as nodes are put in and taken out.
use Rattle.std.proofs.Common.{◌≡◌, ◌≢◌, ℕ, zero, suc, ◌+◌, ◌<◌, ◌≤◌, ◌⊎◌, inl, inr, List, [], ◌∷◌, ◌++◌, length, get_or}
use Rattle.std.proofs.Common.{Contains, not, eqb, cond, refl, sym, ap, subst, ◌∙◌, arith, append_assoc}
use Rattle.std.proofs.lemmas.Bool.{eq-eqb}
use Rattle.std.proofs.lemmas.List.{length-append}
use Rattle.std.proofs.lemmas.List.Elements.{filter-append}
use Rattle.daggy_base.specs.Cursor.{first_of}
use Rattle.daggy_base.specs.Removal.{without}
use Rattle.daggy_base.proofs.Lists.{Mem, Unique, mem_left, mem_right, mem_cases, mem_into, mem_out, mem_mid}
use Rattle.daggy_base.proofs.Lists.{unique_mid, unique_right, fewer_than, split_at}
use Rattle.daggy_base.proofs.Lists.{contains_mem, mem_contains, unique_from_distinct}
use Rattle.daggy_order.specs.Links.{Listed, LeadsTo, IsLinkChain, AreLinksOf, nodes_from, neighbor}
use Rattle.daggy_base.proofs.Sorted.{distinct_from_unique, unique_cross}
use Rattle.daggy_base.proofs.ListParts.{filter_yes, filter_no, is_held}
use Rattle.daggy_order.proofs.Chains.{chain_same, IsPut, IsTaken, chain_left, chain_right, after_in, before_in}
use Rattle.daggy_order.proofs.Chains.{put_behind_start, put_behind_member, take_member, neighbor_end, neighbor_node}
use Rattle.daggy_order.proofs.Chains.{walk_is, unique_last, IsRenamed, rename_member}

pub listed : {xs ys ks ls : List ℕ} {k l : ℕ} → xs ≡ ys → ks ≡ ls → k ≡ l
    → ◌≡◌ {A = Listed} (record { nodes = xs; labels = ks; capacity = k })
    (record { nodes = ys; labels = ls; capacity = l })
listed {xs} {ys} {ks} {ls} {k} {l} e f h =
    ap (λ (z : List ℕ). listing z ks k) e
    ∙ (ap (λ (z : List ℕ). listing ys z k) f ∙ ap (λ (z : ℕ). listing ys ls z) h)
  where
    listing : List ℕ → List ℕ → ℕ → Listed
    listing z w v = record { nodes = z; labels = w; capacity = v }

-- the last element
pub ended : (xs : List ℕ) → 0 < length xs → (ns : List ℕ) × (m : ℕ) × (xs ≡ ns ++ m ∷ [])
ended [] some = absurd (omega arith)
ended (x ∷ []) some = ([], x, refl)
ended (x ∷ (y ∷ ys)) some = let e = ended (y ∷ ys) (omega arith) in (x ∷ e.0, e.1, ap (λ (z : List ℕ). x ∷ z) e.2)

-- what stands before an element
pub before_cases : {xs : List ℕ} (ns : List ℕ) (b : ℕ) (ms : List ℕ) → xs ≡ ns ++ b ∷ ms
    → ((ns ≡ []) × (xs ≡ b ∷ ms))
    ⊎ ((ks : List ℕ) × (k : ℕ) × (ns ≡ ks ++ k ∷ []) × (xs ≡ ks ++ k ∷ (b ∷ ms)))
before_cases [] b ms is = inl (refl, is)
before_cases (x ∷ ns) b ms is =
    let e = ended (x ∷ ns) (omega arith) in
    inr (e.0, e.1, e.2, is ∙ (ap (λ (z : List ℕ). z ++ b ∷ ms) e.2 ∙ append_assoc e.0 (e.1 ∷ []) (b ∷ ms)))

-- p stands before b, and n is put behind p
module _ {end : ℕ} {old : List ℕ} {b p : ℕ} (none : (ms : List ℕ) → old ≡ b ∷ ms → p ≡ end)
    (some : (ns ms : List ℕ) (m : ℕ) → old ≡ ns ++ m ∷ (b ∷ ms) → p ≡ m) (real : p ≢ end) where
  pub before_it : (ns ms : List ℕ) → old ≡ ns ++ b ∷ ms
      → (ks : List ℕ) × (ns ≡ ks ++ p ∷ []) × (old ≡ ks ++ p ∷ (b ∷ ms))
  before_it ns ms is =
      elim (before_cases ns b ms is) [
        | inl first ↦ absurd (real (none ms first.1))
        | inr c ↦ (
            let p_is : c.1 ≡ p = sym (some c.0 ms c.1 c.3) in (
              c.0,
              c.2 ∙ ap (λ (z : ℕ). c.0 ++ z ∷ []) p_is,
              c.3 ∙ ap (λ (z : ℕ). c.0 ++ z ∷ (b ∷ ms)) p_is,
            )
            )
      ]

  pub put_is : {new : List ℕ} {n : ℕ} → ((ns ms : List ℕ) → old ≡ ns ++ p ∷ ms → new ≡ ns ++ p ∷ (n ∷ ms))
      → (ns ms : List ℕ) → old ≡ ns ++ b ∷ ms → new ≡ ns ++ n ∷ (b ∷ ms)
  put_is {new} {n} put ns ms is =
      let w = before_it ns ms is in
      put w.0 (b ∷ ms) w.2
      ∙ (sym (append_assoc w.0 (p ∷ []) (n ∷ (b ∷ ms))) ∙ ap (λ (z : List ℕ). z ++ n ∷ (b ∷ ms)) (sym w.1))

pub length_walk : (end : ℕ) (next : List ℕ) (from count : ℕ) → length (nodes_from end next from count) ≡ count
length_walk end next from zero = refl
length_walk end next from (suc count) = ap suc (length_walk end next (get_or next from end) count)

pub without_none : (n : ℕ) (xs : List ℕ) → (Mem n xs → ⊥) → without n xs ≡ xs
without_none n [] d = refl
without_none n (x ∷ xs) d =
    filter_yes (λ z. not (eqb z n)) x xs (is_held n x (λ e. d (inl (sym e))))
    ∙ ap (λ (z : List ℕ). x ∷ z) (without_none n xs (λ m. d (inr m)))

pub without_mid : (n : ℕ) (xs ys : List ℕ) → (Mem n xs → ⊥) → (Mem n ys → ⊥) → without n (xs ++ n ∷ ys) ≡ xs ++ ys
without_mid n xs ys d e =
    filter-append (λ z. not (eqb z n)) xs (n ∷ ys)
    ∙ (ap (λ (z : List ℕ). z ++ without n (n ∷ ys)) (without_none n xs d)
    ∙ ap (λ (z : List ℕ). xs ++ z)
    (filter_no (λ z. not (eqb z n)) n ys (ap not (eq-eqb n n refl)) ∙ without_none n ys e))

-- of differing elements, one that stands in the middle stands nowhere else
pub not_before : (us : List ℕ) (x : ℕ) (vs : List ℕ) → Unique (us ++ x ∷ vs) → Mem x us → ⊥
not_before us x vs u m = unique_cross us (x ∷ vs) u x m (inl refl)

pub not_behind : (us : List ℕ) (x : ℕ) (vs : List ℕ) → Unique (us ++ x ∷ vs) → Mem x vs → ⊥
not_behind us x vs u = (unique_right us (x ∷ vs) u).0

pub unique_without : (us : List ℕ) (x : ℕ) (vs : List ℕ) → Unique (us ++ x ∷ vs) → Unique (us ++ vs)
unique_without [] x vs u = u.1
unique_without (y ∷ us) x vs u = (λ m. u.0 (mem_into us vs x y m), unique_without us x vs u.1)

-- the links of a list of nodes: to the next and to the one before, and where `end` leads
pub record Linking : Type 0 where
  pub next : List ℕ
  pub previous : List ℕ
  pub first : ℕ
  pub last : ℕ

-- links over which a walk of `count` nodes gives these nodes
pub record Keeps (end : ℕ) (links : Linking) (count : ℕ) (nodes : List ℕ) : Type 0 where
  pub linked : AreLinksOf end links.next links.previous links.first links.last
      (nodes_from end links.next links.first count)
  pub same : nodes_from end links.next links.first count ≡ nodes

-- a chain of distinct nodes is what links keep
pub are_links : {end : ℕ} {next previous : List ℕ} {first last : ℕ} {xs : List ℕ}
    → IsLinkChain (neighbor end first next) (neighbor end last previous) end xs end → Unique (end ∷ xs)
    → ((n : ℕ) → Mem n xs → n < length previous) → AreLinksOf end next previous first last xs
are_links {end} {next} {previous} {first} {last} {xs} chain once within = record {
  chained = chain;
  distinct = distinct_from_unique (end ∷ xs) once;
  within = λ n c. within n (contains_mem xs n c);
}

-- a walk along links gives the nodes that they lead over
pub keeps : {end : ℕ} (links : Linking) {xs : List ℕ}
    → AreLinksOf end links.next links.previous links.first links.last xs → (count : ℕ) → count ≡ length xs
    → Keeps end links count xs
keeps {end} links {xs} s count is =
    let walked : nodes_from end links.next links.first count ≡ xs =
    ap (nodes_from end links.next links.first) is
    ∙ walk_is end links.first links.next (neighbor end links.last links.previous) xs s.chained
    (unique_from_distinct (end ∷ xs) s.distinct).0 in
    let P : List ℕ → Type 0 = λ z. AreLinksOf end links.next links.previous links.first links.last z in
    record { linked = subst P (sym walked) s; same = walked }

-- two joins put n between p and q; N' and P' are the links after the first
pub is_put : {N M P Q : ℕ → ℕ} {p n q : ℕ} (N' P' : ℕ → ℕ) → n ≢ p → n ≢ q → q ≡ N p
    → LeadsTo N N' p n → LeadsTo N' M n q → LeadsTo P P' n p → LeadsTo P' Q q n → IsPut N P M Q p n
is_put {N} {M} {P} {Q} {p} {n} {q} N' P' not_p not_q is to on from back = record {
  to = on.others p (λ e. not_p (sym e)) ∙ to.led;
  on = on.led ∙ is;
  ahead = λ k a b. on.others k b ∙ to.others k a;
  from = back.others n not_q ∙ from.led;
  back_to = ap Q (sym is) ∙ back.led;
  back = λ k a b. back.others k (λ e. b (e ∙ is)) ∙ from.others k a;
}

-- two joins link n between p and q, which stood on both sides of o; N' and P' are the links after the first
pub is_renamed : {N M P Q : ℕ → ℕ} {o p n q : ℕ} (N' P' : ℕ → ℕ) → p ≡ P o → q ≡ N o → n ≢ p → n ≢ q
    → LeadsTo N N' p n → LeadsTo N' M n q → LeadsTo P P' n p → LeadsTo P' Q q n → IsRenamed N P M Q o n
is_renamed {N} {M} {P} {Q} {o} {p} {n} {q} N' P' is_p is_q not_p not_q to on from back = record {
  to = ap M (sym is_p) ∙ (on.others p (λ e. not_p (sym e)) ∙ to.led);
  on = on.led ∙ is_q;
  ahead = λ k a b. on.others k b ∙ to.others k (λ e. a (e ∙ is_p));
  from = back.others n not_q ∙ (from.led ∙ is_p);
  back_to = ap Q (sym is_q) ∙ back.led;
  back = λ k a b. back.others k (λ e. b (e ∙ is_q)) ∙ from.others k a;
}

-- a node that a list lacks is neither in it nor its end
pub is_fresh : {end n : ℕ} {xs nodes : List ℕ}
    → xs ≡ nodes → n ≢ end → (Contains nodes n → ⊥) → Mem n (end ∷ xs) → ⊥
is_fresh {end} {n} {xs} {nodes} is real absent m =
    let P : List ℕ → Type 0 = λ z. Mem n z in
    elim m [ inl e ↦ real e | inr b ↦ absent (mem_contains nodes n (subst P is b)) ]

-- nor is it where a link of the list leads
pub not_led : {end n : ℕ} (xs : List ℕ) → (Mem n (end ∷ xs) → ⊥) → (q : ℕ) → Mem q (xs ++ end ∷ []) → n ≢ q
not_led {end} {n} xs fresh q m e =
    let P : ℕ → Type 0 = λ z. Mem z xs in
    elim (mem_cases xs (end ∷ []) q m) [
      | inl a ↦ fresh (inr (subst P (sym e) a))
      | inr b ↦ elim b [ inl is ↦ fresh (inl (e ∙ is)) | inr none ↦ none ]
    ]

-- a node that can be put into a list, and links with a place for it
pub record CanPut (end : ℕ) (xs previous : List ℕ) (now : Linking) (n : ℕ) : Type 0 where
  pub fresh : Mem n (end ∷ xs) → ⊥
  pub low : n < length previous
  pub long : length previous ≤ length now.previous

module _ {end : ℕ} {next previous : List ℕ} {first last : ℕ} {xs : List ℕ}
    (s : AreLinksOf end next previous first last xs) where
  pub once : Unique (end ∷ xs)
  once = unique_from_distinct (end ∷ xs) s.distinct

  pub inside : (n : ℕ) → Mem n xs → n < length previous
  inside n m = s.within n (mem_contains xs n m)

  pub few : length xs ≤ length previous
  few = fewer_than xs (length previous) once.1 inside

  pub last_is : (ns : List ℕ) (n : ℕ) → xs ≡ ns ++ n ∷ [] → last ≡ n
  last_is ns n is =
      let P : List ℕ → Type 0 = λ z. IsLinkChain (neighbor end first next) (neighbor end last previous) end z end in
      let c =
      chain_right (neighbor end first next) (neighbor end last previous) end ns n [] end (subst P is s.chained) in
      sym (neighbor_end end last previous) ∙ c.1

  pub last_in : 0 < length xs → Mem last xs
  last_in some =
      let e = ended xs some in
      let P : List ℕ → Type 0 = λ z. Mem last z in
      let Q : ℕ → Type 0 = λ z. Mem z (e.0 ++ e.1 ∷ []) in
      subst P (sym e.2) (subst Q (sym (last_is e.0 e.1 e.2)) (mem_right e.0 (e.1 ∷ []) e.1 (inl refl)))

  -- where a node leads
  pub next_is : (us : List ℕ) (n : ℕ) (vs : List ℕ) → xs ≡ us ++ n ∷ vs → get_or next n end ≡ first_of end vs
  next_is us n vs is =
      let P : List ℕ → Type 0 = λ z. IsLinkChain (neighbor end first next) (neighbor end last previous) end z end in
      let Q : List ℕ → Type 0 = λ z. Mem n z in
      let c =
      chain_right (neighbor end first next) (neighbor end last previous) end us n vs end (subst P is s.chained) in
      let real : n ≢ end = λ e.
      once.0 (let A : ℕ → Type 0 = λ z. Mem z xs in subst A e (subst Q (sym is) (mem_mid us vs n))) in
      sym (neighbor_node end first next n real) ∙ head n vs c
    where
      head : (p : ℕ) (ys : List ℕ) → IsLinkChain (neighbor end first next) (neighbor end last previous) p ys end
          → neighbor end first next p ≡ first_of end ys
      head p [] c = c.0
      head p (y ∷ ys) c = c.0

  -- what stands before a node
  pub previous_none : (n : ℕ) (vs : List ℕ) → xs ≡ n ∷ vs → get_or previous n end ≡ end
  previous_none n vs is =
      let P : List ℕ → Type 0 = λ z. IsLinkChain (neighbor end first next) (neighbor end last previous) end z end in
      let Q : List ℕ → Type 0 = λ z. Mem n z in
      let real : n ≢ end = λ e.
      once.0 (let A : ℕ → Type 0 = λ z. Mem z xs in subst A e (subst Q (sym is) (inl refl))) in
      sym (neighbor_node end last previous n real) ∙ (subst P is s.chained).1

  pub previous_is : (us : List ℕ) (m n : ℕ) (vs : List ℕ) → xs ≡ us ++ m ∷ (n ∷ vs) → get_or previous n end ≡ m
  previous_is us m n vs is =
      let P : List ℕ → Type 0 = λ z. IsLinkChain (neighbor end first next) (neighbor end last previous) end z end in
      let Q : List ℕ → Type 0 = λ z. Mem n z in
      let c =
      chain_right (neighbor end first next) (neighbor end last previous) end us m (n ∷ vs) end (subst P is s.chained) in
      let real : n ≢ end = λ e. once.0
      (let A : ℕ → Type 0 = λ z. Mem z xs in
      subst A e (subst Q (sym is) (mem_right us (m ∷ (n ∷ vs)) n (inr (inl refl))))) in
      sym (neighbor_node end last previous n real) ∙ c.1

  -- the links of a node lead to nodes, or to the end
  pub leads_within : (m : ℕ) → Mem m (xs ++ end ∷ []) → (m ≡ end) ⊎ (m < length previous)
  leads_within m h =
      elim (mem_cases xs (end ∷ []) m h) [
        | inl a ↦ inr (inside m a)
        | inr b ↦ elim b [ inl is ↦ inl is | inr none ↦ absurd none ]
      ]

  pub first_leads : Mem first (xs ++ end ∷ [])
  first_leads =
      let P : ℕ → Type 0 = λ z. Mem z (xs ++ end ∷ []) in
      subst P (neighbor_end end first next)
      (after_in (neighbor end first next) (neighbor end last previous) end xs end s.chained)

  module _ (n : ℕ) (m : Mem n xs) where
    real_node : n ≢ end
    real_node e = once.0 (let P : ℕ → Type 0 = λ z. Mem z xs in subst P e m)

    pub next_leads : Mem (get_or next n end) (xs ++ end ∷ [])
    next_leads =
        let at = split_at xs n m in
        let P : List ℕ → Type 0 = λ z. IsLinkChain (neighbor end first next) (neighbor end last previous) end z end in
        let c =
        chain_right (neighbor end first next) (neighbor end last previous) end at.0 n at.1 end
        (subst P at.2 s.chained) in
        let found = after_in (neighbor end first next) (neighbor end last previous) n at.1 end c in
        let Q : ℕ → Type 0 = λ z. Mem z (xs ++ end ∷ []) in
        let R : List ℕ → Type 0 = λ z. Mem (neighbor end first next n) (z ++ end ∷ []) in
        subst Q (neighbor_node end first next n real_node)
        (subst R (sym at.2) (elim (mem_cases at.1 (end ∷ []) _ found) [
          | inl a ↦ mem_left (at.0 ++ n ∷ at.1) (end ∷ []) _ (mem_right at.0 (n ∷ at.1) _ (inr a))
          | inr b ↦ mem_right (at.0 ++ n ∷ at.1) (end ∷ []) _ b
        ]))

    pub previous_leads : (get_or previous n end ≡ end) ⊎ Mem (get_or previous n end) xs
    previous_leads =
        let at = split_at xs n m in
        let P : List ℕ → Type 0 = λ z. IsLinkChain (neighbor end first next) (neighbor end last previous) end z end in
        let c =
        chain_left (neighbor end first next) (neighbor end last previous) end at.0 n at.1 end
        (subst P at.2 s.chained) in
        let found = before_in (neighbor end first next) (neighbor end last previous) end at.0 n c in
        let Q : ℕ → Type 0 = λ z. Mem z (end ∷ xs) in
        let R : List ℕ → Type 0 = λ z. Mem (neighbor end last previous n) (end ∷ z) in
        subst Q (neighbor_node end last previous n real_node) (subst R (sym at.2) (elim found [
          | inl a ↦ inl a
          | inr b ↦ inr (mem_left at.0 (n ∷ at.1) _ b)
        ]))

  -- n is put behind p, which is a node or the end
  module _ {now : Linking} {n : ℕ} (can : CanPut end xs previous now n) where
    put_within : (ys : List ℕ) → ((m : ℕ) → Mem m ys → (m ≡ n) ⊎ Mem m xs) → (m : ℕ) → Mem m ys → m < length
        now.previous
    put_within ys from m h =
        elim (from m h) [
          | inl is ↦ omega (arith, is, can.low, can.long)
          | inr old ↦ omega (arith, inside m old, can.long)
        ]

    pub put_first_chain : IsPut (neighbor end first next) (neighbor end last previous) (neighbor end now.first now.next)
        (neighbor end now.last now.previous) end n
        → IsLinkChain (neighbor end now.first now.next) (neighbor end now.last now.previous) end (n ∷ xs) end
    put_first_chain w =
        put_behind_start _ _ _ _ end n xs end w s.chained (λ h. not_led xs can.fresh n h refl) once.0
        (unique_last xs end once.1 once.0)

    module _ (w : IsPut (neighbor end first next) (neighbor end last previous) (neighbor end now.first now.next)
        (neighbor end now.last now.previous) end n) (count : ℕ) (is : count ≡ length xs + 1) where
      once_first : Unique (end ∷ (n ∷ xs))
      once_first = (
        λ m. elim m [ inl e ↦ can.fresh (inl (sym e)) | inr b ↦ once.0 b ],
        (λ m. can.fresh (inr m), once.1),
      )

      pub put_first_kept : Keeps end now count (n ∷ xs)
      put_first_kept =
          keeps now (are_links (put_first_chain w) once_first (put_within (n ∷ xs) (λ m h. h))) count
          (omega (arith, is))

    module _ {p : ℕ} (w : IsPut (neighbor end first next) (neighbor end last previous) (neighbor end now.first now.next)
        (neighbor end now.last now.previous) p n) (count : ℕ) (is : count ≡ length xs + 1) (us vs : List ℕ)
        (at : xs ≡ us ++ p ∷ vs) where
      put_chain : IsLinkChain (neighbor end now.first now.next) (neighbor end now.last now.previous) end
          (us ++ p ∷ (n ∷ vs)) end
      put_chain =
          let A : List ℕ → Type 0 = λ z. IsLinkChain (neighbor end first next) (neighbor end last previous) end z end in
          let B : List ℕ → Type 0 = λ z. Unique (end ∷ z) in
          let C : List ℕ → Type 0 = λ z. Mem n (end ∷ z) → ⊥ in
          put_behind_member _ _ _ _ p n us vs end w (subst A at s.chained) (subst B at once) (subst C at can.fresh)

      from_put : (m : ℕ) → Mem m (us ++ p ∷ (n ∷ vs)) → (m ≡ n) ⊎ Mem m xs
      from_put m h =
          let A : List ℕ → Type 0 = λ z. Mem m z in
          elim (mem_cases us (p ∷ (n ∷ vs)) m h) [
            | inl a ↦ inr (subst A (sym at) (mem_left us (p ∷ vs) m a))
            | inr b ↦ elim b [
              | inl is_p ↦ inr (subst A (sym at) (mem_right us (p ∷ vs) m (inl is_p)))
              | inr c ↦ elim c [
                | inl is_n ↦ inl is_n
                | inr d ↦ inr (subst A (sym at) (mem_right us (p ∷ vs) m (inr d)))
              ]
            ]
          ]

      once_put : Unique (end ∷ (us ++ p ∷ (n ∷ vs)))
      once_put =
          let A : List ℕ → Type 0 = λ z. Unique (end ∷ z) in
          let B : List ℕ → Type 0 = λ z. Mem n z → ⊥ in
          let u = subst A at once in
          let C : List ℕ → Type 0 = λ z. Unique z in
          let both : us ++ p ∷ vs ≡ (us ++ p ∷ []) ++ vs = sym (append_assoc us (p ∷ []) vs) in
          let not_in = subst B at (λ m. can.fresh (inr m)) in (
            λ m. elim (from_put end m) [ inl e ↦ can.fresh (inl (sym e)) | inr b ↦ once.0 b ],
            subst C (append_assoc us (p ∷ []) (n ∷ vs))
                (unique_mid (us ++ p ∷ []) vs n (subst C both u.1) (subst B both not_in)),
          )

      count_put : count ≡ length (us ++ p ∷ (n ∷ vs))
      count_put =
          omega (
            arith,
            is,
            ap (λ (z : List ℕ). length z) at,
            length-append us (p ∷ vs),
            length-append us (p ∷ (n ∷ vs)),
          )

      pub put_kept : Keeps end now count (us ++ p ∷ (n ∷ vs))
      put_kept =
          keeps now (are_links put_chain once_put (put_within (us ++ p ∷ (n ∷ vs)) from_put)) count
          count_put

    -- o is renamed to n
    module _ {o : ℕ} (w : IsRenamed (neighbor end first next) (neighbor end last previous)
        (neighbor end now.first now.next) (neighbor end now.last now.previous) o n) (count : ℕ) (is : count ≡ length xs)
        (us vs : List ℕ) (at : xs ≡ us ++ o ∷ vs) where
      once_others : Unique (end ∷ (us ++ vs))
      once_others =
          let A : List ℕ → Type 0 = λ z. Unique (end ∷ z) in
          let u = subst A at once in (λ h. u.0 (mem_into us vs o end h), unique_without us o vs u.1)

      not_there : Mem n (end ∷ (us ++ o ∷ vs)) → ⊥
      not_there = let A : List ℕ → Type 0 = λ z. Mem n (end ∷ z) → ⊥ in subst A at can.fresh

      renamed_chain : IsLinkChain (neighbor end now.first now.next) (neighbor end now.last now.previous) end
          (us ++ n ∷ vs) end
      renamed_chain =
          let A : List ℕ → Type 0 = λ z. IsLinkChain (neighbor end first next) (neighbor end last previous) end z end in
          rename_member _ _ _ _ o n us vs end w (subst A at s.chained) once_others not_there

      from_renamed : (m : ℕ) → Mem m (us ++ n ∷ vs) → (m ≡ n) ⊎ Mem m xs
      from_renamed m h =
          let A : List ℕ → Type 0 = λ z. Mem m z in
          elim (mem_out us vs n m h) [
            | inl e ↦ inl e
            | inr b ↦ inr (subst A (sym at) (mem_into us vs o m b))
          ]

      once_renamed : Unique (end ∷ (us ++ n ∷ vs))
      once_renamed = (
        λ h. elim (from_renamed end h) [ inl e ↦ can.fresh (inl (sym e)) | inr b ↦ once.0 b ],
        unique_mid us vs n once_others.1 (λ h. not_there (inr (mem_into us vs o n h))),
      )

      count_renamed : count ≡ length (us ++ n ∷ vs)
      count_renamed =
          omega (
            arith,
            is,
            ap (λ (z : List ℕ). length z) at,
            length-append us (o ∷ vs),
            length-append us (n ∷ vs),
          )

      pub renamed_kept : Keeps end now count (us ++ n ∷ vs)
      renamed_kept =
          keeps now (are_links renamed_chain once_renamed (put_within (us ++ n ∷ vs) from_renamed)) count
          count_renamed

  -- n is taken out
  module _ (now : Linking) {n : ℕ} (long : length previous ≤ length now.previous)
      (w : IsTaken (neighbor end first next) (neighbor end last previous) (neighbor end now.first now.next)
      (neighbor end now.last now.previous) n) (count : ℕ) (is : count + 1 ≡ length xs) (us vs : List ℕ)
      (at : xs ≡ us ++ n ∷ vs) where
    once_at : Unique (end ∷ (us ++ n ∷ vs))
    once_at = let A : List ℕ → Type 0 = λ z. Unique (end ∷ z) in subst A at once

    once_left : Unique (end ∷ (us ++ vs))
    once_left = (λ h. once_at.0 (mem_into us vs n end h), unique_without us n vs once_at.1)

    chain_taken : IsLinkChain (neighbor end now.first now.next) (neighbor end now.last now.previous) end (us ++ vs) end
    chain_taken =
        let A : List ℕ → Type 0 = λ z. IsLinkChain (neighbor end first next) (neighbor end last previous) end z end in
        take_member _ _ _ _ n us vs end w (subst A at s.chained) once_left

    within_taken : (k : ℕ) → Mem k (us ++ vs) → k < length now.previous
    within_taken k h =
        let A : List ℕ → Type 0 = λ z. Mem k z in
        omega (arith, inside k (subst A (sym at) (mem_into us vs n k h)), long)

    count_taken : count ≡ length (us ++ vs)
    count_taken = omega (arith, is, ap (λ (z : List ℕ). length z) at, length-append us (n ∷ vs), length-append us vs)

    pub taken_kept : Keeps end now count (without n xs)
    taken_kept =
        let is_left : without n xs ≡ us ++ vs =
        ap (without n) at ∙ without_mid n us vs (not_before us n vs once_at.1) (not_behind us n vs once_at.1) in
        let kept = keeps now (are_links chain_taken once_left within_taken) count count_taken in
        record { linked = kept.linked; same = kept.same ∙ sym is_left }

-- links lead over the same nodes when their lists are made longer
pub grown : {end : ℕ} {next previous : List ℕ} {first last : ℕ} {nodes : List ℕ} (count : ℕ) (next' previous' : List ℕ)
    → AreLinksOf end next previous first last (nodes_from end next first count)
    → nodes_from end next first count ≡ nodes
    → length previous ≤ length previous'
    → ((k : ℕ) → get_or next' k end ≡ get_or next k end) → ((k : ℕ) → get_or previous' k end ≡ get_or previous k end)
    → Keeps end (record { next = next'; previous = previous'; first = first; last = last }) count nodes
grown {end} {next} {previous} {first} {last} {nodes} count next' previous' s is long same back =
    let xs = nodes_from end next first count in
    let chain =
    chain_same (neighbor end first next) (neighbor end last previous) (neighbor end first next')
    (neighbor end last previous') end xs end (λ k m. ap (λ z. cond (eqb k end) first z) (same k))
    (λ k m. ap (λ z. cond (eqb k end) last z) (back k)) s.chained in
    let now : Linking = record { next = next'; previous = previous'; first = first; last = last } in
    let within : (n : ℕ) → Mem n xs → n < length previous' = λ n m. omega (arith, inside s n m, long) in
    let kept =
    keeps now (are_links chain (once s) within) count (sym (length_walk end next first count)) in
    record { linked = kept.linked; same = kept.same ∙ is }
