-- The nodes that one node needs, and how far they are computed.
use Rattle.std.proofs.Common.{◌≡◌, ◌≢◌, ℕ, zero, suc, ◌+◌, ◌<◌, ◌≤◌, ◌⊎◌, inl, inr, Bool, List, [], ◌∷◌, ◌++◌}
use Rattle.std.proofs.Common.{length, map, take, get_or, refl, sym, ap, subst, ◌∙◌, arith, Contains, if◌then◌else◌}
use Rattle.std.proofs.lemmas.Bool.{cases_eq}
use Rattle.std.proofs.lemmas.List.{map_more, length-map, get_or-map, append-nil}
use Rattle.daggy_base.specs.Graph.{Graph, HasNode}
use Rattle.daggy_base.specs.Ordered.{IsOrderOf, place}
use Rattle.daggy_base.specs.Path.{AreJoined, Reaches}
use Rattle.daggy_base.specs.WellFormed.{AreDistinct}
use Rattle.daggy_base.proofs.Lists.{Mem, mem_out, mem_left, mem_right, mem_cases, mem_at, contains_mem, mem_contains, unique_append}
use Rattle.daggy_base.proofs.Lists.{unique_from_distinct, distinct_from_unique}
use Rattle.daggy_base.proofs.Sorted.{place_same, place_other, place_left, place_right, same_place}
use Rattle.daggy_reduction.specs.Descendants.{IsAncestorOfAny, IsDescendantOf, IsOrderOfPart}
use Rattle.daggy_computed.specs.declared.entry.Entry.{Entry}
use Rattle.daggy_computed.specs.Cells.{cells, IsStaleAt}
use Rattle.daggy_computed.specs.Refreshing.{IsAscending}
use Rattle.daggy_computed.specs.Settling.{IsTurn, Refreshes}
use Rattle.daggy_computed.proofs.Marked.{place_low, placed, placed_low}
use Rattle.daggy_computed.proofs.Turns.{one_more}
use Rattle.daggy_computed.proofs.UnderWay.{ascending_more}
use Rattle.daggy_computed.proofs.WholeRefresh.{before_reached}

-- ---- a node and its ancestors

place_front : (xs ys : List ℕ) (n : ℕ) → Mem n xs → place (xs ++ ys) n ≡ place xs n
place_front [] ys n m = absurd m
place_front (x ∷ xs) ys n m =
    elim (cases_eq x n) [
      | inl e ↦ place_same x n (xs ++ ys) e ∙ sym (place_same x n xs e)
      | inr d ↦ (
          let rest : Mem n xs = elim m [ inl e ↦ absurd (d (sym e)) | inr k ↦ k ] in
          place_other x n (xs ++ ys) d ∙ (ap suc (place_front xs ys n rest) ∙ sym (place_other x n xs d))
          )
    ]

module _ {N E : Type 0} (g : Graph N E) (order : List ℕ) (ordered : IsOrderOf g order) (n : ℕ) where
  -- n, or a node that reaches it
  abbrev pub Needs : ℕ → Type 0
  Needs m = (m ≡ n) ⊎ Reaches g m n

  exists : (u v : ℕ) → AreJoined g u v → HasNode g u
  exists u v j = (ordered.exact u).0 (placed order u (omega (arith, ordered.sorted u v j, place_low order v)))

  of_ancestor : (m : ℕ) → IsAncestorOfAny g (n ∷ []) m → IsDescendantOf g m n
  of_ancestor m a =
      let is : a.0 ≡ n = elim (contains_mem (n ∷ []) a.0 a.1) [ inl e ↦ e | inr k ↦ absurd k ] in
      subst (IsDescendantOf g m) is a.2

  reaches_down : (m : ℕ) → IsDescendantOf g m n → Reaches g m n
  reaches_down m d = (d.0 ∷ d.2.0, (exists m d.0 d.1, d.1, d.2.1), d.2.2)

  as_ancestor : (m : ℕ) → IsDescendantOf g m n → IsAncestorOfAny g (n ∷ []) m
  as_ancestor m d = (n, mem_contains (n ∷ []) n (inl refl), d)

  or_ancestor : (m : ℕ) → Reaches g m n → (m ≡ n) ⊎ IsAncestorOfAny g (n ∷ []) m
  or_ancestor m ([], p, e) = inl e
  or_ancestor m (v ∷ rest, p, e) = inr (as_ancestor m (v, p.1, (rest, p.2, e)))

  -- no node is reached by one that it leads to
  no_way_back : (m : ℕ) → IsDescendantOf g m n → Reaches g n m → ⊥
  no_way_back m d r =
      absurd (omega (
        arith,
        ordered.sorted m d.0 d.1,
        before_reached g order ordered d.0 n d.2,
        before_reached g order ordered n m r,
      ))

  module _ (above : List ℕ) (part : IsOrderOfPart g (IsAncestorOfAny g (n ∷ [])) above) where
    descends : (m : ℕ) → Mem m above → IsDescendantOf g m n
    descends m k = of_ancestor m ((part.exact m).0 (mem_contains above m k))

    absent : Mem n above → ⊥
    absent k =
        let d = descends n k in
        absurd (omega (arith, ordered.sorted n d.0 d.1, before_reached g order ordered d.0 n d.2))

    either : (m : ℕ) → Contains (above ++ n ∷ []) m → Mem m above ⊎ (m ≡ n)
    either m c =
        elim (mem_cases above (n ∷ []) m (contains_mem (above ++ n ∷ []) m c)) [
          | inl k ↦ inl k
          | inr k ↦ elim k [ inl e ↦ inr e | inr k ↦ absurd k ]
        ]

    at_end : (m : ℕ) → m ≡ n → place (above ++ n ∷ []) m ≡ length above
    at_end m e =
        let P : ℕ → Type 0 = λ z. place (above ++ n ∷ []) z ≡ length above in
        subst P (sym e) (omega (arith, place_right above (n ∷ []) n absent, place_same n n [] refl))

    pub needed_part : IsOrderOfPart g Needs (above ++ n ∷ [])
    needed_part =
        record {
          exact = λ m. (
            λ c. elim (either m c) [ inl k ↦ inr (reaches_down m (descends m k)) | inr e ↦ inl e ],
            λ h.
                let here : m ≡ n → Contains (above ++ n ∷ []) m =
                λ e. mem_contains (above ++ n ∷ []) m (mem_right above (n ∷ []) m (inl e)) in
                elim h [
                  | inl e ↦ here e
                  | inr r ↦ elim (or_ancestor m r) [
                    | inl e ↦ here e
                    | inr a ↦
                        mem_contains (above ++ n ∷ []) m
                        (mem_left above (n ∷ []) m (contains_mem above m ((part.exact m).1 a)))
                  ]
                ],
          );
          once = distinct_from_unique (above ++ n ∷ [])
              (unique_append above (n ∷ []) (unique_from_distinct above part.once)
              (unique_from_distinct (n ∷ []) (λ c. contains_mem [] n c, tt))
              (λ m k l. elim l [ inl e ↦ absent (subst (λ z. Mem z above) e k) | inr l ↦ l ]));
          sorted = λ u v c d r. elim (either v d) [
            | inl k ↦ elim (either u c) [
              | inl j ↦
                  omega (
                    arith,
                    place_front above (n ∷ []) u j,
                    place_front above (n ∷ []) v k,
                    part.sorted u v (mem_contains above u j) (mem_contains above v k) r,
                  )
              | inr e ↦ absurd (no_way_back v (descends v k) (subst (λ z. Reaches g z v) e r))
            ]
            | inr f ↦ elim (either u c) [
              | inl j ↦ omega (arith, place_left above (n ∷ []) u j, at_end v f)
              | inr e ↦ omega (arith, at_end u e, at_end v f)
            ]
          ];
        }

-- ---- numbers of a list

-- one node more of a list is not bad
pub one_more_listed : {I : Type 0} (number : I → ℕ) (xs : List I) (i : ℕ) (x : I) (Bad : ℕ → Type 0) → i < length xs
    → x ≡ get_or xs i x → ((n : ℕ) → Contains (map number (take i xs)) n → ¬ Bad n) → (Bad (number x) → ⊥)
    → (n : ℕ) → Contains (map number (take (i + 1) xs)) n → ¬ Bad n
one_more_listed number xs i x Bad low at so_far good n c b =
    let P : List ℕ → Type 0 = λ z. Contains z n in
    let is : map number (take (i + 1) xs) ≡ map number (take i xs) ++ number x ∷ [] =
    map_more number xs i x low ∙ ap (λ z. map number (take i xs) ++ number z ∷ []) (sym at) in
    elim (mem_out (map number (take i xs)) [] (number x) n (contains_mem _ n (subst P is c))) [
      | inl here ↦ good (subst Bad here b)
      | inr before ↦ so_far n (mem_contains _ n (subst (Mem n) (append-nil (map number (take i xs))) before)) b
    ]

-- a node of a list is among its numbers
pub listed_number : {I : Type 0} (number : I → ℕ) (xs : List I) (i : ℕ) (x : I) → i < length xs → x ≡ get_or xs i x
    → Contains (map number xs) (number x)
listed_number number xs i x low at =
    mem_contains _ (number x)
    (subst (λ z. Mem z (map number xs)) (get_or-map number xs i x (number x) low ∙ ap number (sym at))
    (mem_at (map number xs) i (number x) (omega (arith, low, length-map xs number))))

-- the number at an index
pub number_at : {I : Type 0} (number : I → ℕ) (xs : List I) (i : ℕ) (x : I) → i < length xs → x ≡ get_or xs i x
    → (i < length (map number xs)) × (get_or (map number xs) i (number x) ≡ number x)
number_at number xs i x low at =
    (omega (arith, low, length-map xs number), get_or-map number xs i x (number x) low ∙ ap number (sym at))

-- ---- computed so far

place_nth : (ns : List ℕ) → AreDistinct ns → (i n : ℕ) → i < length ns → get_or ns i n ≡ n → place ns n ≡ i
place_nth [] d i n low is = absurd (omega (arith, low))
place_nth (x ∷ xs) d zero n low is = place_same x n xs is
place_nth (x ∷ xs) d (suc i) n low is =
    let below : i < length xs = omega (arith, low) in
    let rest : Mem n xs = subst (λ z. Mem z xs) is (mem_at xs i n below) in
    let apart : x ≢ n = λ e. d.0 (mem_contains xs x (subst (λ z. Mem z xs) (sym e) rest)) in
    place_other x n xs apart ∙ ap suc (place_nth xs d.1 i n below is)

module _ {K V E : Type 0} (eq : V → V → Bool) (gives : K → List V → V → Type 0) (ns : List ℕ) (g : Graph K E) where
  -- the first i of the nodes had their turns where they were stale
  pub record IsDoneTo (i : ℕ) (es now : List (Entry V)) (changed : List ℕ) : Type 0 where
    pub turns : List ℕ
    pub ascending : IsAscending ns turns
    pub among : (t : ℕ) → Mem t turns → Mem t ns
    pub there : (t : ℕ) → Mem t turns → HasNode g t
    pub before : (t : ℕ) → Mem t turns → place ns t < i
    pub refreshes : Refreshes eq gives turns (cells g es) (cells g now) changed
    pub fresh : (m : ℕ) → Mem m ns → place ns m < i → ¬ IsStaleAt now m

  pub none_done : (es : List (Entry V)) (changed : List ℕ) → changed ≡ [] → IsDoneTo 0 es es changed
  none_done es changed none =
      record {
        turns = [];
        ascending = tt;
        among = λ t k. absurd k;
        there = λ t k. absurd k;
        before = λ t k. absurd k;
        refreshes = (refl, none);
        fresh = λ m k low. absurd (omega (arith, low));
      }

  -- what is known when the computation ends
  pub turns_done : (i : ℕ) (es now next : List (Entry V)) (changed more : List ℕ) → IsDoneTo i es now changed → next ≡ now
      → more ≡ changed
      → (turns : List ℕ) × IsAscending ns turns × ((m : ℕ) → Contains turns m → Contains ns m × HasNode g m)
      × Refreshes eq gives turns (cells g es) (cells g next) more
  turns_done i es now next changed more done same noted = (
    done.turns,
    done.ascending,
    λ m c. (
      mem_contains ns m (done.among m (contains_mem done.turns m c)),
      done.there m (contains_mem done.turns m c),
    ),
    subst (λ z. Refreshes eq gives done.turns (cells g es) (cells g z) more) (sym same)
        (subst (Refreshes eq gives done.turns (cells g es) (cells g now)) (sym noted) done.refreshes),
  )

  pub all_fresh : (i : ℕ) (es now : List (Entry V)) (changed : List ℕ) → IsDoneTo i es now changed → length ns ≤ i
      → (m : ℕ) → Contains ns m → ¬ IsStaleAt now m
  all_fresh i es now changed done past m c =
      done.fresh m (contains_mem ns m c) (omega (arith, past, placed_low ns m c))

  module _ (part : IsOrderOfPart g (Contains ns) ns) (i : ℕ) (es now : List (Entry V)) (changed : List ℕ) (n : ℕ)
      (done : IsDoneTo i es now changed) (low : i < length ns) (is : get_or ns i n ≡ n) where
    at : place ns n ≡ i
    at = place_nth ns part.once i n low is

    here : Mem n ns
    here = subst (λ z. Mem z ns) is (mem_at ns i n low)

    -- it is not stale
    pub passed : (more : List ℕ) → more ≡ changed → (IsStaleAt now n → ⊥) → IsDoneTo (i + 1) es now more
    passed more same fresh =
        record {
          turns = done.turns;
          ascending = done.ascending;
          among = done.among;
          there = done.there;
          before = λ t k. omega (arith, done.before t k);
          refreshes = subst (Refreshes eq gives done.turns (cells g es) (cells g now)) (sym same) done.refreshes;
          fresh = λ m k below s. elim (cases_eq (place ns m) i) [
            | inl e ↦ fresh (subst (IsStaleAt now) (same_place ns m n k here (e ∙ sym at)) s)
            | inr d ↦ done.fresh m k (omega (arith, below, d)) s
          ];
        }

    -- it has its turn
    pub turned : (next : List (Entry V)) (b : Bool) → IsTurn eq gives n (cells g now) (cells g next) b → HasNode g n
        → ((m : ℕ) → AreJoined g m m → ⊥)
        → ((m : ℕ) → IsStaleAt next m → (AreJoined g n m × HasNode g n × HasNode g m) ⊎ ((m ≢ n) × IsStaleAt now m))
        → (more : List ℕ) → more ≡ changed ++ (if b then n ∷ [] else []) → IsDoneTo (i + 1) es next more
    turned next b turn exists_here loops after more same =
        record {
          turns = done.turns ++ n ∷ [];
          ascending = ascending_more ns done.turns n done.ascending (λ t k. omega (arith, done.before t k, at));
          among = λ t k. elim (mem_cases done.turns (n ∷ []) t k) [
            | inl k ↦ done.among t k
            | inr k ↦ elim k [ inl e ↦ subst (λ z. Mem z ns) (sym e) here | inr k ↦ absurd k ]
          ];
          there = λ t k. elim (mem_cases done.turns (n ∷ []) t k) [
            | inl k ↦ done.there t k
            | inr k ↦ elim k [ inl e ↦ subst (HasNode g) (sym e) exists_here | inr k ↦ absurd k ]
          ];
          before = λ t k. elim (mem_cases done.turns (n ∷ []) t k) [
            | inl k ↦ omega (arith, done.before t k)
            | inr k ↦ elim k [ inl e ↦ omega (arith, ap (place ns) e, at) | inr k ↦ absurd k ]
          ];
          refreshes = subst (Refreshes eq gives (done.turns ++ n ∷ []) (cells g es) (cells g next)) (sym same)
              (one_more eq gives done.turns n (cells g es) (cells g now) (cells g next) changed b done.refreshes turn);
          fresh = λ m k below s. elim (after m s) [
            | inl j ↦ (
                let le = part.sorted n m (mem_contains ns n here) (mem_contains ns m k) (m ∷ [], (j.1, j.0, j.2), refl) in
                let same_as : m ≡ n = same_place ns m n k here (omega (arith, below, le, at)) in
                loops n (subst (AreJoined g n) same_as j.0)
                )
            | inr t ↦ elim (cases_eq (place ns m) i) [
              | inl e ↦ t.0 (same_place ns m n k here (e ∙ sym at))
              | inr d ↦ done.fresh m k (omega (arith, below, d)) t.1
            ]
          ];
        }
