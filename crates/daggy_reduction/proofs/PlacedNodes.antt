-- The nodes below some roots, listed in an order with the place of each.
use Rattle.std.proofs.Common.{◌≡◌, ◌≢◌, ℕ, ◌+◌, ◌<◌, ◌≤◌, Bool, true, false, ◌⊎◌, ◌↔◌, inl, inr, List, [], ◌∷◌}
use Rattle.std.proofs.Common.{not, length-append, length-set, append_assoc, append-nil, ◌++◌, length, get_or, set, take, refl, sym, ap, subst, ◌∙◌, arith, Contains}
use Rattle.std.specs.List.{filter}
use Rattle.std.proofs.lemmas.Bool.{cases_eq}
use Rattle.std.proofs.lemmas.List.{get_or-set_same, get_or-set_other, get_or-take, length-take-le, take-set}
use Rattle.std.proofs.lemmas.List.{take_more}
use Rattle.std.proofs.lemmas.List.Filters.{length-filter_both}
use Rattle.std.proofs.lemmas.List.Elements.{filter-append}
use Rattle.daggy_base.specs.Graph.{Graph, node_bound, node_count}
use Rattle.daggy_base.specs.Path.{AreJoined}
use Rattle.daggy_base.specs.Reduction.{IsBelow}
use Rattle.daggy_base.specs.WellFormed.{IsWellFormed}
use Rattle.daggy_base.specs.Ordered.{IsOrderOf, place}
use Rattle.daggy_base.proofs.Lists.{Mem, Unique, mem_at, mem_right, mem_cases, mem_contains, contains_mem}
use Rattle.daggy_base.proofs.Lists.{fewer_than, unique_from_distinct}
use Rattle.daggy_base.proofs.OutEdgesRead.{below_bound}
use Rattle.daggy_base.proofs.PathsWithEdge.{reaches_on}
use Rattle.daggy_base.proofs.Sorted.{mem_filter, filter_mem, place_at, place_same, place_other, unique_cross}
use Rattle.daggy_base.proofs.ListParts.{filter_yes, filter_no}
use Rattle.daggy_reduction.specs.Blocks.{IsPlaced, LeadAtMost}
use Rattle.daggy_reduction.specs.SearchSpan.{SpansAtMost}
use Rattle.daggy_redundant.proofs.FlaggedRedundant.{joined_exist}
use Rattle.daggy_redundant.proofs.Paths.{reaches_one}
use Rattle.daggy_redundant.proofs.QueueProgress.{take_none}
use Rattle.daggy_search.specs.Work.{Work, IsSized}
use Rattle.daggy_search.proofs.Sized.{sized_put_node, sized_put_cursor}
use Rattle.daggy_redundant.proofs.SweptNodes.{below_exists, few_there}

either : (b : Bool) → (b ≡ false) ⊎ (b ≡ true)
either false = inl refl
either true = inr refl

-- some of a list stand as they stood
pub filter_places : (p : ℕ → Bool) (xs : List ℕ) (u v : ℕ) → p u ≡ true → p v ≡ true → place xs u < place xs v
    → place (filter p xs) u < place (filter p xs) v
filter_places p [] u v pu pv h = absurd (omega (arith, h))
filter_places p (x ∷ xs) u v pu pv h =
    elim (cases_eq x v) [
      | inl e ↦ absurd (omega (arith, h, place_same x v xs e))
      | inr nv ↦ elim (cases_eq x u) [
        | inl e ↦
            (let yes = filter_yes p x xs (ap p e ∙ pu) in
            let P : List ℕ → Type 0 = λ z. place z u < place z v in
            let at = place_same x u (filter p xs) e in
            let later = place_other x v (filter p xs) nv in
            let less : place (x ∷ filter p xs) u < place (x ∷ filter p xs) v = omega (arith, at, later) in
            subst P (sym yes) less)
        | inr nu ↦
            (let rest : place xs u < place xs v = omega (arith, h, place_other x u xs nu, place_other x v xs nv) in
            let below = filter_places p xs u v pu pv rest in
            go below nu nv (p x) refl)
      ]
    ]
  where
    go : place (filter p xs) u < place (filter p xs) v → x ≢ u → x ≢ v → (b : Bool) → b ≡ p x
        → place (filter p (x ∷ xs)) u < place (filter p (x ∷ xs)) v
    go below nu nv true is =
        let P : List ℕ → Type 0 = λ z. place z u < place z v in
        let less : place (x ∷ filter p xs) u < place (x ∷ filter p xs) v =
        omega (arith, below, place_other x u (filter p xs) nu, place_other x v (filter p xs) nv) in
        subst P (sym (filter_yes p x xs (sym is))) less
    go below nu nv false is =
        let P : List ℕ → Type 0 = λ z. place z u < place z v in
        subst P (sym (filter_no p x xs (sym is))) below

filter_before : (p : ℕ → Bool) (xs : List ℕ) (v : ℕ) → p v ≡ true → place (filter p xs) v ≤ place xs v
filter_before p [] v pv = omega arith
filter_before p (x ∷ xs) v pv =
    elim (cases_eq x v) [
      | inl e ↦
          omega (
            arith,
            ap (λ (z : List ℕ). place z v) (filter_yes p x xs (ap p e ∙ pv)),
            place_same x v (filter p xs) e,
          )
      | inr nv ↦ go nv (filter_before p xs v pv) (p x) refl
    ]
  where
    go : x ≢ v → place (filter p xs) v ≤ place xs v → (b : Bool) → b ≡ p x
        → place (filter p (x ∷ xs)) v ≤ place (x ∷ xs) v
    go nv rest true is =
        omega (
          arith,
          ap (λ (z : List ℕ). place z v) (filter_yes p x xs (sym is)),
          place_other x v (filter p xs) nv,
          place_other x v xs nv,
          rest,
        )
    go nv rest false is =
        omega (
          arith,
          ap (λ (z : List ℕ). place z v) (filter_no p x xs (sym is)),
          place_other x v xs nv,
          rest,
        )

-- and they stand no farther apart
filter_nearer : (p : ℕ → Bool) (xs : List ℕ) (u v : ℕ) → p u ≡ true → p v ≡ true → place xs u < place xs v
    → place (filter p xs) v + place xs u ≤ place (filter p xs) u + place xs v
filter_nearer p [] u v pu pv h = absurd (omega (arith, h))
filter_nearer p (x ∷ xs) u v pu pv h =
    elim (cases_eq x v) [
      | inl e ↦ absurd (omega (arith, h, place_same x v xs e))
      | inr nv ↦ elim (cases_eq x u) [
        | inl e ↦
            omega (
              arith,
              ap (λ (z : List ℕ). place z u) (filter_yes p x xs (ap p e ∙ pu)),
              place_same x u (filter p xs) e,
              place_same x u xs e,
              ap (λ (z : List ℕ). place z v) (filter_yes p x xs (ap p e ∙ pu)),
              place_other x v (filter p xs) nv,
              place_other x v xs nv,
              filter_before p xs v pv,
            )
        | inr nu ↦
            go nu nv
            (filter_nearer p xs u v pu pv (omega (arith, h, place_other x u xs nu, place_other x v xs nv))) (p x) refl
      ]
    ]
  where
    go : x ≢ u → x ≢ v → place (filter p xs) v + place xs u ≤ place (filter p xs) u + place xs v → (b : Bool) → b ≡ p x
        → place (filter p (x ∷ xs)) v + place (x ∷ xs) u ≤ place (filter p (x ∷ xs)) u + place (x ∷ xs) v
    go nu nv rest true is =
        omega (
          arith,
          rest,
          ap (λ (z : List ℕ). place z u) (filter_yes p x xs (sym is)),
          ap (λ (z : List ℕ). place z v) (filter_yes p x xs (sym is)),
          place_other x u (filter p xs) nu,
          place_other x v (filter p xs) nv,
          place_other x u xs nu,
          place_other x v xs nv,
        )
    go nu nv rest false is =
        omega (
          arith,
          rest,
          ap (λ (z : List ℕ). place z u) (filter_no p x xs (sym is)),
          ap (λ (z : List ℕ). place z v) (filter_no p x xs (sym is)),
          place_other x u xs nu,
          place_other x v xs nv,
        )

-- so their edges lead no farther on
pub filter_spans : {N E : Type 0} {g : Graph N E} (p : ℕ → Bool) {order nodes places : List ℕ} → IsOrderOf g order
    → nodes ≡ filter p order → IsPlaced g nodes places → (d : ℕ) → SpansAtMost g order d → LeadAtMost g nodes places d
filter_spans p {order} {nodes} {places} ord is pl d all u v c j =
    let cv = pl.closed u v c j in
    omega (
      arith,
      place_is u c,
      place_is v cv,
      ap (λ (z : List ℕ). place z u) is,
      ap (λ (z : List ℕ). place z v) is,
      filter_nearer p order u v (passes u c) (passes v cv) (ord.sorted u v j),
      all u v j,
    )
  where
    passes : (n : ℕ) → Contains nodes n → p n ≡ true
    passes n there = (filter_mem p order n (subst (Mem n) is (contains_mem nodes n there))).1

    place_is : (n : ℕ) → Contains nodes n → get_or places n 0 ≡ place nodes n
    place_is n there =
        let a = place_at nodes n (contains_mem nodes n there) in
        ap (λ z. get_or places z 0) (sym a.1) ∙ pl.at (place nodes n) a.0

-- the members of a list that pass a test
pub filter_exact : (p : ℕ → Bool) (xs : List ℕ) {Part : ℕ → Type 0} → ((n : ℕ) → (p n ≡ true) ↔ Part n)
    → ((n : ℕ) → Part n → Contains xs n) → (n : ℕ) → Contains (filter p xs) n ↔ Part n
filter_exact p xs part held n = (
  λ c. (part n).0 (filter_mem p xs n (contains_mem (filter p xs) n c)).1,
  λ h. mem_contains (filter p xs) n (mem_filter p xs n (contains_mem xs n (held n h)) ((part n).1 h)),
)

module _ {N E : Type 0} {end : ℕ} {g : Graph N E} (w : IsWellFormed end g) (order : List ℕ) (ord : IsOrderOf g order)
    (roots : List ℕ) (p : ℕ → Bool) (below : (n : ℕ) → (p n ≡ true) ↔ IsBelow g roots n) where
  pub listed_below : (n : ℕ) → Contains (filter p order) n ↔ IsBelow g roots n
  listed_below = filter_exact p order below (λ n b. (ord.exact n).1 (below_exists g roots n b))

  pub all_placed : (nodes places : List ℕ) → nodes ≡ filter p order
      → ((k : ℕ) → k < length nodes → get_or places (get_or nodes k 0) 0 ≡ k)
      → ((n : ℕ) → Contains order n → get_or places n 0 < length nodes → get_or nodes (get_or places n 0) 0 ≡ n)
      → IsPlaced g nodes places
  all_placed nodes places is at elsewhere =
      record {
        exist = λ n c. below_exists g roots n ((listed n).0 c);
        at = at;
        elsewhere = λ n h low. elsewhere n ((ord.exact n).1 h) low;
        closed = closed;
        sorted = λ u v c j.
            (let cv = closed u v c j in
            let pu = place_is u c in
            let pv = place_is v cv in
            let less =
            filter_places p order u v ((below u).1 ((listed u).0 c)) ((below v).1 ((listed v).0 cv)) (ord.sorted u v j) in
            omega (arith, pu, pv, less, ap (λ z. place z u) is, ap (λ z. place z v) is));
      }
    where
      listed : (n : ℕ) → Contains nodes n ↔ IsBelow g roots n
      listed n = let P : List ℕ → Type 0 = λ z. Contains z n ↔ IsBelow g roots n in subst P (sym is) (listed_below n)

      closed : (u v : ℕ) → Contains nodes u → AreJoined g u v → Contains nodes v
      closed u v c j =
          let b = (listed u).0 c in
          let ends = joined_exist end g w u v j in
          (listed v).1 (b.0, b.1, b.2, reaches_on g b.0 u v b.3 (reaches_one g u v ends.0 ends.1 j))

      place_is : (n : ℕ) → Contains nodes n → get_or places n 0 ≡ place nodes n
      place_is n c =
          let a = place_at nodes n (contains_mem nodes n c) in
          ap (λ z. get_or places z 0) (sym a.1) ∙ at (place nodes n) a.0

pub filter_short : (p : ℕ → Bool) (xs : List ℕ) → length (filter p xs) ≤ length xs
filter_short p xs = omega (arith, length-filter_both p (λ x. not (p x)) (λ x. refl) xs)

-- the marked ones among the first nodes of an order listed, with their places; the places of the others are past all
pub record Listing (p : ℕ → Bool) (end : ℕ) (order rest nodes places : List ℕ) (len : ℕ) : Type 0 where
  pub done : List ℕ
  pub whole : order ≡ done ++ rest
  pub few : len ≤ length done
  pub listed : take len nodes ≡ filter p done
  pub placed : (k : ℕ) → k < len → get_or places (get_or nodes k 0) 0 ≡ k
  pub elsewhere : (m : ℕ) → Mem m done
      → ((get_or places m 0 < len) × (get_or nodes (get_or places m 0) 0 ≡ m)) ⊎ (end ≤ get_or places m 0)

pub list_start : (p : ℕ → Bool) (end : ℕ) (order rest nodes places : List ℕ)
    → rest ≡ order → Listing p end order rest nodes places 0
list_start p end order rest nodes places is =
    record {
      done = [];
      whole = sym is;
      few = omega arith;
      listed = take_none nodes;
      placed = λ k low. absurd (omega (arith, low));
      elsewhere = λ m there. absurd there;
    }

module _ {p : ℕ → Bool} {end : ℕ} {order rest nodes places : List ℕ} {len : ℕ}
    (s : Listing p end order rest nodes places len) (n : ℕ) (rest' : List ℕ) (next : rest ≡ n ∷ rest') where
  pub next_listed : Contains order n
  next_listed =
      let P : List ℕ → Type 0 = λ z. Mem n z in
      mem_contains order n
      (subst P (sym (s.whole ∙ ap (λ z. s.done ++ z) next)) (mem_right s.done (n ∷ rest') n (inl refl)))

  pub next_few : len < length order
  next_few =
      omega (
        arith,
        s.few,
        ap (λ (z : List ℕ). length z) (s.whole ∙ ap (λ z. s.done ++ z) next),
        length-append s.done (n ∷ rest'),
      )

  pub list_on : (nodes' places' : List ℕ) (len' : ℕ) → Unique order → n < length places → len < length nodes
      → (p n ≡ false → (nodes' ≡ nodes) × (places' ≡ set places n end) × (len' ≡ len))
      → (p n ≡ true → (nodes' ≡ set nodes len n) × (places' ≡ set places n len) × (len' ≡ len + 1))
      → Listing p end order rest' nodes' places' len'
  list_on nodes' places' len' once low room passed put = go (p n) refl
    where
      whole' : order ≡ (s.done ++ n ∷ []) ++ rest'
      whole' = s.whole ∙ ap (λ z. s.done ++ z) next ∙ sym (append_assoc s.done (n ∷ []) rest')

      long : length (s.done ++ n ∷ []) ≡ length s.done + 1
      long = length-append s.done (n ∷ []) ∙ omega arith

      -- a node that was passed is another one, and so is one that was listed
      other : (m : ℕ) → Mem m s.done → m ≢ n
      other m old e =
          let U : List ℕ → Type 0 = λ z. Unique z in
          unique_cross s.done (n ∷ rest') (subst U (s.whole ∙ ap (λ z. s.done ++ z) next) once) m old (inl e)

      listed_other : (k : ℕ) → k < len → get_or nodes k 0 ≢ n
      listed_other k early =
          let y = get_or nodes k 0 in
          let sized : length (take len nodes) ≡ len = length-take-le len nodes (omega (arith, room)) in
          let M : ℕ → Type 0 = λ z. Mem z (take len nodes) in
          let D : List ℕ → Type 0 = λ z. Mem y z in
          let there : Mem y (take len nodes) =
          subst M (get_or-take len nodes k 0 early) (mem_at (take len nodes) k 0 (omega (arith, early, sized))) in
          other y (filter_mem p s.done y (subst D s.listed there)).0

      this : (m : ℕ) → Mem m (n ∷ []) → m ≡ n
      this m there = elim there [ inl e ↦ e | inr none ↦ absurd none ]

      go : (b : Bool) → b ≡ p n → Listing p end order rest' nodes' places' len'
      go false is =
          let h = passed (sym is) in
          record {
            done = s.done ++ n ∷ [];
            whole = whole';
            few = omega (arith, s.few, long, h.2);
            listed =
                ap (λ z. take len' z) h.0 ∙ ap (λ z. take z nodes) h.2 ∙ s.listed
                ∙ sym (filter-append p s.done (n ∷ []) ∙ ap (λ z. filter p s.done ++ z) (filter_no p n [] (sym is))
                ∙ append-nil (filter p s.done));
            placed = λ k below.
                (let early : k < len = omega (arith, below, h.2) in
                ap (λ z. get_or z (get_or nodes' k 0) 0) h.1
                ∙ ap (λ z. get_or (set places n end) (get_or z k 0) 0) h.0
                ∙ get_or-set_other places n (get_or nodes k 0) end 0 (listed_other k early) ∙ s.placed k early);
            elsewhere = λ m there. elim (mem_cases s.done (n ∷ []) m there) [
              | inl old ↦
                  (let at : get_or places' m 0 ≡ get_or places m 0 =
                  ap (λ z. get_or z m 0) h.1 ∙ get_or-set_other places n m end 0 (other m old) in
                  elim (s.elsewhere m old) [
                    | inl here ↦
                        inl (
                          omega (arith, at, here.0, h.2),
                          ap (λ z. get_or nodes' z 0) at ∙ ap (λ z. get_or z (get_or places m 0) 0) h.0 ∙ here.1,
                        )
                    | inr past ↦ inr (omega (arith, at, past))
                  ])
              | inr new ↦
                  inr (omega (
                    arith,
                    ap (λ z. get_or places' z 0) (this m new),
                    ap (λ z. get_or z n 0) h.1,
                    get_or-set_same places n end 0 low,
                  ))
            ];
          }
      go true is =
          let h = put (sym is) in
          let front : take len (set nodes len n) ≡ take len nodes = take-set nodes len n in
          let last : get_or (set nodes len n) len 0 ≡ n = get_or-set_same nodes len n 0 room in
          let inside : len < length (set nodes len n) = omega (arith, room, length-set nodes len n) in
          let grown : take (len + 1) (set nodes len n) ≡ take len nodes ++ n ∷ [] =
          take_more (set nodes len n) len 0 inside ∙ ap (λ z. z ++ get_or (set nodes len n) len 0 ∷ []) front
          ∙ ap (λ z. take len nodes ++ z ∷ []) last in
          record {
            done = s.done ++ n ∷ [];
            whole = whole';
            few = omega (arith, s.few, long, h.2);
            listed =
                ap (λ z. take len' z) h.0 ∙ ap (λ z. take z (set nodes len n)) h.2 ∙ grown
                ∙ ap (λ z. z ++ n ∷ []) s.listed
                ∙ sym (filter-append p s.done (n ∷ []) ∙ ap (λ z. filter p s.done ++ z) (filter_yes p n [] (sym is)));
            placed = λ k below.
                (let at : get_or (set places n len) (get_or (set nodes len n) k 0) 0 ≡ k =
                elim (cases_eq k len) [
                  | inl here ↦
                      ap (λ z. get_or (set places n len) (get_or (set nodes len n) z 0) 0) here
                      ∙ ap (λ z. get_or (set places n len) z 0) last ∙ get_or-set_same places n len 0 low ∙ sym here
                  | inr apart ↦
                      (let early : k < len = omega (arith, below, h.2, apart) in
                      ap (λ z. get_or (set places n len) z 0) (get_or-set_other nodes len k n 0 apart)
                      ∙ get_or-set_other places n (get_or nodes k 0) len 0 (listed_other k early) ∙ s.placed k early)
                ] in
                ap (λ z. get_or z (get_or nodes' k 0) 0) h.1 ∙ ap (λ z. get_or (set places n len) (get_or z k 0) 0) h.0
                ∙ at);
            elsewhere = λ m there. elim (mem_cases s.done (n ∷ []) m there) [
              | inl old ↦
                  (let at : get_or places' m 0 ≡ get_or places m 0 =
                  ap (λ z. get_or z m 0) h.1 ∙ get_or-set_other places n m len 0 (other m old) in
                  elim (s.elsewhere m old) [
                    | inl here ↦
                        inl (
                          omega (arith, at, here.0, h.2),
                          ap (λ z. get_or nodes' z 0) at ∙ ap (λ z. get_or z (get_or places m 0) 0) h.0
                              ∙ get_or-set_other nodes len (get_or places m 0) n 0 (λ e. omega (arith, e, here.0)) ∙ here.1,
                        )
                    | inr past ↦ inr (omega (arith, at, past))
                  ])
              | inr new ↦
                  (let at : get_or places' m 0 ≡ len =
                  ap (λ z. get_or places' z 0) (this m new) ∙ ap (λ z. get_or z n 0) h.1
                  ∙ get_or-set_same places n len 0 low in
                  inl (
                    omega (arith, at, h.2),
                    ap (λ z. get_or nodes' z 0) at ∙ ap (λ z. get_or z len 0) h.0 ∙ last ∙ sym (this m new),
                  ))
            ];
          }

-- the next node of the order was listed in a worklist if it was entered, and passed over if not
module _ {size end : ℕ} {work : Work} (sized : IsSized size work) {before : List Bool} (same : work.entered ≡ before)
    {order rest : List ℕ} {len : ℕ} (once : Unique order) {n : ℕ} (low : n < size) (fits : length order ≤ size)
    (s : Listing (λ k. get_or before k false) end order rest work.nodes work.cursors len) where
  pub listed_or_passed : (rest' : List ℕ) → rest ≡ n ∷ rest' → {work' : Work} {len' : ℕ}
      → (get_or work.entered n false ≡ false → (work' ≡ record work { cursors = set work.cursors n end }) × (len' ≡ len))
      → (get_or work.entered n false ≡ true → (work' ≡ record work {
        nodes = set work.nodes len n;
        cursors = set work.cursors n len;
      }) × (len' ≡ len + 1))
      → IsSized size work' × (work'.entered ≡ before)
      × Listing (λ k. get_or before k false) end order rest' work'.nodes work'.cursors len'
  listed_or_passed rest' next {work'} {len'} passed put = (kept.0, kept.1, listing)
    where
      listing : Listing (λ k. get_or before k false) end order rest' work'.nodes work'.cursors len'
      listing =
          list_on s n rest' next work'.nodes work'.cursors len' once (omega (arith, low, sized.cursors_are))
          (omega (arith, next_few s n rest' next, fits, sized.nodes_are))
          (λ h.
          let p = passed (ap (λ z. get_or z n false) same ∙ h) in
          (ap (λ (z : Work). z.nodes) p.0, ap (λ (z : Work). z.cursors) p.0, p.1))
          (λ h.
          let p = put (ap (λ z. get_or z n false) same ∙ h) in
          (ap (λ (z : Work). z.nodes) p.0, ap (λ (z : Work). z.cursors) p.0, p.1))

      kept : IsSized size work' × (work'.entered ≡ before)
      kept = elim (either (get_or work.entered n false)) [
        | inl out ↦ (let p = passed out in rw p.0 (sized_put_cursor sized n end, same))
        | inr there ↦ (let p = put there in rw p.0 (sized_put_cursor (sized_put_node sized len n) n len, same))
      ]

pub list_whole : {p : ℕ → Bool} {end : ℕ} {order rest nodes places : List ℕ} {len : ℕ}
    → Listing p end order rest nodes places len → rest ≡ [] → take len nodes ≡ filter p order
list_whole {p} s none =
    s.listed ∙ ap (filter p) (sym (s.whole ∙ ap (λ z. s.done ++ z) none ∙ append-nil s.done))

pub list_elsewhere : {p : ℕ → Bool} {end : ℕ} {order rest nodes places : List ℕ} {len : ℕ}
    → Listing p end order rest nodes places len → rest ≡ [] → len ≤ end → (n : ℕ) → Contains order n
    → get_or places n 0 < len → get_or nodes (get_or places n 0) 0 ≡ n
list_elsewhere {p} {end} {order} s none real n held low =
    let P : List ℕ → Type 0 = λ z. Mem n z in
    let there : Mem n s.done =
    subst P (s.whole ∙ ap (λ z. s.done ++ z) none ∙ append-nil s.done) (contains_mem order n held) in
    elim (s.elsewhere n there) [ inl here ↦ here.1 | inr past ↦ absurd (omega (arith, past, low, real)) ]

pub list_few : {p : ℕ → Bool} {end : ℕ} {order rest nodes places : List ℕ} {len : ℕ}
    → Listing p end order rest nodes places len → len ≤ length order
list_few {p} {end} {order} {rest} s =
    omega (arith, s.few, ap (λ (z : List ℕ). length z) s.whole, length-append s.done rest)

-- the first nodes of a list stand at their places
pub placed_front : (nodes places : List ℕ) (count : ℕ) → count ≤ length nodes
    → ((k : ℕ) → k < count → get_or places (get_or nodes k 0) 0 ≡ k) → (k : ℕ) → k < length (take count nodes)
    → get_or places (get_or (take count nodes) k 0) 0 ≡ k
placed_front nodes places count within at k low =
    let early : k < count = omega (arith, low, length-take-le count nodes within) in
    ap (λ z. get_or places z 0) (get_or-take count nodes k 0 early) ∙ at k early

-- and no other node has such a place
pub front_elsewhere : (order nodes places : List ℕ) (count : ℕ) → count ≤ length nodes
    → ((n : ℕ) → Contains order n → get_or places n 0 < count → get_or nodes (get_or places n 0) 0 ≡ n) → (n : ℕ)
    → Contains order n → get_or places n 0 < length (take count nodes)
    → get_or (take count nodes) (get_or places n 0) 0 ≡ n
front_elsewhere order nodes places count within elsewhere n held low =
    let early : get_or places n 0 < count = omega (arith, low, length-take-le count nodes within) in
    get_or-take count nodes (get_or places n 0) 0 early ∙ elsewhere n held early

-- an order has no more nodes than there are indices in use
pub order_short : {N E : Type 0} {g : Graph N E} (order : List ℕ) → IsOrderOf g order → length order ≤ node_bound g
order_short {N} {E} {g} order ord =
    fewer_than order (node_bound g) (unique_from_distinct order ord.once)
    (λ x m. below_bound g.nodes x ((ord.exact x).0 (mem_contains order x m)))

-- and no more than there are nodes
pub order_few : {N E : Type 0} {g : Graph N E} (order : List ℕ) → IsOrderOf g order → length order ≤ node_count g
order_few {N} {E} {g} order ord = few_there g order ord.once (λ n c. (ord.exact n).0 c)
