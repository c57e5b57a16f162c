-- Pairs listed in ascending order: row by row, and no two lists of the same pairs differ in length.
use Rattle.std.proofs.Common.{◌≡◌, ℕ, zero, suc, ◌+◌, ◌-◌, ◌<◌, ◌≤◌, ◌↔◌, ◌⊎◌, inl, inr, Bool, false, List, [], ◌∷◌, ◌++◌, length, map, Option, Some}
use Rattle.std.proofs.Common.{Contains, get_or, refl, sym, ap, subst, ◌∙◌, arith}
use Rattle.std.proofs.lemmas.Bool.{cases_eq, cases_Bool, false≢true}
use Rattle.std.proofs.lemmas.List.{append_assoc, append-nil, length-append, length-map, map-append}
use Rattle.std.proofs.lemmas.List.Elements.{Contains-append_left, Contains-append_right, Contains-append_cases}
use Rattle.std.specs.Option.{option_map}
use Rattle.daggy_visit.specs.Visit.{HasPair}
use Rattle.daggy_operators.specs.Parts.{ends_by}
use Rattle.daggy_operators.specs.Closure.{IsPairBelow, ArePairsAscending, ListsPairs, HasMorePairs}

-- ---- members of lists of pairs

none_in : (p : ℕ × ℕ) → Contains [] p → ⊥
none_in p c = omega (arith, c.1)

first_in : (p : ℕ × ℕ) (ps : List (ℕ × ℕ)) → Contains (p ∷ ps) p
first_in p ps = (0, omega arith, refl)

later_in : (q p : ℕ × ℕ) (ps : List (ℕ × ℕ)) → Contains ps p → Contains (q ∷ ps) p
later_in q p ps c = (suc c.0, omega (arith, c.1), c.2)

in_cases : (q p : ℕ × ℕ) (ps : List (ℕ × ℕ)) → Contains (q ∷ ps) p → (q ≡ p) ⊎ Contains ps p
in_cases q p ps c = by_index c.0 c.1 c.2
  where
    by_index : (k : ℕ) → k < suc (length ps) → get_or (q ∷ ps) k p ≡ p → (q ≡ p) ⊎ Contains ps p
    by_index zero low is = inl is
    by_index (suc k) low is = inr (k, omega (arith, low), is)

only_in : (q p : ℕ × ℕ) → Contains (q ∷ []) p → q ≡ p
only_in q p c = elim (in_cases q p [] c) [ inl here ↦ here | inr none ↦ absurd (none_in p none) ]

-- ---- the order of pairs

below_next : (p q r : ℕ × ℕ) → IsPairBelow p q → IsPairBelow q r → IsPairBelow p r
below_next p q r (inl a) (inl b) = inl (omega (arith, a, b))
below_next p q r (inl a) (inr b) = inl (omega (arith, a, b.0))
below_next p q r (inr a) (inl b) = inl (omega (arith, a.0, b))
below_next p q r (inr a) (inr b) = inr (a.0 ∙ b.0, omega (arith, a.1, b.1))

not_below_itself : (p : ℕ × ℕ) → IsPairBelow p p → ⊥
not_below_itself p (inl a) = omega (arith, a)
not_below_itself p (inr a) = omega (arith, a.1)

ascending_rest : (p : ℕ × ℕ) (ps : List (ℕ × ℕ)) → ArePairsAscending (p ∷ ps) → ArePairsAscending ps
ascending_rest p [] up = tt
ascending_rest p (q ∷ ps) up = up.1

-- the first is below all others
first_below : (p : ℕ × ℕ) (ps : List (ℕ × ℕ)) → ArePairsAscending (p ∷ ps) → (q : ℕ × ℕ) → Contains ps q → IsPairBelow p q
first_below p [] up q c = absurd (none_in q c)
first_below p (r ∷ ps) up q c =
    elim (in_cases r q ps c) [
      | inl here ↦ subst (IsPairBelow p) here up.0
      | inr later ↦ below_next p r q up.0 (first_below r ps up.1 q later)
    ]

ascending_more : (ps : List (ℕ × ℕ)) (q : ℕ × ℕ) → ArePairsAscending ps → ((p : ℕ × ℕ) → Contains ps p → IsPairBelow p q)
    → ArePairsAscending (ps ++ q ∷ [])
ascending_more [] q up low = tt
ascending_more (p ∷ []) q up low = (low p (first_in p []), tt)
ascending_more (p ∷ r ∷ ps) q up low =
    (up.0, ascending_more (r ∷ ps) q up.1 (λ z c. low z (later_in p z (r ∷ ps) c)))

-- an ascending list of some of the pairs of another is no longer
no_longer : (ps qs : List (ℕ × ℕ)) → ArePairsAscending ps → ArePairsAscending qs
    → ((p : ℕ × ℕ) → Contains ps p → Contains qs p) → length ps ≤ length qs
no_longer [] qs up along some = omega arith
no_longer (p ∷ ps) [] up along some = absurd (none_in p (some p (first_in p ps)))
no_longer (p ∷ ps) (q ∷ qs) up along some =
    let fewer = no_longer ps qs (ascending_rest p ps up) (ascending_rest q qs along) (λ r c. rest r c) in
    omega (arith, fewer)
  where
    -- the first of the list is not below the first of the other, so what is above it is among the others
    rest : (r : ℕ × ℕ) → Contains ps r → Contains qs r
    rest r c =
        elim (in_cases q r qs (some r (later_in p r ps c))) [
          | inr later ↦ later
          | inl here ↦ (
              let low : IsPairBelow p q = subst (IsPairBelow p) (sym here) (first_below p ps up r c) in
              elim (in_cases q p qs (some p (first_in p ps))) [
                | inl same ↦ absurd (not_below_itself p (subst (IsPairBelow p) same low))
                | inr later ↦ absurd (not_below_itself p (below_next p q p low (first_below q qs along p later)))
              ]
              )
        ]

pub same_length : (Rel : ℕ → ℕ → Type 0) (ps qs : List (ℕ × ℕ)) → ListsPairs Rel ps → ListsPairs Rel qs → length ps ≡ length qs
same_length Rel ps qs s t =
    let a = no_longer ps qs s.ascending t.ascending (λ p c. (t.exact p.0 p.1).1 ((s.exact p.0 p.1).0 c)) in
    let b = no_longer qs ps t.ascending s.ascending (λ p c. (s.exact p.0 p.1).1 ((t.exact p.0 p.1).0 c)) in
    omega (arith, a, b)

-- the same pairs in another relation that holds of them
pub lists_as : (R S : ℕ → ℕ → Type 0) → ((u v : ℕ) → R u v ↔ S u v) → (ps : List (ℕ × ℕ)) → ListsPairs R ps → ListsPairs S ps
lists_as R S same ps l =
    record {
      exact = λ u v. (λ c. (same u v).0 ((l.exact u v).0 c), λ r. (l.exact u v).1 ((same u v).1 r));
      ascending = l.ascending;
    }

pub more_as : (limit : ℕ) (R S : ℕ → ℕ → Type 0) → ((u v : ℕ) → R u v ↔ S u v) → HasMorePairs limit R → HasMorePairs limit S
more_as limit R S same m = (m.0, lists_as R S same m.0 m.1, m.2)

-- ---- listing row by row

module _ (Rel : ℕ → ℕ → Type 0) where
  -- the pairs below (i, k)
  pub record ListsBelow (i k : ℕ) (pairs : List (ℕ × ℕ)) : Type 0 where
    pub exact : (u v : ℕ) → Contains pairs (u, v) ↔ (Rel u v × IsPairBelow (u, v) (i, k))
    pub ascending : ArePairsAscending pairs

  pub lists_none : ListsBelow 0 0 []
  lists_none =
      record {
        exact = λ u v. (λ c. absurd (none_in (u, v) c), λ r. elim r.1 [ inl low ↦ absurd (omega (arith, low)) | inr low ↦ absurd (omega (arith, low.1)) ]);
        ascending = tt;
      }

  below_step : (u v i k : ℕ) → IsPairBelow (u, v) (i, k) → IsPairBelow (u, v) (i, k + 1)
  below_step u v i k (inl low) = inl low
  below_step u v i k (inr low) = inr (low.0, omega (arith, low.1))

  below_cases : (u v i k : ℕ) → IsPairBelow (u, v) (i, k + 1) → IsPairBelow (u, v) (i, k) ⊎ ((u ≡ i) × (v ≡ k))
  below_cases u v i k (inl low) = inl (inl low)
  below_cases u v i k (inr low) =
      elim (cases_eq v k) [
        | inl same ↦ inr (low.0, same)
        | inr other ↦ inl (inr (low.0, omega (arith, low.1, other)))
      ]

  module _ (i k : ℕ) (pairs : List (ℕ × ℕ)) (s : ListsBelow i k pairs) where
    pub lists_past : ¬ Rel i k → ListsBelow i (k + 1) pairs
    lists_past fails =
        record {
          exact = λ u v. (
            λ c. let q = (s.exact u v).0 c in (q.0, below_step u v i k q.1),
            λ q. elim (below_cases u v i k q.1) [
              | inl low ↦ (s.exact u v).1 (q.0, low)
              | inr here ↦ absurd (fails (subst (λ z. Rel z k) here.0 (subst (Rel u) here.1 q.0)))
            ],
          );
          ascending = s.ascending;
        }

    pub lists_more : Rel i k → ListsBelow i (k + 1) (pairs ++ (i, k) ∷ [])
    lists_more holds =
        record {
          exact = λ u v. (
            λ c. elim (Contains-append_cases pairs ((i, k) ∷ []) (u, v) c) [
              | inl before ↦ (let q = (s.exact u v).0 before in (q.0, below_step u v i k q.1))
              | inr here ↦ (
                  let same = only_in (i, k) (u, v) here in
                  let from : i ≡ u = ap (λ z. z.0) same in
                  let to : k ≡ v = ap (λ z. z.1) same in
                  (subst (λ z. Rel z v) from (subst (Rel i) to holds), inr (sym from, omega (arith, to)))
                  )
            ],
            λ q. elim (below_cases u v i k q.1) [
              | inl low ↦ Contains-append_left pairs ((i, k) ∷ []) (u, v) ((s.exact u v).1 (q.0, low))
              | inr here ↦ Contains-append_right pairs ((i, k) ∷ []) (u, v)
                  (subst (Contains ((i, k) ∷ [])) (ap (λ z. (z, k)) (sym here.0) ∙ ap (λ z. (u, z)) (sym here.1)) (first_in (i, k) []))
            ],
          );
          ascending = ascending_more pairs (i, k) s.ascending (λ p c. ((s.exact p.0 p.1).0 c).1);
        }

  module _ (bound : ℕ) (within : (u v : ℕ) → Rel u v → (u < bound) × (v < bound)) where
    -- a whole row
    pub lists_row : (i k : ℕ) (pairs : List (ℕ × ℕ)) → bound ≤ k → ListsBelow i k pairs → ListsBelow (i + 1) 0 pairs
    lists_row i k pairs all s =
        record {
          exact = λ u v. (
            λ c. let q = (s.exact u v).0 c in (
              q.0,
              elim q.1 [ inl low ↦ inl (omega (arith, low)) | inr low ↦ inl (omega (arith, low.0)) ],
            ),
            λ q.
                let in_it = within u v q.0 in
                (s.exact u v).1 (
                  q.0,
                  elim q.1 [
                    | inr low ↦ absurd (omega (arith, low.1))
                    | inl low ↦ elim (cases_eq u i) [
                      | inl same ↦ inr (same, omega (arith, in_it.1, all))
                      | inr other ↦ inl (omega (arith, low, other))
                    ]
                  ],
                ),
          );
          ascending = s.ascending;
        }

    -- all rows
    pub lists_all : (i : ℕ) (pairs : List (ℕ × ℕ)) → bound ≤ i → ListsBelow i 0 pairs → ListsPairs Rel pairs
    lists_all i pairs all s =
        record {
          exact = λ u v. (
            λ c. ((s.exact u v).0 c).0,
            λ r. let in_it = within u v r in (s.exact u v).1 (r, inl (omega (arith, in_it.0, all))),
          );
          ascending = s.ascending;
        }

    module _ (decide : (u v : ℕ) → Rel u v ⊎ (¬ Rel u v)) where
      finish_row : (left i k : ℕ) (pairs : List (ℕ × ℕ)) → k + left ≡ bound → ListsBelow i k pairs
          → (rest : List (ℕ × ℕ)) × ListsBelow (i + 1) 0 (pairs ++ rest)
      finish_row zero i k pairs all s =
          ([], subst (ListsBelow (i + 1) 0) (sym (append-nil pairs)) (lists_row i k pairs (omega (arith, all)) s))
      finish_row (suc left) i k pairs all s =
          elim (decide i k) [
            | inl holds ↦ (
                let r = finish_row left i (k + 1) (pairs ++ (i, k) ∷ []) (omega (arith, all)) (lists_more i k pairs s holds) in
                ((i, k) ∷ r.0, subst (ListsBelow (i + 1) 0) (append_assoc pairs ((i, k) ∷ []) r.0) r.1)
                )
            | inr fails ↦ finish_row left i (k + 1) pairs (omega (arith, all)) (lists_past i k pairs s fails)
          ]

      finish_rows : (left i : ℕ) (pairs : List (ℕ × ℕ)) → i + left ≡ bound → ListsBelow i 0 pairs
          → (rest : List (ℕ × ℕ)) × ListsPairs Rel (pairs ++ rest)
      finish_rows zero i pairs all s =
          ([], subst (ListsPairs Rel) (sym (append-nil pairs)) (lists_all i pairs (omega (arith, all)) s))
      finish_rows (suc left) i pairs all s =
          let row = finish_row bound i 0 pairs (omega arith) s in
          let more = finish_rows left (i + 1) (pairs ++ row.0) (omega (arith, all)) row.1 in
          (row.0 ++ more.0, subst (ListsPairs Rel) (append_assoc pairs row.0 more.0) more.1)

      -- one more pair, when there are as many as the limit
      pub lists_too_many : (limit i k : ℕ) (pairs : List (ℕ × ℕ)) → i < bound → k < bound → ListsBelow i k pairs → Rel i k
          → limit ≤ length pairs → HasMorePairs limit Rel
      lists_too_many limit i k pairs row column s holds full =
          let more = pairs ++ (i, k) ∷ [] in
          let one = finish_row (bound - (k + 1)) i (k + 1) more (omega (arith, column)) (lists_more i k pairs s holds) in
          let rest = finish_rows (bound - (i + 1)) (i + 1) (more ++ one.0) (omega (arith, row)) one.1 in (
            (more ++ one.0) ++ rest.0,
            rest.1,
            omega (
              arith,
              full,
              length-append (more ++ one.0) rest.0,
              length-append more one.0,
              length-append pairs ((i, k) ∷ []),
            ),
          )

-- ---- slots of edges that show the pairs

pub record ShowsPairs {I : Type 0} (number : I → ℕ) (Rel : ℕ → ℕ → Type 0) (limit i k : ℕ) (slots : List (Option (I × I × Unit {0})))
    : Type 0 where
  pub pairs : List (ℕ × ℕ)
  pub listed : ListsBelow Rel i k pairs
  pub shown : map (option_map (ends_by number)) slots ≡ map Some pairs
  pub few : length slots ≤ limit

module _ {I : Type 0} (number : I → ℕ) (Rel : ℕ → ℕ → Type 0) (limit : ℕ) where
  pub shows_none : (slots : List (Option (I × I × Unit {0}))) → slots ≡ [] → ShowsPairs number Rel limit 0 0 slots
  shows_none slots is =
      record {
        pairs = [];
        listed = lists_none Rel;
        shown = ap (map (option_map (ends_by number))) is;
        few = omega (arith, ap length is);
      }

  module _ (i k : ℕ) (slots : List (Option (I × I × Unit {0}))) (s : ShowsPairs number Rel limit i k slots) where
    pub shows_past : ¬ Rel i k → ShowsPairs number Rel limit i (k + 1) slots
    shows_past fails = record { pairs = s.pairs; listed = lists_past Rel i k s.pairs s.listed fails; shown = s.shown; few = s.few }

    pub shows_more : (a b : I) → number a ≡ i → number b ≡ k → Rel i k → ¬ (length slots ≡ limit)
        → (slots' : List (Option (I × I × Unit {0}))) → slots' ≡ slots ++ Some (a, b, tt) ∷ []
        → ShowsPairs number Rel limit i (k + 1) slots'
    shows_more a b from to holds room slots' is =
        record {
          pairs = s.pairs ++ (i, k) ∷ [];
          listed = lists_more Rel i k s.pairs s.listed holds;
          shown =
              ap (map (option_map (ends_by number))) is
              ∙ (map-append (option_map (ends_by number)) slots (Some (a, b, tt) ∷ [])
              ∙ (ap (λ z. z ++ Some (number a, number b) ∷ []) s.shown
              ∙ (ap (λ z. map Some s.pairs ++ Some (z, number b) ∷ []) from
              ∙ (ap (λ z. map Some s.pairs ++ Some (i, z) ∷ []) to
              ∙ sym (map-append Some s.pairs ((i, k) ∷ []))))));
          few = omega (arith, s.few, room, ap length is, length-append slots (Some (a, b, tt) ∷ []));
        }

    as_many : length s.pairs ≡ length slots
    as_many =
        sym (length-map s.pairs Some) ∙ (ap length (sym s.shown) ∙ length-map slots (option_map (ends_by number)))

    pub shows_too_many : (bound : ℕ) → ((u v : ℕ) → Rel u v → (u < bound) × (v < bound)) → ((u v : ℕ) → Rel u v ⊎ (¬ Rel u v))
        → i < bound → k < bound → Rel i k → length slots ≡ limit → HasMorePairs limit Rel
    shows_too_many bound within decide row column holds full =
        lists_too_many Rel bound within decide limit i k s.pairs row column s.listed holds (omega (arith, as_many, full))

    pub shows_row : (bound : ℕ) → ((u v : ℕ) → Rel u v → (u < bound) × (v < bound)) → bound ≤ k
        → ShowsPairs number Rel limit (i + 1) 0 slots
    shows_row bound within all =
        record { pairs = s.pairs; listed = lists_row Rel bound within i k s.pairs all s.listed; shown = s.shown; few = s.few }

-- whether a matrix has a pair
pub decide_pair : (matrix : List (List Bool)) (u v : ℕ) → HasPair matrix u v ⊎ (¬ HasPair matrix u v)
decide_pair matrix u v =
    elim (cases_Bool (get_or (get_or matrix u []) v false)) [
      | inl has ↦ inl has
      | inr lacks ↦ inr (λ has. false≢true (sym lacks ∙ has))
    ]
