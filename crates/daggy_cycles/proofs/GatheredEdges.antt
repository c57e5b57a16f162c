-- Edges gathered from a graph and from a list of pairs.
use Rattle.std.proofs.Common.{◌≡◌, ℕ, suc, ◌+◌, ◌<◌, ◌≤◌, ◌↔◌, ◌⊎◌, inl, inr, List, [], ◌∷◌, ◌++◌, length, map, take, get_or}
use Rattle.std.proofs.Common.{Option, Some, None, IsSome, refl, sym, ap, subst, ◌∙◌, arith}
use Rattle.std.specs.Option.{option_map}
use Rattle.std.specs.List.{Contains}
use Rattle.std.proofs.lemmas.Bool.{cases_eq, cases_lt}
use Rattle.std.proofs.lemmas.List.{map-append, length-map, get_or-map}
use Rattle.std.proofs.lemmas.List.Elements.{Contains-push, Contains-push_cases, Contains-append_left, Contains-get_or}
use Rattle.std.proofs.Math.Seq.{take-suc, take-length}
use Rattle.daggy_base.specs.Graph.{Graph, Edge, HasNode, slot, edge_at, ends_of, pair_of}
use Rattle.daggy_base.specs.FromSlots.{edges_by, edge_of, MakeGraph}
use Rattle.daggy_base.specs.WellFormed.{IsWellFormed}
use Rattle.daggy_base.proofs.SlotLists.{none_past, slot_push_new, slot_push_other}
use Rattle.daggy_cycles.specs.CycleEdges.{Leads}
use Rattle.daggy_cycles.specs.Linking.{IsLinked, IsPair, AreJoinedBelow}
use Rattle.daggy_cycles.specs.WithPairs.{AreJoinedWith}

-- a slot with an edge is not past the end
taken_low : {A : Type 0} (xs : List (Option A)) (e : ℕ) (x : A) → slot xs e ≡ Some x → e < length xs
taken_low xs e x at =
    elim (cases_lt e (length xs)) [ inl low ↦ low | inr past ↦ absurd (let no : None ≡ Some x = sym (none_past xs e past) ∙ at in cc) ]

-- ---- one more edge

module _ {I F : Type 0} (number : I → ℕ) (slots : List (Option (I × I × F))) where
  -- none is there at first
  pub none_linked : slots ≡ [] → (u v : ℕ) → IsLinked number slots u v → ⊥
  none_linked none u v l =
      let P : List (Option (I × I × F)) → Type 0 = λ z. slot (edges_by number z) l.0 ≡ Some (record { parent = u; child = v; weight = l.1 }) in
      let at : None ≡ Some (record { parent = u; child = v; weight = l.1 }) = subst P none l.2 in
      cc

  module _ (x : I × I × F) where
    abbrev after : List (Option (Edge F))
    after = edges_by number slots ++ Some (edge_of number x) ∷ []

    after_is : edges_by number (slots ++ Some x ∷ []) ≡ after
    after_is = map-append (option_map (edge_of number)) slots (Some x ∷ [])

    pub linked_more : (u v : ℕ) → IsLinked number (slots ++ Some x ∷ []) u v
        ↔ (IsLinked number slots u v ⊎ ((number x.0 ≡ u) × (number x.1 ≡ v)))
    linked_more u v = (from, to)
      where
        from : IsLinked number (slots ++ Some x ∷ []) u v → IsLinked number slots u v ⊎ ((number x.0 ≡ u) × (number x.1 ≡ v))
        from l =
            let found : Edge F = record { parent = u; child = v; weight = l.1 } in
            let at : slot after l.0 ≡ Some found = ap (λ z. slot z l.0) (sym after_is) ∙ l.2 in
            elim (cases_eq l.0 (length (edges_by number slots))) [
              | inl last ↦ (
                  let last_is = slot_push_new (edges_by number slots) (Some (edge_of number x)) in
                  let both : Some (edge_of number x) ≡ Some found = sym last_is ∙ ap (λ z. slot after z) (sym last) ∙ at in
                  let same : edge_of number x ≡ found = cc in
                  inr (ap (λ (z : Edge F). z.parent) same, ap (λ (z : Edge F). z.child) same)
                  )
              | inr other ↦
                  inl (l.0, l.1, sym (slot_push_other (edges_by number slots) (Some (edge_of number x)) l.0 other) ∙ at)
            ]

        to : IsLinked number slots u v ⊎ ((number x.0 ≡ u) × (number x.1 ≡ v)) → IsLinked number (slots ++ Some x ∷ []) u v
        to c =
            elim c [
              | inl l ↦ (
                  let found : Edge F = record { parent = u; child = v; weight = l.1 } in
                  let low = taken_low (edges_by number slots) l.0 found l.2 in
                  let old = slot_push_other (edges_by number slots) (Some (edge_of number x)) l.0 (λ e. omega (arith, e, low)) in
                  (l.0, l.1, ap (λ z. slot z l.0) after_is ∙ old ∙ l.2)
                  )
              | inr p ↦ (
                length (edges_by number slots),
                x.2,
                ap (λ z. slot z (length (edges_by number slots))) after_is
                    ∙ slot_push_new (edges_by number slots) (Some (edge_of number x))
                    ∙ ap (λ z. Some (record { parent = z; child = number x.1; weight = x.2 })) p.0
                    ∙ ap (λ z. Some (record { parent = u; child = z; weight = x.2 })) p.1,
              )
            ]

    -- an edge between two nodes that exist
    pub pair_added : {N E : Type 0} (g : Graph N E) (a b : ℕ) (u v : ℕ) → number x.0 ≡ a → number x.1 ≡ b
        → HasNode g a → HasNode g b
        → IsLinked number (slots ++ Some x ∷ []) u v ↔ (IsLinked number slots u v ⊎ IsPair g a b u v)
    pair_added g a b u v from to there_a there_b =
        let more = linked_more u v in (
          λ l. elim (more.0 l) [
            | inl old ↦ inl old
            | inr p ↦ inr (record {
              parent = subst (λ z. HasNode g z) (sym from ∙ p.0) there_a;
              child = subst (λ z. HasNode g z) (sym to ∙ p.1) there_b;
              from = sym from ∙ p.0;
              to = sym to ∙ p.1;
            })
          ],
          λ c. more.1 (elim c [ inl old ↦ inl old | inr p ↦ inr (from ∙ p.from, to ∙ p.to) ]),
        )

-- ---- the edges of the graph

module _ {N E : Type 0} {end : ℕ} {g : Graph N E} (w : IsWellFormed end g) where
  -- the endpoints of an edge are the pair
  pub pair_leads : (e a b : ℕ) → Some (a, b) ≡ option_map ends_of (edge_at g e) → (u v : ℕ)
      → IsPair g a b u v ↔ Leads g e u v
  pair_leads e a b are u v = leads (edge_at g e) refl are
    where
      leads : (o : Option (Edge E)) → edge_at g e ≡ o → Some (a, b) ≡ option_map ends_of o
          → IsPair g a b u v ↔ Leads g e u v
      leads None at are = absurd (let no : ◌≡◌ {A = Option (ℕ × ℕ)} (Some (a, b)) None = are in cc)
      leads (Some x) at are =
          let same : ◌≡◌ {A = ℕ × ℕ} (a, b) (x.parent, x.child) =
          (let both : ◌≡◌ {A = Option (ℕ × ℕ)} (Some (a, b)) (Some (x.parent, x.child)) = are in cc) in
          let from : a ≡ x.parent = ap (λ z. z.0) same in
          let to : b ≡ x.child = ap (λ z. z.1) same in (
            λ p. (
              x.weight,
              at ∙ ap (λ z. Some (record { parent = z; child = x.child; weight = x.weight })) (sym from ∙ p.from)
                  ∙ ap (λ z. Some (record { parent = u; child = z; weight = x.weight })) (sym to ∙ p.to),
            ),
            λ l. (
                let found : Edge E = record { parent = u; child = v; weight = l.0 } in
                let is : x ≡ found = (let both : Some x ≡ Some found = sym at ∙ l.1 in cc) in
                record {
                  parent = w.parents e found l.1;
                  child = w.children e found l.1;
                  from = from ∙ ap (λ (z : Edge E). z.parent) is;
                  to = to ∙ ap (λ (z : Edge E). z.child) is;
                }
                ),
          )

  pub none_leads : (e : ℕ) → None ≡ option_map ends_of (edge_at g e) → (u v : ℕ) → Leads g e u v → ⊥
  none_leads e none u v l =
      let some : ◌≡◌ {A = Option (ℕ × ℕ)} None (Some (u, v)) = none ∙ ap (option_map ends_of) l.1 in
      cc

  -- from the edges of all indices to those of the graph
  pub all_joined : (pairs : List (ℕ × ℕ)) (i : ℕ) (u v : ℕ) → length g.edges ≤ i → pairs ≡ []
      → AreJoinedBelow g i u v ↔ AreJoinedWith g pairs u v
  all_joined pairs i u v all none = (
    λ j. (
        let found : Edge E = record { parent = u; child = v; weight = j.2.0 } in
        record {
          parent = w.parents j.0 found j.2.1;
          child = w.children j.0 found j.2.1;
          joined = inl (j.0, j.2.0, j.2.1);
        }
        ),
    λ j. elim j.joined [
      | inl old ↦ (
          let found : Edge E = record { parent = u; child = v; weight = old.1 } in
          let low = taken_low g.edges old.0 found old.2 in
          (old.0, omega (arith, low, all), (old.1, old.2))
          )
      | inr c ↦ absurd (
          let within : c.0 < length pairs = c.1 in
          let zero_long : length pairs ≡ 0 = ap (λ (z : List (ℕ × ℕ)). length z) none in
          omega (arith, within, zero_long))
    ],
  )

module _ {N E : Type 0} (g : Graph N E) where
  pub none_below : (u v : ℕ) → AreJoinedBelow g 0 u v → ⊥
  none_below u v j = let low : j.0 < 0 = j.1 in omega (arith, low)

  pub below_more : (i u v : ℕ) → AreJoinedBelow g (i + 1) u v ↔ (AreJoinedBelow g i u v ⊎ Leads g i u v)
  below_more i u v = (
    λ j. elim (cases_eq j.0 i) [
      | inl is ↦ inr (subst (λ z. Leads g z u v) is j.2)
      | inr other ↦ inl (j.0, omega (arith, other, j.1), j.2)
    ],
    λ c. elim c [
      | inl j ↦ (j.0, omega (arith, j.1), j.2)
      | inr l ↦ (i, omega arith, l)
    ],
  )

  -- one more pair
  pub pairs_more : (pairs : List (ℕ × ℕ)) (k a b u v : ℕ) → k < length pairs → get_or pairs k (0, 0) ≡ (a, b)
      → AreJoinedWith g (take (k + 1) pairs) u v ↔ (AreJoinedWith g (take k pairs) u v ⊎ IsPair g a b u v)
  pairs_more pairs k a b u v low is = (from, to)
    where
      more : take (k + 1) pairs ≡ take k pairs ++ (a, b) ∷ []
      more =
          (let next : k + 1 ≡ suc k = omega arith in ap (λ z. take z pairs) next) ∙ take-suc pairs k (0, 0) low ∙ ap (λ z. take k pairs ++ z ∷ []) is

      from : AreJoinedWith g (take (k + 1) pairs) u v → AreJoinedWith g (take k pairs) u v ⊎ IsPair g a b u v
      from j =
          elim j.joined [
            | inl old ↦ inl (record { parent = j.parent; child = j.child; joined = inl old })
            | inr c ↦ elim (Contains-push_cases (take k pairs) (a, b) (u, v) (subst (λ z. Contains z (u, v)) more c)) [
              | inl before ↦ inl (record { parent = j.parent; child = j.child; joined = inr before })
              | inr same ↦
                  inr (record { parent = j.parent; child = j.child; from = ap (λ z. z.0) same; to = ap (λ z. z.1) same })
            ]
          ]

      to : AreJoinedWith g (take k pairs) u v ⊎ IsPair g a b u v → AreJoinedWith g (take (k + 1) pairs) u v
      to c =
          elim c [
            | inl j ↦ record {
              parent = j.parent;
              child = j.child;
              joined = elim j.joined [
                | inl old ↦ inl old
                | inr before ↦
                    inr (subst (λ z. Contains z (u, v)) (sym more) (Contains-append_left (take k pairs) ((a, b) ∷ []) (u, v) before))
              ];
            }
            | inr p ↦ (
                let same : (a, b) ≡ (u, v) = ap (λ z. (z, b)) p.from ∙ ap (λ z. (u, z)) p.to in
                record {
                  parent = p.parent;
                  child = p.child;
                  joined = inr (subst (λ z. Contains z (u, v)) (sym more)
                      (subst (λ z. Contains (take k pairs ++ (a, b) ∷ []) z) same (Contains-push (take k pairs) (a, b))));
                }
                )
          ]

-- ---- the two put together

pub either_way : {A B C D F : Type 0} → (A ↔ (B ⊎ C)) → (B ↔ D) → (F ↔ (D ⊎ C)) → A ↔ F
either_way one old all = (
  λ a. all.1 (elim (one.0 a) [ inl b ↦ inl (old.0 b) | inr c ↦ inr c ]),
  λ f. one.1 (elim (all.0 f) [ inl d ↦ inl (old.1 d) | inr c ↦ inr c ]),
)

-- a pair of the list, in the words of the code
pub pair_at : {I : Type 0} (number : I → ℕ) (xs : List (I × I)) (k : ℕ) (x : I × I) → k < length xs → x ≡ get_or xs k x
    → ◌≡◌ {A = ℕ × ℕ} (get_or (map (pair_of number) xs) k (0, 0)) (number x.0, number x.1)
pair_at number xs k x low is = get_or-map (pair_of number) xs k x (0, 0) low ∙ ap (pair_of number) (sym is)

-- all of them
pub all_taken : {I : Type 0} (number : I → ℕ) (xs : List (I × I)) (k : ℕ) → k ≡ length xs
    → take k (map (pair_of number) xs) ≡ map (pair_of number) xs
all_taken number xs k all =
    ap (λ z. take z (map (pair_of number) xs)) (all ∙ sym (length-map xs (pair_of number)))
    ∙ take-length (map (pair_of number) xs)

-- ---- slots of nodes

pub slots_more : (slots : List (Option (Unit {0}))) (x : Option (Unit {0})) (Exists : ℕ → Type 0) (k : ℕ)
    → length slots ≡ k → ((n : ℕ) → n < k → IsSome (slot slots n) ↔ Exists n) → IsSome x ↔ Exists k
    → (n : ℕ) → n < k + 1 → IsSome (slot (slots ++ x ∷ []) n) ↔ Exists n
slots_more slots x Exists k long before here n low =
    elim (cases_eq n k) [
      | inl is ↦ (
          let at : slot (slots ++ x ∷ []) n ≡ x = ap (λ z. slot (slots ++ x ∷ []) z) (is ∙ sym long) ∙ slot_push_new slots x in
          let P : Option (Unit {0}) → Type 0 = λ z. IsSome z ↔ Exists n in
          subst P (sym at) (subst (λ z. IsSome x ↔ Exists z) (sym is) here)
          )
      | inr other ↦ (
          let at = slot_push_other slots x n (λ e. other (e ∙ long)) in
          let P : Option (Unit {0}) → Type 0 = λ z. IsSome z ↔ Exists n in
          subst P (sym at) (before n (omega (arith, low, other)))
          )
    ]

pub slots_all : {N E : Type 0} (g : Graph N E) (slots : List (Option (Unit {0}))) (k : ℕ) → length slots ≡ k
    → length g.nodes ≤ k → ((n : ℕ) → n < k → IsSome (slot slots n) ↔ HasNode g n)
    → (n : ℕ) → IsSome (slot slots n) ↔ HasNode g n
slots_all {N} g slots k long all before n =
    elim (cases_lt n k) [
      | inl low ↦ before n low
      | inr past ↦ (
          let none = none_past slots n (omega (arith, long, past)) in
          let no_node = none_past g.nodes n (omega (arith, all, past)) in (
            λ some. absurd (some_not_none (slot slots n) some none),
            λ there. absurd (some_not_none (slot g.nodes n) there no_node),
          )
          )
    ]
  where
    some_not_none : {A : Type 0} (o : Option A) → IsSome o → o ≡ None → ⊥
    some_not_none None some none = absurd cc
    some_not_none (Some x) some none = cc

-- ---- indices in another type

pub held : {I : Type 0} (number : I → ℕ) (xs : List I) (k : ℕ) (x : I) → k < length xs → x ≡ get_or xs k x
    → Contains (map number xs) (number x)
held number xs k x low is =
    subst (λ z. Contains (map number xs) z) (get_or-map number xs k x 0 low ∙ ap number (sym is))
    (Contains-get_or (map number xs) k 0 (omega (arith, low, length-map xs number)))

pub taken_more : {I J : Type 0} (number : I → ℕ) (other : J → ℕ) (done : List J) (xs : List I) (k : ℕ) (x : I) (y : J)
    → k < length xs → x ≡ get_or xs k x → other y ≡ number x → map other done ≡ take k (map number xs)
    → map other (done ++ y ∷ []) ≡ take (k + 1) (map number xs)
taken_more number other done xs k x y low is same before =
    let next : suc k ≡ k + 1 = omega arith in
    let within : k < length (map number xs) = omega (arith, low, length-map xs number) in
    let here : get_or (map number xs) k 0 ≡ number x = get_or-map number xs k x 0 low ∙ ap number (sym is) in
    map-append other done (y ∷ []) ∙ ap (λ z. z ++ other y ∷ []) before
    ∙ ap (λ z. take k (map number xs) ++ z ∷ []) (same ∙ sym here)
    ∙ sym (take-suc (map number xs) k 0 within) ∙ ap (λ z. take z (map number xs)) next

-- ---- the graph that they make

pub make_graph : {I N E : Type 0} {g : Graph N E} (number : I → ℕ) (nodes : List (Option (Unit {0})))
    (slots : List (Option (I × I × Unit {0}))) (pairs : List (ℕ × ℕ)) (limit : ℕ)
    → ((n : ℕ) → IsSome (slot nodes n) ↔ HasNode g n)
    → ((u v : ℕ) → IsLinked number slots u v ↔ AreJoinedWith g pairs u v)
    → length nodes ≤ limit → length slots ≤ limit
    → MakeGraph limit nodes (edges_by number slots)
make_graph {g = g} number nodes slots pairs limit there linked few_nodes few_slots =
    record {
      few_nodes = few_nodes;
      few_edges = omega (arith, few_slots, length-map slots (option_map (edge_of number)));
      parents = λ e x at. (there x.parent).1 (ends e x at).parent;
      children = λ e x at. (there x.child).1 (ends e x at).child;
    }
  where
    ends : (e : ℕ) (x : Edge (Unit {0})) → slot (edges_by number slots) e ≡ Some x → AreJoinedWith g pairs x.parent x.child
    ends e x at = (linked x.parent x.child).0 (e, x.weight, at)
