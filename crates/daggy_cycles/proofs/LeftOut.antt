-- What is left once edges were left out.
use Rattle.std.proofs.Common.{◌≡◌, ◌≢◌, ℕ, suc, ◌+◌, ◌<◌, ◌≤◌, ◌↔◌, inl, inr, Bool, true, false, not, eqb, List, []}
use Rattle.std.proofs.Common.{◌∷◌, ◌++◌, length, map, take, get_or, replicate, Option, Some, None, IsSome, is_some, refl}
use Rattle.std.proofs.Common.{sym, ap, subst, ◌∙◌, arith, count_by}
use Rattle.std.specs.List.{Contains, range_with_len}
use Rattle.std.specs.List.Sorted.{IsPermutation, IsNonDecreasingBy}
use Rattle.std.proofs.lemmas.List.Sorted.{Contains-permutation, IsPermutation-map, length_permutation}
use Rattle.std.proofs.lemmas.Bool.{cases_eq, eq-eqb, ne_eqb, false≢true}
use Rattle.std.proofs.lemmas.List.{length-replicate, get_or-replicate}
use Rattle.std.proofs.lemmas.List.FromFn.{map-range_with_len_more, length-range_with_len, get_or-range_with_len}
use Rattle.std.proofs.Math.Seq.{take-suc}
use Rattle.daggy_base.specs.Graph.{Graph, Edge, HasNode, HasEdge, edge_at, edge_bound, edge_count, slot}
use Rattle.daggy_base.specs.Path.{AreJoined, IsPath, Reaches, IsAcyclic, end_of}
use Rattle.daggy_base.specs.Removal.{without, without_edges}
use Rattle.daggy_base.specs.WellFormed.{IsWellFormed, AreDistinct}
use Rattle.daggy_base.specs.declared.kind.Kind.TheVariants.{Stable}
use Rattle.daggy_base.proofs.ListParts.{filter_yes, filter_no}
use Rattle.daggy_base.proofs.Lists.{Mem, mem_right, mem_at, contains_mem, mem_contains, split_at}
use Rattle.daggy_base.proofs.Lists.{unique_from_distinct, distinct_from_unique}
use Rattle.daggy_base.proofs.OutEdgesRead.{below_bound}
use Rattle.daggy_base.proofs.PathsWithEdge.{reaches_itself, reaches_before, reaches_on, no_round}
use Rattle.daggy_order.proofs.MovedNodes.{unique_same}
use Rattle.daggy_redundant.specs.Comparison.{IsAscending}
use Rattle.daggy_dag.proofs.EdgesSorted.{sorted_exact, sorted_ascends}
use Rattle.daggy_cycles.specs.EdgeWays.{Lead}
use Rattle.daggy_cycles.specs.Feedback.{AreLeftOut}
use Rattle.daggy_cycles.specs.Trying.{AreTried}
use Rattle.daggy_cycles.proofs.Removed.{edge_was, edge_stays, node_was, node_stays}
use Rattle.daggy_cycles.proofs.Trying.{kept_joins}
use Rattle.daggy_cycles.proofs.Ways.{joins}

-- lists

some_of : {A : Type 0} (o : Option A) → IsSome o → (x : A) × (o ≡ Some x)
some_of None h = absurd (false≢true h)
some_of (Some x) h = (x, refl)

mem_without : (e d : ℕ) (xs : List ℕ) → Mem d (without e xs) → Mem d xs × (d ≢ e)
mem_without e d [] m = absurd m
mem_without e d (y ∷ ys) m =
    let keeps : ℕ → Bool = λ x. not (eqb x e) in
    let P : List ℕ → Type 0 = λ z. Mem d z in
    elim (cases_eq y e) [
      | inl same ↦ (
          let rest = mem_without e d ys (subst P (filter_no keeps y ys (ap not (eq-eqb y e same))) m) in
          (inr rest.0, rest.1)
          )
      | inr differs ↦ (
          let at : Mem d (y ∷ without e ys) = subst P (filter_yes keeps y ys (ap not (ne_eqb y e differs))) m in
          elim at [
            | inl is ↦ (inl is, λ h. differs (sym is ∙ h))
            | inr more ↦ (let rest = mem_without e d ys more in (inr rest.0, rest.1))
          ]
          )
    ]

map_same : (xs : List ℕ) → map (λ (x : ℕ). x) xs ≡ xs
map_same [] = refl
map_same (x ∷ xs) = ap (λ (z : List ℕ). x ∷ z) (map_same xs)

pub range_more : (n : ℕ) → range_with_len 0 (n + 1) ≡ range_with_len 0 n ++ n ∷ []
range_more n =
    let more = map-range_with_len_more (λ (x : ℕ). x) 0 n n (omega arith) in
    sym (map_same (range_with_len 0 (n + 1)))
    ∙ (more ∙ ap (λ (z : List ℕ). z ++ n ∷ []) (map_same (range_with_len 0 n)))

pub in_range : (xs : List ℕ) (n e : ℕ) → e < n → Contains (xs ++ range_with_len 0 n) e
in_range xs n e low =
    let P : ℕ → Type 0 = λ z. Mem z (range_with_len 0 n) in
    let is : get_or (range_with_len 0 n) e 0 ≡ e = omega (arith, get_or-range_with_len 0 n e 0 low) in
    mem_contains (xs ++ range_with_len 0 n) e
    (mem_right xs (range_with_len 0 n) e
    (subst P is (mem_at (range_with_len 0 n) e 0
    (omega (arith, length-range_with_len 0 n, low)))))

pub map_take_more : {I : Type 0} (number : I → ℕ) (xs : List I) (k : ℕ) (x : I) → k < length xs → x ≡ get_or xs k x
    → map number (take (k + 1) xs) ≡ map number (take k xs) ++ number x ∷ []
map_take_more {I} number xs k x low is =
    let one : k + 1 ≡ suc k = omega arith in
    ap (λ (z : ℕ). map number (take z xs)) one
    ∙ (ap (λ z. map number z) (take-suc xs k x low)
    ∙ (pushed (take k xs) (get_or xs k x) ∙ ap (λ z. map number (take k xs) ++ number z ∷ []) (sym is)))
  where
    pushed : (ys : List I) (y : I) → map number (ys ++ y ∷ []) ≡ map number ys ++ number y ∷ []
    pushed [] y = refl
    pushed (z ∷ ys) y = ap (λ (l : List ℕ). number z ∷ l) (pushed ys y)

-- nothing was tried yet
pub nothing_tried : {N E M F : Type 0} (g : Graph N E) (dag : Graph M F) (marks : List Bool)
    → ((n : ℕ) → HasNode g n → HasNode dag n) → dag.edges ≡ [] → marks ≡ replicate (edge_bound g) false
    → AreTried g dag marks [] []
nothing_tried g dag marks nodes none are =
    let no : (e : ℕ) → Contains [] e → ⊥ = λ e c. contains_mem [] e c in
    let few : edge_count dag ≤ 0 = omega (arith, ap (λ z. count_by is_some z) none) in
    record {
      nodes = nodes;
      joined = λ u v. (
        λ j. absurd (
            let P : List (Option (Edge _)) → Type 0 =
            λ z. slot z j.0 ≡ Some (record { parent = u; child = v; weight = j.1 }) in
            let some : None ≡ Some (record { parent = u; child = v; weight = j.1 }) = subst P none j.2 in
            cc),
        λ k. absurd (no k.index k.tried_is),
      );
      left_out = record {
        exact = λ before after e x is at. absurd (
            let P : List ℕ → Type 0 = λ z. Mem e z in
            (subst P (sym is) (mem_right before (e ∷ after) e (inl refl))));
        edges = λ e c. absurd (no e c);
        once = tt;
      };
      within = λ e c. c;
      long = ap (λ (z : List Bool). length z) are ∙ length-replicate (edge_bound g) false;
      marked = λ e h. (
        λ is.
            let P : List Bool → Type 0 = λ z. get_or z e false ≡ true in
            let low : e < edge_bound g = below_bound g.edges e h in
            absurd (false≢true (sym (get_or-replicate (edge_bound g) e false false low) ∙ subst P are is)),
        λ c. absurd (no e c),
      );
      many = record { edges = []; once = tt; some = λ e c. absurd (no e c); many = few };
    }

module _ {N E M F : Type 0} {end : ℕ} {g : Graph N E} (w : IsWellFormed end g) {dag : Graph M F} {marks : List Bool}
    {tried out : List ℕ} (s : AreTried g dag marks tried out) (all : (e : ℕ) → HasEdge g e → Contains tried e) where
  abbrev rest_of : Graph N E
  rest_of = without_edges Stable g out

  joined_was : (u v : ℕ) → AreJoined rest_of u v → AreJoined g u v
  joined_was u v j = (j.0, j.1, (edge_was out g j.0 _ j.2).0)

  step_was : (u v : ℕ) → HasNode rest_of u → AreJoined rest_of u v → HasNode rest_of v → Reaches g u v
  step_was u v h j k =
      reaches_before g u v v (node_was out g u h) (joined_was u v j) (reaches_itself g v (node_was out g v k))

  begins : (u : ℕ) (rest : List ℕ) → IsPath rest_of (u ∷ rest) → HasNode rest_of u
  begins u [] p = p
  begins u (v ∷ rest) p = p.0

  path_was : (u : ℕ) (rest : List ℕ) → IsPath rest_of (u ∷ rest) → Reaches g u (end_of u rest)
  path_was u [] p = reaches_itself g u (node_was out g u p)
  path_was u (v ∷ rest) p =
      reaches_on g u v (end_of v rest) (step_was u v p.0 p.1 (begins v rest p.2)) (path_was v rest p.2)

  -- a path of what is left, from whose end its beginning is reached, is a path of the dag
  path_kept : (u : ℕ) (rest : List ℕ) → IsPath rest_of (u ∷ rest) → Reaches g (end_of u rest) u → IsPath dag (u ∷ rest)
  path_kept u [] p back = s.nodes u (node_was out g u p)
  path_kept u (v ∷ rest) p back =
      let j = p.1 in
      let was = edge_was out g j.0 _ j.2 in
      let step = step_was u v p.0 j (begins v rest p.2) in
      let on = reaches_on g v (end_of v rest) u (path_was v rest p.2) back in (
        s.nodes u (node_was out g u p.0),
        kept_joins w s j.0 _ was.0 (all j.0 (ap is_some was.0)) (λ c. was.1 (contains_mem out j.0 c)) (step, on),
        path_kept v rest p.2 (reaches_on g (end_of v rest) u v back step),
      )

  -- it has no cycle
  pub rest_acyclic : IsAcyclic dag → IsAcyclic (without_edges Stable g out)
  rest_acyclic acyclic u v rest p round =
      let P : ℕ → Type 0 = λ z. Reaches g z u in
      let back : Reaches g (end_of v rest) u =
      subst P (sym round) (reaches_itself g u (node_was out g u p.0)) in
      acyclic u v rest (path_kept u (v ∷ rest) p back) round

  module _ (e : ℕ) (left : Contains out e) where
    abbrev with_one : Graph N E
    with_one = without_edges Stable g (without e out)

    -- a way of edges that stay is a path
    way_stays : (way : List ℕ) (u v : ℕ) → HasNode g v → Lead g way u v
        → ((d : ℕ) → Contains way d → ¬ Contains out d) → Reaches with_one u v
    way_stays [] u v h l stay =
        let P : ℕ → Type 0 = λ z. Reaches with_one z v in
        subst P (sym l) (reaches_itself with_one v (node_stays (without e out) g v h))
    way_stays (d ∷ ds) u v h l stay =
        let x = l.0 in
        let here : Mem d (without e out) → ⊥ =
        λ m. stay d (0, omega arith, refl) (mem_contains out d (mem_without e d out m).0) in
        let P : ℕ → Type 0 = λ z. Reaches with_one z v in
        subst P l.2 (reaches_before with_one x.parent x.child v
        (node_stays (without e out) g x.parent (w.parents d x l.1))
        (joins with_one d x (edge_stays (without e out) g d x l.1 here))
        (way_stays ds x.child v h l.3
        (λ f c. stay f (mem_contains (d ∷ ds) f (inr (contains_mem ds f c))))))

    -- with any edge that is left out there is one
    pub one_cyclic : ¬ IsAcyclic (without_edges Stable g (without e out))
    one_cyclic acyclic =
        let edge = some_of (edge_at g e) (s.left_out.edges e left) in
        let x = edge.0 in
        let p = split_at tried e (contains_mem tried e (s.within e left)) in
        let c = (s.left_out.exact p.0 p.1 e x p.2 edge.1).0 left in
        no_round with_one acyclic x.parent x.child (node_stays (without e out) g x.parent (w.parents e x edge.1))
        (joins with_one e x (edge_stays (without e out) g e x edge.1 (λ m. (mem_without e e out m).1 refl)))
        (way_stays c.way x.child x.parent (w.parents e x edge.1) c.leads (λ d m. (c.kept d m).1))

-- the same edges in another order
module _ {N E : Type 0} {g : Graph N E} {tried out out' : List ℕ} (same : (e : ℕ) → Contains out' e ↔ Contains out e)
    (once : AreDistinct out') where
  pub left_out_same : AreLeftOut g tried out → AreLeftOut g tried out'
  left_out_same a =
      record {
        exact = λ before after e x is at.
            let old = a.exact before after e x is at in (
              λ c.
                  let k = old.0 ((same e).0 c) in
                  record {
                    way = k.way;
                    leads = k.leads;
                    kept = λ d m. let h = k.kept d m in (h.0, λ o. h.1 ((same d).0 o));
                  },
              λ k. (same e).1 (old.1 (record {
                way = k.way;
                leads = k.leads;
                kept = λ d m. let h = k.kept d m in (h.0, λ o. h.1 ((same d).1 o));
              })),
            );
        edges = λ e c. a.edges e ((same e).0 c);
        once = once;
      }

  pub tried_same : {M F : Type 0} {dag : Graph M F} {marks : List Bool} → AreTried g dag marks tried out
      → AreTried g dag marks tried out'
  tried_same s =
      record {
        nodes = s.nodes;
        joined = λ u v. (
          λ j.
              let k = (s.joined u v).0 j in
              record {
                index = k.index;
                edge = k.edge;
                at = k.at;
                from = k.from;
                to = k.to;
                tried_is = k.tried_is;
                stays = λ c. k.stays ((same k.index).0 c);
                round = k.round;
              },
          λ k. (s.joined u v).1 (record {
            index = k.index;
            edge = k.edge;
            at = k.at;
            from = k.from;
            to = k.to;
            tried_is = k.tried_is;
            stays = λ c. k.stays ((same k.index).1 c);
            round = k.round;
          }),
        );
        left_out = left_out_same s.left_out;
        within = λ e c. s.within e ((same e).0 c);
        long = s.long;
        marked = s.marked;
        many = s.many;
      }

-- the edges that are left out, sorted
module _ {I N E M F : Type 0} (number : I → ℕ) {end : ℕ} {g : Graph N E} (w : IsWellFormed end g) {dag : Graph M F}
    {marks : List Bool} {tried : List ℕ} (old new : List I) (s : AreTried g dag marks tried (map number old))
    (same : IsPermutation old new) where
  abbrev olds : List ℕ
  olds = map number old

  abbrev news : List ℕ
  news = map number new

  numbers : IsPermutation (map number old) (map number new)
  numbers = IsPermutation-map number old new same

  news_once : AreDistinct (map number new)
  news_once =
      distinct_from_unique news (unique_same olds news (unique_from_distinct olds s.left_out.once)
      (omega (arith, length_permutation olds news numbers))
      (λ x m. contains_mem news x (Contains-permutation olds news x numbers (mem_contains olds x m))))

  pub sorted_tried : AreTried g dag marks tried (map number new)
  sorted_tried = tried_same (sorted_exact number old new olds refl same) news_once s

  pub sorted_ascending : IsNonDecreasingBy number new → IsAscending (map number new)
  sorted_ascending sorted = sorted_ascends number old new olds refl same sorted s.left_out.once
