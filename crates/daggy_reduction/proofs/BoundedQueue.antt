-- A queue whose nodes all come before the last child of its first node.
use Rattle.std.proofs.Common.{◌≡◌, ◌≢◌, ℕ, ◌+◌, ◌<◌, ◌≤◌, max, Bool, true, false, ◌⊎◌, ◌↔◌, inl, inr}
use Rattle.std.proofs.Common.{Some, List, [], ◌∷◌, length, get_or, take, refl, sym, ap, subst, ◌∙◌, arith}
use Rattle.std.proofs.Math.Nat.{le-max_left, le-max_right}
use Rattle.std.proofs.lemmas.List.{length-take-le}
use Rattle.daggy_base.specs.Graph.{Graph, Edge, HasNode, out_list, edge_at}
use Rattle.daggy_base.specs.Path.{AreJoined, Reaches}
use Rattle.daggy_base.specs.Reduction.{ReachesIndirectly}
use Rattle.daggy_base.specs.WellFormed.{IsWellFormed}
use Rattle.daggy_base.proofs.Lists.{Mem, Unique, contains_mem}
use Rattle.daggy_base.proofs.PathsWithEdge.{reaches_itself, reaches_before, no_round}
use Rattle.daggy_search.proofs.SearchProgress.{reaches_stays}
use Rattle.daggy_base.proofs.OutEdgesRead.{listed}
use Rattle.daggy_base.specs.Ordered.{IsOrderOf, place, stretch}
use Rattle.daggy_base.proofs.PathEnds.{reached_exists}
use Rattle.daggy_order.proofs.OrderLaws.{acyclic_from_order}
use Rattle.daggy_base.proofs.Sorted.{place_at}
use Rattle.daggy_base.proofs.ListParts.{in_stretch}
use Rattle.daggy_redundant.specs.Closure.{behind}
use Rattle.daggy_reduction.specs.SearchSpan.{child_place, latest, last_place, edges_spanned}
use Rattle.daggy_reduction.proofs.QueuedChildren.{First, Children, Beginning, children_found}
use Rattle.daggy_redundant.proofs.QueueState.{Start, Reading, Draining, rest_nothing}
use Rattle.daggy_redundant.proofs.FlaggedRedundant.{joined_exist}
use Rattle.daggy_redundant.proofs.Paths.{reaches_one, round_through}
use Rattle.daggy_redundant.proofs.QueueProgress.{Task, Queueing, looked_from, all_reached, all_met}
use Rattle.daggy_redundant.proofs.LongerWays.{last_step}

-- a node between two places is in that stretch
in_places : (xs : List ℕ) (i j n : ℕ) → Mem n xs → i ≤ place xs n → place xs n < j → Mem n (stretch xs i j)
in_places xs i j n m above below =
    let at = place_at xs n m in
    let P : ℕ → Type 0 = λ z. Mem z (stretch xs i j) in
    subst P at.1 (in_stretch xs i j (place xs n) above below at.0)

-- no child stands later than the last one
pub latest_from : {N E : Type 0} (g : Graph N E) (order : List ℕ) (k : ℕ) (es : List ℕ) → k ≤ latest g order k es
latest_from g order k [] = omega arith
latest_from g order k (e ∷ es) =
    let c = child_place order (edge_at g e) in
    omega (arith, latest_from g order (max k c) es, le-max_left k c)

latest_over : {N E : Type 0} (g : Graph N E) (order : List ℕ) (k : ℕ) (es : List ℕ) (e : ℕ) (x : Edge E)
    → Mem e es → edge_at g e ≡ Some x → place order x.child ≤ latest g order k es
latest_over g order k [] e x m at = absurd m
latest_over g order k (f ∷ es) e x m at =
    let c = child_place order (edge_at g f) in
    elim m [
      | inl eq ↦ (
          let is : c ≡ place order x.child = ap (child_place order) (ap (edge_at g) (sym eq) ∙ at) in
          omega (arith, is, latest_from g order (max k c) es, le-max_right k c)
          )
      | inr b ↦ latest_over g order (max k c) es e x b at
    ]

pub last_over : {N E : Type 0} (end : ℕ) (g : Graph N E)
    → IsWellFormed end g → (order : List ℕ) (u v : ℕ) → AreJoined g u v → place order v ≤ last_place g order u
last_over end g w order u v j =
    latest_over g order (place order u) (out_list g u) j.0 _ (listed end g w u j.0 _ j.2 refl) j.2

abbrev pub Inside : (order : List ℕ) (last : ℕ) → ℕ → Type 0
Inside order last n = place order n < place order last

abbrev pub Beyond : (order : List ℕ) (last : ℕ) → ℕ → Type 0
Beyond order last n = place order last ≤ place order n

module _ {N E : Type 0} {first : First N E} (w : IsWellFormed first.end first.graph)
    (ord : IsOrderOf first.graph first.order) (exists : HasNode first.graph first.node) {now : Children N E}
    (s : Beginning first now) (ended : now.edge ≡ first.end) where
  abbrev end : ℕ
  end = first.end

  abbrev g₀ : Graph N E
  g₀ = first.graph

  abbrev order : List ℕ
  order = first.order

  abbrev u : ℕ
  u = first.node

  -- the search from the node, among those before its last child
  abbrev bounded : List Bool → Task N E
  bounded before = record {
    end = first.end;
    graph = first.graph;
    Inside = Inside first.order now.last;
    Beyond = Beyond first.order now.last;
    starts = first.node ∷ [];
    before = before;
  }

  children_low : (v : ℕ) → AreJoined g₀ u v → place order v ≤ place order now.last
  children_low v j =
      elim (children_found w ord exists s ended v j) [
        | inl m ↦ omega (arith, s.before v m)
        | inr eq ↦ omega (arith, ap (place order) eq)
      ]

  last_low : place order now.last ≤ last_place g₀ order u
  last_low =
      elim s.last_from [
        | inl eq ↦ omega (arith, ap (place order) eq, latest_from g₀ order (place order u) (out_list g₀ u))
        | inr j ↦ last_over end g₀ w order u now.last j
      ]

  -- the rest of the search starts
  pub steps_start : now.len ≢ 0
      → Draining (bounded first.begun.marked) record { begun = first.begun; looks = first.looks } record {
        graph = now.graph;
        work = now.work;
        len = now.len;
        head = 0;
        edge = now.edge;
        looks = now.looks;
      }
  steps_start some =
      let met = first.begun.marked in
      let in_use : now.len ≤ length now.work.nodes = omega (arith, s.high, s.sized.nodes_are) in
      let others : (os : List ℕ) × (s.q ≡ u ∷ os) =
      elim s.front [
        | inl none ↦
            absurd (some (omega (arith, ap length s.is, ap length none.0, length-take-le now.len now.work.nodes in_use)))
        | inr o ↦ o
      ] in
      let front : Mem u s.q = let P : List ℕ → Type 0 = λ z. Mem u z in subst P (sym others.1) (inl refl) in
      let Q : List ℕ → Type 0 = λ z.
      Queueing (bounded met) record {
        marks = now.work.entered;
        met = met;
        nodes = z;
        head = 0;
        edge = now.edge;
        looked = s.passed;
      } in
      let going : Q s.q = record {
        done = [];
        at = u;
        rest = others.0;
        passed = s.passed;
        split = others.1;
        read = refl;
        cursor = s.cursor;
        within = s.within;
        once = s.once;
        marked = s.marked;
        reached = λ n m. (
          u,
          inl refl,
          elim (s.from n m) [
            | inl eq ↦ (let P : ℕ → Type 0 = λ z. Reaches g₀ u z in subst P (sym eq) (reaches_itself g₀ u exists))
            | inr j ↦ reaches_one g₀ u n exists (w.children j.0 _ j.2) j
          ],
        );
        start = λ n m. elim m [
          | inl eq ↦ (let P : ℕ → Type 0 = λ z. Mem z s.q in subst P (sym eq) front)
          | inr none ↦ absurd none
        ];
        later = others.0;
        begins = others.1;
        inside = s.before;
        closed = λ a b m j. absurd m;
        half = λ j x lt a. elim (s.found j x lt a) [
          | inl m ↦ inl m
          | inr eq ↦ inr (omega (arith, ap (place order) eq))
        ];
        met_only = λ n m. inl m;
        met_before = λ n m. m;
        met_closed = λ a b m j. absurd m;
        met_half = λ k. absurd (k refl);
        counted = omega arith;
      } in
      record {
        same = s.same;
        sized = s.sized;
        aside = s.aside;
        fits = s.fits;
        high = s.high;
        looked = s.passed;
        counted = s.counted;
        going =
            let P : List Bool → Type 0 = λ z.
            Queueing (bounded met) record {
              marks = now.work.entered;
              met = z;
              nodes = take now.len now.work.nodes;
              head = 0;
              edge = now.edge;
              looked = s.passed;
            } in
            subst P (sym s.unmet) (subst Q (sym s.is) going);
      }

  module _ {before : List Bool} {start : Start} {after : Reading N E}
      (t : Draining (bounded before) start after) where
    reached_here : (n : ℕ) → Mem n (take after.len after.work.nodes) → Reaches g₀ u n
    reached_here n m =
        let r = t.going.reached n m in
        let P : ℕ → Type 0 = λ z. Reaches g₀ z n in
        elim r.1 [ inl eq ↦ subst P eq r.2 | inr none ↦ absurd none ]

    -- the count of looks
    pub few_spanned : after.looks ≤ start.looks + edges_spanned g₀ order u
    few_spanned =
        let few =
        looked_from w t.going (stretch order (place order u) (last_place g₀ order u)) (λ n m.
        let P : ℕ → Type 0 = λ z. place order u ≤ place order z in
        let r = reached_here n m in
        let above = reaches_stays g₀ P (λ a b h j. omega (arith, h, ord.sorted a b j)) u n r (omega arith) in
        in_places order (place order u) (last_place g₀ order u) n
        (contains_mem order n ((ord.exact n).1 (reached_exists g₀ u n r))) above (omega (
          arith,
          t.going.inside n m,
          last_low,
        ))) in
        omega (arith, few, t.counted)

    -- the children that got marks
    module _ (h : after.edge ≡ end) (done : after.head + 1 ≡ after.len) where
      behind_is : behind (take after.len after.work.nodes) ≡ t.going.later
      behind_is = ap behind t.going.begins

      far : (a b : ℕ) → Beyond order now.last a → AreJoined g₀ a b → Beyond order now.last b
      far a b past j = omega (arith, past, ord.sorted a b j)

      there : (v m : ℕ) → Mem m (behind (take after.len after.work.nodes)) → AreJoined g₀ m v → ReachesIndirectly g₀ u v
      there v m k j =
          let P : List ℕ → Type 0 = λ z. Mem m z in
          let U : List ℕ → Type 0 = λ z. Unique z in
          let later = subst P behind_is k in
          let inside : Mem m (take after.len after.work.nodes) = subst P (sym t.going.begins) (inr later) in
          let Q : ℕ → Type 0 = λ z. Mem z t.going.later in
          let apart : m ≢ u = λ eq. (subst U t.going.begins t.going.once).0 (subst Q eq later) in
          let has = joined_exist end g₀ w m v j in
          let to : m ≢ v = λ eq. absurd (omega (arith, ord.sorted m v j, ap (place order) eq)) in
          round_through g₀ u m v (reached_here m inside) (reaches_one g₀ m v has.0 has.1 j) apart to

      back : (v : ℕ) → AreJoined g₀ u v → ReachesIndirectly g₀ u v → get_or after.work.marked v false ≡ true
      back v child r =
          let x = r.0 in
          let step = last_step g₀ x r.1 r.2 r.3.2 in
          let m = step.0 in
          let Q : ℕ → Type 0 = λ z. AreJoined g₀ m z in
          let j : AreJoined g₀ m v = subst Q r.4 step.2 in
          let from_u : Reaches g₀ u m = reaches_before g₀ u x m r.3.0 r.3.1 step.1 in
          let other : m ≢ u = λ eq.
          (let P : ℕ → Type 0 = λ z. Reaches g₀ x z in
          no_round g₀ (acyclic_from_order order ord) u x r.3.0 r.3.1 (subst P eq step.1)) in
          let near : place order m < place order now.last = omega (arith, ord.sorted m v j, children_low v child) in
          let P : List ℕ → Type 0 = λ z. Mem m z in
          let queued : Mem m (take after.len after.work.nodes) =
          elim (all_reached w t.going h (rest_nothing w t done) far m u (inl refl) from_u) [
            | inl q ↦ q
            | inr past ↦ absurd (omega (arith, past, near))
          ] in
          let later : Mem m t.going.later = elim (subst P t.going.begins queued) [
            | inl eq ↦ absurd (other eq)
            | inr b ↦ b
          ] in
          (all_met w t.going h (rest_nothing w t done) v).1 (inr (m, subst P (sym behind_is) later, j))

      pub round_met : (v : ℕ) → AreJoined g₀ u v
          → (get_or after.work.marked v false ≡ true) ↔ ((get_or before v false ≡ true) ⊎ ReachesIndirectly g₀ u v)
      round_met v child = (
        λ m. elim (t.going.met_only v m) [ inl a ↦ inl a | inr c ↦ inr (there v c.0 c.1 c.2) ],
        λ k. elim k [ inl a ↦ t.going.met_before v a | inr r ↦ back v child r ],
      )
