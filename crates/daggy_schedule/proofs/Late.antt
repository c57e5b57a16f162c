-- How much later nodes can start, against an order of them.
use Rattle.std.proofs.Common.{◌≡◌, ◌≢◌, ℕ, ◌+◌, ◌-◌, ◌<◌, ◌≤◌, ◌⊎◌, inl, inr, List, [], ◌∷◌, ◌++◌, length, get_or, set}
use Rattle.std.proofs.Common.{take, drop, refl, sym, ap, subst, ◌∙◌, arith, Some, map, drop-cons, append_assoc, append-nil, zero, suc}
use Rattle.std.proofs.lemmas.List.{get_or-set_same, get_or-set_other, take-append-drop, length-map, get_or-map}
use Rattle.std.specs.Option.{option_map}
use Rattle.daggy_base.specs.Graph.{Graph, HasNode, edge_at, ends_of, out_list}
use Rattle.daggy_base.specs.Path.{AreJoined}
use Rattle.daggy_base.specs.Cursor.{first_of, cursor_after}
use Rattle.daggy_base.specs.declared.index.Direction.TheVariants.{Outgoing}
use Rattle.daggy_base.specs.Ordered.{IsOrderOf, place}
use Rattle.daggy_base.specs.WellFormed.{IsWellFormed, AreDistinct}
use Rattle.daggy_base.proofs.Lists.{Mem, Unique, mem_cases, mem_mid, mem_contains, contains_mem, unique_from_distinct}
use Rattle.daggy_base.proofs.Lists.{unique_right}
use Rattle.daggy_base.proofs.Sorted.{place_left, place_right, place_same, unique_cross}
use Rattle.daggy_schedule.specs.Times.{AreDoneBy}
use Rattle.daggy_schedule.specs.Lags.{AreFeasibleWithLags, AreLatestWithLags}
use Rattle.daggy_schedule.specs.Passes.{IsLatestFinish, later_by}
use Rattle.daggy_schedule.proofs.Passing.{Passing, passing_from, passing_on, passed_edge, all_passed}

-- ---- the latest finish of one node

pub record Lowering {N E : Type 0} (end : ℕ) (g : Graph N E) (n : ℕ) (lags : List ℕ) (start : ℕ → ℕ) (makespan e latest : ℕ)
    : Type 0 where
  pub passing : Passing end g n e (λ k v. latest + get_or lags k 0 ≤ start v)
  pub most : latest ≤ makespan
  pub met : (latest ≡ makespan) ⊎ ((v : ℕ) × (edge : AreJoined g n v) × (latest + get_or lags edge.0 0 ≡ start v))

pub lowers_none : {N E : Type 0} {end : ℕ} {g : Graph N E} {n : ℕ} (lags : List ℕ) (start : ℕ → ℕ) (makespan : ℕ) {e : ℕ}
    → e ≡ first_of end (out_list g n) → Lowering end g n lags start makespan e makespan
lowers_none lags start makespan first =
    record {
      passing = passing_from (λ k v. makespan + get_or lags k 0 ≤ start v) first;
      most = omega arith;
      met = inl refl;
    }

module _ {N E : Type 0} {end : ℕ} {g : Graph N E} (w : IsWellFormed end g) {n : ℕ} {lags : List ℕ} {start : ℕ → ℕ}
    {makespan e latest : ℕ} (s : Lowering end g n lags start makespan e latest) where
  pub lowers_one : (e ≢ end) → {p c : ℕ} → Some (p, c) ≡ option_map ends_of (edge_at g e) → (next : ℕ)
      → next ≡ cursor_after Outgoing end g e (edge_at g e) → (least : ℕ) → least ≤ latest
      → least + get_or lags e 0 ≤ start c → (least ≡ latest) ⊎ (least + get_or lags e 0 ≡ start c)
      → Lowering end g n lags start makespan next least
  lowers_one here {p} {c} ends next is least low_latest low_child one =
      record {
        passing =
            passing_on w s.passing here ends next is (λ k v. least + get_or lags k 0 ≤ start v)
            (λ k v h. omega (arith, h, low_latest)) low_child;
        most = omega (arith, s.most, low_latest);
        met = elim one [
          | inl same ↦ elim s.met [ inl a ↦ inl (same ∙ a) | inr b ↦ inr (b.0, b.1, omega (arith, same, b.2)) ]
          | inr child ↦ (let edge = passed_edge w s.passing here ends in inr (c, (e, edge.0, edge.1), child))
        ];
      }

  pub all_lowered : e ≡ end → IsLatestFinish g n lags start makespan latest
  all_lowered ended = record { most = s.most; below = all_passed w s.passing ended; met = s.met }

-- ---- all nodes

pub drop_past : (k : ℕ) (xs : List ℕ) → length xs ≤ k → drop k xs ≡ []
drop_past zero [] le = refl
drop_past zero (x ∷ xs) le = absurd (omega (arith, le))
drop_past (suc k) [] le = refl
drop_past (suc k) (x ∷ xs) le = drop_past k xs (omega (arith, le))

-- the nodes of `behind` can start no later than this
pub record Slackening {N E : Type 0} (g : Graph N E) (d lags : List ℕ) (start : ℕ → ℕ) (makespan : ℕ) (behind : List ℕ)
    : Type 0 where
  pub met : (u : ℕ) → Mem u behind → start u + get_or d u 0 ≤ makespan
  pub feasible : (u v : ℕ) → Mem u behind → (j : AreJoined g u v) → start u + get_or d u 0 + get_or lags j.0 0 ≤ start v
  pub greatest : (other : ℕ → ℕ) → AreFeasibleWithLags g d lags other → AreDoneBy g d other makespan
      → (u : ℕ) → Mem u behind → other u ≤ start u

pub slack_none : {N E : Type 0} (g : Graph N E) (d lags : List ℕ) (start : ℕ → ℕ) (makespan : ℕ) {behind : List ℕ}
    → behind ≡ [] → Slackening g d lags start makespan behind
slack_none g d lags start makespan none =
    let P : List ℕ → Type 0 = λ z. Slackening g d lags start makespan z in
    subst P (sym none) (record {
      met = λ u m. absurd m;
      feasible = λ u v m. absurd m;
      greatest = λ other f by u m. absurd m;
    })

module _ {N E : Type 0} {end : ℕ} {g : Graph N E} (w : IsWellFormed end g) {order : List ℕ} (ord : IsOrderOf g order)
    (before : List ℕ) (n : ℕ) (behind : List ℕ) (split : order ≡ before ++ n ∷ behind) where
  once : Unique (before ++ n ∷ behind)
  once = let D : List ℕ → Type 0 = λ z. AreDistinct z in unique_from_distinct _ (subst D split ord.once)

  not_before : Mem n before → ⊥
  not_before m = unique_cross before (n ∷ behind) once n m (inl refl)

  pub not_behind : Mem n behind → ⊥
  not_behind m = (unique_right before (n ∷ behind) once).0 m

  pub order_exists : HasNode g n
  order_exists =
      let P : List ℕ → Type 0 = λ z. Mem n z in
      (ord.exact n).0 (mem_contains order n (subst P (sym split) (mem_mid before behind n)))

  -- the children of a node stand behind it
  pub children_behind : (v : ℕ) → AreJoined g n v → Mem v behind
  children_behind v j =
      let M : List ℕ → Type 0 = λ z. Mem v z in
      let P : List ℕ → Type 0 = λ z. place z n < place z v in
      let low : place (before ++ n ∷ behind) n < place (before ++ n ∷ behind) v = subst P split (ord.sorted n v j) in
      let at = place_right before (n ∷ behind) n not_before in
      elim (mem_cases before (n ∷ behind) v (subst M split (contains_mem order v ((ord.exact v).1 (w.children j.0 _ j.2))))) [
        | inl a ↦ absurd (omega (arith, low, at, place_left before (n ∷ behind) v a))
        | inr b ↦ elim b [
          | inl same ↦ absurd (omega (arith, low, ap (λ z. place (before ++ n ∷ behind) z) same))
          | inr there ↦ there
        ]
      ]

  -- and those of a node behind it too
  later_children : (u v : ℕ) → Mem u behind → AreJoined g u v → v ≢ n
  later_children u v m j same =
      let J : ℕ → Type 0 = λ z. AreJoined g u z in
      let P : List ℕ → Type 0 = λ z. place z u < place z n in
      let low : place (before ++ n ∷ behind) u < place (before ++ n ∷ behind) n =
      subst P split (ord.sorted u n (subst J same j)) in
      let apart : Mem u before → ⊥ = λ k. unique_cross before (n ∷ behind) once u k (inr m) in
      omega (
        arith,
        low,
        place_right before (n ∷ behind) n not_before,
        place_right before (n ∷ behind) u apart,
        place_same n n behind refl,
      )

  module _ {d lags : List ℕ} (starts slack : List ℕ) {makespan : ℕ} (s : Slackening g d lags (later_by starts slack) makespan behind) where
    pub children_low : (v : ℕ) → AreJoined g n v → later_by starts slack v ≤ makespan
    children_low v j = omega (arith, s.met v (children_behind v j))

    module _ (finishes : List ℕ) (takes : get_or starts n 0 + get_or d n 0 ≡ get_or finishes n 0)
        (early : AreFeasibleWithLags g d lags (λ u. get_or starts u 0)) (most : get_or finishes n 0 ≤ makespan) {latest : ℕ}
        (finish : IsLatestFinish g n lags (later_by starts slack) makespan latest) where
      pub finish_low : get_or finishes n 0 ≤ latest
      finish_low =
          elim finish.met [
            | inl all ↦ omega (arith, all, most)
            | inr p ↦ omega (arith, p.2, early n p.0 p.1, takes)
          ]

      module _ (low : n < length slack) (slack' : List ℕ) (is : slack' ≡ set slack n (latest - get_or finishes n 0)) where
        here : get_or slack' n 0 ≡ latest - get_or finishes n 0
        here = ap (λ z. get_or z n 0) is ∙ get_or-set_same slack n (latest - get_or finishes n 0) 0 low

        other : (u : ℕ) → u ≢ n → get_or slack' u 0 ≡ get_or slack u 0
        other u ne = ap (λ z. get_or z u 0) is ∙ get_or-set_other slack n u (latest - get_or finishes n 0) 0 ne

        apart : (u : ℕ) → Mem u behind → u ≢ n
        apart u m same = let P : ℕ → Type 0 = λ z. Mem z behind in not_behind (subst P same m)

        ends : later_by starts slack' n + get_or d n 0 ≡ latest
        ends = omega (arith, here, finish_low, takes)

        pub slack_one : Slackening g d lags (later_by starts slack') makespan (n ∷ behind)
        slack_one =
            record {
              met = λ u m.
                  elim m [
                    | inl same ↦
                        (let P : ℕ → Type 0 = λ z. later_by starts slack' z + get_or d z 0 ≤ makespan in
                        subst P (sym same) (omega (arith, ends, finish.most)))
                    | inr b ↦ omega (arith, other u (apart u b), s.met u b)
                  ];
              feasible = λ u v m j.
                  elim m [
                    | inl same ↦
                        (let J : ℕ → Type 0 = λ z. edge_at g j.0 ≡ Some (record { parent = z; child = v; weight = j.1 }) in
                        let P : ℕ → Type 0 = λ z.
                        later_by starts slack' z + get_or d z 0 + get_or lags j.0 0 ≤ later_by starts slack' v in
                        let at_n : AreJoined g n v = (j.0, j.1, subst J same j.2) in
                        let v_apart = apart v (children_behind v at_n) in
                        subst P (sym same) (omega (arith, ends, finish.below v at_n, other v v_apart)))
                    | inr b ↦
                        omega (
                          arith,
                          other u (apart u b),
                          other v (later_children u v b j),
                          s.feasible u v b j,
                        )
                  ];
              greatest = λ start f by u m.
                  elim m [
                    | inl same ↦
                        (let P : ℕ → Type 0 = λ z. start z ≤ later_by starts slack' z in
                        let bound : start n + get_or d n 0 ≤ latest =
                        elim finish.met [
                          | inl all ↦ omega (arith, all, by n order_exists)
                          | inr p ↦
                              omega (
                                arith,
                                p.2,
                                f n p.0 p.1,
                                s.greatest start f by p.0 (children_behind p.0 p.1),
                              )
                        ] in
                        subst P (sym same) (omega (arith, bound, ends)))
                    | inr b ↦ omega (arith, other u (apart u b), s.greatest start f by u b)
                  ];
            }

pub all_latest : {N E : Type 0} {end : ℕ} {g : Graph N E} → IsWellFormed end g → {order : List ℕ} → IsOrderOf g order
    → {d lags : List ℕ} {start : ℕ → ℕ} {makespan : ℕ} → Slackening g d lags start makespan order
    → AreLatestWithLags g d lags start makespan
all_latest {g = g} w {order} ord s =
    let there : (n : ℕ) → HasNode g n → Mem n order = λ n h. contains_mem order n ((ord.exact n).1 h) in
    record {
      feasible = λ u v j. s.feasible u v (there u (w.parents j.0 _ j.2)) j;
      met = λ n h. s.met n (there n h);
      greatest = λ other f by n h. s.greatest other f by n (there n h);
    }

-- the nodes of some order that were collected, and the rest of it
pub record IsCollected {N E : Type 0} (g : Graph N E) (collected rest : List ℕ) : Type 0 where
  pub order : List ℕ
  pub ordered : IsOrderOf g order
  pub split : order ≡ collected ++ rest

pub collected_one : {N E : Type 0} {g : Graph N E} {collected rest was : List ℕ} {n : ℕ} → was ≡ n ∷ rest
    → IsCollected g collected was → (more : List ℕ) → more ≡ collected ++ n ∷ [] → IsCollected g more rest
collected_one {collected = collected} {rest = rest} {n = n} is s more all =
    record {
      order = s.order;
      ordered = s.ordered;
      split =
          s.split ∙ (ap (λ z. collected ++ z) is
          ∙ (sym (append_assoc collected (n ∷ []) rest) ∙ ap (λ z. z ++ rest) (sym all)));
    }

pub collected_all : {N E : Type 0} {g : Graph N E} {collected rest : List ℕ} → rest ≡ [] → IsCollected g collected rest
    → IsOrderOf g collected
collected_all {g = g} {collected = collected} none s =
    let all : s.order ≡ collected = s.split ∙ (ap (λ z. collected ++ z) none ∙ append-nil collected) in
    let P : List ℕ → Type 0 = λ z. IsOrderOf g z in
    subst P all s.ordered

-- the node at a place parts an order
module _ {I : Type 0} (number : I → ℕ) (items : List I) (k : ℕ) (n : I) (low : k < length items) (is : n ≡ get_or items k n) where
  named : number n ≡ get_or (map number items) k 0
  named = ap number is ∙ sym (get_or-map number items k n 0 low)

  sized : k < length (map number items)
  sized = omega (arith, low, length-map items number)

  pub behind_node : drop k (map number items) ≡ number n ∷ drop (k + 1) (map number items)
  behind_node =
      let one : suc k ≡ k + 1 = omega arith in
      drop-cons (map number items) k 0 sized
      ∙ (ap (λ z. get_or (map number items) k 0 ∷ drop z (map number items)) one
      ∙ ap (λ z. z ∷ drop (k + 1) (map number items)) (sym named))

  pub parted_order : map number items ≡ take k (map number items) ++ number n ∷ drop (k + 1) (map number items)
  parted_order =
      sym (take-append-drop k (map number items)) ∙ ap (λ z. take k (map number items) ++ z) behind_node
