-- Iterating over the children of a node, edge by edge.
use Rattle.std.proofs.Common.{◌≡◌, ◌≢◌, ℕ, zero, suc, ◌+◌, ◌<◌, ◌≤◌, Bool, true, false, ◌⊎◌, ◌↔◌, inl, inr, List, [], ◌∷◌}
use Rattle.std.proofs.Common.{length, get_or, drop, set, refl, sym, ap, subst, ◌∙◌, arith, length-set}
use Rattle.std.proofs.lemmas.Bool.{false≢true, cases_lt}
use Rattle.daggy_base.specs.Graph.{Graph, HasEdge, out_list, node_bound, edge_count}
use Rattle.daggy_base.specs.Path.{AreJoined}
use Rattle.daggy_base.specs.Ordered.{edges_from}
use Rattle.daggy_base.proofs.Lists.{Mem, Unique}
use Rattle.daggy_base.proofs.EdgesFrom.{lists_length}
use Rattle.daggy_base.specs.Cursor.{first_of}
use Rattle.daggy_base.specs.WellFormed.{IsWellFormed}
use Rattle.daggy_base.specs.Look.{IsLook}
use Rattle.daggy_base.proofs.OutEdgesRead.{LookedTo, lists_few, below_bound, read_part, read_whole, all_read, has_edge, child_exists}
use Rattle.daggy_base.proofs.OutEdgesRead.{child_joined, next_cursor, looked_more}
use Rattle.daggy_search.proofs.SearchProgress.{set_marked}
use Rattle.daggy_redundant.specs.Comparison.{JoinsAll}

-- The first edges that leave a node were looked at, and e is the next one. P holds of their children.
pub record Looking {N E : Type 0} (end : ℕ) (g₀ g : Graph N E) (u e looks₀ looks : ℕ) (P : ℕ → Type 0) : Type 0 where
  pub same : g ≡ g₀
  pub passed : ℕ
  pub cursor : e ≡ first_of end (drop passed (out_list g₀ u))
  pub within : passed ≤ length (out_list g₀ u)
  pub counted : looks ≡ looks₀ + passed
  pub looked : LookedTo end g₀ P u passed

module _ {N E : Type 0} {end : ℕ} {g₀ g : Graph N E} (w : IsWellFormed end g₀) {u e looks₀ looks : ℕ} {P : ℕ → Type 0}
    (s : Looking end g₀ g u e looks₀ looks P) where
  pub looking_edge : e ≢ end → HasEdge g e
  looking_edge here =
      let H : Graph N E → Type 0 = λ z. HasEdge z e in
      subst H (sym s.same) (has_edge end g₀ w u s.passed e s.cursor here)

  pub looking_less : e ≢ end → s.passed + 1 ≤ length (out_list g₀ u)
  looking_less here = omega (arith, (read_part end g₀ w u s.passed e s.cursor here).0)

  pub looking_whole : e ≡ end → looks ≡ looks₀ + length (out_list g₀ u)
  looking_whole h = omega (arith, s.counted, read_whole end g₀ w u s.passed e s.cursor s.within h)

  -- at `end` P holds of all children
  pub all_looked : e ≡ end → (v : ℕ) → AreJoined g₀ u v → P v
  all_looked h v j = all_read end g₀ w u s.passed e s.cursor s.within h P s.looked v j

  module _ (here : e ≢ end) {v next : ℕ} (look : IsLook end g e v next) where
    look₀ : IsLook end g₀ e v next
    look₀ = let L : Graph N E → Type 0 = λ z. IsLook end z e v next in subst L s.same look

    pub looked_child : AreJoined g₀ u v
    looked_child = child_joined end g₀ w u s.passed e s.cursor here v next look₀

    pub looked_low : v < node_bound g₀
    looked_low = below_bound g₀.nodes v (child_exists end g₀ w u s.passed e s.cursor here v next look₀)

    pub looking_on : {g' : Graph N E} {looks' : ℕ} (Q : ℕ → Type 0)
        → g' ≡ g → looks' ≡ looks + 1 → ((n : ℕ) → P n → Q n) → Q v → Looking end g₀ g' u next looks₀ looks' Q
    looking_on Q same' more holds this =
        record {
          same = same' ∙ s.same;
          passed = suc s.passed;
          cursor = next_cursor end g₀ w u s.passed e s.cursor here v next look₀;
          within = let less = looking_less here in omega (arith, less);
          counted = let counted = s.counted in omega (arith, counted, more);
          looked =
              looked_more end g₀ w u s.passed e s.cursor here v next look₀ Q
              (λ j x lt a. holds x.child (s.looked j x lt a)) this;
        }

-- marked since are children alone
pub record Marking {N E : Type 0} (g : Graph N E) (u : ℕ) (before marks : List Bool) : Type 0 where
  pub sized : length marks ≡ length before
  pub only : (n : ℕ) → get_or marks n false ≡ true → (get_or before n false ≡ true) ⊎ AreJoined g u n
  pub kept : (n : ℕ) → get_or before n false ≡ true → get_or marks n false ≡ true

pub mark_one : {N E : Type 0} {g : Graph N E} {u : ℕ} {before marks : List Bool}
    → Marking g u before marks → (v : ℕ) → v < length marks → AreJoined g u v → Marking g u before (set marks v true)
mark_one {N} {E} {g} {u} {before} {marks} s v low joined =
    record {
      sized = length-set marks v true ∙ s.sized;
      only = λ n m. elim ((set_marked marks v n low).0 m) [
        | inl here ↦ (let J : ℕ → Type 0 = λ z. AreJoined g u z in inr (subst J (sym here) joined))
        | inr earlier ↦ s.only n earlier
      ];
      kept = λ n m. (set_marked marks v n low).1 (inr (s.kept n m));
    }

-- a marked node stays marked, and the new one is
pub marks_grow : (marks : List Bool) (v : ℕ) → v < length marks
    → ((n : ℕ) → get_or marks n false ≡ true → get_or (set marks v true) n false ≡ true)
    × (get_or (set marks v true) v false ≡ true)
marks_grow marks v low = (λ n m. (set_marked marks v n low).1 (inr m), (set_marked marks v v low).1 (inl refl))

-- the nodes below a number, the last one first
abbrev pub down : ℕ → List ℕ
down zero = []
down (suc n) = n ∷ down n

down_low : (n x : ℕ) → Mem x (down n) → x < n
down_low zero x m = absurd m
down_low (suc n) x (inl is) = omega (arith, is)
down_low (suc n) x (inr m) = omega (arith, down_low n x m)

down_once : (n : ℕ) → Unique (down n)
down_once zero = tt
down_once (suc n) = (λ m. absurd (omega (arith, down_low n n m)), down_once n)

-- no more edges leave them than there are
pub down_few : {N E : Type 0} {end : ℕ} {g : Graph N E} → IsWellFormed end g → (n : ℕ)
    → edges_from g (down n) ≤ edge_count g
down_few {end = end} {g = g} w n =
    omega (arith, lists_length g (down n), lists_few end g w (down n) (down_once n))

-- one node more
pub down_more : {N E : Type 0} {g₀ g : Graph N E} (base : ℕ) {n u looks looks' : ℕ} → g ≡ g₀ → u ≡ n
    → looks ≤ base + edges_from g₀ (down n) → looks' ≤ looks + length (out_list g u)
    → looks' ≤ base + edges_from g₀ (down (n + 1))
down_more {g₀ = g₀} base {n} {u} same is paid more =
    let next : n + 1 ≡ suc n = omega arith in
    omega (
      arith,
      paid,
      more,
      ap (λ z. length (out_list z u)) same,
      ap (λ z. length (out_list g₀ z)) is,
      ap (λ z. edges_from g₀ (down z)) next,
    )

-- What is compared: two graphs, the size of the worklist, and the number past all nodes of the first graph.
pub record Pair (N E M F : Type 0) : Type 0 where
  pub one : Graph N E
  pub other : Graph M F
  pub size : ℕ
  pub bound : ℕ

-- How far they were compared: the graphs, the size of the worklist, and the node that is next.
pub record Progress (N E M F : Type 0) : Type 0 where
  pub one : Graph N E
  pub other : Graph M F
  pub size : ℕ
  pub node : ℕ

-- up to a node, the other graph joins all that the one joins
pub record Comparing {N E M F : Type 0} (pair : Pair N E M F) (now : Progress N E M F) : Type 0 where
  pub same : now.one ≡ pair.one
  pub other_same : now.other ≡ pair.other
  pub within : now.node ≤ pair.bound
  pub sized : now.size ≡ pair.size
  pub joined : (u v : ℕ) → u < now.node → AreJoined pair.one u v → AreJoined pair.other u v

module _ {N E M F : Type 0} {pair : Pair N E M F} {now : Progress N E M F} (s : Comparing pair now) where
  both_join : (v : ℕ) → AreJoined now.other now.node v → AreJoined pair.other now.node v
  both_join v j = let J : Graph M F → Type 0 = λ z. AreJoined z now.node v in subst J s.other_same j

  module _ (before marks' : List Bool) (unmarked : (k : ℕ) → get_or before k false ≡ false)
      (marked : (k : ℕ) → (get_or marks' k false ≡ true)
      ↔ ((get_or before k false ≡ true) ⊎ AreJoined now.other now.node k)) where
    pub compare_on : now.node < pair.bound → {size' : ℕ} → size' ≡ now.size → {g' : Graph N E} {h' : Graph M F}
        → g' ≡ now.one → h' ≡ now.other → ((k : ℕ) → AreJoined now.one now.node k → get_or marks' k false ≡ true)
        → Comparing pair record { one = g'; other = h'; size = size'; node = now.node + 1 }
    compare_on low {size'} sized {g'} {h'} same other_same all =
        record {
          same = same ∙ s.same;
          other_same = other_same ∙ s.other_same;
          within = omega (arith, low);
          sized = sized ∙ s.sized;
          joined = λ u v lt j. elim (cases_lt u now.node) [
            | inl early ↦ s.joined u v early j
            | inr late ↦ (
                let here : u ≡ now.node = omega (arith, lt, late) in
                let A : ℕ → Type 0 = λ z. AreJoined pair.one z v in
                let B : Graph N E → Type 0 = λ z. AreJoined z now.node v in
                let C : ℕ → Type 0 = λ z. AreJoined pair.other z v in
                subst C (sym here) (elim ((marked v).0 (all v (subst B (sym s.same) (subst A here j)))) [
                  | inl was ↦ absurd (false≢true (sym (unmarked v) ∙ was))
                  | inr joined ↦ both_join v joined
                ])
                )
          ];
        }

    -- where all pairs are joined, all these children are marked
    pub all_marked_if : JoinsAll pair.one pair.other → (k : ℕ) → AreJoined now.one now.node k
        → get_or marks' k false ≡ true
    all_marked_if all k j =
        let B : Graph N E → Type 0 = λ z. AreJoined z now.node k in
        let J : Graph M F → Type 0 = λ z. AreJoined z now.node k in
        (marked k).1 (inr (subst J (sym s.other_same) (all now.node k (subst B s.same j))))

  pub compared : (limit : ℕ) → IsWellFormed limit pair.one → pair.bound ≡ node_bound pair.one → pair.bound ≤ now.node
      → JoinsAll pair.one pair.other
  compared limit w is past u v j =
      let low = below_bound pair.one.nodes u (w.parents j.0 _ j.2) in
      s.joined u v (omega (arith, low, is, past)) j
