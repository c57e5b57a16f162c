-- Nodes put above their parents, one edge after the other.
use Rattle.std.proofs.Common.{◌≡◌, ◌≢◌, ℕ, zero, suc, ◌+◌, ◌-◌, ◌<◌, ◌≤◌, ◌^◌, ◌⊎◌, inl, inr, List, [], ◌∷◌, ◌++◌}
use Rattle.std.proofs.Common.{length, take, drop, set, slice_index, Contains, replicate, Some, refl, sym, ap, subst}
use Rattle.std.proofs.Common.{◌∙◌, append_assoc, arith}
use Rattle.std.proofs.lemmas.List.{get_or-set_same, get_or-set_other, length-set, length-append, take_all}
use Rattle.std.proofs.lemmas.Bool.{cases_eq}
use Rattle.daggy_base.specs.Graph.{Graph, HasNode, edge_at, out_list, node_bound}
use Rattle.daggy_base.specs.Path.{AreJoined}
use Rattle.daggy_base.specs.Cursor.{first_of, item_at, cursor_after}
use Rattle.daggy_base.specs.declared.index.Direction.TheVariants.{Outgoing}
use Rattle.daggy_base.specs.Look.{IsLook}
use Rattle.daggy_base.specs.WellFormed.{IsWellFormed}
use Rattle.daggy_base.proofs.Lists.{Mem, mem_cases, mem_contains, contains_mem, unique_from_distinct, unique_right}
use Rattle.daggy_base.proofs.Lists.{mem_mid, Contains-there, Contains-cases, Contains-nil}
use Rattle.daggy_base.proofs.OutEdgesRead.{LookedTo, read_part, all_read, next_cursor, looked_more, child_joined}
use Rattle.daggy_base.proofs.OutEdgesRead.{child_exists, below_bound}
use Rattle.daggy_dag.specs.Walks.{rest_of_walk}
use Rattle.daggy_dag.proofs.WalkSteps.{step_gives}
use Rattle.daggy_base.specs.Ordered.{IsOrderOf, place}
use Rattle.daggy_base.proofs.Sorted.{place_left, place_right, unique_cross}
use Rattle.daggy_run.specs.Plans.{IsLowest}
use Rattle.daggy_run.specs.Levels.{IsPassed, AreLevels, IsNext, IsRaised}

-- ---- one more pair, of a node n and its child c

pub record Found (pairs : ℕ → ℕ → Type 0) (most level n : ℕ) (levels parents : List ℕ) : Type 0 where
  pub found : AreLevels pairs most levels parents
  pub level_is : level ≡ slice_index levels n + 1
  pub low : level ≤ most

-- what is told of the child alone
record Child (pairs : ℕ → ℕ → Type 0) (most level c : ℕ) (old levels parents : List ℕ) : Type 0 where
  up : slice_index old c ≤ slice_index levels c
  reach : level ≤ slice_index levels c
  few : slice_index levels c ≤ most
  noted : IsLowest (λ u. pairs u c × (slice_index levels u + 1 ≡ slice_index levels c)) (slice_index parents c)

module _ (R R' : ℕ → ℕ → Type 0) (n c : ℕ) (keeps : (u v : ℕ) → R u v → R' u v) (here : R' n c)
    (cases : (u v : ℕ) → R' u v → R u v ⊎ ((u ≡ n) × (v ≡ c))) (leaf : (v : ℕ) → R' c v → ⊥) where
  no_parent : (u v : ℕ) → R' u v → u ≡ c → ⊥
  no_parent u v r e = leaf v (subst (λ (z : ℕ). R' z v) e r)

  module _ (most level : ℕ) (levels parents levels' parents' : List ℕ) (f : Found R most level n levels parents)
      (same_levels : (v : ℕ) → (v ≡ c → ⊥) → slice_index levels' v ≡ slice_index levels v)
      (same_parents : (v : ℕ) → (v ≡ c → ⊥) → slice_index parents' v ≡ slice_index parents v) where
    module _ (t : Child R' most level c levels levels' parents') where
      above : (u v : ℕ)
          → R' u v → R u v ⊎ ((u ≡ n) × (v ≡ c)) → (v ≡ c) ⊎ (v ≡ c → ⊥) → slice_index levels' u < slice_index levels' v
      above u v r (inl old) (inl e) =
          omega (
            arith,
            f.found.above u v old,
            same_levels u (no_parent u v r),
            t.up,
            ap (slice_index levels) e,
            ap (slice_index levels') e,
          )
      above u v r (inl old) (inr d) =
          omega (arith, f.found.above u v old, same_levels u (no_parent u v r), same_levels v d)
      above u v r (inr p) k =
          omega (
            arith,
            f.level_is,
            t.reach,
            same_levels u (no_parent u v r),
            ap (slice_index levels) p.0,
            ap (slice_index levels') p.1,
          )

      noted : (v : ℕ) → 0 < slice_index levels' v → (v ≡ c) ⊎ (v ≡ c → ⊥)
          → IsLowest (λ u. R' u v × (slice_index levels' u + 1 ≡ slice_index levels' v)) (slice_index parents' v)
      noted v high (inl e) = rw e t.noted
      noted v high (inr d) =
          let same = same_levels v d in
          let old = f.found.noted v (omega arith) in
          let p = slice_index parents v in
          let first : R' p v = keeps p v old.here.0 in
          rw (same_parents v d) (record {
            here = (first, omega (arith, old.here.1, same_levels p (no_parent p v first)));
            least = λ m h. elim (cases m v h.0) [
              | inl r ↦ old.least m (r, omega (arith, h.1, same_levels m (no_parent m v h.0)))
              | inr q ↦ absurd (d q.1)
            ];
          })

      few : (v : ℕ) → (v ≡ c) ⊎ (v ≡ c → ⊥) → slice_index levels' v ≤ most
      few v (inl e) = omega (arith, t.few, ap (slice_index levels') e)
      few v (inr d) = omega (arith, same_levels v d, f.found.few v)

      together : Found R' most level n levels' parents'
      together =
          record {
            found = record {
              above = λ u v r. above u v r (cases u v r) (cases_eq v c);
              noted = λ v high. noted v high (cases_eq v c);
              few = λ v. few v (cases_eq v c);
            };
            level_is = f.level_is ∙ ap (λ (z : ℕ). z + 1) (sym (same_levels n (no_parent n c here)));
            low = f.low;
          }

  pub raised_more : {most level : ℕ} {levels parents levels' parents' : List ℕ}
      → c < length levels → c < length parents → Found R most level n levels parents
      → IsRaised n level c levels parents levels' parents' → Found R' most level n levels' parents'
  raised_more {most} {level} {levels} {parents} low low_parent f (inl h) =
      let now = set levels c level in
      let at : slice_index now c ≡ level = get_or-set_same levels c level 0 low in
      let others : (v : ℕ) → (v ≡ c → ⊥) → slice_index now v ≡ slice_index levels v = λ v d.
      get_or-set_other levels c v level 0 d in
      let is : slice_index (set parents c n) c ≡ n = get_or-set_same parents c n 0 low_parent in
      rw (h.1, h.2) (together most level levels parents now (set parents c n) f others
      (λ v d. get_or-set_other parents c v n 0 d) (record {
        up = omega (arith, h.0);
        reach = omega arith;
        few = omega (arith, f.low);
        noted = rw is (record {
          here = (here, omega (arith, f.level_is, others n (no_parent n c here)));
          least = λ m k. elim (cases m c k.0) [
            | inl r ↦ absurd (omega (arith, f.found.above m c r, others m (no_parent m c k.0), k.1, h.0))
            | inr q ↦ omega (arith, q.0)
          ];
        });
      }))
  raised_more {most} {level} {levels} {parents} low low_parent f (inr (inl h)) =
      let is : slice_index (set parents c n) c ≡ n = get_or-set_same parents c n 0 low_parent in
      let old = f.found.noted c (omega (arith, f.level_is, h.0)) in
      rw (h.2, h.3) (together most level levels parents levels (set parents c n) f (λ v d. refl)
      (λ v d. get_or-set_other parents c v n 0 d) (record {
        up = omega arith;
        reach = omega (arith, h.0);
        few = f.found.few c;
        noted = rw is (record {
          here = (here, omega (arith, f.level_is, h.0));
          least = λ m k. elim (cases m c k.0) [
            | inl r ↦ omega (arith, old.least m (r, k.1), h.1)
            | inr q ↦ omega (arith, q.0)
          ];
        });
      }))
  raised_more {most} {level} {levels} {parents} low low_parent f (inr (inr h)) =
      let old = f.found.noted c (omega (arith, f.level_is, h.0)) in
      rw (h.2, h.3) (together most level levels parents levels parents f (λ v d. refl) (λ v d. refl) (record {
        up = omega arith;
        reach = h.0;
        few = f.found.few c;
        noted = record {
          here = (keeps _ c old.here.0, old.here.1);
          least = λ m k. elim (cases m c k.0) [
            | inl r ↦ old.least m (r, k.1)
            | inr q ↦
                (let lower = h.1 (omega (arith, f.level_is, k.1, ap (slice_index levels) q.0)) in
                omega (arith, lower, q.0))
          ];
        };
      }))

-- pairs under another name
pub same_pairs : (R R' : ℕ → ℕ → Type 0) → ((u v : ℕ) → R u v → R' u v) → ((u v : ℕ) → R' u v → R u v)
    → (most : ℕ) (levels parents : List ℕ) → AreLevels R most levels parents → AreLevels R' most levels parents
same_pairs R R' to from most levels parents f =
    record {
      above = λ u v r. f.above u v (from u v r);
      noted = λ v high. let old = f.noted v high in record {
        here = (to _ v old.here.0, old.here.1);
        least = λ m k. old.least m (from m v k.0, k.1);
      };
      few = f.few;
    }

pub more_room : (R : ℕ → ℕ → Type 0) (most : ℕ) (levels parents : List ℕ)
    → AreLevels R most levels parents → AreLevels R (most + 1) levels parents
more_room R most levels parents f =
    record { above = f.above; noted = f.noted; few = λ v. omega (arith, f.few v) }

-- how long the lists are, and what the parents are below
raised_levels : (n level c : ℕ) (levels parents levels' parents' : List ℕ)
    → IsRaised n level c levels parents levels' parents' → length levels' ≡ length levels
raised_levels n level c levels parents levels' parents' (inl h) = ap length h.1 ∙ length-set levels c level
raised_levels n level c levels parents levels' parents' (inr (inl h)) = ap length h.2
raised_levels n level c levels parents levels' parents' (inr (inr h)) = ap length h.2

abbrev pub AreInside : List ℕ → Type 0
AreInside parents = (k : ℕ) → k < length parents → slice_index parents k < length parents

-- a node n, its child c and the noted parents are all within the list of parents
record AreWithin (n c : ℕ) (parents : List ℕ) : Type 0 where
  child : c < length parents
  node : n < length parents
  noted : AreInside parents

set_inside : {n c : ℕ} {parents : List ℕ} → AreWithin n c parents → AreInside (set parents c n)
set_inside {n} {c} {parents} inside k within =
    let size : length (set parents c n) ≡ length parents = length-set parents c n in
    elim (cases_eq k c) [
      | inl e ↦ omega (arith, ap (slice_index (set parents c n)) e, get_or-set_same parents c n 0 inside.child)
      | inr d ↦ omega (arith, get_or-set_other parents c k n 0 d, inside.noted k (omega arith))
    ]

raised_parents : {n c : ℕ} {parents : List ℕ} (level : ℕ) (levels levels' parents' : List ℕ)
    → AreWithin n c parents → IsRaised n level c levels parents levels' parents'
    → (length parents' ≡ length parents) × AreInside parents'
raised_parents {n} {c} {parents} level levels levels' parents' inside (inl h) =
    rw h.2 (length-set parents c n, set_inside inside)
raised_parents {n} {c} {parents} level levels levels' parents' inside (inr (inl h)) =
    rw h.3 (length-set parents c n, set_inside inside)
raised_parents level levels levels' parents' inside (inr (inr h)) = rw h.3 (refl, inside.noted)

-- ---- the children of a node, one after the other

-- what was gone through: what n and the waiting nodes are no parents of, and n with the children that were met
abbrev pub Half : {N E : Type 0} → Graph N E → (n : ℕ) (waiting met : List ℕ) → ℕ → ℕ → Type 0
Half g n waiting met u v = IsPassed g (n ∷ waiting) u v ⊎ ((u ≡ n) × Mem v met)

pub record Raising {N E : Type 0} (end : ℕ) (g : Graph N E) (n level : ℕ) (levels₀ parents₀ levels parents : List ℕ)
    (e : ℕ) : Type 0 where
  pub passed : ℕ
  pub met : List ℕ
  pub cursor : e ≡ first_of end (drop passed (out_list g n))
  pub within : passed ≤ length (out_list g n)
  pub looked : LookedTo end g (λ v. Mem v met) n passed
  pub real : (v : ℕ) → Mem v met → AreJoined g n v
  pub found : (waiting : List ℕ) (most : ℕ)
      → IsNext g n waiting → AreLevels (IsPassed g (n ∷ waiting)) most levels₀ parents₀
      → Found (Half g n waiting met) (most + 1) level n levels parents
  pub levels_fit : length levels ≡ node_bound g
  pub parents_fit : length parents ≡ node_bound g
  pub inside : AreInside parents

module _ {N E : Type 0} (end : ℕ) (g : Graph N E) (w : IsWellFormed end g) {n level : ℕ} (exists : HasNode g n)
    {levels₀ parents₀ : List ℕ} where
  pub raising_starts : {e : ℕ} → e ≡ first_of end (out_list g n) → level ≡ slice_index levels₀ n + 1
      → length levels₀ ≡ node_bound g → length parents₀ ≡ node_bound g → AreInside parents₀
      → Raising end g n level levels₀ parents₀ levels₀ parents₀ e
  raising_starts first is levels_fit parents_fit inside =
      record {
        passed = 0;
        met = [];
        cursor = first;
        within = omega arith;
        looked = λ j x lt a. absurd (omega arith);
        real = λ v m. absurd m;
        found = λ waiting most next before. record {
          found =
              more_room _ most levels₀ parents₀ (same_pairs _ (Half g n waiting []) (λ u v r. inl r) (λ u v r. elim r [
                | inl p ↦ p
                | inr q ↦ absurd q.1
              ]) most levels₀ parents₀ before);
          level_is = is;
          low = omega (arith, before.few n);
        };
        levels_fit = levels_fit;
        parents_fit = parents_fit;
        inside = inside;
      }

  module _ {levels parents : List ℕ} {e : ℕ} (s : Raising end g n level levels₀ parents₀ levels parents e) where
    pub child_low : e ≢ end → (v next : ℕ) → IsLook end g e v next → v < node_bound g
    child_low here v next look = below_bound g.nodes v (child_exists end g w n s.passed e s.cursor here v next look)

    pub raising_on : e ≢ end → {v next : ℕ} → IsLook end g e v next
        → {levels' parents' : List ℕ} → IsRaised n level v levels parents levels' parents'
        → Raising end g n level levels₀ parents₀ levels' parents' next
    raising_on here {v} {next} look {levels'} {parents'} raised =
        let joined : AreJoined g n v = child_joined end g w n s.passed e s.cursor here v next look in
        let low = child_low here v next look in
        let low_n : n < node_bound g = below_bound g.nodes n exists in
        let inside : AreWithin n v parents = record {
          child = omega (arith, s.parents_fit);
          node = omega (arith, s.parents_fit);
          noted = s.inside;
        } in
        let sizes = raised_parents level levels levels' parents' inside raised in
        let P : ℕ → Type 0 = λ z. Mem z (v ∷ s.met) in
        record {
          passed = suc s.passed;
          met = v ∷ s.met;
          cursor = next_cursor end g w n s.passed e s.cursor here v next look;
          within = (let r = read_part end g w n s.passed e s.cursor here in omega (arith, r.0));
          looked =
              looked_more end g w n s.passed e s.cursor here v next look P
              (λ j x lt a. inr (s.looked j x lt a)) (inl refl);
          real = λ z m. elim m [ inl q ↦ rw q joined | inr b ↦ s.real z b ];
          found = λ waiting most nx before.
              raised_more (Half g n waiting s.met) (Half g n waiting (v ∷ s.met)) n v
              (λ a b r. elim r [ inl p ↦ inl p | inr q ↦ inr (q.0, inr q.1) ]) (inr (refl, inl refl))
              (λ a b r. elim r [
                | inl p ↦ inl (inl p)
                | inr q ↦ elim q.1 [ inl k ↦ inr (q.0, k) | inr m ↦ inl (inr (q.0, m)) ]
              ])
              (λ b r. let waits : Contains waiting v = nx.children v joined in
              elim r [
                | inl p ↦ p.1 (Contains-there n v waiting waits)
                | inr q ↦ nx.once (rw q.0 at waits)
              ]) (omega (arith, s.levels_fit))
              (omega (arith, s.parents_fit)) (s.found waiting most nx before) raised;
          levels_fit = raised_levels n level v levels parents levels' parents' raised ∙ s.levels_fit;
          parents_fit = sizes.0 ∙ s.parents_fit;
          inside = sizes.1;
        }

    pub raising_ends : e ≡ end → (waiting : List ℕ) (most : ℕ) → IsNext g n waiting
        → AreLevels (IsPassed g (n ∷ waiting)) most levels₀ parents₀
        → AreLevels (IsPassed g waiting) (most + 1) levels parents
    raising_ends at waiting most nx before =
        let f = s.found waiting most nx before in
        let P : ℕ → Type 0 = λ z. Mem z s.met in
        let all : (v : ℕ) → AreJoined g n v → Mem v s.met =
        all_read end g w n s.passed e s.cursor s.within at P s.looked in
        same_pairs (Half g n waiting s.met) (IsPassed g waiting) (λ u v r. elim r [
          | inl p ↦ (p.0, λ k. p.1 (Contains-there n u waiting k))
          | inr q ↦ (rw q.0 (s.real v q.1), λ k. nx.once (rw q.0 at k))
        ]) (λ u v p. elim (cases_eq u n) [
          | inl k ↦ inr (k, all v (rw k at p.0))
          | inr d ↦ inl (p.0, λ k. elim (Contains-cases n u waiting k) [ inl z ↦ d (sym z) | inr z ↦ p.1 z ])
        ]) (most + 1) levels parents f.found

-- a look at an edge is a step of a walk, which leaves fewer edges
pub fewer_left : {N E : Type 0} (end : ℕ) (g : Graph N E) → IsWellFormed end g → (e v next : ℕ) → IsLook end g e v next
    → length (rest_of_walk Outgoing g next) < length (rest_of_walk Outgoing g e)
fewer_left {N} {E} end g w e v next look =
    let item_is : Some (e, v) ≡ item_at Outgoing g e (edge_at g e) =
    rw look.at (ap (λ (z : ℕ). Some (e, z)) look.child_is) in
    let next_is : next ≡ cursor_after Outgoing end g e (edge_at g e) = rw look.at look.next_is in
    let step = step_gives end g w Outgoing e (Some (e, v)) next (record { item_is = item_is; next_is = next_is }) in
    omega (arith, ap length step)

-- ---- the nodes, one after the other

pub record Leveling {N E : Type 0} (g : Graph N E) (levels parents waiting : List ℕ) : Type 0 where
  pub done : List ℕ
  pub ordered : IsOrderOf g (done ++ waiting)
  pub fits : length (done ++ waiting) < 2 ^ 64
  pub found : AreLevels (IsPassed g waiting) (length done) levels parents

zeros : (k v : ℕ) → slice_index (replicate k 0) v ≡ 0
zeros zero v = refl
zeros (suc k) zero = refl
zeros (suc k) (suc v) = zeros k v

pub zeros_inside : (k : ℕ) → AreInside (replicate k 0)
zeros_inside k v low = omega (arith, zeros k v)

-- what a list is resized to that was empty
pub resized : {A : Type 0} (new old : List A) (k len : ℕ) (x : A)
    → old ≡ [] → len ≡ 0 → new ≡ take k old ++ replicate (k - len) x → new ≡ replicate k x
resized {A} new old k len x none empty is =
    let nothing : take k old ≡ [] = take_all k old (omega (arith, ap length none)) ∙ none in
    let size : k - len ≡ k = omega arith in
    is ∙ (ap (λ (z : List A). z ++ replicate (k - len) x) nothing ∙ ap (λ (n : ℕ). replicate n x) size)

pub leveling_starts : {N E : Type 0} (end : ℕ) (g : Graph N E) → IsWellFormed end g → (order parents : List ℕ) (k : ℕ)
    → IsOrderOf g order → length order < 2 ^ 64 → Leveling g (replicate k 0) parents order
leveling_starts end g w order parents k ordered fits =
    record {
      done = [];
      ordered = ordered;
      fits = fits;
      found = record {
        above = λ u v p. absurd (p.1 ((ordered.exact u).1 (let j = p.0 in w.parents j.0 _ j.2)));
        noted = λ v high. absurd (omega (arith, zeros k v));
        few = λ v. omega (arith, zeros k v);
      };
    }

module _ {N E : Type 0} (end : ℕ) (g : Graph N E) (w : IsWellFormed end g) {levels parents waiting : List ℕ} {n : ℕ}
    {rest : List ℕ} (is : waiting ≡ n ∷ rest) (before : Leveling g levels parents waiting) where
  s : Leveling g levels parents (n ∷ rest)
  s = subst (λ (z : List ℕ). Leveling g levels parents z) is before

  pub next_exists : HasNode g n
  next_exists = (s.ordered.exact n).0 (mem_contains _ n (mem_mid s.done rest n))

  pub is_next : IsNext g n rest
  is_next =
      let once = unique_from_distinct _ s.ordered.once in
      let absent : Mem n s.done → ⊥ = λ m. unique_cross s.done (n ∷ rest) once n m (inl refl) in
      let behind = unique_right s.done (n ∷ rest) once in
      let at : place (s.done ++ n ∷ rest) n ≡ length s.done + place (n ∷ rest) n =
      place_right s.done (n ∷ rest) n absent in
      record {
        once = λ k. behind.0 (contains_mem rest n k);
        children = λ v j.
            let low = s.ordered.sorted n v j in
            let there : Mem v (s.done ++ n ∷ rest) = contains_mem _ v ((s.ordered.exact v).1 (w.children j.0 _ j.2)) in
            mem_contains rest v (elim (mem_cases s.done (n ∷ rest) v there) [
              | inl m ↦ absurd (omega (arith, low, at, place_left s.done (n ∷ rest) v m))
              | inr m ↦ elim m [
                | inl q ↦ absurd (omega (arith, low, ap (place (s.done ++ n ∷ rest)) q))
                | inr b ↦ b
              ]
            ]);
      }

  pub leveling_on : {levels' parents' : List ℕ}
      → ((waiting : List ℕ) (most : ℕ) → IsNext g n waiting → AreLevels (IsPassed g (n ∷ waiting)) most levels parents
      → AreLevels (IsPassed g waiting) (most + 1) levels' parents')
      → Leveling g levels' parents' rest
  leveling_on {levels'} {parents'} raised =
      let same : (s.done ++ n ∷ []) ++ rest ≡ s.done ++ n ∷ rest = append_assoc s.done (n ∷ []) rest in
      record {
        done = s.done ++ n ∷ [];
        ordered = rw same s.ordered;
        fits = omega (arith, ap length same, s.fits);
        found = rw (length-append s.done (n ∷ [])) (raised rest (length s.done) is_next s.found);
      }

pub leveling_ends : {N E : Type 0} (g : Graph N E) (levels parents waiting : List ℕ)
    → waiting ≡ [] → Leveling g levels parents waiting → (most : ℕ) × AreLevels (AreJoined g) most levels parents
leveling_ends g levels parents waiting none before =
    let s : Leveling g levels parents [] = subst (λ (z : List ℕ). Leveling g levels parents z) none before in (
      length s.done,
      same_pairs (IsPassed g []) (AreJoined g) (λ u v p. p.0) (λ u v j. (j, λ k. Contains-nil u k)) (length s.done)
          levels parents s.found,
    )
