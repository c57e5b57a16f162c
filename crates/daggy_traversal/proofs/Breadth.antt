-- Steps of a walk breadth first.
use Rattle.std.proofs.Common.{◌≡◌, true, ℕ, zero, suc, ◌+◌, ◌≤◌, ◌⊎◌, inl, inr, List, [], ◌∷◌, ◌++◌, refl, sym}
use Rattle.std.proofs.Common.{ap, subst, ◌∙◌, ◌<◌, arith, append_assoc, Contains, take, drop, length, get_or}
use Rattle.std.proofs.lemmas.List.{append-nil, append_cancel_left, take_more, drop_more, take-append-le}
use Rattle.std.proofs.lemmas.List.{take-append-drop, drop_all}
use Rattle.daggy_base.specs.declared.index.Direction.{Direction}
use Rattle.daggy_base.specs.Graph.{Graph, HasNode, node_bound}
use Rattle.daggy_base.specs.WellFormed.{IsWellFormed}
use Rattle.daggy_base.proofs.Lists.{mem_mid, Mem, Unique, mem_contains, contains_mem, mem_left, mem_right, mem_cases}
use Rattle.daggy_traversal.specs.Traversal.{LeadsTo, LeadsFar, IsAway, neighbors, begin, AreAllGiven}
use Rattle.daggy_traversal.specs.Breadth.{Breadth, IsBreadthFirst, IsWithin, fresh, next_in_breadth}
use Rattle.daggy_traversal.specs.Traversal.{neighbors_of, are_found}
use Rattle.daggy_traversal.proofs.Found.{neighbors_of_append, neighbors_of_has, found_first, found_rest, found_push, given_few}
use Rattle.daggy_traversal.proofs.Members.{mem_or_not, not_before}
use Rattle.daggy_traversal.proofs.Begin.{begin_here, begin_none, begin_only, node_or_not}
use Rattle.daggy_traversal.proofs.Edges.{neighbor_leads, leads_neighbor}
use Rattle.daggy_traversal.proofs.Reaching.{leads_farther, leads_nowhere, leads_within, start_exists}
use Rattle.daggy_traversal.proofs.Fresh.{with_fresh, fresh_append, fresh_once, fresh_has, fresh_only, first_in, next_waits}

-- no node of a list is farther from the start than a later one
abbrev pub ComeByDistance : {N E : Type 0} → Graph N E → Direction → (start : ℕ) → List ℕ → Type 0
ComeByDistance g dir start [] = Unit {0}
ComeByDistance g dir start (m ∷ ms) =
    ((n : ℕ) → Contains ms n → IsWithin g dir start 0 m n) × ComeByDistance g dir start ms

-- Given or waiting are the start and the neighbors of the given nodes, by their distance from the start, and those that
-- wait differ by at most one.
pub record Spreads {N E : Type 0} (g : Graph N E) (walk : Breadth) : Type 0 where
  pub met : walk.given ++ walk.waiting ≡ fresh [] (begin g walk.start ++ neighbors_of walk.dir g walk.given)
  pub reached : (n : ℕ) → Contains (walk.given ++ walk.waiting) n → LeadsFar walk.dir g walk.start n
  pub sorted : ComeByDistance g walk.dir walk.start (walk.given ++ walk.waiting)
  pub close : (m n : ℕ) → Contains walk.waiting m → Contains walk.waiting n
      → IsWithin g walk.dir walk.start 1 m n
  pub room : node_bound g ≤ walk.bound

-- distances
module _ {N E : Type 0} (g : Graph N E) (dir : Direction) (start : ℕ) where
  within_self : (more n : ℕ) → IsWithin g dir start more n n
  within_self more n edges away = (edges, away, omega arith)

  within_more : (m n : ℕ) → IsWithin g dir start 0 m n → IsWithin g dir start 1 m n
  within_more m n h edges away = let r = h edges away in (r.0, r.1, omega (arith, r.2))

  away_starts : (v edges : ℕ) → IsAway dir g start v edges → HasNode g start
  away_starts v zero away = away.0
  away_starts v (suc edges) away = away_starts away.0 edges away.1

  by_distance_append : (xs ys : List ℕ) → ComeByDistance g dir start xs → ComeByDistance g dir start ys
      → ((x y : ℕ) → Mem x xs → Mem y ys → IsWithin g dir start 0 x y) → ComeByDistance g dir start (xs ++ ys)
  by_distance_append [] ys first second across = second
  by_distance_append (x ∷ xs) ys first second across = (
    λ n m. elim (mem_cases xs ys n (contains_mem (xs ++ ys) n m)) [
      | inl a ↦ first.0 n (mem_contains xs n a)
      | inr b ↦ across x n (inl refl) b
    ],
    by_distance_append xs ys first.1 second (λ a b ma mb. across a b (inr ma) mb),
  )

  by_distance_before : (xs ys : List ℕ) (x y : ℕ)
      → ComeByDistance g dir start (xs ++ ys) → Mem x xs → Mem y ys → IsWithin g dir start 0 x y
  by_distance_before [] ys x y sorted mx my = absurd mx
  by_distance_before (z ∷ xs) ys x y sorted mx my =
      elim mx [
        | inl same ↦
            (let P : ℕ → Type 0 = λ a. IsWithin g dir start 0 a y in
            subst P (sym same) (sorted.0 y (mem_contains (xs ++ ys) y (mem_right xs ys y my))))
        | inr there ↦ by_distance_before xs ys x y sorted.1 there my
      ]

  by_distance_right : (xs ys : List ℕ) → ComeByDistance g dir start (xs ++ ys) → ComeByDistance g dir start ys
  by_distance_right [] ys sorted = sorted
  by_distance_right (x ∷ xs) ys sorted = by_distance_right xs ys sorted.1

  all_alike : (xs : List ℕ)
      → ((x y : ℕ) → Mem x xs → Mem y xs → IsWithin g dir start 0 x y) → ComeByDistance g dir start xs
  all_alike [] alike = tt
  all_alike (x ∷ xs) alike = (
    λ n m. alike x n (inl refl) (inr (contains_mem xs n m)),
    all_alike xs (λ a b ma mb. alike a b (inr ma) (inr mb)),
  )

-- a walk that is under way
module _ {N E : Type 0} {end : ℕ} {g : Graph N E} (w : IsWellFormed end g) {b : Breadth} (s : Spreads g b) where
  met : List ℕ
  met = b.given ++ b.waiting

  all_met : (x : ℕ) → Mem x (begin g b.start ++ neighbors_of b.dir g b.given) → Mem x (b.given ++ b.waiting)
  all_met x m =
      let P : List ℕ → Type 0 = λ z. Mem x z in
      subst P (sym s.met) (fresh_has [] (begin g b.start ++ neighbors_of b.dir g b.given) x m)

  start_met : HasNode g b.start → Mem b.start (b.given ++ b.waiting)
  start_met exists =
      let P : List ℕ → Type 0 = λ z. Mem b.start z in
      all_met b.start (mem_left (begin g b.start) (neighbors_of b.dir g b.given) b.start
      (subst P (sym (begin_here g b.start exists)) (inl refl)))

  neighbors_met : (u v : ℕ) → Mem u b.given → LeadsTo b.dir g u v → Mem v (b.given ++ b.waiting)
  neighbors_met u v m leads =
      all_met v (mem_right (begin g b.start) (neighbors_of b.dir g b.given) v
      (neighbors_of_has b.dir g b.given u v m (leads_neighbor w b.dir u v leads)))

  once : Unique (b.given ++ b.waiting)
  once =
      let P : List ℕ → Type 0 = λ z. Unique z in
      subst P (sym s.met) (fresh_once [] (begin g b.start ++ neighbors_of b.dir g b.given) tt)

  pub breadth_next : next_in_breadth g b.dir b.start b.given ≡ first_in b.waiting
  breadth_next = next_waits [] b.given b.waiting (begin g b.start ++ neighbors_of b.dir g b.given) s.met

  pub none_left : b.waiting ≡ [] → AreAllGiven g b.dir b.start b.given
  none_left none n far =
      let P : ℕ → Type 0 = λ z. Mem z b.given in
      let is : b.given ++ b.waiting ≡ b.given = ap (λ z. b.given ++ z) none ∙ append-nil b.given in
      let Q : ℕ → List ℕ → Type 0 = λ x z. Mem x z in
      mem_contains b.given n (leads_within g b.dir P (λ u v m leads. subst (Q v) is (neighbors_met u v m leads))
      b.start n far (subst (Q b.start) is (start_met (start_exists g b.dir b.start n far))))

  -- n waits, and comes next
  module _ (n : ℕ) (rest : List ℕ) (waits : b.waiting ≡ n ∷ rest) where
    waiting_first : Mem n b.waiting
    waiting_first = let P : List ℕ → Type 0 = λ z. Mem n z in subst P (sym waits) (inl refl)

    pub next_far : LeadsFar b.dir g b.start n
    next_far = s.reached n (mem_contains (b.given ++ b.waiting) n (mem_right b.given b.waiting n waiting_first))

    pub next_once : Contains b.given n → ⊥
    next_once c = apart b.given (contains_mem b.given n c) once
      where
        apart : (xs : List ℕ) → Mem n xs → Unique (xs ++ b.waiting) → ⊥
        apart [] m u = m
        apart (x ∷ xs) m u =
            elim m [
              | inl same ↦
                  u.0 (mem_right xs b.waiting x (let P : ℕ → Type 0 = λ z. Mem z b.waiting in subst P same waiting_first))
              | inr there ↦ apart xs there u.1
            ]

    pub next_distance : (m : ℕ) → Contains b.given m → IsWithin g b.dir b.start 0 m n
    next_distance m c =
        by_distance_before g b.dir b.start b.given b.waiting m n s.sorted (contains_mem b.given m c) waiting_first

    pub some_left : AreAllGiven g b.dir b.start b.given → ⊥
    some_left all = next_once (all n next_far)

    -- n is as near as any that waits
    next_near : (y : ℕ) → Mem y b.waiting → IsWithin g b.dir b.start 0 n y
    next_near y m =
        elim (let P : List ℕ → Type 0 = λ z. Mem y z in subst P waits m) [
          | inl same ↦
              (let P : ℕ → Type 0 = λ z. IsWithin g b.dir b.start 0 n z in
              subst P (sym same) (within_self g b.dir b.start 0 n))
          | inr there ↦ (
              let P : List ℕ → Type 0 = λ z. ComeByDistance g b.dir b.start z in
              (subst P waits (by_distance_right g b.dir b.start b.given b.waiting s.sorted)).0 y (mem_contains rest y there)
              )
        ]

    -- a path to a node that was not met leads through one that waits
    crossing : (v edges : ℕ) → IsAway b.dir g b.start v edges → (Mem v (b.given ++ b.waiting) → ⊥)
        → (near : ℕ) × IsAway b.dir g b.start n near × (near + 1 ≤ edges)
    crossing v zero away unmet =
        let P : ℕ → Type 0 = λ z. Mem z (b.given ++ b.waiting) in
        absurd (unmet (subst P away.1 (start_met away.0)))
    crossing v (suc edges) away unmet =
        elim (mem_or_not (b.given ++ b.waiting) away.0) [
          | inl m ↦ elim (mem_cases b.given b.waiting away.0 m) [
            | inl given ↦ absurd (unmet (neighbors_met away.0 v given away.2))
            | inr waiting ↦ (let r = next_near away.0 waiting edges away.1 in (r.0, r.1, omega (arith, r.2)))
          ]
          | inr none ↦ (let r = crossing away.0 edges away.1 none in (r.0, r.1, omega (arith, r.2)))
        ]

    F : List ℕ
    F = fresh (b.given ++ b.waiting) (neighbors b.dir g n)

    fresh_leads : (f : ℕ) → Mem f (fresh (b.given ++ b.waiting) (neighbors b.dir g n)) → LeadsTo b.dir g n f
    fresh_leads f m =
        neighbor_leads w b.dir n f (fresh_only (b.given ++ b.waiting) (neighbors b.dir g n) f m).0

    fresh_unmet : (f : ℕ) → Mem f (fresh (b.given ++ b.waiting) (neighbors b.dir g n))
        → Mem f (b.given ++ b.waiting) → ⊥
    fresh_unmet f m = (fresh_only (b.given ++ b.waiting) (neighbors b.dir g n) f m).1

    -- what was met is no farther than what is new
    met_nearer : (m f : ℕ) → Mem m (b.given ++ b.waiting) → Mem f (fresh (b.given ++ b.waiting) (neighbors b.dir g n))
        → IsWithin g b.dir b.start 0 m f
    met_nearer m f here new edges away =
        let near = crossing f edges away (fresh_unmet f new) in
        elim (mem_cases b.given b.waiting m here) [
          | inl given ↦ (
              let r = next_distance m (mem_contains b.given m given) near.0 near.1 in
              (r.0, r.1, omega (arith, r.2, near.2))
              )
          | inr waiting ↦ (
              let r = s.close m n (mem_contains b.waiting m waiting) (mem_contains b.waiting n waiting_first) near.0 near.1 in
              (r.0, r.1, omega (arith, r.2, near.2))
              )
        ]

    new_alike : (e f : ℕ) → Mem e (fresh (b.given ++ b.waiting) (neighbors b.dir g n))
        → Mem f (fresh (b.given ++ b.waiting) (neighbors b.dir g n)) → IsWithin g b.dir b.start 0 e f
    new_alike e f me mf edges away =
        let near = crossing f edges away (fresh_unmet f mf) in
        (suc near.0, (n, near.1, fresh_leads e me), omega (arith, near.2))

    new_close : (e y : ℕ) → Mem e (fresh (b.given ++ b.waiting) (neighbors b.dir g n)) → Mem y b.waiting
        → IsWithin g b.dir b.start 1 e y
    new_close e y me my edges away =
        let near = next_near y my edges away in
        (suc near.0, (n, near.1, fresh_leads e me), omega (arith, near.2))

    -- the walk after it gave n
    module _ (b' : Breadth) (same_start : b'.start ≡ b.start) (same_dir : b'.dir ≡ b.dir) (same_bound : b'.bound ≡ b.bound)
        (gave : b'.given ≡ b.given ++ n ∷ [])
        (met_now : b'.given ++ b'.waiting ≡ with_fresh (b.given ++ b.waiting) (neighbors b.dir g n)) where
      waiting_now : b'.waiting ≡ rest ++ fresh (b.given ++ b.waiting) (neighbors b.dir g n)
      waiting_now =
          let new = fresh (b.given ++ b.waiting) (neighbors b.dir g n) in
          append_cancel_left (b.given ++ n ∷ []) b'.waiting (rest ++ new)
          (ap (λ z. z ++ b'.waiting) (sym gave) ∙ (met_now
          ∙ (ap (λ z. (b.given ++ z) ++ new) waits
          ∙ (append_assoc b.given (n ∷ rest) new ∙ sym (append_assoc b.given (n ∷ []) (rest ++ new))))))

      waits_or_new : (y : ℕ) → Mem y b'.waiting
          → Mem y b.waiting ⊎ Mem y (fresh (b.given ++ b.waiting) (neighbors b.dir g n))
      waits_or_new y m =
          let P : List ℕ → Type 0 = λ z. Mem y z in
          elim (mem_cases rest (fresh (b.given ++ b.waiting) (neighbors b.dir g n)) y (subst P waiting_now m)) [
            | inl a ↦ inl (subst P (sym waits) (inr a))
            | inr new ↦ inr new
          ]

      pub breadth_on : Spreads g b'
      breadth_on =
          let M = b.given ++ b.waiting in
          let new = fresh M (neighbors b.dir g n) in
          let xs = begin g b.start ++ neighbors_of b.dir g b.given in
          let P : List ℕ → Type 0 = λ z. ComeByDistance g b.dir b.start z in
          let sorted : ComeByDistance g b.dir b.start (b'.given ++ b'.waiting) =
          subst P (sym met_now) (by_distance_append g b.dir b.start M new s.sorted
          (all_alike g b.dir b.start new new_alike) (λ x y mx my. met_nearer x y mx my)) in
          let close : (x y : ℕ) → Mem x b'.waiting → Mem y b'.waiting → IsWithin g b.dir b.start 1 x y =
          λ x y mx my. elim (waits_or_new x mx) [
            | inl ox ↦ elim (waits_or_new y my) [
              | inl oy ↦ s.close x y (mem_contains b.waiting x ox) (mem_contains b.waiting y oy)
              | inr ny ↦ within_more g b.dir b.start x y (met_nearer x y (mem_right b.given b.waiting x ox) ny)
            ]
            | inr nx ↦ elim (waits_or_new y my) [
              | inl oy ↦ new_close x y nx oy
              | inr ny ↦ within_more g b.dir b.start x y (new_alike x y nx ny)
            ]
          ] in
          let reached : (x : ℕ) → Mem x (b'.given ++ b'.waiting) → LeadsFar b.dir g b.start x = λ x m.
          let R : List ℕ → Type 0 = λ z. Mem x z in
          elim (mem_cases M new x (subst R met_now m)) [
            | inl old ↦ s.reached x (mem_contains M x old)
            | inr here ↦ leads_farther w b.dir b.start n x next_far (fresh_leads x here)
          ] in
          let all : begin g b'.start ++ neighbors_of b'.dir g b'.given ≡ xs ++ neighbors b.dir g n =
          ap (λ z. begin g z ++ neighbors_of b'.dir g b'.given) same_start
          ∙ (ap (λ z. begin g b.start ++ neighbors_of z g b'.given) same_dir
          ∙ (ap (λ z. begin g b.start ++ neighbors_of b.dir g z) gave
          ∙ (ap (λ z. begin g b.start ++ z) (neighbors_of_append b.dir g b.given (n ∷ [])
          ∙ ap (λ z. neighbors_of b.dir g b.given ++ z) (append-nil (neighbors b.dir g n)))
          ∙ sym (append_assoc (begin g b.start) (neighbors_of b.dir g b.given) (neighbors b.dir g n))))) in
          let S : Direction → ℕ → Type 0 = λ d a. (x : ℕ) → Contains (b'.given ++ b'.waiting) x → LeadsFar d g a x in
          let T : Direction → ℕ → Type 0 = λ d a. ComeByDistance g d a (b'.given ++ b'.waiting) in
          let U : Direction → ℕ → Type 0 = λ d a. (x y : ℕ) → Contains b'.waiting x → Contains b'.waiting y → IsWithin g d a 1 x y in
          let to : (Q : Direction → ℕ → Type 0) → Q b.dir b.start → Q b'.dir b'.start = λ Q q.
          subst (λ (d : Direction). Q d b'.start) (sym same_dir) (subst (Q b.dir) (sym same_start) q) in
          record {
            met =
                met_now ∙ (ap (λ z. with_fresh z (neighbors b.dir g n)) s.met
                ∙ (sym (fresh_append [] xs (neighbors b.dir g n)) ∙ ap (λ z. fresh [] z) (sym all)));
            reached = to S (λ x c. reached x (contains_mem (b'.given ++ b'.waiting) x c));
            sorted = to T sorted;
            close = to U (λ x y cx cy. close x y (contains_mem b'.waiting x cx) (contains_mem b'.waiting y cy));
            room = omega (arith, s.room, same_bound);
          }

-- what a queue holds: the nodes that were given up to its head, and those that wait
abbrev pub seen : (start : ℕ) (dir : Direction) (queue : List ℕ) (head bound : ℕ) → Breadth
seen start dir queue head bound =
    record { start = start; dir = dir; given = take head queue; waiting = drop head queue; bound = bound }

-- the step from the head of the queue on
module _ {N E : Type 0} {end : ℕ} {g : Graph N E} (w : IsWellFormed end g) {b : Breadth} (s : Spreads g b)
    {start : ℕ} {dir : Direction} (queue : List ℕ) (head : ℕ) {bound : ℕ} (is : seen start dir queue head bound ≡ b)
    (low : head < length queue) {x n : ℕ} (read : x ≡ get_or queue head x) (value : n ≡ x) where
  pub head_waits : b.waiting ≡ n ∷ drop (head + 1) queue
  head_waits =
      ap (λ z. z.waiting) (sym is)
      ∙ (drop_more queue head x low ∙ ap (λ z. z ∷ drop (head + 1) queue) (sym read ∙ sym value))

  pub head_goes_on : {queue' : List ℕ} {bound' : ℕ} → queue' ≡ with_fresh queue (neighbors dir g n)
      → bound' ≡ bound → Spreads g (seen start dir queue' (head + 1) bound')
  head_goes_on {queue'} {bound'} more same_bound =
      let all : b.given ++ b.waiting ≡ queue =
      ap (λ (z : Breadth). z.given ++ z.waiting) (sym is) ∙ take-append-drop head queue in
      let here : take (head + 1) queue ≡ take head queue ++ n ∷ [] =
      take_more queue head x low ∙ ap (λ z. take head queue ++ z ∷ []) (sym read ∙ sym value) in
      let long : take (head + 1) queue' ≡ take (head + 1) queue =
      ap (λ z. take (head + 1) z) more
      ∙ take-append-le (head + 1) queue (fresh queue (neighbors dir g n)) (omega (arith, low)) in
      breadth_on w s n (drop (head + 1) queue) head_waits (seen start dir queue' (head + 1) bound')
      (ap (λ (z : Breadth). z.start) is) (ap (λ (z : Breadth). z.dir) is)
      (same_bound ∙ ap (λ (z : Breadth). z.bound) is)
      (long ∙ (here ∙ ap (λ (z : Breadth). z.given ++ n ∷ []) is))
      (take-append-drop (head + 1) queue'
      ∙ (more ∙ (ap (λ z. with_fresh z (neighbors dir g n)) (sym all)
      ∙ ap (λ (z : Breadth). with_fresh (b.given ++ b.waiting) (neighbors z.dir g n)) is)))

-- nothing is left behind the head
pub queue_over : {b : Breadth} {start : ℕ} {dir : Direction} (queue : List ℕ) (head : ℕ) {bound : ℕ}
    → seen start dir queue head bound ≡ b → length queue ≤ head → b.waiting ≡ []
queue_over queue head is past = ap (λ (z : Breadth). z.waiting) (sym is) ∙ drop_all head queue past

-- a walk that begins
pub breadth_begins : {N E : Type 0} (g : Graph N E) {b : Breadth} → b.given ≡ [] → b.waiting ≡ begin g b.start
    → node_bound g ≤ b.bound → Spreads g b
breadth_begins g {b} none waits room =
    let all : b.given ++ b.waiting ≡ begin g b.start = ap (λ z. z ++ b.waiting) none ∙ waits in
    let only : (x : ℕ) → Mem x (b.given ++ b.waiting) → (x ≡ b.start) × HasNode g b.start = λ x m.
    let P : List ℕ → Type 0 = λ z. Mem x z in begin_only g b.start x (subst P all m) in
    let alike : (x y : ℕ) → (x ≡ b.start) → (y ≡ b.start) → IsWithin g b.dir b.start 0 x y = λ x y ex ey.
    (let P : ℕ → Type 0 = λ z. IsWithin g b.dir b.start 0 x z in
    subst P (ex ∙ sym ey) (within_self g b.dir b.start 0 x)) in
    record {
      met =
          all ∙ (fresh_begin ∙ ap (λ z. fresh [] z) (sym (append-nil (begin g b.start))
          ∙ ap (λ z. begin g b.start ++ neighbors_of b.dir g z) (sym none)));
      reached = λ n c.
          let o = only n (contains_mem (b.given ++ b.waiting) n c) in
          let P : ℕ → Type 0 = λ z. LeadsFar b.dir g b.start z in
          subst P (sym o.0) (leads_nowhere g b.dir b.start o.1);
      sorted = all_alike g b.dir b.start (b.given ++ b.waiting) (λ x y mx my. alike x y (only x mx).0 (only y my).0);
      close = λ x y cx cy. within_more g b.dir b.start x y (alike x y
          (only x (mem_right b.given b.waiting x (contains_mem b.waiting x cx))).0
          (only y (mem_right b.given b.waiting y (contains_mem b.waiting y cy))).0);
      room = room;
    }
  where
    fresh_begin : begin g b.start ≡ fresh [] (begin g b.start)
    fresh_begin =
        elim (node_or_not g b.start) [
          | inl exists ↦ begin_here g b.start exists ∙ sym (ap (λ z. fresh [] z) (begin_here g b.start exists))
          | inr none ↦ begin_none g b.start none ∙ sym (ap (λ z. fresh [] z) (begin_none g b.start none))
        ]

-- a walk that is under way has come as it spreads
module _ {N E : Type 0} {end : ℕ} {g : Graph N E} (w : IsWellFormed end g) (start : ℕ) (dir : Direction) (bound : ℕ) where
  -- the next node of those that were given waits first
  next_given : (done : List ℕ) (x : ℕ) (todo V waiting : List ℕ)
      → Spreads g record { start = start; dir = dir; given = done; waiting = V; bound = bound }
      → (done ++ x ∷ todo) ++ waiting ≡ fresh [] (begin g start ++ neighbors_of dir g (done ++ x ∷ todo))
      → are_found dir g start done (x ∷ todo) ≡ true → (rest : List ℕ) × (V ≡ x ∷ rest)
  next_given done x todo V waiting s met found = by_waiting V s.met all
    where
      whole : with_fresh (done ++ V) (neighbors_of dir g (x ∷ todo)) ≡ (done ++ x ∷ todo) ++ waiting
      whole =
          let here = begin g start ++ neighbors_of dir g done in
          let later = neighbors_of dir g (x ∷ todo) in
          ap (λ z. with_fresh z later) s.met
          ∙ (sym (fresh_append [] here later)
          ∙ (ap (λ z. fresh [] z) (append_assoc (begin g start) (neighbors_of dir g done) later
          ∙ ap (λ z. begin g start ++ z) (sym (neighbors_of_append dir g done (x ∷ todo)))) ∙ sym met))

      all : V ++ fresh (done ++ V) (neighbors_of dir g (x ∷ todo)) ≡ x ∷ (todo ++ waiting)
      all =
          let new = fresh (done ++ V) (neighbors_of dir g (x ∷ todo)) in
          append_cancel_left done (V ++ new) (x ∷ (todo ++ waiting))
          (sym (append_assoc done V new) ∙ (whole ∙ append_assoc done (x ∷ todo) waiting))

      out : Mem x done → ⊥
      out =
          let P : List ℕ → Type 0 = λ z. Unique z in
          let once : Unique ((done ++ x ∷ todo) ++ waiting) = subst P (sym met)
          (fresh_once [] (begin g start ++ neighbors_of dir g (done ++ x ∷ todo)) tt) in
          not_before done (todo ++ waiting) x (subst P (append_assoc done (x ∷ todo) waiting
          ∙ sym (append_assoc done (x ∷ []) (todo ++ waiting))) once)

      by_waiting : (U : List ℕ) → done ++ U ≡ fresh [] (begin g start ++ neighbors_of dir g done)
          → U ++ fresh (done ++ V) (neighbors_of dir g (x ∷ todo)) ≡ x ∷ (todo ++ waiting)
          → (rest : List ℕ) × (U ≡ x ∷ rest)
      by_waiting [] m h =
          let P : List ℕ → Type 0 = λ z. Mem x z in
          absurd (out (subst P (append-nil done) (subst P (sym m) (fresh_has []
          (begin g start ++ neighbors_of dir g done) x (found_first dir g start done x todo found)))))
      by_waiting (y ∷ rest) m h = let same : y ≡ x = cc in (rest, ap (λ z. z ∷ rest) same)

  replay : (done todo V waiting : List ℕ)
      → Spreads g record { start = start; dir = dir; given = done; waiting = V; bound = bound }
      → (done ++ todo) ++ waiting ≡ fresh [] (begin g start ++ neighbors_of dir g (done ++ todo))
      → are_found dir g start done todo ≡ true
      → Spreads g record { start = start; dir = dir; given = done ++ todo; waiting = waiting; bound = bound }
  replay done [] V waiting s met found =
      let is : done ++ [] ≡ done = append-nil done in
      let same : V ≡ waiting =
      append_cancel_left done V waiting (s.met ∙ (ap (λ z. fresh [] (begin g start ++ neighbors_of dir g z)) (sym is)
      ∙ (sym met ∙ ap (λ z. z ++ waiting) is))) in
      let P : List ℕ → List ℕ → Type 0 = λ a b.
      Spreads g record { start = start; dir = dir; given = a; waiting = b; bound = bound } in
      subst (P (done ++ [])) same (subst (λ (a : List ℕ). P a V) (sym is) s)
  replay done (x ∷ todo) V waiting s met found =
      let r = next_given done x todo V waiting s met found in
      let new = fresh (done ++ V) (neighbors dir g x) in
      let whole : (done ++ x ∷ []) ++ (r.0 ++ new) ≡ (done ++ V) ++ new =
      append_assoc done (x ∷ []) (r.0 ++ new)
      ∙ (sym (append_assoc done (x ∷ r.0) new) ∙ ap (λ z. (done ++ z) ++ new) (sym r.1)) in
      let goes : Spreads g record { start = start; dir = dir; given = done ++ x ∷ []; waiting = r.0 ++ new; bound = bound } =
      breadth_on w s x r.0 r.1 record { start = start; dir = dir; given = done ++ x ∷ []; waiting = r.0 ++ new; bound = bound }
      refl refl refl refl whole in
      let whole_list : (done ++ x ∷ []) ++ todo ≡ done ++ x ∷ todo = append_assoc done (x ∷ []) todo in
      let M : List ℕ → Type 0 = λ z. z ++ waiting ≡ fresh [] (begin g start ++ neighbors_of dir g z) in
      let P : List ℕ → Type 0 = λ z.
      Spreads g record { start = start; dir = dir; given = z; waiting = waiting; bound = bound } in
      subst P whole_list (replay (done ++ x ∷ []) todo (r.0 ++ new) waiting goes (subst M (sym whole_list) met)
      (found_rest dir g start done x todo found))

pub spreads : {N E : Type 0} {end : ℕ} {g : Graph N E} → IsWellFormed end g → {b : Breadth} → IsBreadthFirst g b → Spreads g b
spreads {g = g} w {b} s =
    replay w b.start b.dir b.bound [] b.given (begin g b.start) b.waiting (breadth_begins g refl refl s.room) s.met s.found

-- what such a walk keeps
pub breadth_kept : {N E : Type 0} {g : Graph N E} {b : Breadth} → Spreads g b
    → are_found b.dir g b.start [] b.given ≡ true → IsBreadthFirst g b
breadth_kept s found = record { met = s.met; found = found; room = s.room }

-- the nodes that wait were found
pub waiting_found : {N E : Type 0} {g : Graph N E} {b : Breadth} → IsBreadthFirst g b → (n : ℕ) (rest : List ℕ)
    → b.waiting ≡ n ∷ rest → are_found b.dir g b.start [] (b.given ++ n ∷ []) ≡ true
waiting_found {g = g} {b = b} s n rest waits =
    let P : List ℕ → Type 0 = λ z. Mem n z in
    let here : Mem n (b.given ++ b.waiting) = subst (λ (z : List ℕ). P (b.given ++ z)) (sym waits) (mem_mid b.given rest n) in
    found_push b.dir g b.start [] b.given n s.found
    (fresh_only [] (begin g b.start ++ neighbors_of b.dir g b.given) n (subst P s.met here)).0

pub breadth_few : {N E : Type 0} {end : ℕ} {g : Graph N E} → IsWellFormed end g → {b : Breadth} → IsBreadthFirst g b
    → length b.given ≤ node_bound g
breadth_few {g = g} w {b} s =
    let t = spreads w s in
    given_few w b.dir b.start b.given (unique_left b.given (once w t)) (λ x m.
    t.reached x (mem_contains (b.given ++ b.waiting) x (mem_left b.given b.waiting x m)))
  where
    unique_left : (xs : List ℕ) → Unique (xs ++ b.waiting) → Unique xs
    unique_left [] u = tt
    unique_left (x ∷ xs) u = (λ m. u.0 (mem_left xs b.waiting x m), unique_left xs u.1)

-- the node at the head of the queue was found
pub head_found : {N E : Type 0} {g : Graph N E} {b : Breadth} → IsBreadthFirst g b → {start : ℕ} {dir : Direction}
    (queue : List ℕ) (head : ℕ) {bound : ℕ} → seen start dir queue head bound ≡ b → head < length queue → {x n : ℕ}
    → x ≡ get_or queue head x → n ≡ x → {rest : List ℕ} → b.waiting ≡ n ∷ rest → {queue' : List ℕ}
    → queue' ≡ with_fresh queue (neighbors dir g n) → are_found dir g start [] (take (head + 1) queue') ≡ true
head_found {g = g} {b = b} s {start} {dir} queue head is low {x} {n} read value {rest} waits {queue'} more =
    let here : take (head + 1) queue ≡ take head queue ++ n ∷ [] =
    take_more queue head x low ∙ ap (λ z. take head queue ++ z ∷ []) (sym read ∙ sym value) in
    let long : take (head + 1) queue' ≡ take (head + 1) queue =
    ap (λ z. take (head + 1) z) more
    ∙ take-append-le (head + 1) queue (fresh queue (neighbors dir g n)) (omega (arith, low)) in
    let P : Breadth → Type 0 = λ z. are_found z.dir g z.start [] (z.given ++ n ∷ []) ≡ true in
    let Q : List ℕ → Type 0 = λ z. are_found dir g start [] z ≡ true in
    subst Q (sym (long ∙ here)) (subst P (sym is) (waiting_found s n rest waits))
