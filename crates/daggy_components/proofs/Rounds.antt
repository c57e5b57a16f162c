-- A way that comes back to one of its nodes has a cycle.
use Rattle.std.proofs.Common.{◌≡◌, ◌≢◌, ℕ, zero, suc, ◌+◌, ◌-◌, ◌<◌, ◌≤◌, inl, inr, List, [], ◌∷◌, ◌++◌}
use Rattle.std.proofs.Common.{length, take, drop, get_or, set, refl, sym, ap, subst, ◌∙◌, arith, append_assoc, length-set, true, false}
use Rattle.std.specs.List.{slice_range}
use Rattle.std.proofs.lemmas.List.{drop-take, get_or-take, get_or-set_same, length-take}
use Rattle.std.proofs.lemmas.Bool.{false≢true}
use Rattle.std.proofs.Math.Seq.{take-suc}
use Rattle.daggy_base.specs.Graph.{Graph, HasNode}
use Rattle.daggy_base.specs.Path.{AreJoined, IsPath, IsAcyclic, end_of}
use Rattle.daggy_base.specs.WellFormed.{IsWellFormed}
use Rattle.daggy_base.specs.Look.{IsLook}
use Rattle.daggy_base.proofs.Lists.{Mem, Unique, mem_cases, mem_mid, mem_into, unique_mid, distinct_from_unique, place_of}
use Rattle.daggy_base.proofs.OutEdgesRead.{child_joined}
use Rattle.daggy_base.proofs.Sorted.{unique_left}
use Rattle.daggy_base.proofs.PathEnds.{path_ends}
use Rattle.daggy_search.proofs.FinishingOrder.{Stop, nodes_of, IsWay}
use Rattle.daggy_search.proofs.SortNodesState.{AreKept, Start, Sorting, Spot, Walking, place_free}
use Rattle.daggy_components.specs.Cycles.{IsCycle}
use Rattle.daggy_components.proofs.Progress.{kept_stack}

-- the nodes of a way, first node first, and then others
walked : List Stop → List ℕ → List ℕ
walked [] rest = rest
walked (s ∷ ss) rest = walked ss (s.node ∷ rest)

-- they stand on the stack
kept_walked : {N E : Type 0} (end : ℕ) (g : Graph N E) (stack cursors : List ℕ) (ss : List Stop) (rest : List ℕ)
    → AreKept end g stack cursors ss → length (nodes_of ss) ≤ length stack
    → take (length (nodes_of ss)) stack ++ rest ≡ walked ss rest
unfolding walked
kept_walked end g stack cursors [] rest kept low = refl
kept_walked end g stack cursors (s ∷ ss) rest kept low =
    let k = length (nodes_of ss) in
    let more : take (suc k) stack ≡ take k stack ++ s.node ∷ [] =
    take-suc stack k 0 (omega arith) ∙ ap (λ (z : ℕ). take k stack ++ z ∷ []) (kept.0 0) in
    ap (λ (z : List ℕ). z ++ rest) more
    ∙ (append_assoc (take k stack) (s.node ∷ []) rest
    ∙ kept_walked end g stack cursors ss (s.node ∷ rest) kept.2 (omega arith))

-- they are a path, none of them twice
path_walked : {N E : Type 0} {end : ℕ} {g : Graph N E} → IsWellFormed end g → (finished : List ℕ) (n : ℕ) (rest : List ℕ)
    (ss : List Stop) → IsWay end g finished (n ∷ []) ss → IsPath g (n ∷ rest) → IsPath g (walked ss (n ∷ rest))
unfolding walked
path_walked w finished n rest [] way path = path
path_walked w finished n rest (s ∷ ss) way path =
    let j = way.0 n (inl refl) in
    path_walked w finished s.node (n ∷ rest) ss way.3 (w.parents j.0 _ j.2, j, path)

unique_walked : (ss : List Stop) (rest : List ℕ) → Unique (nodes_of ss ++ rest) → Unique (walked ss rest)
unfolding walked
unique_walked [] rest once = once
unique_walked (s ∷ ss) rest once =
    unique_walked ss (s.node ∷ rest) (unique_mid (nodes_of ss) rest s.node once.1 once.0)

mem_walked : (ss : List Stop) (rest : List ℕ) (v : ℕ) → Mem v (nodes_of ss ++ rest) → Mem v (walked ss rest)
unfolding walked
mem_walked [] rest v m = m
mem_walked (s ∷ ss) rest v m =
    mem_walked ss (s.node ∷ rest) v (elim m [
      | inl eq ↦
          (let P : ℕ → Type 0 = λ z. Mem z (nodes_of ss ++ s.node ∷ rest) in
          subst P (sym eq) (mem_mid (nodes_of ss) rest s.node))
      | inr b ↦ mem_into (nodes_of ss) rest s.node v b
    ])

-- the rest of a path that comes back is a cycle, from where it comes back
module _ {N E : Type 0} (g : Graph N E) where
  end_last : (u : ℕ) (front : List ℕ) (n : ℕ) → end_of u (front ++ n ∷ []) ≡ n
  end_last u [] n = refl
  end_last u (x ∷ front) n = end_last x front n

  path_rest : (x : ℕ) (front : List ℕ) (n : ℕ) → IsPath g (x ∷ (front ++ n ∷ [])) → IsPath g (front ++ n ∷ [])
  path_rest x [] n p = p.2
  path_rest x (y ∷ front) n p = p.2

  rest_cycle : (front : List ℕ) (n v p d : ℕ) → IsPath g (front ++ n ∷ []) → Unique (front ++ n ∷ []) → AreJoined g n v
      → p ≤ length front → get_or (front ++ n ∷ []) p d ≡ v → IsCycle g (drop p (front ++ n ∷ []))
  rest_cycle [] n v zero d path once joined low is =
      let P : ℕ → Type 0 = λ z. AreJoined g n z in
      (path, distinct_from_unique (n ∷ []) once, subst P (sym is) joined)
  rest_cycle [] n v (suc p) d path once joined low is = absurd (omega arith)
  rest_cycle (x ∷ front) n v zero d path once joined low is =
      let P : ℕ → Type 0 = λ z. AreJoined g z x in
      let Q : ℕ → Type 0 = λ z. AreJoined g n z in (
        path,
        distinct_from_unique (x ∷ (front ++ n ∷ [])) once,
        subst P (sym (end_last x front n)) (subst Q (sym is) joined),
      )
  rest_cycle (x ∷ front) n v (suc p) d path once joined low is =
      rest_cycle front n v p d (path_rest x front n path) once.1 joined (omega arith) is

-- where a cycle was closed, the way stands on the stack and its last node above it
module _ {N E : Type 0} {end : ℕ} {g : Graph N E} (w : IsWellFormed end g) (finished : List ℕ) (n : ℕ) (ss : List Stop)
    (stack cursors : List ℕ) (kept : AreKept end g stack cursors ss) (low : length (nodes_of ss) < length stack)
    (above : get_or stack (length (nodes_of ss)) 0 ≡ n) where
  whole : take (length (nodes_of ss)) stack ++ n ∷ [] ≡ take (suc (length (nodes_of ss))) stack
  whole =
      let k = length (nodes_of ss) in
      sym (take-suc stack k 0 low ∙ ap (λ (z : ℕ). take k stack ++ z ∷ []) above)

  walked_is : take (length (nodes_of ss)) stack ++ n ∷ [] ≡ walked ss (n ∷ [])
  walked_is = kept_walked end g stack cursors ss (n ∷ []) kept (omega arith)

  -- a node of the way has a place there
  pub has_place : (v : ℕ) → Mem v (n ∷ nodes_of ss) → (k : ℕ) × (k < length (nodes_of ss) + 1) × (get_or stack k 0 ≡ v)
  has_place v m =
      let k = length (nodes_of ss) in
      let into : Mem v (nodes_of ss ++ n ∷ []) =
      elim m [
        | inl eq ↦
            (let P : ℕ → Type 0 = λ z. Mem z (nodes_of ss ++ n ∷ []) in subst P (sym eq) (mem_mid (nodes_of ss) [] n))
        | inr b ↦ mem_in (nodes_of ss) b
      ] in
      let P : List ℕ → Type 0 = λ z. Mem v z in
      let there : Mem v (take (suc k) stack) = subst P (sym walked_is ∙ whole) (mem_walked ss (n ∷ []) v into) in
      let p = place_of (take (suc k) stack) v 0 there in
      let few : p.0 < suc k = omega (arith, p.1, length-take (suc k) stack) in
      (p.0, omega (arith, few), sym (get_or-take (suc k) stack p.0 0 few) ∙ p.2)
    where
      mem_in : (xs : List ℕ) → Mem v xs → Mem v (xs ++ n ∷ [])
      mem_in [] b = absurd b
      mem_in (x ∷ xs) b = elim b [ inl e ↦ inl e | inr c ↦ inr (mem_in xs c) ]

  pub closed_cycle : (v p : ℕ) → HasNode g n → IsWay end g finished (n ∷ []) ss → Unique (n ∷ nodes_of ss)
      → AreJoined g n v → p < length (nodes_of ss) + 1 → get_or stack p 0 ≡ v
      → {to : ℕ} → to ≡ length (nodes_of ss) + 1 → IsCycle g (slice_range stack p to)
  closed_cycle v p exists way once joined below is {to} to_is =
      let k = length (nodes_of ss) in
      let front = take k stack in
      let P : List ℕ → Type 0 = λ z. IsPath g z in
      let Q : List ℕ → Type 0 = λ z. Unique z in
      let R : List ℕ → Type 0 = λ z. IsCycle g z in
      let path : IsPath g (front ++ n ∷ []) = subst P (sym walked_is) (path_walked w finished n [] ss way exists) in
      let once_all : Unique (front ++ n ∷ []) =
      subst Q (sym walked_is) (unique_walked ss (n ∷ []) (unique_mid (nodes_of ss) [] n (unique_end (nodes_of ss) once.1)
      (λ m. once.0 (mem_end (nodes_of ss) n m)))) in
      let read : get_or (front ++ n ∷ []) p 0 ≡ v =
      ap (λ (z : List ℕ). get_or z p 0) whole ∙ (get_or-take (suc k) stack p 0 (omega arith) ∙ is) in
      let long : p ≤ length front = omega (arith, length-take k stack) in
      let c = rest_cycle g front n v p 0 path once_all joined long read in
      let count : p + (to - p) ≡ suc k = omega (arith, to_is) in
      let same : drop p (front ++ n ∷ []) ≡ slice_range stack p to =
      ap (λ (z : List ℕ). drop p z) whole
      ∙ (ap (λ (z : ℕ). drop p (take z stack)) (sym count) ∙ drop-take p (to - p) stack) in
      subst R same c
    where
      mem_end : (xs : List ℕ) (x : ℕ) → Mem x (xs ++ []) → Mem x xs
      mem_end [] x m = m
      mem_end (y ∷ xs) x m = elim m [ inl e ↦ inl e | inr b ↦ inr (mem_end xs x b) ]

      unique_end : (xs : List ℕ) → Unique xs → Unique (xs ++ [])
      unique_end [] u = tt
      unique_end (x ∷ xs) u = (λ m. u.0 (mem_end xs x m), unique_end xs u.1)

-- a graph with a cycle is not acyclic
pub cyclic : {N E : Type 0} (g : Graph N E) (nodes : List ℕ) → IsCycle g nodes → IsAcyclic g → ⊥
cyclic g [] c acyclic = c
cyclic g (u ∷ rest) c acyclic = acyclic (end_of u rest) u rest (path_ends g u rest c.0, c.2, c.0) refl

-- at an edge to a node that was entered and not finished
module _ {N E : Type 0} {end : ℕ} {start : Start N E} {i : ℕ} {now : Sorting N E} {spot : Spot}
    (w : IsWellFormed end start.graph) (s : Walking end start i now spot) where
  pub spot_low : (spot.len < length now.work.nodes) × (spot.len < start.size)
  spot_low =
      (omega (arith, place_free w s, s.behind.at_top), omega (arith, place_free w s, s.behind.at_top, s.sizes.sized.nodes_are))

  kept_now : AreKept end start.graph (set now.work.nodes spot.len spot.node) now.work.cursors s.way
  kept_now =
      kept_stack end start.graph now.work.nodes now.work.cursors spot.len spot.node s.way (omega (arith, s.deep)) s.kept

  low_now : length (nodes_of s.way) < length (set now.work.nodes spot.len spot.node)
  low_now = omega (arith, s.deep, spot_low.0, length-set now.work.nodes spot.len spot.node)

  above_now : get_or (set now.work.nodes spot.len spot.node) (length (nodes_of s.way)) 0 ≡ spot.node
  above_now =
      ap (λ (z : ℕ). get_or (set now.work.nodes spot.len spot.node) z 0) (sym s.deep)
      ∙ get_or-set_same now.work.nodes spot.len spot.node 0 spot_low.0

  module _ (here : spot.edge ≢ end) {v next : ℕ} (look : IsLook end now.graph spot.edge v next)
      (seen : get_or now.work.entered v false ≡ true) (unleft : get_or now.work.marked v false ≡ false) where
    on_way : Mem v (spot.node ∷ nodes_of s.way)
    on_way =
        elim (mem_cases (spot.node ∷ nodes_of s.way) s.order v ((s.state.discovered_are v).0 seen)) [
          | inl a ↦ a
          | inr b ↦ absurd (false≢true (sym unleft ∙ (s.state.finished_are v).1 b))
        ]

    pub child_place : (k : ℕ) × (k < spot.len + 1) × (get_or (set now.work.nodes spot.len spot.node) k 0 ≡ v)
    child_place =
        let p =
        has_place w s.order spot.node s.way (set now.work.nodes spot.len spot.node) now.work.cursors kept_now low_now
        above_now v on_way in
        (p.0, omega (arith, p.1, s.deep), p.2)

    pub cycle_closed : {p to : ℕ} → p < spot.len + 1 → get_or (set now.work.nodes spot.len spot.node) p 0 ≡ v
        → to ≡ spot.len + 1 → IsCycle start.graph (slice_range (set now.work.nodes spot.len spot.node) p to)
    cycle_closed {p} {to} below is to_is =
        let P : Graph N E → Type 0 = λ z. IsLook end z spot.edge v next in
        let look₀ : IsLook end start.graph spot.edge v next = subst P s.sizes.same look in
        closed_cycle w s.order spot.node s.way (set now.work.nodes spot.len spot.node) now.work.cursors kept_now low_now
        above_now v p (s.state.real spot.node (inl refl)) s.state.is_way.3
        (unique_left (spot.node ∷ nodes_of s.way) s.order s.state.once)
        (child_joined end start.graph w spot.node s.passed spot.edge s.cursor here v next look₀)
        (omega (arith, below, s.deep)) is (omega (arith, to_is, s.deep))
