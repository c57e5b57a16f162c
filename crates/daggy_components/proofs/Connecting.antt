-- The search for weakly connected components.
use Rattle.std.proofs.Common.{◌≡◌, ◌≢◌, ℕ, zero, suc, ◌+◌, ◌-◌, ◌<◌, ◌≤◌, ◌⊎◌, inl, inr, List, [], ◌∷◌, ◌++◌, length}
use Rattle.std.proofs.Common.{get_or, set, take, replicate, refl, sym, ap, subst, ◌∙◌, arith, append_assoc}
use Rattle.std.specs.List.{concat, Contains}
use Rattle.std.proofs.lemmas.Bool.{cases_lt, cases_eq}
use Rattle.std.proofs.lemmas.List.{length-append, append-nil, length-replicate, get_or-replicate, take_all}
use Rattle.std.proofs.lemmas.List.{get_or-append-add, take-append-le}
use Rattle.std.proofs.Math.Seq.{take-suc}
use Rattle.daggy_base.specs.Graph.{Graph, HasNode, node_bound}
use Rattle.daggy_base.specs.Path.{end_of}
use Rattle.daggy_base.specs.WellFormed.{IsWellFormed}
use Rattle.daggy_base.proofs.Lists.{Mem, Unique, mem_left, mem_right, mem_cases, mem_at, unique_append}
use Rattle.daggy_base.proofs.Lists.{contains_mem, mem_contains, unique_from_distinct, distinct_from_unique, fewer_than}
use Rattle.daggy_base.proofs.OutEdgesRead.{below_bound}
use Rattle.daggy_search.specs.Reversed.{reversed}
use Rattle.daggy_search.proofs.ReversedGraph.{joined_into, joined_out}
use Rattle.daggy_components.specs.Components.{component}
use Rattle.daggy_components.specs.Meeting.{MeetsChildren}
use Rattle.daggy_components.specs.Stored.{AreStored, cut, ends_of, placed}
use Rattle.daggy_components.specs.WeakComponents.{AreNeighbors, IsChain, AreConnected, AreWeakComponents}
use Rattle.daggy_components.proofs.Cuts.{cut_ends, ends_length}
use Rattle.daggy_components.proofs.Groups.{member, unique_apart}
use Rattle.daggy_components.proofs.Tallies.{AreSome, closed_few, component_of, placed_length, placed_other, placed_same}
use Rattle.daggy_components.proofs.Tallies.{members_append, ends_append, some_more, component_more}

-- chains

turned : {N E : Type 0} (g : Graph N E) (u v : ℕ) → AreNeighbors g u v → AreNeighbors g v u
turned g u v n = elim n [ inl a ↦ inr a | inr b ↦ inl b ]

module _ {N E : Type 0} (g : Graph N E) where
  connected_itself : (u : ℕ) → HasNode g u → AreConnected g u u
  connected_itself u h = ([], h, refl)

  chain_more : (u : ℕ) (rest : List ℕ) (v w : ℕ) → IsChain g (u ∷ rest) → end_of u rest ≡ v → AreNeighbors g v w
      → HasNode g w → IsChain g (u ∷ (rest ++ w ∷ [])) × (end_of u (rest ++ w ∷ []) ≡ w)
  chain_more u [] v w c e n h = let P : ℕ → Type 0 = λ z. AreNeighbors g z w in ((c, subst P (sym e) n, h), refl)
  chain_more u (x ∷ rest) v w c e n h =
      let more = chain_more x rest v w c.2 e n h in ((c.0, c.1, more.0), more.1)

  connected_more : (u v w : ℕ) → AreConnected g u v → AreNeighbors g v w → HasNode g w → AreConnected g u w
  connected_more u v w c n h = let more = chain_more u c.0 v w c.1 c.2 n h in (c.0 ++ w ∷ [], more.0, more.1)

  chain_begins : (u : ℕ) (rest : List ℕ) → IsChain g (u ∷ rest) → HasNode g u
  chain_begins u [] c = c
  chain_begins u (v ∷ rest) c = c.0

  turned_chain : (u : ℕ) (rest : List ℕ) (v : ℕ) → IsChain g (u ∷ rest) → end_of u rest ≡ v → AreConnected g v u
  turned_chain u [] v c e = let P : ℕ → Type 0 = λ z. AreConnected g z u in subst P e ([], c, refl)
  turned_chain u (x ∷ rest) v c e =
      connected_more v x u (turned_chain x rest v c.2 e) (turned g u x c.1) c.0

  chain_on : (u : ℕ) (rest : List ℕ) (w : ℕ) → IsChain g (u ∷ rest) → AreConnected g (end_of u rest) w
      → AreConnected g u w
  chain_on u [] w c r = r
  chain_on u (x ∷ rest) w c r = let more = chain_on x rest w c.2 r in (x ∷ more.0, (c.0, c.1, more.1), more.2)

  connected_on : (u v w : ℕ) → AreConnected g u v → AreConnected g v w → AreConnected g u w
  connected_on u v w a b = let P : ℕ → Type 0 = λ z. AreConnected g z w in chain_on u a.0 w a.1 (subst P (sym a.2) b)

  -- a set of nodes that has the neighbors of its members has all that are connected with them
  chain_stays : (P : ℕ → Type 0) → ((u v : ℕ) → P u → AreNeighbors g u v → P v) → (u : ℕ) (rest : List ℕ)
      → IsChain g (u ∷ rest) → P u → P (end_of u rest)
  chain_stays P stays u [] c here = here
  chain_stays P stays u (v ∷ rest) c here = chain_stays P stays v rest c.2 (stays u v here c.1)

-- components by number

low_component : (cs : List (List ℕ)) (k v : ℕ) → Mem v (component cs k) → k < length cs
low_component [] k v m = absurd m
low_component (c ∷ cs) zero v m = omega arith
low_component (c ∷ cs) (suc k) v m = let h = low_component cs k v m in omega (arith, h)

component_left : (cs : List (List ℕ)) (c : List ℕ) (k v : ℕ) → Mem v (component cs k)
    → Mem v (component (cs ++ c ∷ []) k)
component_left [] c k v m = absurd m
component_left (d ∷ cs) c zero v m = m
component_left (d ∷ cs) c (suc k) v m = component_left cs c k v m

component_last : (cs : List (List ℕ)) (c : List ℕ) (k v : ℕ) → k ≡ length cs → Mem v c
    → Mem v (component (cs ++ c ∷ []) k)
component_last [] c zero v is m = m
component_last [] c (suc k) v is m = absurd (omega (arith, is))
component_last (d ∷ cs) c zero v is m = absurd (omega (arith, is))
component_last (d ∷ cs) c (suc k) v is m = component_last cs c k v (omega (arith, is)) m

-- What the lists hold: components that are whole, and the nodes of the one that is searched.
pub record Kept {N E : Type 0} (end bound : ℕ) (g : Graph N E) (places nodes ends : List ℕ) (closed : List (List ℕ))
    (current : List ℕ) : Type 0 where
  pub bound_is : bound ≡ node_bound g
  pub bound_low : bound ≤ end
  pub sized : length places ≡ bound
  pub nodes_are : nodes ≡ concat closed ++ current
  pub ends_are : ends ≡ ends_of 0 closed
  pub some : AreSome closed
  pub once : Unique (concat closed ++ current)
  pub real : (v : ℕ) → Mem v (concat closed ++ current) → HasNode g v
  pub closed_at : (k v : ℕ) → Mem v (component closed k) → get_or places v end + 1 + k ≡ bound
  pub current_at : (v : ℕ) → Mem v current → get_or places v end + 1 + length closed ≡ bound
  pub unmet : (v : ℕ) → v < bound → (get_or places v end ≡ end) ⊎ Mem v (concat closed ++ current)
  pub connected : (k u v : ℕ) → Mem u (component closed k) → Mem v (component closed k) → AreConnected g u v
  pub stays : (k u v : ℕ) → Mem u (component closed k) → AreNeighbors g u v → Mem v (component closed k)

module _ {N E : Type 0} {end bound : ℕ} {g : Graph N E} {places nodes ends : List ℕ} {closed : List (List ℕ)}
    {current : List ℕ} (s : Kept end bound g places nodes ends closed current) where
  low : (v : ℕ) → HasNode g v → v < bound
  low v h = omega (arith, below_bound g.nodes v h, s.bound_is)

  met_place : (v : ℕ) → Mem v (concat closed ++ current) → get_or places v end ≢ end
  met_place v m eq =
      elim (mem_cases (concat closed) current v m) [
        | inl a ↦ let p = component_of closed v a in absurd (omega (arith, s.closed_at p.0 v p.2, s.bound_low, eq))
        | inr b ↦ absurd (omega (arith, s.current_at v b, s.bound_low, eq))
      ]

  pub nodes_few : length nodes ≤ bound
  nodes_few =
      omega (
        arith,
        ap (λ (z : List ℕ). length z) s.nodes_are,
        fewer_than (concat closed ++ current) bound s.once (λ v m. low v (s.real v m)),
      )

  pub number_left : (v : ℕ) → HasNode g v → get_or places v end ≡ end → length ends < bound
  number_left v exists none =
      let new : Mem v (concat closed ++ current) → ⊥ = λ m. met_place v m none in
      omega (
        arith,
        closed_few closed s.some,
        fewer_than (v ∷ (concat closed ++ current)) bound (new, s.once) (λ z m.
            elim m [
              | inl eq ↦ (let P : ℕ → Type 0 = λ y. y < bound in subst P (sym eq) (low v exists))
              | inr b ↦ low z (s.real z b)
            ]),
        length-append (concat closed) current,
        ap (λ (z : List ℕ). length z) s.ends_are,
        ends_length 0 closed,
      )

  -- more nodes of the component that is searched
  pub adds : (added : List ℕ) (place : ℕ) {places' nodes' : List ℕ} → Unique added
      → ((v : ℕ) → Mem v added → get_or places v end ≡ end) → ((v : ℕ) → Mem v added → HasNode g v)
      → place + 1 + length closed ≡ bound → places' ≡ placed places added place → nodes' ≡ nodes ++ added
      → Kept end bound g places' nodes' ends closed (current ++ added)
  adds added place {places'} {nodes'} once fresh real at writes pushes =
      let apart : (v : ℕ) → Mem v (concat closed ++ current) → Mem v added → ⊥ = λ v m a. met_place v m (fresh v a) in
      let whole : (concat closed ++ current) ++ added ≡ concat closed ++ (current ++ added) =
      append_assoc (concat closed) current added in
      let U : List ℕ → Type 0 = λ z. Unique z in
      let in_whole : (v : ℕ) → Mem v (concat closed ++ (current ++ added))
      → Mem v (concat closed ++ current) ⊎ Mem v added = λ v m.
      let P : List ℕ → Type 0 = λ z. Mem v z in
      mem_cases (concat closed ++ current) added v (subst P (sym whole) m) in
      let other : (v : ℕ) → (Mem v added → ⊥) → get_or places' v end ≡ get_or places v end = λ v out.
      ap (λ (z : List ℕ). get_or z v end) writes ∙ placed_other places added place v end out in
      record {
        bound_is = s.bound_is;
        bound_low = s.bound_low;
        sized = ap (λ (z : List ℕ). length z) writes ∙ (placed_length places added place ∙ s.sized);
        nodes_are = pushes ∙ (ap (λ (z : List ℕ). z ++ added) s.nodes_are ∙ whole);
        ends_are = s.ends_are;
        some = s.some;
        once = subst U whole (unique_append (concat closed ++ current) added s.once once apart);
        real = λ v m. elim (in_whole v m) [ inl a ↦ s.real v a | inr b ↦ real v b ];
        closed_at = λ k v m.
            let same = other v (apart v (mem_left (concat closed) current v (member closed k v m))) in
            omega (arith, same, s.closed_at k v m);
        current_at = λ v m. elim (mem_cases current added v m) [
          | inl a ↦
              (let same = other v (apart v (mem_right (concat closed) current v a)) in omega (arith, same, s.current_at v a))
          | inr b ↦ (
              let below : v < length places = omega (arith, low v (real v b), s.sized) in
              let same : get_or places' v end ≡ place =
              ap (λ (z : List ℕ). get_or z v end) writes ∙ placed_same places added place v end once b below in
              omega (arith, same, at)
              )
        ];
        unmet = λ v below. elim (s.unmet v below) [
          | inl none ↦ of v none (is_in v added)
          | inr m ↦ inr (let P : List ℕ → Type 0 = λ z. Mem v z in
              subst P whole (mem_left (concat closed ++ current) added v m))
        ];
        connected = s.connected;
        stays = s.stays;
      }
    where
      is_in : (v : ℕ) (xs : List ℕ) → Mem v xs ⊎ (Mem v xs → ⊥)
      is_in v [] = inr (λ m. m)
      is_in v (x ∷ xs) =
          elim (cases_eq v x) [
            | inl e ↦ inl (inl e)
            | inr d ↦ elim (is_in v xs) [ inl a ↦ inl (inr a) | inr n ↦ inr (λ m. elim m [ inl e ↦ d e | inr a ↦ n a ]) ]
          ]

      of : (v : ℕ) → get_or places v end ≡ end → Mem v added ⊎ (Mem v added → ⊥)
          → (get_or places' v end ≡ end) ⊎ Mem v (concat closed ++ (current ++ added))
      of v none m =
          elim m [
            | inl a ↦ inr (mem_right (concat closed) (current ++ added) v (mem_right current added v a))
            | inr out ↦
                inl (ap (λ (z : List ℕ). get_or z v end) writes ∙ (placed_other places added place v end out ∙ none))
          ]

  -- the component is whole
  pub becomes_whole : 0 < length current → ((u v : ℕ) → Mem u current → Mem v current → AreConnected g u v)
      → ((u v : ℕ) → Mem u current → AreNeighbors g u v → Mem v current) → {ends' : List ℕ}
      → ends' ≡ ends ++ length nodes ∷ [] → Kept end bound g places nodes ends' (closed ++ current ∷ []) []
  becomes_whole some connected stays {ends'} pushes =
      let all : concat (closed ++ current ∷ []) ++ [] ≡ concat closed ++ current =
      append-nil (concat (closed ++ current ∷ [])) ∙ members_append closed current in
      let U : List ℕ → Type 0 = λ z. Unique z in
      let long : length nodes ≡ 0 + length (concat closed) + length current =
      let h = ap (λ (z : List ℕ). length z) s.nodes_are in omega (arith, h, length-append (concat closed) current) in
      record {
        bound_is = s.bound_is;
        bound_low = s.bound_low;
        sized = s.sized;
        nodes_are = s.nodes_are ∙ sym all;
        ends_are =
            pushes
            ∙ (ap (λ (z : List ℕ). z ++ length nodes ∷ []) s.ends_are
            ∙ (ap (λ (z : ℕ). ends_of 0 closed ++ z ∷ []) long ∙ sym (ends_append 0 closed current)));
        some = some_more closed current some s.some;
        once = subst U (sym all) s.once;
        real = λ v m. let P : List ℕ → Type 0 = λ z. Mem v z in s.real v (subst P all m);
        closed_at = λ k v m. elim (component_more closed current k v m) [
          | inl a ↦ s.closed_at k v a
          | inr b ↦ omega (arith, s.current_at v b.1, b.0)
        ];
        current_at = λ v m. absurd m;
        unmet = λ v below. elim (s.unmet v below) [
          | inl none ↦ inl none
          | inr m ↦ inr (let P : List ℕ → Type 0 = λ z. Mem v z in subst P (sym all) m)
        ];
        connected = λ k u v m i. elim (component_more closed current k u m) [
          | inl a ↦ elim (component_more closed current k v i) [
            | inl b ↦ s.connected k u v a b
            | inr b ↦ absurd (omega (arith, low_component closed k u a, b.0))
          ]
          | inr a ↦ elim (component_more closed current k v i) [
            | inl b ↦ absurd (omega (arith, low_component closed k v b, a.0))
            | inr b ↦ connected u v a.1 b.1
          ]
        ];
        stays = λ k u v m n. elim (component_more closed current k u m) [
          | inl a ↦ component_left closed current k v (s.stays k u v a n)
          | inr a ↦ component_last closed current k v a.0 (stays u v a.1 n)
        ];
      }

-- between two roots: the nodes below i were met
pub record Resting {N E : Type 0} (end bound : ℕ) (g : Graph N E) (i : ℕ) (places nodes ends : List ℕ) : Type 0 where
  pub closed : List (List ℕ)
  pub kept : Kept end bound g places nodes ends closed []
  pub visited : (m : ℕ) → m < i → HasNode g m → Mem m (concat closed ++ [])

-- while the neighbors of the nodes before `head` were met
pub record Queueing {N E : Type 0} (end bound : ℕ) (g : Graph N E) (i place : ℕ) (places nodes ends : List ℕ) (head : ℕ)
    : Type 0 where
  pub closed : List (List ℕ)
  pub current : List ℕ
  pub kept : Kept end bound g places nodes ends closed current
  pub visited : (m : ℕ) → m < i → HasNode g m → Mem m (concat closed ++ current)
  pub done : ℕ
  pub head_is : head ≡ length (concat closed) + done
  pub within : done ≤ length current
  pub some : 0 < length current
  pub place_is : place + 1 + length closed ≡ bound
  pub root : ℕ
  pub reached : (v : ℕ) → Mem v current → AreConnected g root v
  pub read : (u v : ℕ) → Mem u (take done current) → AreNeighbors g u v → Mem v current

pub nothing_kept : {N E : Type 0} {end bound : ℕ} {g : Graph N E} {places nodes ends : List ℕ} → bound ≡ node_bound g
    → bound ≤ end → places ≡ replicate bound end → nodes ≡ [] → ends ≡ []
    → Resting end bound g 0 places nodes ends
nothing_kept {N} {E} {end} {bound} {g} {places} {nodes} {ends} is low places_are nodes_are ends_are =
    record {
      closed = [];
      kept = record {
        bound_is = is;
        bound_low = low;
        sized = ap (λ (z : List ℕ). length z) places_are ∙ length-replicate bound end;
        nodes_are = nodes_are;
        ends_are = ends_are;
        some = tt;
        once = tt;
        real = λ v m. absurd m;
        closed_at = λ k v m. absurd m;
        current_at = λ v m. absurd m;
        unmet = λ v below.
            inl (ap (λ (z : List ℕ). get_or z v end) places_are ∙ get_or-replicate bound v end end below);
        connected = λ k u v m. absurd m;
        stays = λ k u v m. absurd m;
      };
      visited = λ m below exists. absurd (omega arith);
    }

module _ {N E : Type 0} {end bound : ℕ} {g : Graph N E} {i : ℕ} {places nodes ends : List ℕ}
    (s : Resting end bound g i places nodes ends) where
  pub root_low : HasNode g i → i < bound
  root_low h = low s.kept i h

  -- a root that does not exist, or was met before
  pub passes_root : (HasNode g i → get_or places i end ≢ end) → Resting end bound g (i + 1) places nodes ends
  passes_root here =
      record {
        closed = s.closed;
        kept = s.kept;
        visited = λ m below exists. elim (cases_lt m i) [
          | inl a ↦ s.visited m a exists
          | inr b ↦ (
              let last : i ≡ m = omega arith in
              let P : ℕ → Type 0 = λ z. HasNode g z → get_or places z end ≢ end in
              elim (s.kept.unmet m (low s.kept m exists)) [
                | inl none ↦ absurd (subst P last here exists none)
                | inr met ↦ met
              ]
              )
        ];
      }

  pub root_number : HasNode g i → get_or places i end ≡ end → length ends < bound
  root_number exists none = number_left s.kept i exists none

  -- a component is begun
  pub begins_at : HasNode g i → get_or places i end ≡ end → {place : ℕ} → place ≡ bound - 1 - length ends
      → {nodes' : List ℕ} → nodes' ≡ nodes ++ i ∷ []
      → Queueing end bound g (i + 1) place (set places i place) nodes' ends (length nodes)
  begins_at exists none {place} is {nodes'} pushes =
      let count : length ends ≡ length s.closed =
      ap (λ (z : List ℕ). length z) s.kept.ends_are ∙ ends_length 0 s.closed in
      let at : place + 1 + length s.closed ≡ bound = omega (arith, is, count, root_number exists none) in
      let one : (v : ℕ) → Mem v (i ∷ []) → v ≡ i = λ v m. elim m [ inl e ↦ e | inr n ↦ absurd n ] in
      let P : ℕ → Type 0 = λ z. HasNode g z in
      let Q : ℕ → Type 0 = λ z. get_or places z end ≡ end in
      let R : ℕ → Type 0 = λ z. AreConnected g i z in
      let long = ap (λ (z : List ℕ). length z) s.kept.nodes_are in
      record {
        closed = s.closed;
        current = i ∷ [];
        kept = adds s.kept (i ∷ []) place (λ m. m, tt) (λ v m. subst Q (sym (one v m)) none)
            (λ v m. subst P (sym (one v m)) exists) at refl pushes;
        visited = λ m below real. elim (cases_lt m i) [
          | inl a ↦ elim (mem_cases (concat s.closed) [] m (s.visited m a real)) [
            | inl b ↦ mem_left (concat s.closed) (i ∷ []) m b
            | inr n ↦ absurd n
          ]
          | inr b ↦ mem_right (concat s.closed) (i ∷ []) m (inl (omega arith))
        ];
        done = 0;
        head_is = omega (arith, long, length-append (concat s.closed) []);
        within = omega arith;
        some = omega arith;
        place_is = at;
        root = i;
        reached = λ v m. subst R (sym (one v m)) (connected_itself g i exists);
        read = λ u v m. absurd m;
      }

  -- all roots were tried
  pub all_weak : bound ≤ i → AreWeakComponents g s.closed
  all_weak all =
      record {
        exact = λ n. (
          λ m. s.kept.real n (mem_left (concat s.closed) [] n (contains_mem (concat s.closed) n m)),
          λ h. elim (mem_cases (concat s.closed) [] n (s.visited n (omega (arith, low s.kept n h)) h)) [
            | inl a ↦ mem_contains (concat s.closed) n a
            | inr b ↦ absurd b
          ],
        );
        once = distinct_from_unique (concat s.closed) (let P : List ℕ → Type 0 = λ z. Unique z in
            subst P (append-nil (concat s.closed)) s.kept.once);
        some = some_at s.closed s.kept.some;
        class = λ k u v m.
            let here = contains_mem (component s.closed k) u m in (
              λ i. s.kept.connected k u v here (contains_mem (component s.closed k) v i),
              λ c. let P : ℕ → Type 0 = λ z. Mem z (component s.closed k) in
                  mem_contains (component s.closed k) v
                  (subst P c.2 (chain_stays g P (λ a b. s.kept.stays k a b) u c.0 c.1 here)),
            );
      }
    where
      some_at : (cs : List (List ℕ)) → AreSome cs → (k : ℕ) → k < length cs → component cs k ≢ []
      some_at [] h k below eq = absurd (omega arith)
      some_at (c ∷ cs) h zero below eq = absurd (omega (arith, h.0, ap (λ (z : List ℕ). length z) eq))
      some_at (c ∷ cs) h (suc k) below eq = some_at cs h.1 k (omega arith) eq

  pub weak_cuts : cut 0 ends nodes ≡ s.closed
  weak_cuts =
      let all : nodes ≡ concat s.closed = s.kept.nodes_are ∙ append-nil (concat s.closed) in
      ap (λ (z : List ℕ). cut 0 z nodes) s.kept.ends_are
      ∙ (ap (λ (z : List ℕ). cut 0 (ends_of 0 s.closed) z) all ∙ cut_ends [] s.closed)

  pub weak_stored : AreStored end nodes ends places (cut 0 ends nodes)
  weak_stored =
      let k = s.kept in
      let P : List (List ℕ) → Type 0 = λ z. AreStored end nodes ends places z in
      subst P (sym weak_cuts) record {
        nodes_are = k.nodes_are ∙ append-nil (concat s.closed);
        ends_are = k.ends_are;
        placed = record {
          at = λ j v m. omega (arith, k.closed_at j v (contains_mem (component s.closed j) v m), k.sized);
          other = λ v below. elim (k.unmet v (omega (arith, below, k.sized))) [
            | inl none ↦ inl none
            | inr m ↦ elim (mem_cases (concat s.closed) [] v m) [
              | inl a ↦ (
                  let p = component_of s.closed v a in
                  inr (p.0, mem_contains (component s.closed p.0) v p.2)
                  )
              | inr n ↦ absurd n
            ]
          ];
          few = omega (arith, k.sized, k.bound_low);
        };
      }

module _ {N E : Type 0} {end bound : ℕ} {g : Graph N E} {i place : ℕ} {places nodes ends : List ℕ} {head : ℕ}
    (w : IsWellFormed end g) (s : Queueing end bound g i place places nodes ends head) where
  pub queue_few : length nodes ≤ bound
  queue_few = nodes_few s.kept

  pub place_some : place ≢ end
  place_some e = absurd (omega (arith, s.place_is, s.kept.bound_low, e))

  pub queue_sized : node_bound g ≤ length places
  queue_sized = omega (arith, s.kept.sized, s.kept.bound_is)

  -- the places are as many after a node was met
  pub queue_placed : {h : Graph N E} {n : ℕ} {places' nodes' : List ℕ}
      → MeetsChildren end h n place places places' nodes nodes' → node_bound g ≤ length places'
  queue_placed {h} {n} {places'} {nodes'} m =
      omega (
        arith,
        queue_sized,
        ap (λ (z : List ℕ). length z) m.places_are,
        placed_length places m.added place,
      )

  -- the nodes that waited are done
  pub ends_queue : length nodes ≤ head → {ends' : List ℕ} → ends' ≡ ends ++ length nodes ∷ []
      → Resting end bound g i places nodes ends'
  ends_queue all {ends'} pushes =
      let long = ap (λ (z : List ℕ). length z) s.kept.nodes_are in
      let whole : take s.done s.current ≡ s.current =
      take_all s.done s.current (omega (arith, all, long, s.head_is, length-append (concat s.closed) s.current)) in
      let stays : (u v : ℕ) → Mem u s.current → AreNeighbors g u v → Mem v s.current = λ u v m n.
      let P : List ℕ → Type 0 = λ z. Mem u z in s.read u v (subst P (sym whole) m) n in
      let connected : (u v : ℕ) → Mem u s.current → Mem v s.current → AreConnected g u v = λ u v m j.
      let to = s.reached u m in
      connected_on g u s.root v (turned_chain g s.root to.0 u to.1 to.2) (s.reached v j) in
      let all_in : concat (s.closed ++ s.current ∷ []) ++ [] ≡ concat s.closed ++ s.current =
      append-nil (concat (s.closed ++ s.current ∷ [])) ∙ members_append s.closed s.current in
      record {
        closed = s.closed ++ s.current ∷ [];
        kept = becomes_whole s.kept s.some connected stays pushes;
        visited = λ m below real. let P : List ℕ → Type 0 = λ z. Mem m z in subst P (sym all_in) (s.visited m below real);
      }

  -- the next node that waits
  module _ (waits : head < length nodes) {n : ℕ} (is : n ≡ get_or nodes head n) where
    position : (s.done < length s.current) × (get_or s.current s.done n ≡ n)
    position =
        let long = ap (λ (z : List ℕ). length z) s.kept.nodes_are in
        let read : n ≡ get_or s.current s.done n =
        is ∙ (ap (λ (z : List ℕ). get_or z head n) s.kept.nodes_are
        ∙ (ap (λ (z : ℕ). get_or (concat s.closed ++ s.current) z n) s.head_is
        ∙ get_or-append-add (concat s.closed) s.current s.done n)) in (
          omega (arith, waits, long, s.head_is, length-append (concat s.closed) s.current),
          sym read,
        )

    n_in : Mem n s.current
    n_in = let P : ℕ → Type 0 = λ z. Mem z s.current in subst P position.1 (mem_at s.current s.done n position.0)

    -- its children, and the nodes whose child it is
    pub meets_both : {places' places'' nodes' nodes'' : List ℕ}
        → MeetsChildren end g n place places places' nodes nodes'
        → MeetsChildren end (reversed g) n place places' places'' nodes' nodes'' → {head' : ℕ} → head' ≡ head + 1
        → Queueing end bound g i place places'' nodes'' ends head'
    meets_both {places'} {places''} {nodes'} {nodes''} a b {head'} next =
        let mem_a : (v : ℕ) → Mem v a.added → AreNeighbors g n v = λ v m. inl (a.joined v (mem_contains a.added v m)) in
        let mem_b : (v : ℕ) → Mem v b.added → AreNeighbors g n v = λ v m.
        inr (joined_out g n v (b.joined v (mem_contains b.added v m))) in
        let real : (v : ℕ) → AreNeighbors g n v → HasNode g v = λ v m.
        elim m [ inl j ↦ w.children j.0 _ j.2 | inr j ↦ w.parents j.0 _ j.2 ] in
        let one =
        adds s.kept a.added place (unique_from_distinct a.added a.once) (λ v m. a.fresh v (mem_contains a.added v m))
        (λ v m. real v (mem_a v m)) s.place_is a.places_are a.nodes_are in
        let two =
        adds one b.added place (unique_from_distinct b.added b.once) (λ v m. b.fresh v (mem_contains b.added v m))
        (λ v m. real v (mem_b v m)) s.place_is b.places_are b.nodes_are in
        let current' = (s.current ++ a.added) ++ b.added in
        let old_in : (v : ℕ) → Mem v s.current → Mem v current' = λ v m.
        mem_left (s.current ++ a.added) b.added v (mem_left s.current a.added v m) in
        let new_in : (v : ℕ) → Mem v current' → Mem v s.current ⊎ AreNeighbors g n v = λ v m.
        elim (mem_cases (s.current ++ a.added) b.added v m) [
          | inl c ↦ elim (mem_cases s.current a.added v c) [ inl d ↦ inl d | inr d ↦ inr (mem_a v d) ]
          | inr c ↦ inr (mem_b v c)
        ] in
        let met : (v : ℕ) → AreNeighbors g n v → Mem v current' = λ v j.
        let has : get_or places'' v end ≢ end =
        elim j [
          | inl c ↦ (λ none.
              elim (is_fresh v b.added (mem_b_dec v b.added)) [
                | inl fresh ↦ a.all v c (b.fresh v fresh)
                | inr out ↦
                    a.all v c (sym (ap (λ (z : List ℕ). get_or z v end) b.places_are
                    ∙ placed_other places' b.added place v end out) ∙ none)
              ])
          | inr c ↦ b.all v (joined_into g v n c)
        ] in
        elim (two.unmet v (low two v (real v j))) [
          | inl none ↦ absurd (has none)
          | inr m ↦ elim (mem_cases (concat s.closed) current' v m) [
            | inl d ↦ (
                let p = component_of s.closed v d in
                let there = s.kept.stays p.0 v n p.2 (turned g n v j) in
                absurd (unique_apart (concat s.closed) s.current n s.kept.once (member s.closed p.0 n there) n_in)
                )
            | inr d ↦ d
          ]
        ] in
        let more : take (suc s.done) s.current ≡ take s.done s.current ++ n ∷ [] =
        take-suc s.current s.done n position.0 ∙ ap (λ (z : ℕ). take s.done s.current ++ z ∷ []) position.1 in
        let first : take (suc s.done) current' ≡ take (suc s.done) s.current =
        ap (λ (z : List ℕ). take (suc s.done) z) (append_assoc s.current a.added b.added)
        ∙ take-append-le (suc s.done) s.current (a.added ++ b.added) (omega (arith, position.0)) in
        record {
          closed = s.closed;
          current = current';
          kept = two;
          visited = λ m below exists. elim (mem_cases (concat s.closed) s.current m (s.visited m below exists)) [
            | inl c ↦ mem_left (concat s.closed) current' m c
            | inr c ↦ mem_right (concat s.closed) current' m (old_in m c)
          ];
          done = suc s.done;
          head_is = omega (arith, next, s.head_is);
          within = omega (arith, position.0, length-append (s.current ++ a.added) b.added, length-append s.current a.added);
          some = omega (arith, s.some, length-append (s.current ++ a.added) b.added, length-append s.current a.added);
          place_is = s.place_is;
          root = s.root;
          reached = λ v m. elim (new_in v m) [
            | inl c ↦ s.reached v c
            | inr j ↦ connected_more g s.root n v (s.reached n n_in) j (real v j)
          ];
          read = λ u v m j.
              let P : List ℕ → Type 0 = λ z. Mem u z in
              elim (mem_cases (take s.done s.current) (n ∷ []) u (subst P (first ∙ more) m)) [
                | inl c ↦ old_in v (s.read u v c j)
                | inr c ↦ elim c [
                  | inl e ↦ met v (let Q : ℕ → Type 0 = λ z. AreNeighbors g z v in subst Q e j)
                  | inr x ↦ absurd x
                ]
              ];
        }
      where
        mem_b_dec : (v : ℕ) (xs : List ℕ) → Mem v xs ⊎ (Mem v xs → ⊥)
        mem_b_dec v [] = inr (λ m. m)
        mem_b_dec v (x ∷ xs) =
            elim (cases_eq v x) [
              | inl e ↦ inl (inl e)
              | inr d ↦ elim (mem_b_dec v xs) [
                | inl c ↦ inl (inr c)
                | inr n ↦ inr (λ m. elim m [ inl e ↦ d e | inr c ↦ n c ])
              ]
            ]

        is_fresh : (v : ℕ) (xs : List ℕ) → Mem v xs ⊎ (Mem v xs → ⊥) → Contains xs v ⊎ (Mem v xs → ⊥)
        is_fresh v xs m = elim m [ inl c ↦ inl (mem_contains xs v c) | inr n ↦ inr n ]
