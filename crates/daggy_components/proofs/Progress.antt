-- The state of the search for components, by the variables of its code.
use Rattle.std.proofs.Common.{◌≡◌, ◌≢◌, ℕ, zero, suc, ◌+◌, ◌<◌, ◌≤◌, ◌↔◌, inl, inr, List, [], ◌∷◌, ◌++◌}
use Rattle.std.proofs.Common.{length, drop, get_or, set, refl, sym, ap, subst, ◌∙◌, arith, replicate}
use Rattle.std.proofs.lemmas.List.{get_or-set_other, drop_all}
use Rattle.std.proofs.lemmas.List.{length-replicate, get_or-replicate}
use Rattle.daggy_base.proofs.PathsWithEdge.{reaches_itself}
use Rattle.std.proofs.lemmas.Bool.{cases_lt}
use Rattle.daggy_base.specs.Graph.{Graph, HasNode, out_list, node_bound, edge_count}
use Rattle.daggy_base.specs.Path.{Reaches}
use Rattle.daggy_base.specs.Cursor.{first_of}
use Rattle.daggy_base.specs.WellFormed.{IsWellFormed}
use Rattle.daggy_base.proofs.Lists.{Mem, contains_mem, mem_contains}
use Rattle.daggy_search.proofs.FinishingOrder.{Stop, nodes_of}
use Rattle.daggy_search.proofs.SortNodesState.{AreKept}
use Rattle.std.specs.List.{concat}
use Rattle.daggy_components.specs.Components.{AreComponents, component}
use Rattle.daggy_components.specs.Stored.{AreStored, cut, ends_of}
use Rattle.daggy_components.proofs.Groups.{Group, In, AreGroups, AreClosed, Nothing}
use Rattle.daggy_components.proofs.Groups.{are_components}
use Rattle.daggy_components.proofs.Placing.{way_of, height}
use Rattle.daggy_components.proofs.Tallies.{Lists, Tally, AreSome, met_of, met_cases}
use Rattle.daggy_components.proofs.Tallies.{tally_enters}
use Rattle.daggy_components.proofs.Tallies.{looked_within, low, component_of}
use Rattle.daggy_components.proofs.Cuts.{cut_ends}

-- What a search begins with: the graph, the bound of its nodes, and how often edges were looked at till then.
pub record Start (N E : Type 0) : Type 0 where
  pub graph : Graph N E
  pub bound : ℕ
  pub looks : ℕ

-- What it has so far.
pub record Now (N E : Type 0) : Type 0 where
  pub graph : Graph N E
  pub lists : Lists
  pub cursors : List ℕ
  pub looks : ℕ

-- Where a walk is: how many groups there are, with how many nodes, how many nodes are on the way to it, its node, and
-- the next edge of that one.
pub record Spot : Type 0 where
  pub groups : ℕ
  pub opened : ℕ
  pub len : ℕ
  pub node : ℕ
  pub edge : ℕ

-- what there is for some groups and components, once the nodes below i were met
pub record Between {N E : Type 0} (end : ℕ) (start : Start N E) (i : ℕ) (now : Now N E) (groups : List Group)
    (closed : List (List ℕ)) (looked : ℕ) : Type 0 where
  pub same : now.graph ≡ start.graph
  pub sized_cursors : length now.cursors ≡ start.bound
  pub visited : (m : ℕ) → m < i → HasNode start.graph m → Mem m (met_of groups closed)
  pub counted : now.looks ≡ start.looks + looked
  pub closed_are : AreClosed start.graph Nothing closed
  pub grouped : AreGroups end start.graph (λ v. Mem v (concat closed)) Nothing groups
  pub tally : Tally end start.graph start.bound now.lists groups closed looked

-- between two roots
pub record Resting {N E : Type 0} (end : ℕ) (start : Start N E) (i : ℕ) (now : Now N E) : Type 0 where
  pub closed : List (List ℕ)
  pub looked : ℕ
  pub between : Between end start i now [] closed looked

-- the last group
abbrev pub group_at : (node passed : ℕ) → List Stop → List ℕ → Group
group_at node passed ss left = record { stops = record { node = node; passed = passed } ∷ ss; left = left }

-- on a walk from a root, at a node and an edge of its list
pub record Walking {N E : Type 0} (end : ℕ) (start : Start N E) (i : ℕ) (now : Now N E) (spot : Spot) : Type 0 where
  pub closed : List (List ℕ)
  pub looked : ℕ
  pub passed : ℕ
  pub ss : List Stop
  pub left : List ℕ
  pub lower : List Group
  pub between : Between end start i now (group_at spot.node passed ss left ∷ lower) closed looked
  pub cursor : spot.edge ≡ first_of end (drop passed (out_list start.graph spot.node))
  pub deep : spot.len ≡ length (nodes_of (ss ++ way_of lower))
  pub kept : AreKept end start.graph now.lists.nodes now.cursors (ss ++ way_of lower)
  pub groups_are : spot.groups ≡ suc (length lower)
  pub opened_are : spot.opened ≡ height (group_at spot.node passed ss left ∷ lower)

-- what stands above them does not matter
pub kept_stack : {N E : Type 0} (end : ℕ) (g : Graph N E) (stack cursors : List ℕ) (k n : ℕ) (ss : List Stop)
    → length (nodes_of ss) ≤ k → AreKept end g stack cursors ss → AreKept end g (set stack k n) cursors ss
kept_stack end g stack cursors k n [] low kept = tt
kept_stack end g stack cursors k n (s ∷ ss) low kept =
    let apart : length (nodes_of ss) ≢ k = λ eq. absurd (omega arith) in (
      λ d. get_or-set_other stack k (length (nodes_of ss)) n d apart ∙ kept.0 d,
      kept.1,
      kept_stack end g stack cursors k n ss (omega arith) kept.2,
    )

pub kept_cursors : {N E : Type 0} (end : ℕ) (g : Graph N E) (stack cursors : List ℕ) (k e : ℕ) (ss : List Stop)
    → length (nodes_of ss) ≤ k → AreKept end g stack cursors ss → AreKept end g stack (set cursors k e) ss
kept_cursors end g stack cursors k e [] low kept = tt
kept_cursors end g stack cursors k e (s ∷ ss) low kept =
    let apart : length (nodes_of ss) ≢ k = λ eq. absurd (omega arith) in (
      kept.0,
      λ d. get_or-set_other cursors k (length (nodes_of ss)) e d apart ∙ kept.1 d,
      kept_cursors end g stack cursors k e ss (omega arith) kept.2,
    )

pub rests : {N E : Type 0} {end bound : ℕ} (graph : Graph N E) (lists : Lists) (cursors : List ℕ) (looks : ℕ)
    → bound ≡ node_bound graph → bound ≤ end → lists.places ≡ replicate bound end → lists.nodes ≡ replicate bound end
    → lists.bases ≡ replicate bound end → cursors ≡ replicate bound end → lists.members ≡ [] → lists.ends ≡ []
    → lists.top ≡ bound
    → Resting end record { graph = graph; bound = bound; looks = looks } 0 record {
      graph = graph;
      lists = lists;
      cursors = cursors;
      looks = looks;
    }
rests {N} {E} {end} {bound} graph lists cursors looks is low places nodes bases cursors_are members ends top =
    let long : (xs : List ℕ) → xs ≡ replicate bound end → length xs ≡ bound = λ xs eq.
    ap (λ (z : List ℕ). length z) eq ∙ length-replicate bound end in
    record {
      closed = [];
      looked = 0;
      between = record {
        same = refl;
        sized_cursors = long cursors cursors_are;
        visited = λ m below exists. absurd (omega arith);
        counted = omega arith;
        closed_are = tt;
        grouped = tt;
        tally = record {
          bound_is = is;
          bound_low = low;
          sized_places = long lists.places places;
          sized_nodes = long lists.nodes nodes;
          sized_bases = long lists.bases bases;
          some = tt;
          stops = tt;
          within = tt;
          once = tt;
          real = λ n m. absurd m;
          counted = refl;
          numbered = tt;
          bases_are = tt;
          closed_at = λ k v m. absurd m;
          unmet = λ v below.
              inl (ap (λ (z : List ℕ). get_or z v end) places ∙ get_or-replicate bound v end end below);
          at_top = omega (arith, top);
          behind = drop_all lists.top lists.nodes (omega (arith, top, long lists.nodes nodes));
          members_are = members;
          ends_are = ends;
        };
      };
    }

module _ {N E : Type 0} {end : ℕ} {start : Start N E} {i : ℕ} {now : Now N E} (w : IsWellFormed end start.graph)
    (s : Resting end start i now) where
  real_then : (m : ℕ) → HasNode now.graph m → HasNode start.graph m
  real_then m h = let P : Graph N E → Type 0 = λ z. HasNode z m in subst P s.between.same h

  real_now : (m : ℕ) → HasNode start.graph m → HasNode now.graph m
  real_now m h = let P : Graph N E → Type 0 = λ z. HasNode z m in subst P (sym s.between.same) h

  pub few_rested : (start.looks ≤ now.looks) × (now.looks ≤ start.looks + edge_count start.graph)
  few_rested =
      let within = looked_within s.between.tally w in
      (omega (arith, s.between.counted), omega (arith, s.between.counted, within))

  -- a root that does not exist, or was met on an earlier walk
  pub skipped : (HasNode now.graph i → get_or now.lists.places i end ≢ end) → Resting end start (i + 1) now
  skipped here =
      record {
        closed = s.closed;
        looked = s.looked;
        between = record {
          same = s.between.same;
          sized_cursors = s.between.sized_cursors;
          visited = λ m below exists. elim (cases_lt m i) [
            | inl a ↦ s.between.visited m a exists
            | inr b ↦ (
                let last : i ≡ m = omega arith in
                let P : ℕ → Type 0 = λ z. HasNode now.graph z → get_or now.lists.places z end ≢ end in
                elim (s.between.tally.unmet m (low s.between.tally m exists)) [
                  | inl e ↦ absurd (subst P last here (real_now m exists) e)
                  | inr met ↦ met
                ]
                )
          ];
          counted = s.between.counted;
          closed_are = s.between.closed_are;
          grouped = s.between.grouped;
          tally = s.between.tally;
        };
      }

  root_low : HasNode now.graph i → i < start.bound
  root_low h = low s.between.tally i (real_then i h)

  pub begins : {n e : ℕ} → HasNode now.graph i → get_or now.lists.places i end ≡ end → n ≡ i
      → e ≡ first_of end (out_list now.graph n)
      → Walking end start (i + 1) record now {
        lists = record now.lists { places = set now.lists.places i 0; bases = set now.lists.bases 0 0 };
      } record { groups = 1; opened = 1; len = 0; node = n; edge = e }
  begins {n} {e} exists unseen is first =
      let new : Group = group_at i 0 [] [] in
      let there = real_then i exists in
      let one : (z : ℕ) → In new z → z ≡ i = λ z m.
      elim m [ inl a ↦ elim a [ inl eq ↦ eq | inr b ↦ absurd b ] | inr b ↦ absurd b ] in
      let P : ℕ → Type 0 = λ z.
      Walking end start (i + 1) record now {
        lists = record now.lists { places = set now.lists.places i 0; bases = set now.lists.bases 0 0 };
      } record { groups = 1; opened = 1; len = 0; node = z; edge = e } in
      subst P (sym is) record {
        closed = s.closed;
        looked = s.looked;
        passed = 0;
        ss = [];
        left = [];
        lower = [];
        between = record {
          same = s.between.same;
          sized_cursors = s.between.sized_cursors;
          visited = λ m below real. elim (cases_lt m i) [
            | inl a ↦ inr (s.between.visited m a real)
            | inr b ↦ inl (omega arith)
          ];
          counted = s.between.counted;
          closed_are = s.between.closed_are;
          grouped = (
            λ u z m b.
                elim b [
                  | inl a ↦ (
                      let Q : ℕ → Type 0 = λ y. Reaches start.graph y z in
                      let R : ℕ → Type 0 = λ y. Reaches start.graph i y in
                      subst Q (sym (one u m)) (subst R (sym (one z a)) (reaches_itself start.graph i there))
                      )
                  | inr n ↦ absurd n
                ],
            (λ j x lt a. absurd (omega arith), tt),
            λ u z m k. absurd m,
            tt,
          );
          tally = tally_enters s.between.tally i there unseen;
        };
        cursor = first ∙ (ap (λ (z : ℕ). first_of end (out_list now.graph z)) is
            ∙ ap (λ (z : Graph N E). first_of end (out_list z i)) s.between.same);
        deep = refl;
        kept = tt;
        groups_are = refl;
        opened_are = refl;
      }

  -- all roots were tried
  pub all_found : start.bound ≤ i → AreComponents start.graph s.closed
  all_found all =
      are_components start.graph s.closed s.between.closed_are s.between.tally.once some exact
    where
      some_at : (cs : List (List ℕ)) → AreSome cs → (k : ℕ) → k < length cs → component cs k ≢ []
      some_at [] h k below eq = absurd (omega arith)
      some_at (c ∷ cs) h zero below eq =
          absurd (omega (arith, h.0, ap (λ (z : List ℕ). length z) eq))
      some_at (c ∷ cs) h (suc k) below eq = some_at cs h.1 k (omega arith) eq

      some : (k : ℕ) → k < length s.closed → component s.closed k ≢ []
      some k below eq = some_at s.closed s.between.tally.some k below eq

      exact : (n : ℕ) → Mem n (concat s.closed) ↔ HasNode start.graph n
      exact n = (
        λ m. s.between.tally.real n m,
        λ h. s.between.visited n (omega (arith, low s.between.tally n h)) h,
      )

  -- the lists hold the components
  pub cuts : cut 0 now.lists.ends now.lists.members ≡ s.closed
  cuts =
      ap (λ (z : List ℕ). cut 0 z now.lists.members) s.between.tally.ends_are
      ∙ (ap (λ (z : List ℕ). cut 0 (ends_of 0 s.closed) z) s.between.tally.members_are ∙ cut_ends [] s.closed)

  -- the lists hold them, and each node's place tells its component
  pub all_stored : AreStored end now.lists.members now.lists.ends now.lists.places
      (cut 0 now.lists.ends now.lists.members)
  all_stored =
      let t = s.between.tally in
      let P : List (List ℕ) → Type 0 = λ z. AreStored end now.lists.members now.lists.ends now.lists.places z in
      subst P (sym cuts) record {
        nodes_are = t.members_are;
        ends_are = t.ends_are;
        placed = record {
          at = λ k v m. omega (arith, t.closed_at k v (contains_mem (component s.closed k) v m), t.sized_places);
          other = λ v below. elim (t.unmet v (omega (arith, below, t.sized_places))) [
            | inl e ↦ inl e
            | inr m ↦ elim (met_cases [] s.closed v m) [
              | inl n ↦ absurd n
              | inr b ↦ (
                  let p = component_of s.closed v b in
                  inr (p.0, mem_contains (component s.closed p.0) v p.2)
                  )
            ]
          ];
          few = omega (arith, t.sized_places, t.bound_low);
        };
      }
