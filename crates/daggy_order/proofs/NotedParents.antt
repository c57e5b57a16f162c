-- A search among lower labels that notes the parents of the nodes that it enters.
use Rattle.std.proofs.Common.{◌≡◌, ◌≢◌, ℕ, suc, ◌+◌, ◌<◌, ◌≤◌, Bool, true, false, ◌⊎◌, inl, inr, List, [], ◌∷◌, ◌++◌}
use Rattle.std.proofs.Common.{length, get_or, set, drop, refl, sym, ap, subst, ◌∙◌, arith}
use Rattle.std.proofs.lemmas.Bool.{false≢true, cases_lt, cases_Bool}
use Rattle.daggy_base.specs.Graph.{Graph, HasNode, out_list, node_bound}
use Rattle.daggy_base.specs.Path.{AreJoined, IsPath, end_of}
use Rattle.daggy_base.specs.Cursor.{first_of}
use Rattle.daggy_base.specs.WellFormed.{IsWellFormed}
use Rattle.daggy_base.specs.Look.{IsLook}
use Rattle.daggy_base.proofs.Lists.{Mem, mem_left, mem_right, mem_cases}
use Rattle.daggy_base.proofs.OutEdgesRead.{below_bound, child_joined, next_cursor}
use Rattle.daggy_search.specs.Work.{IsSized, IsCleared}
use Rattle.daggy_search.proofs.Sized.{sized_put_cursor}
use Rattle.daggy_search.proofs.SearchProgress.{Met, path_stays, set_marked, closed_now}
use Rattle.daggy_search.proofs.SearchState.{Start, Reading, Searching, starts, moves_on, puts, reads_next, only_reached}
use Rattle.daggy_search.proofs.SearchState.{from_marked, child_low}
use Rattle.daggy_order.specs.Paths.{IsEntered, AreParents, LeadsBack}
use Rattle.daggy_order.proofs.BoundedSearch.{Below, Beyond, SearchingBelow}
use Rattle.daggy_order.proofs.Levels.{with_level, level_here, level_other, NeverFall, never_fall_more, apart, parents_more}

-- each child of n was entered, at most one level below n, or is passed over
abbrev pub IsRead : {N E : Type 0} → Graph N E → (Skip : ℕ → Type 0) (entered : List Bool) (level : ℕ → ℕ) (n : ℕ) → Type 0
IsRead g Skip entered level n =
    (v : ℕ) → AreJoined g n v → (IsEntered entered v × (level v ≤ level n + 1)) ⊎ Skip v

-- The search reads the edges of u. Each entered node has its parent and its level, at most one below u, and the levels
-- never fall from u on along the nodes that wait. All other entered nodes were read.
pub record Noting {N E : Type 0} (end : ℕ) (positions : List ℕ) (limit to : ℕ) (start : Start N E) (now : Reading N E)
    (u : ℕ) : Type 0 where
  pub searching : SearchingBelow end positions limit to start now
  pub passed : ℕ
  pub cursor : now.edge ≡ first_of end (drop passed (out_list start.graph u))
  pub here : IsEntered now.work.entered u
  pub level : ℕ → ℕ
  pub noted : AreParents start.graph start.from now.work.entered now.work.cursors level
  pub rising : NeverFall level (u ∷ now.waiting)
  pub near : (n : ℕ) → IsEntered now.work.entered n → level n ≤ level u + 1
  pub read : (n : ℕ) → IsEntered now.work.entered n
      → Mem n (u ∷ now.waiting) ⊎ IsRead start.graph (Beyond positions limit to) now.work.entered level n

-- at first only one node is entered
pub notes_first : {N E : Type 0} {end size : ℕ} (now : Reading N E)
    → IsWellFormed end now.graph → {positions : List ℕ} {limit to from : ℕ} → HasNode now.graph from
    → IsCleared now.work → get_or positions from 0 < limit → node_bound now.graph ≤ size → IsSized size now.work
    → now.edge ≡ first_of end (out_list now.graph from)
    → Noting end positions limit to record {
      graph = now.graph;
      from = from;
      size = size;
      looks = now.looks;
    } record now { work = record now.work { entered = set now.work.entered from true }; waiting = [] } from
notes_first {N} {E} {end} {size} now w {positions} {limit} {to} {from} exists clear keep fits sized first =
    let low : from < length now.work.entered =
    omega (arith, below_bound now.graph.nodes from exists, fits, sized.entered_are) in
    let only : (n : ℕ) → IsEntered (set now.work.entered from true) n → n ≡ from = λ n m.
    elim ((set_marked now.work.entered from n low).0 m) [
      | inl e ↦ e
      | inr old ↦ absurd (false≢true (sym (clear.none_entered n) ∙ old))
    ] in
    record {
      searching =
          starts now w {Keep = Below positions limit} {Skip = Beyond positions limit to} exists clear keep fits sized
          refl first;
      passed = 0;
      cursor = first;
      here = (set_marked now.work.entered from from low).1 (inl refl);
      level = λ _. 0;
      noted = record { top = refl; noted = λ n m d. absurd (d (only n m)) };
      rising = (λ y m. absurd m, tt);
      near = λ n m. omega arith;
      read = λ n m. inl (inl (only n m));
    }

-- a cursor changes nothing else
noted_in : {N E : Type 0} {end : ℕ} {Keep Skip : ℕ → Type 0} {start : Start N E} {now : Reading N E}
    → Searching end Keep Skip start now → (v u : ℕ)
    → Searching end Keep Skip start record now { work = record now.work { cursors = set now.work.cursors v u } }
noted_in s v u =
    record {
      same = s.same;
      sized = sized_put_cursor s.sized v u;
      fits = s.fits;
      looked = s.looked;
      counted = s.counted;
      going = s.going;
    }

module _ {N E : Type 0} {end : ℕ} {start : Start N E} {now : Reading N E} (w : IsWellFormed end start.graph)
    {positions : List ℕ} {limit to : ℕ} {u : ℕ} (s : Noting end positions limit to start now u) where
  waits : (n : ℕ) → Mem n now.waiting → IsEntered now.work.entered n
  waits n m =
      let t = s.searching.going in (t.marked n).1 (mem_left now.waiting (t.at ∷ t.done) n m)

  entered_here : (n : ℕ) → Mem n (u ∷ now.waiting) → IsEntered now.work.entered n
  entered_here n m =
      elim m [
        | inl e ↦ (let P : ℕ → Type 0 = λ z. IsEntered now.work.entered z in subst P (sym e) s.here)
        | inr b ↦ waits n b
      ]

  -- once its edges are read, u waits no longer
  read_now : now.edge ≡ end → (n : ℕ) → IsEntered now.work.entered n
      → Mem n now.waiting ⊎ IsRead start.graph (Beyond positions limit to) now.work.entered s.level n
  read_now h n m =
      let t = s.searching.going in
      elim (mem_cases now.waiting (t.at ∷ t.done) n ((t.marked n).0 m)) [
        | inl waiting ↦ inl waiting
        | inr done ↦ elim (s.read n m) [
          | inl q ↦ elim q [
            | inl e ↦ inr (λ v j. elim (closed_now w t h n v done j) [
              | inl met ↦ inl (met, omega (arith, s.near v met, ap s.level e))
              | inr past ↦ inr past
            ])
            | inr waiting ↦ inl waiting
          ]
          | inr r ↦ inr r
        ]
      ]

  -- another node is read
  pub notes_next : now.edge ≡ end → {rest : List ℕ} (x : ℕ) {e' : ℕ} → now.waiting ≡ x ∷ rest
      → e' ≡ first_of end (out_list now.graph x)
      → Noting end positions limit to start record now { waiting = rest; edge = e' } x
  notes_next h {rest} x {e'} is first =
      let P : List ℕ → Type 0 = λ z. Mem x z in
      let Q : List ℕ → Type 0 = λ z. NeverFall s.level (u ∷ z) in
      let next : Mem x now.waiting = subst P (sym is) (inl refl) in
      let up : s.level u ≤ s.level x = s.rising.0 x next in
      record {
        searching = reads_next w s.searching h x is first;
        passed = 0;
        cursor = first ∙ ap (λ (z : Graph N E). first_of end (out_list z x)) s.searching.same;
        here = waits x next;
        level = s.level;
        noted = s.noted;
        rising = (subst Q is s.rising).1;
        near = λ n m. omega (arith, s.near n m, up);
        read = λ n m.
            elim (read_now h n m) [
              | inl q ↦ inl (let R : List ℕ → Type 0 = λ z. Mem n z in subst R is q)
              | inr r ↦ inr r
            ];
      }

  module _ (here : now.edge ≢ end) {v next : ℕ} (look : IsLook end now.graph now.edge v next) where
    look₀ : IsLook end start.graph now.edge v next
    look₀ = let P : Graph N E → Type 0 = λ z. IsLook end z now.edge v next in subst P s.searching.same look

    joined_here : AreJoined start.graph u v
    joined_here = child_joined end start.graph w u s.passed now.edge s.cursor here v next look₀

    cursor_next : next ≡ first_of end (drop (suc s.passed) (out_list start.graph u))
    cursor_next = next_cursor end start.graph w u s.passed now.edge s.cursor here v next look₀

    cursor_low : v < length now.work.cursors
    cursor_low =
        omega (
          arith,
          child_low w s.searching here look,
          s.searching.sized.entered_are,
          s.searching.sized.cursors_are,
        )

    module _ {g' : Graph N E} (kept : g' ≡ now.graph) {looks' : ℕ} (one_more : looks' ≡ now.looks + 1) where
      -- a child that was entered, or is passed over
      pub notes_past : Met now.work.entered (Beyond positions limit to) v
          → Noting end positions limit to start record now { graph = g'; edge = next; looks = looks' } u
      notes_past seen =
          record {
            searching = moves_on w s.searching here look kept one_more seen;
            passed = suc s.passed;
            cursor = cursor_next;
            here = s.here;
            level = s.level;
            noted = s.noted;
            rising = s.rising;
            near = s.near;
            read = s.read;
          }

      -- a child that is entered
      pub notes_more : get_or positions v 0 < limit → get_or now.work.entered v false ≡ false → (at : ℕ)
          → Noting end positions limit to start record {
            graph = g';
            work = record now.work {
              entered = set now.work.entered v true;
              cursors = set now.work.cursors v u;
              nodes = set now.work.nodes at v;
            };
            waiting = now.waiting ++ v ∷ [];
            edge = next;
            looks = looks';
          } u
      notes_more keep new at =
          let low = child_low w s.searching here look in
          let k = s.level u + 1 in
          let level' = with_level s.level v k in
          let other : (n : ℕ) → IsEntered now.work.entered n → level' n ≡ s.level n = λ n m.
          level_other s.level v k n (apart s.noted v u joined_here s.here new n m) in
          let still : (n : ℕ) → IsEntered now.work.entered n → IsEntered (set now.work.entered v true) n = λ n m.
          (set_marked now.work.entered v n low).1 (inr m) in
          record {
            searching = puts w (noted_in s.searching v u) here look kept one_more refl keep new at;
            passed = suc s.passed;
            cursor = cursor_next;
            here = still u s.here;
            level = level';
            noted = parents_more s.noted v u joined_here s.here new (from_marked w s.searching) low cursor_low;
            rising =
                never_fall_more s.level (u ∷ now.waiting) v k s.rising
                (λ m. false≢true (sym new ∙ entered_here v m)) (λ n m. s.near n (entered_here n m));
            near = λ n m.
                elim ((set_marked now.work.entered v n low).0 m) [
                  | inl e ↦ omega (arith, level_here s.level v k n e, other u s.here)
                  | inr b ↦ omega (arith, other n b, other u s.here, s.near n b)
                ];
            read = λ n m.
                elim ((set_marked now.work.entered v n low).0 m) [
                  | inl e ↦ inl (inr (mem_right now.waiting (v ∷ []) n (inl e)))
                  | inr b ↦ elim (s.read n b) [
                    | inl q ↦ inl (mem_left (u ∷ now.waiting) (v ∷ []) n q)
                    | inr r ↦ inr (λ c j. elim (r c j) [
                      | inl there ↦ inl (still c there.0, omega (arith, other n b, other c there.0, there.1))
                      | inr past ↦ inr past
                    ])
                  ]
                ];
          }

    -- at `to`, since a way to it with fewer edges would have been found before
    module _ (ascending : (x y : ℕ) → AreJoined start.graph x y → get_or positions x 0 < get_or positions y 0)
        (limit_is : get_or positions to 0 ≡ limit) where
      at_limit : (y : ℕ) (rest : List ℕ) → limit ≤ get_or positions y 0 → IsPath start.graph (y ∷ rest)
          → end_of y rest ≡ to → y ≡ to
      at_limit y [] high path ends = ends
      at_limit y (z ∷ rest) high path ends =
          let P : ℕ → Type 0 = λ n. get_or positions z 0 ≤ get_or positions n 0 in
          let up : P (end_of z rest) =
          path_stays start.graph P (λ c d h j. omega (arith, h, ascending c d j)) z rest path.2 (omega arith) in
          absurd (omega (arith, high, ascending y z path.1, up, ap (λ n. get_or positions n 0) ends, limit_is))

      no_shorter : (x : ℕ) (rest : List ℕ) (j : ℕ) → IsEntered now.work.entered x → s.level x ≤ j
          → j + length rest ≤ s.level u → IsPath start.graph (x ∷ rest) → end_of x rest ≡ to → ⊥
      no_shorter x [] j m low few path ends =
          absurd (omega (
            arith,
            (only_reached w s.searching x m).1,
            ap (λ n. get_or positions n 0) ends,
            limit_is,
          ))
      no_shorter x (y ∷ rest) j m low few path ends =
          elim (s.read x m) [
            | inl q ↦ elim q [
              | inl e ↦ absurd (omega (arith, ap s.level e, low, few))
              | inr later ↦ absurd (omega (arith, s.rising.0 x later, low, few))
            ]
            | inr r ↦ elim (r y path.1) [
              | inl there ↦
                  no_shorter y rest (j + 1) there.0 (omega (arith, there.1, low)) (omega (arith, few)) path.2 ends
              | inr past ↦ past.1 (at_limit y rest past.0 path.2 ends)
            ]
          ]

      pub leads_back : v ≡ to
          → LeadsBack start.graph start.from to (set now.work.entered v true) (set now.work.cursors v u)
      leads_back is_to =
          let low = child_low w s.searching here look in
          let k = s.level u + 1 in
          let first = from_marked w s.searching in
          let new : get_or now.work.entered v false ≡ false =
          elim (cases_Bool (get_or now.work.entered v false)) [
            | inl met ↦
                absurd (omega (
                  arith,
                  (only_reached w s.searching v met).1,
                  ap (λ n. get_or positions n 0) is_to,
                  limit_is,
                ))
            | inr new ↦ new
          ] in
          record {
            level = with_level s.level v k;
            noted = parents_more s.noted v u joined_here s.here new first low cursor_low;
            found = (set_marked now.work.entered v to low).1 (inl (sym is_to));
            fewest = λ other o.
                let here : with_level s.level v k to ≡ k = level_here s.level v k to (sym is_to) in
                elim (cases_lt (length o.rest) k) [
                  | inl less ↦
                      absurd (no_shorter start.from o.rest 0 first (omega (arith, s.noted.top)) (omega (arith, less))
                      o.joined o.ends)
                  | inr enough ↦ omega (arith, here, enough, ap length o.begins)
                ];
          }
