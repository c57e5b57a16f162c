-- The state of a search, by the variables of its code.
use Rattle.std.proofs.Common.{◌≡◌, ◌≢◌, ℕ, ◌+◌, ◌<◌, ◌≤◌, true, false, inl, inr, List, [], ◌∷◌, ◌++◌, length}
use Rattle.std.proofs.Common.{get_or, set, refl, sym, ap, subst, ◌∙◌, arith}
use Rattle.std.proofs.lemmas.List.{get_or-set_same}
use Rattle.daggy_base.specs.Graph.{Graph, HasNode, HasEdge, out_list, node_bound, edge_count}
use Rattle.daggy_base.specs.Path.{AreJoined, Reaches}
use Rattle.daggy_base.specs.Cursor.{first_of}
use Rattle.daggy_base.specs.WellFormed.{IsWellFormed}
use Rattle.daggy_base.specs.Look.{IsLook}
use Rattle.daggy_base.proofs.OutEdgesRead.{below_bound}
use Rattle.daggy_search.specs.Work.{Work, IsSized, IsCleared}
use Rattle.daggy_search.proofs.Sized.{sized_entered, sized_put_node}
use Rattle.daggy_search.proofs.SearchProgress.{Going, Met, looked_within, look_within, edge_exists, found_exists}
use Rattle.daggy_search.proofs.SearchProgress.{child_reached, moved, pushed, has_room, reaches_stays, started, popped, next_read}
use Rattle.daggy_search.proofs.SearchProgress.{all_met, from_met}

-- What a search begins with: the graph, the node that it starts from, the size of its worklist, and how often edges
-- were looked at till then.
pub record Start (N E : Type 0) : Type 0 where
  pub graph : Graph N E
  pub from : ℕ
  pub size : ℕ
  pub looks : ℕ

-- What a search has so far: the graph, the worklist, with the nodes that were met, those of them that wait to be read,
-- the next edge of the node that is read, and how often edges were looked at.
pub record Reading (N E : Type 0) : Type 0 where
  pub graph : Graph N E
  pub work : Work
  pub waiting : List ℕ
  pub edge : ℕ
  pub looks : ℕ

-- nothing was changed but the worklist, and the search has come as far as `now` says
pub record Searching {N E : Type 0} (end : ℕ) (Keep Skip : ℕ → Type 0) (start : Start N E) (now : Reading N E)
    : Type 0 where
  pub same : now.graph ≡ start.graph
  pub sized : IsSized start.size now.work
  pub fits : node_bound start.graph ≤ start.size
  pub looked : ℕ
  pub counted : now.looks ≡ start.looks + looked
  pub going : Going end start.graph Keep Skip start.from now.work.entered now.waiting now.edge looked

pub starts : {N E : Type 0} {end size : ℕ} (now : Reading N E)
    → IsWellFormed end now.graph → {Keep Skip : ℕ → Type 0} {from : ℕ} → HasNode now.graph from
    → IsCleared now.work → Keep from → node_bound now.graph ≤ size → IsSized size now.work
    → {i : ℕ} → i ≡ from → now.edge ≡ first_of end (out_list now.graph from)
    → Searching end Keep Skip record {
      graph = now.graph;
      from = from;
      size = size;
      looks = now.looks;
    } record now { work = record now.work { entered = set now.work.entered i true }; waiting = [] }
starts {N} {E} {end} {size} now w {Keep} {Skip} {from} exists clear keep fits sized {i} is first =
    let low : from < length now.work.entered =
    omega (arith, below_bound now.graph.nodes from exists, fits, sized.entered_are) in
    let s = started end now.graph w Keep Skip from now.work.entered exists clear.none_entered keep low in
    record {
      same = refl;
      sized = sized_entered sized i;
      fits = fits;
      looked = 0;
      counted = omega arith;
      going = rw (is, first) s;
    }

module _ {N E : Type 0} {end : ℕ} {Keep Skip : ℕ → Type 0} {start : Start N E} {now : Reading N E}
    (w : IsWellFormed end start.graph) (s : Searching end Keep Skip start now) where
  pub few : now.looks ≤ start.looks + edge_count start.graph
  few = omega (arith, s.counted, looked_within w s.going)

  pub looked_once : now.edge ≢ end → {looks' : ℕ}
      → looks' ≡ now.looks + 1 → looks' ≤ start.looks + edge_count start.graph
  looked_once here one_more = omega (arith, s.counted, look_within w s.going here)

  pub edge_here : now.edge ≢ end → HasEdge now.graph now.edge
  edge_here here =
      let P : Graph N E → Type 0 = λ z. HasEdge z now.edge in
      subst P (sym s.same) (edge_exists w s.going here)

  pub from_marked : get_or now.work.entered start.from false ≡ true
  from_marked = from_met end start.graph w Keep Skip start.from now.work.entered now.edge s.looked s.going

  pub only_reached : (n : ℕ) → get_or now.work.entered n false ≡ true → Reaches start.graph start.from n × Keep n
  only_reached n m = let here = (s.going.marked n).0 m in (s.going.reached n here, s.going.kept n here)

  -- at the end each child of a marked node is marked or skipped
  pub all_met_here : now.edge ≡ end → now.waiting ≡ [] → (u v : ℕ)
      → get_or now.work.entered u false ≡ true → AreJoined start.graph u v → Met now.work.entered Skip v
  all_met_here h empty =
      let P : List ℕ → Type 0 = λ z. Going end start.graph Keep Skip start.from now.work.entered z now.edge s.looked in
      all_met end start.graph w Keep Skip start.from now.work.entered now.edge s.looked (subst P empty s.going) h

  -- another node is read
  goes_on : {rest : List ℕ} (u : ℕ) {e' : ℕ}
      → Going end start.graph Keep Skip start.from now.work.entered rest (first_of end (out_list start.graph u)) s.looked
      → e' ≡ first_of end (out_list now.graph u) → Searching end Keep Skip start record now { waiting = rest; edge = e' }
  goes_on {rest} u going first =
      record {
        same = s.same;
        sized = s.sized;
        fits = s.fits;
        looked = s.looked;
        counted = s.counted;
        going = rw (first, ap (λ (z : Graph N E). first_of end (out_list z u)) s.same) going;
      }

  -- the last of a stack
  pub pops : now.edge ≡ end → {front : List ℕ} (u : ℕ) {e' : ℕ} → now.waiting ≡ front ++ u ∷ []
      → e' ≡ first_of end (out_list now.graph u) → Searching end Keep Skip start record now { waiting = front; edge = e' }
  pops h {front} u is first =
      let P : List ℕ → Type 0 = λ z. Going end start.graph Keep Skip start.from now.work.entered z now.edge s.looked in
      goes_on u (popped end start.graph w Keep Skip start.from now.work.entered front u now.edge s.looked
      (subst P is s.going) h) first

  -- the first of a queue
  pub reads_next : now.edge ≡ end → {rest : List ℕ} (u : ℕ) {e' : ℕ} → now.waiting ≡ u ∷ rest
      → e' ≡ first_of end (out_list now.graph u) → Searching end Keep Skip start record now { waiting = rest; edge = e' }
  reads_next h {rest} u is first =
      let P : List ℕ → Type 0 = λ z. Going end start.graph Keep Skip start.from now.work.entered z now.edge s.looked in
      goes_on u (next_read end start.graph w Keep Skip start.from now.work.entered rest u now.edge s.looked
      (subst P is s.going) h) first

  module _ (here : now.edge ≢ end) {v next : ℕ} (look : IsLook end now.graph now.edge v next) where
    look₀ : IsLook end start.graph now.edge v next
    look₀ = let P : Graph N E → Type 0 = λ z. IsLook end z now.edge v next in subst P s.same look

    pub child_low : v < length now.work.entered
    child_low =
        omega (
          arith,
          below_bound start.graph.nodes v (found_exists w s.going here v next look₀),
          s.fits,
          s.sized.entered_are,
        )

    pub room_here : get_or now.work.entered v false ≡ false → length now.waiting + 1 < start.size
    room_here unseen = omega (arith, has_room w s.going v child_low unseen, s.sized.entered_are)

    pub child_found : Reaches start.graph start.from v
    child_found = child_reached w s.going here v next look₀

    module _ {g' : Graph N E} (kept : g' ≡ now.graph) {looks' : ℕ} (one_more : looks' ≡ now.looks + 1) where
      pub moves_on : Met now.work.entered Skip v
          → Searching end Keep Skip start record now { graph = g'; edge = next; looks = looks' }
      moves_on seen =
          record {
            same = kept ∙ s.same;
            sized = s.sized;
            fits = s.fits;
            looked = s.looked + 1;
            counted = omega (arith, s.counted, one_more);
            going = moved w s.going here v next look₀ seen;
          }

      pub puts : {i : ℕ} → i ≡ v → Keep v → get_or now.work.entered v false ≡ false → (at : ℕ)
          → Searching end Keep Skip start record {
            graph = g';
            work = record now.work { entered = set now.work.entered i true; nodes = set now.work.nodes at v };
            waiting = now.waiting ++ v ∷ [];
            edge = next;
            looks = looks';
          }
      puts {i} is keep unseen at =
          let low = child_low in
          let with_child = pushed w s.going here v next look₀ low keep unseen in
          let marked_now : get_or (set now.work.entered v true) v false ≡ true =
          get_or-set_same now.work.entered v true false low in
          record {
            same = kept ∙ s.same;
            sized = sized_put_node (sized_entered s.sized i) at v;
            fits = s.fits;
            looked = s.looked + 1;
            counted = omega (arith, s.counted, one_more);
            going = rw is (moved w with_child here v next look₀ (inl marked_now));
          }

-- `search` keeps away from the node that it looks for, and skips nothing
abbrev pub SearchingFor : {N E : Type 0} → (end to : ℕ) → Start N E → Reading N E → Type 0
SearchingFor end to = Searching end (λ n. n ≢ to) (λ _. ⊥)

module _ {N E : Type 0} {end to : ℕ} {start : Start N E} {now : Reading N E} (w : IsWellFormed end start.graph)
    (s : Searching end (λ n. n ≢ to) (λ _. ⊥) start now) where
  pub nothing_left : now.edge ≡ end → now.waiting ≡ [] → Reaches start.graph start.from to → ⊥
  nothing_left h empty r =
      let P : ℕ → Type 0 = λ z. get_or now.work.entered z false ≡ true in
      let all =
      reaches_stays start.graph P (λ u v m j. elim (all_met_here w s h empty u v m j) [
        | inl met ↦ met
        | inr skipped ↦ absurd skipped
      ]) start.from to r (from_marked w s) in
      (only_reached w s to all).1 refl

  pub found : now.edge ≢ end → {v next : ℕ} → IsLook end now.graph now.edge v next → v ≡ to
      → Reaches start.graph start.from to
  found here look is =
      let P : ℕ → Type 0 = λ z. Reaches start.graph start.from z in
      subst P is (child_found w s here look)
