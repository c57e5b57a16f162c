-- The steps of a search for a shortest cycle through a node.
use Rattle.std.proofs.Common.{◌≡◌, ◌≢◌, ℕ, suc, ◌+◌, ◌<◌, ◌≤◌, List, [], ◌∷◌, ◌++◌, length, get_or, set}
use Rattle.std.proofs.Common.{map, drop, take, reverse, replicate, refl, sym, ap, subst, ◌∙◌, arith}
use Rattle.std.specs.Prelude.{slice_index}
use Rattle.std.proofs.lemmas.List.{length-append, reverse-append}
use Rattle.std.proofs.lemmas.List.{take-append-drop, take-append-le}
use Rattle.std.proofs.Math.Seq.{take-suc}
use Rattle.daggy_base.specs.Graph.{Graph, HasNode, HasEdge, node_bound, edge_count, out_list}
use Rattle.daggy_base.specs.Path.{AreJoined, end_of}
use Rattle.daggy_base.specs.Cursor.{first_of}
use Rattle.daggy_base.specs.Look.{IsLook}
use Rattle.daggy_base.specs.WellFormed.{IsWellFormed}
use Rattle.daggy_base.proofs.Lists.{Unique, unique_from_distinct}
use Rattle.daggy_base.proofs.LongerPaths.{path_more}
use Rattle.daggy_base.proofs.Sorted.{unique_left}
use Rattle.daggy_base.proofs.OutEdgesRead.{LookedTo, all_read, read_part, read_whole, has_edge, child_exists}
use Rattle.daggy_base.proofs.OutEdgesRead.{child_joined, next_cursor, looked_more, below_bound, lists_of, lists_few}
use Rattle.daggy_components.specs.Cycles.{IsCycle}
use Rattle.daggy_components.proofs.Tallies.{lists_append}
use Rattle.daggy_cycles.specs.Queue.{IsQueue, IsNear, IsTrail, IsWayTo, place_before}
use Rattle.daggy_cycles.specs.Shortest.{IsShortestCycle, IsOnNoCycle}
use Rattle.daggy_cycles.proofs.Queues.{queue_low, near_again, goes_on, put, near_new, near_more, old_head}
use Rattle.daggy_cycles.proofs.Queues.{old_head_depth, is_shortest, on_none}

-- what is told of a child of the head: it is another node than the first, and near
abbrev pub IsPassed : (start head : ℕ) (nodes depths : List ℕ) → ℕ → Type 0
IsPassed start head nodes depths v = (v ≢ start) × IsNear nodes depths v (slice_index depths head + 1)

-- while the children of the head are looked at
pub record Searching {N E : Type 0} (end : ℕ) (g : Graph N E) (from start : ℕ) (now : Graph N E) (looks : ℕ)
    (places nodes : List ℕ) (head e : ℕ) : Type 0 where
  pub same : now ≡ g
  pub depths : List ℕ
  pub queue : IsQueue end g start places nodes depths head
  pub here : head < length nodes
  pub passed : ℕ
  pub cursor : e ≡ first_of end (drop passed (out_list g (slice_index nodes head)))
  pub within : passed ≤ length (out_list g (slice_index nodes head))
  pub looked : LookedTo end g (IsPassed start head nodes depths) (slice_index nodes head) passed
  pub counted : looks ≡ from + length (lists_of g (take head nodes)) + passed

pub search_begins : {N E : Type 0} {end : ℕ} {g : Graph N E} {from start : ℕ} {places nodes : List ℕ} {e : ℕ}
    → IsWellFormed end g → node_bound g ≤ end → HasNode g start → (places_are : IsQueue end g start places nodes (0 ∷ []) 0)
    → e ≡ first_of end (out_list g start) → Searching end g from start g from places nodes 0 e
search_begins {N} {E} {end} {g} {from} {start} {places} {nodes} {e} w low exists q first =
    let P : ℕ → Type 0 = λ z. e ≡ first_of end (out_list g z) in
    record {
      same = refl;
      depths = 0 ∷ [];
      queue = q;
      here = q.some;
      passed = 0;
      cursor = subst P (sym q.begins) first;
      within = omega arith;
      looked = λ j x lt a. absurd (omega (arith, lt));
      counted = omega arith;
    }

module _ {N E : Type 0} {end : ℕ} {g : Graph N E} {from start : ℕ} {now : Graph N E} {looks : ℕ}
    {places nodes : List ℕ} {head e : ℕ} (w : IsWellFormed end g)
    (s : Searching end g from start now looks places nodes head e) where
  node : ℕ
  node = slice_index nodes head

  -- the nodes up to the head are distinct
  up_to_head : take (suc head) nodes ≡ take head nodes ++ slice_index nodes head ∷ []
  up_to_head = take-suc nodes head 0 s.here

  lists_more : length (lists_of g (take (suc head) nodes))
      ≡ length (lists_of g (take head nodes)) + length (out_list g (slice_index nodes head))
  lists_more =
      let x = slice_index nodes head in
      let one : length (lists_of g (take (suc head) nodes)) ≡ length (lists_of g (take head nodes ++ x ∷ [])) =
      ap (λ (z : List ℕ). length (lists_of g z)) up_to_head in
      omega (arith, one, lists_append g (take head nodes) (x ∷ []), length-append (out_list g x) [])

  lists_low : length (lists_of g (take (suc head) nodes)) ≤ edge_count g
  lists_low =
      let P : List ℕ → Type 0 = λ z. Unique z in
      let whole : Unique (take (suc head) nodes ++ drop (suc head) nodes) =
      subst P (sym (take-append-drop (suc head) nodes)) (unique_from_distinct nodes s.queue.once) in
      lists_few end g w (take (suc head) nodes) (unique_left (take (suc head) nodes) (drop (suc head) nodes) whole)

  pub looks_few : looks ≤ from + edge_count g
  looks_few = omega (arith, s.counted, s.within, lists_more, lists_low)

  pub head_few : head < node_bound g
  head_few = omega (arith, s.here, queue_low w s.queue)

  pub from_low : from ≤ looks
  from_low = omega (arith, s.counted)

  module _ (at_end : e ≡ end) where
    whole : s.passed ≡ length (out_list g (slice_index nodes head))
    whole = read_whole end g w (slice_index nodes head) s.passed e s.cursor s.within at_end

    went_on : IsQueue end g start places nodes s.depths (head + 1)
    went_on =
        goes_on w s.queue s.here
        (all_read end g w (slice_index nodes head) s.passed e s.cursor s.within at_end
        (IsPassed start head nodes s.depths) s.looked)

    -- all nodes of the queue were read
    pub ends_search : length nodes ≤ head + 1 → IsOnNoCycle g start
    ends_search all = on_none w went_on all

    -- the next one
    pub next_head : {e' : ℕ} → head + 1 < length nodes → e' ≡ first_of end (out_list g (slice_index nodes (head + 1)))
        → Searching end g from start now looks places nodes (head + 1) e'
    next_head low first =
        let one : head + 1 ≡ suc head = omega arith in
        let more : length (lists_of g (take (head + 1) nodes)) ≡ length (lists_of g (take (suc head) nodes)) =
        ap (λ (z : ℕ). length (lists_of g (take z nodes))) one in
        record {
          same = s.same;
          depths = s.depths;
          queue = went_on;
          here = low;
          passed = 0;
          cursor = first;
          within = omega arith;
          looked = λ j x lt a. absurd (omega (arith, lt));
          counted = omega (arith, s.counted, whole, more, lists_more);
        }

  module _ (here : e ≢ end) where
    pub is_edge : HasEdge now e
    is_edge =
        let P : Graph N E → Type 0 = λ z. HasEdge z e in
        subst P (sym s.same) (has_edge end g w (slice_index nodes head) s.passed e s.cursor here)

    pub one_look_few : {looks' : ℕ} → looks' ≡ looks + 1 → looks' ≤ from + edge_count g
    one_look_few one =
        omega (
          arith,
          s.counted,
          one,
          (read_part end g w (slice_index nodes head) s.passed e s.cursor here).0,
          lists_more,
          lists_low,
        )

    module _ {v next : ℕ} (look : IsLook end now e v next) where
      look₀ : IsLook end g e v next
      look₀ = let P : Graph N E → Type 0 = λ z. IsLook end z e v next in subst P s.same look

      joined : AreJoined g (slice_index nodes head) v
      joined = child_joined end g w (slice_index nodes head) s.passed e s.cursor here v next look₀

      real : HasNode g v
      real = child_exists end g w (slice_index nodes head) s.passed e s.cursor here v next look₀

      pub child_below : v < length places
      child_below = omega (arith, below_bound g.nodes v real, s.queue.sized)

      -- the child is the first node
      pub finds : {way : List ℕ} → v ≡ start → IsWayTo end places nodes head way → IsShortestCycle g start way
      finds same t =
          let P : ℕ → Type 0 = λ z. AreJoined g (slice_index nodes head) z in
          is_shortest w s.queue s.here (subst P same joined) t

      module _ (apart : v ≢ start) {now' : Graph N E} (unchanged : now' ≡ now) {looks' : ℕ} (one : looks' ≡ looks + 1) where
        -- it is in the queue already
        pub looks_over : get_or places v end ≢ end → Searching end g from start now' looks' places nodes head next
        looks_over has =
            record {
              same = unchanged ∙ s.same;
              depths = s.depths;
              queue = s.queue;
              here = s.here;
              passed = suc s.passed;
              cursor = next_cursor end g w (slice_index nodes head) s.passed e s.cursor here v next look₀;
              within = omega (arith, (read_part end g w (slice_index nodes head) s.passed e s.cursor here).0);
              looked =
                  looked_more end g w (slice_index nodes head) s.passed e s.cursor here v next look₀
                  (IsPassed start head nodes s.depths) s.looked (apart, near_again w s.queue s.here v real has);
              counted = omega (arith, s.counted, one);
            }

        -- it is put into it
        pub looks_new : get_or places v end ≡ end → {places' nodes' : List ℕ} → places' ≡ set places v head
            → nodes' ≡ nodes ++ v ∷ [] → Searching end g from start now' looks' places' nodes' head next
        looks_new none {places'} {nodes'} writes pushes =
            let depths' = s.depths ++ (slice_index s.depths head + 1) ∷ [] in
            let ns = nodes ++ v ∷ [] in
            let P : List ℕ → Type 0 = λ z. Searching end g from start now' looks' z nodes' head next in
            let Q : List ℕ → Type 0 = λ z. Searching end g from start now' looks' (set places v head) z head next in
            let same_head = old_head w s.queue s.here joined none in
            let same_depth = old_head_depth w s.queue s.here joined none in
            let R : ℕ → Type 0 = λ z. next ≡ first_of end (drop (suc s.passed) (out_list g z)) in
            let S : ℕ → Type 0 = λ z. suc s.passed ≤ length (out_list g z) in
            let T : ℕ → Type 0 = λ z. LookedTo end g (IsPassed start head ns depths') z (suc s.passed) in
            let U : ℕ → ℕ → Type 0 = λ u z. IsNear ns depths' u (z + 1) in
            let still : (u : ℕ) → IsPassed start head nodes s.depths u → IsPassed start head ns depths' u = λ u h.
            (h.0, subst (U u) (sym same_depth) (near_more w s.queue s.here joined none u _ h.1)) in
            let now_near : IsPassed start head ns depths' v =
            (apart, subst (U v) (sym same_depth) (near_new w s.queue s.here joined none)) in
            let found : LookedTo end g (IsPassed start head ns depths') (slice_index nodes head) (suc s.passed) =
            looked_more end g w (slice_index nodes head) s.passed e s.cursor here v next look₀
            (IsPassed start head ns depths') (λ j x lt a. still x.child (s.looked j x lt a)) now_near in
            let first_same : take head ns ≡ take head nodes = take-append-le head nodes (v ∷ []) (omega (arith, s.here)) in
            let lists_same : length (lists_of g (take head ns)) ≡ length (lists_of g (take head nodes)) =
            ap (λ (z : List ℕ). length (lists_of g z)) first_same in
            let result : Searching end g from start now' looks' (set places v head) ns head next = record {
              same = unchanged ∙ s.same;
              depths = depths';
              queue = put w s.queue s.here joined none;
              here = omega (arith, s.here, length-append nodes (v ∷ []));
              passed = suc s.passed;
              cursor = subst R (sym same_head)
                  (next_cursor end g w (slice_index nodes head) s.passed e s.cursor here v next look₀);
              within = subst S (sym same_head)
                  (omega (arith, (read_part end g w (slice_index nodes head) s.passed e s.cursor here).0));
              looked = subst T (sym same_head) found;
              counted = omega (arith, s.counted, one, lists_same);
            } in
            subst P (sym writes) (subst Q (sym pushes) result)

-- the way back to the first node

-- the last part of the way, from the node at a place on: that node is not in it yet
pub record WayFrom (end : ℕ) (places nodes : List ℕ) (at i : ℕ) (turned : List ℕ) : Type 0 where
  pub rest : List ℕ
  pub are : turned ≡ map (slice_index nodes) rest
  pub trail : IsTrail (place_before end places nodes) (i ∷ rest)
  pub last : end_of i rest ≡ at
  pub low : i < length nodes

pub way_begins : {end : ℕ} {places nodes : List ℕ} {at : ℕ} {turned : List ℕ} → at < length nodes → turned ≡ []
    → WayFrom end places nodes at at turned
way_begins low none = record { rest = []; are = none; trail = tt; last = refl; low = low }

module _ {end : ℕ} {places nodes : List ℕ} {at i : ℕ} {turned : List ℕ} (s : WayFrom end places nodes at i turned) where
  pub way_goes_back : {j : ℕ} {turned' : List ℕ} → 0 < i → place_before end places nodes i < i
      → j ≡ place_before end places nodes i → turned' ≡ slice_index nodes i ∷ turned
      → WayFrom end places nodes at j turned'
  way_goes_back some earlier is more =
      record {
        rest = i ∷ s.rest;
        are = more ∙ ap (λ (z : List ℕ). slice_index nodes i ∷ z) s.are;
        trail = (some, sym is, s.trail);
        last = s.last;
        low = omega (arith, earlier, is, s.low);
      }

  pub way_whole : {way : List ℕ} → i ≡ 0 → way ≡ slice_index nodes 0 ∷ turned → IsWayTo end places nodes at way
  way_whole first more =
      let P : ℕ → Type 0 = λ z. IsTrail (place_before end places nodes) (z ∷ s.rest) in
      let Q : ℕ → Type 0 = λ z. end_of z s.rest ≡ at in
      record {
        rest = s.rest;
        are = more ∙ ap (λ (z : List ℕ). slice_index nodes 0 ∷ z) s.are;
        trail = subst P first s.trail;
        last = subst Q first s.last;
      }

pub turned_more : {I : Type 0} (number : I → ℕ) (xs : List I) (x : I)
    → map number (reverse (xs ++ x ∷ [])) ≡ number x ∷ map number (reverse xs)
turned_more number xs x = ap (λ z. map number z) (reverse-append xs (x ∷ []))

-- in the words of the code

pub places_first : (end bound : ℕ) (places : List ℕ) (count i start place : ℕ) → places ≡ replicate count end
    → count ≡ bound → i ≡ start → place ≡ 0 → set places i place ≡ set (replicate bound end) start 0
places_first end bound places count i start place are long at zero =
    let same : replicate count end ≡ replicate bound end = ap (λ (z : ℕ). replicate z end) long in
    ap (λ (z : List ℕ). set z i place) (are ∙ same)
    ∙ (ap (λ (z : ℕ). set (replicate bound end) z place) at
    ∙ ap (λ (z : ℕ). set (replicate bound end) start z) zero)

pub first_of_head : {N E : Type 0} (end : ℕ) (now g : Graph N E) (n m e : ℕ) → now ≡ g → n ≡ m
    → e ≡ first_of end (out_list now n) → e ≡ first_of end (out_list g m)
first_of_head {N} {E} end now g n m e same is first =
    let P : Graph N E → Type 0 = λ z. e ≡ first_of end (out_list z m) in
    let Q : ℕ → Type 0 = λ z. e ≡ first_of end (out_list now z) in
    subst P same (subst Q is first)

-- a node of a cycle is on one
pub is_on : {N E : Type 0} {g : Graph N E} {n : ℕ} {cycle : List ℕ} → IsShortestCycle g n cycle → IsOnNoCycle g n → ⊥
is_on {N} {E} {g} {n} {cycle} s none =
    let P : List ℕ → Type 0 = λ z. IsCycle g z in
    on s.rest (subst P s.begins s.cycle_is)
  where
    on : (rest : List ℕ) → IsCycle g (n ∷ rest) → ⊥
    on [] c = none n [] (c.0, c.2, c.0) refl
    on (v ∷ rest) c =
        let more = path_more g n (v ∷ rest) (end_of v rest) n c.0 refl c.2 c.0.0 in
        none v (rest ++ n ∷ []) more.0 more.1
