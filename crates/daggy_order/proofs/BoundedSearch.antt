-- A search among nodes whose positions are below a limit.
use Rattle.std.proofs.Common.{◌≡◌, ◌≢◌, ℕ, ◌+◌, ◌<◌, ◌≤◌, Bool, true, false, ◌↔◌, inl, inr, List, [], ◌∷◌, ◌++◌, length}
use Rattle.std.proofs.Common.{get_or, set, take, drop, refl, sym, ap, subst, ◌∙◌, arith}
use Rattle.std.specs.List.{Contains}
use Rattle.std.specs.List.Sorted.{IsPermutation}
use Rattle.std.proofs.lemmas.Bool.{false≢true}
use Rattle.std.proofs.lemmas.List.{length-set, length-take-le, take_more_set, drop_more, drop-append-le}
use Rattle.std.proofs.lemmas.List.{get_or-take}
use Rattle.std.proofs.lemmas.List.Sorted.{IsPermutation-sym, IsPermutation-trans, IsPermutation-append_left}
use Rattle.std.proofs.lemmas.List.Sorted.{IsPermutation-to_front}
use Rattle.daggy_base.specs.Graph.{Graph, HasNode, out_list}
use Rattle.daggy_base.specs.Path.{AreJoined, Reaches}
use Rattle.daggy_base.specs.Ordered.{edges_from}
use Rattle.daggy_base.specs.WellFormed.{IsWellFormed}
use Rattle.daggy_base.specs.Look.{IsLook}
use Rattle.daggy_base.proofs.Lists.{Mem, Unique, mem_left, mem_right, mem_cases, unique_append, unique_right}
use Rattle.daggy_base.proofs.Lists.{fewer_than}
use Rattle.daggy_base.proofs.Lists.{contains_mem}
use Rattle.daggy_base.proofs.OutEdgesRead.{read_part}
use Rattle.daggy_base.proofs.EdgesFrom.{edges_few, lists_length}
use Rattle.daggy_base.proofs.PathEnds.{reached_exists}
use Rattle.daggy_search.specs.Work.{Work}
use Rattle.daggy_search.proofs.SearchProgress.{Going, Met, reaches_stays, marked_within, set_marked}
use Rattle.daggy_search.proofs.SearchState.{Start, Reading, Searching, all_met_here, from_marked, only_reached}
use Rattle.daggy_search.proofs.SearchState.{child_found}
use Rattle.daggy_order.proofs.WaitingNodes.{members_in, once_in}

-- the marked numbers, in a list
pub record Finding (marks : List Bool) (found : List ℕ) (count : ℕ) : Type 0 where
  pub once : Unique (take count found)
  pub exact : (n : ℕ) → (get_or marks n false ≡ true) ↔ Mem n (take count found)
  pub fits : count ≤ length marks

pub finds_first : (marks : List Bool) (found : List ℕ) {n k m : ℕ}
    → ((i : ℕ) → get_or marks i false ≡ false) → n < length marks → length marks ≤ length found → k ≡ n → m ≡ n
    → Finding (set marks k true) (set found 0 m) 1
finds_first marks found {n} {k} {m} clear low capacity is is' =
    let some : 0 < length found = omega (arith, low, capacity) in
    let one : take 1 (set found 0 m) ≡ m ∷ [] = take_more_set found 0 m some in
    let U : List ℕ → Type 0 = λ z. Unique z in
    record {
      once = subst U (sym one) (λ h. h, tt);
      exact = λ i. (
        λ h. elim ((set_marked marks k i (omega (arith, low, is))).0 h) [
          | inl e ↦ (let M : List ℕ → Type 0 = λ z. Mem i z in subst M (sym one) (inl (e ∙ (is ∙ sym is'))))
          | inr old ↦ absurd (false≢true (sym (clear i) ∙ old))
        ],
        λ h. (
            let M : List ℕ → Type 0 = λ z. Mem i z in
            elim (subst M one h) [
              | inl e ↦ (set_marked marks k i (omega (arith, low, is))).1 (inl (e ∙ (is' ∙ sym is)))
              | inr none ↦ absurd none
            ]
            ),
      );
      fits = omega (arith, low, length-set marks k true);
    }

module _ {marks : List Bool} {found : List ℕ} {count : ℕ} (s : Finding marks found count)
    (capacity : length marks ≤ length found) (v : ℕ) (low : v < length marks) (unseen : get_or marks v false ≡ false) where
  new_found : Mem v (take count found) → ⊥
  new_found m = false≢true (sym unseen ∙ (s.exact v).1 m)

  pub finds_room : count < length marks
  finds_room =
      let long : length (take count found) ≡ count = length-take-le count found (omega (arith, s.fits, capacity)) in
      let few = fewer_than (v ∷ take count found) (length marks) (new_found, s.once) (λ x m.
      elim m [
        | inl e ↦ omega (arith, e, low)
        | inr b ↦ marked_within marks x ((s.exact x).1 b)
      ]) in
      omega (arith, few, long)

  pub finds_more : (k m : ℕ) → k ≡ v → m ≡ v → Finding (set marks k true) (set found count m) (count + 1)
  finds_more k m is is' =
      let room = finds_room in
      let more : take (count + 1) (set found count m) ≡ take count found ++ m ∷ [] =
      take_more_set found count m (omega (arith, room, capacity)) in
      let U : List ℕ → Type 0 = λ z. Unique z in
      record {
        once = subst U (sym more) (unique_append (take count found) (m ∷ []) s.once (λ h. h, tt) (λ x a b. elim b [
          | inl e ↦ new_found (let M : ℕ → Type 0 = λ z. Mem z (take count found) in subst M (e ∙ is') a)
          | inr none ↦ none
        ]));
        exact = λ i. (
          λ h. (
              let M : List ℕ → Type 0 = λ z. Mem i z in
              subst M (sym more) (elim ((set_marked marks k i (omega (arith, low, is))).0 h) [
                | inl e ↦ mem_right (take count found) (m ∷ []) i (inl (e ∙ (is ∙ sym is')))
                | inr old ↦ mem_left (take count found) (m ∷ []) i ((s.exact i).0 old)
              ])
              ),
          λ h. (
              let M : List ℕ → Type 0 = λ z. Mem i z in
              elim (mem_cases (take count found) (m ∷ []) i (subst M more h)) [
                | inl a ↦ (set_marked marks k i (omega (arith, low, is))).1 (inr ((s.exact i).1 a))
                | inr b ↦ elim b [
                  | inl e ↦ (set_marked marks k i (omega (arith, low, is))).1 (inl (e ∙ (is' ∙ sym is)))
                  | inr none ↦ absurd none
                ]
              ]
              ),
        );
        fits = omega (arith, room, length-set marks k true);
      }

-- only one is found, and read
pub none_waits : (found : List ℕ) → drop 1 (take 1 found) ≡ []
none_waits [] = refl
none_waits (x ∷ xs) = refl

-- of the numbers found so far, those from `head` on wait to be read
pub first_waits : (found : List ℕ) {head count u : ℕ}
    → head < count → count ≤ length found → u ≡ get_or found head u
    → drop head (take count found) ≡ u ∷ drop (head + 1) (take count found)
first_waits found {head} {count} {u} low within is =
    drop_more (take count found) head u (omega (arith, low, length-take-le count found within))
    ∙ ap (λ z. z ∷ drop (head + 1) (take count found)) (get_or-take count found head u low ∙ sym is)

pub one_waits : (found : List ℕ) {head count : ℕ} (v : ℕ) → head ≤ count → count < length found
    → drop head (take (count + 1) (set found count v)) ≡ drop head (take count found) ++ v ∷ []
one_waits found {head} {count} v low within =
    ap (drop head) (take_more_set found count v within)
    ∙ drop-append-le head (take count found) (v ∷ [])
    (omega (arith, low, length-take-le count found (omega (arith, within))))

-- what is entered, and what is passed over
abbrev pub Below : (positions : List ℕ) → (limit : ℕ) → ℕ → Type 0
Below positions limit n = get_or positions n 0 < limit

abbrev pub Beyond : (positions : List ℕ) → (limit to : ℕ) → ℕ → Type 0
Beyond positions limit to n = (limit ≤ get_or positions n 0) × (n ≢ to)

abbrev pub SearchingBelow : {N E : Type 0} → (end : ℕ) → (positions : List ℕ) → (limit to : ℕ) → Start N E
    → Reading N E → Type 0
SearchingBelow end positions limit to = Searching end (Below positions limit) (Beyond positions limit to)

module _ {N E : Type 0} {end : ℕ} {start : Start N E} {now : Reading N E} (w : IsWellFormed end start.graph)
    (positions : List ℕ) (limit : ℕ) {Skip : ℕ → Type 0}
    (ascending : (u v : ℕ) → AreJoined start.graph u v → get_or positions u 0 < get_or positions v 0)
    (s : Searching end (Below positions limit) Skip start now) where
  -- what is reached stands no earlier
  pub later : (n : ℕ) → Reaches start.graph start.from n → get_or positions start.from 0 ≤ get_or positions n 0
  later n r =
      let P : ℕ → Type 0 = λ z. get_or positions start.from 0 ≤ get_or positions z 0 in
      reaches_stays start.graph P (λ u v h j. omega (arith, h, ascending u v j)) start.from n r (omega arith)

  pub child_placed : ((n : ℕ) → HasNode start.graph n → n < length positions) → now.edge ≢ end → {v next : ℕ}
      → IsLook end now.graph now.edge v next → v < length positions
  child_placed placed here {v} look =
      placed v (reached_exists start.graph start.from v (child_found w s here look))

  -- the count of looks
  module _ (ns : List ℕ) (all : (n : ℕ) → HasNode start.graph n
      → get_or positions start.from 0 ≤ get_or positions n 0 → get_or positions n 0 < limit → Contains ns n) where
    few_reads : length (out_list start.graph s.going.at) + edges_from start.graph s.going.done
        ≤ edges_from start.graph ns
    few_reads =
        edges_few start.graph (s.going.at ∷ s.going.done) ns
        (unique_right now.waiting (s.going.at ∷ s.going.done) s.going.once) (λ x m.
        let here =
        only_reached w s x
        ((s.going.marked x).1 (mem_right now.waiting (s.going.at ∷ s.going.done) x m)) in
        contains_mem ns x (all x (reached_exists start.graph start.from x here.0) (later x here.0) here.1))

    pub few_below : now.looks ≤ start.looks + edges_from start.graph ns
    few_below =
        omega (
          arith,
          few_reads,
          s.counted,
          s.going.counted,
          s.going.within,
          lists_length start.graph s.going.done,
        )

    pub looked_below : now.edge ≢ end → {looks' : ℕ}
        → looks' ≡ now.looks + 1 → looks' ≤ start.looks + edges_from start.graph ns
    looked_below here one_more =
        omega (
          arith,
          few_reads,
          s.counted,
          s.going.counted,
          lists_length start.graph s.going.done,
          (read_part end start.graph w s.going.at s.going.passed now.edge s.going.cursor here).0,
        )

-- the search has come to its end and has not met `to`, which stands at the limit
pub record IsOver {N E : Type 0} (end : ℕ) (start : Start N E) (now : Reading N E) (positions : List ℕ) (limit to : ℕ)
    : Type 0 where
  pub ascending : (u v : ℕ) → AreJoined start.graph u v → get_or positions u 0 < get_or positions v 0
  pub so_far : SearchingBelow end positions limit to start now
  pub ended : now.edge ≡ end
  pub empty : now.waiting ≡ []
  pub limit_is : get_or positions to 0 ≡ limit

module _ {N E : Type 0} {end : ℕ} {start : Start N E} {now : Reading N E} (w : IsWellFormed end start.graph)
    {positions : List ℕ} {limit to : ℕ} (over : IsOver end start now positions limit to) where
  met : (n : ℕ) → Reaches start.graph start.from n → Met now.work.entered (Beyond positions limit to) n
  met n r =
      let P : ℕ → Type 0 = λ z. Met now.work.entered (Beyond positions limit to) z in
      reaches_stays start.graph P (λ u v m j.
      let up = over.ascending u v j in
      elim m [
        | inl here ↦ all_met_here w over.so_far over.ended over.empty u v here j
        | inr past ↦ inr (
          omega (arith, past.0),
          λ eq.
              let low : limit ≤ get_or positions u 0 = past.0 in
              let same : get_or positions v 0 ≡ limit = ap (λ z. get_or positions z 0) eq ∙ over.limit_is in
              absurd (omega arith),
        )
      ]) start.from n r (inl (from_marked w over.so_far))

  pub missed : Reaches start.graph start.from to → ⊥
  missed r =
      elim (met to r) [
        | inl m ↦
            let low : get_or positions to 0 < limit = (only_reached w over.so_far to m).1 in
            let at : get_or positions to 0 ≡ limit = over.limit_is in
            absurd (omega arith)
        | inr past ↦ past.1 refl
      ]

  pub exactly : (n : ℕ)
      → (get_or now.work.entered n false ≡ true) ↔ (Reaches start.graph start.from n × (get_or positions n 0 < limit))
  exactly n = (
    λ m. only_reached w over.so_far n m,
    λ r. elim (met n r.0) [
      | inl m ↦ m
      | inr past ↦ let low : limit ≤ get_or positions n 0 = past.0 in
          let high : get_or positions n 0 < limit = r.1 in absurd (omega arith)
    ],
  )

-- a node that is found, and the nodes found in any order
pub finds_put : {marks : List Bool} {found : List ℕ} {count : ℕ} → Finding marks found count → length marks ≤ length found
    → (v : ℕ) → v < length marks → get_or marks v false ≡ false → {k m : ℕ} → k ≡ v → m ≡ v
    → {marks' : List Bool} → marks' ≡ set marks k true → {found' : List ℕ}
    → IsPermutation (m ∷ take count found) (take (count + 1) found') → Finding marks' found' (count + 1)
finds_put {marks} {found} {count} s capacity v low unseen {k} {m} is is' {marks'} marked {found'} perm =
    let more = finds_more s capacity v low unseen k m is is' in
    let was : take (count + 1) (set found count m) ≡ take count found ++ m ∷ [] =
    take_more_set found count m (omega (arith, finds_room s capacity v low unseen, capacity)) in
    let P : List ℕ → Type 0 = λ z. IsPermutation z (take (count + 1) found') in
    let same : IsPermutation (take (count + 1) (set found count m)) (take (count + 1) found') =
    subst P (sym was) (IsPermutation-trans (take count found ++ m ∷ []) (m ∷ take count found) (take (count + 1) found')
    (IsPermutation-to_front (take count found) m) perm) in
    let back = IsPermutation-sym (take (count + 1) (set found count m)) (take (count + 1) found') same in
    let F : List Bool → Type 0 = λ z. Finding z found' (count + 1) in
    subst F (sym marked) record {
      once = once_in (take (count + 1) (set found count m)) (take (count + 1) found') same more.once;
      exact = λ n. (
        λ h. members_in (take (count + 1) (set found count m)) (take (count + 1) found') same n ((more.exact n).0 h),
        λ h. (more.exact n).1 (members_in (take (count + 1) found') (take (count + 1) (set found count m)) back n h),
      );
      fits = more.fits;
    }

-- the nodes that wait, and those found, in any order
pub rearranged : {N E : Type 0} {end : ℕ} {Keep Skip : ℕ → Type 0} {start : Start N E} {now : Reading N E}
    → Searching end Keep Skip start now → {work : Work} → work ≡ record now.work { nodes = work.nodes }
    → length work.nodes ≡ length now.work.nodes → {waiting : List ℕ} → IsPermutation now.waiting waiting
    → Searching end Keep Skip start record now { work = work; waiting = waiting }
rearranged {N} {E} {end} {Keep} {Skip} {start} {now} s {work} is long {waiting} perm =
    let rest = s.going.at ∷ s.going.done in
    let all : IsPermutation (now.waiting ++ rest) (waiting ++ rest) =
    IsPermutation-append_left rest now.waiting waiting perm in
    let into : (n : ℕ) → Mem n (now.waiting ++ rest) → Mem n (waiting ++ rest) =
    members_in (now.waiting ++ rest) (waiting ++ rest) all in
    let out : (n : ℕ) → Mem n (waiting ++ rest) → Mem n (now.waiting ++ rest) =
    members_in (waiting ++ rest) (now.waiting ++ rest) (IsPermutation-sym (now.waiting ++ rest) (waiting ++ rest) all) in
    let G : List Bool → Type 0 = λ z. Going end start.graph Keep Skip start.from z waiting now.edge s.looked in
    let marks : work.entered ≡ now.work.entered = ap (λ (w : Work). w.entered) is in
    record {
      same = s.same;
      sized = record {
        size_is = ap (λ (w : Work). w.size) is ∙ s.sized.size_is;
        entered_are = ap (λ (w : Work). length w.entered) is ∙ s.sized.entered_are;
        marked_are = ap (λ (w : Work). length w.marked) is ∙ s.sized.marked_are;
        nodes_are = long ∙ s.sized.nodes_are;
        cursors_are = ap (λ (w : Work). length w.cursors) is ∙ s.sized.cursors_are;
        small = s.sized.small;
      };
      fits = s.fits;
      looked = s.looked;
      counted = s.counted;
      going = subst G (sym marks) record {
        at = s.going.at;
        passed = s.going.passed;
        done = s.going.done;
        cursor = s.going.cursor;
        within = s.going.within;
        once = once_in (now.waiting ++ rest) (waiting ++ rest) all s.going.once;
        marked = λ n. (λ h. into n ((s.going.marked n).0 h), λ m. (s.going.marked n).1 (out n m));
        reached = λ n m. s.going.reached n (out n m);
        start = into start.from s.going.start;
        kept = λ n m. s.going.kept n (out n m);
        closed = s.going.closed;
        half = s.going.half;
        counted = s.going.counted;
      };
    }
