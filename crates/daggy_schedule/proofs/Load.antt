-- How much the workers have done, and how long not all of them were busy.
use Rattle.std.proofs.Common.{◌≡◌, ◌≢◌, ℕ, ◌+◌, ◌-◌, ◌*◌, ◌<◌, ◌≤◌, ◌^◌, ◌↔◌, ◌⊎◌, inl, inr, true, List, [], ◌∷◌, ◌++◌, length}
use Rattle.std.proofs.Common.{get_or, set, refl, sym, ap, subst, arith, IsPermutation}
use Rattle.std.proofs.lemmas.List.{get_or-set_same, get_or-set_other}
use Rattle.std.proofs.lemmas.List.Sums.{sum_by-cons}
use Rattle.std.proofs.lemmas.List.Sorted.{IsPermutation-map, IsPermutation-sym, sum_by_pushed, sum_by_popped, length_permutation}
use Rattle.std.proofs.Math.Nat.{mul-le-mul_left, mul-le-mul_right}
use Rattle.std.specs.List.{AllByRecursion, sum_by}
use Rattle.daggy_base.specs.Graph.{Graph, HasNode}
use Rattle.daggy_base.specs.Path.{AreJoined, IsPath}
use Rattle.daggy_base.specs.Ordered.{IsOrderOf, place}
use Rattle.daggy_base.proofs.Lists.{Mem, Unique, mem_out, split_at, contains_mem, mem_contains}
use Rattle.daggy_schedule.specs.Work.{Work, IsSet, is_among}
use Rattle.daggy_schedule.specs.Times.{span, TakesTooLong, AreFeasible, AreDoneBy, IsCritical}
use Rattle.daggy_schedule.specs.LeastFirst.{nodes_of}
use Rattle.daggy_schedule.specs.Assignments.{IsWithinBound, HasLongBound}
use Rattle.daggy_schedule.proofs.Members.{among_in, among_out}
use Rattle.daggy_schedule.proofs.Ordering.{mem_shuffled}
use Rattle.daggy_schedule.proofs.Shift.{HasBegun, finish}

-- sums of durations
span_split : (d xs ys : List ℕ) (x : ℕ) → span d (xs ++ x ∷ ys) ≡ get_or d x 0 + span d (xs ++ ys)
span_split d [] ys x = refl
span_split d (z ∷ xs) ys x = omega (arith, span_split d xs ys x)

pub span_within : (d xs ys : List ℕ) → Unique xs → ((x : ℕ) → Mem x xs → Mem x ys) → span d xs ≤ span d ys
span_within d [] ys u h = omega arith
span_within d (x ∷ xs) ys u h =
    let p = split_at ys x (h x (inl refl)) in
    let less = span_within d xs (p.0 ++ p.1) u.1 (λ z m.
    let M : List ℕ → Type 0 = λ l. Mem z l in
    elim (mem_out p.0 p.1 x z (subst M p.2 (h z (inr m)))) [
      | inl same ↦ absurd (u.0 (let P : ℕ → Type 0 = λ l. Mem l xs in subst P same m))
      | inr b ↦ b
    ]) in
    omega (arith, less, span_split d p.0 p.1 x, ap (span d) p.2)

-- the nodes of a path differ
module _ {N E : Type 0} {g : Graph N E} {order : List ℕ} (ord : IsOrderOf g order) where
  path_after : (x y : ℕ) (rest : List ℕ) → IsPath g (x ∷ rest) → Mem y rest → place order x < place order y
  path_after x y [] p m = absurd m
  path_after x y (v ∷ rest) p m =
      let step = ord.sorted x v p.1 in
      elim m [
        | inl same ↦ omega (arith, step, ap (place order) same)
        | inr b ↦ omega (arith, step, path_after v y rest p.2 b)
      ]

  path_unique : (path : List ℕ) → IsPath g path → Unique path
  path_unique [] p = tt
  path_unique (x ∷ []) p = (λ m. m, tt)
  path_unique (x ∷ v ∷ rest) p = (
    λ m. (let low = path_after x x (v ∷ rest) p m in omega (arith, low)),
    path_unique (v ∷ rest) p.2,
  )

  path_exists : (path : List ℕ) → IsPath g path → (x : ℕ) → Mem x path → HasNode g x
  path_exists [] p x m = absurd m
  path_exists (y ∷ []) p x m =
      let P : ℕ → Type 0 = λ z. HasNode g z in elim m [ inl e ↦ subst P (sym e) p | inr none ↦ absurd none ]
  path_exists (y ∷ v ∷ rest) p x m =
      let P : ℕ → Type 0 = λ z. HasNode g z in
      elim m [ inl e ↦ subst P (sym e) p.0 | inr b ↦ path_exists (v ∷ rest) p.2 x b ]

one_less : (c i : ℕ) → 0 < c → c * i ≡ (c - 1) * i + i
one_less c i h = let is : c ≡ (c - 1) + 1 = omega (arith, h) in omega (arith, ap (λ z. z * i) is)

pub path_too_long : {N E : Type 0} (g : Graph N E) (d : List ℕ) (count : ℕ) → 0 < count → TakesTooLong g d
    → HasLongBound g d count
path_too_long g d count some t =
    record {
      path = t.0;
      joined = t.1;
      long = λ order ord.
          (let within = span_within d t.0 order (path_unique ord t.0 t.1) (λ x m.
          contains_mem order x ((ord.exact x).1 (path_exists ord t.0 t.1 x m))) in
          let each : count * 2 ^ 64 ≤ count * span d t.0 = mul-le-mul_left count t.2 in
          omega (arith, within, each, one_less count (span d t.0) some));
    }

-- what is left to do of the nodes that are being done
abbrev pub left_of : (now : ℕ) → List (ℕ × ℕ) → ℕ
left_of now ps = sum_by (λ p. p.0 - now) ps

left_later : (now f : ℕ) (ps : List (ℕ × ℕ)) → now ≤ f → AllByRecursion (λ p. f ≤ p.0) ps
    → left_of now ps ≡ left_of f ps + length ps * (f - now)
left_later now f [] low a = omega arith
left_later now f (p ∷ ps) low a =
    let more = left_later now f ps low a.1 in
    omega (
      arith,
      more,
      a.0,
      sum_by-cons (λ (q : ℕ × ℕ). q.0 - now) p ps,
      sum_by-cons (λ (q : ℕ × ℕ). q.0 - f) p ps,
    )

pub record IsLoaded {N E : Type 0} (g : Graph N E) (d est : List ℕ) (count : ℕ) (work : Work)
    (waiting running : List (ℕ × ℕ)) (starts : List ℕ) (now : ℕ) : Type 0 where
  pub begun : List ℕ
  pub idle : ℕ
  pub begun_are : (n : ℕ) → Mem n begun ↔ HasBegun work running n
  pub once : Unique begun
  pub busy : now + left_of now running ≤ span d begun
  pub load : count * now + left_of now running + idle ≤ span d begun + count * idle
  pub ready : (n : ℕ) → is_among work.ready n ≡ true → idle ≤ get_or est n 0
  pub waits : (n : ℕ) → Mem n (nodes_of waiting) → idle ≤ get_or est n 0
  pub runs : (n : ℕ) → Mem n (nodes_of running) → idle + get_or starts n 0 ≤ get_or est n 0 + now
  pub last : (idle ≡ 0) ⊎ ((n : ℕ) × IsSet work.done n × (idle ≤ get_or est n 0 + get_or d n 0))

pub loaded_from : {N E : Type 0} (g : Graph N E) (d est : List ℕ) (count : ℕ) {work : Work} (starts : List ℕ)
    → ((n : ℕ) → IsSet work.out n → ⊥) → ((n : ℕ) → IsSet work.done n → IsSet work.out n)
    → IsLoaded g d est count work [] [] starts 0
loaded_from g d est count {work} starts none begun =
    record {
      begun = [];
      idle = 0;
      begun_are = λ n. (λ m. absurd m, λ b. elim b [ inl b ↦ none n (begun n b) | inr m ↦ m ]);
      once = tt;
      busy = omega arith;
      load = omega arith;
      ready = λ n m. omega arith;
      waits = λ n m. omega arith;
      runs = λ n m. absurd m;
      last = inl refl;
    }

module _ {N E : Type 0} {g : Graph N E} {d est : List ℕ} {count : ℕ} {work : Work} {waiting running : List (ℕ × ℕ)}
    {starts : List ℕ} {now : ℕ} (s : IsLoaded g d est count work waiting running starts now) where
  -- a node is handed out
  pub loaded_wait : (new : Work) (more : List (ℕ × ℕ)) (k n : ℕ) → work.ready ≡ n ∷ new.ready → new.done ≡ work.done
      → IsPermutation ((k, n) ∷ waiting) more → IsLoaded g d est count new more running starts now
  loaded_wait new more k n first dones perm =
      let more_nodes : IsPermutation (n ∷ nodes_of waiting) (nodes_of more) =
      IsPermutation-map (λ p. p.1) ((k, n) ∷ waiting) more perm in
      let was : (m : ℕ) → is_among (n ∷ new.ready) m ≡ true → s.idle ≤ get_or est m 0 = λ m h.
      (let P : List ℕ → Type 0 = λ z. is_among z m ≡ true in s.ready m (subst P (sym first) h)) in
      let was_done : (m : ℕ) → IsSet new.done m → IsSet work.done m = λ m b.
      (let P : List _ → Type 0 = λ z. IsSet z m in subst P dones b) in
      let still_done : (m : ℕ) → IsSet work.done m → IsSet new.done m = λ m b.
      (let P : List _ → Type 0 = λ z. IsSet z m in subst P (sym dones) b) in
      record {
        begun = s.begun;
        idle = s.idle;
        begun_are = λ m. (
          λ h. elim ((s.begun_are m).0 h) [ inl b ↦ inl (still_done m b) | inr r ↦ inr r ],
          λ b. (s.begun_are m).1 (elim b [ inl b ↦ inl (was_done m b) | inr r ↦ inr r ]),
        );
        once = s.once;
        busy = s.busy;
        load = s.load;
        ready = λ m h. was m (later_among n new.ready m h);
        waits = λ m h.
            elim (mem_shuffled (nodes_of more) (n ∷ nodes_of waiting) m (IsPermutation-sym _ _ more_nodes) h) [
              | inl same ↦ was m (first_among n new.ready m same)
              | inr b ↦ s.waits m b
            ];
        runs = s.runs;
        last = elim s.last [ inl none ↦ inl none | inr at ↦ inr (at.0, still_done at.0 at.1, at.2) ];
      }
    where
      first_among : (x : ℕ) (xs : List ℕ) (m : ℕ) → m ≡ x → is_among (x ∷ xs) m ≡ true
      first_among x xs m same = among_in (x ∷ xs) m (mem_contains (x ∷ xs) m (inl same))

      later_among : (x : ℕ) (xs : List ℕ) (m : ℕ) → is_among xs m ≡ true → is_among (x ∷ xs) m ≡ true
      later_among x xs m h =
          among_in (x ∷ xs) m (mem_contains (x ∷ xs) m (inr (contains_mem xs m (among_out xs m h))))

  -- a worker begins a node
  pub loaded_begin : (left more : List (ℕ × ℕ)) (k n f : ℕ) → IsPermutation waiting ((k, n) ∷ left) → f ≡ now + get_or d n 0
      → IsPermutation ((f, n) ∷ running) more → (HasBegun work running n → ⊥) → n < length starts
      → IsLoaded g d est count work left more (set starts n now) now
  loaded_begin left more k n f taken at added unbegun low =
      let taken_nodes : IsPermutation (nodes_of waiting) (n ∷ nodes_of left) =
      IsPermutation-map (λ p. p.1) waiting ((k, n) ∷ left) taken in
      let added_nodes : IsPermutation (n ∷ nodes_of running) (nodes_of more) =
      IsPermutation-map (λ p. p.1) ((f, n) ∷ running) more added in
      let amount : left_of now more ≡ (f - now) + left_of now running =
      sum_by_pushed (λ (p : ℕ × ℕ). p.0 - now) (f, n) running more added in
      record {
        begun = n ∷ s.begun;
        idle = s.idle;
        begun_are = λ m. (
          λ h. elim h [
            | inl same ↦ inr (mem_shuffled (n ∷ nodes_of running) (nodes_of more) m added_nodes (inl same))
            | inr b ↦ elim ((s.begun_are m).0 b) [
              | inl b ↦ inl b
              | inr r ↦ inr (mem_shuffled (n ∷ nodes_of running) (nodes_of more) m added_nodes (inr r))
            ]
          ],
          λ b. elim b [
            | inl b ↦ inr ((s.begun_are m).1 (inl b))
            | inr r ↦
                elim (mem_shuffled (nodes_of more) (n ∷ nodes_of running) m (IsPermutation-sym _ _ added_nodes) r) [
                  | inl same ↦ inl same
                  | inr b ↦ inr ((s.begun_are m).1 (inr b))
                ]
          ],
        );
        once = (λ m. unbegun ((s.begun_are n).0 m), s.once);
        busy = omega (arith, s.busy, amount, at);
        load = omega (arith, s.load, amount, at);
        ready = s.ready;
        waits = λ m h.
            s.waits m (mem_shuffled (n ∷ nodes_of left) (nodes_of waiting) m (IsPermutation-sym _ _ taken_nodes) (inr h));
        runs = λ m r.
            elim (mem_shuffled (nodes_of more) (n ∷ nodes_of running) m (IsPermutation-sym _ _ added_nodes) r) [
              | inl same ↦ (
                  let waited = s.waits n (mem_shuffled (n ∷ nodes_of left) (nodes_of waiting) n
                  (IsPermutation-sym _ _ taken_nodes) (inl refl)) in
                  omega (
                    arith,
                    waited,
                    ap (λ z. get_or (set starts n now) z 0) same,
                    ap (λ z. get_or est z 0) same,
                    get_or-set_same starts n now 0 low,
                  )
                  )
              | inr b ↦ (
                  let other : m ≢ n = λ same. unbegun (inr
                  (let P : ℕ → Type 0 = λ z. Mem z (nodes_of running) in subst P same b)) in
                  omega (arith, s.runs m b, get_or-set_other starts n m now 0 other)
                  )
            ];
        last = s.last;
      }

  -- it would finish too late
  pub begins_too_long : (n : ℕ) → HasNode g n → 2 ^ 64 ≤ now + get_or d n 0 → Mem n (nodes_of waiting)
      → (HasBegun work running n → ⊥) → ((m : ℕ) → HasBegun work running m → HasNode g m) → (path : List ℕ) (longest : ℕ)
      → IsCritical g d path longest → AreDoneBy g d (λ n. get_or est n 0) longest → 0 < count → HasLongBound g d count
  begins_too_long n has long waits unbegun exists path longest critical met some =
      record {
        path = path;
        joined = elim critical.path [ inl p ↦ p | inr none ↦ absurd (none.1 n has) ];
        long = λ order ord.
            (let within = span_within d (n ∷ s.begun) order (λ m. unbegun ((s.begun_are n).0 m), s.once) (λ x m.
            contains_mem order x ((ord.exact x).1 (elim m [
              | inl same ↦ (let P : ℕ → Type 0 = λ z. HasNode g z in subst P (sym same) has)
              | inr b ↦ exists x ((s.begun_are x).0 b)
            ]))) in
            let low : s.idle + get_or d n 0 ≤ longest = omega (arith, s.waits n waits, met n has) in
            let share : (count - 1) * (s.idle + get_or d n 0) ≤ (count - 1) * longest = mul-le-mul_left (count - 1) low in
            let each : count * 2 ^ 64 ≤ count * (now + get_or d n 0) = mul-le-mul_left count long in
            omega (
              arith,
              within,
              s.load,
              share,
              each,
              one_less count s.idle some,
              one_less count (get_or d n 0) some,
              ap (λ z. (count - 1) * z) critical.sum,
            ));
      }

  -- the next node is finished
  module _ (feasible : AreFeasible g d (λ n. get_or est n 0)) (new : Work) (left : List (ℕ × ℕ)) (f n : ℕ)
      (taken : IsPermutation running ((f, n) ∷ left)) (first : AllByRecursion (λ p. f ≤ p.0) left) (later : now ≤ f)
      (at : f ≡ finish d starts n)
      (dones : (m : ℕ) → IsSet new.done m ↔ (IsSet work.done m ⊎ (m ≡ n)))
      (released : (m : ℕ) → is_among new.ready m ≡ true → AreJoined g n m)
      (as_busy : (f ≡ now) ⊎ ((count ≡ length running) ⊎ (waiting ≡ []))) where
    left_nodes : IsPermutation (nodes_of running) (n ∷ nodes_of left)
    left_nodes = IsPermutation-map (λ p. p.1) running ((f, n) ∷ left) taken

    was_running : Mem n (nodes_of running)
    was_running = mem_shuffled (n ∷ nodes_of left) (nodes_of running) n (IsPermutation-sym _ _ left_nodes) (inl refl)

    long : length running ≡ length left + 1
    long = omega (arith, length_permutation running ((f, n) ∷ left) taken)

    -- what was left, by what is left now
    amount : left_of now running ≡ left_of f left + length running * (f - now)
    amount =
        let out = sum_by_popped (λ (p : ℕ × ℕ). p.0 - now) (f, n) running left taken in
        omega (arith, out, left_later now f left later first, ap (λ z. z * (f - now)) long)

    amount_one : left_of f left + (f - now) ≤ left_of now running
    amount_one =
        let some : 1 ≤ length running = omega (arith, long) in
        let once : 1 * (f - now) ≤ length running * (f - now) = mul-le-mul_right (f - now) some in
        omega (arith, amount, once)

    -- how long not all were busy by now
    pub record Idling : Type 0 where
      pub idle : ℕ
      pub load : count * f + left_of f left + idle ≤ span d s.begun + count * idle
      pub waits : (m : ℕ) → Mem m (nodes_of waiting) → idle ≤ get_or est m 0
      pub more : idle ≤ s.idle + (f - now)

    idling : Idling
    idling =
        elim as_busy [
          | inl same ↦ record {
            idle = s.idle;
            load = omega (arith, s.load, amount_one, ap (λ z. count * z) same);
            waits = s.waits;
            more = omega arith;
          }
          | inr b ↦ elim b [
            | inl all ↦ record {
              idle = s.idle;
              load =
                  (let split : f ≡ now + (f - now) = omega (arith, later) in
                  omega (arith, s.load, amount, ap (λ z. z * (f - now)) all, ap (λ z. count * z) split));
              waits = s.waits;
              more = omega arith;
            }
            | inr none ↦ record {
              idle = s.idle + (f - now);
              load =
                  (let split : f ≡ now + (f - now) = omega (arith, later) in
                  omega (arith, s.load, amount_one, ap (λ z. count * z) split));
              waits = λ m h.
                  (let P : List (ℕ × ℕ) → Type 0 = λ z. Mem m (nodes_of z) in absurd (subst P none h));
              more = omega arith;
            }
          ]
        ]

    runs_low : (m : ℕ) → Mem m (nodes_of running) → idling.idle + get_or starts m 0 ≤ get_or est m 0 + f
    runs_low m r = omega (arith, s.runs m r, idling.more, later)

    ended : idling.idle ≤ get_or est n 0 + get_or d n 0
    ended = omega (arith, runs_low n was_running, at)

    pub loaded_finish : IsLoaded g d est count new waiting left starts f
    loaded_finish =
        record {
          begun = s.begun;
          idle = idling.idle;
          begun_are = λ m. (
            λ h. elim ((s.begun_are m).0 h) [
              | inl b ↦ inl ((dones m).1 (inl b))
              | inr r ↦ elim (mem_shuffled (nodes_of running) (n ∷ nodes_of left) m left_nodes r) [
                | inl same ↦ inl ((dones m).1 (inr same))
                | inr b ↦ inr b
              ]
            ],
            λ b. (s.begun_are m).1 (elim b [
              | inl b ↦ elim ((dones m).0 b) [
                | inl a ↦ inl a
                | inr same ↦ (let P : ℕ → Type 0 = λ z. Mem z (nodes_of running) in inr (subst P (sym same) was_running))
              ]
              | inr r ↦ inr (mem_shuffled (n ∷ nodes_of left) (nodes_of running) m (IsPermutation-sym _ _ left_nodes) (inr r))
            ]),
          );
          once = s.once;
          busy = omega (arith, s.busy, amount_one, later);
          load = idling.load;
          ready = λ m h. omega (arith, ended, feasible n m (released m h));
          waits = idling.waits;
          runs = λ m r.
              runs_low m (mem_shuffled (n ∷ nodes_of left) (nodes_of running) m (IsPermutation-sym _ _ left_nodes) (inr r));
          last = inr (n, (dones n).1 (inr refl), ended);
        }

  -- when all is done
  pub loaded_done : ((n : ℕ) → HasNode g n → IsSet work.done n)
      → ((n : ℕ) → IsSet work.done n → HasNode g n) → running ≡ [] → (path : List ℕ) (longest : ℕ) → IsCritical g d path longest
      → AreDoneBy g d (λ n. get_or est n 0) longest → 0 < count → IsWithinBound g d count now
  loaded_done all_done exist none_runs path longest critical met some =
      record {
        path = path;
        longest = longest;
        critical = critical;
        bound = λ order ord.
            (let low : s.idle ≤ longest =
            elim s.last [ inl none ↦ omega (arith, none) | inr at ↦ omega (arith, at.2, met at.0 (exist at.0 at.1)) ] in
            let within = span_within d s.begun order s.once (λ x m.
            contains_mem order x ((ord.exact x).1 (elim ((s.begun_are x).0 m) [
              | inl b ↦ exist x b
              | inr r ↦ (let P : List (ℕ × ℕ) → Type 0 = λ z. Mem x (nodes_of z) in absurd (subst P none_runs r))
            ]))) in
            let share : (count - 1) * s.idle ≤ (count - 1) * longest = mul-le-mul_left (count - 1) low in
            let whole = one_less count s.idle some in
            omega (arith, s.load, within, share, whole));
      }
