-- Steps of a walk depth first.
use Rattle.std.proofs.Common.{◌≡◌, ℕ, ◌≤◌, Bool, true, false, cond, inl, inr, Option, Some, None, List, [], ◌∷◌, ◌++◌}
use Rattle.std.proofs.Common.{length, refl, sym, ap, subst, ◌∙◌, arith, append_assoc, Contains, ◌↔◌}
use Rattle.std.specs.Prelude.{IsNone, IfNone, IfSome}
use Rattle.std.specs.Option.{option_map}
use Rattle.std.proofs.lemmas.Bool.{false≢true}
use Rattle.std.proofs.lemmas.List.{append-nil}
use Rattle.daggy_base.specs.declared.index.Direction.{Direction}
use Rattle.daggy_base.specs.Graph.{Graph, HasNode, node_bound, list_at}
use Rattle.daggy_base.specs.Cursor.{first_of}
use Rattle.daggy_base.specs.WellFormed.{IsWellFormed, AreDistinct}
use Rattle.daggy_base.proofs.Lists.{Mem, Unique, mem_contains, contains_mem, mem_left, mem_right, mem_cases, unique_mid}
use Rattle.daggy_base.proofs.Lists.{unique_from_distinct, distinct_from_unique}
use Rattle.daggy_traversal.specs.Traversal.{LeadsFar, neighbors, begin, first_new, without_old, AreAllGiven}
use Rattle.daggy_traversal.specs.Traversal.{neighbors_of, are_found}
use Rattle.daggy_traversal.proofs.Found.{found_push, found_far, given_few, neighbors_of_has}
use Rattle.daggy_traversal.proofs.Members.{distinct_unique, unique_distinct}
use Rattle.daggy_traversal.specs.Depth.{Depth, IsDepthFirst, neighbors_back, next_in_depth, ahead}
use Rattle.daggy_traversal.proofs.Begin.{begin_here, begin_none, begin_only, node_or_not}
use Rattle.daggy_traversal.proofs.Edges.{neighbor_leads, leads_neighbor, left_first}
use Rattle.daggy_traversal.proofs.Fresh.{first_in}
use Rattle.daggy_traversal.proofs.Others.{others_old, others_append, others_first, others_still, new_is, none_new}
use Rattle.daggy_traversal.proofs.Reaching.{leads_farther, leads_nowhere, leads_within, start_exists}

neighbors_back_push : {N E : Type 0} (dir : Direction) (g : Graph N E) (ns : List ℕ) (n : ℕ)
    → neighbors_back dir g (ns ++ n ∷ []) ≡ neighbors dir g n ++ neighbors_back dir g ns
neighbors_back_push dir g [] n = sym (append-nil (neighbors dir g n))
neighbors_back_push dir g (m ∷ ns) n =
    ap (λ z. z ++ neighbors dir g m) (neighbors_back_push dir g ns n)
    ∙ append_assoc (neighbors dir g n) (neighbors_back dir g ns) (neighbors dir g m)

neighbors_back_has : {N E : Type 0} (dir : Direction) (g : Graph N E) (ns : List ℕ) (u v : ℕ)
    → Mem u ns → Mem v (neighbors dir g u) → Mem v (neighbors_back dir g ns)
neighbors_back_has dir g [] u v m n = absurd m
neighbors_back_has dir g (x ∷ ns) u v m n =
    elim m [
      | inl same ↦ mem_right (neighbors_back dir g ns) (neighbors dir g x) v
          (let P : ℕ → Type 0 = λ z. Mem v (neighbors dir g z) in subst P same n)
      | inr there ↦ mem_left (neighbors_back dir g ns) (neighbors dir g x) v (neighbors_back_has dir g ns u v there n)
    ]

neighbors_back_of : {N E : Type 0} (dir : Direction) (g : Graph N E) (ns : List ℕ) (v : ℕ)
    → Mem v (neighbors_back dir g ns) → (u : ℕ) × Mem u ns × Mem v (neighbors dir g u)
neighbors_back_of dir g [] v m = absurd m
neighbors_back_of dir g (x ∷ ns) v m =
    elim (mem_cases (neighbors_back dir g ns) (neighbors dir g x) v m) [
      | inl before ↦ (let r = neighbors_back_of dir g ns v before in (r.0, inr r.1, r.2))
      | inr here ↦ (x, inl refl, here)
    ]

-- What the cursors leave of the neighbors of the given nodes are all those that were not given; and those that were are
-- reached.
pub record Dives {N E : Type 0} (g : Graph N E) (walk : Depth) : Type 0 where
  pub left : without_old walk.given (ahead walk.dir g walk.cursors ++ cond walk.waits (walk.start ∷ []) [])
      ≡ without_old walk.given (neighbors_back walk.dir g walk.given ++ begin g walk.start)
  pub once : AreDistinct walk.given
  pub reached : (n : ℕ) → Contains walk.given n → LeadsFar walk.dir g walk.start n
  pub first : walk.waits ≡ true → HasNode g walk.start × (walk.given ≡ []) × (walk.cursors ≡ [])
  pub few : length walk.cursors ≤ length walk.given
  pub room : node_bound g ≤ walk.bound

-- the start, if it is still to come
abbrev pub pending : (waits : Bool) (start : ℕ) → List ℕ
pending waits start = cond waits (start ∷ []) []

pub none_pending : (waits : Bool) (start : ℕ) (xs : List ℕ) → waits ≡ false → xs ++ pending waits start ≡ xs
none_pending waits start xs h = ap (λ b. xs ++ pending b start) h ∙ append-nil xs

-- a walk that is under way
module _ {N E : Type 0} {end : ℕ} {g : Graph N E} (w : IsWellFormed end g) {d : Depth} (s : Dives g d) where
  depth_next : next_in_depth g d.dir d.start d.given
      ≡ first_new d.given (ahead d.dir g d.cursors ++ pending d.waits d.start)
  depth_next =
      others_first d.given (neighbors_back d.dir g d.given ++ begin g d.start)
      ∙ (ap first_in (sym s.left)
      ∙ sym (others_first d.given (ahead d.dir g d.cursors ++ pending d.waits d.start)))

  pub next_of_cursors : d.waits ≡ false
      → next_in_depth g d.dir d.start d.given ≡ first_new d.given (ahead d.dir g d.cursors)
  next_of_cursors h =
      depth_next ∙ ap (λ z. first_new d.given z) (none_pending d.waits d.start (ahead d.dir g d.cursors) h)

  pub next_is_start : d.waits ≡ true → next_in_depth g d.dir d.start d.given ≡ Some d.start
  next_is_start h =
      let f = s.first h in
      depth_next
      ∙ (ap (λ z. first_new z (ahead d.dir g d.cursors ++ pending d.waits d.start)) f.1
      ∙ (ap (λ z. first_new [] (ahead d.dir g z ++ pending d.waits d.start)) f.2
      ∙ ap (λ b. first_new [] (pending b d.start)) h))

  pub depth_over : next_in_depth g d.dir d.start d.given ≡ None → AreAllGiven g d.dir d.start d.given
  depth_over none n far =
      let P : ℕ → Type 0 = λ z. Mem z d.given in
      let Q : List ℕ → Type 0 = λ z. Mem d.start z in
      let all : (x : ℕ) → Mem x (neighbors_back d.dir g d.given ++ begin g d.start) → Mem x d.given = λ x m.
      none_new d.given (neighbors_back d.dir g d.given ++ begin g d.start) x none m in
      mem_contains d.given n (leads_within g d.dir P (λ u v m leads. all v
      (mem_left (neighbors_back d.dir g d.given) (begin g d.start) v
      (neighbors_back_has d.dir g d.given u v m (leads_neighbor w d.dir u v leads)))) d.start n far
      (all d.start (mem_right (neighbors_back d.dir g d.given) (begin g d.start) d.start
      (subst Q (sym (begin_here g d.start (start_exists g d.dir d.start n far))) (inl refl)))))

  -- n comes next
  module _ (n : ℕ) (next : next_in_depth g d.dir d.start d.given ≡ Some n) where
    pub depth_far : LeadsFar d.dir g d.start n
    depth_far =
        let m = (new_is d.given (neighbors_back d.dir g d.given ++ begin g d.start) n next).0 in
        elim (mem_cases (neighbors_back d.dir g d.given) (begin g d.start) n m) [
          | inl later ↦ (
              let r = neighbors_back_of d.dir g d.given n later in
              leads_farther w d.dir d.start r.0 n (s.reached r.0 (mem_contains d.given r.0 r.1))
              (neighbor_leads w d.dir r.0 n r.2)
              )
          | inr first ↦ (
              let o = begin_only g d.start n first in
              let P : ℕ → Type 0 = λ z. LeadsFar d.dir g d.start z in
              subst P (sym o.0) (leads_nowhere g d.dir d.start o.1)
              )
        ]

    pub depth_once : Contains d.given n → ⊥
    depth_once c =
        (new_is d.given (neighbors_back d.dir g d.given ++ begin g d.start) n next).1 (contains_mem d.given n c)

    pub depth_left : AreAllGiven g d.dir d.start d.given → ⊥
    depth_left all = depth_once (all n depth_far)

    -- the walk after it gave n
    pub depth_on : {d' : Depth} → d'.start ≡ d.start → d'.dir ≡ d.dir → d'.bound ≡ d.bound → d'.waits ≡ false
        → d'.given ≡ d.given ++ n ∷ [] → length d'.cursors ≤ length d'.given
        → without_old d'.given (ahead d.dir g d'.cursors)
        ≡ without_old d'.given (neighbors d.dir g n ++ (ahead d.dir g d.cursors ++ pending d.waits d.start))
        → Dives g d'
    depth_on {d'} same_start same_dir same_bound over gave few left =
        let more = d.given ++ n ∷ [] in
        let before = neighbors_back d.dir g d.given ++ begin g d.start in
        let cursors = ahead d.dir g d.cursors ++ pending d.waits d.start in
        let P : List ℕ → Type 0 = λ z. without_old z (ahead d.dir g d'.cursors)
        ≡ without_old z (neighbors d.dir g n ++ cursors) in
        let now : without_old more (ahead d.dir g d'.cursors) ≡ without_old more (neighbors d.dir g n ++ before) =
        subst P gave left
        ∙ (others_append more (neighbors d.dir g n) cursors
        ∙ (ap (λ z. without_old more (neighbors d.dir g n) ++ z) (others_still d.given (n ∷ []) cursors before s.left)
        ∙ sym (others_append more (neighbors d.dir g n) before))) in
        let all : neighbors_back d.dir g more ++ begin g d.start ≡ neighbors d.dir g n ++ before =
        ap (λ z. z ++ begin g d.start) (neighbors_back_push d.dir g d.given n)
        ∙ append_assoc (neighbors d.dir g n) (neighbors_back d.dir g d.given) (begin g d.start) in
        let R : List ℕ → Type 0 = λ z. (x : ℕ) → Mem x z → LeadsFar d.dir g d.start x in
        let reached : R d'.given = subst R (sym gave) (λ x m. elim (mem_cases d.given (n ∷ []) x m) [
          | inl old ↦ s.reached x (mem_contains d.given x old)
          | inr new ↦ elim new [
            | inl same ↦ (let Q : ℕ → Type 0 = λ z. LeadsFar d.dir g d.start z in subst Q (sym same) depth_far)
            | inr none ↦ absurd none
          ]
        ]) in
        let U : List ℕ → Type 0 = λ z. Unique z in
        let M : List ℕ → Type 0 = λ z. Mem n z → ⊥ in
        let once : Unique more = unique_mid d.given [] n
        (subst U (sym (append-nil d.given)) (unique_from_distinct d.given s.once))
        (subst M (sym (append-nil d.given)) (λ m. depth_once (mem_contains d.given n m))) in
        let L : List ℕ → ℕ → Direction → Type 0 = λ z a dir. without_old z (ahead dir g d'.cursors ++ pending d'.waits a)
        ≡ without_old z (neighbors_back dir g z ++ begin g a) in
        let F : ℕ → Direction → Type 0 = λ a dir. (x : ℕ) → Contains d'.given x → LeadsFar dir g a x in
        let to : (Q : ℕ → Direction → Type 0) → Q d.start d.dir → Q d'.start d'.dir = λ Q q.
        subst (Q d'.start) (sym same_dir) (subst (λ (a : ℕ). Q a d.dir) (sym same_start) q) in
        record {
          left = to (L d'.given) (subst (λ (z : List ℕ). L z d.start d.dir) (sym gave)
              (ap (λ z. without_old more z) (none_pending d'.waits d.start (ahead d.dir g d'.cursors) over)
              ∙ (now ∙ ap (λ z. without_old more z) (sym all))));
          once = distinct_from_unique d'.given (subst U (sym gave) once);
          reached = to F (λ x c. reached x (contains_mem d'.given x c));
          first = λ h. absurd (false≢true (sym over ∙ h));
          few = few;
          room = omega (arith, s.room, same_bound);
        }

  -- what is left once the start was given
  pub start_left : d.waits ≡ true → {given' cursors' : List ℕ} {e f x : ℕ} → given' ≡ d.given ++ x ∷ [] → x ≡ d.start
      → cursors' ≡ d.cursors ++ e ∷ [] → e ≡ f → f ≡ first_of end (list_at d.dir g d.start)
      → without_old given' (ahead d.dir g cursors')
      ≡ without_old given' (neighbors d.dir g d.start ++ (ahead d.dir g d.cursors ++ pending d.waits d.start))
  start_left h {given'} {cursors'} {e} {f} {x} gave x_is entered e_is f_is =
      let first = s.first h in
      let one : given' ≡ d.start ∷ [] = gave ∙ (ap (λ z. z ++ x ∷ []) first.1 ∙ ap (λ z. z ∷ []) x_is) in
      let cursor : cursors' ≡ e ∷ [] = entered ∙ ap (λ z. z ++ e ∷ []) first.2 in
      let here : ahead d.dir g cursors' ≡ neighbors d.dir g d.start =
      ap (λ z. ahead d.dir g z) cursor ∙ left_first w d.dir d.start e (e_is ∙ f_is) in
      let rest : ahead d.dir g d.cursors ++ pending d.waits d.start ≡ d.start ∷ [] =
      ap (λ z. ahead d.dir g z ++ pending d.waits d.start) first.2 ∙ ap (λ b. pending b d.start) h in
      let all = neighbors d.dir g d.start in
      ap (λ z. without_old z (ahead d.dir g cursors')) one
      ∙ (ap (λ z. without_old (d.start ∷ []) z) here
      ∙ (sym (append-nil (without_old (d.start ∷ []) all))
      ∙ (ap (λ z. without_old (d.start ∷ []) all ++ z) (sym (others_old (d.start ∷ []) [] d.start (inl refl)))
      ∙ (sym (others_append (d.start ∷ []) all (d.start ∷ []))
      ∙ (ap (λ z. without_old (d.start ∷ []) (all ++ z)) (sym rest)
      ∙ ap (λ z. without_old z (all ++ (ahead d.dir g d.cursors ++ pending d.waits d.start))) (sym one))))))

-- a walk that begins
pub depth_begins : {N E : Type 0} (g : Graph N E) {d : Depth} → d.given ≡ [] → d.cursors ≡ []
    → (d.waits ≡ true → HasNode g d.start) → (HasNode g d.start → d.waits ≡ true) → node_bound g ≤ d.bound
    → Dives g d
depth_begins g {d} none empty there waits room =
    let start_is : pending d.waits d.start ≡ begin g d.start = elim (node_or_not g d.start) [
      | inl exists ↦ ap (λ b. pending b d.start) (waits exists) ∙ sym (begin_here g d.start exists)
      | inr missing ↦
          ap (λ b. pending b d.start) (is_false d.waits (λ h. missing (there h)))
          ∙ sym (begin_none g d.start missing)
    ] in
    let R : List ℕ → Type 0 = λ z. (x : ℕ) → Contains z x → LeadsFar d.dir g d.start x in
    let U : List ℕ → Type 0 = λ z. Unique z in
    record {
      left =
          ap (λ z. without_old d.given (ahead d.dir g z ++ pending d.waits d.start)) empty
          ∙ (ap (λ z. without_old d.given z) start_is
          ∙ ap (λ z. without_old d.given (neighbors_back d.dir g z ++ begin g d.start)) (sym none));
      once = distinct_from_unique d.given (subst U (sym none) tt);
      reached = subst R (sym none) (λ x c. absurd (contains_mem [] x c));
      first = λ h. (there h, none, empty);
      few = omega (arith, ap (λ z. length z) none, ap (λ z. length z) empty);
      room = room;
    }
  where
    is_false : (b : Bool) → (b ≡ true → ⊥) → b ≡ false
    is_false true none = absurd (none refl)
    is_false false none = refl

pub nothing_in : (xs : List ℕ) → first_in xs ≡ None → xs ≡ []
nothing_in [] h = refl
nothing_in (x ∷ xs) h = cc

-- a step by the cursors, which gives a node if there is one
module _ {N E : Type 0} {end : ℕ} {g : Graph N E} (w : IsWellFormed end g) {d : Depth} (s : Dives g d)
    (begun : d.waits ≡ false) {A : Type 0} (number : A → ℕ) where
  pub step_next : (o : Option A) → option_map number o ≡ first_new d.given (ahead d.dir g d.cursors)
      → option_map number o ≡ next_in_depth g d.dir d.start d.given
  step_next o h = h ∙ sym (next_of_cursors w s begun)

  pub step_far : (o : Option A) → option_map number o ≡ first_new d.given (ahead d.dir g d.cursors)
      → IfSome o (λ a. LeadsFar d.dir g d.start (number a))
  step_far None h = tt
  step_far (Some a) h = depth_far w s (number a) (sym (step_next (Some a) h))

  pub step_once : (o : Option A) → option_map number o ≡ first_new d.given (ahead d.dir g d.cursors)
      → IfSome o (λ a. Contains d.given (number a) → ⊥)
  step_once None h = tt
  step_once (Some a) h = depth_once w s (number a) (sym (step_next (Some a) h))

  pub step_none : (o : Option A) → option_map number o ≡ first_new d.given (ahead d.dir g d.cursors)
      → IsNone o ↔ AreAllGiven g d.dir d.start d.given
  step_none None h = (λ _. depth_over w s (sym (step_next None h)), λ _. refl)
  step_none (Some a) h = (
    λ none. absurd (false≢true (sym none)),
    λ all. absurd (depth_left w s (number a) (sym (step_next (Some a) h)) all),
  )

  pub step_on : (o : Option A) → option_map number o ≡ first_new d.given (ahead d.dir g d.cursors)
      → (given' cursors' : List ℕ) {bound' : ℕ} → bound' ≡ d.bound
      → IfSome o (λ a. given' ≡ d.given ++ number a ∷ []) → IfNone o (given' ≡ d.given)
      → IfSome o (λ a. without_old given' (ahead d.dir g cursors')
      ≡ without_old given' (neighbors d.dir g (number a) ++ ahead d.dir g d.cursors))
      → IfNone o (cursors' ≡ []) → length cursors' ≤ length given'
      → Dives g record {
        start = d.start;
        dir = d.dir;
        given = given';
        waits = d.waits;
        cursors = cursors';
        bound = bound';
      }
  step_on None h given' cursors' same_bound gave kept left over few =
      let all : without_old d.given (neighbors_back d.dir g d.given ++ begin g d.start) ≡ [] =
      nothing_in (without_old d.given (neighbors_back d.dir g d.given ++ begin g d.start))
      (sym (others_first d.given (neighbors_back d.dir g d.given ++ begin g d.start)) ∙ sym (step_next None h)) in
      let empty : ahead d.dir g cursors' ++ pending d.waits d.start ≡ [] =
      none_pending d.waits d.start (ahead d.dir g cursors') begun ∙ ap (λ z. ahead d.dir g z) over in
      let U : List ℕ → Type 0 = λ z. AreDistinct z in
      let R : List ℕ → Type 0 = λ z. (x : ℕ) → Contains z x → LeadsFar d.dir g d.start x in
      record {
        left =
            ap (λ z. without_old given' z) empty
            ∙ sym (ap (λ z. without_old z (neighbors_back d.dir g z ++ begin g d.start)) kept ∙ all);
        once = subst U (sym kept) s.once;
        reached = subst R (sym kept) s.reached;
        first = λ waits. absurd (false≢true (sym begun ∙ waits));
        few = few;
        room = omega (arith, s.room, same_bound);
      }
  step_on (Some a) h given' cursors' same_bound gave kept left over few =
      let n = number a in
      let cursors = ahead d.dir g d.cursors in
      depth_on w s n (sym (step_next (Some a) h)) refl refl same_bound begun gave few
      (left ∙ ap (λ z. without_old given' (neighbors d.dir g n ++ z)) (sym (none_pending d.waits d.start cursors begun)))

-- what the fields of a walk are seen as
abbrev pub dived : (start : ℕ) (dir : Direction) (given : List ℕ) (waits : Bool) (cursors : List ℕ) (bound : ℕ) → Depth
dived start dir given waits cursors bound =
    record { start = start; dir = dir; given = given; waits = waits; cursors = cursors; bound = bound }

-- a walk that is under way does so
pub dives : {N E : Type 0} {end : ℕ} {g : Graph N E} → IsWellFormed end g → {d : Depth} → IsDepthFirst g d → Dives g d
dives {g = g} w {d} s = record {
  left = s.left;
  once = distinct_from_unique d.given (distinct_unique d.given s.once);
  reached = λ n c. found_far w d.dir d.start [] d.given (λ x m. absurd m) s.found n (contains_mem d.given n c);
  first = s.first;
  few = s.few;
  room = s.room;
}

-- what such a walk keeps
pub depth_kept : {N E : Type 0} {g : Graph N E} {d : Depth} → Dives g d
    → are_found d.dir g d.start [] d.given ≡ true → IsDepthFirst g d
depth_kept {d = d} s found = record {
  left = s.left;
  once = unique_distinct d.given (unique_from_distinct d.given s.once);
  found = found;
  first = s.first;
  few = s.few;
  room = s.room;
}

-- the node that comes next was found
pub next_found : {N E : Type 0} {g : Graph N E} {d : Depth} → IsDepthFirst g d → (n : ℕ)
    → next_in_depth g d.dir d.start d.given ≡ Some n → are_found d.dir g d.start [] (d.given ++ n ∷ []) ≡ true
next_found {g = g} {d = d} s n next =
    let X = begin g d.start in
    let m = (new_is d.given (neighbors_back d.dir g d.given ++ X) n next).0 in
    found_push d.dir g d.start [] d.given n s.found (elim (mem_cases (neighbors_back d.dir g d.given) X n m) [
      | inl later ↦ (
          let r = neighbors_back_of d.dir g d.given n later in
          mem_right X (neighbors_of d.dir g d.given) n (neighbors_of_has d.dir g d.given r.0 n r.1 r.2)
          )
      | inr first ↦ mem_left X (neighbors_of d.dir g d.given) n first
    ])

-- the same of a step, which gives a node if there is one
pub step_found : {N E : Type 0} {g : Graph N E} {d : Depth} → IsDepthFirst g d → {A : Type 0} (number : A → ℕ)
    (o : Option A) → option_map number o ≡ next_in_depth g d.dir d.start d.given → (given' : List ℕ)
    → IfSome o (λ a. given' ≡ d.given ++ number a ∷ []) → IfNone o (given' ≡ d.given)
    → are_found d.dir g d.start [] given' ≡ true
step_found {g = g} {d = d} s number None h given' gave kept =
    let P : List ℕ → Type 0 = λ z. are_found d.dir g d.start [] z ≡ true in subst P (sym kept) s.found
step_found {g = g} {d = d} s number (Some a) h given' gave kept =
    let P : List ℕ → Type 0 = λ z. are_found d.dir g d.start [] z ≡ true in
    subst P (sym gave) (next_found s (number a) (sym h))

pub depth_few : {N E : Type 0} {end : ℕ} {g : Graph N E} → IsWellFormed end g → {d : Depth} → IsDepthFirst g d
    → length d.given ≤ node_bound g
depth_few {g = g} w {d} s =
    let t = dives w s in
    given_few w d.dir d.start d.given (unique_from_distinct d.given t.once) (λ x m.
    t.reached x (mem_contains d.given x m))
