-- How far each node is at least from the end of the paths: distances that are set from the last node of an order to the
-- first, each from those of the children.
use Rattle.std.proofs.Common.{◌≡◌, ◌≢◌, ℕ, ◌+◌, ◌<◌, ◌≤◌, inl, inr, List, [], ◌∷◌, ◌++◌, length, get_or, set, Some, Contains}
use Rattle.std.proofs.Common.{refl, sym, ap, subst, ◌∙◌, arith}
use Rattle.std.proofs.lemmas.Bool.{cases_eq}
use Rattle.std.proofs.lemmas.List.{append_assoc, append-nil, get_or-set_same, get_or-set_other, length-set}
use Rattle.std.proofs.lemmas.List.Elements.{Contains-append_right, Contains-append_cases}
use Rattle.daggy_base.specs.declared.index.Direction.TheVariants.{Outgoing}
use Rattle.daggy_base.specs.Cursor.{first_of}
use Rattle.daggy_dag.specs.Walks.{rest_of_walk}
use Rattle.daggy_dag.proofs.WalkSteps.{whole_walk}
use Rattle.daggy_base.specs.Graph.{Graph, Edge, HasNode, edge_at, out_list}
use Rattle.daggy_base.specs.Path.{AreJoined}
use Rattle.daggy_base.specs.Ordered.{IsOrderOf, place}
use Rattle.daggy_base.specs.WellFormed.{IsWellFormed}
use Rattle.daggy_base.proofs.Lists.{Mem, Unique, Contains-nil, Contains-cases, Contains-here, contains_mem, unique_from_distinct, unique_right}
use Rattle.daggy_base.proofs.Sorted.{place_same, place_right, unique_cross}
use Rattle.daggy_operators.specs.SimplePaths.{children_by, paths_within}
use Rattle.daggy_operators.proofs.Ways.{none_within, first_child}

-- a child by the edges of a node is joined to it
module _ {N E : Type 0} {end : ℕ} {g : Graph N E} (w : IsWellFormed end g) where
  pub child_joined : (n : ℕ) (es : List ℕ) → ((e : ℕ) → Contains es e → Contains (out_list g n) e) → (v : ℕ)
      → Contains (children_by g es) v → AreJoined g n v
  child_joined n [] some v c = absurd (Contains-nil v c)
  child_joined n (e ∷ es) some v c =
      let x = (w.out_of.exact n e).0 (some e (Contains-here e es)) in
      let P : List ℕ → Type 0 = λ z. Contains z v in
      elim (Contains-cases x.0.child v (children_by g es) (subst P (first_child g e es x.0 x.1) c)) [
        | inl here ↦ (
          e,
          x.0.weight,
          x.1 ∙ ap (λ z. Some (record { parent = z; child = x.0.child; weight = x.0.weight })) x.2
              ∙ ap (λ z. Some (record { parent = n; child = z; weight = x.0.weight })) here,
        )
        | inr later ↦ child_joined n es (λ f h. some f (Contains-append_right (e ∷ []) es f h)) v later
      ]

-- a number is at most one more than the distance of each child by the edges that were seen
pub record IsNearest {N E : Type 0} (g : Graph N E) (n : ℕ) (distances : List ℕ) (e least : ℕ) : Type 0 where
  pub seen : List ℕ
  pub split : out_list g n ≡ seen ++ rest_of_walk Outgoing g e
  pub near : (d : ℕ) (x : Edge E) → Contains seen d → edge_at g d ≡ Some x → least ≤ get_or distances x.child 0 + 1

module _ {N E : Type 0} {end : ℕ} {g : Graph N E} (w : IsWellFormed end g) (n : ℕ) (distances : List ℕ) where
  pub nearest_none : (e least : ℕ) → e ≡ first_of end (out_list g n) → IsNearest g n distances e least
  nearest_none e least first =
      record {
        seen = [];
        split = sym (ap (rest_of_walk Outgoing g) first ∙ whole_walk end g w Outgoing n);
        near = λ d x c. absurd (Contains-nil d c);
      }

  module _ (e least : ℕ) (s : IsNearest g n distances e least) where
    pub nearest_more : (next : ℕ) (x : Edge E) → edge_at g e ≡ Some x
        → rest_of_walk Outgoing g e ≡ e ∷ rest_of_walk Outgoing g next
        → (least' : ℕ) → least' ≤ least → least' ≤ get_or distances x.child 0 + 1 → IsNearest g n distances next least'
    nearest_more next x at on least' low near =
        record {
          seen = s.seen ++ e ∷ [];
          split = s.split ∙ ap (λ z. s.seen ++ z) on ∙ sym (append_assoc s.seen (e ∷ []) (rest_of_walk Outgoing g next));
          near = λ d y c is. elim (Contains-append_cases s.seen (e ∷ []) d c) [
            | inl before ↦ (let more = s.near d y before is in omega (arith, more, low))
            | inr here ↦ elim (Contains-cases e d [] here) [
              | inr none ↦ absurd (Contains-nil d none)
              | inl same ↦ (
                  let both : Some y ≡ Some x = sym is ∙ ap (λ z. edge_at g z) (sym same) ∙ at in
                  let one : y ≡ x = cc in
                  omega (arith, near, ap (λ (z : Edge E). get_or distances z.child 0) one)
                  )
            ]
          ];
        }

    pub nearest_all : rest_of_walk Outgoing g e ≡ [] → (v : ℕ) → AreJoined g n v → least ≤ get_or distances v 0 + 1
    nearest_all over v j =
        let all : out_list g n ≡ s.seen = s.split ∙ ap (λ z. s.seen ++ z) over ∙ append-nil s.seen in
        let x : Edge E = record { parent = n; child = v; weight = j.1 } in
        let C : List ℕ → Type 0 = λ z. Contains z j.0 in
        s.near j.0 x (subst C all ((w.out_of.exact n j.0).1 (x, j.2, refl))) j.2

-- the distances of the nodes that are done, which are the last of the order
pub record AreMeasured {N E : Type 0} (g : Graph N E) (b : ℕ) (order left distances : List ℕ) : Type 0 where
  pub sized : length distances ≡ length g.nodes
  pub done : List ℕ
  pub split : order ≡ left ++ done
  pub here : Contains done b → get_or distances b 0 ≡ 0
  pub next : (n v : ℕ) → Contains done n → n ≢ b → AreJoined g n v → get_or distances n 0 ≤ get_or distances v 0 + 1

pub measured_none : {N E : Type 0} (g : Graph N E) (b : ℕ) (order left distances : List ℕ) → left ≡ order
    → length distances ≡ length g.nodes → AreMeasured g b order left distances
measured_none g b order left distances is sized =
    record {
      sized = sized;
      done = [];
      split = sym is ∙ sym (append-nil left);
      here = λ c. absurd (Contains-nil b c);
      next = λ n v c. absurd (Contains-nil n c);
    }

module _ {N E : Type 0} {g : Graph N E} {b : ℕ} {order left distances : List ℕ} (ordered : IsOrderOf g order)
    (s : AreMeasured g b order left distances) where
  -- one node more
  module _ (rest : List ℕ) (n : ℕ) (last : left ≡ rest ++ n ∷ []) where
    more_split : order ≡ rest ++ n ∷ s.done
    more_split = s.split ∙ ap (λ z. z ++ s.done) last ∙ append_assoc rest (n ∷ []) s.done

    all_differ : Unique (rest ++ n ∷ s.done)
    all_differ = let P : List ℕ → Type 0 = λ z. Unique z in subst P more_split (unique_from_distinct order ordered.once)

    pub measured_node : HasNode g n
    measured_node =
        let C : List ℕ → Type 0 = λ z. Contains z n in
        (ordered.exact n).0 (subst C (sym more_split) (Contains-append_right rest (n ∷ s.done) n (Contains-here n s.done)))

    not_done : (m : ℕ) → Contains s.done m → m ≢ n
    not_done m c same =
        let u = unique_right rest (n ∷ s.done) all_differ in
        u.0 (subst (λ z. Mem z s.done) same (contains_mem s.done m c))

    -- no edge leads to the node from one that is done, nor from itself
    not_joined : (m : ℕ) → Contains (n ∷ s.done) m → AreJoined g m n → ⊥
    not_joined m c j =
        let P : List ℕ → Type 0 = λ z. place z m < place z n in
        let before = subst P more_split (ordered.sorted m n j) in
        let fresh : Mem n rest → ⊥ = λ i. unique_cross rest (n ∷ s.done) all_differ n i (inl refl) in
        let other : Mem m rest → ⊥ = λ i. unique_cross rest (n ∷ s.done) all_differ m i (contains_mem (n ∷ s.done) m c) in
        omega (
          arith,
          before,
          place_right rest (n ∷ s.done) n fresh,
          place_right rest (n ∷ s.done) m other,
          place_same n n s.done refl,
        )

    pub measured_more : (x : ℕ) → (n ≡ b → x ≡ 0) → (n ≢ b → (v : ℕ) → AreJoined g n v → x ≤ get_or distances v 0 + 1)
        → n < length distances → (distances' : List ℕ) → distances' ≡ set distances n x → AreMeasured g b order rest distances'
    measured_more x at_end beyond low distances' is =
        record {
          sized = ap length is ∙ length-set distances n x ∙ s.sized;
          done = n ∷ s.done;
          split = more_split;
          here = λ c. elim (cases_eq b n) [
            | inl same ↦ ap (λ z. get_or distances' z 0) same ∙ at_n ∙ at_end (sym same)
            | inr other ↦ elsewhere b other ∙ elim (Contains-cases n b s.done c) [
              | inl same ↦ absurd (other (sym same))
              | inr there ↦ s.here there
            ]
          ];
          next = λ m v c other j.
              let apart : v ≢ n = λ same. not_joined m c (subst (AreJoined g m) same j) in
              let far = elsewhere v apart in
              elim (cases_eq m n) [
                | inl same ↦ (
                    let P : ℕ → Type 0 = λ z. AreJoined g z v in
                    let near = beyond (λ e. other (same ∙ e)) v (subst P same j) in
                    omega (arith, near, far, ap (λ z. get_or distances' z 0) same, at_n)
                    )
                | inr differs ↦ elim (Contains-cases n m s.done c) [
                  | inl same ↦ absurd (differs (sym same))
                  | inr there ↦ (let near = s.next m v there other j in omega (arith, near, far, elsewhere m differs))
                ]
              ];
        }
      where
        at_n : get_or distances' n 0 ≡ x
        at_n = ap (λ z. get_or z n 0) is ∙ get_or-set_same distances n x 0 low

        elsewhere : (m : ℕ) → m ≢ n → get_or distances' m 0 ≡ get_or distances m 0
        elsewhere m other = ap (λ z. get_or z m 0) is ∙ get_or-set_other distances n m x 0 other

  -- all nodes
  pub measured_all : {end : ℕ} → IsWellFormed end g → left ≡ [] → (k n : ℕ) → k < get_or distances n 0
      → paths_within g b k n ≡ []
  measured_all w none k n low =
      none_within g b (λ z. get_or distances z 0) (λ has. s.here (is_done b has))
      (λ m v other c. let j = child_joined w m (out_list g m) (λ e h. h) v c in
      s.next m v (is_done m (w.parents j.0 _ j.2)) other j) k n low
    where
      is_done : (m : ℕ) → HasNode g m → Contains s.done m
      is_done m has =
          let C : List ℕ → Type 0 = λ z. Contains z m in
          subst C (s.split ∙ ap (λ z. z ++ s.done) none) ((ordered.exact m).1 has)
