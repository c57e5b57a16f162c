-- The listed paths are those of the graph.
use Rattle.std.proofs.Common.{◌≡◌, ◌≢◌, ℕ, zero, suc, ◌≤◌, inl, inr, List, [], ◌∷◌, ◌++◌, length, Contains, Some, Bool, true, false}
use Rattle.std.proofs.Common.{is_some, refl, sym, ap, subst, ◌∙◌, ◌↔◌, arith}
use Rattle.std.specs.Bool.{IsTrue}
use Rattle.std.specs.List.{flat_map}
use Rattle.std.proofs.lemmas.Bool.{cases_eq, cases_Bool, false≢true}
use Rattle.std.specs.Prelude.{if◌then◌else◌}
use Rattle.daggy_base.specs.Graph.{Graph, Edge, HasNode, node_weight, edge_at, out_list}
use Rattle.daggy_base.specs.Path.{AreJoined, IsPath, IsAcyclic, end_of}
use Rattle.daggy_base.specs.WellFormed.{IsWellFormed}
use Rattle.daggy_base.proofs.Lists.{Contains-nil, Contains-cases, Contains-here, Contains-there}
use Rattle.daggy_operators.specs.SimplePaths.{children_by, paths_within, IsPathWithin}
use Rattle.daggy_operators.proofs.Members.{none_in, first_in, only_in, in_map, from_map, in_flat_map, from_flat_map}
use Rattle.daggy_operators.proofs.Ways.{first_child, within_here, within_none, within_more, within_missing}
use Rattle.daggy_operators.proofs.Distances.{child_joined}

module _ {N E : Type 0} {end : ℕ} {g : Graph N E} (w : IsWellFormed end g) (acyclic : IsAcyclic g) (b : ℕ) where
  -- the child of an edge of a list is among the children by it
  child_by : (es : List ℕ) (e : ℕ) (x : Edge E) → ((d : ℕ) → Contains es d → (y : Edge E) × (edge_at g d ≡ Some y))
      → Contains es e → edge_at g e ≡ Some x → Contains (children_by g es) x.child
  child_by [] e x all c at = absurd (Contains-nil e c)
  child_by (d ∷ es) e x all c at =
      let y = all d (Contains-here d es) in
      let P : List ℕ → Type 0 = λ z. Contains z x.child in
      subst P (sym (first_child g d es y.0 y.1))
      (elim (Contains-cases d e es c) [
        | inl here ↦ (
            let both : Some y.0 ≡ Some x = sym y.1 ∙ ap (λ z. edge_at g z) here ∙ at in
            let one : y.0 ≡ x = cc in
            subst (Contains (y.0.child ∷ children_by g es)) (ap (λ (z : Edge E). z.child) one)
            (Contains-here y.0.child (children_by g es))
            )
        | inr later ↦ Contains-there y.0.child x.child (children_by g es)
            (child_by es e x (λ f h. all f (Contains-there d f es h)) later at)
      ])

  joined_child : (a v : ℕ) → AreJoined g a v → Contains (children_by g (out_list g a)) v
  joined_child a v j =
      let x : Edge E = record { parent = a; child = v; weight = j.1 } in
      child_by (out_list g a) j.0 x (λ d c. let y = (w.out_of.exact a d).0 c in (y.0, y.1)) ((w.out_of.exact a j.0).1 (x, j.2, refl)) j.2

  has_node : (k a : ℕ) (p : List ℕ) → a ≡ b → Contains (paths_within g b k a) p → HasNode g a
  has_node k a p here c =
      elim (cases_Bool (is_some (node_weight g a))) [
        | inl has ↦ has
        | inr missing ↦ (
            let P : List (List ℕ) → Type 0 = λ z. Contains z p in
            absurd (none_in p (subst P (within_missing g b k a here (λ has. false≢true (sym missing ∙ has))) c))
            )
      ]

  -- a path that is listed where the end is
  listed_here : (k a : ℕ) (p : List ℕ) → a ≡ b → Contains (paths_within g b k a) p → IsPathWithin g a b k p
  listed_here k a p here c =
      let has = has_node k a p here c in
      let P : List (List ℕ) → Type 0 = λ z. Contains z p in
      let is = only_in (a ∷ []) p (subst P (within_here g b k a here has) c) in
      record { rest = []; begins = sym is; is_path = has; ends = here; short = omega arith }

  pub listed_path : (k a : ℕ) (p : List ℕ) → Contains (paths_within g b k a) p → IsPathWithin g a b k p
  listed_path zero a p c =
      elim (cases_eq a b) [
        | inl here ↦ listed_here zero a p here c
        | inr other ↦ (let P : List (List ℕ) → Type 0 = λ z. Contains z p in
            absurd (none_in p (subst P (within_none g b a other) c)))
      ]
  listed_path (suc k) a p c =
      elim (cases_eq a b) [
        | inl here ↦ listed_here (suc k) a p here c
        | inr other ↦ (
            let P : List (List ℕ) → Type 0 = λ z. Contains z p in
            let m = from_map (λ path. a ∷ path) (flat_map (paths_within g b k) (children_by g (out_list g a))) p
            (subst P (within_more g b k a other) c) in
            let f = from_flat_map (paths_within g b k) (children_by g (out_list g a)) m.0 m.1 in
            let j = child_joined w a (out_list g a) (λ e h. h) f.0 f.1 in
            let q = listed_path k f.0 m.0 f.2 in
            record {
              rest = f.0 ∷ q.rest;
              begins = sym m.2 ∙ ap (λ z. a ∷ z) q.begins;
              is_path = (w.parents j.0 _ j.2, j, q.is_path);
              ends = q.ends;
              short = omega (arith, q.short);
            }
            )
      ]

  -- a path is listed
  listed_rest : (k a : ℕ) (rest : List ℕ) → IsPath g (a ∷ rest) → end_of a rest ≡ b → length rest ≤ k
      → Contains (paths_within g b k a) (a ∷ rest)
  listed_rest k a [] path ends short =
      let P : List (List ℕ) → Type 0 = λ z. Contains z (a ∷ []) in
      subst P (sym (within_here g b k a ends path)) (first_in (a ∷ []) [])
  listed_rest zero a (v ∷ rest) path ends short = absurd (omega (arith, short))
  listed_rest (suc k) a (v ∷ rest) path ends short =
      let other : a ≢ b = λ same. acyclic a v rest path (ends ∙ sym same) in
      let P : List (List ℕ) → Type 0 = λ z. Contains z (a ∷ v ∷ rest) in
      subst P (sym (within_more g b k a other))
      (in_map (λ path. a ∷ path) (flat_map (paths_within g b k) (children_by g (out_list g a))) (v ∷ rest)
      (in_flat_map (paths_within g b k) (children_by g (out_list g a)) v (v ∷ rest) (joined_child a v path.1)
      (listed_rest k v rest path.2 ends (omega (arith, short)))))

  pub path_listed : (k a : ℕ) (p : List ℕ) → IsPathWithin g a b k p → Contains (paths_within g b k a) p
  path_listed k a p s =
      subst (Contains (paths_within g b k a)) (sym s.begins) (listed_rest k a s.rest s.is_path s.ends s.short)

-- what a search begins with
pub all_left : {N E : Type 0} (g : Graph N E) (a b limit : ℕ) (alone : Bool) (left : List (List ℕ))
    → IsTrue alone ↔ ((a ≡ b) × HasNode g b) → (¬ (a ≡ b) → left ≡ paths_within g b limit a) → (a ≡ b → left ≡ [])
    → (if alone then (b ∷ []) ∷ [] else []) ++ left ≡ paths_within g b limit a
all_left {N} {E} g a b limit true left is begun none =
    let both = is.0 refl in
    let P : ℕ → Type 0 = λ z. HasNode g z in
    ap (λ z. ((b ∷ []) ∷ []) ++ z) (none both.0) ∙ ap (λ z. (z ∷ []) ∷ []) (sym both.0)
    ∙ sym (within_here g b limit a both.0 (subst P (sym both.0) both.1))
all_left {N} {E} g a b limit false left is begun none =
    elim (cases_eq a b) [
      | inl here ↦ (
          let P : ℕ → Type 0 = λ z. HasNode g z in
          none here ∙ sym (within_missing g b limit a here (λ has. false≢true (is.1 (here, subst P here has))))
          )
      | inr other ↦ begun other
    ]
