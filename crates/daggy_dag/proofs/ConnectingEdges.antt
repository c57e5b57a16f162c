-- The edges from one node to another, along the out list of the first.
use Rattle.std.proofs.Common.{◌≡◌, ℕ, ◌≤◌, ◌==◌, Option, Some, None, List, []}
use Rattle.std.proofs.Common.{◌∷◌, length, refl, sym, ap, subst, ◌∙◌, arith}
use Rattle.std.specs.List.{filter, filter_map}
use Rattle.std.specs.Option.{option_map}
use Rattle.std.proofs.lemmas.Bool.{eq-eqb, ne_eqb, cond-true, cond-false}
use Rattle.std.proofs.lemmas.List.Sums.{length-filter, count_by-le-length}
use Rattle.daggy_base.specs.declared.index.Direction.TheVariants.{Outgoing}
use Rattle.daggy_base.specs.Graph.{Graph, Edge, edge_at, out_list, ends_of}
use Rattle.daggy_base.proofs.EdgeEnds.{HasEnds, edge_here}
use Rattle.std.proofs.lemmas.Option.{same_Some}
use Rattle.daggy_base.specs.Cursor.{first_of, cursor_after, item_at}
use Rattle.daggy_base.specs.WellFormed.{IsWellFormed}
use Rattle.daggy_dag.specs.Connecting.{edges_connecting, connecting_from}
use Rattle.daggy_dag.specs.Walks.{rest_of_walk, rest_with}
use Rattle.daggy_dag.proofs.WalkSteps.{whole_walk, step_gives, few_in}

-- the edges of a list, and those that lead to v
abbrev stored : {N E : Type 0} → Graph N E → List ℕ → List (ℕ × Edge E)
stored {N} {E} g es = filter_map (λ i. option_map (λ (x : Edge E). (i, x)) (edge_at g i)) es

abbrev leading : {E : Type 0} → ℕ → List (ℕ × Edge E) → List (ℕ × Edge E)
leading {E} v es = filter (λ (p : ℕ × Edge E). p.1.child == v) es

stored_one : {N E : Type 0} (g : Graph N E) (e : ℕ) (x : Edge E) (es : List ℕ)
    → edge_at g e ≡ Some x → stored g (e ∷ es) ≡ (e, x) ∷ stored g es
stored_one g e x es at = rw at refl

few_stored : {N E : Type 0} (g : Graph N E) (es : List ℕ) → length (stored g es) ≤ length es
few_stored g [] = omega arith
few_stored {N} {E} g (e ∷ es) = go (edge_at g e) refl (few_stored g es)
  where
    go : (o : Option (Edge E)) → edge_at g e ≡ o → length (stored g es) ≤ length es
        → length (stored g (e ∷ es)) ≤ length (e ∷ es)
    go None at few = let none : stored g (e ∷ es) ≡ stored g es = rw at refl in omega (arith, ap length none, few)
    go (Some x) at few = omega (arith, ap length (stored_one g e x es at), few)

-- the walk is over where no edge is
pub none_connecting : {N E : Type 0} (g : Graph N E) (e v : ℕ) → edge_at g e ≡ None → connecting_from g e v ≡ []
none_connecting g e v at = ap (λ o. leading v (stored g (rest_with Outgoing g e o))) at

module _ {N E : Type 0} (end : ℕ) (g : Graph N E) (w : IsWellFormed end g) (v : ℕ) where
  pub all_connecting : (u cursor : ℕ)
      → cursor ≡ first_of end (out_list g u) → connecting_from g cursor v ≡ edges_connecting g u v
  all_connecting u cursor first =
      ap (λ es. leading v (stored g es)) (ap (rest_of_walk Outgoing g) first ∙ whole_walk end g w Outgoing u)

  pub few_connecting : (u : ℕ) → length (edges_connecting g u v) ≤ end
  few_connecting u =
      let all = stored g (out_list g u) in
      omega (
        arith,
        length-filter (λ (p : ℕ × Edge E). p.1.child == v) all,
        count_by-le-length (λ (p : ℕ × Edge E). p.1.child == v) all,
        few_stored g (out_list g u),
        few_in end g w Outgoing u,
      )

  module _ (e : ℕ) (x : Edge E) (at : edge_at g e ≡ Some x) (next : ℕ)
      (next_is : next ≡ cursor_after Outgoing end g e (edge_at g e)) where
    pub walked : rest_of_walk Outgoing g e ≡ e ∷ rest_of_walk Outgoing g next
    walked =
        step_gives end g w Outgoing e (Some (e, x.child)) next
        (record { item_is = sym (ap (item_at Outgoing g e) at); next_is = next_is })

    split : connecting_from g e v ≡ leading v ((e, x) ∷ stored g (rest_of_walk Outgoing g next))
    split =
        ap (λ es. leading v (stored g es)) walked
        ∙ ap (leading v) (stored_one g e x (rest_of_walk Outgoing g next) at)

    pub taken : x.child ≡ v → connecting_from g e v ≡ (e, x) ∷ connecting_from g next v
    taken same =
        let rest = stored g (rest_of_walk Outgoing g next) in
        let here : ℕ × Edge E = (e, x) in
        split ∙ cond-true (x.child == v) (here ∷ leading v rest) (leading v rest) (eq-eqb x.child v same)

    pub passed : (x.child ≡ v → ⊥) → connecting_from g e v ≡ connecting_from g next v
    passed differs =
        let rest = stored g (rest_of_walk Outgoing g next) in
        let here : ℕ × Edge E = (e, x) in
        split ∙ cond-false (x.child == v) (here ∷ leading v rest) (leading v rest) (ne_eqb x.child v differs)

-- what a store tells of an edge, which may have another name
pub edge_there : {N E : Type 0} {g h : Graph N E} → h ≡ g → (e : ℕ) (p : ℕ × ℕ) → Some p ≡ option_map ends_of (edge_at h e)
    → HasEnds (edge_at g e) p
edge_there {N} {E} {g} {h} same e p says =
    let P : Graph N E → Type 0 = λ z. HasEnds (edge_at z e) p in subst P same (edge_here h e e p refl says)

pub weight_there : {N E : Type 0} {g h : Graph N E} → h ≡ g → (e : ℕ) (x : Edge E) → edge_at g e ≡ Some x → (weight : E)
    → Some weight ≡ option_map (λ x. x.weight) (edge_at h e) → weight ≡ x.weight
weight_there {E = E} same e x at weight says =
    same_Some _ _ (says ∙ ap (λ z. option_map (λ (y : Edge E). y.weight) (edge_at z e)) same
    ∙ ap (option_map (λ (y : Edge E). y.weight)) at)

pub same_edge : {E : Type 0} (x : Edge E) (s t : ℕ) (w : E) → s ≡ x.parent → t ≡ x.child → w ≡ x.weight
    → x ≡ record { parent = s; child = t; weight = w }
same_edge {E} x s t w p q r =
    let with_parent : ℕ → Edge E = λ z. record { parent = z; child = x.child; weight = x.weight } in
    let with_child : ℕ → Edge E = λ z. record { parent = s; child = z; weight = x.weight } in
    let with_weight : E → Edge E = λ z. record { parent = s; child = t; weight = z } in
    ap with_parent (sym p) ∙ (ap with_child (sym q) ∙ ap with_weight (sym r))
