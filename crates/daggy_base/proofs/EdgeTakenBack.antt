-- An edge that is taken back leaves the graph from before.
use Rattle.std.proofs.Common.{inl, inr, ◌≡◌, ℕ, zero, suc, ◌+◌, ◌-◌, Bool, true, false, eqb, List, [], ◌∷◌, map, length}
use Rattle.std.proofs.Common.{get_or, set, take, Option, Some, None, slice_get, refl, sym, ap, subst, ◌∙◌, arith}
use Rattle.std.specs.List.{Contains, swap_remove}
use Rattle.std.proofs.lemmas.Bool.{cases_eq, eq-eqb, ne_eqb}
use Rattle.std.proofs.lemmas.List.{map-set, set-get_or}
use Rattle.std.proofs.lemmas.Option.{unwrap_or-slice_get}
use Rattle.std.proofs.Math.Seq.{take-append_seam}
use Rattle.daggy_base.specs.Graph.{Graph, Edge, edge_at, out_list, in_list, slot}
use Rattle.daggy_base.specs.Adding.{with_edge, next_edge, next_slot, with_slot_filled, remaining_vacant}
use Rattle.daggy_base.specs.Removal.{without, renamed, without_edge}
use Rattle.daggy_base.specs.declared.kind.Kind.TheVariants.{Compact}
use Rattle.daggy_base.specs.WellFormed.{IsWellFormed, ListsEdges}
use Rattle.daggy_base.specs.TakingBack.{is_slot_made, with_edge_taken_back, slots_taken_back, vacant_taken_back}
use Rattle.daggy_base.specs.TakingBack.{UndoesEdge}
use Rattle.daggy_base.proofs.Slots.{IsFree, slot_past, slot_vacant}
use Rattle.daggy_base.proofs.PathsWithEdge.{free_edge}

pub same_graph : {N E : Type 0} (g : Graph N E) {a : List (Option N)} {b : List (Option (Edge E))} {c d : List (List ℕ)}
    {e f : List ℕ}
    → a ≡ g.nodes → b ≡ g.edges → c ≡ g.out_lists → d ≡ g.in_lists → e ≡ g.vacant_nodes → f ≡ g.vacant_edges
    → record { nodes = a; edges = b; out_lists = c; in_lists = d; vacant_nodes = e; vacant_edges = f } ≡ g
same_graph {N} {E} g {a} {b} {c} {d} {e} {f} p q r s t u =
    let mk : List (Option N) → List (Option (Edge E)) → List (List ℕ) → List (List ℕ) → List ℕ → List ℕ → Graph N E =
    λ a b c d e f. record { nodes = a; edges = b; out_lists = c; in_lists = d; vacant_nodes = e; vacant_edges = f } in
    ap (λ x. mk x b c d e f) p ∙ ap (λ x. mk g.nodes x c d e f) q ∙ ap (λ x. mk g.nodes g.edges x d e f) r
    ∙ ap (λ x. mk g.nodes g.edges g.out_lists x e f) s ∙ ap (λ x. mk g.nodes g.edges g.out_lists g.in_lists x f) t
    ∙ ap (λ x. mk g.nodes g.edges g.out_lists g.in_lists g.vacant_nodes x) u

without_outside : (e : ℕ) (xs : List ℕ) → ¬ Contains xs e → without e xs ≡ xs
without_outside e [] out = refl
without_outside e (x ∷ xs) out =
    let differs : eqb x e ≡ false = ne_eqb x e (λ same. out (0, omega arith, same)) in
    rw (differs, without_outside e xs (λ p. out (suc p.0, omega (arith, p.1), p.2)))

without_first : (e : ℕ) (xs : List ℕ) → ¬ Contains xs e → without e (e ∷ xs) ≡ xs
without_first e xs out = rw (eq-eqb e e refl) (without_outside e xs out)

rows_outside : (e : ℕ) (rows : List (List ℕ))
    → ((n : ℕ) → ¬ Contains (get_or rows n []) e) → map (without e) rows ≡ rows
rows_outside e [] out = refl
rows_outside e (xs ∷ rows) out =
    let head : without e xs ≡ xs = without_outside e xs (out 0) in
    let rest : map (without e) rows ≡ rows = rows_outside e rows (λ n. out (suc n)) in
    ap (λ z. z ∷ map (without e) rows) head ∙ ap (λ z. xs ∷ z) rest

-- a list that e is put first in, and taken out of again
lists_taken_back : (e u : ℕ) (rows : List (List ℕ))
    → ((n : ℕ) → ¬ Contains (get_or rows n []) e) → map (without e) (set rows u (e ∷ get_or rows u [])) ≡ rows
lists_taken_back e u rows out =
    map-set (without e) rows u (e ∷ get_or rows u [])
    ∙ ap (λ z. set z u (without e (e ∷ get_or rows u []))) (rows_outside e rows out)
    ∙ ap (set rows u) (without_first e (get_or rows u []) (out u)) ∙ set-get_or rows u []

slots_again : {A : Type 0} (xs : List (Option A)) (v : ℕ) (x : A)
    → slice_get xs v ≡ Some None → set (set xs v (Some x)) v None ≡ xs
slots_again [] v x h = refl
slots_again (z ∷ xs) zero x h = let e : z ≡ None = cc in ap (λ y. y ∷ xs) (sym e)
slots_again (z ∷ xs) (suc v) x h = ap (λ y. z ∷ y) (slots_again xs v x h)

pub slots_undone : {A : Type 0} (xs : List (Option A)) (vacant : List ℕ) (x : A) → IsFree xs vacant
    → slots_taken_back (is_slot_made vacant) (with_slot_filled xs vacant (Some x)) (next_slot xs vacant) ≡ xs
slots_undone xs [] x h = take-append_seam xs (Some x ∷ [])
slots_undone xs (v ∷ vs) x h = slots_again xs v x h

pub vacant_undone : {A : Type 0} (xs : List A) (vacant : List ℕ)
    → vacant_taken_back (is_slot_made vacant) (remaining_vacant vacant) (next_slot xs vacant) ≡ vacant
vacant_undone xs [] = refl
vacant_undone xs (v ∷ vs) = refl

next_free : {A : Type 0} (xs : List (Option A)) (vacant : List ℕ)
    → IsFree xs vacant → slot xs (next_slot xs vacant) ≡ None
next_free xs [] h = slot_past xs
next_free xs (v ∷ vs) h = slot_vacant xs v h

module _ {N E : Type 0} (end : ℕ) (g : Graph N E) (f : IsWellFormed end g) where
  unlisted : (end_node : Edge E → ℕ) (rows : List (List ℕ)) (list_of : ℕ → List ℕ)
      → ((n : ℕ) → list_of n ≡ get_or rows n []) → ListsEdges g end_node list_of
      → (n : ℕ) → ¬ Contains (get_or rows n []) (next_edge g)
  unlisted end_node rows list_of same l n p =
      let P : List ℕ → Type 0 = λ z. Contains z (next_edge g) in
      let found = (l.exact n (next_edge g)).0 (subst P (sym (same n)) p) in
      let none : edge_at g (next_edge g) ≡ None =
      next_free g.edges g.vacant_edges (free_edge g 0 0 found.0.weight end f) in
      let some = found.1 in
      cc

  pub taken_back_undoes : (u v : ℕ) (w : E)
      → with_edge_taken_back (is_slot_made g.vacant_edges) (with_edge g u v w) (next_edge g) ≡ g
  taken_back_undoes u v w =
      let e = next_edge g in
      let free = free_edge g u v w end f in
      let outs =
      unlisted (λ x. x.parent) g.out_lists (out_list g) (λ n. unwrap_or-slice_get g.out_lists n []) f.out_of in
      let ins = unlisted (λ x. x.child) g.in_lists (in_list g) (λ n. unwrap_or-slice_get g.in_lists n []) f.in_of in
      let out : map (without e) (set g.out_lists u (e ∷ out_list g u)) ≡ g.out_lists =
      ap (λ z. map (without e) (set g.out_lists u (e ∷ z))) (unwrap_or-slice_get g.out_lists u [])
      ∙ lists_taken_back e u g.out_lists outs in
      let into : map (without e) (set g.in_lists v (e ∷ in_list g v)) ≡ g.in_lists =
      ap (λ z. map (without e) (set g.in_lists v (e ∷ z))) (unwrap_or-slice_get g.in_lists v [])
      ∙ lists_taken_back e v g.in_lists ins in
      same_graph g refl (slots_undone g.edges g.vacant_edges _ free) out into refl
      (vacant_undone g.edges g.vacant_edges)

-- the last edge of a compact store is taken back by removing it
pub renamed_itself : (e n : ℕ) → renamed e e n ≡ n
renamed_itself e n =
    elim (cases_eq n e) [
      | inl same ↦ rw (eq-eqb n e same) (sym same)
      | inr differs ↦ rw (ne_eqb n e differs)
    ]

map_itself : (f : ℕ → ℕ) → ((n : ℕ) → f n ≡ n) → (xs : List ℕ) → map f xs ≡ xs
map_itself f h [] = refl
map_itself f h (x ∷ xs) = ap (λ z. z ∷ map f xs) (h x) ∙ ap (λ z. x ∷ z) (map_itself f h xs)

rows_itself : (f : ℕ → ℕ) → ((n : ℕ) → f n ≡ n) → (rows : List (List ℕ)) → map (map f) rows ≡ rows
rows_itself f h [] = refl
rows_itself f h (xs ∷ rows) =
    ap (λ z. z ∷ map (map f) rows) (map_itself f h xs) ∙ ap (λ z. xs ∷ z) (rows_itself f h rows)

pub cut_last : {A : Type 0} (xs : List A) (e : ℕ) (d : A) → e + 1 ≡ length xs → swap_remove xs e d ≡ take e xs
cut_last xs e d last =
    let from : length xs - 1 ≡ e = omega (arith, last) in
    ap (λ n. take n (set xs e (get_or xs n d))) from ∙ ap (take e) (set-get_or xs e d)

pub last_removed : {N E : Type 0} (g : Graph N E) (e : ℕ)
    → e + 1 ≡ length g.edges → without_edge Compact g e ≡ with_edge_taken_back true g e
last_removed g e last =
    let from : length g.edges - 1 ≡ e = omega (arith, last) in
    let h = with_edge_taken_back true g e in
    let same : (n : ℕ) → renamed (length g.edges - 1) e n ≡ n = λ n.
    ap (λ z. renamed z e n) from ∙ renamed_itself e n in
    same_graph h refl (cut_last g.edges e None last) (rows_itself _ same h.out_lists)
    (rows_itself _ same h.in_lists) refl refl

-- taking back the edge that was added last gives the graph from before
pub undoes_edge : {N E : Type 0} (end : ℕ) (made : Bool) (old : Graph N E) (e : ℕ) (new : Graph N E)
    → new ≡ with_edge_taken_back made old e → UndoesEdge end made old e new
undoes_edge end made old e new taken = λ before u v w well_formed added slot fresh.
    taken ∙ ap (λ b. with_edge_taken_back b old e) fresh
    ∙ ap (λ g. with_edge_taken_back (is_slot_made before.vacant_edges) g e) added
    ∙ ap (with_edge_taken_back (is_slot_made before.vacant_edges) (with_edge before u v w)) slot
    ∙ taken_back_undoes end before well_formed u v w
