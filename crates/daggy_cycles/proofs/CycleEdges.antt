-- The edges of a cycle, one after the other.
use Rattle.std.proofs.Common.{◌≡◌, ℕ, zero, suc, ◌+◌, ◌<◌, ◌≤◌, inl, inr, List, [], ◌∷◌, ◌++◌, length, get_or, map}
use Rattle.std.proofs.Common.{Option, Some, IsSome, refl, sym, ap, subst, ◌∙◌, arith}
use Rattle.std.specs.Option.{option_map}
use Rattle.std.specs.Prelude.{slice_index}
use Rattle.std.proofs.lemmas.Bool.{cases_lt}
use Rattle.std.proofs.lemmas.List.{length-append, length-map, get_or_append_left, get_or-map}
use Rattle.std.proofs.Math.Seq.{get_or-append_seam}
use Rattle.daggy_base.specs.Graph.{Graph}
use Rattle.daggy_base.specs.Path.{AreJoined, IsPath, end_of}
use Rattle.daggy_base.specs.Finding.{find_edge}
use Rattle.daggy_base.specs.WellFormed.{IsWellFormed}
use Rattle.daggy_base.proofs.FoundEdge.{IsBetween, found_between}
use Rattle.daggy_base.proofs.JoinedByEdge.{joined_if_found}
use Rattle.daggy_components.specs.Cycles.{IsCycle}
use Rattle.daggy_components.proofs.MetChildren.{map_last}
use Rattle.daggy_cycles.specs.CycleEdges.{AreEdgesOf, Leads}

-- the edges of the first nodes of a cycle
pub record AreEdgesSoFar {N E : Type 0} (g : Graph N E) (cycle edges : List ℕ) (k : ℕ) : Type 0 where
  pub as_many : length edges ≡ k
  pub on : (j : ℕ) → j < k → j + 1 < length cycle
      → Leads g (slice_index edges j) (slice_index cycle j) (slice_index cycle (j + 1))
  pub back : (j : ℕ) → j < k → j + 1 ≡ length cycle
      → Leads g (slice_index edges j) (slice_index cycle j) (slice_index cycle 0)

pub no_edges_yet : {N E : Type 0} (g : Graph N E) (cycle edges : List ℕ) → edges ≡ [] → AreEdgesSoFar g cycle edges 0
no_edges_yet g cycle edges none =
    record {
      as_many = ap (λ (z : List ℕ). length z) none;
      on = λ j low. absurd (omega (arith, low));
      back = λ j low. absurd (omega (arith, low));
    }

-- the edge that is found leads between the nodes
pub leads_between : {N E : Type 0} {g : Graph N E} {a b e : ℕ} → IsBetween g a b e → Leads g e a b
leads_between {N} {E} {g} {a} {b} {e} h =
    let P : ℕ → Type 0 = λ z. Leads g e z b in
    let Q : ℕ → Type 0 = λ z. Leads g e h.edge.parent z in
    subst P h.from (subst Q h.to (h.edge.weight, h.at))

module _ {N E : Type 0} {g : Graph N E} {cycle edges : List ℕ} {k : ℕ} (s : AreEdgesSoFar g cycle edges k) where
  -- the edge of one more node
  pub one_edge_more : (e to : ℕ) {edges' : List ℕ} → edges' ≡ edges ++ e ∷ []
      → (k + 1 < length cycle → to ≡ k + 1) → (k + 1 ≡ length cycle → to ≡ 0)
      → Leads g e (slice_index cycle k) (slice_index cycle to) → AreEdgesSoFar g cycle edges' (k + 1)
  one_edge_more e to {edges'} pushes on back leads =
      let old : (j : ℕ) → j < k → slice_index edges' j ≡ slice_index edges j = λ j low.
      ap (λ (z : List ℕ). slice_index z j) pushes
      ∙ get_or_append_left edges (e ∷ []) 0 j (omega (arith, s.as_many, low)) in
      let new : (j : ℕ) → j ≡ k → slice_index edges' j ≡ e = λ j at.
      (let here : j ≡ length edges = omega (arith, at, s.as_many) in
      ap (λ (z : List ℕ). slice_index z j) pushes
      ∙ (ap (λ (z : ℕ). slice_index (edges ++ e ∷ []) z) here ∙ get_or-append_seam edges e [] 0)) in
      record {
        as_many =
            ap (λ (z : List ℕ). length z) pushes
            ∙ omega (arith, length-append edges (e ∷ []), s.as_many);
        on = λ j low next. elim (cases_lt j k) [
          | inl before ↦ (
              let P : ℕ → Type 0 = λ z. Leads g z (slice_index cycle j) (slice_index cycle (j + 1)) in
              subst P (sym (old j before)) (s.on j before next)
              )
          | inr last ↦ (
              let at : j ≡ k = omega (arith, low, last) in
              let is : to ≡ j + 1 = omega (arith, on (omega (arith, at, next)), at) in
              let P : ℕ → Type 0 = λ z. Leads g z (slice_index cycle j) (slice_index cycle (j + 1)) in
              let Q : ℕ → Type 0 = λ z. Leads g e (slice_index cycle z) (slice_index cycle (j + 1)) in
              let R : ℕ → Type 0 = λ z. Leads g e (slice_index cycle k) (slice_index cycle z) in
              subst P (sym (new j at)) (subst Q (sym at) (subst R is leads))
              )
        ];
        back = λ j low next. elim (cases_lt j k) [
          | inl before ↦ (
              let P : ℕ → Type 0 = λ z. Leads g z (slice_index cycle j) (slice_index cycle 0) in
              subst P (sym (old j before)) (s.back j before next)
              )
          | inr last ↦ (
              let at : j ≡ k = omega (arith, low, last) in
              let is : to ≡ 0 = back (omega (arith, at, next)) in
              let P : ℕ → Type 0 = λ z. Leads g z (slice_index cycle j) (slice_index cycle 0) in
              let Q : ℕ → Type 0 = λ z. Leads g e (slice_index cycle z) (slice_index cycle 0) in
              let R : ℕ → Type 0 = λ z. Leads g e (slice_index cycle k) (slice_index cycle z) in
              subst P (sym (new j at)) (subst Q (sym at) (subst R is leads))
              )
        ];
      }

  pub all_edges : length cycle ≤ k → k ≤ length cycle → AreEdgesOf g cycle edges
  all_edges most least =
      record {
        as_many = omega (arith, s.as_many, most, least);
        on = λ j next. s.on j (omega (arith, next, most)) next;
        back = λ j next. s.back j (omega (arith, next, most)) next;
      }

path_step : {N E : Type 0} (g : Graph N E) (us : List ℕ) (k : ℕ) → IsPath g us → suc k < length us
    → AreJoined g (get_or us k 0) (get_or us (suc k) 0)
path_step g [] k p low = absurd p
path_step g (u ∷ []) k p low = absurd (omega (arith, low))
path_step g (u ∷ v ∷ rest) zero p low = p.1
path_step g (u ∷ v ∷ rest) (suc k) p low = path_step g (v ∷ rest) k p.2 (omega (arith, low))

end_at : (u : ℕ) (rest : List ℕ) → end_of u rest ≡ get_or (u ∷ rest) (length rest) 0
end_at u [] = refl
end_at u (v ∷ rest) = end_at v rest

-- each node of a cycle is joined to the next, and the last to the first
pub joined_round : {N E : Type 0} (g : Graph N E) (cycle : List ℕ) (k to : ℕ) → IsCycle g cycle → k < length cycle
    → (k + 1 < length cycle → to ≡ k + 1) → (k + 1 ≡ length cycle → to ≡ 0)
    → AreJoined g (slice_index cycle k) (slice_index cycle to)
joined_round g [] k to c low on back = absurd (omega (arith, low))
joined_round g (u ∷ rest) k to c low on back =
    let cycle = u ∷ rest in
    elim (cases_lt (k + 1) (length cycle)) [
      | inl next ↦ (
          let is : to ≡ suc k = omega (arith, on next) in
          let P : ℕ → Type 0 = λ z. AreJoined g (slice_index cycle k) (slice_index cycle z) in
          subst P (sym is) (path_step g cycle k c.0 (omega (arith, next)))
          )
      | inr last ↦ (
          let at : length rest ≡ k = omega (arith, last, low) in
          let is : to ≡ 0 = back (omega (arith, last, low)) in
          let P : ℕ → Type 0 = λ z. AreJoined g (slice_index cycle k) (slice_index cycle z) in
          let Q : ℕ → Type 0 = λ z. AreJoined g z u in
          let R : ℕ → Type 0 = λ z. end_of u rest ≡ slice_index cycle z in
          subst P (sym is) (subst Q (subst R at (end_at u rest)) c.2)
          )
    ]

-- in the words of the code

pub spot : {I : Type 0} (number : I → ℕ) (xs : List I) (k : ℕ) (x : I) → k < length xs → x ≡ get_or xs k x
    → slice_index (map number xs) k ≡ number x
spot number xs k x low is = get_or-map number xs k x 0 low ∙ ap number (sym is)

module _ {I N E : Type 0} {end : ℕ} (number : I → ℕ) {g : Graph N E} (w : IsWellFormed end g) (cycle : List I)
    (c : IsCycle g (map number cycle)) (k to : ℕ) (a b : I) (low : k < length cycle) (low_to : to < length cycle)
    (on : k + 1 < length cycle → to ≡ k + 1) (back : k + 1 ≡ length cycle → to ≡ 0) (a_is : a ≡ get_or cycle k a)
    (b_is : b ≡ get_or cycle to b) (r : Option I) (found : option_map number r ≡ find_edge g (number a) (number b)) where
  long : length (map number cycle) ≡ length cycle
  long = length-map cycle number

  on_map : k + 1 < length (map number cycle) → to ≡ k + 1
  on_map h = on (omega (arith, h, long))

  back_map : k + 1 ≡ length (map number cycle) → to ≡ 0
  back_map h = back (omega (arith, h, long))

  -- there is an edge to be found
  pub is_found : IsSome r
  is_found =
      let j = joined_round g (map number cycle) k to c (omega (arith, low, long)) on_map back_map in
      let P : ℕ → Type 0 = λ z. AreJoined g z (number b) in
      let Q : ℕ → Type 0 = λ z. AreJoined g (slice_index (map number cycle) k) z in
      (joined_if_found g (number a) (number b) number r w found).1
      (subst P (spot number cycle k a low a_is) (subst Q (spot number cycle to b low_to b_is) j))

  -- and it is one more
  pub found_more : (e : I) (edges : List I) {edges' : List I} → r ≡ Some e → edges' ≡ edges ++ e ∷ []
      → AreEdgesSoFar g (map number cycle) (map number edges) k
      → AreEdgesSoFar g (map number cycle) (map number edges') (k + 1)
  found_more e edges {edges'} is pushes s =
      let some : find_edge g (number a) (number b) ≡ Some (number e) = sym found ∙ ap (option_map number) is in
      let leads = leads_between (found_between g (number a) (number b) (number e) w some) in
      let P : ℕ → Type 0 = λ z. Leads g (number e) z (slice_index (map number cycle) to) in
      let Q : ℕ → Type 0 = λ z. Leads g (number e) (number a) z in
      one_edge_more s (number e) to (ap (λ z. map number z) pushes ∙ map_last number edges e) on_map back_map
      (subst P (sym (spot number cycle k a low a_is)) (subst Q (sym (spot number cycle to b low_to b_is)) leads))
