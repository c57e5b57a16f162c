-- The edges along a path, found from its first node on.
use Rattle.std.proofs.Common.{◌≡◌, ℕ, zero, suc, ◌+◌, ◌<◌, ◌≤◌, List, [], ◌∷◌, ◌++◌, add-one, length, map, drop, get_or, Option}
use Rattle.std.proofs.Common.{Some, None, refl, sym, ap, subst, ◌∙◌, arith, append_assoc}
use Rattle.std.proofs.lemmas.Bool.{false≢true}
use Rattle.std.proofs.lemmas.List.{append-nil, get_or-map}
use Rattle.daggy_base.specs.Graph.{Graph}
use Rattle.daggy_base.specs.Path.{IsPath, AreJoined}
use Rattle.daggy_base.specs.Finding.{find_edge}
use Rattle.daggy_base.specs.WellFormed.{IsWellFormed}
use Rattle.daggy_paths.specs.EdgePaths.{AreFoundAlong}
use Rattle.daggy_base.proofs.JoinedByEdge.{joined_if_found}

-- two nodes of the path that follow each other
record FromOn (nodes : List ℕ) (at : ℕ) : Type 0 where
  first : ℕ
  second : ℕ
  rest : List ℕ
  here : drop at nodes ≡ first ∷ second ∷ rest
  next : drop (suc at) nodes ≡ second ∷ rest
  first_is : get_or nodes at 0 ≡ first
  second_is : get_or nodes (suc at) 0 ≡ second

from_on : (nodes : List ℕ) (at : ℕ) → suc at < length nodes → FromOn nodes at
from_on [] at h = absurd (omega (arith, h))
from_on (u ∷ []) at h = absurd (omega (arith, h))
from_on (u ∷ v ∷ rest) zero h =
    record {
      first = u;
      second = v;
      rest = rest;
      here = refl;
      next = refl;
      first_is = refl;
      second_is = refl;
    }
from_on (u ∷ v ∷ rest) (suc at) h =
    let more = from_on (v ∷ rest) at (omega (arith, h)) in
    record {
      first = more.first;
      second = more.second;
      rest = more.rest;
      here = more.here;
      next = more.next;
      first_is = more.first_is;
      second_is = more.second_is;
    }

-- the edges found so far lead to the node at that place, from where a path leads on
pub record Along {N E : Type 0} (g : Graph N E) (nodes : List ℕ) (at : ℕ) (edges : List ℕ) : Type 0 where
  pub within : at < length nodes
  pub path : IsPath g (drop at nodes)
  pub found : (es : List ℕ) → AreFoundAlong g (drop at nodes) es → AreFoundAlong g nodes (edges ++ es)

pub along_begins : {N E : Type 0} {g : Graph N E} {nodes : List ℕ} → IsPath g nodes → Along g nodes 0 []
along_begins {nodes = []} p = absurd p
along_begins {nodes = u ∷ rest} p = record { within = omega arith; path = p; found = λ es h. h }

module _ {N E : Type 0} {g : Graph N E} {nodes edges : List ℕ} {at : ℕ} (s : Along g nodes at edges)
    (low : at + 1 < length nodes) (a b : ℕ) (a_is : a ≡ get_or nodes at 0) (b_is : b ≡ get_or nodes (at + 1) 0) where
  on : FromOn nodes at
  on = from_on nodes at (omega (arith, low))

  first_here : a ≡ on.first
  first_here = a_is ∙ on.first_is

  second_here : b ≡ on.second
  second_here = b_is ∙ (ap (λ z. get_or nodes z 0) (add-one at) ∙ on.second_is)

  joined : AreJoined g on.first on.second
  joined = let P : List ℕ → Type 0 = λ z. IsPath g z in (subst P on.here s.path).1

  pub are_joined : AreJoined g a b
  are_joined =
      let P : ℕ → Type 0 = λ z. AreJoined g z on.second in
      let Q : ℕ → Type 0 = λ z. AreJoined g a z in
      subst Q (sym second_here) (subst P (sym first_here) joined)

  pub along_more : (e : ℕ) → find_edge g a b ≡ Some e → (edges' : List ℕ) → edges' ≡ edges ++ e ∷ []
      → Along g nodes (at + 1) edges'
  along_more e is edges' noted =
      let P : List ℕ → Type 0 = λ z. IsPath g z in
      let found : find_edge g on.first on.second ≡ Some e =
      ap (λ z. find_edge g z on.second) (sym first_here) ∙ (ap (find_edge g a) (sym second_here) ∙ is) in
      let next : drop (at + 1) nodes ≡ on.second ∷ on.rest = ap (λ z. drop z nodes) (add-one at) ∙ on.next in
      record {
        within = low;
        path = subst P (sym next) (subst P on.here s.path).2;
        found = λ es h.
            let Q : List ℕ → Type 0 = λ z. AreFoundAlong g z es in
            let R : List ℕ → Type 0 = λ z. AreFoundAlong g z (e ∷ es) in
            let T : List ℕ → Type 0 = λ z. AreFoundAlong g nodes z in
            subst T (sym (ap (λ z. z ++ es) noted ∙ append_assoc edges (e ∷ []) es))
            (s.found (e ∷ es) (subst R (sym on.here) (found, subst Q next h)));
      }

-- the number of a node of a list
pub number_at : {I : Type 0} (number : I → ℕ) (xs : List I) (i : ℕ) (d : I) → i < length xs
    → number (get_or xs i d) ≡ get_or (map number xs) i 0
number_at number xs i d low = sym (get_or-map number xs i d 0 low)

-- at the last node all are found
last_alone : (nodes : List ℕ) (at : ℕ) → at < length nodes → length nodes ≤ at + 1 → (u : ℕ) × (drop at nodes ≡ u ∷ [])
last_alone [] at low high = absurd (omega (arith, low))
last_alone (u ∷ []) zero low high = (u, refl)
last_alone (u ∷ v ∷ rest) zero low high = absurd (omega (arith, high))
last_alone (u ∷ rest) (suc at) low high = last_alone rest at (omega (arith, low)) (omega (arith, high))

pub along_whole : {N E : Type 0} {g : Graph N E} {nodes edges : List ℕ} {at : ℕ}
    → Along g nodes at edges → length nodes ≤ at + 1 → AreFoundAlong g nodes edges
along_whole {g = g} {nodes = nodes} {edges = edges} {at = at} s high =
    let last = last_alone nodes at s.within high in
    let P : List ℕ → Type 0 = λ z. AreFoundAlong g nodes z in
    let Q : List ℕ → Type 0 = λ z. AreFoundAlong g z [] in
    subst P (append-nil edges) (s.found [] (subst Q (sym last.1) tt))

-- an edge is found between two nodes that are joined
pub none_missed : {I N E : Type 0} {end : ℕ} (g : Graph N E) (a b : ℕ) (number : I → ℕ) → IsWellFormed end g
    → None ≡ find_edge g a b → AreJoined g a b → ⊥
none_missed {I} g a b number w none j =
    let nothing : Option I = None in
    absurd (false≢true ((joined_if_found g a b number nothing w none).1 j))
