-- The loop of `extend_all`: the graph is extended by the items so far.
use Rattle.std.proofs.Common.{◌≡◌, ℕ, ◌+◌, ◌-◌, ◌*◌, ◌≤◌, List, [], ◌∷◌, ◌++◌, map, Option, refl, sym, ap, subst, ◌∙◌}
use Rattle.std.proofs.Common.{add-one, arith}
use Rattle.std.proofs.Math.Nat.{suc-mul, mul-suc}
use Rattle.std.specs.List.{AllZip, FoldsTo}
use Rattle.std.specs.Iterator.{Yields}
use Rattle.std.proofs.lemmas.Fn.{FoldsTo-push}
use Rattle.std.proofs.lemmas.List.{map-append}
use Rattle.daggy_base.specs.Graph.{Graph}
use Rattle.daggy_base.specs.declared.error.EdgeError.{EdgeError}
use Rattle.daggy_base.specs.Adding.{NewEdge, by_numbers}
use Rattle.daggy_guard.specs.Extension.{IsExtended, IsStopped, Stops}
use Rattle.daggy_guard.proofs.ItemsSoFar.{zip_more}

-- what the loop has so far: the graph, and the items that were given
pub record Progress (A N E : Type 0) : Type 0 where
  pub graph : Graph N E
  pub given : List A

-- the graph `old` was extended by the items that were given
pub record Extending {I A N E : Type 0} (IsDefault : N → Type 0) (number : I → ℕ) (limit : ℕ)
    (becomes : A → I × I × E → Type 0) (old : Graph N E) (now : Progress A N E) : Type 0 where
  pub edges : List (I × I × E)
  pub become : AllZip becomes now.given edges
  pub extension : FoldsTo (IsExtended IsDefault limit) old (map (by_numbers number) edges) now.graph

pub extending_starts : {I A N E : Type 0} {IsDefault : N → Type 0} {number : I → ℕ} {limit : ℕ}
    {becomes : A → I × I × E → Type 0} (g : Graph N E)
    → Extending IsDefault number limit becomes g record { graph = g; given = [] }
extending_starts g = record { edges = []; become = tt; extension = refl }

module _ {I A N E : Type 0} {IsDefault : N → Type 0} {number : I → ℕ} {limit : ℕ} {becomes : A → I × I × E → Type 0}
    {old : Graph N E} {now : Progress A N E} (s : Extending IsDefault number limit becomes old now) where
  -- `after` is what the loop has once the item x was given too
  pub record IsNext (x : A) (after : Progress A N E) : Type 0 where
    pub edge : I × I × E
    pub is : becomes x edge
    pub extended : IsExtended IsDefault limit now.graph (by_numbers number edge) after.graph
    pub given : after.given ≡ now.given ++ x ∷ []

  pub extending_on : {x : A} {after : Progress A N E}
      → IsNext x after → Extending IsDefault number limit becomes old after
  extending_on {x} {after} m =
      let P : List (NewEdge E) → Type 0 = λ z. FoldsTo (IsExtended IsDefault limit) old z after.graph in
      let Q : List A → Type 0 = λ z. AllZip becomes z (s.edges ++ m.edge ∷ []) in
      record {
        edges = s.edges ++ m.edge ∷ [];
        become = subst Q (sym m.given) (zip_more becomes now.given s.edges x m.edge s.become m.is);
        extension =
            subst P (sym (map-append (by_numbers number) s.edges (m.edge ∷ [])))
            (FoldsTo-push (IsExtended IsDefault limit) old (map (by_numbers number) s.edges) now.graph
            (by_numbers number m.edge) after.graph s.extension m.extended);
      }

  pub stops : {S : Type 0} {gives : S → Option A → S → Type 0} {items : S} {error : EdgeError E} {new : Graph N E}
      (rest : S) (x : A) (edge : I × I × E) → becomes x edge → Yields gives items (now.given ++ x ∷ []) rest
      → IsStopped IsDefault limit now.graph (by_numbers number edge) error new
      → Stops IsDefault number limit becomes gives items old error new
  stops rest x edge is asked stopped = record {
    given = now.given;
    at = x;
    rest = rest;
    asked = asked;
    edges = s.edges;
    become = s.become;
    edge = edge;
    at_becomes = is;
    mid = now.graph;
    extension = s.extension;
    stopped = stopped;
  }

-- the looks at so many edges, as often as edges were added
pub record FewLooks (edges looks edges' looks' : ℕ) : Type 0 where
  pub no_fewer : edges ≤ edges'
  pub few : looks' ≤ looks + (edges' - edges) * edges'

pub no_looks : (edges looks : ℕ) → FewLooks edges looks edges looks
no_looks edges looks = record { no_fewer = omega arith; few = omega arith }

pub few_more : {e l m k m' k' : ℕ} → FewLooks e l m k → m' ≡ m + 1 → k' ≤ k + m' → FewLooks e l m' k'
few_more {e} {l} {m} {k} {m'} {k'} f one more =
    let d = m - e in
    let times : (m' - e) * m' ≡ d * m + d + m' =
    ap (λ z. z * m') (omega (arith, f.no_fewer, one)) ∙ suc-mul d m' ∙ ap (λ z. d * z + m') (one ∙ add-one m)
    ∙ ap (λ z. z + m') (mul-suc d m) in
    record { no_fewer = omega (arith, f.no_fewer, one); few = omega (arith, f.few, more, times) }

pub few_all : {e l m k : ℕ} → FewLooks e l m k → k ≤ l + (m - e + 1) * m
few_all {e} {l} {m} {k} f =
    let times : (m - e + 1) * m ≡ (m - e) * m + m = ap (λ z. z * m) (add-one (m - e)) ∙ suc-mul (m - e) m in
    omega (arith, f.few, times)

pub few_last : {e l m k m' k' : ℕ} → FewLooks e l m k → m' ≡ m → k' ≤ k + m' → k' ≤ l + (m' - e + 1) * m'
few_last {e} {l} {m} {k} {m'} {k'} f same more =
    let times : (m - e + 1) * m ≡ (m - e) * m + m = ap (λ z. z * m) (add-one (m - e)) ∙ suc-mul (m - e) m in
    let there : k' ≤ l + (m - e + 1) * m = omega (arith, f.few, times, more, same) in
    let P : ℕ → Type 0 = λ z. k' ≤ l + (z - e + 1) * z in
    subst P (sym same) there
