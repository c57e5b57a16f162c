-- What a part is to its user: a subgraph, the reversed graph, a graph with the same reachability.
use Rattle.std.proofs.Common.{◌≡◌, ℕ, ◌<◌, Bool, true, false, List, [], ◌∷◌, length, replicate, Contains}
use Rattle.std.proofs.Common.{Option, Some, None, IsSome, is_some, Result, Ok, Err, refl, sym, ap, subst, ◌∙◌, ◌↔◌, inl, inr}
use Rattle.std.specs.Result.{IfOk}
use Rattle.std.specs.List.{All, AllByRecursion}
use Rattle.std.specs.Option.{option_map}
use Rattle.std.specs.Borrow.{Bor}
use Rattle.std.proofs.lemmas.Bool.{cases_lt}
use Rattle.std.proofs.lemmas.List.Elements.{All-from_recursion, recursion_from_All}
use Rattle.daggy_base.specs.declared.index.Direction.{Direction}
use Rattle.daggy_base.specs.declared.index.Direction.TheVariants.{Outgoing, Incoming}
use Rattle.daggy_base.specs.Graph.{Graph, HasNode, slot, node_weight, edge_at, ends_of}
use Rattle.daggy_base.specs.Path.{IsPath, Reaches, IsAcyclic, end_of}
use Rattle.daggy_base.specs.WellFormed.{IsWellFormed}
use Rattle.daggy_base.proofs.SlotLists.{none_past}
use Rattle.daggy_base.proofs.PathsWithEdge.{reaches_itself}
use Rattle.daggy_base.proofs.PathEnds.{path_begins}
use Rattle.daggy_base.proofs.LongerPaths.{reaches_more}
use Rattle.daggy_redundant.specs.Comparison.{HaveSameNodes, HaveSameReachability}
use Rattle.daggy_operators.specs.Parts.{kept, mark_of, IsPart}
use Rattle.daggy_operators.specs.Operators.{Leads, IsSubgraph, IsReverse}
use Rattle.daggy_operators.proofs.Marks.{AreMarked, all_set}
use Rattle.daggy_operators.proofs.PartPaths.{kept_some, kept_from, kept_to, node_exists, path_from, path_to, back_from}
use Rattle.daggy_operators.proofs.PartPaths.{joined_to, ends_joined, part_acyclic, reverse_acyclic}

-- a slot that holds something is there
slot_low : {A : Type 0} (xs : List (Option A)) (i : ℕ) (x : A) → slot xs i ≡ Some x → i < length xs
slot_low xs i x at =
    elim (cases_lt i (length xs)) [ inl low ↦ low | inr high ↦ absurd (let e : None ≡ Some x = sym (none_past xs i high) ∙ at in cc) ]

pub exists_low : {N E : Type 0} (g : Graph N E) (n : ℕ) → HasNode g n → n < length g.nodes
exists_low g n there = low (node_weight g n) refl there
  where
    low : (o : Option _) → node_weight g n ≡ o → IsSome o → n < length g.nodes
    low None at there = absurd cc
    low (Some w) at there = slot_low g.nodes n w at

-- the ends of an edge exist
leads_exist : {N E : Type 0} {limit : ℕ} {g : Graph N E} → IsWellFormed limit g → (e u v : ℕ) → Leads g e u v
    → HasNode g u × HasNode g v
leads_exist {g = g} w e u v leads =
    let j = ends_joined g e u v leads in
    (w.parents j.0 _ j.2, w.children j.0 _ j.2)

module _ {N E F : Type 0} {limit : ℕ} {marks : List Bool} {g : Graph N E} {h : Graph (Bor N) F} (given : List ℕ)
    (w : IsWellFormed limit g) (marked : AreMarked (length g.nodes) given marks) (part : IsPart Outgoing marks g h) where
  given_of : (n : ℕ) → HasNode g n → mark_of marks n ≡ true → Contains given n
  given_of n there m = (marked n (exists_low g n there)).0 m

  mark_for : (n : ℕ) → HasNode g n → Contains given n → mark_of marks n ≡ true
  mark_for n there c = (marked n (exists_low g n there)).1 c

  ends_exist : (e u v : ℕ) → Leads g e u v → HasNode g u × HasNode g v
  ends_exist e u v leads = leads_exist w e u v leads

  pub is_subgraph : IsSubgraph (Contains given) g h
  is_subgraph =
      record {
        nodes = λ n x. (
          λ at. let k = kept_some (mark_of marks n) (node_weight g n) x (sym (part.nodes n) ∙ at) in
              (k.1, given_of n (ap is_some k.1) k.0),
          λ both. part.nodes n ∙ ap (λ b. kept b (node_weight g n)) (mark_for n (ap is_some both.0) both.1) ∙ both.0,
        );
        edges = λ e u v. (
          λ at.
              let found = kept_from Outgoing marks (option_map ends_of (edge_at g e)) (u, v) (sym (part.edges e) ∙ at) in
              let there : Leads g e u v = found.1 ∙ ap Some found.4 in
              let ends = ends_exist e u v there in (
                there,
                given_of u ends.0 (ap (λ z. mark_of marks z.0) (sym found.4) ∙ found.2),
                given_of v ends.1 (ap (λ z. mark_of marks z.1) (sym found.4) ∙ found.3),
              ),
          λ all.
              let ends = ends_exist e u v all.0 in
              part.edges e ∙ kept_to Outgoing marks (option_map ends_of (edge_at g e)) (u, v) all.0
              (mark_for u ends.0 all.1) (mark_for v ends.1 all.2),
        );
        lists = part.lists;
      }

  all_given : (p : List ℕ) → IsPath g p → AllByRecursion (λ n. mark_of marks n ≡ true) p → AllByRecursion (Contains given) p
  all_given [] p all = absurd p
  all_given (u ∷ []) p all = (given_of u p all.0, record {})
  all_given (u ∷ v ∷ rest) p all = (given_of u p.0 all.0, all_given (v ∷ rest) p.2 all.1)

  all_marks_for : (p : List ℕ) → IsPath g p → AllByRecursion (Contains given) p → AllByRecursion (λ n. mark_of marks n ≡ true) p
  all_marks_for [] p all = absurd p
  all_marks_for (u ∷ []) p all = (mark_for u p all.0, record {})
  all_marks_for (u ∷ v ∷ rest) p all = (mark_for u p.0 all.0, all_marks_for (v ∷ rest) p.2 all.1)

  pub paths_are : (p : List ℕ) → IsPath h p ↔ (IsPath g p × All (Contains given) p)
  paths_are p = (
    λ q. let there = path_from part p q in (there.0, All-from_recursion (Contains given) p (all_given p there.0 there.1)),
    λ both. path_to part p both.0 (all_marks_for p both.0 (recursion_from_All (Contains given) p both.1)),
  )

-- ---- all nodes

module _ {N E : Type 0} {limit : ℕ} {marks : List Bool} {g : Graph N E} (w : IsWellFormed limit g)
    (all : marks ≡ replicate (length g.nodes) true) where
  marked : (n : ℕ) → HasNode g n → mark_of marks n ≡ true
  marked n there = all_set (length g.nodes) marks n all (exists_low g n there)

  module _ {F : Type 0} {h : Graph (Bor N) F} (part : IsPart Incoming marks g h) where
    node_same : (n : ℕ) (o : Option N) → node_weight g n ≡ o → kept (mark_of marks n) o ≡ o
    node_same n (Some x) at = ap (λ b. kept b (Some x)) (marked n (ap is_some at))
    node_same n None at = none (mark_of marks n)
      where
        none : (b : Bool) → kept {A = N} b None ≡ None
        none true = refl
        none false = refl

    pub is_reverse : IsReverse g h
    is_reverse =
        record {
          nodes = λ n. part.nodes n ∙ node_same n (node_weight g n) refl;
          edges = λ e u v. (
            λ at.
                let found = kept_from Incoming marks (option_map ends_of (edge_at g e)) (u, v) (sym (part.edges e) ∙ at) in
                found.1 ∙ ap Some (let back : found.0 ≡ (v, u) = ap (λ z. (z.1, z.0)) found.4 in back),
            λ at.
                let ends = leads_exist w e v u at in
                part.edges e ∙ kept_to Incoming marks (option_map ends_of (edge_at g e)) (v, u) at (marked v ends.0)
                (marked u ends.1),
          );
          lists = part.lists;
        }

    back_to_path : (u : ℕ) (rest : List ℕ) → IsPath g (u ∷ rest) → Reaches h (end_of u rest) u
    back_to_path u [] p = reaches_itself h u ((node_exists part u).1 (p, marked u p))
    back_to_path u (v ∷ rest) p =
        let there = path_begins g v rest p.2 in
        reaches_more h (end_of v rest) v u (back_to_path v rest p.2)
        (joined_to part v u p.1 (marked v there) (marked u p.0))
        ((node_exists part u).1 (p.0, marked u p.0))

    pub reached_back : (u v : ℕ) → Reaches h u v ↔ Reaches g v u
    reached_back u v = (
      back_from part u v,
      λ r. let P : ℕ → Type 0 = λ z. Reaches h z v in subst P r.2 (back_to_path v r.0 r.1),
    )

  module _ {F : Type 0} {h : Graph (Bor N) F} (part : IsPart Outgoing marks g h) where
    pub same_nodes : (n : ℕ) → HasNode g n ↔ HasNode h n
    same_nodes n = (λ there. (node_exists part n).1 (there, marked n there), λ there. ((node_exists part n).0 there).0)

    all_marked : (p : List ℕ) → IsPath g p → AllByRecursion (λ n. mark_of marks n ≡ true) p
    all_marked [] p = absurd p
    all_marked (u ∷ []) p = (marked u p, record {})
    all_marked (u ∷ v ∷ rest) p = (marked u p.0, all_marked (v ∷ rest) p.2)

    pub same_reach : (u v : ℕ) → Reaches g u v ↔ Reaches h u v
    same_reach u v = (
      λ r. (r.0, path_to part (u ∷ r.0) r.1 (all_marked (u ∷ r.0) r.1), r.2),
      λ r. (r.0, (path_from part (u ∷ r.0) r.1).0, r.2),
    )

-- a part of an acyclic graph is acyclic, whichever way its edges are read
pub acyclic_part : {N E F : Type 0} (dir : Direction) {marks : List Bool} {g : Graph N E} {h : Graph (Bor N) F}
    → IsPart dir marks g h → IsAcyclic g → IsAcyclic h
acyclic_part Outgoing part acyclic = part_acyclic part acyclic
acyclic_part Incoming part acyclic = reverse_acyclic part acyclic

-- ---- comparing by reachability

pub through : {A B C : Type 0} → A ↔ B → B ↔ C → A ↔ C
through a b = (λ x. b.0 (a.0 x), λ z. a.1 (b.1 z))

-- a node exists if and only if it reaches itself
pub nodes_by_reach : {N E M F : Type 0} (g : Graph N E) (h : Graph M F) → HaveSameReachability g h → HaveSameNodes g h
nodes_by_reach g h same n = (
  λ there. let r = (same n n).0 (reaches_itself g n there) in path_begins h n r.0 r.1,
  λ there. let r = (same n n).1 (reaches_itself h n there) in path_begins g n r.0 r.1,
)

-- what follows from what holds of a value holds of it
pub on_ok : {A X : Type 0} {P Q : A → Type 0} (r : Result A X) → ((x : A) → P x → Q x) → IfOk r P → IfOk r Q
on_ok (Ok x) f p = f x p
on_ok (Err e) f p = p
