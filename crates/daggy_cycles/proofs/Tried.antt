-- Edges that are tried in turn, in the words of the code.
use Rattle.std.proofs.Common.{◌≡◌, ◌≢◌, ℕ, ◌<◌, Bool, true, false, List, [], ◌∷◌, ◌++◌, length, set}
use Rattle.std.proofs.Common.{get_or, replicate, Option, Some, None, IsSome, is_some, refl, sym, ap, subst, ◌∙◌, arith}
use Rattle.std.specs.List.{concat, Contains}
use Rattle.std.proofs.lemmas.List.{length-replicate, get_or-replicate, get_or_read_under}
use Rattle.daggy_base.specs.Graph.{Graph, Edge, HasNode, HasEdge, edge_at, edge_count, slot}
use Rattle.daggy_base.specs.Path.{Reaches, IsAcyclic}
use Rattle.daggy_base.specs.Adding.{with_edge}
use Rattle.daggy_base.specs.FromSlots.{vacant_down}
use Rattle.daggy_base.specs.WellFormed.{IsWellFormed}
use Rattle.daggy_base.specs.declared.error.EdgeError.{EdgeError}
use Rattle.daggy_base.specs.declared.error.EdgeError.TheVariants as error
use Rattle.daggy_base.specs.declared.error.WouldCycle.{WouldCycle}
use Rattle.daggy_base.proofs.EdgeEnds.{HasEnds}
use Rattle.daggy_base.proofs.Lists.{contains_mem, mem_contains, unique_from_distinct}
use Rattle.daggy_base.proofs.OutEdgesRead.{below_bound}
use Rattle.daggy_base.proofs.SlotLists.{none_vacant}
use Rattle.daggy_components.specs.Components.{AreComponents, ReachEachOther, component}
use Rattle.daggy_components.proofs.Gathering.{same_component}
use Rattle.daggy_components.proofs.Tallies.{component_of}
use Rattle.daggy_cycles.specs.Trying.{AreTried}
use Rattle.daggy_cycles.proofs.Trying.{slot_is, tries_apart, tries_closing, tries_kept, tries_again, index_left, low}

-- slots of nodes, all occupied

pub full : (n : ℕ) (slots : List (Option (Unit {0}))) → slots ≡ replicate n (Some tt) → (i : ℕ) → i < n → IsSome (slot slots i)
full n slots are i lt =
    let is : slot slots i ≡ Some tt =
    slot_is slots i ∙ (ap (λ z. get_or z i None) are ∙ get_or-replicate n i (Some (tt {0})) None lt) in
    ap is_some is

pub none_is_vacant : (n : ℕ) (slots : List (Option (Unit {0}))) → slots ≡ replicate n (Some tt) → vacant_down slots ≡ []
none_is_vacant n slots are =
    none_vacant slots (λ i within. full n slots are i (omega (arith, within, ap (λ z. length z) are, length-replicate n (Some (tt {0})))))

pub read_mark : (marks : List Bool) (i n : ℕ) (x : Bool) → x ≡ get_or marks i x → i ≡ n → n < length marks
    → get_or marks n false ≡ x
read_mark marks i n x read same low =
    ap (λ (z : ℕ). get_or marks z false) (sym same)
    ∙ sym (get_or_read_under marks i (length marks) x false read (omega (arith, low, same)) refl)

-- components

module _ {N E : Type 0} {g : Graph N E} {cs : List (List ℕ)} (are : AreComponents g cs) where
  pub has_component : (n : ℕ) → HasNode g n → (k : ℕ) × Contains (component cs k) n
  has_component n h =
      let p = component_of cs n (contains_mem (concat cs) n ((are.exact n).1 h)) in
      (p.0, mem_contains (component cs p.0) n p.2)

  pub together : (j k a b : ℕ) → Contains (component cs j) a → Contains (component cs k) b → j ≡ k → ReachEachOther g a b
  together j k a b m n same =
      let P : ℕ → Type 0 = λ z. Contains (component cs z) b in
      (are.class j a b m).0 (subst P (sym same) n)

  pub apart : (j k a b : ℕ) → Contains (component cs j) a → Contains (component cs k) b → j ≢ k → ¬ ReachEachOther g a b
  apart j k a b m n differ round =
      differ (same_component cs (unique_from_distinct (concat cs) are.once) j k b
      (contains_mem (component cs j) b ((are.class j a b m).1 round)) (contains_mem (component cs k) b n))

-- what the code reads of an edge

module _ {N E M F : Type 0} {end : ℕ} {g : Graph N E} (w : IsWellFormed end g) {dag : Graph M F} {marks : List Bool}
    {tried out : List ℕ} (s : AreTried g dag marks tried out) (e : ℕ) (p : ℕ × ℕ) (ends : HasEnds (edge_at g e) p) where
  abbrev edge : Edge E
  edge = ends.0

  pub parent_real : HasNode g p.0
  parent_real = let P : ℕ → Type 0 = λ z. HasNode g z in subst P (sym ends.2) (w.parents e edge ends.1)

  pub child_real : HasNode g p.1
  child_real = let P : ℕ → Type 0 = λ z. HasNode g z in subst P (sym ends.3) (w.children e edge ends.1)

  pub parent_in : HasNode dag p.0
  parent_in = s.nodes p.0 parent_real

  pub child_in : HasNode dag p.1
  child_in = s.nodes p.1 child_real

  -- the ends by the edge
  round_of : ReachEachOther g p.0 p.1 → ReachEachOther g edge.parent edge.child
  round_of r =
      let P : ℕ → Type 0 = λ z. ReachEachOther g z p.1 in
      let Q : ℕ → Type 0 = λ z. ReachEachOther g edge.parent z in
      subst Q ends.3 (subst P ends.2 r)

  back_of : Reaches dag p.1 p.0 → Reaches dag edge.child edge.parent
  back_of r =
      let P : ℕ → Type 0 = λ z. Reaches dag z p.0 in
      let Q : ℕ → Type 0 = λ z. Reaches dag edge.child z in
      subst Q ends.2 (subst P ends.3 r)

  back_to : Reaches dag edge.child edge.parent → Reaches dag p.1 p.0
  back_to r =
      let P : ℕ → Type 0 = λ z. Reaches dag z edge.parent in
      let Q : ℕ → Type 0 = λ z. Reaches dag p.1 z in
      subst Q (sym ends.2) (subst P (sym ends.3) r)

  -- its mark
  pub place_low : e < length marks
  place_low = let exists : HasEdge g e = ap is_some ends.1 in omega (arith, below_bound g.edges e exists, s.long)

  pub was_marked : IsAcyclic dag → get_or marks e false ≡ true → AreTried g dag marks (tried ++ e ∷ []) out
  was_marked acyclic mark = tries_again w s e edge ends.1 acyclic mark

  module _ (mark : get_or marks e false ≡ false) where
    pub lies_apart : ¬ ReachEachOther g p.0 p.1 → AreTried g dag (set marks e true) (tried ++ e ∷ []) out
    lies_apart apart =
        tries_apart w s e ends.1 mark (λ r. apart (
        let P : ℕ → Type 0 = λ z. ReachEachOther g z edge.child in
        let Q : ℕ → Type 0 = λ z. ReachEachOther g p.0 z in
        subst Q (sym ends.3) (subst P (sym ends.2) r)
        ))

    pub has_index : edge_count dag < end
    has_index = index_left w s e ends.1 mark

    pub is_left_out : Reaches dag p.1 p.0 → AreTried g dag (set marks e true) (tried ++ e ∷ []) (out ++ e ∷ [])
    is_left_out back = tries_closing w s e ends.1 mark (back_of back)

    pub is_kept : (limit : ℕ) → IsWellFormed limit dag → (f : F) → ReachEachOther g p.0 p.1 → ¬ Reaches dag p.1 p.0
        → AreTried g (with_edge dag p.0 p.1 f) (set marks e true) (tried ++ e ∷ []) out
    is_kept limit wd f round apart =
        let P : ℕ → Type 0 = λ z. AreTried g (with_edge dag z p.1 f) (set marks e true) (tried ++ e ∷ []) out in
        let Q : ℕ → Type 0 = λ z. AreTried g (with_edge dag edge.parent z f) (set marks e true) (tried ++ e ∷ []) out in
        subst P (sym ends.2) (subst Q (sym ends.3)
        (tries_kept w s e ends.1 mark limit wd f (round_of round) (λ r. apart (back_to r))))

-- an error is not of two kinds
pub not_both : {F : Type 0} (x : EdgeError F) (y : WouldCycle F) (z : F) → x ≡ error.WouldCycle y → x ≡ error.Memory z → ⊥
not_both x y z p q = let same : error.WouldCycle y ≡ error.Memory z = sym p ∙ q in absurd cc
