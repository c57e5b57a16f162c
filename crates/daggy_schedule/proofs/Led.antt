-- Which node comes first at each place of an order.
use Rattle.std.proofs.Common.{ℕ, List, [], ◌∷◌, ◌++◌, sym, subst, append_assoc, append-nil, IsPermutation}
use Rattle.std.specs.List.{AllByRecursion}
use Rattle.std.specs.declared.cmp.Ordering.{Ordering}
use Rattle.std.proofs.Permutation.{every_shuffled}
use Rattle.std.proofs.lemmas.List.Sorted.{IsPermutation-refl, IsPermutation-sym, IsPermutation-trans, IsPermutation-middle}
use Rattle.std.proofs.lemmas.List.Sorted.{IsPermutation-append_right, IsPermutation-pop_more}
use Rattle.daggy_base.specs.Graph.{Graph}
use Rattle.daggy_schedule.specs.LeastFirst.{Precedes, HaveCome, nodes_of}

-- what holds of the nodes before each place of a list
abbrev pub AllBefore : {K : Type 0} → (List ℕ → Type 0) → (before : List ℕ) → List (K × ℕ) → Type 0
AllBefore Q before [] = Unit {0}
AllBefore Q before (p ∷ ps) = Q before × AllBefore Q (before ++ p.1 ∷ []) ps

module _ {K : Type 0} where
  pub before_weaker : (P Q : List ℕ → Type 0) → ((b : List ℕ) → P b → Q b) → (before : List ℕ) (ps : List (K × ℕ))
      → AllBefore P before ps → AllBefore Q before ps
  before_weaker P Q h before [] a = tt
  before_weaker P Q h before (p ∷ ps) a = (h before a.0, before_weaker P Q h (before ++ p.1 ∷ []) ps a.1)

  -- one place more
  pub before_more : (Q : List ℕ → Type 0) (before : List ℕ) (ps : List (K × ℕ)) (p : K × ℕ)
      → AllBefore Q before ps → Q (before ++ nodes_of ps) → AllBefore Q before (ps ++ p ∷ [])
  before_more Q before [] p a last = (subst Q (append-nil before) last, tt)
  before_more Q before (x ∷ ps) p a last = (
    a.0,
    before_more Q (before ++ x.1 ∷ []) ps p a.1 (subst Q (sym (append_assoc before (x.1 ∷ []) (nodes_of ps))) last),
  )

module _ {K N E : Type 0} (cmp : K → K → Ordering) (g : Graph N E) where
  -- if the parents of a later node have come, it comes after
  abbrev pub Leads : (before : List ℕ) (first later : K × ℕ) → Type 0
  Leads before first later = HaveCome g before later.1 → Precedes cmp first later

  -- each of a list leads those after it, and what waits
  abbrev pub AllLead : (before : List ℕ) (ps waiting : List (K × ℕ)) → Type 0
  AllLead before [] waiting = Unit {0}
  AllLead before (p ∷ ps) waiting =
      AllByRecursion (Leads before p) (ps ++ waiting) × AllLead (before ++ p.1 ∷ []) ps waiting

  -- one more waits, whose parents have not come at any place
  pub lead_wait : (before : List ℕ) (ps waiting more : List (K × ℕ)) (one : K × ℕ) → AllLead before ps waiting
      → AllBefore (λ b. HaveCome g b one.1 → ⊥) before ps → IsPermutation (one ∷ waiting) more → AllLead before ps more
  lead_wait before [] waiting more one a late perm = tt
  lead_wait before (p ∷ ps) waiting more one a late perm =
      let all : IsPermutation (one ∷ (ps ++ waiting)) (ps ++ more) =
      IsPermutation-trans _ _ _ (IsPermutation-sym _ _ (IsPermutation-middle ps one waiting))
      (IsPermutation-append_right ps (one ∷ waiting) more perm) in (
        every_shuffled (Leads before p) (one ∷ (ps ++ waiting)) (ps ++ more) all (λ come. absurd (late.0 come), a.0),
        lead_wait (before ++ p.1 ∷ []) ps waiting more one a.1 late.1 perm,
      )

  -- one that waited comes next
  pub lead_next : (before : List ℕ) (ps waiting left : List (K × ℕ)) (next : K × ℕ) → AllLead before ps waiting
      → IsPermutation waiting (next ∷ left) → AllByRecursion (Leads (before ++ nodes_of ps) next) left
      → AllLead before (ps ++ next ∷ []) left
  lead_next before [] waiting left next a perm leads =
      let P : List ℕ → Type 0 = λ z. AllByRecursion (Leads z next) left in (subst P (append-nil before) leads, tt)
  lead_next before (p ∷ ps) waiting left next a perm leads =
      let P : List ℕ → Type 0 = λ z. AllByRecursion (Leads z next) left in (
        every_shuffled (Leads before p) (ps ++ waiting) ((ps ++ next ∷ []) ++ left)
            (IsPermutation-pop_more (ps ++ waiting) ps waiting left next (IsPermutation-refl (ps ++ waiting)) perm) a.0,
        lead_next (before ++ p.1 ∷ []) ps waiting left next a.1 perm
            (subst P (sym (append_assoc before (p.1 ∷ []) (nodes_of ps))) leads),
      )

  -- at the end
  pub lead_split : (before : List ℕ) (ps : List (K × ℕ)) (first : K × ℕ) (after : List (K × ℕ))
      → AllLead before (ps ++ first ∷ after) [] → AllByRecursion (Leads (before ++ nodes_of ps) first) after
  lead_split before [] first after a =
      let P : List ℕ → Type 0 = λ z. AllByRecursion (Leads z first) after in
      let Q : List (K × ℕ) → Type 0 = λ z. AllByRecursion (Leads before first) z in
      subst P (sym (append-nil before)) (subst Q (append-nil after) a.0)
  lead_split before (p ∷ ps) first after a =
      let P : List ℕ → Type 0 = λ z. AllByRecursion (Leads z first) after in
      subst P (append_assoc before (p.1 ∷ []) (nodes_of ps)) (lead_split (before ++ p.1 ∷ []) ps first after a.1)
