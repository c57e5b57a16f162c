-- The nodes that a walk has yielded so far, in a list.
use Rattle.std.proofs.Common.{◌≡◌, ℕ, ◌⊎◌, inl, inr, List, [], ◌∷◌, ◌++◌, refl, sym, subst, Contains}
use Rattle.daggy_base.specs.declared.index.Direction.{Direction}
use Rattle.daggy_base.specs.declared.index.Direction.TheVariants.{Outgoing}
use Rattle.daggy_base.specs.Graph.{Graph}
use Rattle.daggy_base.specs.Path.{Reaches}
use Rattle.daggy_base.specs.WellFormed.{AreDistinct}
use Rattle.daggy_base.proofs.Lists.{Mem, mem_cases, unique_append, contains_mem, mem_contains}
use Rattle.daggy_base.proofs.Lists.{unique_from_distinct, distinct_from_unique, Contains-nil}
use Rattle.daggy_traversal.specs.Traversal.{LeadsFar, AreAllGiven}
use Rattle.answers.specs.Answers.{AreReached}

-- the nodes that a walk from the start has given, which it reaches
pub record AreListed {N E : Type 0} (g : Graph N E) (start : ℕ) (dir : Direction) (from : ℕ) (given nodes : List ℕ)
    : Type 0 where
  pub same : nodes ≡ given
  pub along : dir ≡ Outgoing
  pub begins : from ≡ start
  pub reached : (n : ℕ) → Contains given n → Reaches g start n
  pub once : AreDistinct given

module _ {N E : Type 0} {g : Graph N E} {start : ℕ} {dir : Direction} {from : ℕ} where
  pub none_listed : {given : List ℕ} → given ≡ [] → dir ≡ Outgoing → from ≡ start → AreListed g start dir from given []
  none_listed e along begins = record {
    same = sym e;
    along = along;
    begins = begins;
    reached = λ n h. absurd (Contains-nil n (subst (λ z. Contains z n) e h));
    once = subst AreDistinct (sym e) tt;
  }

  module _ {given nodes : List ℕ} (listed : AreListed g start dir from given nodes) where
    -- another node is given
    pub one_more : {dir' : Direction} {from' n : ℕ} {given' : List ℕ} → dir' ≡ dir → from' ≡ from
        → given' ≡ given ++ n ∷ [] → LeadsFar dir g from n → (Contains given n → ⊥)
        → AreListed g start dir' from' given' (nodes ++ n ∷ [])
    one_more {dir'} {from'} {n} {given'} d f e far new = record {
      same = rw (e, listed.same) refl;
      along = rw d listed.along;
      begins = rw f listed.begins;
      reached = λ m h. found m (mem_cases given (n ∷ []) m (contains_mem _ m (subst (λ z. Contains z m) e h)));
      once = subst AreDistinct (sym e) (distinct_from_unique _
          (unique_append given (n ∷ []) (unique_from_distinct given listed.once) ((λ h. h), tt) apart));
    }
      where
        reaches : Reaches g start n
        reaches = subst (λ z. Reaches g z n) listed.begins (subst (λ z. LeadsFar z g from n) listed.along far)

        found : (m : ℕ) → Mem m given ⊎ Mem m (n ∷ []) → Reaches g start m
        found m (inl h) = listed.reached m (mem_contains given m h)
        found m (inr (inl same)) = subst (Reaches g start) (sym same) reaches
        found m (inr (inr h)) = absurd h

        apart : (m : ℕ) → Mem m given → Mem m (n ∷ []) → ⊥
        apart m h (inl same) = new (subst (Contains given) same (mem_contains given m h))
        apart m h (inr none) = absurd none

    -- all nodes were given
    pub all_listed : AreAllGiven g dir from given → AreReached g start nodes
    all_listed all = record {
      exact = λ n. (
        λ h. listed.reached n (subst (λ z. Contains z n) listed.same h),
        λ far. subst (λ z. Contains z n) (sym listed.same)
            (all n (subst (λ z. LeadsFar z g from n) (sym listed.along)
            (subst (λ z. Reaches g z n) (sym listed.begins) far))),
      );
      once = subst AreDistinct (sym listed.same) listed.once;
    }
