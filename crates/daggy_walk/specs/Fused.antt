-- When an adapter is fused: after `None` it yields only `None`.
use Rattle.std.specs.Prelude.{◌≡◌, ℕ, zero, suc, Bool, true, false, Option, Some, None, List, [], ◌∷◌, length}
use Rattle.std.specs.Prelude.{MatchOption, ⊤}
use Rattle.std.specs.Bool.{MatchBool}
use Rattle.std.specs.Iterator.{YieldsThen, YieldsFirstBy}
use denote.Ref.{Bor}
use denote.Param.Members.{Mut}
use native.Mathlib.Nat.{zero-lt-suc}
use mathlib.Core.Path.{refl, sym, subst, ◌∙◌}
use Rattle.daggy_walk.specs.Adapters.{TakeStep, SkipStep, PeekableStep, ChainStep, FilterStep, SkipWhileStep}
use Rattle.daggy_walk.specs.Adapters.{TakeWhileStep, InspectStep}
use Rattle.daggy_walk.specs.Walking.{Answers, CallsItem}

-- after a step that yielded nothing, the next one yields nothing
abbrev pub Rests : {W A : Type 0} → (W → Option A → W → Type 0) → Type 0
Rests {W} {A} steps = (w t u : W) (r : Option A) → steps w None t → steps t r u → r ≡ None

-- what is something is not nothing
differ : {A : Type 0} (P : Type 0) (x : A) → Some x ≡ None → P
differ P x e = absurd (subst (λ o. MatchOption o ⊥ (λ _. ⊤)) e tt)

-- the list is empty
abbrev empty : {A : Type 0} → List A → Type 0
empty [] = ⊤
empty (x ∷ xs) = ⊥

-- a walk whose state is the list of the rest is fused
pub list_rests : {W A B : Type 0} (view : A → B) (rest : W → List B) (w t u : W) (r : Option A)
    → YieldsFirstBy view rest w None t → YieldsFirstBy view rest t r u → r ≡ None
list_rests view rest w t u None a b = refl
list_rests view rest w t u (Some x) a b = absurd (subst empty (sym a.1 ∙ b) tt)

-- the number is above zero
abbrev above : ℕ → Type 0
above zero = ⊥
above (suc n) = ⊤

module _ {W A : Type 0} (steps : W → Option A → W → Type 0) (h : Rests steps) where
  pub take_rests : (w t u : W) (n m k : ℕ) (r : Option A)
      → TakeStep steps w n None t m → TakeStep steps t m r u k → r ≡ None
  take_rests w t u n zero k r a b = (b.ended refl).0
  take_rests w t u zero (suc m) k r a b = (b.ended (a.ended refl).2).0
  take_rests w t u (suc n) (suc m) k r a b = h w t u r (a.taken (zero-lt-suc n)).0 (b.taken (zero-lt-suc m)).0

  pub skip_rests : (w t u : W) (n m k : ℕ) (r : Option A)
      → SkipStep steps w n None t m → SkipStep steps t m r u k → r ≡ None
  skip_rests w t u n m k r a b = go b.skipped (b.all ∙ a.spent) b.passes
    where
      go : (xs : List (Option A)) → length xs ≡ 0 → Answers steps t xs b.between → r ≡ None
      go [] e p = h a.between t u r a.gives (subst (λ v. steps v r u) (sym p) b.gives)
      go (x ∷ xs) e p = absurd (subst above e tt)

  pub peekable_rests : (w t u : W) (held now after : Option A) (r : Option A)
      → PeekableStep steps w held None t now → PeekableStep steps t now r u after → r ≡ None
  peekable_rests w t u held now after r a b = go held a.gives
    where
      go : (o : Option A) → MatchOption o (steps w None t) (λ x. (None ≡ Some x) × (t ≡ w)) → r ≡ None
      go None e = h w t u r e (subst (λ o. PeekableStep steps t o r u after) a.empties b).gives
      go (Some x) e = differ (r ≡ None) x (sym e.0)

  module _ {V : Type 0} (firsts : V → Option A → V → Type 0) where
    pub chain_rests : (f f' f'' : Option V) (w t u : W) (r : Option A)
        → ChainStep firsts steps f w None f' t → ChainStep firsts steps f' t r f'' u → r ≡ None
    chain_rests f f' f'' w t u r a b = go f a.gives
      where
        over : steps w None t × (f' ≡ None) → r ≡ None
        over e = h w t u r e.0 (subst (λ o. ChainStep firsts steps o t r f'' u) e.1 b).gives.0

        turn : (o : Option A) (v : V)
            → MatchOption o (steps w None t × (f' ≡ None)) (λ x. (None ≡ Some x) × (f' ≡ Some v) × (t ≡ w)) → r ≡ None
        turn None v e = over e
        turn (Some x) v e = differ (r ≡ None) x (sym e.0)

        go : (o : Option V)
            → MatchOption o (steps w None t × (f' ≡ None)) (λ v. (answer : Option A) × (v' : V) × firsts v answer v'
            × MatchOption answer (steps w None t × (f' ≡ None)) (λ x. (None ≡ Some x) × (f' ≡ Some v') × (t ≡ w)))
            → r ≡ None
        go None e = over e
        go (Some v) e = turn e.0 e.1 e.3

  -- after a step that yielded nothing, no later step yields an item
  then_rests : (s t u : W) (xs : List A) (r : Option A) → steps s None t → YieldsThen steps t xs r u → r ≡ None
  then_rests s t u [] r a b = h s t u r a (subst (λ v. steps v r u) (sym b.1) b.2)
  then_rests s t u (x ∷ xs) r a b = differ (r ≡ None) x (h s t b.1.0 (Some x) a b.1.1)

  module _ {F G : Type 0} (m : Mut F (Bor G × (Bor A × Unit {0})) (Unit {0})) (g : G) where
    pub inspect_rests : (w t u : W) (f f' f'' : F) (r : Option A)
        → InspectStep steps m g w f None t f' → InspectStep steps m g t f' r u f'' → r ≡ None
    inspect_rests w t u f f' f'' r a b = h w t u r a.gives b.gives

  module _ {F G : Type 0} (m : Mut F (Bor G × (Bor A × Unit {0})) Bool) (g : G) where
    pub filter_rests : (w t u : W) (f f' f'' : F) (r : Option A)
        → FilterStep steps m g w f None t f' → FilterStep steps m g t f' r u f'' → r ≡ None
    filter_rests w t u f f' f'' r a b = then_rests a.gives.0 t u b.refused r a.gives.2 b.gives

    pub skip_while_rests : (w t u : W) (f f' f'' : Option F) (r : Option A)
        → SkipWhileStep steps m g w f None t f' → SkipWhileStep steps m g t f' r u f'' → r ≡ None
    skip_while_rests w t u f f' f'' r a b = go f a
      where
        later : steps t r u
        later = (subst (λ o. SkipWhileStep steps m g t o r u f'') a.drops b).gives

        go : (o : Option F) → SkipWhileStep steps m g w o None t f' → r ≡ None
        go None e = h w t u r e.gives later
        go (Some p) e = h e.gives.2.0 t u r e.gives.2.2 later

    pub take_while_rests : (w t u : Option W) (f f' f'' : F) (r : Option A)
        → TakeWhileStep steps m g w f None t f' → TakeWhileStep steps m g t f' r u f'' → r ≡ None
    take_while_rests w t u f f' f'' r a b = go w a.gives
      where
        over : t ≡ None → r ≡ None
        over e = (subst (λ o. TakeWhileStep steps m g o f' r u f'') e b).gives.0

        then_none : (v : W) (answer : Option A) (v' : W)
            → answer ≡ None → MatchOption answer ((r ≡ None) × (u ≡ Some v') × (f'' ≡ f'))
            (λ x.
            (c : Bool) × CallsItem m f' g x c f''
            × MatchBool c ((r ≡ Some x) × (u ≡ Some v')) ((r ≡ None) × (u ≡ None)))
            → r ≡ None
        then_none v None v' e k = k.0
        then_none v (Some x) v' e k = differ (r ≡ None) x e

        kept : (v v' : W) → steps v None v' → t ≡ Some v' → r ≡ None
        kept v v' s e =
            let k = (subst (λ o. TakeWhileStep steps m g o f' r u f'') e b).gives in
            then_none v' k.0 k.1 (h v v' k.1 k.0 s k.2) k.3

        refused : (c : Bool) (x : A) (v : W)
            → MatchBool c ((◌≡◌ {A = Option A} None (Some x)) × (t ≡ Some v))
            ((◌≡◌ {A = Option A} None None) × (t ≡ None))
            → r ≡ None
        refused true x v e = differ (r ≡ None) x (sym e.0)
        refused false x v e = over e.1

        turn : (v : W) (answer : Option A) (v' : W)
            → steps v answer v' → MatchOption answer ((◌≡◌ {A = Option A} None None) × (t ≡ Some v') × (f' ≡ f))
            (λ x.
            (c : Bool) × CallsItem m f g x c f'
            × MatchBool c ((◌≡◌ {A = Option A} None (Some x)) × (t ≡ Some v'))
            ((◌≡◌ {A = Option A} None None) × (t ≡ None)))
            → r ≡ None
        turn v None v' s e = kept v v' s e.1
        turn v (Some x) v' s e = refused e.0 x v' e.2

        go : (o : Option W)
            → MatchOption o ((◌≡◌ {A = Option A} None None) × (t ≡ None) × (f' ≡ f))
            (λ v. (answer : Option A) × (v' : W) × steps v answer v'
            × MatchOption answer ((◌≡◌ {A = Option A} None None) × (t ≡ Some v') × (f' ≡ f))
            (λ x.
            (c : Bool) × CallsItem m f g x c f'
            × MatchBool c ((◌≡◌ {A = Option A} None (Some x)) × (t ≡ Some v'))
            ((◌≡◌ {A = Option A} None None) × (t ≡ None))))
            → r ≡ None
        go None e = over e.1
        go (Some v) e = turn v e.0 e.1 e.2 e.3
