-- One step of each adapter, by the steps of its walkers, all over the same graph g.
use Rattle.std.specs.Prelude.{◌≡◌, ℕ, ◌+◌, ◌<◌, ◌≤◌, Bool, true, false, Option, Some, None, List, length, MatchOption}
use Rattle.std.specs.Prelude.{⊤}
use Rattle.std.specs.Bool.{MatchBool}
use Rattle.std.specs.Iterator.{Count, IsFinite, size, count_add, YieldsThen}
use Rattle.std.specs.Option.{option_len}
use Rattle.std.specs.List.{FoldsTo}
use denote.Ref.{Bor}
use denote.Param.Members.{Mut}
use Rattle.daggy_walk.specs.Walking.{Answers, CallsItem}

module _ {W A : Type 0} (steps : W → Option A → W → Type 0) where
  -- At a count of 0 it yields nothing and does not step the walker. Otherwise it steps it and decrements the count.
  pub record TakeStep (w : W) (n : ℕ) (r : Option A) (w' : W) (n' : ℕ) : Type 0 where
    pub ended : n ≡ 0 → (r ≡ None) × (w' ≡ w) × (n' ≡ 0)
    pub taken : 0 < n → steps w r w' × (n' + 1 ≡ n)

  -- It steps the walker as often as the count says, then yields the next step. The count is 0 afterwards.
  pub record SkipStep (w : W) (n : ℕ) (r : Option A) (w' : W) (n' : ℕ) : Type 0 where
    pub skipped : List (Option A)
    pub all : length skipped ≡ n
    pub between : W
    pub passes : Answers steps w skipped between
    pub gives : steps between r w'
    pub spent : n' ≡ 0

  -- It yields the step of the running walker. At `None` it starts over with a copy of the first walker and yields that
  -- one's step.
  pub record CycleStep (start w : W) (r : Option A) (start' w' : W) : Type 0 where
    pub answer : Option A
    pub between : W
    pub asked : steps w answer between
    pub gives : MatchOption answer (steps start r w') (λ x. (r ≡ Some x) × (w' ≡ between))
    pub kept : start' ≡ start

  -- It yields the peeked item, or steps the walker if there is none. Nothing is peeked afterwards.
  pub record PeekableStep (w : W) (held : Option A) (r : Option A) (w' : W) (held' : Option A) : Type 0 where
    pub gives : MatchOption held (steps w r w') (λ x. (r ≡ Some x) × (w' ≡ w))
    pub empties : held' ≡ None

  -- Peeking: if nothing is peeked, the step of the walker is. The bound, the peeked item included, does not increase.
  pub record Peeks (can : W → Type 0) (left : W → Count) (w : W) (held : Option A) (w' : W)
      (held' : Option A) : Type 0 where
    pub holds : MatchOption held (steps w held' w') (λ x. (held' ≡ Some x) × (w' ≡ w))
    pub stays : can w'
    pub falls : IsFinite (left w)
        → IsFinite (left w') × (size (left w') + option_len held' ≤ size (left w) + option_len held)

  module _ {V : Type 0} (others : V → Option A → V → Type 0) where
    -- It steps the first walker until its first `None`. Then it drops that walker and steps the second.
    pub record ChainStep (first : Option W) (second : V) (r : Option A) (first' : Option W) (second' : V) : Type 0 where
      pub gives : MatchOption first (others second r second' × (first' ≡ None))
          (λ w. (answer : Option A) × (w' : W) × steps w answer w'
          × MatchOption answer (others second r second' × (first' ≡ None))
          (λ x. (r ≡ Some x) × (first' ≡ Some w') × (second' ≡ second)))

  module _ {F G : Type 0} (m : Mut F (Bor G × (Bor A × Unit {0})) Bool) (g : G) where
    -- It skips the items that the predicate rejects, and yields the first that it accepts, or `None` if the walker
    -- does.
    pub record FilterStep (w : W) (f : F) (r : Option A) (w' : W) (f' : F) : Type 0 where
      pub refused : List A
      pub between : F
      pub gives : YieldsThen steps w refused r w'
      pub refuses : FoldsTo {P = F} {A = A} (λ p x q. CallsItem m p g x false q) f refused between
      pub accepts : MatchOption r (f' ≡ between) (λ x. CallsItem m between g x true f')

    -- The first call skips the items that the predicate accepts, and yields the first that it rejects, or `None` if the
    -- walker does. It drops the predicate, and later calls yield every step of the walker.
    pub record SkipWhileStep (w : W) (f : Option F) (r : Option A) (w' : W) (f' : Option F) : Type 0 where
      pub gives : MatchOption f (steps w r w')
          (λ p. (accepted : List A) × (between : F) × YieldsThen steps w accepted r w'
          × FoldsTo {P = F} {A = A} (λ p x q. CallsItem m p g x true q) p accepted between
          × MatchOption r ⊤ (λ x. (last : F) × CallsItem m between g x false last))
      pub drops : f' ≡ None

    -- It yields the items that the predicate accepts; at the first that it rejects it drops the walker and yields
    -- nothing. If the walker yields nothing, it keeps it and does not call the predicate.
    pub record TakeWhileStep (w : Option W) (f : F) (r : Option A) (w' : Option W) (f' : F) : Type 0 where
      pub gives : MatchOption w ((r ≡ None) × (w' ≡ None) × (f' ≡ f))
          (λ v. (answer : Option A) × (v' : W) × steps v answer v'
          × MatchOption answer ((r ≡ None) × (w' ≡ Some v') × (f' ≡ f))
          (λ x. (b : Bool) × CallsItem m f g x b f'
          × MatchBool b ((r ≡ Some x) × (w' ≡ Some v')) ((r ≡ None) × (w' ≡ None))))

  module _ {F G : Type 0} (m : Mut F (Bor G × (Bor A × Unit {0})) (Unit {0})) (g : G) where
    -- It yields the steps of the walker, and calls the function with each item first, but not at `None`.
    pub record InspectStep (w : W) (f : F) (r : Option A) (w' : W) (f' : F) : Type 0 where
      pub gives : steps w r w'
      pub called : MatchOption r (f' ≡ f) (λ x. CallsItem m f g x tt f')

-- how many items a chain may still yield: those of the first walker, if it is not dropped, and those of the second
abbrev pub chain_left : {W : Type 0} → (W → Count) → Count → Option W → Count
chain_left left others None = others
chain_left left others (Some w) = count_add (left w) others
