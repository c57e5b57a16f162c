-- Walks: how a step may change the bound of a walk, and when the function of a walk may be called.
use Rattle.std.specs.Prelude.{◌≡◌, ◌+◌, ◌≤◌, Option, Some, List, MatchOption}
use Rattle.std.specs.Option.{option_len}
use Rattle.std.specs.Iterator.{Count, IsFinite, size}
use Rattle.std.specs.List.{FoldsTo}
use Rattle.std.specs.Fn.{Called, Takes}
use denote.Ref.{Bor}
use denote.Param.Members.{Mut}

-- A step over one graph went from s to t and returned r. If that step was allowed, the next one is. The bound, if there
-- is one, decreases by at least one if an item was yielded, and never increases.
pub record Proceeds {W A : Type 0} (can : W → Type 0) (left : W → Count) (s : W) (r : Option A) (t : W) : Type 0 where
  pub stays : can t
  pub falls : IsFinite (left s) → IsFinite (left t) × (size (left t) + option_len r ≤ size (left s))

-- steps went from s to t and returned these results, each of which may be `None`
abbrev pub Answers : {W A : Type 0} → (W → Option A → W → Type 0) → W → List (Option A) → W → Type 0
Answers {W} {A} steps s rs t = FoldsTo {P = W} {A = Option A} steps s rs t

module _ {F G A R : Type 0} (m : Mut F (Bor G × (Bor A × Unit {0})) R) where
  -- f may be called with a `&` to the graph g and one to the item x
  abbrev pub TakesItem : F → G → A → Type 0
  TakesItem f g x = (p : Bor G) (q : Bor A) → p.now ≡ g → q.now ≡ x → Takes m f (p, (q, tt))

  -- such a call may return r and turn f into f'
  pub record CallsItem (f : F) (g : G) (x : A) (r : R) (f' : F) : Type 0 where
    pub graph : Bor G
    pub item : Bor A
    pub shows : (graph.now ≡ g) × (item.now ≡ x)
    pub called : Called m f (graph, (item, tt)) r f'

module _ {W A F : Type 0} (steps : W → Option A → W → Type 0) (calls : F → A → F → Type 0) where
  -- a step of the walker, and a call with its item if it yielded one
  abbrev pub Turns : W × F → Option A → W × F → Type 0
  Turns s r t = steps s.0 r t.0 × MatchOption r (t.1 ≡ s.1) (λ x. calls s.1 x t.1)

  -- wherever such steps and calls lead, f may be called with the next item
  pub record CallableAlong (takes : F → A → Type 0) (w : W) (f : F) : Type 0 where
    pub at : (rs : List (Option A)) (v : W) (h : F) (x : A) (u : W)
        → FoldsTo {P = W × F} {A = Option A} Turns (w, f) rs (v, h) → steps v (Some x) u → takes h x
