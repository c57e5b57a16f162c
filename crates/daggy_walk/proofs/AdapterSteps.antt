-- What a step of a walker tells an adapter: where its function may be called next, and how the bound falls.
use Rattle.std.proofs.Common.{◌≡◌, ℕ, ◌+◌, ◌≤◌, ◌<◌, Bool, true, false, cond, Option, Some, None, List, [], ◌∷◌, ◌++◌}
use Rattle.std.proofs.Common.{length, refl, sym, subst, ap, ◌∙◌, arith}
use Rattle.std.specs.Prelude.{MatchOption}
use Rattle.std.specs.Option.{option_len}
use Rattle.std.specs.Iterator.{Count, IsFinite, size, at_most, Yields}
use Rattle.std.specs.List.{FoldsTo}
use Rattle.std.specs.Fn.{Called}
use denote.Ref.{Bor}
use denote.Param.Members.{Mut}
use lib.Dec.{T}
use Rattle.daggy_walk.specs.Adapters.{chain_left}
use Rattle.daggy_walk.specs.Walking.{Proceeds, Answers, CallsItem, CallableAlong}

-- ---- bounds

-- an item lowers the bound
pub lowers : {W A : Type 0} {can : W → Type 0} {left : W → Count} {s t : W} {r : Option A} {x : A}
    → Proceeds can left s r t → r ≡ Some x
    → IsFinite (left s) → size (left t) < size (left s)
lowers {left = left} {s = s} {t = t} g e h = omega (arith, (g.falls h).1, subst (λ o. option_len o ≡ 1) (sym e) refl)

-- ---- calls

module _ {F G A R : Type 0} (m : Mut F (Bor G × (Bor A × Unit {0})) R) where
  pub calls_item : {f f' : F} {p : Bor G} {q : Bor A} {r v : R}
      → Called m f (p, (q, tt)) r f' → r ≡ v → CallsItem m f p.now q.now v f'
  calls_item {f} {f'} {p} {q} h e = record {
    graph = p;
    item = q;
    shows = (refl, refl);
    called = subst (λ k. Called m f (p, (q, tt)) k f') e h;
  }

module _ {W A F : Type 0} {steps : W → Option A → W → Type 0} {calls : F → A → F → Type 0} {takes : F → A → Type 0}
    {w : W} {f : F}
    (h : CallableAlong steps calls takes w f) where
  pub served : (x : A) (u : W) → steps w (Some x) u → takes f x
  served x u e = h.at [] w f x u refl e

  pub on_item : (x : A) (u : W) (f' : F) → steps w (Some x) u → calls f x f' → CallableAlong steps calls takes u f'
  on_item x u f' e k = record { at = λ rs v q y z a b. h.at (Some x ∷ rs) v q y z ((u, f'), (e, k), a) b }

  pub on_none : (u : W) → steps w None u → CallableAlong steps calls takes u f
  on_none u e = record { at = λ rs v q y z a b. h.at (None ∷ rs) v q y z ((u, f), (e, refl), a) b }

-- ---- runs of steps

pub Yields-more : {S A : Type 0} (steps : S → Option A → S → Type 0) (s : S) (xs : List A) (t : S) (x : A) (u : S)
    → Yields steps s xs t → steps t (Some x) u → Yields steps s (xs ++ (x ∷ [])) u
Yields-more steps s [] t x u y p = (u, subst (λ k. steps k (Some x) u) (sym y) p, refl)
Yields-more steps s (z ∷ xs) t x u y p = (y.0, y.1, Yields-more steps y.0 xs t x u y.2 p)

pub FoldsTo-more : {P A : Type 0} (R : P → A → P → Type 0) (p : P) (xs : List A) (q : P) (x : A) (u : P)
    → FoldsTo R p xs q → R q x u → FoldsTo R p (xs ++ (x ∷ [])) u
FoldsTo-more R p [] q x u y e = (u, subst (λ k. R k x u) (sym y) e, refl)
FoldsTo-more R p (z ∷ xs) q x u y e = (y.0, y.1, FoldsTo-more R y.0 xs q x u y.2 e)

-- A loop passed over items: steps led from s to w, and calls from p to f.
pub record Passed {W A F : Type 0} (can : W → Type 0) (left : W → Count) (steps : W → Option A → W → Type 0)
    (turn : F → A → F → Type 0)
    (s : W) (p : F) (w : W) (f : F) : Type 0 where
  pub seen : List A
  pub gave : Yields steps s seen w
  pub called : FoldsTo turn p seen f
  pub callable : can w
  pub bound : IsFinite (left s) → IsFinite (left w) × (size (left w) ≤ size (left s))

module _ {W A F : Type 0} {can : W → Type 0} {left : W → Count} {steps : W → Option A → W → Type 0}
    {turn : F → A → F → Type 0} where
  pub passed_none : {s : W} {p : F} → can s → Passed can left steps turn s p s p
  passed_none h = record { seen = []; gave = refl; called = refl; callable = h; bound = λ k. (k, omega arith) }

  module _ {s w : W} {p f : F} (h : Passed can left steps turn s p w f) where
    pub passed_more : (x : A) (u : W) (f' : F)
        → steps w (Some x) u → Proceeds can left w (Some x) u → turn f x f' → Passed can left steps turn s p u f'
    passed_more x u f' e g k = record {
      seen = h.seen ++ (x ∷ []);
      gave = Yields-more steps s h.seen w x u h.gave e;
      called = FoldsTo-more turn p h.seen f x f' h.called k;
      callable = g.stays;
      bound = λ i. let a = h.bound i in let b = g.falls a.0 in (b.0, omega (arith, a.1, b.1));
    }

    pub passed_then : (r : Option A) (u : W) → steps w r u → Proceeds can left w r u → Proceeds can left s r u
    passed_then r u e g = record {
      stays = g.stays;
      falls = λ i. let a = h.bound i in let b = g.falls a.0 in (b.0, omega (arith, a.1, b.1));
    }

-- The first n answers of a walk, of which each may be `None`.
pub record Went {W A : Type 0} (can : W → Type 0) (left : W → Count) (steps : W → Option A → W → Type 0) (s : W) (n : ℕ)
    (w : W) : Type 0 where
  pub seen : List (Option A)
  pub all : length seen ≡ n
  pub answered : Answers steps s seen w
  pub callable : can w
  pub bound : IsFinite (left s) → IsFinite (left w) × (size (left w) ≤ size (left s))

length_more : {A : Type 0} (xs : List A) (x : A) → length (xs ++ (x ∷ [])) ≡ length xs + 1
length_more [] x = refl
length_more (y ∷ xs) x = let e = length_more xs x in omega (arith, e)

module _ {W A : Type 0} {can : W → Type 0} {left : W → Count} {steps : W → Option A → W → Type 0} where
  pub went_none : {s : W} → can s → Went can left steps s 0 s
  went_none h = record { seen = []; all = refl; answered = refl; callable = h; bound = λ k. (k, omega arith) }

  module _ {s w : W} {n : ℕ} (h : Went can left steps s n w) where
    pub went_more : {u : W} {r : Option A} → steps w r u → Proceeds can left w r u → Went can left steps s (n + 1) u
    went_more {u} {r} e g = record {
      seen = h.seen ++ (r ∷ []);
      all = length_more h.seen r ∙ ap (λ k. k + 1) h.all;
      answered = FoldsTo-more {P = W} {A = Option A} steps s h.seen w r u h.answered e;
      callable = g.stays;
      bound = λ i. let a = h.bound i in let b = g.falls a.0 in (b.0, omega (arith, a.1, b.1));
    }

    pub went_then : {u : W} {r : Option A} → Proceeds can left w r u → Proceeds can left s r u
    went_then g = record {
      stays = g.stays;
      falls = λ i. let a = h.bound i in let b = g.falls a.0 in (b.0, omega (arith, a.1, b.1));
    }

-- ---- what is known of an answer, at the answer by name

pub said : {S A : Type 0} (steps : S → Option A → S → Type 0) {s t : S} {r o : Option A}
    → r ≡ o → steps s r t → steps s o t
said steps {s} {t} e h = subst (λ k. steps s k t) e h

pub went_on : {S A : Type 0} {can : S → Type 0} {left : S → Count} {s t : S} {r o : Option A}
    → r ≡ o → Proceeds can left s r t → Proceeds can left s o t
went_on {can = can} {left = left} {s = s} {t = t} e h = subst (λ k. Proceeds can left s k t) e h

pub tell_some : {A : Type 0} {o : Option A} {x : A} (P : Type 0) (Q : A → Type 0) → o ≡ Some x → Q x → MatchOption o P Q
tell_some P Q e h = subst (λ k. MatchOption k P Q) (sym e) h

pub some_of_none : {A : Type 0} {P : Type 0} {x : A} → None ≡ Some x → P
some_of_none e = absurd (cc)

-- ---- a walker that is kept or was dropped

bounded_alone : (b : Bool) → T (cond b true false) → T b
bounded_alone true h = tt
bounded_alone false h = absurd h

bounded_still : (b : Bool) → T b → T (cond b true false)
bounded_still true h = tt
bounded_still false h = absurd h

-- how the bound falls where the walker is kept
pub falls_kept : {W A : Type 0} {can : W → Type 0} {left : W → Count} {s t : W} {o : Option W} {r : Option A}
    → o ≡ Some s → Proceeds can left s r t
    → IsFinite (chain_left left (at_most 0) o)
    → IsFinite (chain_left left (at_most 0) (Some t))
    × (size (chain_left left (at_most 0) (Some t)) + option_len r ≤ size (chain_left left (at_most 0) o))
falls_kept {left = left} {s = s} {t = t} {o = o} {r = r} e g =
    subst (λ k. IsFinite (chain_left left (at_most 0) k) → IsFinite (chain_left left (at_most 0) (Some t))
    × (size (chain_left left (at_most 0) (Some t)) + option_len r ≤ size (chain_left left (at_most 0) k)))
    (sym e) (λ h. let a = g.falls (bounded_alone (left s).bounded h) in
    (bounded_still (left t).bounded a.0, omega (arith, a.1)))

-- what holds of the walker that is kept
pub at_kept : {W : Type 0} (P : W → Type 0) {s t : W} → Some s ≡ Some t → P s → P t
at_kept P {s} {t} e h = let k : s ≡ t = cc in subst P k h
