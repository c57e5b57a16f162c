-- A loop that filters the nodes in turn.
use Rattle.std.proofs.Common.{◌≡◌, ℕ, zero, suc, ◌+◌, ◌<◌, ◌≤◌, List, [], ◌∷◌, ◌++◌, length, drop, get_or, Option, Some}
use Rattle.std.proofs.Common.{None, map, refl, sym, ap, subst, ◌∙◌, arith, append-nil, append_assoc}
use Rattle.std.proofs.lemmas.List.{length-map, get_or-map, drop_more, drop_all}
use Rattle.std.specs.Borrow.{Bor}
use Rattle.std.proofs.lemmas.Option.{same_Some, none-some}
use Rattle.daggy_base.specs.Graph.{Graph, Edge as PlainEdge, empty, slot}
use Rattle.daggy_base.specs.Mapping.{CalledAt}
use Rattle.daggy_base.specs.Filtering.{with_kept_node, named, with_kept_edge, both, new_ends, FiltersNodes, FiltersEdge}
use Rattle.daggy_base.specs.Filtering.{FiltersEdges}
use Rattle.daggy_graph.specs.Names.{AreNamesBelow}

-- the slot i is there and holds x
pub record Holds {A : Type 0} (slots : List (Option A)) (i : ℕ) (x : A) : Type 0 where
  pub within : i < length slots
  pub is : get_or slots i (Some x) ≡ Some x

pub Holds-read : {C A : Type 0} (read : C → Option A) (cells : List C) {i : ℕ} {c : C} (x : A)
    → i < length cells → c ≡ get_or cells i c → read c ≡ Some x → Holds (map read cells) i x
Holds-read read cells {i} {c} x within is holds = record {
  within = omega (arith, within, length-map cells read);
  is = get_or-map read cells i c (Some x) within ∙ ap read (sym is) ∙ holds;
}

drop_held : {A : Type 0} {slots : List (Option A)} {i : ℕ} {x : A}
    → Holds slots i x → drop i slots ≡ Some x ∷ drop (i + 1) slots
drop_held {A} {slots} {i} {x} held =
    drop_more slots i (Some x) held.within ∙ ap (λ y. y ∷ drop (i + 1) slots) held.is

module _ {N V W F I : Type 0} (step : F → I → Bor N → Option V → F → Type 0) (of : ℕ → I) where
  abbrev pub FilteredBelow : F → List (Option N) → F → List (Option ℕ) → Graph V W → ℕ → Type 0
  FilteredBelow first slots f names h i =
      (more : List (Option ℕ)) (new : Graph V W) → FiltersNodes step of f i (drop i slots) h more new
      → FiltersNodes step of first 0 slots empty (names ++ more) new

  pub FilteredBelow-called : (first : F) (slots : List (Option N)) {f next : F} (names : List (Option ℕ))
      (h : Graph V W) {i : ℕ} {x : N} {r : Option V}
      → Holds slots i x → CalledAt step of f i x r next → FilteredBelow first slots f names h i
      → FilteredBelow first slots next (names ++ named h r ∷ []) (with_kept_node h r) (i + 1)
  FilteredBelow-called first slots {f} {next} names h {i} {x} {r} held called kept more new later =
      rw (append_assoc) (kept (named h r ∷ more) new (rw (drop_held held) (r, next, called, more, refl, later)))

  pub FilteredBelow-done : (first : F) (slots : List (Option N)) (f : F) (names : List (Option ℕ)) (h : Graph V W)
      (i : ℕ)
      → length slots ≤ i → FilteredBelow first slots f names h i → FiltersNodes step of first 0 slots empty names h
  FilteredBelow-done first slots f names h i past kept =
      rw (append-nil names) at (kept [] h (rw (drop_all i slots past) (refl, refl)))

pub AreNamesBelow-more : (n m : ℕ) (xs : List (Option ℕ)) → n ≤ m → AreNamesBelow n xs → AreNamesBelow m xs
AreNamesBelow-more n m [] p w = tt
AreNamesBelow-more n m (None ∷ xs) p w = AreNamesBelow-more n m xs p w
AreNamesBelow-more n m (Some k ∷ xs) p w = (omega (arith, p, w.0), AreNamesBelow-more n m xs p w.1)

pub AreNamesBelow-push_none : (n : ℕ) (xs : List (Option ℕ)) → AreNamesBelow n xs → AreNamesBelow n (xs ++ None ∷ [])
AreNamesBelow-push_none n [] w = tt
AreNamesBelow-push_none n (None ∷ xs) w = AreNamesBelow-push_none n xs w
AreNamesBelow-push_none n (Some k ∷ xs) w = (w.0, AreNamesBelow-push_none n xs w.1)

pub AreNamesBelow-push : (n m k : ℕ) (xs : List (Option ℕ))
    → n ≤ m → k < m → AreNamesBelow n xs → AreNamesBelow m (xs ++ Some k ∷ [])
AreNamesBelow-push n m k [] p q w = (q, tt)
AreNamesBelow-push n m k (None ∷ xs) p q w = AreNamesBelow-push n m k xs p q w
AreNamesBelow-push n m k (Some j ∷ xs) p q w = (omega (arith, p, w.0), AreNamesBelow-push n m k xs p q w.1)

pub named_within : (n : ℕ) (xs : List (Option ℕ)) (i k : ℕ) → AreNamesBelow n xs → slot xs i ≡ Some k → k < n
named_within n [] i k w p = absurd (none-some k p)
named_within n (None ∷ xs) zero k w p = absurd (none-some k p)
named_within n (None ∷ xs) (suc i) k w p = named_within n xs i k w p
named_within n (Some j ∷ xs) zero k w p = subst (λ z. z < n) (same_Some j k p) w.0
named_within n (Some j ∷ xs) (suc i) k w p = named_within n xs i k w.1 p

pub both_are : (p q : Option ℕ) (a b : ℕ) → Some (a, b) ≡ both p q → (p ≡ Some a) × (q ≡ Some b)
both_are None q a b e = absurd (none-some (a, b) (sym e))
both_are (Some x) None a b e = absurd (none-some (a, b) (sym e))
both_are (Some x) (Some y) a b e = let s = same_Some (a, b) (x, y) e in
    (ap (λ z. Some z.0) (sym s), ap (λ z. Some z.1) (sym s))

module _ {E V W G I : Type 0} (step : G → I → Bor E → Option W → G → Type 0) (of : ℕ → I)
    (names : List (Option ℕ)) where
  abbrev pub EdgesBelow : G → List (Option (PlainEdge E)) → Graph V W → G → Graph V W → ℕ → Type 0
  EdgesBelow first slots start g h i =
      (new : Graph V W)
      → FiltersEdges step of names g i (drop i slots) h new → FiltersEdges step of names first 0 slots start new

  pub EdgesBelow-passed : (first : G) (slots : List (Option (PlainEdge E))) (start : Graph V W) (g : G) (h : Graph V W)
      {i : ℕ} {x : PlainEdge E}
      → Holds slots i x → new_ends names x ≡ None → EdgesBelow first slots start g h i
      → EdgesBelow first slots start g h (i + 1)
  EdgesBelow-passed first slots start g h {i} {x} held lost kept new later =
      kept new (rw (drop_held held) (subst (λ o. FiltersEdge step of names g i x.weight o h
      (λ next mid. FiltersEdges step of names next (i + 1) (drop (i + 1) slots) mid new)) (sym lost) later))

  pub EdgesBelow-called : (first : G) (slots : List (Option (PlainEdge E))) (start : Graph V W) {g next : G}
      (h : Graph V W) {i : ℕ} {x : PlainEdge E} {a b : ℕ} {r : Option W}
      → Holds slots i x → new_ends names x ≡ Some (a, b) → CalledAt step of g i x.weight r next
      → EdgesBelow first slots start g h i
      → EdgesBelow first slots start next (with_kept_edge h (a, b) r) (i + 1)
  EdgesBelow-called first slots start {g} {next} h {i} {x} {a} {b} {r} held ends called kept new later =
      kept new (rw (drop_held held) (subst
      (λ o. FiltersEdge step of names g i x.weight o h
      (λ next mid. FiltersEdges step of names next (i + 1) (drop (i + 1) slots) mid new)) (sym ends) (
        r,
        next,
        called,
        later,
      )))

  pub EdgesBelow-done : (first : G) (slots : List (Option (PlainEdge E))) (start : Graph V W) (g : G) (h : Graph V W)
      (i : ℕ)
      → length slots ≤ i → EdgesBelow first slots start g h i → FiltersEdges step of names first 0 slots start h
  EdgesBelow-done first slots start g h i past kept = kept h (rw (drop_all i slots past) refl)
