-- A refresh under way.
use Rattle.std.proofs.Common.{◌≡◌, ◌≢◌, ℕ, zero, suc, ◌+◌, ◌-◌, ◌<◌, ◌≤◌, ◌⊎◌, inl, inr, Bool, true, false, List, [], ◌∷◌, ◌++◌}
use Rattle.std.proofs.Common.{length, map, refl, sym, ap, subst, ◌∙◌, arith, cond, if◌then◌else◌}
use Rattle.std.proofs.lemmas.List.{append-nil, map-append}
use Rattle.std.proofs.lemmas.Bool.{cases_eq}
use Rattle.daggy_base.specs.Graph.{Graph, HasNode}
use Rattle.daggy_base.specs.Ordered.{IsOrderOf, place}
use Rattle.daggy_base.specs.Path.{AreJoined}
use Rattle.daggy_base.proofs.Lists.{Mem, mem_cases, contains_mem, mem_contains}
use Rattle.daggy_base.proofs.Sorted.{place_same, place_other, place_at, same_place}
use Rattle.daggy_computed.specs.declared.entry.Entry.{Entry}
use Rattle.daggy_computed.specs.Cells.{cells, entry_at, IsStaleAt}
use Rattle.daggy_computed.specs.Refreshing.{IsAscending, IsUnderWay}
use Rattle.daggy_computed.specs.Settling.{IsTurn, Refreshes}
use Rattle.daggy_computed.proofs.Turns.{one_more}

-- how many nodes of an order come before the first stale one
abbrev pub behind : {V : Type 0} → List (Entry V) → List ℕ → ℕ
behind es [] = 0
behind es (n ∷ ns) = cond (entry_at es n).stale 0 (suc (behind es ns))

module _ {V : Type 0} (es : List (Entry V)) where
  behind_step : (b : Bool) (k : ℕ) → b ≡ false → cond b 0 (suc k) ≡ suc k
  behind_step true k e = absurd cc
  behind_step false k e = refl

  -- not past a stale node
  pub behind_low : (order : List ℕ) (n : ℕ) → Mem n order → IsStaleAt es n → behind es order ≤ place order n
  behind_low [] n m s = absurd m
  behind_low (x ∷ xs) n m s =
      elim (cases_eq x n) [
        | inl e ↦ (
            let on : (entry_at es x).stale ≡ true = subst (IsStaleAt es) (sym e) s in
            let zero_is : behind es (x ∷ xs) ≡ 0 = ap (λ b. cond b 0 (suc (behind es xs))) on in
            omega (arith, zero_is)
            )
        | inr d ↦ (
            let later : Mem n xs = elim m [ inl e ↦ absurd (d (sym e)) | inr k ↦ k ] in
            let rest = behind_low xs n later s in
            let at = place_other x n xs d in
            omega (arith, most (entry_at es x).stale (behind es xs), rest, at)
            )
      ]
    where
      most : (b : Bool) (k : ℕ) → cond b 0 (suc k) ≤ suc k
      most true k = omega arith
      most false k = omega arith

  -- at least to the first stale node
  pub behind_high : (order : List ℕ) (q : ℕ) → q ≤ length order
      → ((m : ℕ) → Mem m order → IsStaleAt es m → q ≤ place order m) → q ≤ behind es order
  behind_high [] q low h = omega (arith, low)
  behind_high (x ∷ xs) zero low h = omega arith
  behind_high (x ∷ xs) (suc q) low h = go (entry_at es x).stale refl
      (behind_high xs q (omega (arith, low))
      (λ m k s. elim (cases_eq x m) [
        | inl e ↦ absurd (omega (arith, h m (inr k) s, place_same x m xs e))
        | inr d ↦ omega (arith, h m (inr k) s, place_other x m xs d)
      ]))
    where
      go : (b : Bool) → (entry_at es x).stale ≡ b → q ≤ behind es xs → suc q ≤ behind es (x ∷ xs)
      go true e rest = absurd (omega (arith, h x (inl refl) e, place_same x x xs refl))
      go false e rest = omega (arith, rest, behind_step (entry_at es x).stale (behind es xs) e)

-- one node more, which stands after all
pub ascending_more : (order ns : List ℕ) (n : ℕ) → IsAscending order ns
    → ((t : ℕ) → Mem t ns → place order t < place order n) → IsAscending order (ns ++ n ∷ [])
ascending_more order [] n a after = (λ m c. absurd (contains_mem [] m c), tt)
ascending_more order (t ∷ ns) n a after = (
  λ m c. elim (mem_cases ns (n ∷ []) m (contains_mem (ns ++ n ∷ []) m c)) [
    | inl k ↦ a.0 m (mem_contains ns m k)
    | inr k ↦ elim k [
      | inl e ↦ omega (arith, after t (inl refl), ap (place order) e)
      | inr k ↦ absurd k
    ]
  ],
  ascending_more order ns n a.1 (λ u k. after u (inr k)),
)

module _ {K V E : Type 0} (eq : V → V → Bool) (gives : K → List V → V → Type 0) (order : List ℕ) (g : Graph K E) where
  pub begins : (es : List (Entry V)) (changed : List ℕ) → changed ≡ [] → IsUnderWay eq gives order g es es changed
  begins es changed none =
      record { turns = []; ascending = tt; refreshes = (refl, none); later = λ t m k s. absurd (contains_mem [] t k) }

  module _ (ordered : IsOrderOf g order) (es now next : List (Entry V)) (changed : List ℕ) (n : ℕ) (b : Bool)
      (u : IsUnderWay eq gives order g es now changed) (turn : IsTurn eq gives n (cells g now) (cells g next) b)
      (stale : IsStaleAt now n) (real : (m : ℕ) → IsStaleAt now m → HasNode g m)
      (first : (m : ℕ) → IsStaleAt now m → place order n ≤ place order m)
      (after : (m : ℕ) → IsStaleAt next m → AreJoined g n m ⊎ ((m ≢ n) × IsStaleAt now m)) where
    held : (m : ℕ) → IsStaleAt now m → Mem m order
    held m s = contains_mem order m ((ordered.exact m).1 (real m s))

    pub past : (m : ℕ) → IsStaleAt next m → place order n < place order m
    past m s =
        elim (after m s) [
          | inl j ↦ ordered.sorted n m j
          | inr t ↦ (
              let low = first m t.1 in
              let apart : place order n ≢ place order m = λ e. t.0 (sym (same_place order n m (held n stale) (held m t.1) e)) in
              omega (arith, low, apart)
              )
        ]

    pub goes_on : (more : List ℕ) → more ≡ changed ++ (if b then n ∷ [] else []) → IsUnderWay eq gives order g es next more
    goes_on more is =
        record {
          turns = u.turns ++ n ∷ [];
          ascending = ascending_more order u.turns n u.ascending (λ t k. u.later t n (mem_contains u.turns t k) stale);
          refreshes = subst (Refreshes eq gives (u.turns ++ n ∷ []) (cells g es) (cells g next)) (sym is)
              (one_more eq gives u.turns n (cells g es) (cells g now) (cells g next) changed b u.refreshes turn);
          later = λ t m k s. elim (mem_cases u.turns (n ∷ []) t (contains_mem (u.turns ++ n ∷ []) t k)) [
            | inl k ↦ omega (arith, u.later t n (mem_contains u.turns t k) stale, past m s)
            | inr k ↦ elim k [
              | inl e ↦ omega (arith, ap (place order) e, past m s)
              | inr k ↦ absurd k
            ]
          ];
        }

    -- and the first stale node stands later
    pub nearer : length order - behind next order < length order - behind now order
    nearer =
        let here = held n stale in
        let low = behind_low now order n here stale in
        let inside = (place_at order n here).0 in
        let high = behind_high next order (place order n + 1) (omega (arith, inside)) (λ m k s. omega (arith, past m s)) in
        omega (arith, low, inside, high)

-- a node whose value is new is noted
module _ {I : Type 0} (number : I → ℕ) (old room : List I) (b : Bool) (room_is : room ≡ old) where
  pub noted : (new : List I) (n : I) → new ≡ room ++ n ∷ [] → b ≡ true
      → map number new ≡ map number old ++ (if b then number n ∷ [] else [])
  noted new n is on =
      ap (map number) is
      ∙ (map-append number room (n ∷ [])
      ∙ (ap (λ z. map number z ++ number n ∷ []) room_is ∙ ap (λ z. map number old ++ (if z then number n ∷ [] else [])) (sym on)))

  pub not_noted : (n : ℕ) → b ≡ false → map number room ≡ map number old ++ (if b then n ∷ [] else [])
  not_noted n off =
      ap (map number) room_is
      ∙ (sym (append-nil (map number old)) ∙ ap (λ z. map number old ++ (if z then n ∷ [] else [])) (sym off))
