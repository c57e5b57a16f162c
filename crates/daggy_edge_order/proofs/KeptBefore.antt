-- What precedes a node still precedes it after way was made for an edge to it.
use Rattle.std.proofs.Common.{◌≡◌, ◌≢◌, ℕ, ◌+◌, ◌<◌, ◌≤◌, not, eqb, inl, inr, List, [], ◌∷◌, ◌++◌, take, drop}
use Rattle.std.proofs.Common.{refl, sym, ap, subst, ◌∙◌, arith}
use Rattle.std.specs.List.{filter}
use Rattle.std.proofs.lemmas.Bool.{cases_eq, cases_lt, cases_Bool, eq-eqb}
use Rattle.daggy_base.specs.Graph.{Graph, HasNode}
use Rattle.daggy_base.specs.Ordered.{IsOrderOf, IsParted, place, stretch}
use Rattle.daggy_base.specs.Path.{Reaches}
use Rattle.daggy_base.specs.Removal.{without}
use Rattle.daggy_base.proofs.Lists.{Mem, Unique, contains_mem, mem_contains, split_at, unique_from_distinct}
use Rattle.daggy_base.proofs.ListParts.{filter_yes, filter_no, is_held, in_stretch, split_three}
use Rattle.daggy_base.proofs.PathsWithEdge.{reaches_itself}
use Rattle.daggy_base.proofs.Sorted.{mem_filter, place_same, place_other, place_at, same_place, parts_before}

-- where only what stands from b on changes
early_stays : (order : List ℕ) (b u : ℕ) (rest : List ℕ)
    → place order u < place order b → place (take (place order b) order ++ rest) u < place order b
early_stays [] b u rest h = absurd (omega (arith, h))
early_stays (x ∷ xs) b u rest h =
    elim (cases_eq x b) [
      | inl e ↦ absurd (omega (arith, h, place_same x b xs e))
      | inr d ↦ (
          let k = place xs b in
          let P : ℕ → Type 0 = λ z. place (take z (x ∷ xs) ++ rest) u < z in
          subst P (sym (place_other x b xs d)) (elim (cases_eq x u) [
            | inl e ↦ omega (arith, place_same x u (take k xs ++ rest) e)
            | inr f ↦ (
                let before : place xs u < place xs b = omega (arith, h, place_other x u xs f, place_other x b xs d) in
                omega (arith, place_other x u (take k xs ++ rest) f, early_stays xs b u rest before)
                )
          ])
          )
    ]

late_stays : (order : List ℕ) (b : ℕ) (rest : List ℕ)
    → place order b ≤ place (take (place order b) order ++ rest) b
late_stays [] b rest = omega arith
late_stays (x ∷ xs) b rest =
    elim (cases_eq x b) [
      | inl e ↦ omega (arith, place_same x b xs e)
      | inr d ↦ (
          let P : ℕ → Type 0 = λ z. z ≤ place (take z (x ∷ xs) ++ rest) b in
          subst P (sym (place_other x b xs d))
          (omega (arith, place_other x b (take (place xs b) xs ++ rest) d, late_stays xs b rest))
          )
    ]

pub kept_parted : {N E : Type 0} (g : Graph N E) (a b u : ℕ) (old new : List ℕ)
    → IsParted g a b old new → place old u < place old b → place new u < place new b
kept_parted g a b u old new p h =
    let part = stretch old (place old b) (place old a + 1) in
    let rest = filter (λ n. not (p.test n)) part ++ (filter p.test part ++ drop (place old a + 1) old) in
    let P : List ℕ → Type 0 = λ z. place z u < place z b in
    subst P (sym p.is) (omega (arith, early_stays old b u rest h, late_stays old b rest))

-- what does not precede b then, and did not follow a before, is reached from b
pub reached_behind : {N E : Type 0} (g : Graph N E) (a b u : ℕ) (old new : List ℕ) → IsOrderOf g old
    → HasNode g b → HasNode g u → IsParted g a b old new → place old b ≤ place old a → place old u ≤ place old a
    → place new b ≤ place new u → Reaches g b u
reached_behind g a b u old new ord has_b has_u p window within late =
    let low = place old b in
    let high = place old a + 1 in
    let part = stretch old low high in
    let held : (n : ℕ) → HasNode g n → Mem n old = λ n h. contains_mem old n ((ord.exact n).1 h) in
    let inside : (n : ℕ) → HasNode g n → low ≤ place old n → place old n ≤ place old a → Mem n part = λ n h above below.
    let at = place_at old n (held n h) in
    let P : ℕ → Type 0 = λ z. Mem z part in
    subst P at.1 (in_stretch old low high (place old n) above (omega (arith, below)) at.0) in
    elim (cases_lt (place old u) low) [
      | inl early ↦ absurd (omega (arith, kept_parted g a b u old new p early, late))
      | inr after ↦ (
          let u_in = inside u has_u after within in
          let b_in = inside b has_b (omega arith) window in
          elim (cases_Bool (p.test u)) [
            | inl t ↦ (p.exact u (mem_contains part u u_in)).0 t
            | inr f ↦ (
                let U : List ℕ → Type 0 = λ z. Unique z in
                let once = subst U (split_three old low high (omega (arith, window))) (unique_from_distinct old ord.once) in
                let first =
                parts_before p.test (take low old) part (drop high old) once u b u_in b_in (ap not f)
                ((p.exact b (mem_contains part b b_in)).1 (reaches_itself g b has_b)) in
                let Q : List ℕ → Type 0 = λ z. place z u < place z b in
                absurd (omega (arith, subst Q (sym p.is) first, late))
                )
          ]
          )
    ]

-- where another node is taken out
kept_without : (order : List ℕ) (a b u : ℕ) → u ≢ a → b ≢ a
    → place order u < place order b → place (without a order) u < place (without a order) b
kept_without [] a b u ua ba h = absurd (omega (arith, h))
kept_without (x ∷ xs) a b u ua ba h =
    let P : List ℕ → Type 0 = λ z. place z u < place z b in
    elim (cases_eq x a) [
      | inl e ↦ (
          let du : x ≢ u = λ k. ua (sym k ∙ e) in
          let db : x ≢ b = λ k. ba (sym k ∙ e) in
          let before : place xs u < place xs b = omega (arith, h, place_other x u xs du, place_other x b xs db) in
          subst P (sym (filter_no (λ y. not (eqb y a)) x xs (ap not (eq-eqb x a e))))
          (kept_without xs a b u ua ba before)
          )
      | inr d ↦ subst P (sym (filter_yes (λ y. not (eqb y a)) x xs (is_held a x d))) (elim (cases_eq x b) [
        | inl e ↦ absurd (omega (arith, h, place_same x b xs e))
        | inr db ↦ elim (cases_eq x u) [
          | inl e ↦ omega (arith, place_same x u (without a xs) e, place_other x b (without a xs) db)
          | inr du ↦ (
              let before : place xs u < place xs b = omega (arith, h, place_other x u xs du, place_other x b xs db) in
              omega (
                arith,
                place_other x u (without a xs) du,
                place_other x b (without a xs) db,
                kept_without xs a b u ua ba before,
              )
              )
        ]
      ])
    ]

-- where that node is put first
pub kept_first : (order : List ℕ) (a b u : ℕ)
    → a ≢ b → place order u < place order b → place (a ∷ without a order) u < place (a ∷ without a order) b
kept_first order a b u d h =
    elim (cases_eq a u) [
      | inl e ↦ omega (arith, place_same a u (without a order) e, place_other a b (without a order) d)
      | inr f ↦
          omega (
            arith,
            place_other a u (without a order) f,
            place_other a b (without a order) d,
            kept_without order a b u (λ k. f (sym k)) (λ k. d (sym k)) h,
          )
    ]

-- or right before b
kept_inserted : (ns ms : List ℕ) (a b u : ℕ) → a ≢ b → place (ns ++ b ∷ ms) u < place (ns ++ b ∷ ms) b
    → place (ns ++ a ∷ (b ∷ ms)) u < place (ns ++ a ∷ (b ∷ ms)) b
kept_inserted [] ms a b u d h = absurd (omega (arith, h, place_same b b ms refl))
kept_inserted (y ∷ ns) ms a b u d h =
    let old = ns ++ b ∷ ms in
    let new = ns ++ a ∷ (b ∷ ms) in
    elim (cases_eq y b) [
      | inl e ↦ absurd (omega (arith, h, place_same y b old e))
      | inr db ↦ elim (cases_eq y u) [
        | inl e ↦ omega (arith, place_same y u new e, place_other y b new db)
        | inr du ↦ (
            let before : place old u < place old b = omega (arith, h, place_other y u old du, place_other y b old db) in
            omega (arith, place_other y u new du, place_other y b new db, kept_inserted ns ms a b u d before)
            )
      ]
    ]

pub kept_moved : (order new : List ℕ) (a b u : ℕ) → a ≢ b → Mem b order → place order b ≤ place order a
    → ((ns ms : List ℕ) → without a order ≡ ns ++ b ∷ ms → new ≡ ns ++ a ∷ (b ∷ ms))
    → place order u < place order b → place new u < place new b
kept_moved order new a b u d m behind moved h =
    let ua : u ≢ a = λ e. absurd (omega (arith, h, behind, ap (place order) e)) in
    let at = split_at (without a order) b
    (mem_filter (λ y. not (eqb y a)) order b m (is_held a b (λ e. d (sym e)))) in
    let P : List ℕ → Type 0 = λ z. place z u < place z b in
    subst P (sym (moved at.0 at.1 at.2)) (kept_inserted at.0 at.1 a b u d
    (subst P at.2 (kept_without order a b u ua (λ e. d (sym e)) h)))

-- a node that does not precede another, and that the other does not reach, comes after it
pub strictly_behind : {N E : Type 0} {g : Graph N E} {order : List ℕ} → IsOrderOf g order → (a b : ℕ)
    → HasNode g a → HasNode g b → place order b ≤ place order a → (Reaches g b a → ⊥) → place order b < place order a
strictly_behind {order = order} ord a b has_a has_b behind missed =
    elim (cases_eq (place order b) (place order a)) [
      | inl e ↦ (
          let m = contains_mem order b ((ord.exact b).1 has_b) in
          let n = contains_mem order a ((ord.exact a).1 has_a) in
          absurd (missed ([], has_b, same_place order b a m n e))
          )
      | inr d ↦ omega (arith, behind, d)
    ]
