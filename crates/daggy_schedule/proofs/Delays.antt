-- Children that are put off, edge by edge.
use Rattle.std.proofs.Common.{◌≡◌, ◌≢◌, ℕ, ◌+◌, ◌<◌, ◌≤◌, ◌⊎◌, ◌^◌, inl, inr, List, length, get_or, set, refl, sym, ap, subst, ◌∙◌, arith}
use Rattle.std.proofs.Common.{length-set, Some}
use Rattle.std.specs.Option.{option_map}
use Rattle.std.proofs.lemmas.Bool.{cases_eq}
use Rattle.std.proofs.lemmas.List.{get_or-set_same, get_or-set_other}
use Rattle.daggy_base.specs.Graph.{Graph, edge_at, ends_of, out_list}
use Rattle.daggy_base.specs.Path.{AreJoined}
use Rattle.daggy_base.specs.Cursor.{first_of, cursor_after}
use Rattle.daggy_base.specs.declared.index.Direction.TheVariants.{Outgoing}
use Rattle.daggy_base.specs.WellFormed.{IsWellFormed}
use Rattle.daggy_schedule.specs.Passes.{AreDelayed, IsDelayedTooLong, GoesBefore}
use Rattle.daggy_schedule.proofs.LowestLast.{not_before, before_or_not}
use Rattle.daggy_schedule.proofs.Passing.{Passing, passing_from, passing_on, passed_edge, all_passed}

-- n is not preferred to what is noted for v, by its edge e to v
abbrev IsPast : (n finish : ℕ) (lags starts parents : List ℕ) → ℕ → ℕ → Type 0
IsPast n finish lags starts parents e v =
    ¬ GoesBefore (finish + get_or lags e 0) n (get_or starts v 0) (get_or parents v 0)

module _ {N E : Type 0} (end : ℕ) (g : Graph N E) (n finish : ℕ) (lags : List ℕ) where
  -- the starts and the noted parents as they were, and as they are with the cursor at e
  pub record Delaying (starts parents : List ℕ) (e : ℕ) (starts' parents' : List ℕ) : Type 0 where
    pub passing : Passing end g n e (IsPast n finish lags starts' parents')
    pub starts_sized : length starts' ≡ length starts
    pub parents_sized : length parents' ≡ length parents
    pub up : (v : ℕ) → get_or starts v 0 ≤ get_or starts' v 0
    pub noted : (v : ℕ)
        → ((get_or starts' v 0 ≡ get_or starts v 0) × (get_or parents' v 0 ≡ get_or parents v 0))
        ⊎ ((edge : AreJoined g n v)
        × GoesBefore (finish + get_or lags edge.0 0) n (get_or starts v 0) (get_or parents v 0)
        × (get_or starts' v 0 ≡ finish + get_or lags edge.0 0) × (get_or parents' v 0 ≡ n))

  pub delays_none : (starts parents : List ℕ) {e : ℕ} → e ≡ first_of end (out_list g n)
      → Delaying starts parents e starts parents
  delays_none starts parents first =
      record {
        passing = passing_from (IsPast n finish lags starts parents) first;
        starts_sized = refl;
        parents_sized = refl;
        up = λ v. omega arith;
        noted = λ v. inl (refl, refl);
      }

-- a second edge to the same child puts it off again
again : {n : ℕ} {finish more time m : ℕ} → GoesBefore finish n time m → GoesBefore more n finish n → GoesBefore more n time m
again {n} first second =
    elim second [
      | inl more ↦ elim first [
        | inl late ↦ inl (omega (arith, more, late))
        | inr same ↦ inl (omega (arith, more, same.0))
      ]
      | inr lower ↦ absurd (omega (arith, lower.1))
    ]

module _ {N E : Type 0} {end : ℕ} {g : Graph N E} (w : IsWellFormed end g) {n finish : ℕ} {lags starts parents : List ℕ}
    {e : ℕ} {now noting : List ℕ} (s : Delaying end g n finish lags starts parents e now noting) (here : e ≢ end) {p c : ℕ}
    (ends : Some (p, c) ≡ option_map ends_of (edge_at g e)) (next : ℕ)
    (is : next ≡ cursor_after Outgoing end g e (edge_at g e)) (time : ℕ) (sum : time ≡ finish + get_or lags e 0) where
  delays_same : ¬ GoesBefore time n (get_or now c 0) (get_or noting c 0)
      → Delaying end g n finish lags starts parents next now noting
  delays_same after =
      let past : IsPast n finish lags now noting e c =
      (let P : ℕ → Type 0 = λ z. ¬ GoesBefore z n (get_or now c 0) (get_or noting c 0) in subst P sum after) in
      record {
        passing = passing_on w s.passing here ends next is (IsPast n finish lags now noting) (λ k v h. h) past;
        starts_sized = s.starts_sized;
        parents_sized = s.parents_sized;
        up = s.up;
        noted = s.noted;
      }

  delays_put : GoesBefore time n (get_or now c 0) (get_or noting c 0) → c < length now → c < length noting
      → Delaying end g n finish lags starts parents next (set now c time) (set noting c n)
  delays_put before room space =
      let starts' = set now c time in
      let parents' = set noting c n in
      let at : get_or starts' c 0 ≡ time = get_or-set_same now c time 0 room in
      let low : get_or now c 0 ≤ time =
      elim before [ inl more ↦ omega (arith, more) | inr same ↦ omega (arith, same.0) ] in
      let noted_at : get_or parents' c 0 ≡ n = get_or-set_same noting c n 0 space in
      let not_itself : IsPast n finish lags starts' parents' e c =
      not_before (inr (omega (arith, at, sum), omega (arith, noted_at))) in
      let other : (v : ℕ) → v ≢ c → get_or starts' v 0 ≡ get_or now v 0 = λ v d.
      get_or-set_other now c v time 0 d in
      let others : (v : ℕ) → v ≢ c → get_or parents' v 0 ≡ get_or noting v 0 = λ v d.
      get_or-set_other noting c v n 0 d in
      let kept : (k v : ℕ) → IsPast n finish lags now noting k v → IsPast n finish lags starts' parents' k v =
      λ k v h b.
      elim (cases_eq v c) [
        | inl q ↦
            (let P : ℕ → Type 0 = λ z. GoesBefore (finish + get_or lags k 0) n (get_or starts' z 0) (get_or parents' z 0) in
            let Q : ℕ → Type 0 = λ z. GoesBefore (finish + get_or lags k 0) n (get_or now z 0) (get_or noting z 0) in
            let B : ℕ → ℕ → Type 0 = λ x y. GoesBefore (finish + get_or lags k 0) n x y in
            let again_here : B time n = subst (λ x. B x n) at (subst (λ y. B (get_or starts' c 0) y) noted_at (subst P q b)) in
            h (subst Q (sym q) (again before again_here)))
        | inr d ↦
            (let P : ℕ → ℕ → Type 0 = λ x y. GoesBefore (finish + get_or lags k 0) n x y in
            h (subst (λ x. P x (get_or noting v 0)) (other v d)
            (subst (λ y. P (get_or starts' v 0) y) (others v d) b)))
      ] in
      let grown : (v : ℕ) → get_or now v 0 ≤ get_or starts' v 0 = λ v.
      elim (cases_eq v c) [
        | inl q ↦ omega (arith, ap (λ z. get_or starts' z 0) q, ap (λ z. get_or now z 0) q, at, low)
        | inr d ↦ omega (arith, other v d)
      ] in
      let edge = passed_edge w s.passing here ends in
      let joined : AreJoined g n c = (e, edge.0, edge.1) in
      let B : ℕ → ℕ → ℕ → Type 0 = λ t x y. GoesBefore t n x y in
      let was : GoesBefore time n (get_or starts c 0) (get_or parents c 0) =
      elim (s.noted c) [
        | inl k ↦
            subst (λ x. B time x (get_or parents c 0)) k.0 (subst (λ y. B time (get_or now c 0) y) k.1 before)
        | inr k ↦
            again k.1 (subst (λ x. B time x n) k.2 (subst (λ y. B time (get_or now c 0) y) k.3 before))
      ] in
      let was_by : GoesBefore (finish + get_or lags e 0) n (get_or starts c 0) (get_or parents c 0) =
      subst (λ t. B t (get_or starts c 0) (get_or parents c 0)) sum was in
      record {
        passing = passing_on w s.passing here ends next is (IsPast n finish lags starts' parents') kept not_itself;
        starts_sized = length-set now c time ∙ s.starts_sized;
        parents_sized = length-set noting c n ∙ s.parents_sized;
        up = λ v. omega (arith, s.up v, grown v);
        noted = λ v.
            elim (cases_eq v c) [
              | inl q ↦
                  (let P : ℕ → Type 0 = λ z. (edge : AreJoined g n z)
                  × GoesBefore (finish + get_or lags edge.0 0) n (get_or starts z 0) (get_or parents z 0)
                  × (get_or starts' z 0 ≡ finish + get_or lags edge.0 0) × (get_or parents' z 0 ≡ n) in
                  inr (subst P (sym q) (joined, was_by, at ∙ sum, noted_at)))
              | inr d ↦
                  elim (s.noted v) [
                    | inl k ↦ inl (other v d ∙ k.0, others v d ∙ k.1)
                    | inr k ↦ inr (k.0, k.1, other v d ∙ k.2, others v d ∙ k.3)
                  ]
            ];
      }

  pub delays_one : c < length now → c < length noting → {now' noting' : List ℕ}
      → (¬ GoesBefore time n (get_or now c 0) (get_or noting c 0) → (now' ≡ now) × (noting' ≡ noting))
      → (GoesBefore time n (get_or now c 0) (get_or noting c 0) → (now' ≡ set now c time) × (noting' ≡ set noting c n))
      → Delaying end g n finish lags starts parents next now' noting'
  delays_one room space {now'} {noting'} later put =
      elim (before_or_not time n (get_or now c 0) (get_or noting c 0)) [
        | inl before ↦ (let h = put before in rw (h.0, h.1) (delays_put before room space))
        | inr after ↦ (let h = later after in rw (h.0, h.1) (delays_same after))
      ]

pub all_delayed : {N E : Type 0} {end : ℕ} {g : Graph N E} {n finish : ℕ} {lags starts parents : List ℕ} {e : ℕ}
    {now noting : List ℕ} → IsWellFormed end g → Delaying end g n finish lags starts parents e now noting → e ≡ end
    → AreDelayed g n finish lags starts parents now noting
all_delayed w s ended =
    record { late = all_passed w s.passing ended; up = s.up; noted = s.noted }

-- what makes a child wait too long
pub too_long : {N E : Type 0} {end : ℕ} {g : Graph N E} {n finish : ℕ} {lags starts parents : List ℕ} {e : ℕ}
    {now noting : List ℕ} → IsWellFormed end g → Delaying end g n finish lags starts parents e now noting → e ≢ end
    → {p c : ℕ} → Some (p, c) ≡ option_map ends_of (edge_at g e) → 2 ^ 64 ≤ finish + get_or lags e 0
    → IsDelayedTooLong g n finish lags
too_long {e = e} w s here {p} {c} ends long =
    let edge = passed_edge w s.passing here ends in (c, (e, edge.0, edge.1), long)
