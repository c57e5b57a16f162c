-- The children of a node, met one after the other.
use Rattle.std.proofs.Common.{◌≡◌, ◌≢◌, ℕ, ◌+◌, ◌<◌, ◌≤◌, inl, inr, List, [], ◌∷◌, ◌++◌, length, get_or, set, drop, map}
use Rattle.std.proofs.Common.{refl, sym, ap, subst, ◌∙◌, arith, append_assoc, suc}
use Rattle.std.proofs.lemmas.Bool.{cases_eq}
use Rattle.std.proofs.lemmas.List.{get_or-set_other, get_or-set_same, append-nil, get_or_read_under}
use Rattle.daggy_base.specs.Graph.{Graph, HasNode, HasEdge, out_list, node_bound}
use Rattle.daggy_base.specs.Path.{AreJoined}
use Rattle.daggy_base.specs.Cursor.{first_of}
use Rattle.daggy_base.specs.WellFormed.{IsWellFormed}
use Rattle.daggy_base.specs.Look.{IsLook}
use Rattle.daggy_base.proofs.Lists.{Mem, Unique, mem_cases, unique_append, contains_mem, distinct_from_unique}
use Rattle.daggy_base.proofs.OutEdgesRead.{LookedTo, all_read, read_part, has_edge, child_exists, child_joined}
use Rattle.daggy_base.proofs.OutEdgesRead.{next_cursor, looked_more, below_bound}
use Rattle.daggy_components.specs.Meeting.{MeetsChildren}
use Rattle.daggy_components.specs.Stored.{placed}
use Rattle.daggy_components.proofs.Tallies.{placed_length, placed_other, placed_same}

-- one more node gets the place
pub placed_append : (places xs : List ℕ) (x k : ℕ) → placed places (xs ++ x ∷ []) k ≡ set (placed places xs k) x k
placed_append places [] x k = refl
placed_append places (y ∷ xs) x k = placed_append (set places y k) xs x k

-- while the list of n is read
pub record Meeting {N E : Type 0} (end : ℕ) (g : Graph N E) (n place : ℕ) (old new nodes nodes' : List ℕ) (e : ℕ)
    (now : Graph N E) (from looks : ℕ) : Type 0 where
  pub same : now ≡ g
  pub passed : ℕ
  pub counted : looks ≡ from + passed
  pub cursor : e ≡ first_of end (drop passed (out_list g n))
  pub within : passed ≤ length (out_list g n)
  pub added : List ℕ
  pub nodes_are : nodes' ≡ nodes ++ added
  pub places_are : new ≡ placed old added place
  pub once : Unique added
  pub fresh : (v : ℕ) → Mem v added → get_or old v end ≡ end
  pub joined : (v : ℕ) → Mem v added → AreJoined g n v
  pub met : LookedTo end g (λ v. get_or new v end ≢ end) n passed

pub meeting_none : {N E : Type 0} {end : ℕ} (g : Graph N E) {n place : ℕ} {old nodes : List ℕ} {e from : ℕ}
    → e ≡ first_of end (out_list g n) → Meeting end g n place old old nodes nodes e g from from
meeting_none g {n} {place} {old} {nodes} first =
    record {
      same = refl;
      passed = 0;
      counted = omega arith;
      cursor = first;
      within = omega arith;
      added = [];
      nodes_are = sym (append-nil nodes);
      places_are = refl;
      once = tt;
      fresh = λ v m. absurd m;
      joined = λ v m. absurd m;
      met = λ j x lt a. absurd (omega arith);
    }

module _ {N E : Type 0} {end : ℕ} {g : Graph N E} {n place : ℕ} {old new nodes nodes' : List ℕ} {e : ℕ} {now : Graph N E}
    {from looks : ℕ} (w : IsWellFormed end g) (sized : node_bound g ≤ length old)
    (s : Meeting end g n place old new nodes nodes' e now from looks) where
  pub long : length new ≡ length old
  long = ap (λ (z : List ℕ). length z) s.places_are ∙ placed_length old s.added place

  -- the list was read to its end
  pub meets_all : e ≡ end → MeetsChildren end g n place old new nodes nodes'
  meets_all h =
      record {
        added = s.added;
        nodes_are = s.nodes_are;
        places_are = s.places_are;
        once = distinct_from_unique s.added s.once;
        fresh = λ v m. s.fresh v (contains_mem s.added v m);
        joined = λ v m. s.joined v (contains_mem s.added v m);
        all = all_read end g w n s.passed e s.cursor s.within h (λ v. get_or new v end ≢ end) s.met;
      }

  module _ (here : e ≢ end) where
    pub meets_edge : HasEdge now e
    meets_edge =
        let P : Graph N E → Type 0 = λ z. HasEdge z e in
        subst P (sym s.same) (has_edge end g w n s.passed e s.cursor here)

    pub meets_few : s.passed < length (out_list g n)
    meets_few = (read_part end g w n s.passed e s.cursor here).0

    pub looked_few : {looks' : ℕ} → looks' ≡ looks + 1 → looks' ≤ from + length (out_list g n)
    looked_few one = omega (arith, s.counted, one, meets_few)

    module _ {v next : ℕ} (look : IsLook end now e v next) where
      look₀ : IsLook end g e v next
      look₀ = let P : Graph N E → Type 0 = λ z. IsLook end z e v next in subst P s.same look

      child_real : HasNode g v
      child_real = child_exists end g w n s.passed e s.cursor here v next look₀

      pub meets_low : v < length new
      meets_low = omega (arith, below_bound g.nodes v child_real, sized, long)

      module _ {now' : Graph N E} (unchanged : now' ≡ now) {looks' : ℕ} (one : looks' ≡ looks + 1) where
        -- a child that has a place
        pub meets_again : get_or new v end ≢ end
            → Meeting end g n place old new nodes nodes' next now' from looks'
        meets_again has =
            record {
              same = unchanged ∙ s.same;
              passed = suc s.passed;
              counted = omega (arith, s.counted, one);
              cursor = next_cursor end g w n s.passed e s.cursor here v next look₀;
              within = omega (arith, meets_few);
              added = s.added;
              nodes_are = s.nodes_are;
              places_are = s.places_are;
              once = s.once;
              fresh = s.fresh;
              joined = s.joined;
              met = looked_more end g w n s.passed e s.cursor here v next look₀ (λ u. get_or new u end ≢ end) s.met has;
            }

        -- another
        pub meets_new : place ≢ end → get_or new v end ≡ end → {new' nodes'' : List ℕ} → new' ≡ set new v place
            → nodes'' ≡ nodes' ++ v ∷ [] → Meeting end g n place old new' nodes nodes'' next now' from looks'
        meets_new some none {new'} {nodes''} writes pushes =
            let apart : Mem v s.added → ⊥ = λ m.
            let low : v < length old = omega (arith, meets_low, long) in
            some (sym (ap (λ (z : List ℕ). get_or z v end) s.places_are
            ∙ placed_same old s.added place v end s.once m low) ∙ none) in
            let own : get_or new' v end ≡ place =
            ap (λ (z : List ℕ). get_or z v end) writes ∙ get_or-set_same new v place end meets_low in
            let kept : (u : ℕ) → get_or new u end ≢ end → get_or new' u end ≢ end = λ u has eq.
            elim (cases_eq u v) [
              | inl is ↦ some (sym own ∙ (ap (λ (z : ℕ). get_or new' z end) (sym is) ∙ eq))
              | inr d ↦
                  has (sym (ap (λ (z : List ℕ). get_or z u end) writes ∙ get_or-set_other new v u place end d) ∙ eq)
            ] in
            record {
              same = unchanged ∙ s.same;
              passed = suc s.passed;
              counted = omega (arith, s.counted, one);
              cursor = next_cursor end g w n s.passed e s.cursor here v next look₀;
              within = omega (arith, meets_few);
              added = s.added ++ v ∷ [];
              nodes_are =
                  pushes ∙ (ap (λ (z : List ℕ). z ++ v ∷ []) s.nodes_are ∙ append_assoc nodes s.added (v ∷ []));
              places_are =
                  writes ∙ (ap (λ (z : List ℕ). set z v place) s.places_are ∙ sym (placed_append old s.added v place));
              once = unique_append s.added (v ∷ []) s.once (λ m. m, tt) (λ u a b.
                  elim b [
                    | inl is ↦ apart (let P : ℕ → Type 0 = λ z. Mem z s.added in subst P is a)
                    | inr n ↦ n
                  ]);
              fresh = λ u m. elim (mem_cases s.added (v ∷ []) u m) [
                | inl a ↦ s.fresh u a
                | inr b ↦ elim b [
                  | inl is ↦
                      ap (λ (z : ℕ). get_or old z end) is
                      ∙ (sym (ap (λ (z : List ℕ). get_or z v end) s.places_are
                      ∙ placed_other old s.added place v end apart) ∙ none)
                  | inr n ↦ absurd n
                ]
              ];
              joined = λ u m. elim (mem_cases s.added (v ∷ []) u m) [
                | inl a ↦ s.joined u a
                | inr b ↦ elim b [
                  | inl is ↦ (
                      let P : ℕ → Type 0 = λ z. AreJoined g n z in
                      subst P (sym is) (child_joined end g w n s.passed e s.cursor here v next look₀)
                      )
                  | inr n ↦ absurd n
                ]
              ];
              met =
                  looked_more end g w n s.passed e s.cursor here v next look₀ (λ u. get_or new' u end ≢ end)
                  (λ j x lt a. kept x.child (s.met j x lt a)) (λ eq. some (sym own ∙ eq));
            }

-- what is read of a place
pub read_place : (places : List ℕ) {j x v at : ℕ} (end : ℕ) → x ≡ get_or places j x → at ≡ x → j ≡ v
    → v < length places → get_or places v end ≡ at
read_place places {j} {x} {v} {at} end read is same low =
    let here : j < length places = omega arith in
    ap (λ (z : ℕ). get_or places z end) (sym same)
    ∙ (sym (get_or_read_under places j (length places) x end read here refl) ∙ sym is)

pub map_last : {A : Type 0} (f : A → ℕ) (xs : List A) (x : A) → map f (xs ++ x ∷ []) ≡ map f xs ++ f x ∷ []
map_last f [] x = refl
map_last f (y ∷ xs) x = ap (λ (z : List ℕ). f y ∷ z) (map_last f xs x)
