-- A key that is taken out of the entries, the last entry moving into its place.
use Rattle.std.proofs.Common.{◌≡◌, ◌≢◌, ℕ, ◌-◌, ◌<◌, Bool, true, false, List, length, map, set, ◌⊎◌, inl, inr}
use Rattle.std.proofs.Common.{Option, Some, None, is_some, get_or, slice_get, option_and_then, refl, sym, ap, subst}
use Rattle.std.proofs.Common.{◌∙◌, arith}
use Rattle.std.proofs.lemmas.Bool.{cases_lt, cases_eq}
use Rattle.std.proofs.lemmas.List.{length-map, map-set, length-set}
use Rattle.std.proofs.lemmas.Option.{slice_get_within, slice_get-get_or, slice_get_read, get_or_from_slice_get}
use Rattle.std.specs.Cmp.{IsEquivalence}
use Rattle.std.specs.List.{IsDistinct, swap_remove}
use Rattle.std.specs.Map.{keys_of}
use Rattle.std.specs.Option.{IfSome}
use Rattle.daggy_base.specs.Graph.{slot}
use Rattle.daggy_base.proofs.Lists.{IsSwapRemoved, IsSwapRemoved-from, slice_get-set_same, slice_get-set_other}
use Rattle.daggy_base.proofs.Lists.{map-set_same}
use Rattle.daggy_named.specs.Places.{IsKept, key_in, keys_at}
use Rattle.daggy_named.proofs.Slots.{slot_within, same_slots, same_option, what_is}
use Rattle.daggy_named.proofs.Entries.{same_node, when_some}
use Rattle.daggy_named.proofs.Kept.{key_at_place, key_of_entry}

-- what a slot holds after a write
slot_set_same : {A : Type 0} (xs : List (Option A)) (n : ℕ) (x : Option A) → n < length xs → slot (set xs n x) n ≡ x
slot_set_same xs n x low = ap (option_and_then (λ z. z)) (slice_get-set_same xs n x low)

slot_set_other : {A : Type 0} (xs : List (Option A)) (n m : ℕ) (x : Option A) → m ≢ n → slot (set xs n x) m ≡ slot xs m
slot_set_other xs n m x other = ap (option_and_then (λ z. z)) (slice_get-set_other xs n m x other)

slot_low : {A : Type 0} (xs : List (Option A)) (n : ℕ) (x : A) → slot xs n ≡ Some x → n < length xs
slot_low xs n x at = slice_get_within xs n (Some x) (slot_within xs n x at)

none_there : {A : Type 0} {o : Option A} {x : A} → o ≡ None → o ≡ Some x → ⊥
none_there none some = let both = sym none ∙ some in cc

same_there : {A : Type 0} {o : Option A} (x y : A) → o ≡ Some x → o ≡ Some y → x ≡ y
same_there x y a b = let both : Some x ≡ Some y = sym a ∙ b in cc

-- the places after n has none, where o is what stands in the place p then
abbrev pub vacated : {K I : Type 0} → (number : I → ℕ) → List (Option ℕ) → (p n : ℕ) → Option (K × I) → List (Option ℕ)
vacated number places p n None = set places n None
vacated number places p n (Some e) = set (set places n None) (number e.1) (Some p)

module _ {K I N : Type 0} {eq : K → K → Bool} {number : I → ℕ} {nodes : List (Option N)} {entries : List (K × I)}
    {places : List (Option ℕ)} (kept : IsKept eq number nodes entries places)
    (p : ℕ) (k : K) (i : I) (at : slice_get entries p ≡ Some (k, i))
    (left : List (K × I)) (last : ℕ) (r : IsSwapRemoved entries left p last) where
  here : slot places (number i) ≡ Some p
  here = kept.back p k i at

  here_low : number i < length places
  here_low = slot_low places (number i) p here

  -- where an entry that is left stood
  pub record Stood (q : ℕ) (e : K × I) : Type 0 where
    pub q' : ℕ
    pub found : slice_get entries q' ≡ Some e
    pub other : q' ≢ p
    pub place : ((q ≡ p) × (q' ≡ last) × (p ≢ last)) ⊎ ((q ≢ p) × (q' ≡ q) × (q < last))

  stood : (q : ℕ) (e : K × I) → slice_get left q ≡ Some e → Stood q e
  stood q e is =
      elim (cases_lt q last) [
        | inl below ↦ elim (cases_eq q p) [
          | inl same ↦
              let apart : p ≢ last = λ z. absurd (omega (arith, below, same, z)) in
              record {
                q' = last;
                found = sym (r.moved apart) ∙ ap (slice_get left) (sym same) ∙ is;
                other = λ z. apart (sym z);
                place = inl (same, refl, apart);
              }
          | inr differs ↦
              record {
                q' = q;
                found = sym (r.kept q below differs)
                    ∙ is;
                other = differs;
                place = inr (differs, refl, below);
              }
        ]
        | inr past ↦ absurd (none_there (r.gone q past) is)
      ]

  -- where an entry stands that is left
  stands : (q : ℕ) (e : K × I) → slice_get entries q ≡ Some e → q ≢ p → (q' : ℕ) × (slice_get left q' ≡ Some e)
  stands q e is differs =
      elim (cases_eq q last) [
        | inl same ↦
            let apart : p ≢ last = λ z. differs (same ∙ sym z) in
            (p, r.moved apart ∙ ap (slice_get entries) (sym same) ∙ is)
        | inr before ↦
            let below : q < last = omega (arith, before, r.long, slice_get_within entries q e is) in
            (q, r.kept q below differs ∙ is)
      ]

  -- an entry at another place names another node
  apart_from : (q : ℕ) (e : K × I) → slice_get entries q ≡ Some e → q ≢ p → number e.1 ≢ number i
  apart_from q e is differs same =
      differs (same_there q p (kept.back q e.0 e.1 is) (ap (slot places) same ∙ here))

  own_place : (j q : ℕ) → slot places j ≡ Some q → j ≢ number i → q ≢ p
  own_place j q is differs same =
      let e = kept.forth j q is in
      differs (sym e.3 ∙ ap number (same_node e.0 k e.1 i e.2 (ap (slice_get entries) same ∙ at)))

  slots_left : map is_some (set places (number i) None) ≡ map is_some (set nodes (number i) None)
  slots_left =
      map-set is_some places (number i) None ∙ ap (λ l. set l (number i) false) kept.slots
      ∙ sym (map-set is_some nodes (number i) None)

  module _ (once : IsDistinct eq (keys_of left)) where
    left_alone : slice_get left p ≡ None → IsKept eq number (set nodes (number i) None) left
        (set places (number i) None)
    left_alone gone =
        let is_last : (p ≢ last) → ⊥ = λ apart.
        none_there gone (r.moved apart ∙ slice_get-get_or entries last (k, i) (omega (arith, r.long))) in
        record {
          slots = slots_left;
          back = λ q k' i' is.
              let s = stood q (k', i') is in
              let kept_back = kept.back s.q' k' i' s.found in
              let same : s.q' ≡ q = elim s.place [ inl z ↦ absurd (is_last z.2) | inr z ↦ z.1 ] in
              slot_set_other places (number i) (number i') None (apart_from s.q' (k', i') s.found s.other)
              ∙ kept_back ∙ ap Some same;
          forth = λ j q is. elim (cases_eq j (number i)) [
            | inl same ↦ absurd (none_there (ap (slot (set places (number i) None)) same
                ∙ slot_set_same places (number i) None here_low) is)
            | inr differs ↦
                let old = sym (slot_set_other places (number i) j None differs) ∙ is in
                let e = kept.forth j q old in
                let apart = own_place j q old differs in
                let below : q < last = elim (cases_eq q last) [
                  | inl same ↦ absurd (is_last (λ z. apart (same ∙ sym z)))
                  | inr before ↦ omega (arith, before, r.long, slice_get_within entries q (e.0, e.1) e.2)
                ] in
                (e.0, e.1, r.kept q below apart ∙ e.2, e.3)
          ];
          once = once;
        }

    left_moved : (e : K × I) → slice_get left p ≡ Some e
        → IsKept eq number (set nodes (number i) None) left (set (set places (number i) None) (number e.1) (Some p))
    left_moved e moved =
        let s = stood p e moved in
        let at_last : slice_get entries last ≡ Some e = elim s.place [
          | inl z ↦ ap (slice_get entries) (sym z.1) ∙ s.found
          | inr z ↦ absurd (z.0 refl)
        ] in
        let last_other : last ≢ p = elim s.place [
          | inl z ↦ λ w. z.2 (sym w)
          | inr z ↦ absurd (z.0 refl)
        ] in
        let m = number e.1 in
        let gone = set places (number i) None in
        let there : slot places m ≡ Some last = kept.back last e.0 e.1 at_last in
        let m_other : m ≢ number i = apart_from last e at_last last_other in
        let there_still : slot gone m ≡ Some last = slot_set_other places (number i) m None m_other ∙ there in
        let m_low : m < length gone = slot_low gone m last there_still in
        record {
          slots =
              map-set_same is_some gone m (Some last) (Some p)
              (sym (get_or_from_slice_get gone m (Some last) (Some last) (slot_within gone m last there_still))) refl
              ∙ slots_left;
          back = λ q k' i' is.
              let t = stood q (k', i') is in
              elim t.place [
                | inl z ↦
                    let same : i' ≡ e.1 = same_node k' e.0 i' e.1 (ap (slice_get left) (sym z.0) ∙ is) moved in
                    ap (slot (set gone m (Some p))) (ap number same) ∙ slot_set_same gone m (Some p) m_low
                    ∙ ap Some (sym z.0)
                | inr z ↦
                    let old : slot places (number i') ≡ Some q = kept.back t.q' k' i' t.found ∙ ap Some z.1 in
                    let not_m : number i' ≢ m = λ same.
                    absurd (omega (arith, z.2, same_there q last old (ap (slot places) same ∙ there))) in
                    slot_set_other gone m (number i') (Some p) not_m
                    ∙ slot_set_other places (number i) (number i') None (apart_from t.q' (k', i') t.found t.other) ∙ old
              ];
          forth = λ j q is. elim (cases_eq j m) [
            | inl same ↦
                let is_p : p ≡ q =
                same_there p q (ap (slot (set gone m (Some p))) same ∙ slot_set_same gone m (Some p) m_low) is in
                (e.0, e.1, ap (slice_get left) (sym is_p) ∙ moved, sym same)
            | inr not_m ↦
                let in_gone : slot gone j ≡ Some q = sym (slot_set_other gone m j (Some p) not_m) ∙ is in
                elim (cases_eq j (number i)) [
                  | inl same ↦ absurd (none_there (ap (slot gone) same
                      ∙ slot_set_same places (number i) None here_low) in_gone)
                  | inr differs ↦
                      let old = sym (slot_set_other places (number i) j None differs) ∙ in_gone in
                      let f = kept.forth j q old in
                      let apart = own_place j q old differs in
                      let below : q < last = elim (cases_eq q last) [
                        | inl same ↦
                            absurd (not_m (sym f.3 ∙ ap number (same_node f.0 e.0 f.1 e.1
                            (ap (slice_get entries) (sym same) ∙ f.2) at_last)))
                        | inr before ↦ omega (arith, before, r.long, slice_get_within entries q (f.0, f.1) f.2)
                      ] in
                      (f.0, f.1, r.kept q below apart ∙ f.2, f.3)
                ]
          ];
          once = once;
        }

    pub kept_removed : (o : Option (K × I)) → o ≡ slice_get left p
        → IsKept eq number (set nodes (number i) None) left (vacated number places p (number i) o)
    kept_removed None is = left_alone (sym is)
    kept_removed (Some e) is = left_moved e (sym is)

    module _ (laws : IsEquivalence eq) (places' : List (Option ℕ)) (long : length places' ≡ length places)
        (kept' : IsKept eq number (set nodes (number i) None) left places') where
      key_left : (j : ℕ) (k' : K) → slot (keys_at left places') j ≡ Some k'
          → (slot (keys_at entries places) j ≡ Some k') × (j ≢ number i)
      key_left j k' is =
          let e = key_at_place laws kept' j k' is in
          let s = stood e.p (k', e.i) e.entry in (
            ap (slot (keys_at entries places)) (sym e.node) ∙ key_of_entry laws kept s.q' k' e.i s.found,
            λ same. apart_from s.q' (k', e.i) s.found s.other (e.node ∙ same),
          )

      key_stays : (j : ℕ) (k' : K) → j ≢ number i → slot (keys_at entries places) j ≡ Some k'
          → slot (keys_at left places') j ≡ Some k'
      key_stays j k' differs is =
          let e = key_at_place laws kept j k' is in
          let s = stands e.p (k', e.i) e.entry (own_place j e.p e.place differs) in
          ap (slot (keys_at left places')) (sym e.node) ∙ key_of_entry laws kept' s.0 k' e.i s.1

      -- only the key of n is gone
      pub keys_removed : keys_at left places' ≡ set (keys_at entries places) (number i) None
      keys_removed =
          let keys = keys_at entries places in
          same_slots (keys_at left places') (set keys (number i) None)
          (length-map places' _ ∙ long ∙ sym (length-map places _) ∙ sym (length-set keys (number i) None))
          (λ j. elim (cases_eq j (number i)) [
            | inl same ↦
                same_option _ _ (λ x is. absurd ((key_left j x is).1 same))
                (λ x is. absurd (none_there (ap (slot (set keys (number i) None)) same
                ∙ slot_set_same keys (number i) None (omega
                (arith, here_low, length-map places (option_and_then (key_in entries))))) is))
            | inr differs ↦
                same_option _ _
                (λ x is. slot_set_other keys (number i) j None differs ∙ (key_left j x is).0)
                (λ x is. key_stays j x differs (sym (slot_set_other keys (number i) j None differs) ∙ is))
          ])

-- the place of a node, as it is read
place_read : (places : List (Option ℕ)) (n : ℕ) {index place : ℕ} {x : Option ℕ} → index ≡ n
    → is_some (slot places n) ≡ true
    → x ≡ get_or places index x → x ≡ Some place → slot places n ≡ Some place
place_read places n {index} {place} {x} index_is there read is =
    let held = what_is (slot places n) there in
    let low : index < length places = omega (arith, slot_low places n held.0 held.1, index_is) in
    ap (slot places) (sym index_is)
    ∙ ap (option_and_then (λ z. z)) (slice_get_read places (length places) index x refl low read) ∙ is

-- the name of the node n is taken out, in the words of the code
module _ {K I : Type 0} {eq : K → K → Bool} (laws : IsEquivalence eq) {number : I → ℕ} {entries : List (K × I)}
    {places : List (Option ℕ)} (kept : IsKept eq number places entries places)
    (n : ℕ) {index place : ℕ} {x : Option ℕ} (index_is : index ≡ n) (there : is_some (slot places n) ≡ true)
    (read : x ≡ get_or places index x) (is_place : x ≡ Some place)
    {o : Option (K × I)} (p : K × I) (entry : o ≡ slice_get entries place) (some : o ≡ Some p)
    (left : List (K × I)) (leaves : IfSome o (λ e. left ≡ swap_remove entries place e))
    (once : IsDistinct eq (keys_of left)) where
  at : slot places n ≡ Some place
  at = place_read places n index_is there read is_place

  took : slice_get entries place ≡ Some (p.0, p.1)
  took = sym entry ∙ some

  left_is : left ≡ swap_remove entries place (p.0, p.1)
  left_is = when_some o p (λ e. left ≡ swap_remove entries place e) some leaves

  node_is : number p.1 ≡ n
  node_is = let e = kept.forth n place at in ap number (same_node p.0 e.0 p.1 e.1 took e.2) ∙ e.3

  removed : IsSwapRemoved entries left place (length entries - 1)
  removed =
      let low : place < length entries = slice_get_within entries place (p.0, p.1) took in
      subst (λ l. IsSwapRemoved entries l place (length entries - 1)) (sym left_is)
      (IsSwapRemoved-from entries place (length entries - 1) (p.0, p.1) low (omega (arith, low)))

  pub taken_key : slot (keys_at entries places) n ≡ Some p.0
  taken_key = ap (slot (keys_at entries places)) (sym node_is) ∙ key_of_entry laws kept place p.0 p.1 took

  pub taken : (e' : Option (K × I)) → e' ≡ slice_get left place
      → IsKept eq number (set places n None) left (vacated number places place n e')
  taken e' is =
      subst (λ m. IsKept eq number (set places m None) left (vacated number places place m e')) node_is
      (kept_removed kept place p.0 p.1 took left (length entries - 1) removed once e' is)

  length-vacated : (e' : Option (K × I)) → length (vacated number places place n e') ≡ length places
  length-vacated None = length-set places n None
  length-vacated (Some e) = length-set (set places n None) (number e.1) (Some place) ∙ length-set places n None

  pub taken_keys : (e' : Option (K × I)) → e' ≡ slice_get left place
      → keys_at left (vacated number places place n e') ≡ set (keys_at entries places) n None
  taken_keys e' is =
      subst (λ m. keys_at left (vacated number places place n e') ≡ set (keys_at entries places) m None) node_is
      (keys_removed kept place p.0 p.1 took left (length entries - 1) removed once laws
      (vacated number places place n e') (length-vacated e')
      (subst (λ m. IsKept eq number (set places m None) left (vacated number places place n e')) (sym node_is)
      (taken e' is)))

  -- the entry that moved names a node with a slot
  pub moved_low : (e : K × I) → Some e ≡ slice_get left place → number e.1 < length places
  moved_low e is =
      let s = stood kept place p.0 p.1 took left (length entries - 1) removed place e (sym is) in
      slot_low places (number e.1) s.q' (kept.back s.q' e.0 e.1 s.found)

-- the places suit other slots that are occupied alike
pub kept_for : {K I A B : Type 0} {eq : K → K → Bool}
    {number : I → ℕ} {nodes : List (Option A)} (others : List (Option B))
    {entries : List (K × I)} {places : List (Option ℕ)} → map is_some nodes ≡ map is_some others
    → IsKept eq number nodes entries places → IsKept eq number others entries places
kept_for others same kept =
    record { slots = kept.slots ∙ same; back = kept.back; forth = kept.forth; once = kept.once }

pub slots_without : {A B : Type 0} (xs : List (Option A)) (ys : List (Option B)) (n : ℕ)
    → map is_some xs ≡ map is_some ys
    → map is_some (set xs n None) ≡ map is_some (set ys n None)
slots_without xs ys n same =
    map-set is_some xs n None ∙ ap (λ l. set l n false) same ∙ sym (map-set is_some ys n None)
