-- What the kept places say of the keys.
use Rattle.std.proofs.Common.{◌≡◌, ℕ, zero, suc, ◌<◌, Bool, true, false, List, [], ◌∷◌, length, map, Option, Some, None}
use Rattle.std.proofs.Common.{IsSome, is_some, get_or, slice_get, option_and_then, refl, sym, ap, subst, ◌∙◌}
use Rattle.std.proofs.lemmas.Bool.{false≢true}
use Rattle.std.proofs.lemmas.Map.Entries.{place_from_lookup}
use Rattle.std.proofs.lemmas.Option.{slice_get_read}
use Rattle.std.specs.Cmp.{IsEquivalence}
use Rattle.std.specs.List.{IsDistinct}
use Rattle.std.specs.Map.{lookup}
use Rattle.std.specs.Option.{option_map, IfSome}
use Rattle.daggy_base.specs.Graph.{Graph, slot}
use Rattle.daggy_named.specs.Naming.{IsNamed, is_named, index_by}
use Rattle.daggy_named.specs.Places.{IsKept, key_in, keys_at}
use Rattle.daggy_named.proofs.Slots.{slot_within, same_marks, what_is, position_only, position_none}
use Rattle.daggy_named.proofs.Entries.{none_passes, same_entry}

module _ {K I : Type 0} (entries : List (K × I)) where
  -- the key of a slot
  pub slot-keys_at : (places : List (Option ℕ)) (n : ℕ)
      → slot (keys_at entries places) n ≡ option_and_then (key_in entries) (slot places n)
  slot-keys_at [] n = refl
  slot-keys_at (x ∷ xs) zero = refl
  slot-keys_at (x ∷ xs) (suc n) = slot-keys_at xs n

  -- a key is where a place is
  pub marks-keys_at : (places : List (Option ℕ)) → ((n p : ℕ) → slot places n ≡ Some p
      → is_some (slice_get entries p) ≡ true)
      → map is_some (keys_at entries places) ≡ map is_some places
  marks-keys_at [] there = refl
  marks-keys_at (None ∷ xs) there = ap (λ l. false ∷ l) (marks-keys_at xs (λ n. there (suc n)))
  marks-keys_at (Some p ∷ xs) there =
      let e = what_is (slice_get entries p) (there zero p refl) in
      let key : is_some (key_in entries p) ≡ true = ap (λ o. is_some (option_map (λ e. e.0) o)) e.1 in
      λ j. key j ∷ marks-keys_at xs (λ n. there (suc n)) j

-- the place and the entry of a key
pub record IsAt {K I : Type 0} (number : I → ℕ) (entries : List (K × I)) (places : List (Option ℕ))
    (n : ℕ) (k : K) : Type 0 where
  pub p : ℕ
  pub i : I
  pub place : slot places n ≡ Some p
  pub entry : slice_get entries p ≡ Some (k, i)
  pub node : number i ≡ n

module _ {K I N : Type 0} {eq : K → K → Bool} (laws : IsEquivalence eq) {number : I → ℕ} {nodes : List (Option N)}
    {entries : List (K × I)} {places : List (Option ℕ)} (kept : IsKept eq number nodes entries places) where
  pub key_at_place : (n : ℕ) (k : K) → slot (keys_at entries places) n ≡ Some k → IsAt number entries places n k
  key_at_place n k at = by (slot places n) refl
    where
      by : (o : Option ℕ) → slot places n ≡ o → IsAt number entries places n k
      by None is = absurd (let none : None ≡ Some k = sym (slot-keys_at entries places n
          ∙ ap (option_and_then (key_in entries)) is) ∙ at in cc)
      by (Some p) is =
          let e = kept.forth n p is in
          let seen : Some e.0 ≡ Some k = sym (slot-keys_at entries places n ∙ ap (option_and_then (key_in entries)) is
          ∙ ap (option_map (λ e. e.0)) e.2) ∙ at in
          let same : e.0 ≡ k = cc in
          record {
            p = p;
            i = e.1;
            place = is;
            entry = subst (λ z. slice_get entries p ≡ Some (z, e.1)) same e.2;
            node = e.3;
          }

  pub key_of_entry : (p : ℕ) (k : K) (i : I) → slice_get entries p ≡ Some (k, i)
      → slot (keys_at entries places) (number i) ≡ Some k
  key_of_entry p k i at =
      slot-keys_at entries places (number i) ∙ ap (option_and_then (key_in entries)) (kept.back p k i at)
      ∙ ap (option_map (λ e. e.0)) at

  pub marks : map is_some (keys_at entries places) ≡ map is_some nodes
  marks = marks-keys_at entries places (λ n p at. ap is_some (kept.forth n p at).2) ∙ kept.slots

  -- no two nodes have equal keys
  pub named_once : (m n : ℕ) (a b : K) → slot (keys_at entries places) m ≡ Some a
      → slot (keys_at entries places) n ≡ Some b
      → eq a b ≡ true → m ≡ n
  named_once m n a b at_m at_n same =
      let e = key_at_place m a at_m in
      let f = key_at_place n b at_n in
      sym e.node ∙ ap number (same_entry eq laws entries kept.once e.p f.p a b e.i f.i e.entry f.entry same) ∙ f.node

  pub are_named : {E : Type 0} (g : Graph N E) → g.nodes ≡ nodes
      → IsNamed eq (record { graph = g; keys = keys_at entries places })
  are_named g is = record { exact = marks ∙ ap (map is_some) (sym is); once = named_once }

  module _ {test : K → Bool} (alike : (x y : K) → test x ≡ true → test y ≡ eq x y) where
    passing : (x : Option K) → is_named test x ≡ true → (y : K) × (x ≡ Some y) × (test y ≡ true)
    passing None h = absurd (false≢true h)
    passing (Some y) h = (y, refl, h)

    slot_of : (n : ℕ) (x : Option K) (y : K) → slice_get (keys_at entries places) n ≡ Some x → x ≡ Some y
        → slot (keys_at entries places) n ≡ Some y
    slot_of n x y at is = ap (option_and_then (λ z. z)) at ∙ is

    -- a look-up finds the index of the key
    pub found : (r : Option I) → r ≡ lookup test entries
        → option_map number r ≡ index_by test (keys_at entries places)
    found None none =
        sym (position_none (is_named test) (keys_at entries places) (λ m x at. by m x at (is_named test x) refl))
      where
        by : (m : ℕ) (x : Option K) → slice_get (keys_at entries places) m ≡ Some x
            → (b : Bool) → is_named test x ≡ b → is_named test x ≡ false
        by m x at false is = is
        by m x at true is =
            let y = passing x is in
            let e = key_at_place m y.0 (slot_of m x y.0 at y.1) in
            absurd (false≢true (sym (none_passes test entries (sym none) e.p y.0 e.i e.entry) ∙ y.2))
    found (Some i) some =
        let e = place_from_lookup test entries i (sym some) in
        sym (position_only (is_named test) (keys_at entries places) (number i) (Some e.1)
        (slot_within (keys_at entries places) (number i) e.1 (key_of_entry e.0 e.1 i e.2)) e.3
        (λ m x at passes.
        let y = passing x passes in
        let same : eq y.0 e.1 ≡ true = sym (alike y.0 e.1 y.2) ∙ e.3 in
        named_once m (number i) y.0 e.1 (slot_of m x y.0 at y.1) (key_of_entry e.0 e.1 i e.2) same))

    -- and that of an existing node
    pub found_exists : (r : Option I) → r ≡ lookup test entries → IfSome r (λ i. IsSome (slot nodes (number i)))
    found_exists None none = tt
    found_exists (Some i) some =
        let e = place_from_lookup test entries i (sym some) in
        sym (same_marks places nodes kept.slots (number i)) ∙ ap is_some (kept.back e.0 e.1 i e.2)

pub kept_empty : {K I N : Type 0} {eq : K → K → Bool}
    {number : I → ℕ} {nodes : List (Option N)} {entries : List (K × I)}
    {places : List (Option ℕ)} → nodes ≡ [] → entries ≡ [] → places ≡ [] → IsKept eq number nodes entries places
unfolding IsDistinct
kept_empty {K} {I} {N} {eq} {number} {nodes} {entries} {places} no_nodes no_entries no_places =
    let none : IsKept {N = N} eq number [] [] [] = record {
      slots = refl;
      back = λ p k i at. absurd cc;
      forth = λ n p at. absurd cc;
      once = tt;
    } in
    let by_nodes : IsKept eq number nodes [] [] = subst (λ z. IsKept eq number z [] []) (sym no_nodes) none in
    let by_entries : IsKept eq number nodes entries [] =
    subst (λ z. IsKept eq number nodes z []) (sym no_entries) by_nodes in
    subst (λ z. IsKept eq number nodes entries z) (sym no_places) by_entries

-- the key of a slot, by what is read on the way to it
pub key_read : {K I : Type 0} (entries : List (K × I)) (places : List (Option ℕ)) (n : ℕ) {lent : List (Option ℕ)}
    {index place : ℕ}
    {x : Option ℕ} → lent ≡ places → index ≡ n → index < length lent → x ≡ get_or lent index x → x ≡ Some place
    → key_in entries place ≡ slot (keys_at entries places) n
key_read entries places n {lent} {index} {place} {x} lent_is index_is low read is =
    let at : slice_get lent index ≡ Some x = slice_get_read lent (length lent) index x refl low read in
    sym (slot-keys_at entries places n ∙ ap (λ l. option_and_then (key_in entries) (slot l n)) (sym lent_is)
    ∙ ap (λ m. option_and_then (key_in entries) (slot lent m)) (sym index_is)
    ∙ ap (λ o. option_and_then (key_in entries) (option_and_then (λ z. z) o)) (at ∙ ap Some is))

-- nothing is found where no node has the key
pub none_found : {K I N : Type 0} {eq : K → K → Bool} (laws : IsEquivalence eq)
    {number : I → ℕ} {nodes : List (Option N)}
    {entries : List (K × I)} {places : List (Option ℕ)} → IsKept eq number nodes entries places → (k : K) (r : Option I)
    → option_map number r ≡ index_by (eq k) (keys_at entries places) → is_some r ≡ false → lookup (eq k) entries ≡ None
none_found {K} {I} {N} {eq} laws {number} {nodes} {entries} {places} kept k r is none = by (lookup (eq k) entries) refl
    r is none
  where
    by : (o : Option I) → lookup (eq k) entries ≡ o → (r : Option I)
        → option_map number r ≡ index_by (eq k) (keys_at entries places) → is_some r ≡ false
        → lookup (eq k) entries ≡ None
    by None o_is r is none = o_is
    by (Some i) o_is (Some j) is none = absurd (false≢true (sym none))
    by (Some i) o_is None is none =
        absurd (let both : Some (number i) ≡ None = found laws kept (laws.congr k) (Some i) (sym o_is) ∙ sym is in cc)
