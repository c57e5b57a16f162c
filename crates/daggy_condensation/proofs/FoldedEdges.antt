-- The edges between components, as they are folded.
use Rattle.std.proofs.Common.{◌≡◌, ◌≢◌, ◌⊎◌, ℕ, zero, suc, ◌+◌, ◌<◌, ◌≤◌, inl, inr, List, [], ◌∷◌, ◌++◌, length, set}
use Rattle.std.proofs.Common.{Option, Some, None, IsSome, is_some, refl, sym, ap, subst, ◌∙◌, arith}
use Rattle.std.specs.List.{concat, slice_index}
use Rattle.std.specs.Borrow.{Bor}
use Rattle.std.proofs.lemmas.Bool.{cases_eq}
use Rattle.std.specs.Option.{option_map}
use Rattle.std.proofs.lemmas.List.{get_or-set_other, get_or-set_same, length_push, length-map, length-set}
use Rattle.daggy_base.specs.Graph.{Graph, Edge, slot}
use Rattle.daggy_base.proofs.Lists.{Mem, Unique, mem_cases}
use Rattle.daggy_base.proofs.Slots.{slot_made, slot_made_kept, slot_made_new}
use Rattle.daggy_base.proofs.SlotLists.{slot_push_old}
use Rattle.daggy_components.specs.Condensation.{LeadsBetween}
use Rattle.daggy_components.specs.Noting.{Joins, IsAppended}
use Rattle.daggy_base.specs.FromSlots.{edge_of, edges_by}
use Rattle.daggy_components.proofs.Gathering.{ends_unique}
use Rattle.daggy_components.proofs.NotedEdges.{slot_set_same, slot_set_other, slot_low}
use Rattle.daggy_condensation.specs.Between.{JoinsComponents}
use Rattle.daggy_condensation.specs.Folding.{edges_read, IsGiven, FoldsBetween, IsFolded}
use Rattle.daggy_condensation.specs.Replacing.{IsReplaced}

-- the same, said in other words of the two weights
pub replaced_as : {X : Type 0} {P Q : X → X → Type 0} {old new : List (Option (Edge X))} {at j k : ℕ}
    → ((given made : X) → P given made → Q given made) → IsReplaced P old new at j k → IsReplaced Q old new at j k
replaced_as more p =
    record {
      given = p.given;
      made = p.made;
      was = p.was;
      is = p.is;
      called = more p.given p.made p.called;
      others = p.others;
      long = p.long;
    }

-- slots, as the code has them
module _ {I W : Type 0} (number : I → ℕ) where
  slot_by : (items : List (Option (I × I × W))) (i : ℕ)
      → slot (edges_by number items) i ≡ option_map (edge_of number) (slot items i)
  slot_by [] i = refl
  slot_by (x ∷ items) zero = refl
  slot_by (x ∷ items) (suc i) = slot_by items i

  -- one more slot
  pub push_by : (items : List (Option (I × I × W))) (a b : I) (w : W) {j k : ℕ} → number a ≡ j → number b ≡ k
      → edges_by number (items ++ Some (a, b, w) ∷ [])
      ≡ edges_by number items ++ Some (record { parent = j; child = k; weight = w }) ∷ []
  push_by [] a b w {j} {k} from to =
      ap (λ z. Some (record { parent = z; child = number b; weight = w }) ∷ []) from
      ∙ ap (λ z. Some (record { parent = j; child = z; weight = w }) ∷ []) to
  push_by (x ∷ items) a b w from to = ap (λ z. option_map (edge_of number) x ∷ z) (push_by items a b w from to)

  -- another weight in a slot
  pub replaces : (P : W → W → Type 0) (items : List (Option (I × I × W))) (at j k : ℕ) (mid : Option (I × I × W))
      (a b : I) (given made shown : W) → slot items at ≡ Some (a, b, given)
      → slot (edges_by number items) at ≡ Some (record { parent = j; child = k; weight = shown }) → P given made
      → IsReplaced P (edges_by number items) (edges_by number (set (set items at mid) at (Some (a, b, made)))) at j k
  replaces P items at j k mid a b given made shown held was called =
      let edge : Edge W = record { parent = number a; child = number b; weight = given } in
      let there : slot (edges_by number items) at ≡ Some edge =
      slot_by items at ∙ ap (λ z. option_map (edge_of number) z) held in
      let same : Some edge ≡ Some (record { parent = j; child = k; weight = shown }) = sym there ∙ was in
      let whole : edge ≡ record { parent = j; child = k; weight = shown } = cc in
      let from : number a ≡ j = ap (λ (z : Edge W). z.parent) whole in
      let to : number b ≡ k = ap (λ (z : Edge W). z.child) whole in
      let low : at < length (set items at mid) = omega (arith, slot_low items at (a, b, given) held, length-set items at mid) in
      record {
        given = given;
        made = made;
        was =
            there
            ∙ (ap (λ z. Some (record { parent = z; child = number b; weight = given })) from
            ∙ ap (λ z. Some (record { parent = j; child = z; weight = given })) to);
        is =
            slot_by (set (set items at mid) at (Some (a, b, made))) at
            ∙ (ap (λ z. option_map (edge_of number) z) (slot_set_same (set items at mid) at (a, b, made) low)
            ∙ (ap (λ z. Some (record { parent = z; child = number b; weight = made })) from
            ∙ ap (λ z. Some (record { parent = j; child = z; weight = made })) to));
        called = called;
        others = λ i other.
            slot_by (set (set items at mid) at (Some (a, b, made))) i
            ∙ (ap (λ z. option_map (edge_of number) z)
            (slot_set_other (set items at mid) at i (Some (a, b, made)) other ∙ slot_set_other items at i mid other)
            ∙ sym (slot_by items i));
        long =
            length-map (set (set items at mid) at (Some (a, b, made))) (option_map (edge_of number))
            ∙ (length-set (set items at mid) at (Some (a, b, made))
            ∙ (length-set items at mid ∙ sym (length-map items (option_map (edge_of number)))));
      }

module _ {N E I W : Type 0} (post : Option W → I → Bor E → W → Type 0) (of : ℕ → I) (g : Graph N E)
    (cs : List (List ℕ)) where
  -- one more edge, which leads elsewhere
  folds_passed : (a b : ℕ) (es : List ℕ) (e : ℕ) (given result : Option W) → ¬ LeadsBetween g cs e a b
      → FoldsBetween post of g cs a b es given result → FoldsBetween post of g cs a b (es ++ e ∷ []) given result
  folds_passed a b [] e given result elsewhere folds = inr (elsewhere, folds)
  folds_passed a b (x ∷ es) e given result elsewhere folds =
      elim folds [
        | inl p ↦ inl (p.0, p.1, p.2, folds_passed a b es e (Some p.1) result elsewhere p.3)
        | inr p ↦ inr (p.0, folds_passed a b es e given result elsewhere p.1)
      ]

  -- or from a to b
  folds_called : (a b : ℕ) (es : List ℕ) (e : ℕ) (given mid : Option W) (w : W) → LeadsBetween g cs e a b
      → IsGiven post of g cs mid e w → FoldsBetween post of g cs a b es given mid
      → FoldsBetween post of g cs a b (es ++ e ∷ []) given (Some w)
  folds_called a b [] e given mid w leads called folds =
      let P : Option W → Type 0 = λ z. IsGiven post of g cs z e w in
      inl (leads, w, subst P folds called, refl)
  folds_called a b (x ∷ es) e given mid w leads called folds =
      elim folds [
        | inl p ↦ inl (p.0, p.1, p.2, folds_called a b es e (Some p.1) mid w leads called p.3)
        | inr p ↦ inr (p.0, folds_called a b es e given mid w leads called p.1)
      ]

  -- no edge leads from a to b
  folds_nothing : (a b : ℕ) (es : List ℕ) (given : Option W) → ((e : ℕ) → Mem e es → ¬ LeadsBetween g cs e a b)
      → FoldsBetween post of g cs a b es given given
  folds_nothing a b [] given none = refl
  folds_nothing a b (x ∷ es) given none =
      inr (none x (inl refl), folds_nothing a b es given (λ e m. none e (inr m)))

  -- What was folded while the edges of the component j were looked at, and all of those before. An edge from j is in the
  -- slot that is noted for the component to which it leads.
  pub record Folded (j : ℕ) (found seen : List ℕ) (slots : List (Option (Edge W))) : Type 0 where
    pub folds : (i : ℕ) (x : Edge W) → slot slots i ≡ Some x
        → (x.parent ≢ x.child) × FoldsBetween post of g cs x.parent x.child seen None (Some x.weight)
    pub low : (i : ℕ) (x : Edge W) → slot slots i ≡ Some x → x.parent ≤ j
    pub every : (e a b : ℕ) → Mem e seen → LeadsBetween g cs e a b → a ≢ b
        → (i : ℕ) × (x : Edge W) × (slot slots i ≡ Some x) × (x.parent ≡ a) × (x.child ≡ b)
    pub single : (h i : ℕ) (x y : Edge W) → slot slots h ≡ Some x → slot slots i ≡ Some y → x.parent ≡ y.parent
        → x.child ≡ y.child → h ≡ i
    pub noted : (i : ℕ) (x : Edge W) → slot slots i ≡ Some x → x.parent ≡ j → slice_index found x.child ≡ i
    pub full : (i : ℕ) → i < length slots → IsSome (slot slots i)

  -- nothing yet
  pub folded_none : (found : List ℕ) → Folded 0 found [] []
  folded_none found =
      record {
        folds = λ i x is. absurd cc;
        low = λ i x is. absurd cc;
        every = λ e a b seen. absurd seen;
        single = λ h i x y is. absurd cc;
        noted = λ i x is. absurd cc;
        full = λ i low. absurd (omega arith);
      }

  module _ {j : ℕ} {found seen : List ℕ} {slots : List (Option (Edge W))} (s : Folded j found seen slots) where
    -- the next component
    pub folded_next : {j' : ℕ} → j' ≡ j + 1 → Folded j' found seen slots
    folded_next {j'} next =
        record {
          folds = s.folds;
          low = λ i x is. omega (arith, s.low i x is, next);
          every = s.every;
          single = s.single;
          noted = λ i x is from. absurd (omega (arith, s.low i x is, next, from));
          full = s.full;
        }

    -- the same, said of the same edges
    pub folded_seen : {seen' : List ℕ} → seen' ≡ seen → Folded j found seen' slots
    folded_seen is = let P : List ℕ → Type 0 = λ z. Folded j found z slots in subst P (sym is) s

    -- what was folded into the slot of two components, as the next call is given it
    pub given_again : (at k : ℕ) (given : W) → slot slots at ≡ Some (record { parent = j; child = k; weight = given })
        → FoldsBetween post of g cs j k seen None (Some given)
    given_again at k given is = (s.folds at (record { parent = j; child = k; weight = given }) is).1

    pub given_first : (k : ℕ) → j ≢ k → ¬ Joins slots (slice_index found k) j k
        → FoldsBetween post of g cs j k seen None None
    given_first k apart none =
        folds_nothing j k seen None (λ e m leads.
        let q = s.every e j k m leads apart in
        let at : slice_index found k ≡ q.0 =
        ap (λ (z : ℕ). slice_index found z) (sym q.4) ∙ s.noted q.0 q.1 q.2 q.3 in
        none (q.1, ap (λ (z : ℕ). slot slots z) at ∙ q.2, q.3, q.4))

    module _ (once : Unique (concat cs)) (e k : ℕ) (leads : LeadsBetween g cs e j k) where
      newer : (z : ℕ) → Mem z (seen ++ e ∷ []) → (z ≡ e) ⊎ Mem z seen
      newer z m =
          elim (mem_cases seen (e ∷ []) z m) [
            | inl a ↦ inr a
            | inr b ↦ elim b [ inl is ↦ inl is | inr n ↦ absurd n ]
          ]

      -- an edge within a component
      pub folds_inner : k ≡ j → Folded j found (seen ++ e ∷ []) slots
      folds_inner inner =
          record {
            folds = λ i x is.
                let f = s.folds i x is in
                let elsewhere : ¬ LeadsBetween g cs e x.parent x.child = λ l.
                let u = ends_unique g cs once e x.parent x.child j k l leads in
                f.0 (u.0 ∙ (sym inner ∙ sym u.1)) in
                (f.0, folds_passed x.parent x.child seen e None (Some x.weight) elsewhere f.1);
            low = s.low;
            every = λ z a b m between apart.
                elim (newer z m) [
                  | inl is ↦ (
                      let P : ℕ → Type 0 = λ y. LeadsBetween g cs y a b in
                      let u = ends_unique g cs once e a b j k (subst P is between) leads in
                      absurd (apart (u.0 ∙ (sym inner ∙ sym u.1)))
                      )
                  | inr old ↦ s.every z a b old between apart
                ];
            single = s.single;
            noted = s.noted;
            full = s.full;
          }

      module _ (apart : k ≢ j) where
        differ : j ≢ k
        differ is = apart (sym is)

        -- an edge of which there was none
        module _ {slots' : List (Option (Edge W))} {found' : List ℕ} (made : W) (low : k < length found)
            (called : IsGiven post of g cs None e made) (p : IsAppended slots slots' found found' j k made) where
          new : (i : ℕ) (x : Edge W) → slot slots' i ≡ Some x
              → ((i ≡ length slots) × (x ≡ record { parent = j; child = k; weight = made })) ⊎ (slot slots i ≡ Some x)
          new i x is =
              slot_made slots (record { parent = j; child = k; weight = made }) i x
              (ap (λ z. slot z i) (sym p.slots) ∙ is)

          kept : (i : ℕ) (x : Edge W) → slot slots i ≡ Some x → slot slots' i ≡ Some x
          kept i x is =
              ap (λ z. slot z i) p.slots
              ∙ slot_made_kept slots (record { parent = j; child = k; weight = made }) i x is

          there : slot slots' (length slots) ≡ Some (record { parent = j; child = k; weight = made })
          there =
              ap (λ z. slot z (length slots)) p.slots
              ∙ slot_made_new slots (record { parent = j; child = k; weight = made })

          -- no older edge leads from j to k
          none : (i : ℕ) (x : Edge W) → slot slots i ≡ Some x → x.parent ≡ j → x.child ≡ k → ⊥
          none i x is from to =
              let at : slice_index found k ≡ i = ap (λ (z : ℕ). slice_index found z) (sym to) ∙ s.noted i x is from in
              p.was (x, ap (λ (z : ℕ). slot slots z) at ∙ is, from, to)

          pub folds_new : Folded j found' (seen ++ e ∷ []) slots'
          folds_new =
              record {
                folds = λ i x is. elim (new i x is) [
                  | inl q ↦ (
                      let P : Edge W → Type 0 = λ z.
                      (z.parent ≢ z.child)
                      × FoldsBetween post of g cs z.parent z.child (seen ++ e ∷ []) None (Some z.weight) in
                      subst P (sym q.1) (
                        differ,
                        folds_called j k seen e None None made leads called (given_first k differ p.was),
                      )
                      )
                  | inr old ↦ (
                      let f = s.folds i x old in
                      let elsewhere : ¬ LeadsBetween g cs e x.parent x.child = λ l.
                      let u = ends_unique g cs once e x.parent x.child j k l leads in none i x old u.0 u.1 in
                      (f.0, folds_passed x.parent x.child seen e None (Some x.weight) elsewhere f.1)
                      )
                ];
                low = λ i x is. elim (new i x is) [
                  | inl q ↦ (let is_j : x.parent ≡ j = ap (λ (z : Edge W). z.parent) q.1 in omega (arith, is_j))
                  | inr old ↦ s.low i x old
                ];
                every = λ z a b m between other. elim (newer z m) [
                  | inl is ↦ (
                      let P : ℕ → Type 0 = λ y. LeadsBetween g cs y a b in
                      let u = ends_unique g cs once e a b j k (subst P is between) leads in
                      (length slots, record { parent = j; child = k; weight = made }, there, sym u.0, sym u.1)
                      )
                  | inr old ↦ (
                      let q = s.every z a b old between other in
                      (q.0, q.1, kept q.0 q.1 q.2, q.3, q.4)
                      )
                ];
                single = λ h i x y at_h at_i from to. elim (new h x at_h) [
                  | inl q ↦ elim (new i y at_i) [
                    | inl r ↦ q.0 ∙ sym r.0
                    | inr old ↦
                        absurd (none i y old (sym from ∙ ap (λ (z : Edge W). z.parent) q.1)
                        (sym to ∙ ap (λ (z : Edge W). z.child) q.1))
                  ]
                  | inr old ↦ elim (new i y at_i) [
                    | inl r ↦
                        absurd (none h x old (from ∙ ap (λ (z : Edge W). z.parent) r.1)
                        (to ∙ ap (λ (z : Edge W). z.child) r.1))
                    | inr older ↦ s.single h i x y old older from to
                  ]
                ];
                noted = λ i x is from. elim (new i x is) [
                  | inl q ↦
                      ap (λ (z : List ℕ). slice_index z x.child) p.noted
                      ∙ (ap (λ (z : ℕ). slice_index (set found k (length slots)) z) (ap (λ (z : Edge W). z.child) q.1)
                      ∙ (get_or-set_same found k (length slots) 0 low ∙ sym q.0))
                  | inr old ↦
                      ap (λ (z : List ℕ). slice_index z x.child) p.noted
                      ∙ (get_or-set_other found k x.child (length slots) 0 (λ to. none i x old from to)
                      ∙ s.noted i x old from)
                ];
                full = λ i below. elim (cases_eq i (length slots)) [
                  | inl last ↦ (
                      let is : slot slots' i ≡ Some (record { parent = j; child = k; weight = made }) =
                      ap (λ (z : ℕ). slot slots' z) last ∙ there in
                      ap is_some is
                      )
                  | inr before ↦ (
                      let long : length slots' ≡ length slots + 1 =
                      ap (λ z. length z) p.slots
                      ∙ length_push slots (Some (record { parent = j; child = k; weight = made })) in
                      let within : i < length slots = omega (arith, below, long, before) in
                      ap (λ z. is_some (slot z i)) p.slots
                      ∙ (ap is_some (slot_push_old slots (Some (record { parent = j; child = k; weight = made })) i within)
                      ∙ s.full i within)
                      )
                ];
              }

        -- an edge beside others between the same two
        module _ {slots' : List (Option (Edge W))} {at : ℕ}
            (p : IsReplaced (λ given made. IsGiven post of g cs (Some given) e made) slots slots' at j k) where
          own : Edge W
          own = record { parent = j; child = k; weight = p.made }

          -- what stands in a slot now
          standing : (i : ℕ) (x : Edge W) → slot slots' i ≡ Some x
              → ((i ≡ at) × (x ≡ record { parent = j; child = k; weight = p.made }))
              ⊎ ((i ≢ at) × (slot slots i ≡ Some x))
          standing i x is =
              elim (cases_eq i at) [
                | inl here ↦ (
                    let same : Some x ≡ Some (record { parent = j; child = k; weight = p.made }) =
                    sym is ∙ (ap (λ (z : ℕ). slot slots' z) here ∙ p.is) in
                    let whole : x ≡ record { parent = j; child = k; weight = p.made } = cc in
                    inl (here, whole)
                    )
                | inr d ↦ inr (d, sym (p.others i d) ∙ is)
              ]

          -- which edge stood there before
          stood : (i : ℕ) (x : Edge W) → slot slots' i ≡ Some x
              → (y : Edge W) × (slot slots i ≡ Some y) × (y.parent ≡ x.parent) × (y.child ≡ x.child)
          stood i x is =
              elim (standing i x is) [
                | inl q ↦ (
                  record { parent = j; child = k; weight = p.given },
                  ap (λ (z : ℕ). slot slots z) q.0 ∙ p.was,
                  sym (ap (λ (z : Edge W). z.parent) q.1),
                  sym (ap (λ (z : Edge W). z.child) q.1),
                )
                | inr old ↦ (x, old.1, refl, refl)
              ]

          pub folds_again : Folded j found (seen ++ e ∷ []) slots'
          folds_again =
              record {
                folds = λ i x is. elim (standing i x is) [
                  | inl q ↦ (
                      let P : Edge W → Type 0 = λ z.
                      (z.parent ≢ z.child)
                      × FoldsBetween post of g cs z.parent z.child (seen ++ e ∷ []) None (Some z.weight) in
                      subst P (sym q.1) (
                        differ,
                        folds_called j k seen e None (Some p.given) p.made leads p.called (given_again at k p.given p.was),
                      )
                      )
                  | inr old ↦ (
                      let f = s.folds i x old.1 in
                      let elsewhere : ¬ LeadsBetween g cs e x.parent x.child = λ l.
                      let u = ends_unique g cs once e x.parent x.child j k l leads in
                      old.0 (s.single i at x (record { parent = j; child = k; weight = p.given }) old.1 p.was u.0 u.1) in
                      (f.0, folds_passed x.parent x.child seen e None (Some x.weight) elsewhere f.1)
                      )
                ];
                low = λ i x is. let q = stood i x is in omega (arith, s.low i q.0 q.1, q.2);
                every = λ z a b m between other. elim (newer z m) [
                  | inl is ↦ (
                      let P : ℕ → Type 0 = λ y. LeadsBetween g cs y a b in
                      let u = ends_unique g cs once e a b j k (subst P is between) leads in
                      (at, record { parent = j; child = k; weight = p.made }, p.is, sym u.0, sym u.1)
                      )
                  | inr old ↦ (
                      let q = s.every z a b old between other in
                      elim (cases_eq q.0 at) [
                        | inl here ↦ (
                            let same : Some (record { parent = j; child = k; weight = p.given }) ≡ Some q.1 =
                            sym p.was ∙ (ap (λ (z : ℕ). slot slots z) (sym here) ∙ q.2) in
                            let whole : record { parent = j; child = k; weight = p.given } ≡ q.1 = cc in (
                              at,
                              record { parent = j; child = k; weight = p.made },
                              p.is,
                              ap (λ (z : Edge W). z.parent) whole ∙ q.3,
                              ap (λ (z : Edge W). z.child) whole ∙ q.4,
                            )
                            )
                        | inr d ↦ (q.0, q.1, p.others q.0 d ∙ q.2, q.3, q.4)
                      ]
                      )
                ];
                single = λ h i x y at_h at_i from to.
                    let q = stood h x at_h in
                    let r = stood i y at_i in
                    s.single h i q.0 r.0 q.1 r.1 (q.2 ∙ (from ∙ sym r.2)) (q.3 ∙ (to ∙ sym r.3));
                noted = λ i x is from.
                    let q = stood i x is in
                    ap (λ (z : ℕ). slice_index found z) (sym q.3) ∙ s.noted i q.0 q.1 (q.2 ∙ from);
                full = λ i below. elim (cases_eq i at) [
                  | inl here ↦ (
                      let is : slot slots' i ≡ Some (record { parent = j; child = k; weight = p.made }) =
                      ap (λ (z : ℕ). slot slots' z) here ∙ p.is in
                      ap is_some is
                      )
                  | inr d ↦ ap is_some (p.others i d) ∙ s.full i (omega (arith, below, p.long))
                ];
              }

  -- what was made of some edges was made of one
  folds_some : (a b : ℕ) (es : List ℕ) (w : W) → FoldsBetween post of g cs a b es None (Some w)
      → (e : ℕ) × LeadsBetween g cs e a b
  folds_some a b [] w folds = absurd cc
  folds_some a b (x ∷ es) w folds =
      elim folds [ inl p ↦ (x, p.0) | inr p ↦ folds_some a b es w p.1 ]

  pub folded_joins : (slots : List (Option (Edge W))) → IsFolded post of g cs slots → JoinsComponents g cs slots
  folded_joins slots s =
      record {
        lead = λ i x is.
            let f = s.folds i x is in
            let r = folds_some x.parent x.child (edges_read g cs) x.weight f.1 in
            (f.0, r.0, r.1);
        every = s.every;
      }
