-- The edges between components, as they are gathered.
use Rattle.std.proofs.Common.{◌≡◌, ◌≢◌, ℕ, zero, suc, ◌+◌, ◌<◌, ◌≤◌, ◌⊎◌, inl, inr, List, [], ◌∷◌, length, set}
use Rattle.std.proofs.Common.{Option, Some, IsSome, is_some, refl, sym, ap, subst, ◌∙◌, arith}
use Rattle.std.specs.List.{concat, slice_index}
use Rattle.std.proofs.lemmas.Bool.{cases_eq}
use Rattle.std.proofs.lemmas.List.{get_or-set_other, get_or-set_same, length_push}
use Rattle.daggy_base.specs.Graph.{Graph, Edge, slot}
use Rattle.daggy_base.proofs.Lists.{Mem, Unique, unique_right, contains_mem}
use Rattle.daggy_base.proofs.Slots.{slot_made, slot_made_kept, slot_made_new}
use Rattle.daggy_base.proofs.SlotLists.{slot_push_old}
use Rattle.daggy_components.specs.Components.{component}
use Rattle.daggy_components.specs.Condensation.{LeadsBetween, AreBetween}
use Rattle.daggy_components.specs.Noting.{IsLowered, IsAppended}
use Rattle.daggy_components.proofs.Groups.{member, unique_apart}

-- a node is in one component
pub same_component : (cs : List (List ℕ)) → Unique (concat cs) → (a b v : ℕ) → Mem v (component cs a)
    → Mem v (component cs b) → a ≡ b
same_component [] once a b v m i = absurd m
same_component (c ∷ cs) once zero zero v m i = refl
same_component (c ∷ cs) once zero (suc b) v m i = absurd (unique_apart c (concat cs) v once m (member cs b v i))
same_component (c ∷ cs) once (suc a) zero v m i = absurd (unique_apart c (concat cs) v once i (member cs a v m))
same_component (c ∷ cs) once (suc a) (suc b) v m i =
    ap (λ (z : ℕ). suc z) (same_component cs (unique_right c (concat cs) once) a b v m i)

-- an edge leads between two components alone
pub ends_unique : {N E : Type 0} (g : Graph N E) (cs : List (List ℕ)) → Unique (concat cs) → (e a b j k : ℕ)
    → LeadsBetween g cs e a b → LeadsBetween g cs e j k → (a ≡ j) × (b ≡ k)
ends_unique {N} {E} g cs once e a b j k p q =
    let same : Some p.0 ≡ Some q.0 = sym p.1 ∙ q.1 in
    let whole : p.0 ≡ q.0 = cc in
    let from : p.0.parent ≡ q.0.parent = ap (λ (x : Edge E). x.parent) whole in
    let to : p.0.child ≡ q.0.child = ap (λ (x : Edge E). x.child) whole in
    let P : ℕ → Type 0 = λ z. Mem z (component cs j) in
    let Q : ℕ → Type 0 = λ z. Mem z (component cs k) in (
      same_component cs once a j p.0.parent (contains_mem (component cs a) _ p.2)
          (subst P (sym from) (contains_mem (component cs j) _ q.2)),
      same_component cs once b k p.0.child (contains_mem (component cs b) _ p.3)
          (subst Q (sym to) (contains_mem (component cs k) _ q.3)),
    )

-- What was gathered while the edges of the component j were looked at, and all of those before: an edge for each that was
-- seen. An edge from j is in the slot that is noted for the component to which it leads.
pub record Gathered {N E X : Type 0} (number : X → ℕ) (g : Graph N E) (cs : List (List ℕ)) (j : ℕ) (found : List ℕ)
    (Seen : ℕ → Type 0) (slots : List (Option (Edge X))) : Type 0 where
  pub lead : (i : ℕ) (x : Edge X) → slot slots i ≡ Some x
      → (x.parent ≢ x.child) × LeadsBetween g cs (number x.weight) x.parent x.child
  pub low : (i : ℕ) (x : Edge X) → slot slots i ≡ Some x → x.parent ≤ j
  pub every : (e a b : ℕ) → Seen e → LeadsBetween g cs e a b → a ≢ b
      → (i : ℕ) × (x : Edge X) × (slot slots i ≡ Some x) × (x.parent ≡ a) × (x.child ≡ b) × (number x.weight ≤ e)
  pub single : (h i : ℕ) (x y : Edge X) → slot slots h ≡ Some x → slot slots i ≡ Some y → x.parent ≡ y.parent
      → x.child ≡ y.child → h ≡ i
  pub noted : (i : ℕ) (x : Edge X) → slot slots i ≡ Some x → x.parent ≡ j → slice_index found x.child ≡ i
  pub full : (i : ℕ) → i < length slots → IsSome (slot slots i)

module _ {N E X : Type 0} {number : X → ℕ} {g : Graph N E} {cs : List (List ℕ)} where
  -- nothing yet
  pub gathered_none : (found : List ℕ) {Seen : ℕ → Type 0} → ((e : ℕ) → Seen e → ⊥) → Gathered number g cs 0 found Seen []
  gathered_none found none =
      record {
        lead = λ i x is. absurd cc;
        low = λ i x is. absurd cc;
        every = λ e a b seen. absurd (none e seen);
        single = λ h i x y is. absurd cc;
        noted = λ i x is. absurd cc;
        full = λ i low. absurd (omega arith);
      }

  module _ {j : ℕ} {found : List ℕ} {Seen : ℕ → Type 0} {slots : List (Option (Edge X))}
      (s : Gathered number g cs j found Seen slots) where
    -- the next component
    pub gathered_next : {j' : ℕ} → j' ≡ j + 1 → Gathered number g cs j' found Seen slots
    gathered_next {j'} next =
        record {
          lead = s.lead;
          low = λ i x is. omega (arith, s.low i x is, next);
          every = s.every;
          single = s.single;
          noted = λ i x is from. absurd (omega (arith, s.low i x is, next, from));
          full = s.full;
        }

    -- the same, said of other edges
    pub gathered_seen : {Seen' : ℕ → Type 0} → ((e : ℕ) → Seen' e → Seen e) → Gathered number g cs j found Seen' slots
    gathered_seen more =
        record {
          lead = s.lead;
          low = s.low;
          every = λ e a b seen. s.every e a b (more e seen);
          single = s.single;
          noted = s.noted;
          full = s.full;
        }

    module _ (once : Unique (concat cs)) {Seen' : ℕ → Type 0} {w : X}
        (more : (e : ℕ) → Seen' e → (e ≡ number w) ⊎ Seen e) {k : ℕ} (leads : LeadsBetween g cs (number w) j k) where
      -- an edge within a component
      pub gathers_inner : k ≡ j → Gathered number g cs j found Seen' slots
      gathers_inner inner =
          record {
            lead = s.lead;
            low = s.low;
            every = λ e a b seen between apart.
                elim (more e seen) [
                  | inl is ↦ (
                      let P : ℕ → Type 0 = λ z. LeadsBetween g cs z a b in
                      let u = ends_unique g cs once (number w) a b j k (subst P is between) leads in
                      absurd (apart (u.0 ∙ (sym inner ∙ sym u.1)))
                      )
                  | inr old ↦ s.every e a b old between apart
                ];
            single = s.single;
            noted = s.noted;
            full = s.full;
          }

      module _ (apart : k ≢ j) where
        own : Edge X
        own = record { parent = j; child = k; weight = w }

        differ : j ≢ k
        differ e = apart (sym e)

        -- an edge of which there was none
        module _ {slots' : List (Option (Edge X))} {found' : List ℕ} (low : k < length found)
            (p : IsAppended slots slots' found found' j k w) where
          new : (i : ℕ) (x : Edge X) → slot slots' i ≡ Some x → ((i ≡ length slots) × (x ≡ record { parent = j; child = k; weight = w })) ⊎ (slot slots i ≡ Some x)
          new i x is =
              slot_made slots (record { parent = j; child = k; weight = w }) i x
              (ap (λ z. slot z i) (sym p.slots) ∙ is)

          kept : (i : ℕ) (x : Edge X) → slot slots i ≡ Some x → slot slots' i ≡ Some x
          kept i x is =
              ap (λ z. slot z i) p.slots
              ∙ slot_made_kept slots (record { parent = j; child = k; weight = w }) i x is

          made : slot slots' (length slots) ≡ Some (record { parent = j; child = k; weight = w })
          made =
              ap (λ z. slot z (length slots)) p.slots
              ∙ slot_made_new slots (record { parent = j; child = k; weight = w })

          -- no older edge leads from j to k
          none : (i : ℕ) (x : Edge X) → slot slots i ≡ Some x → x.parent ≡ j → x.child ≡ k → ⊥
          none i x is from to =
              let at : slice_index found k ≡ i = ap (λ (z : ℕ). slice_index found z) (sym to) ∙ s.noted i x is from in
              p.was (x, ap (λ (z : ℕ). slot slots z) at ∙ is, from, to)

          pub gathers_new : Gathered number g cs j found' Seen' slots'
          gathers_new =
              record {
                lead = λ i x is. elim (new i x is) [
                  | inl q ↦ (
                      let P : Edge X → Type 0 = λ z.
                      (z.parent ≢ z.child) × LeadsBetween g cs (number z.weight) z.parent z.child in
                      subst P (sym q.1) (differ, leads)
                      )
                  | inr old ↦ s.lead i x old
                ];
                low = λ i x is. elim (new i x is) [
                  | inl q ↦ (let e : x.parent ≡ j = ap (λ (z : Edge X). z.parent) q.1 in omega (arith, e))
                  | inr old ↦ s.low i x old
                ];
                every = λ e a b seen between other. elim (more e seen) [
                  | inl is ↦ (
                      let P : ℕ → Type 0 = λ z. LeadsBetween g cs z a b in
                      let u = ends_unique g cs once (number w) a b j k (subst P is between) leads in
                      (length slots, record { parent = j; child = k; weight = w }, made, sym u.0, sym u.1, omega (arith, is))
                      )
                  | inr old ↦ (
                      let q = s.every e a b old between other in
                      (q.0, q.1, kept q.0 q.1 q.2, q.3, q.4, q.5)
                      )
                ];
                single = λ h i x y at_h at_i from to. elim (new h x at_h) [
                  | inl q ↦ elim (new i y at_i) [
                    | inl r ↦ q.0 ∙ sym r.0
                    | inr old ↦
                        absurd (none i y old (sym from ∙ ap (λ (z : Edge X). z.parent) q.1)
                        (sym to ∙ ap (λ (z : Edge X). z.child) q.1))
                  ]
                  | inr old ↦ elim (new i y at_i) [
                    | inl r ↦
                        absurd (none h x old (from ∙ ap (λ (z : Edge X). z.parent) r.1)
                        (to ∙ ap (λ (z : Edge X). z.child) r.1))
                    | inr older ↦ s.single h i x y old older from to
                  ]
                ];
                noted = λ i x is from. elim (new i x is) [
                  | inl q ↦
                      ap (λ (z : List ℕ). slice_index z x.child) p.noted
                      ∙ (ap (λ (z : ℕ). slice_index (set found k (length slots)) z) (ap (λ (z : Edge X). z.child) q.1)
                      ∙ (get_or-set_same found k (length slots) 0 low ∙ sym q.0))
                  | inr old ↦
                      ap (λ (z : List ℕ). slice_index z x.child) p.noted
                      ∙ (get_or-set_other found k x.child (length slots) 0 (λ to. none i x old from to)
                      ∙ s.noted i x old from)
                ];
                full = λ i below. elim (cases_eq i (length slots)) [
                  | inl last ↦ (
                      let e : slot slots' i ≡ Some (record { parent = j; child = k; weight = w }) =
                      ap (λ (z : ℕ). slot slots' z) last ∙ made in
                      ap is_some e
                      )
                  | inr before ↦ (
                      let long : length slots' ≡ length slots + 1 =
                      ap (λ z. length z) p.slots
                      ∙ length_push slots (Some (record { parent = j; child = k; weight = w })) in
                      let within : i < length slots = omega (arith, below, long, before) in
                      ap (λ z. is_some (slot z i)) p.slots
                      ∙ (ap is_some (slot_push_old slots (Some (record { parent = j; child = k; weight = w })) i within)
                      ∙ s.full i within)
                      )
                ];
              }

        -- an edge beside one that was noted
        module _ {slots' : List (Option (Edge X))} {at : ℕ} (p : IsLowered number slots slots' at j k w) where
          -- what stood in a slot before
          before : (i : ℕ) (x : Edge X) → slot slots' i ≡ Some x
              → ((i ≡ at) × (x ≡ record { parent = j; child = k; weight = p.weight })) ⊎ (slot slots i ≡ Some x)
          before i x is =
              elim (cases_eq i at) [
                | inl e ↦ (
                    let same : Some x ≡ Some (record { parent = j; child = k; weight = p.weight }) =
                    sym is ∙ (ap (λ (z : ℕ). slot slots' z) e ∙ p.is) in
                    let whole : x ≡ record { parent = j; child = k; weight = p.weight } = cc in
                    inl (e, whole)
                    )
                | inr d ↦ inr (sym (p.others i d) ∙ is)
              ]

          older : (i : ℕ) (x : Edge X) → slot slots' i ≡ Some x
              → (y : Edge X) × (slot slots i ≡ Some y) × (y.parent ≡ x.parent) × (y.child ≡ x.child)
          older i x is =
              elim (before i x is) [
                | inl q ↦ (
                  p.was.0,
                  ap (λ (z : ℕ). slot slots z) q.0 ∙ p.was.1,
                  p.was.2 ∙ sym (ap (λ (z : Edge X). z.parent) q.1),
                  p.was.3 ∙ sym (ap (λ (z : Edge X). z.child) q.1),
                )
                | inr old ↦ (x, old, refl, refl)
              ]

          leads_now : LeadsBetween g cs (number p.weight) j k
          leads_now =
              elim p.one_of [
                | inl old ↦ (s.lead at (record { parent = j; child = k; weight = p.weight }) old).1
                | inr is ↦ (let P : X → Type 0 = λ z. LeadsBetween g cs (number z) j k in subst P (sym is) leads)
              ]

          pub gathers_less : Gathered number g cs j found Seen' slots'
          gathers_less =
              record {
                lead = λ i x is. elim (before i x is) [
                  | inl q ↦ (
                      let P : Edge X → Type 0 = λ z.
                      (z.parent ≢ z.child) × LeadsBetween g cs (number z.weight) z.parent z.child in
                      subst P (sym q.1) (differ, leads_now)
                      )
                  | inr old ↦ s.lead i x old
                ];
                low = λ i x is. elim (before i x is) [
                  | inl q ↦ (let e : x.parent ≡ j = ap (λ (z : Edge X). z.parent) q.1 in omega (arith, e))
                  | inr old ↦ s.low i x old
                ];
                every = λ e a b seen between other. elim (more e seen) [
                  | inl is ↦ (
                      let P : ℕ → Type 0 = λ z. LeadsBetween g cs z a b in
                      let u = ends_unique g cs once (number w) a b j k (subst P is between) leads in
                      (at, record { parent = j; child = k; weight = p.weight }, p.is, sym u.0, sym u.1, omega (arith, is, p.low))
                      )
                  | inr old ↦ (
                      let q = s.every e a b old between other in
                      elim (cases_eq q.0 at) [
                        | inl here ↦ (
                            let there : slot slots at ≡ Some q.1 = ap (λ (z : ℕ). slot slots z) (sym here) ∙ q.2 in
                            let same : Some p.was.0 ≡ Some q.1 = sym p.was.1 ∙ there in
                            let whole : p.was.0 ≡ q.1 = cc in (
                              at,
                              record { parent = j; child = k; weight = p.weight },
                              p.is,
                              sym p.was.2 ∙ (ap (λ (z : Edge X). z.parent) whole ∙ q.3),
                              sym p.was.3 ∙ (ap (λ (z : Edge X). z.child) whole ∙ q.4),
                              omega (arith, p.least q.1 there, q.5),
                            )
                            )
                        | inr d ↦ (q.0, q.1, p.others q.0 d ∙ q.2, q.3, q.4, q.5)
                      ]
                      )
                ];
                single = λ h i x y at_h at_i from to.
                    let u = older h x at_h in
                    let v = older i y at_i in
                    s.single h i u.0 v.0 u.1 v.1 (u.2 ∙ (from ∙ sym v.2)) (u.3 ∙ (to ∙ sym v.3));
                noted = λ i x is from.
                    let u = older i x is in
                    ap (λ (z : ℕ). slice_index found z) (sym u.3) ∙ s.noted i u.0 u.1 (u.2 ∙ from);
                full = λ i below. elim (cases_eq i at) [
                  | inl here ↦ ap is_some (ap (λ (z : ℕ). slot slots' z) here ∙ p.is)
                  | inr d ↦ ap is_some (p.others i d) ∙ s.full i (omega (arith, below, p.long))
                ];
              }

    -- all edges were seen
    pub gathered_all : ((e j k : ℕ) → LeadsBetween g cs e j k → Seen e) → AreBetween number g cs slots
    gathered_all all =
        record {
          lead = s.lead;
          every = λ e a b between apart. s.every e a b (all e a b between) between apart;
          single = s.single;
          full = s.full;
        }
