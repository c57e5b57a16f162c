-- The slots that were filled before the edges of a component were read.
use Rattle.std.proofs.Common.{◌≡◌, ◌≢◌, ℕ, ◌+◌, ◌<◌, ◌≤◌, inl, inr, List, length, Option, Some, sym, ap, subst, ◌∙◌, arith}
use Rattle.std.proofs.lemmas.Bool.{cases_eq}
use Rattle.std.proofs.lemmas.List.{length_push}
use Rattle.daggy_base.specs.Graph.{Edge, slot}
use Rattle.daggy_base.proofs.SlotLists.{slot_push_old}
use Rattle.daggy_components.specs.Noting.{Joins, IsAppended}

-- the slots before begin hold edges from components before j
pub record AreEarlier {X : Type 0} (begin j : ℕ) (slots : List (Option (Edge X))) : Type 0 where
  pub some : begin ≤ length slots
  pub earlier : (i : ℕ) (x : Edge X) → i < begin → slot slots i ≡ Some x → x.parent < j

module _ {X : Type 0} {j : ℕ} {slots : List (Option (Edge X))} where
  -- all of them, where each edge is from j or from a component before it
  pub all_earlier : {j' : ℕ} → ((i : ℕ) (x : Edge X) → slot slots i ≡ Some x → x.parent ≤ j) → j' ≡ j + 1
      → AreEarlier (length slots) j' slots
  all_earlier low next =
      record {
        some = omega arith;
        earlier = λ i x before is. omega (arith, low i x is, next);
      }

  module _ {begin : ℕ} (s : AreEarlier begin j slots) where
    -- so none of them is from j
    pub none_joins : {k : ℕ} (i : ℕ) → i < begin → ¬ Joins slots i j k
    none_joins i before joins = omega (arith, s.earlier i joins.0 before joins.1, joins.2)

    -- the same, said of their number
    pub earlier_again : {begin' : ℕ} → begin' ≡ begin → AreEarlier begin' j slots
    earlier_again is = let P : ℕ → Type 0 = λ z. AreEarlier z j slots in subst P (sym is) s

    -- another edge from j takes the place of one
    pub earlier_kept : {slots' : List (Option (Edge X))} {at : ℕ} (x : Edge X) → slot slots at ≡ Some x → x.parent ≡ j
        → ((i : ℕ) → i ≢ at → slot slots' i ≡ slot slots i) → length slots' ≡ length slots
        → AreEarlier begin j slots'
    earlier_kept {slots'} {at} y was from others long =
        record {
          some = omega (arith, s.some, long);
          earlier = λ i x before is.
              elim (cases_eq i at) [
                | inl here ↦
                    absurd (omega (arith, s.earlier i y before (ap (λ (z : ℕ). slot slots z) here ∙ was), from))
                | inr other ↦ s.earlier i x before (sym (others i other) ∙ is)
              ];
        }

    -- one more edge comes after them
    pub earlier_appended : {slots' : List (Option (Edge X))} {found found' : List ℕ} {k : ℕ} {e : X}
        → IsAppended slots slots' found found' j k e → AreEarlier begin j slots'
    earlier_appended {slots'} {k = k} {e} p =
        record {
          some =
              let long : length slots' ≡ length slots + 1 =
              ap (λ z. length z) p.slots ∙ length_push slots (Some (record { parent = j; child = k; weight = e })) in
              omega (arith, s.some, long);
          earlier = λ i x before is.
              let within : i < length slots = omega (arith, before, s.some) in
              s.earlier i x before (
              sym (slot_push_old slots (Some (record { parent = j; child = k; weight = e })) i within)
              ∙ (sym (ap (λ z. slot z i) p.slots) ∙ is)
              );
        }
