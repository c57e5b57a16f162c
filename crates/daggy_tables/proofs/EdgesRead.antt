-- The edges that rows say.
use Rattle.std.proofs.Common.{◌≡◌, ℕ, ◌<◌, ◌==◌, false, List, [], ◌∷◌, ◌++◌, length, Option, Some, None, Result, Ok, Err, sym, ap, subst, ◌∙◌, inl, inr}
use Rattle.std.proofs.lemmas.Bool.{cases_Bool, ltb-true, eqb-true, eq-eqb}
use Rattle.std.proofs.lemmas.List.{map-append}
use Rattle.std.specs.Option.{option_map}
use Rattle.std.specs.Prelude.{nat_lt}
use Rattle.daggy_base.proofs.SlotLists.{slot_push_new, slot_push_other}
use Rattle.daggy_base.specs.FromSlots.{edge_of, edges_by}
use Rattle.daggy_base.specs.Graph.{Edge, slot}
use Rattle.daggy_tables.specs.Reading.{EndsBelow}
use Rattle.daggy_tables.specs.Rows.{Field, Row, number_of, index_below, edge_between, edge_of_fields, within}
use Rattle.daggy_tables.specs.declared.error.RowFault.{RowFault}

index_is_below : (bound : ℕ) (beyond : RowFault) (o : Option ℕ) (n : ℕ) → index_below bound beyond o ≡ Ok n → n < bound
index_is_below bound beyond None n e = cc e
index_is_below bound beyond (Some m) n e = elim (cases_Bool (nat_lt m bound)) [
  | inl passes ↦
      let same : m ≡ n = cc (rw passes at e) in
      let P : ℕ → Type 0 = λ k. k < bound in
      subst P same (ltb-true m bound passes)
  | inr fails ↦ cc (rw fails at e)
]

between_ends : (p q : Result ℕ RowFault) (weight : Field) (x : Edge Field) → edge_between p q weight ≡ Ok x
    → (p ≡ Ok x.parent) × (q ≡ Ok x.child)
between_ends (Err f) q weight x e = cc e
between_ends (Ok a) (Err f) weight x e = cc e
between_ends (Ok a) (Ok b) weight x e =
    let same : record { parent = a; child = b; weight = weight } ≡ x = cc e in
    (ap (λ (y : Edge Field). Ok y.parent) same, ap (λ (y : Edge Field). Ok y.child) same)

fields_ends : (bound : ℕ) (beyond : RowFault) (row : Row) (x : Edge Field) → edge_of_fields bound beyond row ≡ Ok x
    → (x.parent < bound) × (x.child < bound)
fields_ends bound beyond [] x e = cc e
fields_ends bound beyond (a ∷ []) x e = cc e
fields_ends bound beyond (a ∷ b ∷ []) x e = cc e
fields_ends bound beyond (a ∷ b ∷ weight ∷ []) x e =
    let ends = between_ends (index_below bound beyond (number_of a)) (index_below bound beyond (number_of b)) weight x e in
    (index_is_below bound beyond (number_of a) x.parent ends.0, index_is_below bound beyond (number_of b) x.child ends.1)
fields_ends bound beyond (a ∷ b ∷ weight ∷ y ∷ row) x e = cc e

pub said_itself : {A : Type 0} (limit n : ℕ) (said : Result A RowFault) (x : A) → within limit n said ≡ Ok x → said ≡ Ok x
said_itself limit n said x e = elim (cases_Bool (nat_lt n limit)) [
  | inl passes ↦ rw passes at e
  | inr fails ↦ cc (rw fails at e)
]

pub said_ends : (limit n bound : ℕ) (beyond : RowFault) (row : Row) (x : Edge Field) → within limit n (edge_of_fields bound beyond row) ≡ Ok x
    → (x.parent < bound) × (x.child < bound)
said_ends limit n bound beyond row x e = fields_ends bound beyond row x (said_itself limit n (edge_of_fields bound beyond row) x e)

module _ {E : Type 0} where
  pub ends_more : (bound : ℕ) (slots : List (Option (Edge E))) (y : Edge E) → EndsBelow bound slots → y.parent < bound → y.child < bound
      → EndsBelow bound (slots ++ Some y ∷ [])
  ends_more bound slots y ends parent child e x at = elim (cases_Bool (e == length slots)) [
    | inl same ↦
        let here = ap (slot (slots ++ Some y ∷ [])) (sym (eqb-true e (length slots) same)) in
        let is : y ≡ x = cc (slot_push_new slots (Some y), here, at) in
        let P : Edge E → Type 0 = λ z. (z.parent < bound) × (z.child < bound) in
        subst P is (parent, child)
    | inr other ↦
        ends e x (sym (slot_push_other slots (Some y) e (λ same. differ same other)) ∙ at)
  ]
    where
      differ : e ≡ length slots → (e == length slots) ≡ false → ⊥
      differ same other = cc (eq-eqb e (length slots) same, other)

  pub edges_more : {I : Type 0} (number : I → ℕ) (items : List (Option (I × I × E))) (x : I × I × E)
      → edges_by number (items ++ Some x ∷ []) ≡ edges_by number items ++ Some (edge_of number x) ∷ []
  edges_more number items x = map-append (option_map (edge_of number)) items (Some x ∷ [])
