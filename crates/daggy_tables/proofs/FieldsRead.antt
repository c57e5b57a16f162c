-- What the fields of a row say.
use Rattle.std.proofs.Common.{◌≡◌, ℕ, ◌+◌, ◌<◌, ◌==◌, [], ◌∷◌, length, Option, Some, None, Result, Ok, Err, unwrap_or, refl, sym, ap, ◌∙◌, lt-ltb, arith, inl, inr}
use Rattle.std.proofs.lemmas.Bool.{cases_Bool, eqb-true, ne_eqb, eq-eqb}
use Rattle.std.specs.Prelude.{nat_lt}
use Rattle.csv.specs.Records.{field_at}
use Rattle.daggy_tables.specs.declared.error.RowFault.{RowFault}
use Rattle.daggy_tables.specs.declared.error.RowFault.TheVariants.{NotInOrder}
use Rattle.daggy_tables.specs.Rows.{Field, Row, number_of, index_below, edge_between, edge_of_fields, node_of_fields, weight_after, within}

-- the field at a place, as code reads it
abbrev pub field_of : Row → ℕ → Field
field_of fields i = unwrap_or (field_at fields i) []

two_fields : (fields : Row) → length fields ≡ 2 → fields ≡ field_of fields 0 ∷ field_of fields 1 ∷ []
unfolding field_at
two_fields [] h = cc h
two_fields (a ∷ []) h = cc h
two_fields (a ∷ b ∷ []) h = refl
two_fields (a ∷ b ∷ x ∷ fields) h = absurd (omega (arith, h))

three_fields : (fields : Row) → length fields ≡ 3 → fields ≡ field_of fields 0 ∷ field_of fields 1 ∷ field_of fields 2 ∷ []
unfolding field_at
three_fields [] h = cc h
three_fields (a ∷ []) h = cc h
three_fields (a ∷ b ∷ []) h = cc h
three_fields (a ∷ b ∷ x ∷ []) h = refl
three_fields (a ∷ b ∷ x ∷ y ∷ fields) h = absurd (omega (arith, h))

pub within_limit : {A : Type 0} (limit n : ℕ) (said : Result A RowFault) → n < limit → within limit n said ≡ said
within_limit limit n said below = rw (lt-ltb n limit below) refl

module _ (limit e bound : ℕ) (beyond : RowFault) (fields : Row) where
  -- the edge of three fields, from what each of them says
  pub edge_said : (a b weight : Field) (parent child : Result ℕ RowFault) → e < limit → length fields ≡ 3
      → a ≡ field_of fields 0 → b ≡ field_of fields 1 → weight ≡ field_of fields 2
      → parent ≡ index_below bound beyond (number_of a) → child ≡ index_below bound beyond (number_of b)
      → within limit e (edge_of_fields bound beyond fields) ≡ edge_between parent child weight
  edge_said a b weight parent child below three first second third from to =
      within_limit limit e (edge_of_fields bound beyond fields) below
      ∙ ap (edge_of_fields bound beyond) (three_fields fields three)
      ∙ sym (ap (λ f. edge_between (index_below bound beyond (number_of f)) (index_below bound beyond (number_of (field_of fields 1))) (field_of fields 2)) first)
      ∙ sym (ap (λ f. edge_between (index_below bound beyond (number_of a)) (index_below bound beyond (number_of f)) (field_of fields 2)) second)
      ∙ sym (ap (λ f. edge_between (index_below bound beyond (number_of a)) (index_below bound beyond (number_of b)) f) third)
      ∙ sym (ap (λ r. edge_between r (index_below bound beyond (number_of b)) weight) from)
      ∙ sym (ap (λ r. edge_between parent r weight) to)

  -- the parent is at fault
  pub parent_at_fault : (a : Field) (parent : Result ℕ RowFault) (fault : RowFault) → e < limit → length fields ≡ 3
      → a ≡ field_of fields 0 → parent ≡ index_below bound beyond (number_of a) → parent ≡ Err fault
      → within limit e (edge_of_fields bound beyond fields) ≡ Err fault
  parent_at_fault a parent fault below three first from is =
      edge_said a (field_of fields 1) (field_of fields 2) parent _ below three first refl refl from refl
      ∙ ap (λ r. edge_between r (index_below bound beyond (number_of (field_of fields 1))) (field_of fields 2)) is

  -- the child is
  pub child_at_fault : (a b : Field) (parent child : Result ℕ RowFault) (n : ℕ) (fault : RowFault) → e < limit → length fields ≡ 3
      → a ≡ field_of fields 0 → b ≡ field_of fields 1
      → parent ≡ index_below bound beyond (number_of a) → child ≡ index_below bound beyond (number_of b)
      → parent ≡ Ok n → child ≡ Err fault
      → within limit e (edge_of_fields bound beyond fields) ≡ Err fault
  child_at_fault a b parent child n fault below three first second from to is at_fault =
      edge_said a b (field_of fields 2) parent child below three first second refl from to
      ∙ ap (λ r. edge_between r child (field_of fields 2)) is
      ∙ ap (λ r. edge_between (Ok n) r (field_of fields 2)) at_fault

  -- the edge
  pub edge_found : (a b weight : Field) (parent child : Result ℕ RowFault) (n m : ℕ) → e < limit → length fields ≡ 3
      → a ≡ field_of fields 0 → b ≡ field_of fields 1 → weight ≡ field_of fields 2
      → parent ≡ index_below bound beyond (number_of a) → child ≡ index_below bound beyond (number_of b)
      → parent ≡ Ok n → child ≡ Ok m
      → within limit e (edge_of_fields bound beyond fields) ≡ Ok (record { parent = n; child = m; weight = weight })
  edge_found a b weight parent child n m below three first second third from to is also =
      edge_said a b weight parent child below three first second third from to
      ∙ ap (λ r. edge_between r child weight) is
      ∙ ap (λ r. edge_between (Ok n) r weight) also

-- the weight of a node whose index was read below the next one
weight_read : (n : ℕ) (o : Option ℕ) (weight : Field) (index : ℕ) → index_below (n + 1) NotInOrder o ≡ Ok index
    → weight_after n o weight ≡ weight_after n (Some index) weight
weight_read n None weight index is = cc is
weight_read n (Some i) weight index is = elim (cases_Bool (nat_lt i (n + 1))) [
  | inl passes ↦ let same : i ≡ index = cc (rw passes at is) in ap (λ j. weight_after n (Some j) weight) same
  | inr fails ↦ cc (rw fails at is)
]

weight_refused : (n : ℕ) (o : Option ℕ) (weight : Field) (fault : RowFault) → index_below (n + 1) NotInOrder o ≡ Err fault
    → weight_after n o weight ≡ Err fault
weight_refused n None weight fault is = cc is
weight_refused n (Some i) weight fault is = elim (cases_Bool (nat_lt i (n + 1))) [
  | inl passes ↦ cc (rw passes at is)
  | inr fails ↦
      elim (cases_Bool (i == n)) [
        | inl same ↦
            let equal : i ≡ n = eqb-true i n same in
            let below : i < n + 1 = omega (arith, equal) in
            cc (fails, lt-ltb i (n + 1) below)
        | inr other ↦ let same : NotInOrder ≡ fault = cc (rw fails at is) in rw other (ap (λ (f : RowFault). Err f) same)
      ]
]

module _ (limit n : ℕ) (fields : Row) where
  node_said : (a : Field) → n < limit → length fields ≡ 2 → a ≡ field_of fields 0
      → within limit n (node_of_fields n fields) ≡ weight_after n (number_of a) (field_of fields 1)
  node_said a below two first =
      within_limit limit n (node_of_fields n fields) below
      ∙ ap (node_of_fields n) (two_fields fields two)
      ∙ sym (ap (λ f. weight_after n (number_of f) (field_of fields 1)) first)

  pub index_at_fault : (a : Field) (read : Result ℕ RowFault) (fault : RowFault) → n < limit → length fields ≡ 2 → a ≡ field_of fields 0
      → read ≡ index_below (n + 1) NotInOrder (number_of a) → read ≡ Err fault
      → within limit n (node_of_fields n fields) ≡ Err fault
  index_at_fault a read fault below two first from is =
      node_said a below two first ∙ weight_refused n (number_of a) (field_of fields 1) fault (sym from ∙ is)

  node_after : (a : Field) (read : Result ℕ RowFault) (index : ℕ) → n < limit → length fields ≡ 2 → a ≡ field_of fields 0
      → read ≡ index_below (n + 1) NotInOrder (number_of a) → read ≡ Ok index
      → within limit n (node_of_fields n fields) ≡ weight_after n (Some index) (field_of fields 1)
  node_after a read index below two first from is =
      node_said a below two first ∙ weight_read n (number_of a) (field_of fields 1) index (sym from ∙ is)

  pub not_in_order : (a : Field) (read : Result ℕ RowFault) (index : ℕ) → n < limit → length fields ≡ 2 → a ≡ field_of fields 0
      → read ≡ index_below (n + 1) NotInOrder (number_of a) → read ≡ Ok index → (index ≡ n → ⊥)
      → within limit n (node_of_fields n fields) ≡ Err NotInOrder
  not_in_order a read index below two first from is other =
      node_after a read index below two first from is ∙ rw (ne_eqb index n other) refl

  pub node_found : (a weight : Field) (read : Result ℕ RowFault) (index : ℕ) → n < limit → length fields ≡ 2 → a ≡ field_of fields 0
      → weight ≡ field_of fields 1
      → read ≡ index_below (n + 1) NotInOrder (number_of a) → read ≡ Ok index → index ≡ n
      → within limit n (node_of_fields n fields) ≡ Ok weight
  node_found a weight read index below two first second from is same =
      node_after a read index below two first from is ∙ rw (eq-eqb index n same) (ap (λ (w : Field). Ok w) (sym second))
