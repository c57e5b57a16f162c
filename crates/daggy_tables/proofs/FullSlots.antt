-- Slots of which none is vacant.
use Rattle.std.proofs.Common.{◌≡◌, ℕ, zero, suc, ◌<◌, ◌≤◌, List, [], ◌∷◌, ◌++◌, length, Option, Some, None, IsSome, replicate, refl, sym, ap, subst, ◌∙◌, arith, append_assoc}
use Rattle.std.proofs.lemmas.List.{length-map, length-replicate}
use Rattle.std.specs.Option.{option_map}
use Rattle.daggy_base.proofs.SlotLists.{vacant_is_listed, none_vacant}
use Rattle.daggy_base.specs.FromSlots.{vacant_down, edge_of, edges_by, MakeGraph}
use Rattle.daggy_base.specs.Graph.{slot}
use Rattle.daggy_tables.specs.Reading.{occupied, EndsBelow}

-- no slot after these is vacant
abbrev NoneAfter : {A : Type 0} → (before slots : List (Option A)) → Type 0
NoneAfter {A} before slots = (front behind : List (Option A)) → before ++ slots ≡ front ++ None ∷ behind → ⊥

after_one : {A : Type 0} (before slots : List (Option A)) (x : Option A) → NoneAfter before (x ∷ slots) → NoneAfter (before ++ x ∷ []) slots
after_one before slots x none front behind is = none front behind (sym (append_assoc before (x ∷ []) slots) ∙ is)

count_occupied : {A : Type 0} (before slots : List (Option A)) → NoneAfter before slots → length (occupied slots) ≡ length slots
count_occupied before [] none = refl
count_occupied before (None ∷ slots) none = absurd (none before slots refl)
count_occupied before (Some x ∷ slots) none = ap suc (count_occupied (before ++ Some x ∷ []) slots (after_one before slots (Some x) none))

there : {A : Type 0} (before slots : List (Option A)) (i : ℕ) → NoneAfter before slots → i < length slots → IsSome (slot slots i)
there before [] i none within = absurd (omega (arith, within))
there before (None ∷ slots) i none within = absurd (none before slots refl)
there before (Some x ∷ slots) zero none within = refl
there before (Some x ∷ slots) (suc i) none within =
    there (before ++ Some x ∷ []) slots i (after_one before slots (Some x) none) (omega (arith, within))

module _ {A : Type 0} (slots : List (Option A)) (full : vacant_down slots ≡ []) where
  none_after : NoneAfter [] slots
  none_after front behind is = vacant_is_listed front behind slots is full

  pub all_occupied : length (occupied slots) ≡ length slots
  all_occupied = count_occupied [] slots none_after

  pub is_occupied : (i : ℕ) → i < length slots → IsSome (slot slots i)
  is_occupied i within = there [] slots i none_after within

-- slots that are all occupied, and edges between them, make a graph
pub make_graph : {N E I : Type 0} (limit : ℕ) (number : I → ℕ) (nodes : List (Option N)) (edges : List (Option (I × I × E)))
    → length nodes ≤ limit → length edges ≤ limit → vacant_down nodes ≡ [] → EndsBelow (length nodes) (edges_by number edges)
    → MakeGraph limit nodes (edges_by number edges)
make_graph limit number nodes edges few few_edges full ends = record {
  few_nodes = few;
  few_edges = let same = length-map edges (option_map (edge_of number)) in omega (arith, same);
  parents = λ e x at. is_occupied nodes full x.parent (ends e x at).0;
  children = λ e x at. is_occupied nodes full x.child (ends e x at).1;
}

-- slots without weights
pub none_is_vacant : (n : ℕ) (slots : List (Option (Unit {0}))) → slots ≡ replicate n (Some tt) → vacant_down slots ≡ []
none_is_vacant n slots are =
    none_vacant slots (λ i within. subst (λ l. IsSome (slot l i)) (sym are)
    (full n i (omega (arith, within, ap (λ (z : List (Option (Unit {0}))). length z) are, length-replicate n (Some (tt {0}))))))
  where
    full : (k i : ℕ) → i < k → IsSome (slot (replicate k (Some (tt {0}))) i)
    full zero i within = absurd (omega (arith, within))
    full (suc k) zero within = refl
    full (suc k) (suc i) within = full k i (omega (arith, within))
