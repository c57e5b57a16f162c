-- The stages of reading, put together.
use Rattle.std.proofs.Common.{◌≡◌, ℕ, zero, suc, ◌+◌, Option, Some, None, IsSome, List, [], ◌∷◌}
use Rattle.std.proofs.Common.{length, map, refl, sym, ap, subst, ◌∙◌, arith}
use Rattle.std.specs.Prelude.{MatchOption, Result, Ok, Err}
use Rattle.std.specs.Option.{option_map}
use Rattle.std.proofs.lemmas.List.{length-map}
use Rattle.std.proofs.lemmas.Option.{same_Some}
use Rattle.std.specs.Borrow.{Bor}
use Rattle.serde_json.specs.Data.{Data}
use Rattle.serde_json.specs.View.{view}
use Rattle.serde_json.specs.declared.value.Value.{Value}
use Rattle.daggy_base.specs.Iterating.{numbered}
use Rattle.daggy_base.specs.declared.kind.Kind.{Kind}
use Rattle.daggy_base.specs.declared.kind.Kind.TheVariants.{Compact}
use Rattle.daggy_json.specs.Document.{vacant_from}
use Rattle.daggy_base.specs.declared.index.Direction.TheVariants.{Outgoing, Incoming}
use Rattle.daggy_base.specs.Graph.{Graph, Edge, slot, near_end}
use Rattle.daggy_base.specs.FromSlots.{graph_of_slots}
use Rattle.daggy_json.specs.declared.error.ReadError.{ReadError}
use Rattle.daggy_json.specs.declared.error.ReadError.TheVariants.{Orders}
use Rattle.daggy_base.specs.Orders.{with_orders, AreOrders}
use Rattle.daggy_json.specs.Reading.{Parts, parts_in, orders_in, IsLaidOut, IsReadTo, IsFilled, IsLinked, ReadsEach}
use Rattle.daggy_json.specs.Reading.{IsWeight, IsEntryRead, AreSlots, IsOrdered}
use Rattle.daggy_json.specs.Found.{EndsExist}
use Rattle.daggy_json.proofs.TrimmedSlots.{slots_split}

module _ {N E : Type 0} (limit : ℕ) (kind : Kind) (node_answers : Data → Option N → Type 0)
    (edge_answers : Data → Option E → Type 0) (ends_as : Graph N E → Result (Graph N E) ReadError → Type 0) (d : Data)
  where
    module _ (p : Parts) (is : parts_in d ≡ Some p) where
      on : (r : Result (Graph N E) ReadError) (fault : Option ReadError) → IsLaidOut limit kind p fault
          → MatchOption fault (IsFilled limit kind node_answers edge_answers ends_as p r) (λ e. r ≡ Err e)
          → IsReadTo limit kind node_answers edge_answers ends_as d r
      on r fault laid next = rw is (fault, laid, next)

      pub layout_fault : (e : ReadError)
          → IsLaidOut limit kind p (Some e) → IsReadTo limit kind node_answers edge_answers ends_as d (Err e)
      layout_fault e laid = on (Err e) (Some e) laid refl

      module _ (laid : IsLaidOut limit kind p None) where
        pub weight_fault : (e : ReadError)
            → ReadsEach (IsWeight node_answers) p.nodes (Err e) → IsReadTo limit kind node_answers edge_answers ends_as d (Err e)
        weight_fault e h = on (Err e) None laid (Err e, h, refl)

        module _ (weights : List N) (read : ReadsEach (IsWeight node_answers) p.nodes (Ok weights))
            {nodes : List (Option N)} (placed : AreSlots nodes p.holes weights) where
          linked : (r : Result (Graph N E) ReadError) → IsLinked limit kind node_answers edge_answers ends_as p nodes r
              → IsReadTo limit kind node_answers edge_answers ends_as d r
          linked r h = on r None laid (Ok weights, read, (nodes, placed, h))

          pub entry_fault : (e : ReadError) → ReadsEach (IsEntryRead kind nodes edge_answers) p.edges (Err e)
              → IsReadTo limit kind node_answers edge_answers ends_as d (Err e)
          entry_fault e h = linked (Err e) (Err e, h, refl)

          module _ (edges : List (Option (Edge E)))
              (entries : ReadsEach (IsEntryRead kind nodes edge_answers) p.edges (Ok edges)) where
            pub orders_fault : (e : ReadError) → IsOrdered (graph_of_slots nodes edges) p.orders (Err e)
                → IsReadTo limit kind node_answers edge_answers ends_as d (Err e)
            orders_fault e h = linked (Err e) (Ok edges, entries, (Err e, h, refl))

            pub is_read : (g : Graph N E) → IsOrdered (graph_of_slots nodes edges) p.orders (Ok g)
                → (r : Result (Graph N E) ReadError) → ends_as g r → IsReadTo limit kind node_answers edge_answers ends_as d r
            is_read g h r t = linked r (Ok edges, entries, (Ok g, h, t))

-- ---- orders

module _ {N E : Type 0} (g : Graph N E) (o : Option (Bor Value)) (v : Bor Value) (is : o ≡ Some v) where
  pub ordered_fault : ((orders : List (List ℕ × List ℕ)) → orders_in (view v.now) ≡ Some orders
      → AreOrders g orders → ⊥)
      → IsOrdered g (option_map (λ d. view d.now) o) (Err Orders)
  ordered_fault h = rw is (h, refl)

  pub ordered_with : (rows : List (List ℕ × List ℕ)) → orders_in (view v.now) ≡ Some rows → AreOrders g rows
      → IsOrdered g (option_map (λ d. view d.now) o) (Ok (with_orders g rows))
  ordered_with rows some are = rw is (rows, some, are, refl)

pub not_these : {N E : Type 0} (g : Graph N E) (d : Data) (rows : List (List ℕ × List ℕ)) → orders_in d ≡ Some rows
    → (AreOrders g rows → ⊥) → (orders : List (List ℕ × List ℕ)) → orders_in d ≡ Some orders → AreOrders g orders → ⊥
not_these g d rows some wrong orders other are =
    wrong (subst (AreOrders g) (same_Some orders rows (sym other ∙ some)) are)

-- ---- lengths, and ends

pub placed_long : {N : Type 0} (slots : List (Option N)) (holes : List ℕ) (weights : List N)
    → AreSlots slots holes weights → length slots ≡ length weights + length holes
placed_long slots holes weights s =
    omega (arith, slots_split 0 slots, length-map (numbered 0 slots) (λ p. p.1), ap length s.vacant, ap length s.given)

pub ends_exist : {N E : Type 0} (kind : Kind) (nodes : List (Option N)) (answers : Data → Option E → Type 0)
    (ds : List Data) (edges : List (Option (Edge E)))
    → ReadsEach (IsEntryRead kind nodes answers) ds (Ok edges) → EndsExist nodes edges
ends_exist kind nodes answers [] [] h dir e x is = cc
ends_exist kind nodes answers [] (y ∷ edges) h dir e x is = absurd h
ends_exist kind nodes answers (d ∷ ds) [] h dir e x is = cc
ends_exist kind nodes answers (d ∷ ds) (None ∷ edges) h dir zero x is = cc
ends_exist kind nodes answers (d ∷ ds) (Some y ∷ edges) h dir zero x is =
    let same : y ≡ x = cc in
    let ends = h.0.2 in
    subst (λ k. IsSome (slot nodes (near_end dir k))) same (elim dir as (λ dir. IsSome (slot nodes (near_end dir y))) [
      | Outgoing ↦ ends.0
      | Incoming ↦ ends.1
    ])
ends_exist kind nodes answers (d ∷ ds) (y ∷ edges) h dir (suc e) x is =
    ends_exist kind nodes answers ds edges h.1 dir e x is

-- where no slot may be vacant, none is
pub full_entries : {N E T : Type 0} (kind : Kind) (nodes : List (Option N)) (answers : Data → Option E → Type 0)
    (edge : T → Edge E)
    → kind ≡ Compact → (i : ℕ) (ds : List Data) (xs : List (Option T))
    → ReadsEach (IsEntryRead kind nodes answers) ds (Ok (map (option_map edge) xs)) → vacant_from i xs ≡ []
full_entries kind nodes answers edge compact i [] [] h = refl
full_entries kind nodes answers edge compact i [] (x ∷ xs) h = absurd h
full_entries kind nodes answers edge compact i (d ∷ ds) [] h = absurd h
full_entries kind nodes answers edge compact i (d ∷ ds) (None ∷ xs) h = absurd (let bad = sym compact ∙ h.0.0 in cc)
full_entries kind nodes answers edge compact i (d ∷ ds) (Some x ∷ xs) h =
    full_entries kind nodes answers edge compact (i + 1) ds xs h.1
