-- What is kept after a change, and the graph of cells then.
use Rattle.std.proofs.Common.{◌≡◌, ◌≢◌, ◌≤◌, ◌<◌, ◌⊎◌, ℕ, Option, Some, None, List, true, length, set}
use Rattle.std.proofs.Common.{refl, sym, ap, subst, ◌∙◌, arith, Contains, inl, inr}
use Rattle.std.specs.Option.{option_map}
use Rattle.std.specs.Prelude.{IsSome, option_and_then}
use Rattle.std.proofs.lemmas.Bool.{cases_eq}
use Rattle.std.proofs.lemmas.List.{length-set, get_or-set_same, get_or-set_other}
use Rattle.daggy_base.specs.Adding.{with_node, next_node, next_slot, with_slot_filled}
use Rattle.daggy_base.specs.Graph.{Graph, HasNode, node_weight, slot}
use Rattle.daggy_base.specs.Weights.{with_node_weight}
use Rattle.daggy_base.proofs.Slots.{IsFree, slot_taken, slot_taken_kept, slot_taken_new}
use Rattle.daggy_order.proofs.OrderLaws.{nodes_with_weight}
use Rattle.daggy_guard.specs.Parents.{entering}
use Rattle.daggy_computed.specs.declared.cell.Cell.{Cell}
use Rattle.daggy_computed.specs.declared.entry.Entry.{Entry}
use Rattle.daggy_computed.specs.Cells.{blank, entry_at, value_of, IsStaleAt, marked_at, cell_of, with_entries, cells}
use Rattle.daggy_computed.specs.Inputs.{value_at}
use Rattle.daggy_computed.specs.Marking.{marked, reformed, reformed_with}
use Rattle.daggy_computed.specs.Refreshing.{IsReady}
use Rattle.daggy_computed.proofs.Celled.{slot_at, cell_at, cells_marked, stale_marked_at, weight_of}
use Rattle.daggy_computed.proofs.CellGraphs.{entries_put}
use Rattle.daggy_computed.proofs.CellChanges.{slot_low, fewer_slots, real_without}
use Rattle.daggy_computed.proofs.CellGraphs.{length_entries}
use Rattle.daggy_computed.specs.Slots.{IsTakenOut}
use Rattle.daggy_base.specs.Removal.{without_node}
use Rattle.daggy_base.specs.declared.kind.Kind.{Kind}
use Rattle.daggy_base.specs.declared.kind.Kind.TheVariants.{Compact}
use Rattle.std.proofs.lemmas.Option.{slice_get_within}
use Rattle.std.proofs.Common.{[], ◌∷◌, ◌-◌, length-append}

-- no value where there is no node
pub value_missing : {K V E : Type 0} (g : Graph K E) (es : List (Entry V)) (n : ℕ) → (HasNode g n → ⊥) → value_at (cells g es) n ≡ None
value_missing g es n not = go (node_weight g n) refl
  where
    go : (o : Option _) → node_weight g n ≡ o → value_at (cells g es) n ≡ None
    go None h = ap (option_and_then (λ c. c.value)) (slot_at g.nodes es n ∙ ap (option_map (cell_of (entry_at es n))) h)
    go (Some k) h = absurd (not (subst IsSome (sym h) refl))

-- ---- one node more is stale

module _ {K V E : Type 0} (g : Graph K E) (es fs : List (Entry V)) (slots slots' : ℕ) (queue queue' : List ℕ) (n : ℕ)
    (there : HasNode g n) (h : IsReady g es slots queue) (is : fs ≡ marked_at es n) (same : slots' ≡ slots)
    (kept : (m : ℕ) → Contains queue m → Contains queue' m) (here : Contains queue' n) where
  abbrev mark : Entry V
  mark = record { value = value_of es n; stale = true }

  pub ready_more : IsReady g fs slots' queue'
  ready_more =
      record {
        sized = λ m k. omega (arith, h.sized m k, ap length is, length-set es n mark);
        slots_are = ap length is ∙ (length-set es n mark ∙ (h.slots_are ∙ sym same));
        real = λ m s. elim (stale_marked_at es n m (subst (λ z. IsStaleAt z m) is s)) [
          | inl e ↦ subst (HasNode g) (sym e) there
          | inr t ↦ h.real m t
        ];
        waits = λ m s. elim (stale_marked_at es n m (subst (λ z. IsStaleAt z m) is s)) [
          | inl e ↦ subst (Contains queue') (sym e) here
          | inr t ↦ kept m (h.waits m t)
        ];
      }

  pub cells_more : cells g fs ≡ marked (cells g es) n
  cells_more =
      let k = weight_of g es n there in
      ap (cells g) is ∙ cells_marked g es n k.0 (h.sized n there) k.1

  -- and its formula is another one
  module _ (f : Graph K E) (k : K) (f_is : f ≡ with_node_weight g n k) where
    pub ready_reformed : IsReady f fs slots' queue'
    ready_reformed =
        let r = ready_more in
        let with = nodes_with_weight g n k there in
        subst (λ z. IsReady z fs slots' queue') (sym f_is)
        (record {
          sized = λ m q. r.sized m ((with m).0 q);
          slots_are = r.slots_are;
          real = λ m s. (with m).1 (r.real m s);
          waits = r.waits;
        })

    pub cells_reformed : cells f fs ≡ reformed (cells g es) n k
    cells_reformed =
        let w = weight_of g es n there in
        let at : entry_at (marked_at es n) n ≡ mark = get_or-set_same es n mark blank (h.sized n there) in
        ap (λ z. cells z fs) f_is
        ∙ (ap (cells (with_node_weight g n k)) is
        ∙ (ap (λ z. record (cells g es) { nodes = z })
        (entries_put g.nodes es (marked_at es n) n (Some k) (λ m l d. get_or-set_other es n m mark blank d)
        ∙ ap (λ z. set (with_entries g.nodes es) n (Some (cell_of z k))) at)
        ∙ sym (ap (reformed_with (cells g es) n k) (cell_at g es n w.0 w.1))))

    pub long_reformed : length g.nodes ≤ length es → length f.nodes ≤ length fs
    long_reformed low =
        omega (arith, low, ap (λ z. length z.nodes) f_is, length-set g.nodes n (Some k), ap length is, length-set es n mark)

  pub long_more : length g.nodes ≤ length es → length g.nodes ≤ length fs
  long_more low = omega (arith, low, ap length is, length-set es n mark)

-- ---- the nodes are the same

pub ready_same : {K V E : Type 0} (g f : Graph K E) (es : List (Entry V)) (slots : ℕ) (queue : List ℕ) → f.nodes ≡ g.nodes
    → IsReady g es slots queue → IsReady f es slots queue
ready_same g f es slots queue same h =
    record {
      sized = λ m k. h.sized m (subst (λ z. IsSome (slot z m)) same k);
      slots_are = h.slots_are;
      real = λ m s. subst (λ z. IsSome (slot z m)) (sym same) (h.real m s);
      waits = h.waits;
    }

abbrev nodes_then : {K V : Type 0} → List (Option (Cell K V)) → ℕ → K → Option (Cell K V) → List (Option (Cell K V))
nodes_then nodes n k None = nodes
nodes_then nodes n k (Some c) = set nodes n (Some (record { formula = k; value = c.value; stale = true }))

nodes_of : {K V E : Type 0} (g : Graph (Cell K V) E) (n : ℕ) (k : K) (o : Option (Cell K V))
    → (reformed_with g n k o).nodes ≡ nodes_then g.nodes n k o
nodes_of g n k None = refl
nodes_of g n k (Some c) = refl

pub nodes_reformed : {K V E : Type 0} (g h : Graph (Cell K V) E) (n : ℕ) (k : K) → h.nodes ≡ g.nodes
    → (reformed h n k).nodes ≡ (reformed g n k).nodes
nodes_reformed g h n k same =
    nodes_of h n k (node_weight h n)
    ∙ (ap (λ z. nodes_then z n k (slot z n)) same ∙ sym (nodes_of g n k (node_weight g n)))

entering_with : {K V E : Type 0} (g : Graph (Cell K V) E) (n : ℕ) (k : K) (m : ℕ) (o : Option (Cell K V))
    → entering (reformed_with g n k o) m ≡ entering g m
entering_with g n k m None = refl
entering_with g n k m (Some c) = refl

pub entering_reformed : {K V E : Type 0} (g : Graph (Cell K V) E) (n : ℕ) (k : K) (m : ℕ)
    → entering (reformed g n k) m ≡ entering g m
entering_reformed g n k m = entering_with g n k m (node_weight g n)

-- ---- a node is added

module _ {K V E : Type 0} (g f : Graph K E) (k : K) (es fs : List (Entry V)) (slots slots' : ℕ) (queue queue' : List ℕ)
    (free : IsFree g.nodes g.vacant_nodes) (f_is : f ≡ with_node g k) (h : IsReady g es slots queue)
    (here : entry_at fs (next_node g) ≡ record { value = None; stale = true })
    (others : (m : ℕ) → m ≢ next_node g → entry_at fs m ≡ entry_at es m) (long : length es ≤ length fs)
    (low : next_node g < length fs) (slots_are : slots' ≡ length fs)
    (waits : (m : ℕ) → Contains queue m ⊎ (m ≡ next_node g) → Contains queue' m) where
  old_or_new : (m : ℕ) → HasNode (with_node g k) m → (m ≡ next_node g) ⊎ HasNode g m
  old_or_new m there =
      let w = weight_of (with_node g k) es m there in
      elim (slot_taken g.nodes g.vacant_nodes k m w.0 w.1) [ inl p ↦ inl p.0 | inr q ↦ inr (subst IsSome (sym q) refl) ]

  new_there : HasNode (with_node g k) (next_node g)
  new_there = subst IsSome (sym (slot_taken_new g.nodes g.vacant_nodes k free)) refl

  old_there : (m : ℕ) → HasNode g m → HasNode (with_node g k) m
  old_there m there =
      let w = weight_of g es m there in
      subst IsSome (sym (slot_taken_kept g.nodes g.vacant_nodes k m w.0 free w.1)) refl

  stale_then : (m : ℕ) → IsStaleAt fs m → (m ≡ next_node g) ⊎ IsStaleAt es m
  stale_then m s = elim (cases_eq m (next_node g)) [
    | inl e ↦ inl e
    | inr d ↦ inr (sym (ap (λ z. z.stale) (others m d)) ∙ s)
  ]

  pub ready_added : IsReady f fs slots' queue'
  ready_added =
      subst (λ z. IsReady z fs slots' queue') (sym f_is)
      (record {
        sized = λ m there. elim (old_or_new m there) [
          | inl e ↦ omega (arith, e, low)
          | inr q ↦ omega (arith, h.sized m q, long)
        ];
        slots_are = sym slots_are;
        real = λ m s. elim (stale_then m s) [
          | inl e ↦ subst (HasNode (with_node g k)) (sym e) new_there
          | inr t ↦ old_there m (h.real m t)
        ];
        waits = λ m s. elim (stale_then m s) [ inl e ↦ waits m (inr e) | inr t ↦ waits m (inl (h.waits m t)) ];
      })

-- the slot that is used next
next_low_in : {A : Type 0} (xs : List (Option A)) (vacant : List ℕ) → IsFree xs vacant → next_slot xs vacant ≤ length xs
next_low_in xs [] free = omega arith
next_low_in xs (i ∷ vacant) free = omega (arith, slice_get_within xs i None free)

pub next_low : {K E : Type 0} (g : Graph K E) → IsFree g.nodes g.vacant_nodes → next_node g ≤ length g.nodes
next_low g free = next_low_in g.nodes g.vacant_nodes free

made_low : {A : Type 0} (xs : List (Option A)) (vacant : List ℕ) (o : Option A) (n : ℕ) → length xs ≤ n
    → next_slot xs vacant < n → length (with_slot_filled xs vacant o) ≤ n
made_low xs [] o n low next = omega (arith, next, length-append xs (o ∷ []))
made_low xs (i ∷ vacant) o n low next = omega (arith, low, length-set xs i o)

pub slots_added : {K E : Type 0} (g : Graph K E) (k : K) (n : ℕ) → length g.nodes ≤ n → next_node g < n
    → length (with_node g k).nodes ≤ n
slots_added g k n low next = made_low g.nodes g.vacant_nodes (Some k) n low next

next_same : {K V : Type 0} (os : List (Option K)) (es : List (Entry V)) (vacant : List ℕ)
    → next_slot (with_entries os es) vacant ≡ next_slot os vacant
next_same os es [] = length_entries os es
next_same os es (i ∷ vacant) = refl

pub next_cells : {K V E : Type 0} (g : Graph K E) (es : List (Entry V)) → next_node (cells g es) ≡ next_node g
next_cells g es = next_same g.nodes es g.vacant_nodes

-- ---- nothing has changed

pub ready_kept : {K V E : Type 0} (g f : Graph K E) (es fs : List (Entry V)) (slots slots' : ℕ) (queue queue' : List ℕ) → f ≡ g
    → fs ≡ es → slots' ≡ slots → queue' ≡ queue → IsReady g es slots queue → IsReady f fs slots' queue'
ready_kept g f es fs slots slots' queue queue' a b c d h =
    subst (λ z. IsReady z fs slots' queue') (sym a)
    (subst (λ z. IsReady g z slots' queue') (sym b)
    (subst (λ z. IsReady g es z queue') (sym c) (subst (λ z. IsReady g es slots z) (sym d) h)))

-- ---- a node was taken out

pub ready_removed : {K V E : Type 0} (kind : Kind) (g f : Graph K E) (es fs : List (Entry V)) (slots slots' : ℕ)
    (queue queue' : List ℕ) (n : ℕ) → HasNode g n → f ≡ without_node kind g n → IsReady g es slots queue
    → length g.nodes ≤ length es → IsTakenOut kind (length g.nodes - 1) n es fs → length fs ≡ length es → slots' ≡ slots
    → ((m : ℕ) → Contains queue m → Contains queue' m)
    → (kind ≡ Compact → n ≢ length g.nodes - 1 → IsStaleAt es (length g.nodes - 1) → Contains queue' n)
    → IsReady f fs slots' queue' × (length f.nodes ≤ length fs)
ready_removed kind g f es fs slots slots' queue queue' n there f_is h long taken len same kept moved =
    let here : n < length g.nodes = slot_low g.nodes n there in
    let fewer : length f.nodes ≤ length fs = omega (arith, ap (λ z. length z.nodes) f_is, fewer_slots g n here kind, long, len) in (
      record {
        sized = λ m k. omega (arith, slot_low f.nodes m k, fewer);
        slots_are = len ∙ (h.slots_are ∙ sym same);
        real = λ m s. subst (λ z. HasNode z m) (sym f_is) (real_without g n here kind es fs taken h.real m s).0;
        waits = λ m s. elim (real_without g n here kind es fs taken h.real m s).1 [
          | inl a ↦ subst (Contains queue') (sym a.0) (moved a.1 a.2 a.3)
          | inr t ↦ kept m (h.waits m t)
        ];
      },
      fewer,
    )
