-- The graph of cells after a node is added or removed.
use Rattle.std.proofs.Common.{◌≡◌, ◌≢◌, ◌≤◌, ◌<◌, ◌-◌, ◌⊎◌, ℕ, zero, suc, Option, Some, None, List, [], ◌∷◌, ◌++◌, length}
use Rattle.std.proofs.Common.{refl, sym, ap, subst, ◌∙◌, arith, set, take, get_or, inl, inr, map}
use Rattle.std.specs.Option.{option_map}
use Rattle.std.specs.Prelude.{IsSome}
use Rattle.std.specs.List.{swap_remove}
use Rattle.std.proofs.lemmas.Bool.{cases_eq, false≢true}
use Rattle.std.proofs.lemmas.List.{length-set, length-take, get_or-set_same, get_or-set_other}
use Rattle.daggy_order.proofs.OrderLaws.{nodes_isolated}
use Rattle.daggy_base.specs.Adding.{with_node, next_node, next_slot, with_slot_filled}
use Rattle.daggy_base.specs.Graph.{Graph, HasNode, list_at, out_list, in_list, slot}
use Rattle.daggy_base.specs.Removal.{without_node, without_edge, without_first, without_front, with_node_isolated, with_node_dropped, with_ends_renamed}
use Rattle.daggy_base.specs.declared.index.Direction.{Direction}
use Rattle.daggy_base.specs.declared.index.Direction.TheVariants.{Outgoing, Incoming}
use Rattle.daggy_base.specs.declared.kind.Kind.{Kind}
use Rattle.daggy_base.specs.declared.kind.Kind.TheVariants.{Compact, Stable}
use Rattle.daggy_computed.specs.declared.cell.Cell.{Cell}
use Rattle.daggy_computed.specs.declared.entry.Entry.{Entry}
use Rattle.daggy_computed.specs.Cells.{blank, entry_at, cell_of, with_entries, cells, IsStaleAt}
use Rattle.daggy_computed.specs.Slots.{IsTakenOut}
use Rattle.daggy_computed.proofs.CellGraphs.{same_entries, entries_put, entries_more, entries_first, entry_got, length_entries}

-- ---- a node is added

module _ {K V E : Type 0} (g : Graph K E) (es fs : List (Entry V)) (k : K) (e : Entry V)
    (here : entry_at fs (next_node g) ≡ e) (others : (m : ℕ) → m ≢ next_node g → entry_at fs m ≡ entry_at es m) where
  filled : (vacant : List ℕ) → entry_at fs (next_slot g.nodes vacant) ≡ e
      → ((m : ℕ) → m ≢ next_slot g.nodes vacant → entry_at fs m ≡ entry_at es m)
      → with_entries (with_slot_filled g.nodes vacant (Some k)) fs
      ≡ with_slot_filled (with_entries g.nodes es) vacant (Some (cell_of e k))
  filled [] at else =
      entries_more g.nodes fs (Some k)
      ∙ (ap (λ z. with_entries g.nodes fs ++ Some (cell_of z k) ∷ []) at
      ∙ ap (λ z. z ++ Some (cell_of e k) ∷ []) (same_entries g.nodes es fs (λ m low. else m (λ q. absurd (omega (arith, low, q))))))
  filled (i ∷ vacant) at else =
      entries_put g.nodes es fs i (Some k) (λ m low d. else m d)
      ∙ ap (λ z. set (with_entries g.nodes es) i (Some (cell_of z k))) at

  pub cells_added : cells (with_node g k) fs ≡ with_node (cells g es) (cell_of e k)
  cells_added = ap (λ z. record (with_node (cells g es) (cell_of e k)) { nodes = z }) (filled g.vacant_nodes here others)

-- ---- a node is removed

module _ {K V E : Type 0} (es : List (Entry V)) where
  edge_off : (kind : Kind) (g : Graph K E) (e : ℕ) → without_edge kind (cells g es) e ≡ cells (without_edge kind g e) es
  edge_off Compact g e = refl
  edge_off Stable g e = refl

  first_off : (kind : Kind) (g : Graph K E) (l : List ℕ) → without_first kind (cells g es) l ≡ cells (without_first kind g l) es
  first_off kind g [] = refl
  first_off kind g (e ∷ l) = edge_off kind g e

  list_same : (dir : Direction) (g : Graph K E) (n : ℕ) → list_at dir (cells g es) n ≡ list_at dir g n
  list_same Outgoing g n = refl
  list_same Incoming g n = refl

  front_off : (kind : Kind) (dir : Direction) (k : ℕ) (g : Graph K E) (n : ℕ)
      → without_front kind dir k (cells g es) n ≡ cells (without_front kind dir k g n) es
  front_off kind dir zero g n = refl
  front_off kind dir (suc k) g n =
      ap (λ z. without_front kind dir k (without_first kind (cells g es) z) n) (list_same dir g n)
      ∙ (ap (λ z. without_front kind dir k z n) (first_off kind g (list_at dir g n))
      ∙ front_off kind dir k (without_first kind g (list_at dir g n)) n)

  pub cells_isolated : (kind : Kind) (g : Graph K E) (n : ℕ)
      → with_node_isolated kind (cells g es) n ≡ cells (with_node_isolated kind g n) es
  cells_isolated kind g n =
      let h = without_front kind Outgoing (length (out_list g n)) g n in
      ap (λ z. without_front kind Incoming (length (in_list z n)) z n) (front_off kind Outgoing (length (out_list g n)) g n)
      ∙ front_off kind Incoming (length (in_list h n)) h n

module _ {K V E : Type 0} (g : Graph K E) (es fs : List (Entry V)) (n : ℕ) (low : n < length es) where
  dropped : (kind : Kind) → IsTakenOut kind (length g.nodes - 1) n es fs
      → with_node_dropped kind (cells g es) n ≡ cells (with_node_dropped kind g n) fs
  dropped Stable same =
      ap (λ z. record (with_node_dropped Stable (cells g es) n) { nodes = z })
      (sym (entries_put g.nodes es fs n None (λ m l d. same.others m d)))
  dropped Compact same =
      let last = length g.nodes - 1 in
      let at = get_or g.nodes last None in
      let mid = set es n (entry_at es last) in
      let here : entry_at mid n ≡ entry_at es last = get_or-set_same es n (entry_at es last) blank low in
      let left : (m : ℕ) → m < length (take last (set g.nodes n at)) → entry_at fs m ≡ entry_at mid m =
      λ m l. (let below : m < last = omega (arith, l, length-take last (set g.nodes n at)) in
      elim (cases_eq m n) [
        | inl e ↦
            ap (entry_at fs) e
            ∙ (same.at (λ q. absurd (omega (arith, below, e, q))) ∙ (sym here ∙ ap (entry_at mid) (sym e)))
        | inr d ↦
            same.others m d (λ q. absurd (omega (arith, below, q)))
            ∙ sym (get_or-set_other es n m (entry_at es last) blank d)
      ]) in
      let nodes : with_entries (swap_remove g.nodes n None) fs ≡ swap_remove (with_entries g.nodes es) n None =
      same_entries (take last (set g.nodes n at)) mid fs left
      ∙ (entries_first last (set g.nodes n at) mid
      ∙ (ap (take last) (entries_put g.nodes es mid n at (λ m l d. get_or-set_other es n m (entry_at es last) blank d)
      ∙ ap (λ z. set (with_entries g.nodes es) n (option_map (cell_of z) at)) here)
      ∙ (ap (λ z. take last (set (with_entries g.nodes es) n z)) (sym (entry_got g.nodes es last))
      ∙ ap (λ z. take (z - 1) (set (with_entries g.nodes es) n (get_or (with_entries g.nodes es) (z - 1) None)))
      (sym (length_entries g.nodes es))))) in
      let f : ℕ → List (Option (Cell K V)) → Graph (Cell K V) E =
      λ z ns. record {
        nodes = ns;
        edges = map (option_map (with_ends_renamed (z - 1) n)) g.edges;
        out_lists = swap_remove g.out_lists n [];
        in_lists = swap_remove g.in_lists n [];
        vacant_nodes = g.vacant_nodes;
        vacant_edges = g.vacant_edges;
      } in
      ap (λ z. f z (swap_remove (with_entries g.nodes es) n None)) (length_entries g.nodes es) ∙ ap (f (length g.nodes)) (sym nodes)

pub cells_removed : {K V E : Type 0} (kind : Kind) (g : Graph K E) (es fs : List (Entry V)) (n : ℕ) → n < length es
    → IsTakenOut kind (length g.nodes - 1) n es fs → without_node kind (cells g es) n ≡ cells (without_node kind g n) fs
cells_removed kind g es fs n low same =
    let iso = with_node_isolated kind g n in
    ap (λ z. with_node_dropped kind z n) (cells_isolated es kind g n)
    ∙ dropped iso es fs n low kind (subst (λ z. IsTakenOut kind (length z - 1) n es fs) (sym (nodes_isolated kind g n)) same)

-- ---- which nodes exist then

slot_kept : {A : Type 0} (xs : List (Option A)) (i m : ℕ) (o : Option A) → m ≢ i → slot (set xs i o) m ≡ slot xs m
slot_kept [] zero m o d = refl
slot_kept [] (suc i) m o d = refl
slot_kept (z ∷ xs) zero zero o d = absurd (d refl)
slot_kept (z ∷ xs) zero (suc m) o d = refl
slot_kept (z ∷ xs) (suc i) zero o d = refl
slot_kept (z ∷ xs) (suc i) (suc m) o d = slot_kept xs i m o (λ e. d (ap suc e))

slot_there : {A : Type 0} (xs : List (Option A)) (i : ℕ) (o : Option A) → i < length xs → slot (set xs i o) i ≡ o
slot_there [] i o low = absurd (omega (arith, low))
slot_there (z ∷ xs) zero o low = refl
slot_there (z ∷ xs) (suc i) o low = slot_there xs i o (omega (arith, low))

slot_first : {A : Type 0} (k : ℕ) (xs : List (Option A)) (m : ℕ) → m < k → slot (take k xs) m ≡ slot xs m
slot_first zero xs m low = absurd (omega (arith, low))
slot_first (suc k) [] m low = refl
slot_first (suc k) (x ∷ xs) zero low = refl
slot_first (suc k) (x ∷ xs) (suc m) low = slot_first k xs m (omega (arith, low))

slot_got : {A : Type 0} (xs : List (Option A)) (i : ℕ) → get_or xs i None ≡ slot xs i
slot_got [] i = refl
slot_got (x ∷ xs) zero = refl
slot_got (x ∷ xs) (suc i) = slot_got xs i

pub slot_low : {A : Type 0} (xs : List (Option A)) (i : ℕ) → IsSome (slot xs i) → i < length xs
slot_low [] i h = absurd cc
slot_low (x ∷ xs) zero h = omega arith
slot_low (x ∷ xs) (suc i) h = omega (arith, slot_low xs i h)

abbrev dropped_slots : {A : Type 0} → Kind → List (Option A) → ℕ → List (Option A)
dropped_slots Compact xs n = swap_remove xs n None
dropped_slots Stable xs n = set xs n None

module _ {K E : Type 0} (g : Graph K E) (n : ℕ) (here : n < length g.nodes) where
  slots_without : (kind : Kind) → (without_node kind g n).nodes ≡ dropped_slots kind g.nodes n
  slots_without Compact = ap (λ z. swap_remove z n None) (nodes_isolated Compact g n)
  slots_without Stable = ap (λ z. set z n None) (nodes_isolated Stable g n)

  pub fewer_slots : (kind : Kind) → length (without_node kind g n).nodes ≤ length g.nodes
  fewer_slots kind = omega (arith, ap length (slots_without kind), count kind)
    where
      count : (kind : Kind) → length (dropped_slots kind g.nodes n) ≤ length g.nodes
      count Compact =
          omega (arith, length-take (length g.nodes - 1) (set g.nodes n (get_or g.nodes (length g.nodes - 1) None)))
      count Stable = omega (arith, length-set g.nodes n None)

  there_still : (kind : Kind) (m j : ℕ) → slot (dropped_slots kind g.nodes n) m ≡ slot g.nodes j → HasNode g j
      → HasNode (without_node kind g n) m
  there_still kind m j is h = subst IsSome (sym (ap (λ z. slot z m) (slots_without kind) ∙ is)) h

  -- where what is kept is stale, there is a node
  pub real_without : {V : Type 0} (kind : Kind) (es fs : List (Entry V)) → IsTakenOut kind (length g.nodes - 1) n es fs
      → ((m : ℕ) → IsStaleAt es m → HasNode g m) → (m : ℕ) → IsStaleAt fs m
      → HasNode (without_node kind g n) m
      × (((m ≡ n) × (kind ≡ Compact) × (n ≢ length g.nodes - 1) × IsStaleAt es (length g.nodes - 1)) ⊎ IsStaleAt es m)
  real_without Stable es fs t real m s =
      elim (cases_eq m n) [
        | inl e ↦ absurd (false≢true (sym (ap (λ z. z.stale) (ap (entry_at fs) e ∙ t.free)) ∙ s))
        | inr d ↦ (
            let before : IsStaleAt es m = sym (ap (λ z. z.stale) (t.others m d)) ∙ s in
            (there_still Stable m m (slot_kept g.nodes n m None d) (real m before), inr before)
            )
      ]
  real_without Compact es fs t real m s =
      let last = length g.nodes - 1 in
      let at = get_or g.nodes last None in
      elim (cases_eq m last) [
        | inl e ↦ absurd (false≢true (sym (ap (λ z. z.stale) (ap (entry_at fs) e ∙ t.free)) ∙ s))
        | inr d ↦ elim (cases_eq m n) [
          | inl e ↦ (
              let apart : n ≢ last = λ q. d (e ∙ q) in
              let before : IsStaleAt es last = sym (ap (λ z. z.stale) (ap (entry_at fs) e ∙ t.at apart)) ∙ s in
              let is : slot (take last (set g.nodes n at)) m ≡ slot g.nodes last =
              slot_first last (set g.nodes n at) m (omega (arith, e, here, apart))
              ∙ (ap (slot (set g.nodes n at)) e ∙ (slot_there g.nodes n at here ∙ slot_got g.nodes last)) in
              (there_still Compact m last is (real last before), inl (e, refl, apart, before))
              )
          | inr q ↦ (
              let before : IsStaleAt es m = sym (ap (λ z. z.stale) (t.others m q d)) ∙ s in
              let low : m < last = omega (arith, slot_low g.nodes m (real m before), d) in
              let is : slot (take last (set g.nodes n at)) m ≡ slot g.nodes m =
              slot_first last (set g.nodes n at) m low ∙ slot_kept g.nodes n m at q in
              (there_still Compact m m is (real m before), inr before)
              )
        ]
      ]
