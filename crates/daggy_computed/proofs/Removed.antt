-- Values stay right where a node is removed whose children are stale.
use Rattle.std.proofs.Common.{◌≡◌, ◌≢◌, ℕ, ◌-◌, ◌<◌, inl, inr, Bool, false, Option, Some, None, List, [], ◌∷◌}
use Rattle.std.proofs.Common.{length, map, reverse, set, unwrap_or, refl, sym, ap, subst, ◌∙◌, arith}
use Rattle.std.specs.Option.{option_map}
use Rattle.std.specs.Prelude.{option_and_then}
use Rattle.std.specs.List.{swap_remove}
use Rattle.std.proofs.lemmas.Bool.{cases_eq, cases_lt}
use Rattle.daggy_base.specs.declared.index.Direction.TheVariants.{Incoming}
use Rattle.daggy_base.specs.declared.kind.Kind.{Kind}
use Rattle.daggy_base.specs.declared.kind.Kind.TheVariants.{Compact, Stable}
use Rattle.daggy_base.specs.Graph.{Graph, Edge, node_weight, edge_at, in_list, out_list, slot}
use Rattle.daggy_base.specs.Path.{AreJoined}
use Rattle.daggy_base.specs.Removal.{renamed, with_ends_renamed, with_node_dropped, with_node_isolated, without_node}
use Rattle.daggy_base.specs.WellFormed.{IsWellFormed}
use Rattle.daggy_base.proofs.Lists.{Mem, IsSwapRemoved, IsSwapRemoved-from}
use Rattle.daggy_base.proofs.PathsWithoutNode.{slot-map}
use Rattle.daggy_base.proofs.SlotLists.{none_past}
use Rattle.daggy_computed.specs.declared.cell.Cell.{Cell}
use Rattle.daggy_computed.specs.Marking.{far_nodes, end_before, all_marked, children_of}
use Rattle.daggy_computed.specs.Inputs.{value_at, values_at, value_before, inputs}
use Rattle.daggy_computed.specs.Settling.{HasValue, AreValues}
use Rattle.daggy_computed.proofs.FewerEdges.{parents_of, renamed_last, renamed_other, held, slot_other, slot_emptied, IsListed}
use Rattle.daggy_computed.proofs.FewerEdges.{listed, isolated}
use Rattle.daggy_computed.proofs.Joined.{child_listed}
use Rattle.daggy_computed.proofs.ValuesKept.{values_same, IsMarkedFrom, all_marked_from, children_same, values_marked}

-- a value is right at another index where the values of the parents are the same
value_renamed : {K V E : Type 0} (eq : V → V → Bool) (allowed : K → List V → V → Bool) (g h : Graph (Cell K V) E) (j m : ℕ)
    (c : Cell K V) → inputs h m ≡ inputs g j → HasValue eq allowed g j c → HasValue eq allowed h m c
value_renamed eq allowed g h j m c same a =
    record {
      last = a.last;
      value = a.value;
      there = a.there;
      allowed_here = ap (λ z. allowed c.formula z a.value) same ∙ a.allowed_here;
      equal = a.equal;
    }

-- the edge from a parent
parent_edge : {N E : Type 0} (g : Graph N E) (es : List ℕ) (p : ℕ) → Mem p (far_nodes Incoming g es)
    → (e : ℕ) × (x : Edge E) × (edge_at g e ≡ Some x) × (x.parent ≡ p)
parent_edge g [] p k = absurd k
parent_edge {N} {E} g (e ∷ es) p k = go (edge_at g e) refl k (parent_edge g es p)
  where
    go : (o : Option (Edge E)) → edge_at g e ≡ o → Mem p (end_before Incoming o (far_nodes Incoming g es))
        → (Mem p (far_nodes Incoming g es) → (f : ℕ) × (x : Edge E) × (edge_at g f ≡ Some x) × (x.parent ≡ p))
        → (f : ℕ) × (x : Edge E) × (edge_at g f ≡ Some x) × (x.parent ≡ p)
    go None is k rest = rest k
    go (Some x) is k rest = elim k [ inl here ↦ (e, x, is, sym here) | inr later ↦ rest later ]

same_far : {N E : Type 0} (g h : Graph N E) → h.edges ≡ g.edges → (es : List ℕ)
    → far_nodes Incoming h es ≡ far_nodes Incoming g es
same_far g h same [] = refl
same_far g h same (e ∷ es) =
    ap (λ z. end_before Incoming (slot z e) (far_nodes Incoming h es)) same
    ∙ ap (end_before Incoming (edge_at g e)) (same_far g h same es)

-- ---- a node that no edge leaves is taken out

module _ {K V E : Type 0} (g : Graph (Cell K V) E) (n : ℕ) (here : n < length g.nodes) (l : IsListed g)
    (alone : out_list g n ≡ []) where
  no_parent : (m p : ℕ) → Mem p (parents_of g m) → p ≢ n
  no_parent m p k e =
      let a = parent_edge g (in_list g m) p k in
      let P : ℕ → Type 0 = λ z. Mem a.0 (out_list g z) in
      let Q : List ℕ → Type 0 = λ z. Mem a.0 z in
      subst Q alone (subst P (a.3 ∙ e) (l.complete a.0 a.1 a.2))

  abbrev last : ℕ
  last = length g.nodes - 1

  abbrev value_in : Option (Option (Cell K V)) → Option V
  value_in o = option_and_then (λ c. c.value) (held o)

  -- where the cell m was, what it is computed from
  record CameFrom (h : Graph (Cell K V) E) (m : ℕ) (c : Cell K V) : Type 0 where
    from : ℕ
    apart : from ≢ n
    was : node_weight g from ≡ Some c
    same : inputs h m ≡ inputs g from

  stable_from : (m : ℕ) (c : Cell K V) → node_weight (with_node_dropped Stable g n) m ≡ Some c
      → CameFrom (with_node_dropped Stable g n) m c
  stable_from m c seen =
      let h = with_node_dropped Stable g n in
      elim (cases_eq m n) [
        | inl e ↦
            (let P : ℕ → Type 0 = λ z. slot (set g.nodes n None) z ≡ Some c in absurd (slot_emptied g.nodes n c (subst P e seen)))
        | inr d ↦ record {
          from = m;
          apart = d;
          was = sym (slot_other g.nodes n m None d) ∙ seen;
          same = ap reverse
              (ap (values_at h) (same_far g h refl (in_list g m))
              ∙ values_same g h (parents_of g m)
              (λ p k. ap (option_and_then (λ c. c.value)) (slot_other g.nodes n p None (no_parent m p k))));
        }
      ]

  abbrev compact : Graph (Cell K V) E
  compact = with_node_dropped Compact g n

  nodes_swapped : IsSwapRemoved g.nodes (swap_remove g.nodes n None) n last
  nodes_swapped = IsSwapRemoved-from g.nodes n last None here (omega (arith, here))

  lists_swapped : IsSwapRemoved g.in_lists (swap_remove g.in_lists n []) n last
  lists_swapped =
      IsSwapRemoved-from g.in_lists n last [] (omega (arith, here, l.rows)) (omega (arith, here, l.rows))

  end_renamed : (o : Option (Edge E)) (rest : List ℕ)
      → end_before Incoming (option_map (with_ends_renamed last n) o) (map (renamed last n) rest)
      ≡ map (renamed last n) (end_before Incoming o rest)
  end_renamed None rest = refl
  end_renamed (Some x) rest = refl

  far_renamed : (es : List ℕ) → far_nodes Incoming compact es ≡ map (renamed last n) (far_nodes Incoming g es)
  far_renamed [] = refl
  far_renamed (e ∷ es) =
      ap (λ z. end_before Incoming z (far_nodes Incoming compact es)) (slot-map (with_ends_renamed last n) g.edges e)
      ∙ (ap (end_before Incoming (option_map (with_ends_renamed last n) (edge_at g e))) (far_renamed es)
      ∙ end_renamed (edge_at g e) (far_nodes Incoming g es))

  value_then : (p : ℕ) → p ≢ n → value_at compact (renamed last n p) ≡ value_at g p
  value_then p d =
      elim (cases_eq p last) [
        | inl e ↦
            ap (value_at compact) (renamed_last last n p e)
            ∙ (ap value_in (nodes_swapped.moved (λ q. d (e ∙ sym q))) ∙ ap (value_at g) (sym e))
        | inr apart ↦
            ap (value_at compact) (renamed_other last n p apart)
            ∙ elim (cases_lt p last) [
              | inl low ↦ ap value_in (nodes_swapped.kept p low d)
              | inr past ↦
                  ap value_in (nodes_swapped.gone p past)
                  ∙ sym (ap (option_and_then (λ c. c.value)) (none_past g.nodes p (omega (arith, past, apart))))
            ]
      ]

  values_then : (ps : List ℕ) → ((p : ℕ) → Mem p ps → p ≢ n)
      → values_at compact (map (renamed last n) ps) ≡ values_at g ps
  values_then [] apart = refl
  values_then (p ∷ ps) apart =
      ap (λ z. value_before z (values_at compact (map (renamed last n) ps))) (value_then p (apart p (inl refl)))
      ∙ ap (value_before (value_at g p)) (values_then ps (λ q k. apart q (inr k)))

  inputs_then : (m j : ℕ) → in_list compact m ≡ in_list g j → inputs compact m ≡ inputs g j
  inputs_then m j same =
      ap reverse
      (ap (values_at compact) (ap (far_nodes Incoming compact) same ∙ far_renamed (in_list g j))
      ∙ values_then (parents_of g j) (no_parent j))

  abbrev row_in : Option (List ℕ) → List ℕ
  row_in o = unwrap_or o []

  compact_from : (m : ℕ) (c : Cell K V) → node_weight compact m ≡ Some c → CameFrom compact m c
  compact_from m c seen =
      elim (cases_lt m last) [
        | inl low ↦ elim (cases_eq m n) [
          | inl e ↦ (
              let apart : n ≢ last = λ q. absurd (omega (arith, low, e, q)) in
              let P : ℕ → Type 0 = λ z. node_weight compact z ≡ Some c in
              record {
                from = last;
                apart = λ q. apart (sym q);
                was = sym (ap held (nodes_swapped.moved apart)) ∙ subst P e seen;
                same = inputs_then m last (ap (in_list compact) e ∙ ap row_in (lists_swapped.moved apart));
              }
              )
          | inr d ↦ record {
            from = m;
            apart = d;
            was = sym (ap held (nodes_swapped.kept m low d)) ∙ seen;
            same = inputs_then m m (ap row_in (lists_swapped.kept m low d));
          }
        ]
        | inr past ↦ (let none : node_weight compact m ≡ None = ap held (nodes_swapped.gone m past) in absurd cc)
      ]

  came_from : (kind : Kind) (m : ℕ) (c : Cell K V) → node_weight (with_node_dropped kind g n) m ≡ Some c
      → CameFrom (with_node_dropped kind g n) m c
  came_from Compact m c seen = compact_from m c seen
  came_from Stable m c seen = stable_from m c seen

-- ---- a node is removed

pub values_removed : {K V E : Type 0} {end : ℕ} (kind : Kind) (g : Graph (Cell K V) E) (n : ℕ) → IsWellFormed end g
    → n < length g.nodes
    → ((m : ℕ) (c : Cell K V) → AreJoined g n m → node_weight g m ≡ Some c → c.stale ≡ false → ⊥)
    → (eq : V → V → Bool) (allowed : K → List V → V → Bool)
    → AreValues eq allowed g → AreValues eq allowed (without_node kind g n)
values_removed kind g n w here stale eq allowed hold m c seen f =
    let iso = with_node_isolated kind g n in
    let a = isolated n kind g (listed g w) in
    let low : n < length iso.nodes = omega (arith, here, ap length a.0.nodes) in
    let from = came_from iso n low a.0.is_listed a.1 kind m c seen in
    let j = from.from in
    let at : node_weight g j ≡ Some c = ap (λ z. slot z j) (sym a.0.nodes) ∙ from.was in
    let same : inputs iso j ≡ inputs g j =
    ap reverse
    (ap (values_at iso) (a.0.parents j from.apart (λ q. stale j c q at f))
    ∙ values_same g iso (parents_of g j) (λ p k. ap (λ z. option_and_then (λ d. d.value) (slot z p)) a.0.nodes)) in
    value_renamed eq allowed g (without_node kind g n) j m c (from.same ∙ same) (hold j c at f)

-- the same, where h is g with the children of n marked
pub values_without : {K V E : Type 0} {end : ℕ} (kind : Kind) (g h : Graph (Cell K V) E) (n : ℕ)
    → h ≡ all_marked g (children_of g n) → IsWellFormed end h → n < length h.nodes
    → (eq : V → V → Bool) (allowed : K → List V → V → Bool)
    → AreValues eq allowed g → AreValues eq allowed (without_node kind h n)
values_without kind g h n is w here eq allowed hold =
    let kids = children_of g n in
    let marks : IsMarkedFrom g h kids = subst (λ z. IsMarkedFrom g z kids) (sym is) (all_marked_from g kids) in
    values_removed kind h n w here
    (λ m c j seen f. (marks.fresh m c seen f).1 (subst (Mem m) (children_same g h marks.shape n) (child_listed w n m j)))
    eq allowed (values_marked g h kids marks eq allowed hold)
