-- Faults of the stages of reading, and their places.
use Rattle.std.proofs.Common.{◌≡◌, ℕ, ◌<◌, ◌≤◌, inl, inr, Option, Some, None, List, length, refl, sym, ap, subst}
use Rattle.std.proofs.Common.{arith}
use Rattle.std.specs.Prelude.{MatchOption, Result, Ok, Err, codes}
use Rattle.std.specs.Option.{option_map}
use Rattle.std.specs.Borrow.{Bor}
use Rattle.serde_json.specs.Data.{Data}
use Rattle.serde_json.specs.View.{view}
use Rattle.serde_json.specs.declared.value.Value.{Value}
use Rattle.daggy_base.specs.Graph.{Graph, Edge}
use Rattle.daggy_base.specs.FromSlots.{graph_of_slots}
use Rattle.daggy_base.specs.declared.kind.Kind.{Kind}
use Rattle.daggy_json.specs.declared.error.ReadError.{ReadError}
use Rattle.daggy_json.specs.declared.error.ReadError.TheVariants.{Shape, Holes, Full, Orders as WrongOrders}
use Rattle.daggy_json.specs.declared.fault.Fault.{Fault}
use Rattle.daggy_json.specs.declared.fault.Member.{Member}
use Rattle.daggy_json.specs.declared.fault.Member.TheVariants.{Nodes, NodeHoles, EdgeProperty, Edges, Orders}
use Rattle.daggy_json.specs.Reading.{Parts, parts_in, slots_of, IsLaidOut, IsReadTo, ReadsEach, IsEntryRead}
use Rattle.daggy_json.specs.Reading.{AreHoles, AreFew, orders_in, IsOrdered}
use Rattle.daggy_base.specs.Orders.{AreOrders}
use Rattle.daggy_json.specs.Found.{AreNodesRead}
use Rattle.daggy_json.specs.Fault.{IsShapeFault, AreRight, IsWrongHole, AreWrongAt, IsFaultIn, IsFaultAt}
use Rattle.daggy_json.specs.FoundFault.{StopsIn, IsLayoutFault, IsNodesFault, AreWrongOrders}
use Rattle.daggy_json.proofs.MissingParts.{stops_reads, shape_none}
use Rattle.daggy_json.proofs.ComposedStages.{layout_fault, weight_fault, entry_fault, orders_fault, ordered_fault}
use Rattle.daggy_json.proofs.WrongHoles.{wrong_hole}

-- ---- layout

holes_laid : (kind : Kind) (p : Parts) (slots : ℕ)
    → slots ≡ slots_of p → AreRight kind slots p.holes → AreHoles kind p
holes_laid kind p slots same right =
    let there = subst (λ k. AreRight kind k p.holes) same right in
    record { ascend = there.0; none = there.1 }

pub all_laid : (limit : ℕ) (kind : Kind) (p : Parts) → p.property ≡ codes "directed" → (slots : ℕ)
    → slots ≡ slots_of p → AreRight kind slots p.holes → slots ≤ limit → length p.edges ≤ limit
    → IsLaidOut limit kind p None
all_laid limit kind p directed slots same right few few_edges =
    (directed, holes_laid kind p slots same right, record { nodes = omega (arith, same, few); edges = few_edges })

module _ (limit : ℕ) (kind : Kind) (p : Parts) (f : Fault) (directed : p.property ≡ codes "directed") where
  pub hole_laid : (slots i : ℕ) → slots ≡ slots_of p → IsWrongHole kind slots p.holes i → f.error ≡ Holes
      → f.place.member ≡ NodeHoles → f.place.entry ≡ Some i → IsLayoutFault limit kind p f
  hole_laid slots i same wrong is of at =
      let there = subst (λ k. IsWrongHole kind k p.holes i) same wrong in (
        subst (λ e. IsLaidOut limit kind p (Some e)) (sym is) (
          directed,
          λ are. wrong_hole kind (slots_of p) p.holes i there (are.ascend, are.none),
        ),
        inr (inl (i, is, of, at, there)),
      )

  -- the holes are right
  module _ (slots : ℕ) (same : slots ≡ slots_of p) (right : AreRight kind slots p.holes) where
    full : (AreFew limit p → ⊥) → f.error ≡ Full → IsLaidOut limit kind p (Some f.error)
    full many is =
        subst (λ e. IsLaidOut limit kind p (Some e)) (sym is) (directed, holes_laid kind p slots same right, many)

    pub nodes_laid : limit < slots → f.error ≡ Full → f.place.member ≡ Nodes → f.place.entry ≡ None
        → IsLayoutFault limit kind p f
    nodes_laid many is of at =
        (full (λ few. omega (arith, few.nodes, same, many)) is, inr (inr (inl (is, of, at, omega (arith, same, many)))))

    pub edges_laid : slots ≤ limit → limit < length p.edges → f.error ≡ Full → f.place.member ≡ Edges
        → f.place.entry ≡ None → IsLayoutFault limit kind p f
    edges_laid few many is of at =
        (full (λ k. omega (arith, k.edges, many)) is, inr (inr (inr (is, of, at, omega (arith, same, few)))))

-- ---- orders

-- the orders are not those of the graph
pub orders_wrong : {N E : Type 0} (g : Graph N E) (o : Option (Bor Value)) (v : Bor Value) → o ≡ Some v
    → ((orders : List (List ℕ × List ℕ)) → orders_in (view v.now) ≡ Some orders → AreOrders g orders → ⊥)
    → (f : Fault) → f.error ≡ WrongOrders → f.place.member ≡ Orders → AreWrongAt g (view v.now) f.place.entry
    → AreWrongOrders g (option_map (λ d. view d.now) o) f
orders_wrong g o v is wrong f same of at = (
  view v.now,
  ap (option_map (λ d. view d.now)) is,
  of,
  subst (λ e. IsOrdered g (option_map (λ d. view d.now) o) (Err e)) (sym same) (ordered_fault g o v is wrong),
  at,
)

-- ---- the whole

module _ {N E : Type 0} (limit : ℕ) (kind : Kind) (node_answers : Data → Option N → Type 0)
    (edge_answers : Data → Option E → Type 0) where
  -- what was found is a fault in its place
  abbrev pub IsFault : Data → Fault → Type 0
  IsFault d f = IsFaultAt limit kind node_answers edge_answers d f.error f.place.member f.place.entry

  -- ---- from each stage

  pub shape_placed : (d : Data) (f : Fault) → f.error ≡ Shape → IsShapeFault d f.place.member f.place.entry → IsFault d f
  shape_placed d f shape h = rw (shape_none d f.place.member f.place.entry h) (shape, h)

  module _ (d : Data) (p : Parts) (is : parts_in d ≡ Some p) where
    placed : (f : Fault) (member : Member) (entry : Option ℕ) → f.place.member ≡ member → f.place.entry ≡ entry
        → IsFaultIn limit kind node_answers edge_answers p f.error member entry → IsFault d f
    placed f member entry of at h = rw (is, of, at) h

    layout_placed : (f : Fault) → IsLayoutFault limit kind p f → IsFault d f
    layout_placed f h = elim h.1 [
      | inl property ↦ placed f EdgeProperty None property.1 property.2 (h.0, property.0)
      | inr other ↦ elim other [
        | inl hole ↦ placed f NodeHoles (Some hole.0) hole.2 hole.3 (h.0, hole.1, hole.4)
        | inr more ↦ elim more [
          | inl nodes ↦ placed f Nodes None nodes.1 nodes.2 (h.0, nodes.0, nodes.3)
          | inr edges ↦ placed f Edges None edges.1 edges.2 (h.0, edges.0, edges.3)
        ]
      ]
    ]

    pub nodes_placed : (f : Fault) → IsNodesFault limit kind node_answers p f → IsFault d f
    nodes_placed f (inl h) = layout_placed f h
    nodes_placed f (inr h) = placed f Nodes (Some h.1.0) h.1.1 h.1.2 (h.0, h.1.3)

    module _ (nodes : List (Option N)) (read : AreNodesRead limit kind node_answers p nodes) where
      pub entry_placed : (f : Fault) → StopsIn (IsEntryRead kind nodes edge_answers) p.edges Edges f → IsFault d f
      entry_placed f h = placed f Edges (Some h.0) h.1 h.2 (nodes, read, h.3)

      pub orders_placed : (edges : List (Option (Edge E)))
          → ReadsEach (IsEntryRead kind nodes edge_answers) p.edges (Ok edges)
          → (f : Fault) → AreWrongOrders (graph_of_slots nodes edges) p.orders f → IsFault d f
      orders_placed edges entries f h =
          placed f Orders f.place.entry h.2 refl (
            nodes,
            edges,
            h.0,
            read,
            entries,
            h.1,
            subst (λ z. IsOrdered (graph_of_slots nodes edges) z (Err f.error)) h.1 h.3,
            h.4,
          )

  -- ---- the fault that reading gives

  module _ (ends_as : Graph N E → Result (Graph N E) ReadError → Type 0) (d : Data) where
    -- reading gives this fault
    abbrev Gives : ReadError → Type 0
    Gives e = IsReadTo limit kind node_answers edge_answers ends_as d (Err e)

    module _ (p : Parts) (is : parts_in d ≡ Some p) (e : ReadError) where
      laid : IsLaidOut limit kind p (Some e) → Gives e
      laid h = layout_fault limit kind node_answers edge_answers ends_as d p is e h

      in_parts : (member : Member) (entry : Option ℕ)
          → IsFaultIn limit kind node_answers edge_answers p e member entry → Gives e
      in_parts EdgeProperty None h = laid h.0
      in_parts NodeHoles (Some i) h = laid h.0
      in_parts Nodes None h = laid h.0
      in_parts Edges None h = laid h.0
      in_parts Nodes (Some i) h =
          weight_fault limit kind node_answers edge_answers ends_as d p is h.0 e (stops_reads _ p.nodes i e h.1)
      in_parts Edges (Some i) h =
          entry_fault limit kind node_answers edge_answers ends_as d p is h.1.0 h.1.1.0 h.1.1.1 h.1.1.2 e
          (stops_reads _ p.edges i e h.2)
      in_parts Orders entry h =
          orders_fault limit kind node_answers edge_answers ends_as d p is h.3.0 h.3.1.0 h.3.1.1 h.3.1.2 h.1 h.4 e
          (subst (λ z. IsOrdered (graph_of_slots h.0 h.1) z (Err e)) (sym h.5) h.6)
      in_parts _ _ h = absurd h

    pub fault_given : (e : ReadError) (member : Member) (entry : Option ℕ)
        → IsFaultAt limit kind node_answers edge_answers d e member entry → Gives e
    fault_given e member entry h = at (parts_in d) refl h
      where
        at : (o : Option Parts) → parts_in d ≡ o → MatchOption o ((e ≡ Shape) × IsShapeFault d member entry)
            (λ p. IsFaultIn limit kind node_answers edge_answers p e member entry) → Gives e
        at None is h = rw is (ap Err h.0)
        at (Some p) is h = in_parts p is e member entry h
