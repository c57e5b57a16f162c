-- What stays of a stored graph when its weights are mapped.
use Rattle.std.proofs.Common.{◌≡◌, ℕ, List, map, length, refl, sym, ap, subst, ◌∙◌, arith}
use Rattle.std.proofs.lemmas.List.{length-map}
use Rattle.std.specs.Borrow.{Bor}
use Rattle.daggy_cells.specs.declared.cell.Node.{Node}
use Rattle.daggy_cells.specs.declared.cell.Edge.{Edge}
use Rattle.daggy_base.specs.declared.index.Direction.{Direction}
use Rattle.daggy_base.specs.declared.index.Direction.TheVariants.{Outgoing, Incoming}
use Rattle.daggy_cells.specs.Links.{linked_lists, AreLinkedLists, ListsEach}
use Rattle.daggy_base.specs.Mapping.{MapsSlots, IsMapped, weight_in, with_weight}
use Rattle.daggy_cells.specs.Raw.{raw_first, raw_next}
use Rattle.daggy_cells.specs.Fields.{weight_of, plain_edge, firsts_of, nexts_of, ends_of}
use Rattle.daggy_graph.specs.Stored.{stored_graph, Stores}

-- a graph with the links of a stored graph
module _ {N E V W Ix : Type 0} (end : ℕ) (nodes : List (Node N Ix)) (edges : List (Edge E Ix))
    (nodes' : List (Node V Ix)) (edges' : List (Edge W Ix))
    (firsts : (d : Direction) → firsts_of d nodes' ≡ firsts_of d nodes)
    (nexts : (d : Direction) → nexts_of d edges' ≡ nexts_of d edges) where
  pub same_rows : (d : Direction)
      → linked_lists (firsts_of d nodes') (nexts_of d edges') ≡ linked_lists (firsts_of d nodes) (nexts_of d edges)
  same_rows d =
      ap (λ z. linked_lists z (nexts_of d edges')) (firsts d) ∙ ap (linked_lists (firsts_of d nodes)) (nexts d)

  linked_again : (d : Direction)
      → AreLinkedLists end (firsts_of d nodes) (nexts_of d edges) (linked_lists (firsts_of d nodes) (nexts_of d edges))
      → AreLinkedLists end (firsts_of d nodes') (nexts_of d edges')
      (linked_lists (firsts_of d nodes') (nexts_of d edges'))
  linked_again d s =
      let one =
      subst (λ z. AreLinkedLists end z (nexts_of d edges) (linked_lists z (nexts_of d edges))) (sym (firsts d)) s in
      subst (λ z. AreLinkedLists end (firsts_of d nodes') z (linked_lists (firsts_of d nodes') z)) (sym (nexts d)) one

  listed_again : (d : Direction) → ends_of d edges' ≡ ends_of d edges
      → ListsEach (ends_of d edges) (linked_lists (firsts_of d nodes) (nexts_of d edges))
      → ListsEach (ends_of d edges') (linked_lists (firsts_of d nodes') (nexts_of d edges'))
  listed_again d ends s =
      let one = subst (λ z. ListsEach (ends_of d edges) z) (sym (same_rows d)) s in
      subst (λ z. ListsEach z (linked_lists (firsts_of d nodes') (nexts_of d edges'))) (sym ends) one

  pub Stores-relinked : ((d : Direction) → ends_of d edges' ≡ ends_of d edges)
      → Stores end nodes edges (stored_graph nodes edges) → Stores end nodes' edges' (stored_graph nodes' edges')
  Stores-relinked ends s =
      let many : length nodes' ≡ length nodes =
      sym (length-map nodes' (raw_first Outgoing)) ∙ ap length (firsts Outgoing)
      ∙ length-map nodes (raw_first Outgoing) in
      let more : length edges' ≡ length edges =
      sym (length-map edges' (raw_next Outgoing)) ∙ ap length (nexts Outgoing) ∙ length-map edges (raw_next Outgoing) in
      record {
        nodes_are = refl;
        edges_are = refl;
        no_vacant_node = refl;
        no_vacant_edge = refl;
        linked = elim [
          | Outgoing ↦ linked_again Outgoing (s.linked Outgoing)
          | Incoming ↦ linked_again Incoming (s.linked Incoming)
        ];
        listed = elim [
          | Outgoing ↦ listed_again Outgoing (ends Outgoing) (s.listed Outgoing)
          | Incoming ↦ listed_again Incoming (ends Incoming) (s.listed Incoming)
        ];
        few_nodes = omega (arith, s.few_nodes, many);
        few_edges = omega (arith, s.few_edges, more);
      }

-- what a loop over stored nodes and one over stored edges give
pub record MapsStored {N E V W Ix F G I : Type 0} (of : ℕ → I) (step_f : F → I → Bor N → V → F → Type 0)
    (step_g : G → I → Bor E → W → G → Type 0) (f : F) (g : G) (nodes : List (Node N Ix)) (edges : List (Edge E Ix))
    (nodes' : List (Node V Ix)) (edges' : List (Edge W Ix)) : Type 0 where
  pub for_nodes : MapsSlots step_f of (λ w. w) (λ w v. v) f 0 (map weight_of nodes) (map weight_of nodes')
  pub for_edges : MapsSlots step_g of weight_in with_weight g 0 (map plain_edge edges) (map plain_edge edges')
  pub firsts : (dir : Direction) → firsts_of dir nodes' ≡ firsts_of dir nodes
  pub nexts : (dir : Direction) → nexts_of dir edges' ≡ nexts_of dir edges
  pub ends : (dir : Direction) → ends_of dir edges' ≡ ends_of dir edges

module _ {N E V W Ix F G I : Type 0} {of : ℕ → I} {step_f : F → I → Bor N → V → F → Type 0}
    {step_g : G → I → Bor E → W → G → Type 0} {f : F} {g : G} {nodes : List (Node N Ix)} {edges : List (Edge E Ix)}
    {nodes' : List (Node V Ix)} {edges' : List (Edge W Ix)}
    (m : MapsStored of step_f step_g f g nodes edges nodes' edges') where
  pub Stores-mapped : (end : ℕ)
      → Stores end nodes edges (stored_graph nodes edges) → Stores end nodes' edges' (stored_graph nodes' edges')
  Stores-mapped end s = Stores-relinked end nodes edges nodes' edges' m.firsts m.nexts m.ends s

  pub IsMapped-stored : IsMapped of step_f step_g f g (stored_graph nodes edges) (stored_graph nodes' edges')
  IsMapped-stored = record {
    nodes = m.for_nodes;
    edges = m.for_edges;
    out_lists = same_rows 0 nodes edges nodes' edges' m.firsts m.nexts Outgoing;
    in_lists = same_rows 0 nodes edges nodes' edges' m.firsts m.nexts Incoming;
    vacant_nodes = refl;
    vacant_edges = refl;
  }
