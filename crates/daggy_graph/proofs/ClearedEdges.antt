-- What is stored after all edges are removed.
use Rattle.std.proofs.Common.{◌≡◌, ℕ, zero, suc, ◌<◌, List, [], ◌∷◌, map, length, get_or, slice_get, refl, sym, ap, ◌∙◌}
use Rattle.std.proofs.Common.{arith}
use Rattle.std.proofs.lemmas.List.{length-map}
use Rattle.daggy_base.specs.declared.index.Direction.{Direction}
use Rattle.daggy_base.specs.declared.index.Direction.TheVariants.{Outgoing, Incoming}
use Rattle.daggy_base.specs.Graph.{Graph}
use Rattle.daggy_base.specs.Removal.{without_all_edges}
use Rattle.daggy_cells.specs.declared.cell.Node.{Node}
use Rattle.daggy_cells.specs.declared.cell.Edge.{Edge}
use Rattle.daggy_cells.specs.Links.{AreLinkedLists, ListsEach}
use Rattle.daggy_cells.specs.Raw.{raw_first}
use Rattle.daggy_cells.specs.Fields.{weight_of, with_lists_emptied, firsts_of, lists_at}
use Rattle.daggy_graph.specs.Stored.{Stores}
use Rattle.daggy_cells.proofs.LinkedListChanges.{AreLinkedLists-none, ListsBy-none}

module _ {N E Ix : Type 0} (end : ℕ) (nodes : List (Node N Ix)) (edges : List (Edge E Ix)) (g : Graph N E)
    (s : Stores end nodes edges g) where
  first_bare : (dir : Direction) (xs : List (Node N Ix))
      → firsts_of dir (map (with_lists_emptied end) xs) ≡ map (λ _. end) xs
  first_bare dir [] = refl
  first_bare Outgoing (x ∷ xs) = ap (λ l. end ∷ l) (first_bare Outgoing xs)
  first_bare Incoming (x ∷ xs) = ap (λ l. end ∷ l) (first_bare Incoming xs)

  weights_bare : (xs : List (Node N Ix)) → map weight_of (map (with_lists_emptied end) xs) ≡ map weight_of xs
  weights_bare [] = refl
  weights_bare (x ∷ xs) = ap (λ l. weight_of x ∷ l) (weights_bare xs)

  long : (dir : Direction) → length (firsts_of dir (map (with_lists_emptied end) nodes)) ≡ length nodes
  long dir = length-map (map (with_lists_emptied end) nodes) (raw_first dir) ∙ length-map nodes (with_lists_emptied end)

  linked_none : (dir : Direction)
      → AreLinkedLists end (firsts_of dir (map (with_lists_emptied end) nodes)) [] (map (λ _. []) (lists_at dir g))
  linked_none dir =
      AreLinkedLists-none end (firsts_of dir (map (with_lists_emptied end) nodes)) (lists_at dir g)
      ((s.linked dir).rows ∙ length-map nodes (raw_first dir) ∙ sym (long dir))
      (λ n within. ap (λ l. get_or l n 0) (first_bare dir nodes) ∙ ends_all nodes n (omega (arith, within, long dir)))
    where
      ends_all : (xs : List (Node N Ix)) (n : ℕ) → n < length xs → get_or (map (λ _. end) xs) n 0 ≡ end
      ends_all [] n within = absurd (omega (arith, within))
      ends_all (x ∷ xs) zero within = refl
      ends_all (x ∷ xs) (suc n) within = ends_all xs n (omega (arith, within))

  listed_none : (dir : Direction) → ListsEach [] (map (λ _. []) (lists_at dir g))
  listed_none dir = ListsBy-none (slice_get []) (lists_at dir g) (λ e. refl)

  pub Stores-with_lists_emptied : Stores end (map (with_lists_emptied end) nodes) [] (without_all_edges g)
  Stores-with_lists_emptied =
      record {
        nodes_are = s.nodes_are ∙ sym (weights_bare nodes);
        edges_are = refl;
        no_vacant_node = s.no_vacant_node;
        no_vacant_edge = refl;
        linked = elim [ Outgoing ↦ linked_none Outgoing | Incoming ↦ linked_none Incoming ];
        listed = elim [ Outgoing ↦ listed_none Outgoing | Incoming ↦ listed_none Incoming ];
        few_nodes = omega (arith, s.few_nodes, length-map nodes (with_lists_emptied end));
        few_edges = omega arith;
      }
