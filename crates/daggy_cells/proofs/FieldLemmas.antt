-- The fields of lists of stored nodes and edges, before and after a write.
use Rattle.std.proofs.Common.{◌≡◌, ℕ, List, map, length, get_or, set, Option, refl, sym, ap, ◌∙◌}
use Rattle.std.proofs.lemmas.List.{length-map, map-set}
use Rattle.daggy_base.specs.Graph.{Graph, Edge as PlainEdge}
use Rattle.daggy_cells.specs.declared.cell.Node.{Node}
use Rattle.daggy_cells.specs.declared.cell.Edge.{Edge}
use Rattle.daggy_base.specs.declared.index.Direction.{Direction}
use Rattle.daggy_base.specs.declared.index.Direction.TheVariants.{Outgoing, Incoming}
use Rattle.daggy_cells.specs.Raw.{raw_first, raw_next}
use Rattle.daggy_cells.specs.Fields.{weight_of, with_first, with_next, plain_edge, end_at, firsts_of, nexts_of}
use Rattle.daggy_cells.specs.Fields.{KeepsNodes, KeepsEdges, AreLedTo}
use Rattle.daggy_base.proofs.Lists.{map-set_same}

-- there is a first link for each node
pub firsts_as_many : {N V Ix : Type 0} (f : Node N Ix → V) (dir : Direction) (nodes : List (Node N Ix))
    → length (firsts_of dir nodes) ≡ length (map f nodes)
firsts_as_many f dir nodes = length-map nodes (raw_first dir) ∙ sym (length-map nodes f)

-- two lists that show the same
pub as_many : {A B : Type 0} (f : A → B) (xs ys : List A) → map f xs ≡ map f ys → length xs ≡ length ys
as_many f xs ys same = sym (length-map xs f) ∙ ap length same ∙ length-map ys f

-- a graph by its parts
pub same_graph : {N E : Type 0} (g : Graph N E) {a : List (Option N)} {b : List (Option (PlainEdge E))}
    {c d : List (List ℕ)} {e f : List ℕ}
    → a ≡ g.nodes → b ≡ g.edges → c ≡ g.out_lists → d ≡ g.in_lists → e ≡ g.vacant_nodes → f ≡ g.vacant_edges
    → record { nodes = a; edges = b; out_lists = c; in_lists = d; vacant_nodes = e; vacant_edges = f } ≡ g
same_graph {N} {E} g {a} {b} {c} {d} {e} {f} p q r s t u =
    let mk : List (Option N) → List (Option (PlainEdge E)) → List (List ℕ) → List (List ℕ) → List ℕ → List ℕ
    → Graph N E =
    λ a b c d e f. record { nodes = a; edges = b; out_lists = c; in_lists = d; vacant_nodes = e; vacant_edges = f } in
    ap (λ x. mk x b c d e f) p ∙ ap (λ x. mk g.nodes x c d e f) q ∙ ap (λ x. mk g.nodes g.edges x d e f) r
    ∙ ap (λ x. mk g.nodes g.edges g.out_lists x e f) s ∙ ap (λ x. mk g.nodes g.edges g.out_lists g.in_lists x f) t
    ∙ ap (λ x. mk g.nodes g.edges g.out_lists g.in_lists g.vacant_nodes x) u

-- a write of one link

module _ {N Ix : Type 0} (nodes : List (Node N Ix)) (i : ℕ) (x : Node N Ix) (new : ℕ) (is : x ≡ get_or nodes i x) where
  pub KeepsNodes-set : (dir : Direction) → KeepsNodes dir nodes (set nodes i (with_first dir x new))
  KeepsNodes-set Outgoing = record {
    weights = map-set_same weight_of nodes i x _ is refl;
    firsts = map-set_same (raw_first Incoming) nodes i x _ is refl;
  }
  KeepsNodes-set Incoming = record {
    weights = map-set_same weight_of nodes i x _ is refl;
    firsts = map-set_same (raw_first Outgoing) nodes i x _ is refl;
  }

  pub firsts_of-set : (dir : Direction)
      → firsts_of dir (set nodes i (with_first dir x new)) ≡ set (firsts_of dir nodes) i new
  firsts_of-set Outgoing = map-set (raw_first Outgoing) nodes i _
  firsts_of-set Incoming = map-set (raw_first Incoming) nodes i _

module _ {E Ix : Type 0} (edges : List (Edge E Ix)) (i : ℕ) (x : Edge E Ix) (new : ℕ) (is : x ≡ get_or edges i x) where
  pub KeepsEdges-set : (dir : Direction) → KeepsEdges dir edges (set edges i (with_next dir x new))
  KeepsEdges-set Outgoing =
      record {
        edges = map-set_same plain_edge edges i x _ is refl;
        ends = elim [
          | Outgoing ↦ map-set_same (end_at Outgoing) edges i x _ is refl
          | Incoming ↦ map-set_same (end_at Incoming) edges i x _ is refl
        ];
        nexts = map-set_same (raw_next Incoming) edges i x _ is refl;
      }
  KeepsEdges-set Incoming =
      record {
        edges = map-set_same plain_edge edges i x _ is refl;
        ends = elim [
          | Outgoing ↦ map-set_same (end_at Outgoing) edges i x _ is refl
          | Incoming ↦ map-set_same (end_at Incoming) edges i x _ is refl
        ];
        nexts = map-set_same (raw_next Outgoing) edges i x _ is refl;
      }

  pub nexts_of-set : (dir : Direction)
      → nexts_of dir (set edges i (with_next dir x new)) ≡ set (nexts_of dir edges) i new
  nexts_of-set Outgoing = map-set (raw_next Outgoing) edges i _
  nexts_of-set Incoming = map-set (raw_next Incoming) edges i _

-- the first links of two nodes are written, which may be one node
pub both_written : {N Ix : Type 0} (nodes : List (Node N Ix)) {a b u v : ℕ} (e : ℕ) {x y x' y' : Node N Ix}
    → u ≡ a → v ≡ b → x ≡ get_or nodes u x → x' ≡ with_first Outgoing x e → y ≡ get_or (set nodes u x') v y
    → y' ≡ with_first Incoming y e
    → AreLedTo nodes (set (set nodes u x') v y') a b e
both_written nodes {a} {b} {u} {v} e {x} {y} {x'} {y'} u_is v_is x_is x'_is y_is y'_is =
    let first = set nodes u x' in
    record {
      weights =
          map-set_same weight_of first v y y' y_is (ap weight_of y'_is)
          ∙ map-set_same weight_of nodes u x x' x_is (ap weight_of x'_is);
      outs =
          map-set_same (raw_first Outgoing) first v y y' y_is (ap (raw_first Outgoing) y'_is)
          ∙ map-set (raw_first Outgoing) nodes u x'
          ∙ ap (set (firsts_of Outgoing nodes) u) (ap (raw_first Outgoing) x'_is)
          ∙ ap (λ z. set (firsts_of Outgoing nodes) z e) u_is;
      ins =
          map-set (raw_first Incoming) first v y'
          ∙ ap (λ l. set l v (raw_first Incoming y'))
          (map-set_same (raw_first Incoming) nodes u x x' x_is (ap (raw_first Incoming) x'_is))
          ∙ ap (set (firsts_of Incoming nodes) v) (ap (raw_first Incoming) y'_is)
          ∙ ap (λ z. set (firsts_of Incoming nodes) z e) v_is;
    }
