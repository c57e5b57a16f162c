-- A graph that is written as tables and read, in the words of the code.
use Rattle.std.proofs.Common.{◌≡◌, ℕ, zero, suc, List, [], length, map, codes, Option, Some, None, IsSome, IfSome, Ok, String, string_bytes, refl, sym, ap, ◌∙◌}
use Rattle.std.proofs.lemmas.List.{length-map}
use Rattle.std.proofs.lemmas.Str.{IsUtf8-string_bytes}
use Rattle.std.specs.Fmt.{◌++?◌}
use Rattle.std.specs.declared.alloc.Global.{Global}
use Rattle.daggy_base.proofs.FullSlots.{full_from}
use Rattle.daggy_base.proofs.SlotLists.{none_vacant}
use Rattle.daggy_base.specs.FromSlots.{graph_of_slots, vacant_down}
use Rattle.daggy_base.specs.Graph.{Graph, IsCompact, slot}
use Rattle.daggy_base.specs.WellFormed.{IsWellFormed}
use Rattle.daggy_formats.specs.Document.{document, edge_row, node_row}
use Rattle.daggy_formats.specs.Lines.{line_of, lines_of}
use Rattle.daggy_tables.proofs.FullSlots.{all_occupied}
use Rattle.daggy_tables.proofs.TablesRead.{full_slots}
use Rattle.daggy_tables.specs.ReadBack.{DisplayText, IsEdgeTable, IsNodeTable}
use Rattle.daggy_tables.specs.Reading.{Explains, occupied, with_text}
use Rattle.daggy_tables.specs.Rows.{Row}
use Rattle.daggy_tables.specs.Tables.{edges_said, nodes_said, rows_of}
use Rattle.daggy_tables.specs.declared.error.RowError.{RowError}
use Rattle.daggy_tables.specs.declared.error.RowFault.TheVariants.{NoSuchNode}
use Rattle.daggy_tables.specs.declared.error.TableError.TheVariants.{Nodes, Edges}

-- a graph of texts
abbrev pub Texts : Type 0
Texts = Graph (String Global) (String Global)

abbrev pub shows : String Global → Option (List ℕ)
shows w = Some (string_bytes w)

-- what `node_table` and `edge_table` write
abbrev pub node_document : Texts → Option (List ℕ)
node_document g = document shows shows (codes "node,weight\n") node_row (λ _ _ _. Some []) [] g

abbrev pub edge_document : Texts → Option (List ℕ)
edge_document g = document shows shows (codes "parent,child,weight\n") (λ _ _. Some []) edge_row [] g

both_some : (a b : Option (List ℕ)) → IsSome a → IsSome b → IsSome (a ++? b)
both_some None b first second = cc first
both_some (Some s) None first second = cc second
both_some (Some s) (Some t) first second = refl

lines_some : {A : Type 0} (line : ℕ → A → Option (List ℕ)) (slots : List (Option A)) (n : ℕ) → ((i : ℕ) (x : A) → IsSome (line i x))
    → IsSome (lines_of line slots n)
lines_some line slots zero each = refl
lines_some line slots (suc n) each = both_some (lines_of line slots n) _ (lines_some line slots n each) (by (slot slots n))
  where
    by : (o : Option _) → IsSome (line_of (line n) o)
    by None = refl
    by (Some x) = each n x

written : (o : Option (List ℕ)) (text : List ℕ) → IsSome o → IfSome o (λ bs. text ≡ bs) → o ≡ Some text
written None text some is = cc some
written (Some bs) text some is = ap (λ (l : List ℕ). Some l) (sym is)

is_node_table : (g : Texts) → IsSome (node_document g)
is_node_table g =
    both_some (Some (codes "node,weight\n")) _ refl (both_some _ _ (lines_some _ g.nodes (length g.nodes) (λ i x. refl))
    (both_some _ (Some []) (lines_some _ g.edges (length g.edges) (λ i x. refl)) refl))

is_edge_table : (g : Texts) → IsSome (edge_document g)
is_edge_table g =
    both_some (Some (codes "parent,child,weight\n")) _ refl (both_some _ _ (lines_some _ g.nodes (length g.nodes) (λ i x. refl))
    (both_some _ (Some []) (lines_some _ g.edges (length g.edges) (λ i x. refl)) refl))

displays : (g : Texts) → DisplayText shows shows g
displays g = record { nodes = λ n w at. IsUtf8-string_bytes w; edges = λ e x at. IsUtf8-string_bytes x.weight }

-- what the rows of both texts say, by the law
pub record Said (limit : ℕ) (g : Texts) (node_rows edge_rows : List Row) : Type 0 where
  pub nodes : nodes_said limit node_rows ≡ Ok (map string_bytes (occupied g.nodes))
  pub edges : edges_said limit (length g.nodes) NoSuchNode edge_rows ≡ Ok (map with_text (occupied g.edges))

pub law_holds : (limit : ℕ) (g d e : Texts) (node_text edge_text nodes edges : List ℕ)
    → (IsCompact g → DisplayText shows shows g → IsNodeTable shows shows g nodes → nodes_said limit (rows_of nodes) ≡ Ok (map string_bytes (occupied g.nodes)))
    → (IsCompact g → DisplayText shows shows g → IsEdgeTable shows shows g edges → edges_said limit (length g.nodes) NoSuchNode (rows_of edges) ≡ Ok (map with_text (occupied g.edges)))
    → IsCompact g → d ≡ g → e ≡ g → IfSome (node_document d) (λ bs. node_text ≡ bs) → IfSome (edge_document e) (λ bs. edge_text ≡ bs)
    → nodes ≡ node_text → edges ≡ edge_text → Said limit g (rows_of nodes) (rows_of edges)
law_holds limit g d e node_text edge_text nodes edges of_nodes of_edges compact is_d is_e node_is edge_is node_same edge_same = record {
  nodes =
      of_nodes compact (displays g)
      (ap node_document (sym is_d) ∙ written (node_document d) node_text (is_node_table d) node_is ∙ ap (λ (l : List ℕ). Some l) (sym node_same));
  edges =
      of_edges compact (displays g)
      (ap edge_document (sym is_e) ∙ written (edge_document e) edge_text (is_edge_table e) edge_is ∙ ap (λ (l : List ℕ). Some l) (sym edge_same));
}

none_vacant_in : (limit : ℕ) (g : Texts) → IsWellFormed limit g → IsCompact g → vacant_down g.nodes ≡ []
none_vacant_in limit g well compact = none_vacant g.nodes (full_slots g.nodes (full_from g.nodes g.vacant_nodes well.node_slots compact.nodes))

count : (slots : List (Option (String Global))) → vacant_down slots ≡ [] → length (map string_bytes (occupied slots)) ≡ length slots
count slots full = length-map (occupied slots) string_bytes ∙ all_occupied slots full

module _ (limit : ℕ) (g : Texts) (well : IsWellFormed limit g) (compact : IsCompact g) (nodes edges : List Row)
    (says : Said limit g nodes edges) where
  pub no_node_fault : (e : RowError) → Explains limit nodes edges (Nodes e) → ⊥
  no_node_fault e is = cc (says.nodes, is)

  pub no_edge_fault : (e : RowError) → Explains limit nodes edges (Edges e) → ⊥
  no_edge_fault e is =
      let (weights, said, fault) = is in
      let same : weights ≡ map string_bytes (occupied g.nodes) = cc (said, says.nodes) in
      let as_many : length weights ≡ length g.nodes = ap length same ∙ count g.nodes (none_vacant_in limit g well compact) in
      let again = ap (λ n. edges_said limit n NoSuchNode edges) as_many in
      cc (again, says.edges, fault)

  module _ (copy : Texts) (copy_nodes : nodes_said limit nodes ≡ Ok (map string_bytes (occupied copy.nodes))) where
    pub same_nodes : map string_bytes (occupied copy.nodes) ≡ map string_bytes (occupied g.nodes)
    same_nodes = cc (copy_nodes, says.nodes)

    pub same_edges : IsCompact copy → copy ≡ graph_of_slots copy.nodes copy.edges
        → edges_said limit (length copy.nodes) NoSuchNode edges ≡ Ok (map with_text (occupied copy.edges))
        → map with_text (occupied copy.edges) ≡ map with_text (occupied g.edges)
    same_edges full made copy_edges =
        let none : vacant_down copy.nodes ≡ [] = sym (ap (λ (x : Texts). x.vacant_nodes) made) ∙ full.nodes in
        let as_many : length copy.nodes ≡ length g.nodes =
        sym (count copy.nodes none) ∙ ap length same_nodes ∙ count g.nodes (none_vacant_in limit g well compact) in
        let again = ap (λ n. edges_said limit n NoSuchNode edges) as_many in
        cc (again, says.edges, copy_edges)
