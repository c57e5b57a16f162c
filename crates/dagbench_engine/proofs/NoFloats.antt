-- No weight in a document is a float, so its text is determined.
use Rattle.std.proofs.Common.{◌≡◌, ℕ, ℤ, pos, negsuc, false, List, [], ◌∷◌, Option, Some, None, map, refl, take}
use Rattle.std.specs.List.{AllZip}
use Rattle.serde_json.specs.Data.{Data}
use Rattle.serde_json.specs.View.{items_of}
use Rattle.serde_json.specs.Find.{of_integer, is_float}
use Rattle.serde_json.specs.Written.{has_float, items_have_float}
use Rattle.daggy.specs.Graph.{Graph, Edge, out_list, in_list, edge_bound}
use Rattle.daggy.specs.Iterating.{node_identifiers, node_weights}
use Rattle.daggy.specs.Document.{whole, row_of, holes_of, IsEntry, IsDocumentOf}
use Rattle.dagbench_engine.specs.Documents.{StandsFor}

of_none : (z : ℤ) → is_float (of_integer z) ≡ false
of_none (pos n) = refl
of_none (negsuc n) = refl

of_wholes : (ns : List ℕ) → items_have_float (items_of (map whole ns)) ≡ false
of_wholes [] = refl
of_wholes (n ∷ ns) = of_wholes ns

of_row : (g : Graph ℤ ℤ) (n : ℕ) → has_float (row_of g n) ≡ false
of_row g n = rw (of_wholes (out_list g n), of_wholes (in_list g n)) refl

of_rows : (g : Graph ℤ ℤ) (ns : List ℕ) → items_have_float (items_of (map (row_of g) ns)) ≡ false
of_rows g [] = refl
of_rows g (n ∷ ns) = rw (of_row g n, of_rows g ns) refl

of_weights : (ws : List ℤ) (ds : List Data) → AllZip StandsFor ws ds → items_have_float (items_of ds) ≡ false
of_weights [] [] all = refl
of_weights [] (d ∷ ds) all = absurd all
of_weights (w ∷ ws) [] all = absurd all
of_weights (w ∷ ws) (d ∷ ds) all = rw (all.0, of_none w, of_weights ws ds all.1) refl

of_entry : (x : Option (Edge ℤ)) (d : Data) → IsEntry StandsFor x d → has_float d ≡ false
of_entry None d is = rw is refl
of_entry (Some x) d is = rw (is.2, is.1, of_none x.weight) refl

of_entries : (xs : List (Option (Edge ℤ))) (ds : List Data)
    → AllZip (IsEntry StandsFor) xs ds → items_have_float (items_of ds) ≡ false
of_entries [] [] all = refl
of_entries [] (d ∷ ds) all = absurd all
of_entries (x ∷ xs) [] all = absurd all
of_entries (x ∷ xs) (d ∷ ds) all = rw (of_entry x d all.0, of_entries xs ds all.1) refl

pub has_none : (g : Graph ℤ ℤ) (d : Data) → IsDocumentOf StandsFor StandsFor g d → has_float d ≡ false
has_none g d is =
    rw (
      is.is,
      of_entries (take (edge_bound g) g.edges) is.entries is.edges,
      of_wholes (holes_of g),
      of_weights (node_weights g) is.weights is.nodes,
      of_rows g (node_identifiers g),
    ) refl
