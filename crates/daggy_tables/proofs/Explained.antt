-- Why no graph was read.
use Rattle.std.proofs.Common.{◌≡◌, ℕ, List, length, Ok, sym, ap, subst, ◌∙◌}
use Rattle.daggy_tables.specs.Reading.{Explains, ExplainsEdges}
use Rattle.daggy_tables.specs.Rows.{Field, Row}
use Rattle.daggy_tables.specs.Stops.{StopsTable, error_of_nodes, error_of_edges}
use Rattle.daggy_tables.specs.Tables.{nodes_said, edges_said}
use Rattle.daggy_tables.specs.declared.error.RowFault.TheVariants.{Full, NoSuchNode}
use Rattle.daggy_tables.specs.declared.error.TableError.{TableError}
use Rattle.daggy_tables.specs.declared.rows.Stop.{Stop}
use Rattle.daggy_tables.specs.declared.rows.Stop.TheVariants.{Memory, Row as OfRow}

pub nodes_explained : (limit : ℕ) (nodes edges : List Row) (s : Stop) (e : TableError) → StopsTable (nodes_said limit nodes) s
    → e ≡ error_of_nodes s → Explains limit nodes edges e
nodes_explained limit nodes edges Memory e stops is = subst (Explains limit nodes edges) (sym is) tt
nodes_explained limit nodes edges (OfRow x) e stops is = subst (Explains limit nodes edges) (sym is) stops

pub edges_explained : (limit : ℕ) (nodes edges : List Row) (weights : List Field) (n : ℕ) (s : Stop) (e : TableError)
    → nodes_said limit nodes ≡ Ok weights → n ≡ length weights → StopsTable (edges_said limit n NoSuchNode edges) s
    → e ≡ error_of_edges s → Explains limit nodes edges e
edges_explained limit nodes edges weights n Memory e said count stops is = subst (Explains limit nodes edges) (sym is) tt
edges_explained limit nodes edges weights n (OfRow x) e said count stops is =
    subst (Explains limit nodes edges) (sym is) (weights, said, ap (λ k. edges_said limit k NoSuchNode edges) (sym count) ∙ stops)

pub alone_explained : (limit n : ℕ) (edges : List Row) (s : Stop) (e : TableError) → n ≡ limit → StopsTable (edges_said limit n Full edges) s
    → e ≡ error_of_edges s → ExplainsEdges limit edges e
alone_explained limit n edges Memory e count stops is = subst (ExplainsEdges limit edges) (sym is) tt
alone_explained limit n edges (OfRow x) e count stops is =
    subst (ExplainsEdges limit edges) (sym is) (ap (λ k. edges_said limit k Full edges) (sym count) ∙ stops)
