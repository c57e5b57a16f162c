-- What a contract sees of computed values.
use Rattle.std.specs.Prelude.{ℕ, List, map}
use Rattle.std.specs.Option.{option_map}
use Rattle.daggy_base.specs.Graph.{Graph}
use Rattle.daggy_computed.specs.declared.cell.Cell.{Cell}

-- a graph whose node weights are cells, and the nodes whose values were new in the last refresh, in that order
pub record Computation (K V E : Type 0) : Type 0 where
  pub graph : Graph (Cell K V) E
  pub changed : List ℕ

-- the same with another graph
abbrev pub with_graph : {K V E : Type 0} → Computation K V E → Graph (Cell K V) E → Computation K V E
with_graph s g = record { graph = g; changed = s.changed }

-- the graph with formulas in place of cells
abbrev pub formulas : {K V E : Type 0} → Graph (Cell K V) E → Graph K E
formulas g =
    record {
      nodes = map (option_map (λ c. c.formula)) g.nodes;
      edges = g.edges;
      out_lists = g.out_lists;
      in_lists = g.in_lists;
      vacant_nodes = g.vacant_nodes;
      vacant_edges = g.vacant_edges;
    }
