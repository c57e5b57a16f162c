pub use Rattle.daggy_base.specs.Graph
pub use Rattle.daggy_base.specs.Path
pub use Rattle.daggy_base.specs.Adding
pub use Rattle.daggy_base.specs.Removal
pub use Rattle.daggy_base.specs.Finding
pub use Rattle.daggy_base.specs.Cursor
pub use Rattle.daggy_base.specs.WellFormed
pub use Rattle.daggy_base.specs.Reduction
pub use Rattle.daggy_base.specs.State
pub use Rattle.daggy_base.specs.Weights
pub use Rattle.daggy_base.specs.Copying
pub use Rattle.daggy_base.specs.TakingBack
pub use Rattle.daggy_guard.specs.EdgeBatch
pub use Rattle.daggy_guard.specs.Extension
pub use Rattle.daggy_guard.specs.Elements
pub use Rattle.daggy_guard.specs.Parents
pub use Rattle.daggy_visit.specs.Visit
pub use Rattle.daggy_walk.specs.Walking
pub use Rattle.daggy_walk.specs.Adapters
pub use Rattle.daggy_walk.specs.Leading
pub use Rattle.daggy_walk.specs.Fused
pub use Rattle.daggy_walk.specs.Parts
pub use Rattle.daggy_dag.specs.Walks
pub use Rattle.daggy_dag.specs.Lends
pub use Rattle.daggy_dag.specs.Cursors
pub use Rattle.daggy_dag.specs.Slots
pub use Rattle.daggy_graph.specs.Lends as GraphLends
pub use Rattle.daggy_graph.specs.Cursors as GraphCursors
pub use Rattle.daggy_stable.specs.Lends as StableGraphLends
pub use Rattle.daggy_base.specs.Mapping
pub use Rattle.daggy_base.specs.Filtering
pub use Rattle.daggy_base.specs.FromSlots
pub use Rattle.daggy_base.specs.Orders
pub use Rattle.daggy_base.specs.FilteringInPlace
pub use Rattle.daggy_base.specs.Rewriting
pub use Rattle.daggy_base.specs.Iterating
pub use Rattle.daggy_base.specs.Calls
pub use Rattle.daggy_base.specs.CallsInTurn
pub use Rattle.daggy_cells.specs.Raw
pub use Rattle.daggy_stable.specs.Held
pub use Rattle.daggy_base.specs.Ordered
pub use Rattle.daggy_redundant.specs.Comparison
pub use Rattle.daggy_reduction.specs.SearchSpan
pub use Rattle.daggy_reduction.specs.AnyWeights
pub use Rattle.daggy_reduction.specs.Blocks
pub use Rattle.daggy_redundant.specs.KeptRoom
pub use Rattle.daggy_reduction.specs.Descendants
pub use Rattle.daggy_search.specs.Room
pub use Rattle.daggy_search.specs.Reversed
pub use Rattle.daggy_order.specs.Paths
pub use Rattle.daggy_dag.specs.Recomputing
pub use Rattle.daggy_dag.specs.Retaining
pub use Rattle.daggy_paths.specs.EdgePaths
pub use Rattle.daggy_dag.specs.Connecting
pub use Rattle.daggy_dag.specs.WholeReduction
pub use Rattle.daggy_dag.specs.FromGraph
pub use Rattle.daggy_operators.specs.Operators
pub use Rattle.daggy_operators.specs.Common
pub use Rattle.daggy_operators.specs.Closure
pub use Rattle.daggy_operators.specs.SimplePaths
pub use Rattle.daggy_operators.specs.Children
pub use Rattle.daggy_operators.specs.SortedChildren
pub use Rattle.daggy_operators.specs.Merging
pub use Rattle.daggy_schedule.specs.Work
pub use Rattle.daggy_schedule.specs.Times
pub use Rattle.daggy_schedule.specs.Lags
pub use Rattle.daggy_schedule.specs.LeastFirst
pub use Rattle.daggy_schedule.specs.Assignments
pub use Rattle.daggy_schedule.specs.ByKey
pub use Rattle.daggy_schedule.specs.Fallible
pub use Rattle.daggy_traversal.specs.Traversal
pub use Rattle.daggy_traversal.specs.Breadth
pub use Rattle.daggy_traversal.specs.Depth
pub use Rattle.daggy_traversal.specs.OldestFirst
pub use Rattle.daggy_traversal.specs.Postorder
pub use Rattle.daggy_named.specs.Dependencies
pub use Rattle.daggy_named.specs.Naming
pub use Rattle.daggy_named.specs.Keyed
pub use Rattle.daggy_named.specs.Planned
pub use Rattle.daggy_named.specs.Working
pub use Rattle.daggy_named.specs.Scheduled
pub use Rattle.daggy_named.specs.Asked
pub use Rattle.daggy_named.specs.Refused
pub use Rattle.daggy_named.specs.Lends as NamedLends
pub use Rattle.daggy_named.specs.Retained as RetainedByKey
pub use Rattle.daggy_dot.specs.Picture
pub use Rattle.daggy_dot.specs.Escapes
pub use Rattle.daggy_dot.specs.Values as DotValues
pub use Rattle.daggy_formats.specs.Document as Formats
pub use Rattle.daggy_formats.specs.Escapes as FormatEscapes
pub use Rattle.daggy_formats.specs.Lines as FormatLines
pub use Rattle.daggy_tables.specs.Rows as TableRows
pub use Rattle.daggy_tables.specs.Tables
pub use Rattle.daggy_tables.specs.Reading as TablesRead
pub use Rattle.daggy_tables.specs.ReadBack as TablesReadBack
pub use Rattle.daggy_base.specs.Look
pub use Rattle.daggy_base.specs.Errors
pub use Rattle.daggy_base.specs.Capacity
pub use Rattle.daggy_base.specs.Directions
pub use Rattle.daggy_base.specs.Externals
pub use Rattle.daggy_cells.specs.Referring
pub use Rattle.daggy_base.specs.Requests
pub use Rattle.daggy_base.specs.Answers
pub use Rattle.daggy_run.specs.EdgeLists
pub use Rattle.daggy_run.specs.Steps
pub use Rattle.daggy_run.specs.Runs
pub use Rattle.daggy_run.specs.Plans
pub use Rattle.daggy_json.specs.Document
pub use Rattle.daggy_json.specs.Reading
pub use Rattle.daggy_json.specs.Fault
pub use Rattle.daggy_json.specs.Weight
pub use Rattle.daggy_json.specs.Restoring
pub use Rattle.daggy_json.specs.Streaming
pub use Rattle.daggy_components.specs.Components
pub use Rattle.daggy_components.specs.Condensation
pub use Rattle.daggy_components.specs.Cycles
pub use Rattle.daggy_components.specs.WeakComponents
pub use Rattle.daggy_condensation.specs.Between as BetweenComponents
pub use Rattle.daggy_condensation.specs.Folding
pub use Rattle.daggy_cycles.specs.CycleEdges
pub use Rattle.daggy_cycles.specs.EdgeWays
pub use Rattle.daggy_cycles.specs.Feedback
pub use Rattle.daggy_cycles.specs.Shortest
pub use Rattle.daggy_cycles.specs.WithPairs
pub use Rattle.daggy_computed.specs.Computation as ComputedValues
pub use Rattle.daggy_computed.specs.Inputs as ComputedInputs
pub use Rattle.daggy_computed.specs.Marking
pub use Rattle.daggy_computed.specs.Settling
pub use Rattle.daggy_computed.specs.Recomputing as ComputedAnew
pub use Rattle.daggy_computed.specs.Refreshing
