-- Replies, with each index as its number and each `Vec` as its list.
use Rattle.std.specs.Prelude.{ℕ, Option, List, map}
use Rattle.std.specs.Option.{option_map}
use Rattle.daggy_base.specs.Graph.{pair_of}
use Rattle.daggy_base.specs.declared.command.Back.{Back}
use Rattle.daggy_base.specs.declared.command.Back.TheVariants as back
use Rattle.daggy_base.specs.declared.command.Reply.{Reply}
use Rattle.daggy_base.specs.declared.command.Reply.TheVariants as reply

-- the weights that are returned: none, a node's, an edge's, both, or those of the invalid edge and of the edges before
-- it, the last one first
pub data Weights (N E : Type 0) : Type 0 where
  OfNothing : Weights N E
  OfNode : N → Weights N E
  OfEdge : E → Weights N E
  OfEdgeNode : E → N → Weights N E
  OfEdges : (last : E) (before : List E) → Weights N E

-- the weights that a reply returns
abbrev pub weights_of : {N E : Type 0} → Back N E → Weights N E
weights_of back.Nothing = OfNothing
weights_of (back.Node weight) = OfNode weight
weights_of (back.Edge weight) = OfEdge weight
weights_of (back.EdgeNode edge node) = OfEdgeNode edge node
weights_of (back.Edges last before) = OfEdges last before.items

-- a reply as a plain value
pub data Answer (N E : Type 0) : Type 0 where
  -- what was added
  Node : ℕ → Answer N E
  Edge : ℕ → Answer N E
  EdgeNode : (edge node : ℕ) → Answer N E
  Edges : List ℕ → Answer N E
  -- what was found, and what was removed
  Found : Option ℕ → Answer N E
  Ends : Option (ℕ × ℕ) → Answer N E
  NodeGone : Option N → Answer N E
  EdgeGone : Option E → Answer N E
  -- edges with their far endpoints
  Walk : List (ℕ × ℕ) → Answer N E
  Done : Answer N E
  -- refusals: a node is missing, no index is left, one edge or many would close a cycle, an allocation failed
  Missing : Weights N E → Answer N E
  Full : Weights N E → Answer N E
  Cycle : E → Answer N E
  CycleAll : List E → Answer N E
  Memory : Weights N E → Answer N E

-- a reply as an answer
abbrev pub answer_of : {I N E : Type 0} → (number : I → ℕ) → Reply N E I → Answer N E
answer_of number (reply.Node n) = Node (number n)
answer_of number (reply.Edge e) = Edge (number e)
answer_of number (reply.EdgeNode e n) = EdgeNode (number e) (number n)
answer_of number (reply.Edges edges) = Edges (map number edges.items)
answer_of number (reply.Found e) = Found (option_map number e)
answer_of number (reply.Ends ends) = Ends (option_map (pair_of number) ends)
answer_of number (reply.NodeGone weight) = NodeGone weight
answer_of number (reply.EdgeGone weight) = EdgeGone weight
answer_of number (reply.Walk items) = Walk (map (pair_of number) items.items)
answer_of number reply.Done = Done
answer_of number (reply.Missing weights) = Missing (weights_of weights)
answer_of number (reply.Full weights) = Full (weights_of weights)
answer_of number (reply.Cycle weight) = Cycle weight
answer_of number (reply.CycleAll weights) = CycleAll weights.items
answer_of number (reply.Memory weights) = Memory (weights_of weights)
