-- Commands, with each index as its number and each `Vec` as its list.
use Rattle.std.specs.Prelude.{ℕ, List, map}
use Rattle.daggy_base.specs.Adding.{NewEdge, by_numbers}
use Rattle.daggy_base.specs.declared.command.Command.{Command}
use Rattle.daggy_base.specs.declared.command.Command.TheVariants as command

-- a command as a plain value
pub data Request (N E : Type 0) : Type 0 where
  -- add a node; add an edge; write the weight of an existing edge, or add one
  Node : N → Request N E
  Edge : NewEdge E → Request N E
  Update : NewEdge E → Request N E
  -- add a child or a parent of a node: the weight of the edge, then that of the new node
  Child : ℕ → E → N → Request N E
  Parent : ℕ → E → N → Request N E
  -- add all edges or none
  Edges : List (NewEdge E) → Request N E
  -- find an edge between two nodes; return the endpoints of an edge
  Find : ℕ → ℕ → Request N E
  Ends : ℕ → Request N E
  RemoveNode : ℕ → Request N E
  RemoveEdge : ℕ → Request N E
  -- list the children or the parents of a node
  Children : ℕ → Request N E
  Parents : ℕ → Request N E
  ClearEdges : Request N E
  Clear : Request N E
  -- remove the edges that are redundant below these nodes
  Reduce : List ℕ → Request N E

-- a command as a request
abbrev pub request_of : {I N E : Type 0} → (number : I → ℕ) → Command N E I → Request N E
request_of number (command.Node weight) = Node weight
request_of number (command.Edge parent child weight) = Edge (by_numbers number (parent, child, weight))
request_of number (command.Update parent child weight) = Update (by_numbers number (parent, child, weight))
request_of number (command.Child parent edge node) = Child (number parent) edge node
request_of number (command.Parent child edge node) = Parent (number child) edge node
request_of number (command.Edges edges) = Edges (map (by_numbers number) edges.items)
request_of number (command.Find parent child) = Find (number parent) (number child)
request_of number (command.Ends e) = Ends (number e)
request_of number (command.RemoveNode n) = RemoveNode (number n)
request_of number (command.RemoveEdge e) = RemoveEdge (number e)
request_of number (command.Children n) = Children (number n)
request_of number (command.Parents n) = Parents (number n)
request_of number command.ClearEdges = ClearEdges
request_of number command.Clear = Clear
request_of number (command.Reduce roots) = Reduce (map number roots.items)
