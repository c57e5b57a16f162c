-- Small graphs, written out by hand. Weights are numbers.
use Rattle.std.specs.Prelude.{ℕ, List, [], ◌∷◌}
use Rattle.daggy_base.specs.Graph.{Graph, Edge, empty}
use Rattle.daggy_base.specs.Adding.{with_node, with_edge}

abbrev pub line : (u v weight : ℕ) → Edge ℕ
line u v weight = record { parent = u; child = v; weight = weight }

-- the greatest value of a small index type
abbrev pub end : ℕ
end = 255

abbrev pub nothing : Graph ℕ ℕ
nothing = empty

-- with nodes of these weights added in this order
abbrev pub with_nodes : List ℕ → Graph ℕ ℕ → Graph ℕ ℕ
with_nodes [] g = g
with_nodes (w ∷ ws) g = with_nodes ws (with_node g w)

-- with these edges added in this order
abbrev pub with_lines : List (Edge ℕ) → Graph ℕ ℕ → Graph ℕ ℕ
with_lines [] g = g
with_lines (x ∷ xs) g = with_lines xs (with_edge g x.parent x.child x.weight)

abbrev pub one_node : Graph ℕ ℕ
one_node = with_nodes (5 ∷ []) nothing

abbrev pub self_loop : Graph ℕ ℕ
self_loop = with_edge one_node 0 0 9

abbrev pub three_nodes : Graph ℕ ℕ
three_nodes = with_nodes (10 ∷ 20 ∷ 30 ∷ []) nothing

abbrev pub four_nodes : Graph ℕ ℕ
four_nodes = with_nodes (10 ∷ 20 ∷ 30 ∷ 40 ∷ []) nothing

abbrev pub five_nodes : Graph ℕ ℕ
five_nodes = with_nodes (10 ∷ 20 ∷ 30 ∷ 40 ∷ 50 ∷ []) nothing

-- a root with three children
abbrev pub fan : Graph ℕ ℕ
fan = with_lines (line 0 1 10 ∷ line 0 2 20 ∷ line 0 3 30 ∷ []) four_nodes

-- one edge goes directly where two edges lead
abbrev pub triangle : Graph ℕ ℕ
triangle = with_lines (line 0 1 10 ∷ line 0 2 20 ∷ line 1 2 30 ∷ []) three_nodes

-- the same, with its edges added in another order
abbrev pub turned_triangle : Graph ℕ ℕ
turned_triangle = with_lines (line 0 1 10 ∷ line 1 2 20 ∷ line 0 2 30 ∷ []) three_nodes

-- two edges of one pair, and one between them in age
abbrev pub doubled : Graph ℕ ℕ
doubled = with_lines (line 0 1 10 ∷ line 0 2 20 ∷ line 0 1 30 ∷ []) three_nodes

-- two edges of one pair
abbrev pub pair : Graph ℕ ℕ
pair = with_lines (line 0 1 1 ∷ line 0 1 2 ∷ []) (with_nodes (10 ∷ 20 ∷ []) nothing)

-- two ways from 0 to 3
abbrev pub diamond : Graph ℕ ℕ
diamond = with_lines (line 0 1 10 ∷ line 0 2 20 ∷ line 1 3 30 ∷ line 2 3 40 ∷ []) four_nodes

abbrev pub chain : Graph ℕ ℕ
chain = with_lines (line 0 1 10 ∷ line 1 2 20 ∷ []) three_nodes

abbrev pub ring : Graph ℕ ℕ
ring = with_lines (line 0 1 10 ∷ line 1 2 20 ∷ line 2 0 30 ∷ []) three_nodes

abbrev pub two_children : Graph ℕ ℕ
two_children = with_lines (line 0 1 4 ∷ line 0 2 5 ∷ []) three_nodes

-- five nodes, three of whose edges go where longer paths lead
abbrev pub shortcuts : Graph ℕ ℕ
shortcuts =
    with_lines
    (line 0 1 1 ∷ line 0 2 2 ∷ line 0 3 3 ∷ line 0 4 4 ∷ line 1 3 5 ∷ line 2 3 6 ∷ line 2 4 7 ∷ line 3 4 8 ∷ [])
    five_nodes

-- a shortcut, and two parallel edges, which are no shortcut
abbrev pub doubled_step : Graph ℕ ℕ
doubled_step = with_lines (line 0 1 1 ∷ line 0 2 2 ∷ line 1 2 3 ∷ line 1 2 4 ∷ line 2 3 5 ∷ []) four_nodes

-- two nodes, each with an edge to the other
abbrev pub round : Graph ℕ ℕ
round = with_lines (line 0 1 0 ∷ line 1 0 0 ∷ []) (with_nodes (0 ∷ 0 ∷ []) nothing)
