-- The texts of answers, without the newline, and of plans.
use Rattle.std.specs.Prelude.{ℕ, Option, Some, None, List, [], ◌∷◌, ◌++◌, codes, decimal, ℤ}
use Rattle.std.specs.List.{flat_map}
use Rattle.std.specs.Fmt.{signed_decimal}
use Rattle.daggy_base.specs.Answers.{Weights, OfEdges, Answer, Node, Edge, EdgeNode, Edges, Found, Ends, NodeGone}
use Rattle.daggy_base.specs.Answers.{EdgeGone}
use Rattle.daggy_base.specs.Answers.{Walk, Done, Missing, Full, Cycle, CycleAll, Memory}
use Rattle.dagbench_lines.specs.Cutting.{newline}

-- the text of an index of a node
abbrev pub node_text : ℕ → List ℕ
node_text n = codes "n" ++ decimal n

-- the text of an index of an edge
abbrev pub edge_text : ℕ → List ℕ
edge_text e = codes "e" ++ decimal e

-- the text of the endpoints of an edge
abbrev pub ends_text : ℕ × ℕ → List ℕ
ends_text ends = node_text ends.0 ++ codes " " ++ node_text ends.1

-- the text of an edge and the node at its other end
abbrev pub item_text : ℕ × ℕ → List ℕ
item_text item = edge_text item.0 ++ codes ":" ++ decimal item.1

-- the text of the weight of what was removed
abbrev pub weight_text : ℤ → List ℕ
weight_text weight = codes "weight " ++ signed_decimal weight

-- the texts of some values, each after a space
abbrev pub spaced : {A : Type 0} → (text : A → List ℕ) → List A → List ℕ
spaced text xs = flat_map (λ x. codes " " ++ text x) xs

-- the texts of some values, separated by spaces, or a dash if there are none
abbrev pub parted : {A : Type 0} → (text : A → List ℕ) → List A → List ℕ
parted text [] = codes "-"
parted text (x ∷ xs) = text x ++ spaced text xs

-- the text of a value, or `none`
abbrev pub if_any : {A : Type 0} → (text : A → List ℕ) → Option A → List ℕ
if_any text None = codes "none"
if_any text (Some x) = text x

-- the returned weights of a list of edges; other returned weights are not written
abbrev pub back_text : Weights ℤ ℤ → List ℕ
back_text (OfEdges last before) = spaced signed_decimal (last ∷ before)
back_text other = []

-- the text of an answer; an answer that returns weights has them last
abbrev pub text_of : Answer ℤ ℤ → List ℕ
text_of (Node n) = node_text n
text_of (Edge e) = edge_text e
text_of (EdgeNode e n) = edge_text e ++ codes " " ++ node_text n
text_of (Edges es) = parted edge_text es
text_of (Found e) = if_any edge_text e
text_of (Ends ends) = if_any ends_text ends
text_of (NodeGone weight) = if_any weight_text weight
text_of (EdgeGone weight) = if_any weight_text weight
text_of (Walk items) = parted item_text items
text_of Done = codes "ok"
text_of (Missing weights) = codes "missing" ++ back_text weights
text_of (Full weights) = codes "full" ++ back_text weights
text_of (Cycle weight) = codes "cycle" ++ spaced signed_decimal (weight ∷ [])
text_of (CycleAll weights) = codes "cycle" ++ spaced signed_decimal weights
text_of (Memory weights) = codes "memory" ++ back_text weights

-- the stages of a plan, each in a line with its nodes
abbrev pub stages_text : {A : Type 0} → (nodes : A → List ℕ) → (stages : List A) → List ℕ
stages_text nodes stages = flat_map (λ stage. (codes "stage" ++ spaced node_text (nodes stage)) ++ newline ∷ []) stages

-- a plan in lines: its stages, and then the chain
abbrev pub plan_text : {A : Type 0} → (nodes : A → List ℕ) → (stages : List A) (chain : List ℕ) → List ℕ
plan_text nodes stages chain =
    stages_text nodes stages ++ (codes "chain " ++ parted node_text chain ++ newline ∷ [])
