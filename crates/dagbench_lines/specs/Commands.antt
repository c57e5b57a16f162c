-- What lines ask for.
use Rattle.std.specs.Prelude.{ℕ, nat_lt, Option, Some, None, List, [], ◌∷◌, length, codes, ℤ, if◌then◌else◌}
use Rattle.std.specs.Option.{option_map}
use Rattle.std.specs.Str.{bytes_eq}
use Rattle.daggy_base.specs.Requests.{Request, Node, Edge, Update, Child, Parent, Edges, Find, Ends, RemoveNode}
use Rattle.daggy_base.specs.Requests.{RemoveEdge}
use Rattle.daggy_base.specs.Requests.{Children, Parents, ClearEdges, Clear, Reduce}
use Rattle.dagbench_lines.specs.Cutting.{words_of}
use Rattle.dagbench_lines.specs.Listing.{◌>>=◌, first_by, edges_by_words, indices_by_words}
use Rattle.dagbench_lines.specs.Numbers.{index_of, weight_of}

-- x, if no word is left
abbrev pub if_done : {A : Type 0} → List (List ℕ) → A → Option A
if_done [] x = Some x
if_done (word ∷ words) x = None

-- the weight that is the only argument of a command
unfoldable pub weight_alone : List (List ℕ) → Option ℤ
weight_alone words = do
  weight ← first_by weight_of words
  if_done weight.1 weight.0

-- the index that is the only argument
unfoldable pub index_alone : List (List ℕ) → Option ℕ
index_alone words = do
  index ← first_by index_of words
  if_done index.1 index.0

-- two indices, with nothing after them
unfoldable pub two_indices : List (List ℕ) → Option (ℕ × ℕ)
two_indices words = do
  first ← first_by index_of words
  second ← first_by index_of first.1
  if_done second.1 (first.0, second.0)

-- the parent, the child and the weight of an edge, with nothing after them
unfoldable pub ends_and_weight : List (List ℕ) → Option (ℕ × ℕ × ℤ)
ends_and_weight words = do
  parent ← first_by index_of words
  child ← first_by index_of parent.1
  weight ← first_by weight_of child.1
  if_done weight.1 (parent.0, child.0, weight.0)

-- an index and two weights, that of an edge and that of a node, with nothing after them
unfoldable pub index_and_weights : List (List ℕ) → Option (ℕ × ℤ × ℤ)
index_and_weights words = do
  index ← first_by index_of words
  edge ← first_by weight_of index.1
  node ← first_by weight_of edge.1
  if_done node.1 (index.0, edge.0, node.0)

-- the commands with a list, by name and arguments
unfoldable pub listing_by_name : (name : List ℕ) → List (List ℕ) → Option (Request ℤ ℤ)
listing_by_name name words =
    if bytes_eq name (codes "edges") then option_map (λ edges. Edges edges) (edges_by_words words)
    else if bytes_eq name (codes "reduce") then option_map (λ roots. Reduce roots) (indices_by_words words)
    else None

-- the commands without a list, by name and arguments
unfoldable pub single_by_name : (name : List ℕ) → List (List ℕ) → Option (Request ℤ ℤ)
single_by_name name words =
    if bytes_eq name (codes "node") then option_map (λ weight. Node weight) (weight_alone words)
    else if bytes_eq name (codes "edge") then option_map (λ x. Edge x) (ends_and_weight words)
    else if bytes_eq name (codes "update") then option_map (λ x. Update x) (ends_and_weight words)
    else if bytes_eq name (codes "child") then option_map (λ x. Child x.0 x.1 x.2) (index_and_weights words)
    else if bytes_eq name (codes "parent") then option_map (λ x. Parent x.0 x.1 x.2) (index_and_weights words)
    else if bytes_eq name (codes "rmnode") then option_map (λ n. RemoveNode n) (index_alone words)
    else if bytes_eq name (codes "rmedge") then option_map (λ e. RemoveEdge e) (index_alone words)
    else if bytes_eq name (codes "clearedges") then if_done words ClearEdges
    else if bytes_eq name (codes "clear") then if_done words Clear
    else if bytes_eq name (codes "find") then option_map (λ x. Find x.0 x.1) (two_indices words)
    else if bytes_eq name (codes "ends") then option_map (λ e. Ends e) (index_alone words)
    else if bytes_eq name (codes "children") then option_map (λ n. Children n) (index_alone words)
    else if bytes_eq name (codes "parents") then option_map (λ n. Parents n) (index_alone words)
    else None

-- the first of two values, or the second if there is no first
abbrev pub or_else : {A : Type 0} → Option A → Option A → Option A
or_else None other = other
or_else (Some x) other = Some x

-- what a line may ask for: a step of the graph, or the document of the graph
pub data LineRequest : Type 0 where
  Step : Request ℤ ℤ → LineRequest
  Document : LineRequest

-- the document, if the line is the word `json` alone
abbrev pub document_by_name : (name : List ℕ) → List (List ℕ) → Option LineRequest
document_by_name name words = if bytes_eq name (codes "json") then if_done words Document else None

-- a line is a name and its arguments
abbrev pub asked_by_words : List (List ℕ) → Option LineRequest
asked_by_words [] = None
asked_by_words (name ∷ words) =
    or_else (option_map (λ request. Step request) (or_else (single_by_name name words) (listing_by_name name words)))
    (document_by_name name words)

-- what a line asks for: nothing if it has more than 4,096 bytes
unfoldable pub asked_in : List ℕ → Option LineRequest
asked_in line = if nat_lt 4096 (length line) then None else asked_by_words (words_of line)

-- the requests that need memory of their own: a step with a list, and the document
abbrev pub TakesRoom : LineRequest → Type 0
TakesRoom (Step (Edges edges)) = Unit {0}
TakesRoom (Step (Reduce roots)) = Unit {0}
TakesRoom Document = Unit {0}
TakesRoom other = ⊥
