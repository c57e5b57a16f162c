-- The state of a run: what was given, what was written, and what is kept of an unfinished line.
use Rattle.std.specs.Prelude.{◌≡◌, ℕ, List, [], ◌∷◌, ◌++◌, take, ℤ}
use Rattle.std.specs.List.{flat_map, AllByRecursion}
use Rattle.daggy.specs.Graph.{Graph, empty}
use Rattle.daggy_base.specs.declared.kind.Kind.{Kind}
use Rattle.dagbench_lines.specs.Cutting.{newline, Lacks, lines_of, kept_count}
use Rattle.dagbench_engine.specs.Transcripts.{IsTranscript}

-- a line with its newline
abbrev pub ended : List ℕ → List ℕ
ended line = line ++ newline ∷ []

-- The bytes given so far are whole lines and the front of one more. The whole lines are answered. Of the front, the
-- first `kept_count` bytes are kept.
pub record IsServed (kind : Kind) (given_old given written_old written : List ℕ) (graph : Graph ℤ ℤ)
    (kept : List ℕ) : Type 0 where
  pub lines : List (List ℕ)
  pub front : List ℕ
  pub text : List ℕ
  pub given_is : given ≡ given_old ++ (flat_map ended lines ++ front)
  pub written_is : written ≡ written_old ++ text
  pub answers : IsTranscript kind empty lines text graph
  pub whole : AllByRecursion (Lacks newline) lines
  pub unended : Lacks newline front
  pub kept_is : kept ≡ take kept_count front

-- whatever was served before, `given_more` is served now
abbrev pub GoesOn : Kind
    → (given_more written_old written_new : List ℕ) (graph_old graph_new : Graph ℤ ℤ) (kept_old kept_new : List ℕ)
    → Type 0
GoesOn kind given_more written_old written_new graph_old graph_new kept_old kept_new =
    (given_start given written_start : List ℕ)
    → IsServed kind given_start given written_start written_old graph_old kept_old
    → IsServed kind given_start (given ++ given_more) written_start written_new graph_new kept_new

-- all lines given are answered, also a last line without a newline
pub record IsDone (kind : Kind) (given_old given written_old written : List ℕ) (graph : Graph ℤ ℤ) : Type 0 where
  pub input : List ℕ
  pub text : List ℕ
  pub given_is : given ≡ given_old ++ input
  pub written_is : written ≡ written_old ++ text
  pub answers : IsTranscript kind empty (lines_of input) text graph
