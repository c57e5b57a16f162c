-- A whole run: what it reads and writes.
use Rattle.std.specs.Prelude.{◌≡◌, Bool, List, ℕ, ◌++◌, ℤ}
use Rattle.daggy.specs.Graph.{Graph, empty}
use Rattle.daggy_base.specs.declared.kind.Kind.{Kind}
use Rattle.dagbench_engine.specs.Transcripts.{IsTranscript}
use Rattle.dagbench_engine.specs.Plans.{IsTrailer}

-- The source gave an input, and the sink took the answers to its lines, from the empty graph of that kind on, and then
-- a plan of the final graph if `plans`.
pub record Serves (kind : Kind) (plans : Bool) (lines_in : List ℕ → List (List ℕ))
    (given_old given_new taken_old taken_new : List ℕ) : Type 0 where
  pub input : List ℕ
  pub output : List ℕ
  pub graph : Graph ℤ ℤ
  pub trailer : List ℕ
  pub given : given_new ≡ given_old ++ input
  pub taken : taken_new ≡ taken_old ++ (output ++ trailer)
  pub answers : IsTranscript kind empty (lines_in input) output graph
  pub is_trailer : IsTrailer plans graph trailer
