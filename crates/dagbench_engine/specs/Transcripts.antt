-- The answers to lines, and the graphs after them.
use Rattle.std.specs.Prelude.{◌≡◌, ℕ, ◌⊎◌, List, [], ◌∷◌, ◌++◌, MatchOption, codes, ℤ}
use Rattle.daggy.specs.Graph.{Graph}
use Rattle.daggy_base.specs.declared.kind.Kind.{Kind}
use Rattle.daggy.specs.Answers.{Answer}
use Rattle.daggy.specs.Steps.{IsStep}
use Rattle.dagbench_lines.specs.Commands.{LineRequest, Step, Document, asked_in, TakesRoom}
use Rattle.dagbench_lines.specs.Cutting.{newline}
use Rattle.dagbench_engine.specs.Documents.{IsDocumentText}
use Rattle.dagbench_lines.specs.Replies.{text_of}

-- the most nodes that there can be, and the most edges
abbrev pub index_count : ℕ
index_count = 4294967295

-- the text of a step from one graph to the next, or of the document of an unchanged graph
abbrev pub IsCarriedOut : Kind → Graph ℤ ℤ → LineRequest → (text : List ℕ) → Graph ℤ ℤ → Type 0
IsCarriedOut kind old (Step request) text new =
    (answer : Answer ℤ ℤ) × IsStep kind index_count old request answer new × (text ≡ text_of answer)
IsCarriedOut kind old Document text new = IsDocumentText old text × (new ≡ old)

-- the request is carried out; or memory for it ran out, and the graph is unchanged
abbrev pub IsAnswered : Kind → Graph ℤ ℤ → LineRequest → (text : List ℕ) → Graph ℤ ℤ → Type 0
IsAnswered kind old asked text new =
    IsCarriedOut kind old asked text new ⊎ (TakesRoom asked × (text ≡ codes "memory") × (new ≡ old))

-- a possible answer to a line: `bad line` if it asks for nothing
abbrev pub IsAnswer : Kind → Graph ℤ ℤ → (line text : List ℕ) → Graph ℤ ℤ → Type 0
IsAnswer kind old line text new = MatchOption (asked_in line)
    ((text ≡ codes "bad line") × (new ≡ old))
    (λ asked. IsAnswered kind old asked text new)

-- the answers to lines, one after another, each with a newline after it
abbrev pub IsTranscript : Kind → Graph ℤ ℤ → List (List ℕ) → (text : List ℕ) → Graph ℤ ℤ → Type 0
IsTranscript kind old [] text new = (text ≡ []) × (new ≡ old)
IsTranscript kind old (line ∷ lines) text new =
    (answer rest : List ℕ) × (mid : Graph ℤ ℤ) × IsAnswer kind old line answer mid
    × (text ≡ (answer ++ newline ∷ []) ++ rest) × IsTranscript kind mid lines rest new
