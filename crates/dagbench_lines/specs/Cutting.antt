-- Bytes cut at a separator: an input into its lines, a line into its words.
use Rattle.std.specs.Prelude.{ℕ, ◌==◌, ◌≢◌, Bool, true, false, List, [], ◌∷◌, if◌then◌else◌}
use Rattle.std.specs.List.{filter}

-- b in front of the first piece
abbrev pub with_first : ℕ → List (List ℕ) → List (List ℕ)
with_first b [] = (b ∷ []) ∷ []
with_first b (piece ∷ pieces) = (b ∷ piece) ∷ pieces

-- the pieces between separators; an empty rest after the last separator is not a piece
abbrev pub cut_at : (separator : ℕ) → List ℕ → List (List ℕ)
cut_at separator [] = []
cut_at separator (b ∷ bytes) =
    if b == separator then [] ∷ cut_at separator bytes else with_first b (cut_at separator bytes)

-- b in front of the first piece, if there is one
abbrev pub with_first_if_any : ℕ → List (List ℕ) → List (List ℕ)
with_first_if_any b [] = []
with_first_if_any b (piece ∷ pieces) = (b ∷ piece) ∷ pieces

-- the pieces that are followed by a separator
abbrev pub ended_at : (separator : ℕ) → List ℕ → List (List ℕ)
ended_at separator [] = []
ended_at separator (b ∷ bytes) =
    if b == separator then [] ∷ ended_at separator bytes else with_first_if_any b (ended_at separator bytes)

-- no byte is the separator
abbrev pub Lacks : (separator : ℕ) → List ℕ → Type 0
Lacks separator [] = Unit {0}
Lacks separator (b ∷ bytes) = (b ≢ separator) × Lacks separator bytes

-- the byte that ends a line
abbrev pub newline : ℕ
newline = 10

-- the most bytes kept of an unfinished line
abbrev pub kept_count : ℕ
kept_count = 4097

-- the byte between words
abbrev pub space : ℕ
space = 32

-- the lines of an input
abbrev pub lines_of : List ℕ → List (List ℕ)
lines_of input = cut_at newline input

-- the lines of an input that end with a newline
abbrev pub ended_lines_of : List ℕ → List (List ℕ)
ended_lines_of input = ended_at newline input

-- whether a piece of a line is a word, that is, not empty
abbrev pub is_word : List ℕ → Bool
is_word [] = false
is_word (b ∷ bytes) = true

-- the words of a line, separated by one or more spaces
abbrev pub words_of : List ℕ → List (List ℕ)
words_of line = filter is_word (cut_at space line)
