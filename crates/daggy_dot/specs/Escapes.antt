-- Text between quotes, as graphviz reads it.
use Rattle.std.specs.Prelude.{ℕ, ◌-◌, List, [], ◌∷◌, ◌++◌, if◌then◌else◌, ◌==◌, codes, chars, encode_utf8_all, Option, Some}
use Rattle.std.specs.Fmt.{◌++?◌}
use Rattle.std.specs.Option.{option_map}
use Rattle.daggy_formats.specs.Escapes.{is_forbidden}

-- what is written for a character: those that graphviz reads otherwise are escaped, and those that XML, and so an SVG,
-- does not allow are replaced
abbrev pub escaped_char : ℕ → List ℕ
escaped_char c =
    if c == 34 then codes "\\\"" else (if c == 92 then codes "\\\\" else
    (if c == 10 then codes "\\n" else (if c == 38 then codes "&amp;" else
    (if is_forbidden c then 65533 ∷ [] else c ∷ []))))

-- after how many characters a line is continued
abbrev pub line_length : ℕ
line_length = 3000

-- what is written for a character if the line still takes `left`: a backslash at its end continues a line
abbrev pub piece : ℕ → ℕ → List ℕ
piece left c = (if left == 0 then codes "\\\n" else []) ++ escaped_char c

-- how many characters the line takes after one more
abbrev pub next_left : ℕ → ℕ
next_left left = if left == 0 then line_length - 1 else left - 1

-- how many characters the line takes after some more
unfoldable pub left_after : ℕ → List ℕ → ℕ
left_after left [] = left
left_after left (c ∷ cs) = left_after (next_left left) cs

-- what is written for characters
unfoldable pub run : ℕ → List ℕ → List ℕ
run left [] = []
run left (c ∷ cs) = piece left c ++ run (next_left left) cs

-- what is written for a text
unfoldable pub quoted : List ℕ → List ℕ
quoted text = encode_utf8_all (run line_length (chars text))

-- the attribute for the text in o, or `None` if there is none
abbrev pub label_of : Option (List ℕ) → Option (List ℕ)
label_of o = Some (codes "label = \"") ++? (option_map quoted o ++? Some (codes "\" "))

-- the attribute of this name for the text in o
abbrev pub attribute_of : List ℕ → Option (List ℕ) → Option (List ℕ)
attribute_of name o = Some (name ++ codes " = \"") ++? (option_map quoted o ++? Some (codes "\" "))
