-- Text whose characters are escaped, each format in its way.
use Rattle.std.specs.Prelude.{ℕ, List, [], ◌∷◌, if◌then◌else◌, Bool, ◌==◌, nat_le, ◌&&◌, ◌||◌, codes, chars, encode_utf8_all}
use Rattle.std.specs.List.{flat_map}

-- a text with each character as `char` writes it
unfoldable pub escaped : (ℕ → List ℕ) → List ℕ → List ℕ
escaped char text = encode_utf8_all (flat_map char (chars text))

-- a character between quotes of Mermaid
abbrev pub mermaid_char : ℕ → List ℕ
mermaid_char c =
    if c == 34 then codes "#quot;" else (if c == 35 then codes "#35;" else
    (if c == 10 then codes "<br>" else (if c == 38 then codes "&amp;" else (if c == 60 then codes "&lt;" else c ∷ []))))

-- a character between quotes of a table of comma-separated values
abbrev pub csv_char : ℕ → List ℕ
csv_char c = if c == 34 then codes "\"\"" else c ∷ []

-- a character that XML does not allow: a control character other than a tab, a newline and a carriage return, or one of two
-- that are no characters
abbrev pub is_forbidden : ℕ → Bool
is_forbidden c = nat_le c 8 || (c == 11 || (c == 12 || ((nat_le 14 c && nat_le c 31) || (c == 65534 || c == 65535))))

-- a character between tags of XML: one that XML does not allow is replaced
abbrev pub xml_char : ℕ → List ℕ
xml_char c =
    if c == 38 then codes "&amp;" else (if c == 60 then codes "&lt;" else
    (if c == 62 then codes "&gt;" else (if c == 13 then codes "&#13;" else
    (if is_forbidden c then 65533 ∷ [] else c ∷ []))))
