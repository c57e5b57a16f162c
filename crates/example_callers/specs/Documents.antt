-- Texts that are written and read.
use Rattle.std.specs.Prelude.{◌≡◌, String, string_bytes}
use Rattle.std.specs.declared.alloc.Global.{Global}

-- the second text has the bytes of the first
abbrev pub HasSameText : String Global → String Global → Type 0
HasSameText a b = string_bytes b ≡ string_bytes a
