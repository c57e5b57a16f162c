-- The rows that are left of a text.
use Rattle.std.specs.Prelude.{◌≡◌, ℕ, ◌+◌, ◌<◌, true, false, Option, Some, None, Result, Ok, Err, List, [], ◌∷◌, length}
use Rattle.std.specs.Borrow.{Bor}
use Rattle.csv.specs.Machine.{ends_at_end}
use Rattle.csv.specs.Reading.{error_kind, Ready, default_config, source_of, records_from}
use Rattle.csv.specs.Records.{AllText, fields_of, Row as Record}
use Rattle.csv.specs.declared.error.Error.{Error}
use Rattle.csv.specs.declared.error.ErrorKind.TheVariants as kind
use Rattle.csv.specs.declared.error.Utf8Error.{Utf8Error}
use Rattle.csv.specs.declared.record.Position.{Position}
use Rattle.csv.specs.declared.iter.StringRecordsIntoIter.{StringRecordsIntoIter}
use Rattle.csv.specs.declared.reader.Trim.TheVariants as trim
use Rattle.daggy_tables.specs.declared.rows.Unread.{Unread}
use Rattle.daggy_tables.specs.declared.rows.Unread.TheVariants.{Memory, NotText}
use Rattle.daggy_tables.specs.Rows.{Row}

-- what is left of a text has these rows
pub record RowsLeft (it : StringRecordsIntoIter (Bor (List ℕ))) (rows : List Row) : Type 0 where
  pub trim : it.rdr.trim ≡ trim.None
  pub ready : Ready it.rdr
  pub turns : 0 < it.left
  pub config : it.rdr.config ≡ default_config
  pub flexible : it.rdr.flexible ≡ true
  pub bytes : List ℕ
  pub source : source_of (λ s. Some s.now) it.rdr ≡ Some bytes
  pub between : ends_at_end it.rdr.state ≡ false
  pub unread : records_from default_config (length bytes + 1) it.rdr.state bytes ≡ rows

-- what the next row of these is, and what is left after it
abbrev pub NextRow : List Row → Option (Result Record Unread) → (List Row → Type 0) → Type 0
NextRow rows None left = rows ≡ []
NextRow rows (Some (Ok row)) left = (rest : List Row) × (rows ≡ fields_of row ∷ rest) × AllText (fields_of row) × left rest
NextRow rows (Some (Err Memory)) left = Unit {0}
NextRow rows (Some (Err (NotText line))) left = (row : Row) × (rest : List Row) × (rows ≡ row ∷ rest) × ¬ (AllText row)

-- only the error of a record that is not text is told as that
abbrev pub TellsText : Error → Unread → Type 0
TellsText e Memory = Unit {0}
TellsText e (NotText line) = (pos : Option Position) × (err : Utf8Error) × (error_kind e ≡ kind.Utf8 pos err)
