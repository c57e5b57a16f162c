-- The rows that are left, from one to the next.
use Rattle.std.proofs.Common.{◌≡◌, ℕ, ◌+◌, ◌<◌, true, List, [], ◌∷◌, length, Option, Some, None, Result, Ok, Err, refl, sym, ap, subst, ◌∙◌, inl}
use Rattle.std.specs.Borrow.{Bor}
use Rattle.csv.proofs.ReadFacts.{rows-end, rows-more}
use Rattle.csv.specs.Machine.{Read, next_record, ends_at_end}
use Rattle.csv.specs.Reading.{Ready, HeaderNext, HeaderTextStep, TextStep, FailStep, FlexibleStep, NextIs, Reached, ReadsNext, default_config, reader_trim, records_from}
use Rattle.csv.specs.Records.{AllText, fields_of, Row as Record}
use Rattle.csv.specs.declared.error.Error.{Error}
use Rattle.csv.specs.declared.error.ErrorKind.TheVariants as kind
use Rattle.csv.specs.declared.error.Utf8Error.{Utf8Error}
use Rattle.csv.specs.declared.record.Position.{Position}
use Rattle.csv.specs.declared.iter.StringRecordsIntoIter.{StringRecordsIntoIter}
use Rattle.csv.specs.declared.parser.Config.{Config}
use Rattle.csv.specs.declared.parser.State.{State}
use Rattle.csv.specs.declared.reader.Trim.TheVariants as trim
use Rattle.daggy_tables.proofs.TextRead.{row_left, none_left}
use Rattle.daggy_tables.specs.Left.{RowsLeft, NextRow, TellsText}
use Rattle.daggy_tables.specs.declared.rows.Unread.{Unread}
use Rattle.daggy_tables.specs.declared.rows.Unread.TheVariants.{Memory, NotText}
use Rattle.daggy_tables.specs.Rows.{Row}

-- the iterator of records of a slice
abbrev pub Records : Type 0
Records = StringRecordsIntoIter (Bor (List ℕ))

abbrev known : Bor (List ℕ) → Option (List ℕ)
known s = Some s.now

-- what its `next` says
abbrev pub Stepped : Records → Option (Result Record Error) → Records → Type 0
Stepped a r b = (0 < a.left) → (reader_trim a.rdr ≡ trim.None)
    → (Ready a.rdr → TextStep known a.rdr b.rdr b.left r) × (HeaderNext a.rdr → HeaderTextStep known a.rdr b.rdr b.left r)
    × FailStep a.rdr b.rdr b.left r × FlexibleStep a.rdr b.rdr r

-- the rows from a record on, in other words
in_words : (f g : Row) (s t : State) (x y : List ℕ) → f ≡ g → s ≡ t → x ≡ y
    → g ∷ records_from default_config (length x + 1) s x ≡ f ∷ records_from default_config (length y + 1) t y
in_words f g s t x y same state bytes =
    ap (λ (h : Row). h ∷ records_from default_config (length x + 1) s x) (sym same)
    ∙ ap (λ q. f ∷ records_from default_config (length x + 1) q x) state
    ∙ ap (λ z. f ∷ records_from default_config (length z + 1) t z) bytes

-- the record that a read took
took : (cfg : Config) (s s2 : State) (xs : List ℕ) (after : Option (List ℕ)) (fields : Row)
    → ReadsNext cfg s (Some xs) after true fields s2
    → (p : Read) × (next_record cfg s [] [] xs ≡ Some p) × (fields ≡ p.0)
took cfg s s2 xs None fields read = absurd read
took cfg s s2 xs (Some ys) fields read = by (next_record cfg s [] [] xs) refl read
  where
    by : (o : Option Read) → next_record cfg s [] [] xs ≡ o → NextIs o true fields s2 ys
        → (p : Read) × (next_record cfg s [] [] xs ≡ Some p) × (fields ≡ p.0)
    by None e is = cc is
    by (Some p) e is = (p, e, is.1)

module _ (a b : Records) (rows : List Row) (left : RowsLeft a rows) where
  pub ended : Stepped a None b → rows ≡ []
  ended step =
      let read = (step left.turns left.trim).0 left.ready in
      let none = rows-end known a.rdr b.rdr [] default_config left.bytes left.config left.source read in
      sym left.unread ∙ none_left a.rdr.state left.bytes none

  pub went_on : (row : Record) → Stepped a (Some (Ok row)) b
      → (rest : List Row) × (rows ≡ fields_of row ∷ rest) × AllText (fields_of row) × RowsLeft b rest
  unfolding Reached
  went_on row step =
      let all = step left.turns left.trim in
      let read = all.0 left.ready in
      let more = rows-more known a.rdr b.rdr (fields_of row) default_config a.rdr.state left.bytes left.bytes [] left.config left.source (refl, refl) read.0 in
      let (z, source, reached) = more in
      let (p, next, fields, end) = reached in
      let after = row_left a.rdr.state left.bytes p left.between next in (
        records_from default_config (length z + 1) b.rdr.state z,
        sym left.unread ∙ after.1 ∙ in_words (fields_of row) p.0 p.1 b.rdr.state p.2 z fields end.0 end.1,
        read.2,
        record {
          trim = read.0.3 ∙ left.trim;
          ready = inl read.1;
          turns = read.3;
          config = read.0.2 ∙ left.config;
          flexible = all.3 ∙ left.flexible;
          bytes = z;
          source = source;
          between = ap ends_at_end (sym end.0) ∙ after.0;
          unread = refl;
        },
      )

  pub no_text : (e : Error) (pos : Option Position) (err : Utf8Error) → e.kind ≡ kind.Utf8 pos err → Stepped a (Some (Err e)) b
      → (row : Row) × (rest : List Row) × (rows ≡ row ∷ rest) × ¬ (AllText row)
  no_text e pos err is step =
      let why = rw is at (step left.turns left.trim).0 left.ready in
      let (text, fields, read, bad) = why in
      let (p, next, same) = took default_config a.rdr.state b.rdr.state left.bytes _ fields (rw (left.config, left.source) at read) in
      let after = row_left a.rdr.state left.bytes p left.between next in (
        fields,
        records_from default_config (length p.2 + 1) p.1 p.2,
        sym left.unread ∙ after.1 ∙ ap (λ (h : Row). h ∷ records_from default_config (length p.2 + 1) p.1 p.2) (sym same),
        bad,
      )

  pub not_given : (e : Error) (u : Unread) → TellsText e u → Stepped a (Some (Err e)) b → NextRow rows (Some (Err u)) (RowsLeft b)
  not_given e Memory tells step = tt
  not_given e (NotText line) tells step = no_text e tells.0 tells.1 tells.2 step

  -- the same, of a result that is one of these
  pub as_ended : (r : Option (Result Record Error)) → r ≡ None → Stepped a r b → rows ≡ []
  as_ended r is step = ended (subst (λ o. Stepped a o b) is step)

  pub as_went_on : (r : Option (Result Record Error)) (f : Result Record Error) (row : Record) → r ≡ Some f → f ≡ Ok row → Stepped a r b
      → (rest : List Row) × (rows ≡ fields_of row ∷ rest) × AllText (fields_of row) × RowsLeft b rest
  as_went_on r f row is ok step = went_on row (subst (λ o. Stepped a o b) (is ∙ ap (λ (x : Result Record Error). Some x) ok) step)

  pub as_not_given : (r : Option (Result Record Error)) (f : Result Record Error) (e : Error) (u : Unread) → r ≡ Some f → f ≡ Err e
      → TellsText e u → Stepped a r b → NextRow rows (Some (Err u)) (RowsLeft b)
  as_not_given r f e u is err tells step =
      not_given e u tells (subst (λ o. Stepped a o b) (is ∙ ap (λ (x : Result Record Error). Some x) err) step)
