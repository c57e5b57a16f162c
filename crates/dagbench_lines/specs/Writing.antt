-- What a writer passes to its sink.
use Rattle.std.specs.Prelude.{◌≡◌, ℕ, List, [], ◌∷◌, ◌++◌, Result, OnOk}
use Rattle.dagbench_lines.specs.Cutting.{newline}
use Rattle.dagbench_lines.specs.Streams.{CountsFaults, Appends}
use Rattle.dagbench_lines.specs.declared.writer.Writer.{Writer}

-- the sink of a writer
abbrev pub sink_of : {K : Type 0} → Writer K → K
sink_of w = w.sink.now

-- what was written: the bytes that the sink has taken, and the pending bytes
abbrev pub written : {K : Type 0} → (taken : K → List ℕ) → Writer K → List ℕ
written taken w = taken (sink_of w) ++ w.pending.now.items

-- both borrow the sink by the same reference
abbrev pub IsSameSink : {K : Type 0} → (old new : Writer K) → Type 0
IsSameSink old new = new.sink.ghost_name ≡ old.sink.ghost_name

-- the sink is the same, and its failures are counted
abbrev pub KeepsSink : {A E K : Type 0} → (failures : K → ℕ) → Result A E → (old new : Writer K) → Type 0
KeepsSink failures r old new = CountsFaults r (failures (sink_of old)) (failures (sink_of new)) × IsSameSink old new

-- if the call is `Ok`, this text was written
abbrev pub Writes : {A E K : Type 0} → (taken : K → List ℕ) → (failures : K → ℕ)
    → Result A E → (old new : Writer K) → (text : List ℕ) → Type 0
Writes taken failures r old new text =
    Appends r (written taken old) (written taken new) text × KeepsSink failures r old new

-- if the call is `Ok`, the sink has taken all that was written, and nothing is pending
abbrev pub Flushes : {A E K : Type 0} → (taken : K → List ℕ) → (failures : K → ℕ)
    → Result A E → (old new : Writer K) → Type 0
Flushes taken failures r old new =
    OnOk r ((taken (sink_of new) ≡ written taken old) × (new.pending.now.items ≡ []))
    × KeepsSink failures r old new

-- if the call is `Ok`, such a text was written
abbrev pub WritesSome : {A E K : Type 0} → (taken : K → List ℕ) → (failures : K → ℕ)
    → Result A E → (old new : Writer K) → (IsText : List ℕ → Type 0) → Type 0
WritesSome taken failures r old new IsText =
    OnOk r ((text : List ℕ) × IsText text × (written taken new ≡ written taken old ++ text))
    × KeepsSink failures r old new

-- if the call is `Ok`, such a text was written, and its newline
abbrev pub WritesLine : {A E K : Type 0} → (taken : K → List ℕ) → (failures : K → ℕ)
    → Result A E → (old new : Writer K) → (IsText : List ℕ → Type 0) → Type 0
WritesLine taken failures r old new IsText =
    OnOk r ((text : List ℕ) × IsText text × (written taken new ≡ written taken old ++ (text ++ newline ∷ [])))
    × KeepsSink failures r old new
