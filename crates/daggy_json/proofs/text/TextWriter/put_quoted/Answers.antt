use Rattle.std.proofs.Common.{◌≡◌, ℕ, ◌+◌, ◌<◌, List, [], ◌∷◌, ◌++◌, length, drop, get_or, refl, sym, ap, subst, ◌∙◌, arith, append_assoc}
use Rattle.std.proofs.Common.{append-nil}
use Rattle.json.specs.Print.{escape, escape_byte}
use Rattle.json.proofs.Printed.Strings.{escape_at, escape_end}
use Rattle.daggy_json.specs.Passing.{Puts}
use Rattle.daggy_json.proofs.PassedTokens.{puts_none, puts_then}
use Rattle.daggy_json.proofs.text.TextWriter.put_quoted.Goals as goal

escaped_more : (done text : List ℕ) (i : ℕ) → i < length text
    → done ++ (escape (drop i text) ++ 34 ∷ []) ≡ escape text ++ 34 ∷ []
    → (done ++ escape_byte (get_or text i 0)) ++ (escape (drop (i + 1) text) ++ 34 ∷ []) ≡ escape text ++ 34 ∷ []
escaped_more done text i low so_far =
    append_assoc done (escape_byte (get_or text i 0)) _
    ∙ (ap (λ l. done ++ l) (sym (escape_at text i (34 ∷ []) low)) ∙ so_far)

pub loop-byte-init : goal.loop-byte-init
loop-byte-init g c = ([], puts_none _, refl)

pub loop-byte-preserved : goal.loop-byte-preserved
loop-byte-preserved g c =
    let i = c.loop-byte.invariant in (
      _,
      puts_then i.1 c.put_escaped.ensures,
      escaped_more i.0 c.as_bytes-byte-items.result.now c.loop-byte.byte-index (omega arith) i.2,
    )

pub returns : goal.returns
returns g c =
    let i = c.loop-byte.invariant in
    let text = c.as_bytes-byte-items.result.now in
    let whole : i.0 ++ 34 ∷ [] ≡ escape text ++ 34 ∷ [] =
    ap (λ l. i.0 ++ l) (sym (append-nil (34 ∷ [])) ∙ sym (escape_end text c.loop-byte.byte-index (34 ∷ []) (omega arith))) ∙ i.2 in
    let same : text ≡ c.args.text.now = c.as_bytes-byte-items.ensures.value in
    subst (λ l. Puts g.W.Write.contents c.args.self.now c.put_byte-2.new.self l)
    (ap (λ l. 34 ∷ l) (whole ∙ ap (λ t. escape t ++ 34 ∷ []) same)) (puts_then c.put_byte.ensures (puts_then i.1 c.put_byte-2.ensures))
