use Rattle.std.proofs.Common.{◌≡◌, [], ◌∷◌, rules, subst}
use Rattle.json.specs.Print.{escape_byte}
use Rattle.daggy_json.specs.Passing.{Puts}
use Rattle.daggy_json.proofs.text.TextWriter.put_escaped.Goals as goal

pub returns-then-letter-gt0 : goal.returns-then-letter-gt0
unfolding escape_byte
returns-then-letter-gt0 g c =
    let is : 92 ∷ c.escape_letter-letter.result ∷ [] ≡ escape_byte c.args.byte = search rules in
    subst (λ l. Puts g.W.Write.contents c.args.self.now c.put.new.self l) is c.put.ensures

pub returns-then-byte-lt32 : goal.returns-then-byte-lt32
unfolding escape_byte
returns-then-byte-lt32 g c =
    let is : 92 ∷ 117 ∷ 48 ∷ 48 ∷ c.hex_digit-high.result ∷ c.hex_digit-low.result ∷ [] ≡ escape_byte c.args.byte = search rules in
    subst (λ l. Puts g.W.Write.contents c.args.self.now c.put-then-byte-lt32.new.self l) is c.put-then-byte-lt32.ensures

pub returns-else-byte-lt32 : goal.returns-else-byte-lt32
unfolding escape_byte
returns-else-byte-lt32 g c =
    let is : c.args.byte ∷ [] ≡ escape_byte c.args.byte = search rules in
    subst (λ l. Puts g.W.Write.contents c.args.self.now c.put_byte.new.self l) is c.put_byte.ensures
