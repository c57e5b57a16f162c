use Rattle.std.proofs.Common.{◌≡◌, [], ◌++◌, refl, rules}
use Rattle.daggy_json.proofs.PassedTokens.{puts_then, flush_puts, block_puts, send_puts}
use Rattle.daggy_json.proofs.text.TextWriter.put_beyond.Goals as goal

pub returns-then-not-extend_from_slice : goal.returns-then-not-extend_from_slice
returns-then-not-extend_from_slice g c =
    let f = c.flush.ensures in
    let kept : c.extend_from_slice.new.self ≡ [] = search rules in
    puts_then (flush_puts f.stays f.place f.nothing f.sends)
    (send_puts c.args.bytes.now refl refl f.nothing kept c.pass_on.ensures)

pub returns-else-not-extend_from_slice : goal.returns-else-not-extend_from_slice
returns-else-not-extend_from_slice g c =
    let f = c.flush.ensures in
    let more : c.extend_from_slice.new.self ≡ c.flush.new.self.block ++ c.args.bytes.now = search rules in
    puts_then (flush_puts f.stays f.place f.nothing f.sends) (block_puts c.args.bytes.now refl refl refl more)
