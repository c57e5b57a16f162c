use Rattle.std.proofs.Common.{decimal, refl, arith}
use Rattle.json.specs.Token.{number}
use Rattle.json.proofs.Printed.Decimals.{IsNumber-decimal}
use Rattle.daggy_json.proofs.PassedTokens.{token_passes_at_once}
use Rattle.daggy_json.proofs.ValueTokens.{whole_tokens}
use Rattle.daggy_json.proofs.text.TextWriter.unsigned.Goals as goal

pub returns : goal.returns
returns g c =
    let t = number (decimal c.args.n) in (
      _,
      whole_tokens c.args.n (omega arith),
      token_passes_at_once t (IsNumber-decimal c.args.n (omega arith)) refl refl c.make_room.ensures.puts
          c.push_number.ensures,
    )
