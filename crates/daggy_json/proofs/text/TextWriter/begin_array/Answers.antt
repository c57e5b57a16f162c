use Rattle.std.proofs.Common.{refl}
use Rattle.json.specs.Token.{begin_array}
use Rattle.daggy_json.proofs.PassedTokens.{token_passes_at_once}
use Rattle.daggy_json.proofs.text.TextWriter.begin_array.Goals as goal

pub returns : goal.returns
returns g c = token_passes_at_once begin_array _ refl refl c.make_room.ensures.puts c.push_after_comma.ensures
