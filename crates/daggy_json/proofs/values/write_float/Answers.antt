use Rattle.json.proofs.Printed.Floats.{IsNumber-plus}
use Rattle.daggy_json.proofs.ValueTokens.{float_tokens}
use Rattle.daggy_json.proofs.values.write_float.Goals as goal

pub token-requires : goal.token-requires
token-requires g c = IsNumber-plus _ _ _ c.format_finite_with_plus.ensures.layout

pub returns : goal.returns
returns g c =
    let text = c.format_finite_with_plus.ensures in
    (_, float_tokens _ _ _ c.args.x text.layout text.parses c.requires, c.token.ensures)
