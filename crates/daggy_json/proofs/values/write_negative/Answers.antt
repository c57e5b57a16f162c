use Rattle.std.proofs.Common.{◌≡◌, List, ℕ, [], ◌∷◌, to_z-of_z, sym, ap, ◌∙◌, subst}
use Rattle.std.specs.Fmt.{signed_decimal}
use Rattle.json.specs.Token as token
use Rattle.json.specs.Print.{IsNumber}
use Rattle.json.proofs.Printed.Decimals.{IsNumber-signed_decimal}
use Rattle.serde_json.specs.Data.{number, negative}
use Rattle.daggy_json.specs.Passing.{AreTokensOf}
use Rattle.daggy_json.proofs.ValueTokens.{negative_tokens}
use Rattle.daggy_json.proofs.values.write_negative.Goals as goal

pub token-requires : goal.token-requires
token-requires g c =
    let text : c.format.result.now ≡ signed_decimal c.args.n = c.format.ensures.text ∙ ap signed_decimal (to_z-of_z c.ranges.n) in
    subst IsNumber (sym text) (IsNumber-signed_decimal c.args.n c.ranges.n.sfits)

pub returns : goal.returns
returns g c =
    let text : c.format.result.now ≡ signed_decimal c.args.n = c.format.ensures.text ∙ ap signed_decimal (to_z-of_z c.ranges.n) in
    let Is = λ (s : List ℕ). AreTokensOf (number (negative c.args.n)) (token.number s ∷ []) in
    (_, subst Is (sym text) (negative_tokens c.args.n c.requires c.ranges.n), c.token.ensures)
