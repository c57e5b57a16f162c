use Rattle.std.proofs.Common.{[], ◌∷◌, sym, subst}
use Rattle.json.specs.Token.{null}
use Rattle.daggy_json.specs.Passing.{HasFailed, AreTokensOfWeight}
use Rattle.daggy_json.proofs.PassedTokens.{passes_then}
use Rattle.daggy_json.proofs.ValueTokens.{null_tokens}
use Rattle.daggy_json.proofs.values.write_weight.Goals as goal

pub returns-in-Err : goal.returns-in-Err
returns-in-Err g c = (
  _,
  subst (λ r. AreTokensOfWeight r (HasFailed c.token.new.self) (null ∷ [])) (sym c.in-Err.is)
      (null_tokens, c.token.ensures.stays.failed c.fail.ensures.failed),
  passes_then c.fail.ensures.passes c.token.ensures,
)
