use Rattle.daggy_json.proofs.reading.parts.find_array.Goals as goal
use Rattle.std.proofs.Common.{ap, ◌∙◌}
use Rattle.std.specs.Prelude.{option_and_then}
use Rattle.daggy_json.specs.Reading.{array_in}
use Rattle.daggy_json.proofs.FoundParts.{array_found}

pub returns : goal.returns
returns c =
    array_found (λ v. v.now.items) c.as_array.result _ c.as_array.ensures
    ∙ ap (option_and_then array_in) c.in_ok-get.ensures
