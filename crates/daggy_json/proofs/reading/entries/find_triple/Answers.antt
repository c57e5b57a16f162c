use Rattle.std.proofs.Common.{Some, rules}
use Rattle.daggy_json.proofs.FoundParts.{no_triple, triple_found}
use Rattle.daggy_json.proofs.reading.entries.find_triple.Goals as goal

pub returns-then-len-ne3 : goal.returns-then-len-ne3
returns-then-len-ne3 c = no_triple _ _ c.in_ok-parts.ensures (λ h. c.if-len-ne3.true (search rules))

pub returns : goal.returns
returns c =
    triple_found _ _ c.in_ok-parts.ensures c.index.result.now (search rules) c.index.ensures c.index-2.ensures
    c.index-3.ensures (Some _) (Some _) c.in_ok-parent.ensures c.in_ok-child.ensures
