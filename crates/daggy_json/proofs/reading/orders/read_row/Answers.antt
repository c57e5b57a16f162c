use Rattle.std.proofs.Common.{rules}
use Rattle.daggy_json.proofs.FoundParts.{no_row}
use Rattle.daggy_json.proofs.reading.orders.read_row.Goals as goal

pub returns-then-len-ne2 : goal.returns-then-len-ne2
returns-then-len-ne2 g c = no_row _ _ c.in-Some.ensures _ (λ h. c.if-len-ne2.true (search rules))
