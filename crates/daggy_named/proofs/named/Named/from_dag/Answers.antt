use Rattle.std.proofs.Common.{◌≡◌, subst}
use Rattle.daggy_named.specs.Keyed.{IsFirstRepeated}
use Rattle.daggy_named.proofs.named.Named.from_dag.Goals as goal

pub returns-in-Ok-Some-clause-repeated : goal.returns-in-Ok-Some-clause-repeated
returns-in-Ok-Some-clause-repeated g c j is =
    let same : c.in-Ok-Some.j ≡ j = cc in
    let repeated = c.in-Ok-Some.ensures.some c.in-Ok-Some.j c.in-Ok-Some.field-0-is in
    subst (IsFirstRepeated g.K.PartialEq.eq c.args.keys.items) same
    (subst (λ l. IsFirstRepeated g.K.PartialEq.eq l c.in-Ok-Some.j) c.as_slice.ensures.value repeated)
