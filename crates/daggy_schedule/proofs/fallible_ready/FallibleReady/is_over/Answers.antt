use Rattle.std.proofs.Common.{◌∙◌, sym}
use Rattle.std.proofs.lemmas.Bool.{eq-eqb, eqb-true}
use Rattle.daggy_schedule.proofs.Tallies.{over_if_none}
use Rattle.daggy_schedule.proofs.fallible_ready.FallibleReady.is_over.Goals as goal

pub returns-then-ready_count-eq0 : goal.returns-then-ready_count-eq0
returns-then-ready_count-eq0 g c =
    let both = over_if_none c.args.self.now in (
      λ h. both.0 (
        sym c.ready_count.ensures ∙ c.if-ready_count-eq0.true,
        sym c.out_count.ensures ∙ eqb-true c.out_count.result 0 h,
      ),
      λ over. eq-eqb c.out_count.result 0 (c.out_count.ensures ∙ (both.1 over).1),
    )
