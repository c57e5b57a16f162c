use Rattle.std.proofs.Common.{rules, refl, sym, ◌∙◌}
use Rattle.daggy_walk.proofs.AdapterSteps.{said, went_on, served, on_item, on_none, calls_item}
use Rattle.daggy_walk.proofs.walker.inspect.InspectWalker.walk_next.Goals as goal

pub returns-in_err-item-clause-goes : goal.returns-in_err-item-clause-goes
returns-in_err-item-clause-goes g c =
    let e = said (λ v o u. g.W.Walker.walk_gives v c.args.graph.now o u) c.in_err-item.was c.walk_next.ensures.steps in
    let a = went_on (c.in_err-item.was ∙ sym c.from_residual.ensures) c.walk_next.ensures.goes in
    record { stays = (a.stays, on_none c.requires.1 _ e); falls = a.falls }

pub f-requires : goal.f-requires
f-requires g c =
    search (
      rules,
      served c.requires.1 c.in_ok-item.item _
          (said (λ v o u. g.W.Walker.walk_gives v c.args.graph.now o u) c.in_ok-item.was c.walk_next.ensures.steps),
    )

pub returns-clause-goes : goal.returns-clause-goes
returns-clause-goes g c =
    let e = said (λ v o u. g.W.Walker.walk_gives v c.args.graph.now o u) c.in_ok-item.was c.walk_next.ensures.steps in
    let a = went_on c.in_ok-item.was c.walk_next.ensures.goes in
    record { stays = (a.stays, on_item c.requires.1 _ _ _ e (calls_item g.F.FnMut c.f.ensures refl)); falls = a.falls }
