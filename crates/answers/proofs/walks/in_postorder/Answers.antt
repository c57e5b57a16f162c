use Rattle.std.proofs.Common.{refl}
use Rattle.std.proofs.lemmas.List.{map_push}
use Rattle.answers.proofs.Listed.{one_more, all_listed}
use Rattle.answers.proofs.walks.in_postorder.Goals as goal

pub walk-preserved : goal.walk-preserved
walk-preserved g c =
    let number = g.Ix.IndexType.number in
    let given = c.in-Some.ensures in (
      c.next.ensures.under_way,
      rw (c.in_ok-push.ensures.items, map_push number c.walk.nodes.items c.in-Some.n)
          (one_more c.walk.invariant.1 c.next.ensures.dir c.next.ensures.start given.given given.reached given.once),
    )

pub returns : goal.returns
returns g c = all_listed c.walk.invariant.1 (c.in_default.ensures.none.0 refl)
