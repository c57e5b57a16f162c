use Rattle.std.proofs.Common.{◌≡◌, ◌<◌, ◌∙◌, Some, length, slice_index, ap, arith, rules, vec_len}
use Rattle.std.specs.Option.{option_map}
use Rattle.std.proofs.lemmas.List.{get_or_default}
use Rattle.daggy_base.proofs.OutEdgesRead.{below_bound}
use Rattle.daggy_named.specs.Naming.{index_by}
use Rattle.daggy_named.proofs.named.scheduling.ScheduleByKey.earliest_start.Given.{Over}
use Rattle.daggy_named.proofs.named.scheduling.ScheduleByKey.earliest_start.Goals.{After-index}
use Rattle.daggy_named.proofs.named.scheduling.ScheduleByKey.earliest_start.Goals as goal

size : (g : Over) (c : After-index g) → vec_len c.self.inside.times.starts ≡ length c.self.inside.times.starts.items
size g c = search rules

low : (g : Over) (c : After-index g) → c.index.result < length c.self.inside.times.starts.items
low g c =
    omega (
      arith,
      c.index.ensures.value,
      below_bound c.self.inside.named.now.graph.nodes (g.Ix.IndexType.number c.in_ok-n.n) c.in_ok-n.ensures.exists,
      c.self.invariant.1,
      size g c,
    )

pub index-requires-2 : goal.index-requires-2
index-requires-2 g c =
    omega (arith, low g c, size g c)

pub returns : goal.returns
returns g c =
    let starts = c.self.inside.times.starts.items in
    let read : c.index-2.result.now ≡ slice_index starts c.index.result =
    c.index-2.ensures
    ∙ get_or_default starts c.index.result c.index-2.result.now 0 (low g (goal.at.returns g c).After-index) in
    ap Some (read ∙ ap (slice_index starts) c.index.ensures.value) ∙ ap (option_map (slice_index starts)) c.in_ok-n.ensures.found
    ∙ ap (λ s. option_map (slice_index s.starts) (index_by (g.Q.Equivalent.equivalent c.args.key) s.named.keys)) c.self.view_is
