use Rattle.std.proofs.Common.{◌≡◌, ℕ, ◌<◌, ◌+◌, ◌∙◌, Some, length, slice_index, ap, arith, rules, vec_len}
use Rattle.std.specs.Option.{option_map}
use Rattle.std.proofs.lemmas.List.{get_or_default}
use Rattle.daggy_base.specs.Graph.{node_bound}
use Rattle.daggy_base.proofs.OutEdgesRead.{below_bound}
use Rattle.daggy_named.specs.Naming.{index_by}
use Rattle.daggy_named.specs.Scheduled.{latest_start_of}
use Rattle.daggy_named.proofs.named.scheduling.ScheduleByKey.latest_start.Given.{Over}
use Rattle.daggy_named.proofs.named.scheduling.ScheduleByKey.latest_start.Goals.{After-index, After-index-3, After-index-4}
use Rattle.daggy_named.proofs.named.scheduling.ScheduleByKey.latest_start.Goals as goal

low : (g : Over) (c : After-index g) → g.Ix.IndexType.number c.in_ok-n.n < node_bound c.self.inside.named.now.graph
low g c = below_bound c.self.inside.named.now.graph.nodes (g.Ix.IndexType.number c.in_ok-n.n) c.in_ok-n.ensures.exists

pub index-requires-2 : goal.index-requires-2
index-requires-2 g c =
    omega (
      arith,
      c.index.ensures.value,
      low g c,
      c.self.invariant.1,
    )

pub index-requires-4 : goal.index-requires-4
index-requires-4 g c =
    omega (
      arith,
      c.index-3.ensures.value,
      low g (goal.at.index-requires-4 g c).After-index,
      c.self.invariant.2,
    )

abbrev late : (g : Over) (c : After-index g) → ℕ → ℕ
late g c n = slice_index c.self.inside.times.starts.items n + slice_index c.self.inside.times.slack.items n

sum : (g : Over) (c : After-index-4 g) → c.index-2.result.now + c.index-4.result.now
    ≡ slice_index c.self.inside.times.starts.items (g.Ix.IndexType.number c.in_ok-n.n)
    + slice_index c.self.inside.times.slack.items (g.Ix.IndexType.number c.in_ok-n.n)
sum g c =
    let starts = c.self.inside.times.starts in
    let slack = c.self.inside.times.slack in
    let starts_size : vec_len starts ≡ length starts.items = search rules in
    let slack_size : vec_len slack ≡ length slack.items = search rules in
    let exists =
    below_bound c.self.inside.named.now.graph.nodes (g.Ix.IndexType.number c.in_ok-n.n) c.in_ok-n.ensures.exists in
    let start = get_or_default starts.items c.index.result c.index-2.result.now 0
    (omega (arith, c.index.ensures.value, exists, c.self.invariant.1, starts_size)) in
    let late = get_or_default slack.items c.index-3.result c.index-4.result.now 0
    (omega (arith, c.index-3.ensures.value, exists, c.self.invariant.2, slack_size)) in
    ap (λ x. x + c.index-4.result.now)
    (c.index-2.ensures ∙ start ∙ ap (slice_index starts.items) c.index.ensures.value)
    ∙ ap (λ x. slice_index starts.items (g.Ix.IndexType.number c.in_ok-n.n) + x)
    (c.index-4.ensures ∙ late ∙ ap (slice_index slack.items) c.index-3.ensures.value)

pub overflow_add-result : goal.overflow_add-result
overflow_add-result g c =
    omega (
      arith,
      sum g (goal.at.overflow_add-result g c).After-index-4,
      c.self.invariant.0.slack.met (g.Ix.IndexType.number c.in_ok-n.n) c.in_ok-n.ensures.exists,
    )

pub returns : goal.returns
returns g c =
    let at = goal.at.returns g c in
    ap Some (sum g at.After-index-4) ∙ ap (option_map (late g at.After-index)) c.in_ok-n.ensures.found
    ∙ ap (λ s. option_map (latest_start_of s) (index_by (g.Q.Equivalent.equivalent c.args.key) s.named.keys))
    c.self.view_is
