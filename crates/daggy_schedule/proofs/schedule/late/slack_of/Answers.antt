use Rattle.std.proofs.Common.{◌≡◌, ◌∙◌, ◌+◌, ◌-◌, ◌<◌, ◌≤◌, ℕ, List, length, get_or, map, take, drop, sym, ap, subst, arith}
use Rattle.std.proofs.Common.{rules, set}
use Rattle.std.proofs.lemmas.List.{length-map, get_or_read}
use Rattle.daggy_base.specs.Graph.{Graph, node_bound}
use Rattle.daggy_base.specs.Path.{AreJoined}
use Rattle.daggy_base.specs.WellFormed.{IsWellFormed}
use Rattle.daggy_base.proofs.OutEdgesRead.{below_bound}
use Rattle.daggy_schedule.specs.Passes.{IsLatestFinish, later_by}
use Rattle.daggy_schedule.proofs.Late.{Slackening, slack_none, parted_order, behind_node, order_exists, children_low}
use Rattle.daggy_schedule.proofs.Starting.{resized}
use Rattle.daggy_schedule.proofs.Elsewhere.{zeros_elsewhere, set_elsewhere}
use Rattle.daggy_schedule.proofs.Late.{finish_low, slack_one, all_latest, drop_past}
use Rattle.daggy_schedule.proofs.schedule.late.slack_of.Goals as goal

pub nodes-init : goal.nodes-init
nodes-init g c =
    let number = g.Ix.IndexType.number in
    record {
      sized = c.in_ok-resize.ensures.len ∙ (c.node_bound.ensures.value ∙ ap node_bound c.graph-store.ensures.graph);
      within = omega arith;
      elsewhere =
          zeros_elsewhere c.args.dag.now.graph _ c.node_bound.result
          (resized _ _ c.node_bound.result _ 0 c.new-slack.ensures.items c.new-slack.ensures.len
          c.in_ok-resize.ensures.items);
      slackening =
          slack_none c.args.dag.now.graph c.args.durations.now c.args.lags.now
          (later_by c.args.early.now.starts.items c.resize.new.self.items) c.args.early.now.makespan
          (drop_past (length c.args.order.now) (map number c.args.order.now)
          (omega (arith, length-map c.args.order.now number)));
    }

pub bounds-order-k : goal.bounds-order-k
bounds-order-k g c =
    let number = g.Ix.IndexType.number in
    let k = c.nodes.k - 1 in
    let s = c.nodes.invariant in
    let low : k < length c.args.order.now = omega (arith, c.nodes-test.true, s.within) in
    low

pub offset_bounds-order-k : goal.offset_bounds-order-k
offset_bounds-order-k g c =
    let number = g.Ix.IndexType.number in
    let graph = c.args.dag.now.graph in
    let S = c.graph-store.ensures.graph in
    let W : Graph _ _ → Type 0 = λ z. IsWellFormed g.Ix.IndexType.greatest z in
    let w = subst W S c.node_bound.ensures.well_formed in
    let order = map number c.args.order.now in
    let k = c.nodes.k - 1 in
    let starts = c.args.early.now.starts.items in
    let slack = c.nodes.slack.items in
    let makespan = c.args.early.now.makespan in
    let d = c.args.durations.now in
    let lags = c.args.lags.now in
    let s = c.nodes.invariant in
    let low : k < length c.args.order.now = omega (arith, c.nodes-test.true, s.within) in
    search rules

pub latest_finish-latest-requires-clause-low : goal.latest_finish-latest-requires-clause-low
latest_finish-latest-requires-clause-low g c =
    let number = g.Ix.IndexType.number in
    let graph = c.args.dag.now.graph in
    let S = c.graph-store.ensures.graph in
    let W : Graph _ _ → Type 0 = λ z. IsWellFormed g.Ix.IndexType.greatest z in
    let w = subst W S c.node_bound.ensures.well_formed in
    let order = map number c.args.order.now in
    let k = c.nodes.k - 1 in
    let starts = c.args.early.now.starts.items in
    let slack = c.nodes.slack.items in
    let makespan = c.args.early.now.makespan in
    let d = c.args.durations.now in
    let lags = c.args.lags.now in
    let s = c.nodes.invariant in
    let low : k < length c.args.order.now = omega (arith, c.nodes-test.true, s.within) in
    let n = number c.index-order-k.result in
    let split = parted_order number c.args.order.now k c.index-order-k.result low c.index-order-k.is in
    let one : k + 1 ≡ c.nodes.k = omega (arith, c.nodes-test.true) in
    let D : ℕ → Type 0 = λ z. Slackening graph d lags (later_by starts slack) makespan (drop z order) in
    let slackening : D (k + 1) = subst D (sym one) s.slackening in
    let here = children_low w c.requires.ordered (take k order) n (drop (k + 1) order) split starts slack slackening in
    let P : List ℕ → Type 0 = λ xs. (v : ℕ) → AreJoined graph n v → later_by xs slack v ≤ makespan in
    let Q : List ℕ → Type 0 = λ ys. (v : ℕ) → AreJoined graph n v → later_by c.as_slice.result.now ys v ≤ makespan in
    let R : Graph _ _ → Type 0 = λ z. (v : ℕ) → AreJoined z n v
    → later_by c.as_slice.result.now c.as_slice-in-nodes.result.now v ≤ makespan in
    subst R (sym S) (subst Q (sym c.as_slice-in-nodes.ensures.value) (subst P (sym c.as_slice.ensures.value) here))

pub latest_finish-latest-requires-clause-lags : goal.latest_finish-latest-requires-clause-lags
latest_finish-latest-requires-clause-lags g c =
    let number = g.Ix.IndexType.number in
    let graph = c.args.dag.now.graph in
    let S = c.graph-store.ensures.graph in
    let W : Graph _ _ → Type 0 = λ z. IsWellFormed g.Ix.IndexType.greatest z in
    let w = subst W S c.node_bound.ensures.well_formed in
    let order = map number c.args.order.now in
    let k = c.nodes.k - 1 in
    let starts = c.args.early.now.starts.items in
    let slack = c.nodes.slack.items in
    let lags = c.args.lags.now in
    let s = c.nodes.invariant in
    let low : k < length c.args.order.now = omega (arith, c.nodes-test.true, s.within) in
    let n = number c.index-order-k.result in
    let here : (v : ℕ) (j : AreJoined graph n v) → get_or lags j.0 0 ≤ later_by starts slack v = λ v j.
    omega (arith, c.requires.earliest.feasible n v j) in
    let P : List ℕ → Type 0 = λ xs. (v : ℕ) (j : AreJoined graph n v) → get_or lags j.0 0 ≤ later_by xs slack v in
    let Q : List ℕ → Type 0 = λ ys. (v : ℕ) (j : AreJoined graph n v)
    → get_or lags j.0 0 ≤ later_by c.as_slice.result.now ys v in
    let R : Graph _ _ → Type 0 = λ z. (v : ℕ) (j : AreJoined z n v)
    → get_or lags j.0 0 ≤ later_by c.as_slice.result.now c.as_slice-in-nodes.result.now v in
    subst R (sym S) (subst Q (sym c.as_slice-in-nodes.ensures.value) (subst P (sym c.as_slice.ensures.value) here))

pub index-requires-in-nodes : goal.index-requires-in-nodes
index-requires-in-nodes g c =
    let number = g.Ix.IndexType.number in
    let graph = c.args.dag.now.graph in
    let S = c.graph-store.ensures.graph in
    let W : Graph _ _ → Type 0 = λ z. IsWellFormed g.Ix.IndexType.greatest z in
    let w = subst W S c.node_bound.ensures.well_formed in
    let order = map number c.args.order.now in
    let k = c.nodes.k - 1 in
    let s = c.nodes.invariant in
    let low : k < length c.args.order.now = omega (arith, c.nodes-test.true, s.within) in
    let n = number c.index-order-k.result in
    let split = parted_order number c.args.order.now k c.index-order-k.result low c.index-order-k.is in
    let exists = order_exists w c.requires.ordered (take k order) n (drop (k + 1) order) split in
    let bound : n < node_bound graph = below_bound graph.nodes n exists in
    omega (arith, bound, c.requires.finishes, c.index.ensures.value)

pub overflow_sub-latest : goal.overflow_sub-latest
overflow_sub-latest g c =
    let number = g.Ix.IndexType.number in
    let graph = c.args.dag.now.graph in
    let S = c.graph-store.ensures.graph in
    let W : Graph _ _ → Type 0 = λ z. IsWellFormed g.Ix.IndexType.greatest z in
    let w = subst W S c.node_bound.ensures.well_formed in
    let order = map number c.args.order.now in
    let k = c.nodes.k - 1 in
    let starts = c.args.early.now.starts.items in
    let slack = c.nodes.slack.items in
    let makespan = c.args.early.now.makespan in
    let d = c.args.durations.now in
    let lags = c.args.lags.now in
    let s = c.nodes.invariant in
    let low : k < length c.args.order.now = omega (arith, c.nodes-test.true, s.within) in
    let n = number c.index-order-k.result in
    let split = parted_order number c.args.order.now k c.index-order-k.result low c.index-order-k.is in
    let exists = order_exists w c.requires.ordered (take k order) n (drop (k + 1) order) split in
    let bound : n < node_bound graph = below_bound graph.nodes n exists in
    let one : k + 1 ≡ c.nodes.k = omega (arith, c.nodes-test.true) in
    let D : ℕ → Type 0 = λ z. Slackening graph d lags (later_by starts slack) makespan (drop z order) in
    let slackening : D (k + 1) = subst D (sym one) s.slackening in
    let shown = c.as_slice.ensures.value in
    let shown_slack = c.as_slice-in-nodes.ensures.value in
    let L : List ℕ → List ℕ → Graph _ _ → Type 0 = λ xs ys z.
    IsLatestFinish z n lags (later_by xs ys) makespan c.latest_finish-latest.result in
    let F : List ℕ → Type 0 = λ xs. L xs c.as_slice-in-nodes.result.now (g.S.EdgeSource.graph c.graph-store.result.now) in
    let G : List ℕ → Type 0 = λ ys. L starts ys (g.S.EdgeSource.graph c.graph-store.result.now) in
    let H : Graph _ _ → Type 0 = λ z. L starts slack z in
    let finish = subst H S (subst G shown_slack (subst F shown c.latest_finish-latest.ensures)) in
    let takes = c.requires.noted.takes n exists in
    let early = c.requires.earliest.feasible in
    let most = c.requires.last.most n exists in
    let read : c.index-in-nodes.result.now ≡ get_or c.args.early.now.finishes.items n 0 =
    get_or_read c.args.early.now.finishes.items c.index.result c.index-in-nodes.result.now
    (omega (arith, bound, c.requires.finishes, c.index.ensures.value, c.args.early.now.finishes.ok.0))
    c.index-in-nodes.ensures 0
    ∙ ap (λ z. get_or c.args.early.now.finishes.items z 0) c.index.ensures.value in
    omega (
      arith,
      read,
      finish_low w c.requires.ordered (take k order) n (drop (k + 1) order) split starts slack slackening
          c.args.early.now.finishes.items takes early most finish,
    )

pub index_mut-requires : goal.index_mut-requires
index_mut-requires g c =
    let number = g.Ix.IndexType.number in
    let graph = c.args.dag.now.graph in
    let S = c.graph-store.ensures.graph in
    let W : Graph _ _ → Type 0 = λ z. IsWellFormed g.Ix.IndexType.greatest z in
    let w = subst W S c.node_bound.ensures.well_formed in
    let order = map number c.args.order.now in
    let k = c.nodes.k - 1 in
    let s = c.nodes.invariant in
    let low : k < length c.args.order.now = omega (arith, c.nodes-test.true, s.within) in
    let n = number c.index-order-k.result in
    let split = parted_order number c.args.order.now k c.index-order-k.result low c.index-order-k.is in
    let exists = order_exists w c.requires.ordered (take k order) n (drop (k + 1) order) split in
    let bound : n < node_bound graph = below_bound graph.nodes n exists in
    omega (arith, bound, s.sized, c.index-in-nodes-2.ensures.value)

pub nodes-preserved : goal.nodes-preserved
nodes-preserved g c =
    let number = g.Ix.IndexType.number in
    let graph = c.args.dag.now.graph in
    let S = c.graph-store.ensures.graph in
    let W : Graph _ _ → Type 0 = λ z. IsWellFormed g.Ix.IndexType.greatest z in
    let w = subst W S c.node_bound.ensures.well_formed in
    let order = map number c.args.order.now in
    let k = c.nodes.k - 1 in
    let starts = c.args.early.now.starts.items in
    let slack = c.nodes.slack.items in
    let makespan = c.args.early.now.makespan in
    let d = c.args.durations.now in
    let lags = c.args.lags.now in
    let s = c.nodes.invariant in
    let low : k < length c.args.order.now = omega (arith, c.nodes-test.true, s.within) in
    let n = number c.index-order-k.result in
    let split = parted_order number c.args.order.now k c.index-order-k.result low c.index-order-k.is in
    let exists = order_exists w c.requires.ordered (take k order) n (drop (k + 1) order) split in
    let bound : n < node_bound graph = below_bound graph.nodes n exists in
    let one : k + 1 ≡ c.nodes.k = omega (arith, c.nodes-test.true) in
    let D : ℕ → Type 0 = λ z. Slackening graph d lags (later_by starts slack) makespan (drop z order) in
    let slackening : D (k + 1) = subst D (sym one) s.slackening in
    let shown = c.as_slice.ensures.value in
    let shown_slack = c.as_slice-in-nodes.ensures.value in
    let L : List ℕ → List ℕ → Graph _ _ → Type 0 = λ xs ys z.
    IsLatestFinish z n lags (later_by xs ys) makespan c.latest_finish-latest.result in
    let F : List ℕ → Type 0 = λ xs. L xs c.as_slice-in-nodes.result.now (g.S.EdgeSource.graph c.graph-store.result.now) in
    let G : List ℕ → Type 0 = λ ys. L starts ys (g.S.EdgeSource.graph c.graph-store.result.now) in
    let H : Graph _ _ → Type 0 = λ z. L starts slack z in
    let finish = subst H S (subst G shown_slack (subst F shown c.latest_finish-latest.ensures)) in
    let takes = c.requires.noted.takes n exists in
    let early = c.requires.earliest.feasible in
    let most = c.requires.last.most n exists in
    let finishes = c.args.early.now.finishes.items in
    let latest = c.latest_finish-latest.result in
    let read : c.index-in-nodes.result.now ≡ get_or finishes n 0 =
    get_or_read finishes c.index.result c.index-in-nodes.result.now
    (omega (arith, bound, c.requires.finishes, c.index.ensures.value, c.args.early.now.finishes.ok.0))
    c.index-in-nodes.ensures 0
    ∙ ap (λ z. get_or finishes z 0) c.index.ensures.value in
    let now = set slack c.index-in-nodes-2.result (latest - c.index-in-nodes.result.now) in
    let is : now ≡ set slack n (latest - get_or finishes n 0) =
    ap (λ z. set slack z (latest - c.index-in-nodes.result.now)) c.index-in-nodes-2.ensures.value
    ∙ ap (λ z. set slack n (latest - z)) read in
    let more = slack_one w c.requires.ordered (take k order) n (drop (k + 1) order) split starts slack slackening
    finishes takes early most finish (omega (arith, bound, s.sized, c.nodes.slack.ok.0)) now is in
    let E : List ℕ → Type 0 = λ z. Slackening graph d lags (later_by starts now) makespan z in
    record {
      sized = s.sized;
      within = omega (arith, s.within);
      elsewhere = set_elsewhere graph slack now n _ exists s.elsewhere is;
      slackening =
          subst E (sym (behind_node number c.args.order.now k c.index-order-k.result low c.index-order-k.is)) more;
    }

pub returns-clause-latest : goal.returns-clause-latest
returns-clause-latest g c =
    let W : Graph _ _ → Type 0 = λ z. IsWellFormed g.Ix.IndexType.greatest z in
    let w = subst W c.graph-store.ensures.graph c.node_bound.ensures.well_formed in
    let order = map g.Ix.IndexType.number c.args.order.now in
    let none : c.nodes.k ≡ 0 = omega (arith, c.nodes-test.false) in
    let P : ℕ → Type 0 = λ z. Slackening c.args.dag.now.graph c.args.durations.now c.args.lags.now
    (later_by c.args.early.now.starts.items c.nodes.slack.items) c.args.early.now.makespan (drop z order) in
    all_latest w c.requires.ordered (subst P none c.nodes.invariant.slackening)
