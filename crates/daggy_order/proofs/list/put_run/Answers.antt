use Rattle.std.proofs.Common.{◌≡◌, ℕ, ◌+◌, ◌-◌, ◌*◌, List, [], ◌∷◌, ◌++◌, sym, ap, subst, ◌∙◌, arith, append_assoc}
use Rattle.std.specs.List.{range_with_len}
use Rattle.daggy_order.specs.Links.{LabelsAscend, IsLabelled, EndsAtGreatest}
use Rattle.daggy_order.proofs.RunsWritten.{ends_here, labelled_run}
use Rattle.daggy_order.proofs.Tails.{turn_first}
use Rattle.daggy_order.proofs.list.put_run.Given.{Over}
use Rattle.daggy_order.proofs.list.put_run.Goals.{After-put_last}
use Rattle.daggy_order.proofs.list.put_run.Goals as goal

-- the first node is put last
put : (g : Over) (c : After-put_last g) → c.put_last.new.links.nodes ≡ c.args.links.now.nodes ++ c.args.from ∷ []
put g c = c.put_last.ensures.nodes ∙ ap (λ (z : ℕ). c.args.links.now.nodes ++ z ∷ []) c.new.ensures

ends : (g : Over) (c : After-put_last g) → EndsAtGreatest c.put_last.new.links.nodes c.args.from
ends g c =
    let P : List ℕ → Type 0 = λ z. EndsAtGreatest z c.args.from in
    subst P (sym (put g c)) (ends_here c.args.links.now.nodes c.args.from c.requires.below)

-- and the rest of the run behind it
whole : (g : Over) (c : After-put_last g) → c.put_last.new.links.nodes ++ range_with_len (c.args.from + 1) (c.args.count - 1)
    ≡ c.args.links.now.nodes ++ range_with_len c.args.from c.args.count
whole g c =
    let nodes = c.args.links.now.nodes in
    let rest : List ℕ = range_with_len (c.args.from + 1) (c.args.count - 1) in
    ap (λ (z : List ℕ). z ++ rest) (put g c)
    ∙ (append_assoc nodes (c.args.from ∷ []) rest
    ∙ ap (λ (z : List ℕ). nodes ++ z)
    (sym (turn_first c.args.from c.args.count (λ e. omega (arith, e, c.requires.some)))))

pub put_last-requires-clause-absent : goal.put_last-requires-clause-absent
put_last-requires-clause-absent g c h =
    let low = c.requires.below c.new.result h in
    omega (arith, low, c.new.ensures)

pub extend_run-requires-clause-ends : goal.extend_run-requires-clause-ends
extend_run-requires-clause-ends g c = ends g (goal.at.extend_run-requires-clause-ends g c).After-put_last

pub put_each-requires-clause-below : goal.put_each-requires-clause-below
put_each-requires-clause-below g c =
    let is_last = ends g (goal.at.put_each-requires-clause-below g c).After-put_last in
    λ n h. omega (arith, is_last.most n h)

pub returns-then-gap-gt0-clause-nodes : goal.returns-then-gap-gt0-clause-nodes
returns-then-gap-gt0-clause-nodes g c =
    c.extend_run.ensures.nodes ∙ whole g (goal.at.returns-then-gap-gt0-clause-nodes g c).After-put_last

pub returns-then-gap-gt0-clause-labelled : goal.returns-then-gap-gt0-clause-labelled
returns-then-gap-gt0-clause-labelled g c =
    let more : ℕ = c.args.count - 1 in
    let new = c.extend_run.new.self.labels in
    let high : ℕ = c.label-low.result + c.gap_between-gap.result * more in
    let fits = c.gap_between-gap.ensures.fits c.if-gap-gt0.true in
    let A : ℕ → Type 0 = λ z. LabelsAscend new z (range_with_len (c.args.from + 1) more) (high + 1) in
    let B : List ℕ → Type 0 = λ z. IsLabelled new z in
    subst B (sym c.extend_run.ensures.nodes)
    (labelled_run c.put_last.ensures.labelled
    (ends g (goal.at.returns-then-gap-gt0-clause-labelled g c).After-put_last) new more high
    (subst A c.label-low.ensures c.extend_run.ensures.ascending) (omega (arith, fits)) c.extend_run.ensures.others)

pub returns-else-gap-gt0-clause-nodes : goal.returns-else-gap-gt0-clause-nodes
returns-else-gap-gt0-clause-nodes g c =
    c.put_each.ensures.nodes ∙ whole g (goal.at.returns-else-gap-gt0-clause-nodes g c).After-put_last
