use Rattle.std.proofs.Common.{◌≡◌, ℕ, inl, inr, true, false, is_some, List, sym, ap, subst, ◌∙◌, arith}
use Rattle.std.specs.List.{Contains, filter}
use Rattle.std.proofs.lemmas.Bool.{false≢true, cases_Bool}
use Rattle.daggy_base.specs.Graph.{node_weight}
use Rattle.daggy_base.specs.Removal.{without}
use Rattle.daggy_base.proofs.Lists.{mem_contains}
use Rattle.daggy_dag.proofs.OrderOfExisting.{stays_to, stays_start, stays_end, stays_past, stays_not}
use Rattle.daggy_dag.proofs.acyclic.stable.map.keep_existing.Goals as goal
use Rattle.daggy_dag.proofs.acyclic.stable.map.keep_existing.Goals.{then-holds+then-not-contains_node, else-holds}
use Rattle.daggy_dag.proofs.acyclic.stable.map.keep_existing.Goals.{else-holds-via-then-holds+else-not-contains_node}
use Rattle.daggy_dag.proofs.acyclic.stable.map.keep_existing.Goals.{else-holds-via-else-holds}

pub nodes-init : goal.nodes-init
nodes-init g c = stays_start (node_weight (g.S.EdgeSource.graph c.args.store.now)) c.args.order.now

pub nodes-preserved : goal.nodes-preserved
nodes-preserved g c =
    let at = node_weight (g.S.EdgeSource.graph c.args.store.now) in
    let old = c.args.order.now in
    let i = c.nodes.i in
    let same = c.nodes.invariant in
    let number = c.new-n.ensures.number in
    let There : ℕ → Type 0 = λ z. is_some (at z) ≡ true in
    let Stands : ℕ → Type 0 = λ z. Contains c.nodes.order z in
    let P : List ℕ → Type 0 = λ z. Contains z i in
    elim c.if-holds.branch [
      | then-holds+then-not-contains_node w ↦ (
          let none : is_some (at i) ≡ false =
          elim (cases_Bool (is_some (at i))) [
            | inl t ↦
                absurd (false≢true
                (sym w.if-not-contains_node.true ∙ w.contains_node.ensures.exists.1 (subst There (sym number) t)))
            | inr f ↦ f
          ] in
          w.order-is ∙ w.remove.ensures ∙ ap (λ n. without n c.nodes.order) number ∙ ap (without i) same
          ∙ stays_not at old i none
          )
      | else-holds w ↦ w.order-is ∙ same ∙ stays_past at old i (λ m.
          elim w.else-holds.branch [
            | else-holds-via-then-holds+else-not-contains_node v ↦
                subst There number (v.contains_node.ensures.exists.0 v.if-not-contains_node.false)
            | else-holds-via-else-holds v ↦
                absurd (false≢true (sym v.if-holds.false ∙ c.holds.ensures.1
                (subst Stands (sym number) (subst P (sym same) (mem_contains (filter (stays_to at i) old) i m)))))
          ])
    ]

pub returns : goal.returns
returns g c =
    c.nodes.invariant
    ∙ stays_end (node_weight (g.S.EdgeSource.graph c.args.store.now)) c.args.order.now c.nodes.i
    (λ n m. omega (arith, c.requires.below n (mem_contains c.args.order.now n m), c.nodes-test.false))
