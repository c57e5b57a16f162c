use Rattle.std.proofs.Common.{◌≡◌, ◌+◌, ℕ, List, [], ◌∷◌, ◌++◌, sym, ap, subst, inl, inr, refl, ◌∙◌, arith}
use Rattle.std.proofs.Common.{append_assoc, append-nil}
use Rattle.std.specs.List.{range_with_len}
use Rattle.daggy_base.proofs.Lists.{Mem, mem_cases, contains_mem, mem_contains}
use Rattle.daggy_order.proofs.Tails.{turn_high, turn_more}
use Rattle.daggy_order.proofs.list.put_each.Goals as goal

pub nodes-init : goal.nodes-init
nodes-init g c = (c.requires.labelled, (sym (append-nil c.args.links.now.nodes), refl))

pub put_last-requires-clause-labelled : goal.put_last-requires-clause-labelled
put_last-requires-clause-labelled g c = c.nodes.invariant.0

pub put_last-requires-clause-absent : goal.put_last-requires-clause-absent
put_last-requires-clause-absent g c =
    let n : ℕ = c.new.result in
    let P : List ℕ → Type 0 = λ z. Mem n z in
    λ h.
    elim (mem_cases c.args.links.now.nodes (range_with_len c.args.from c.nodes.i) n
    (subst P c.nodes.invariant.1.0 (contains_mem c.nodes.links.nodes n h))) [
      | inl a ↦ absurd (omega (arith, c.new.ensures, c.requires.below n (mem_contains c.args.links.now.nodes n a)))
      | inr b ↦ absurd (omega (arith, c.new.ensures, turn_high c.args.from c.nodes.i n b))
    ]

pub put_last-requires-clause-numbered : goal.put_last-requires-clause-numbered
put_last-requires-clause-numbered g c =
    omega (arith, c.new.ensures, c.requires.numbered, c.nodes-test.true, c.nodes.invariant.1.1)

pub nodes-preserved : goal.nodes-preserved
nodes-preserved g c =
    let more : ℕ = c.nodes.i + 1 in (
      c.put_last.ensures.labelled,
      (
        c.put_last.ensures.nodes
            ∙ (ap (λ (z : List ℕ). z ++ c.new.result ∷ []) c.nodes.invariant.1.0
            ∙ (append_assoc c.args.links.now.nodes (range_with_len c.args.from c.nodes.i) (c.new.result ∷ [])
            ∙ ap (λ (z : List ℕ). c.args.links.now.nodes ++ z)
            (sym (turn_more c.args.from c.nodes.i more c.new.result refl c.new.ensures)))),
        c.put_last.ensures.sized ∙ c.nodes.invariant.1.1,
      ),
    )

pub returns-clause-nodes : goal.returns-clause-nodes
returns-clause-nodes g c =
    let ended : c.nodes.i ≡ c.args.count = omega (arith, c.nodes-test.false, c.nodes.auto.i-end) in
    c.nodes.invariant.1.0 ∙ ap (λ (z : ℕ). c.args.links.now.nodes ++ range_with_len c.args.from z) ended

pub returns-clause-labelled : goal.returns-clause-labelled
returns-clause-labelled g c = c.nodes.invariant.0
