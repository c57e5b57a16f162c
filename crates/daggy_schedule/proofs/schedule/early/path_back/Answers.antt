use Rattle.std.proofs.Common.{◌≡◌, ◌≢◌, ◌<◌, ◌∙◌, ◌∷◌, [], inl, inr, ℕ, sym, ap, subst, arith, length, map}
use Rattle.std.proofs.Common.{reverse, get_or}
use Rattle.std.proofs.lemmas.List.{map-append, get_or_default}
use Rattle.daggy_base.specs.Path.{AreJoined}
use Rattle.daggy_base.proofs.OutEdgesRead.{below_bound}
use Rattle.daggy_schedule.proofs.PathBack.{map_reverse}
use Rattle.daggy_schedule.proofs.PathBack.{chains_one, not_end, chain_sum, chain_traced}
use Rattle.daggy_schedule.proofs.schedule.early.path_back.Given.{Over}
use Rattle.daggy_schedule.proofs.schedule.early.path_back.Goals.{After-push, After-node-parent}
use Rattle.daggy_schedule.proofs.schedule.early.path_back.Goals as goal

low : (g : Over) (c : After-push g) → g.Ix.IndexType.number c.path.n < length c.args.parents.now
low g c =
    omega (
      arith,
      below_bound c.args.dag.now.graph.nodes (g.Ix.IndexType.number c.path.n)
          c.path.invariant.exists,
      c.requires.fits,
    )

parent_is : (g : Over) (c : After-node-parent g)
    → g.Ix.IndexType.number c.node-parent.result ≡ get_or c.args.parents.now (g.Ix.IndexType.number c.path.n) 0
parent_is g c =
    let n = g.Ix.IndexType.number c.path.n in
    let within : n < length c.args.parents.now =
    omega (
      arith,
      below_bound c.args.dag.now.graph.nodes n c.path.invariant.exists,
      c.requires.fits,
    ) in
    c.node-parent.ensures.value
    ∙ (c.index-parents-index.is
    ∙ (ap (λ z. get_or c.args.parents.now z c.index-parents-index.result) c.index-in-path.ensures.value
    ∙ get_or_default c.args.parents.now n c.index-parents-index.result 0 within))

pub returns-then-index-end-clause-sum : goal.returns-then-index-end-clause-sum
returns-then-index-end-clause-sum g c =
    let is : g.Ix.IndexType.number c.args.last ≡ g.Ix.IndexType.greatest = cc in
    λ d ls ss fs h a. absurd (not_end c.node_count-count.ensures.dag.well_formed (g.Ix.IndexType.number c.args.last) h is)

pub returns-then-index-end-clause-traced_back : goal.returns-then-index-end-clause-traced_back
returns-then-index-end-clause-traced_back g c =
    let is : g.Ix.IndexType.number c.args.last ≡ g.Ix.IndexType.greatest = cc in
    λ d ls ss fs l a. absurd
    (not_end c.node_count-count.ensures.dag.well_formed (g.Ix.IndexType.number c.args.last) l.here is)

pub offset_bounds-parents-index : goal.offset_bounds-parents-index
offset_bounds-parents-index g c =
    omega (
      arith,
      low g (goal.at.offset_bounds-parents-index g c).After-push,
      c.index-in-path.ensures.value,
    )

pub bounds-parents-index : goal.bounds-parents-index
bounds-parents-index g c =
    omega (arith, low g (goal.at.bounds-parents-index g c).After-push, c.index-in-path.ensures.value)

pub returns-then-index-end-2-clause-sum : goal.returns-then-index-end-2-clause-sum
returns-then-index-end-2-clause-sum g c d ls ss fs h a =
    let number = g.Ix.IndexType.number in
    let ended : number c.node-parent.result ≡ g.Ix.IndexType.greatest = cc in
    let none = sym (parent_is g (goal.at.returns-then-index-end-2-clause-sum g c).After-node-parent) ∙ ended in
    chain_sum c.node_count-count.ensures.dag.well_formed c.path.invariant (map number c.reverse.new.self.items)
    (ap (map number) c.reverse.ensures.items
    ∙ (map_reverse number c.push.new.self.items
    ∙ ap reverse
    (ap (map number) c.in_ok-push.ensures.items ∙ map-append number c.path.path.items (c.path.n ∷ []))))
    none d ls ss fs a

pub returns-then-index-end-2-clause-traced_back : goal.returns-then-index-end-2-clause-traced_back
returns-then-index-end-2-clause-traced_back g c d ls ss fs l a =
    let number = g.Ix.IndexType.number in
    let ended : number c.node-parent.result ≡ g.Ix.IndexType.greatest = cc in
    let none = sym (parent_is g (goal.at.returns-then-index-end-2-clause-traced_back g c).After-node-parent) ∙ ended in
    chain_traced c.node_count-count.ensures.dag.well_formed c.path.invariant (map number c.reverse.new.self.items)
    (ap (map number) c.reverse.ensures.items
    ∙ (map_reverse number c.push.new.self.items
    ∙ ap reverse
    (ap (map number) c.in_ok-push.ensures.items ∙ map-append number c.path.path.items (c.path.n ∷ []))))
    none d ls ss fs l a

pub path-smaller : goal.path-smaller
path-smaller g c =
    let at = goal.at.path-smaller g c in
    let number = g.Ix.IndexType.number in
    let n = number c.path.n in
    let J : ℕ → Type 0 = λ z. AreJoined c.args.dag.now.graph z n in
    let apart : number c.node-parent.result ≢ g.Ix.IndexType.greatest = λ h. c.if-index-end-2.false cc in
    let is = parent_is g at.After-node-parent in
    elim (c.requires.parents n c.path.invariant.exists) [
      | inl e ↦ absurd (apart (is ∙ e))
      | inr j ↦ c.requires.ordered.sorted (number c.node-parent.result) n (subst J (sym is) j)
    ]

pub path-preserved : goal.path-preserved
path-preserved g c =
    let at = goal.at.path-preserved g c in
    let number = g.Ix.IndexType.number in
    let n = number c.path.n in
    let apart : number c.node-parent.result ≢ g.Ix.IndexType.greatest = λ h. c.if-index-end-2.false cc in
    chains_one c.node_count-count.ensures.dag.well_formed c.path.invariant (number c.node-parent.result)
    (parent_is g at.After-node-parent) apart (c.requires.parents n c.path.invariant.exists)
    (ap (map number) c.in_ok-push.ensures.items ∙ map-append number c.path.path.items (c.path.n ∷ []))
