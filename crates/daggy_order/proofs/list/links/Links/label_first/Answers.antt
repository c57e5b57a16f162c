use Rattle.std.proofs.Common.{◌≡◌, ◌-◌, ◌^◌, ◌<◌, ℕ, List, ◌∷◌, length, get_or, set, subst, sym, ap, inl, refl, ◌∙◌}
use Rattle.std.proofs.Common.{arith}
use Rattle.daggy_base.proofs.Lists.{Mem, unique_from_distinct, mem_contains}
use Rattle.daggy_order.specs.Links.{Listed, LabelsAscend}
use Rattle.daggy_order.proofs.AscendingLabels.{first_labelled}
use Rattle.daggy_order.proofs.list.links.Links.label_first.Given.{Over}
use Rattle.daggy_order.proofs.list.links.Links.label_first.Goals.{After-len, then-len-eq1, else-len-eq1}
use Rattle.daggy_order.proofs.list.links.Links.label_first.Goals as goal

-- there is a label for n
low : (g : Over) (c : After-len g) → c.args.n < length c.args.self.now.labels
low g c =
    let P : List ℕ → Type 0 = λ z. Mem c.args.n z in
    c.len.ensures.within c.args.n (mem_contains c.args.self.now.nodes c.args.n (subst P (sym c.requires.is) (inl refl)))

pub set_label-requires : goal.set_label-requires
set_label-requires g c =
    omega (arith, low g (goal.at.set_label-requires g c).After-len, c.index-then-high-gt-STEP.ensures.value)

pub returns-then-high-gt-STEP-clause-ascending : goal.returns-then-high-gt-STEP-clause-ascending
returns-then-high-gt-STEP-clause-ascending g c =
    elim c.if-len-eq1.branch [
      | then-len-eq1 w ↦ absurd (omega (arith, w.high-is, c.if-high-gt-STEP.true))
      | else-len-eq1 w ↦ (
          let labels : List ℕ = c.args.self.now.labels in
          let here = low g (goal.at.returns-then-high-gt-STEP-clause-ascending g c).After-len in
          let more : length c.args.self.now.nodes ≡ 1 → ⊥ = λ e. w.if-len-eq1.false (c.len.ensures.value ∙ e) in
          let high_is : c.if-len-eq1.high ≡ get_or labels c.args.first 0 =
          w.high-is ∙ (w.label-high.ensures ∙ ap (λ z. get_or labels z 0) w.index.ensures.value) in
          let once = unique_from_distinct (g.Ix.IndexType.greatest ∷ c.args.self.now.nodes) c.len.ensures.distinct in
          let P : List ℕ → Type 0 = λ z. LabelsAscend z 0 c.args.self.now.nodes (2 ^ 64) in
          let Q : ℕ → Type 0 = λ z.
          LabelsAscend (set labels z (c.if-len-eq1.high - 4294967296)) 0 c.args.self.now.nodes (2 ^ 64) in
          subst P (sym (ap (λ (z : Listed). z.labels) c.set_label.ensures))
          (subst Q (sym c.index-then-high-gt-STEP.ensures.value) (first_labelled c.requires once.1 more here
          (c.if-len-eq1.high - 4294967296) (omega (arith, c.if-high-gt-STEP.true))
          (omega (arith, c.if-high-gt-STEP.true, high_is))))
          )
    ]
