use Rattle.std.proofs.Common.{◌≡◌, ◌+◌, ◌^◌, ◌<◌, ℕ, List, [], ◌∷◌, length, get_or, set, subst, sym, ap, inl, refl, ◌∙◌}
use Rattle.std.proofs.Common.{arith}
use Rattle.std.proofs.lemmas.List.{get_or-set_other}
use Rattle.daggy_base.proofs.Lists.{Mem, mem_right, unique_from_distinct, mem_contains}
use Rattle.daggy_order.specs.Links.{Listed, LabelsAscend}
use Rattle.daggy_order.proofs.AscendingLabels.{last_labelled, last_in}
use Rattle.daggy_order.proofs.list.links.Links.label_last.Given.{Over}
use Rattle.daggy_order.proofs.list.links.Links.label_last.Goals.{Start, After-len, then-len-eq1, else-len-eq1}
use Rattle.daggy_order.proofs.list.links.Links.label_last.Goals as goal

-- n is a node, and there is a label for it
held : (g : Over) (c : Start g) → Mem c.args.n c.args.self.now.nodes
held g c =
    let P : List ℕ → Type 0 = λ z. Mem c.args.n z in
    subst P (sym c.requires.is) (mem_right c.requires.before (c.args.n ∷ []) c.args.n (inl refl))

low : (g : Over) (c : After-len g) → Mem c.args.n c.args.self.now.nodes → c.args.n < length c.args.self.now.labels
low g c m = c.len.ensures.within c.args.n (mem_contains c.args.self.now.nodes c.args.n m)

pub label-low-requires : goal.label-low-requires
label-low-requires g c =
    let more : length c.args.self.now.nodes ≡ 1 → ⊥ = λ e. c.if-len-eq1.false (c.len.ensures.value ∙ e) in
    omega (
      arith,
      c.index.ensures.value,
      c.len.ensures.within c.args.last (mem_contains c.args.self.now.nodes c.args.last (last_in c.requires more)),
    )

pub set_label-requires : goal.set_label-requires
set_label-requires g c =
    let at = goal.at.set_label-requires g c in
    omega (arith, low g at.After-len (held g at.Start), c.index-then-low.ensures.value)

pub returns-then-low-clause-ascending : goal.returns-then-low-clause-ascending
returns-then-low-clause-ascending g c =
    elim c.if-len-eq1.branch [
      | then-len-eq1 w ↦ absurd (omega (arith, w.low-is, c.if-low.true))
      | else-len-eq1 w ↦ (
          let at = goal.at.returns-then-low-clause-ascending g c in
          let labels : List ℕ = c.args.self.now.labels in
          let here = low g at.After-len (held g at.Start) in
          let more : length c.args.self.now.nodes ≡ 1 → ⊥ = λ e. w.if-len-eq1.false (c.len.ensures.value ∙ e) in
          let low_is : c.if-len-eq1.low ≡ get_or labels c.args.last 0 =
          w.low-is ∙ (w.label-low.ensures ∙ ap (λ z. get_or labels z 0) w.index.ensures.value) in
          let once = unique_from_distinct (g.Ix.IndexType.greatest ∷ c.args.self.now.nodes) c.len.ensures.distinct in
          let P : List ℕ → Type 0 = λ z. LabelsAscend z 0 c.args.self.now.nodes (2 ^ 64) in
          let Q : ℕ → Type 0 = λ z.
          LabelsAscend (set labels z (c.if-len-eq1.low + 4294967296)) 0 c.args.self.now.nodes (2 ^ 64) in
          subst P (sym (ap (λ (z : Listed). z.labels) c.set_label.ensures))
          (subst Q (sym c.index-then-low.ensures.value)
          (last_labelled g.Ix.IndexType.greatest c.requires once.1 once.0 more here (c.if-len-eq1.low + 4294967296)
          (omega (arith, low_is)) (omega (arith, c.if-low.true))))
          )
    ]

pub returns-then-low-clause-others : goal.returns-then-low-clause-others
returns-then-low-clause-others g c = λ k d.
    let here = held g (goal.at.returns-then-low-clause-others g c).Start in
    let P : ℕ → Type 0 = λ z. Mem z c.args.self.now.nodes in
    ap (λ (z : Listed). get_or z.labels k 0) c.set_label.ensures
    ∙ get_or-set_other c.args.self.now.labels c.index-then-low.result k (c.if-len-eq1.low + 4294967296) 0
    (λ e. d (mem_contains c.args.self.now.nodes k (subst P (sym (e ∙ c.index-then-low.ensures.value)) here)))
