use Rattle.std.proofs.Common.{rules, ◌≡◌, ◌+◌, ◌*◌, ◌^◌, ◌<◌, ℕ, List, ◌++◌, ◌∷◌, length, sym, ap, subst, ◌∙◌, refl}
use Rattle.std.proofs.Common.{arith, append_assoc}
use Rattle.std.proofs.lemmas.Nat.{column_fits}
use Rattle.std.proofs.lemmas.List.{length-set}
use Rattle.std.specs.List.{Contains}
use Rattle.daggy_base.proofs.Lists.{Mem, Unique, mem_left, mem_right, mem_contains, unique_from_distinct, unique_right}
use Rattle.daggy_order.specs.Links.{Listed, LabelsAscend}
use Rattle.daggy_base.proofs.Sorted.{unique_left}
use Rattle.daggy_order.proofs.AscendingLabels.{Numbering, numbers_none, node_in, numbers_more, all_numbered}
use Rattle.daggy_order.proofs.list.links.Links.assign.Given.{Over}
use Rattle.daggy_order.proofs.list.links.Links.assign.Goals.{After-index}
use Rattle.daggy_order.proofs.list.links.Links.assign.Goals as goal

mul_more : (a i : ℕ) → a * (i + 1) ≡ a * i + a
mul_more a i = search arith

mul_none : (a : ℕ) → a * 0 ≡ 0
mul_none a = search arith

pub run-init : goal.run-init
run-init g c = (
  omega (arith, mul_none c.args.gap),
  refl,
  refl,
  λ before run behind r.
      numbers_none g.Ix.IndexType.greatest c.args.self.now.labels run behind c.args.low c.args.from r.begins,
)

pub overflow_add-label : goal.overflow_add-label
overflow_add-label g c =
    let high = column_fits c.args.gap c.run._i c.args.gap c.args.count c.run-test.true (omega arith) in
    let low : c.run.label + c.args.gap < 2 ^ 64 = omega (arith, high, c.run.invariant.0, c.requires.fits) in
    search rules

-- the node n is one of the list
held : (g : Over) (c : After-index g) → Mem c.run.n c.args.self.now.nodes
held g c =
    let h = c.requires.run in
    let s = c.run.invariant.3 h.before h.run h.behind h.is_run in
    let m = node_in s (omega (arith, h.is_run.counted, c.run-test.true)) in
    let P : List ℕ → Type 0 = λ z. Mem c.run.n z in
    subst P (sym h.is_run.is) (mem_right h.before (h.run ++ h.behind) c.run.n (mem_left h.run h.behind c.run.n m))

pub set_label-requires : goal.set_label-requires
set_label-requires g c =
    let at = goal.at.set_label-requires g c in
    omega (
      arith,
      c.len-count.ensures.within c.run.n (mem_contains c.args.self.now.nodes c.run.n (held g at.After-index)),
      c.run.invariant.2,
      c.index.ensures.value,
    )

pub next-n-requires : goal.next-n-requires
next-n-requires g c =
    let P : List ℕ → Type 0 = λ z. Contains z c.run.n in
    subst P (sym (ap (λ (z : Listed). z.nodes) c.set_label.ensures ∙ c.run.invariant.1))
    (mem_contains c.args.self.now.nodes c.run.n (held g (goal.at.next-n-requires g c).After-index))

pub run-preserved : goal.run-preserved
run-preserved g c =
    let E : ℕ = g.Ix.IndexType.greatest in
    let U : List ℕ → Type 0 = λ z. Unique z in
    let at = goal.at.run-preserved g c in
    let nodes : c.set_label.new.self.nodes ≡ c.args.self.now.nodes =
    ap (λ (z : Listed). z.nodes) c.set_label.ensures ∙ c.run.invariant.1 in
    let labels = ap (λ (z : Listed). z.labels) c.set_label.ensures in (
      omega (arith, c.run.invariant.0, mul_more c.args.gap c.run._i),
      nodes,
      ap (λ (z : List ℕ). length z) labels
          ∙ (length-set c.run.self.labels c.index.result (c.run.label + c.args.gap) ∙ c.run.invariant.2),
      λ before run behind r.
          let s = c.run.invariant.3 before run behind r in
          let left : c.run._i < length run = omega (arith, r.counted, c.run-test.true) in
          let all = unique_from_distinct (E ∷ c.args.self.now.nodes) c.len-count.ensures.distinct in
          let once = subst U r.is all.1 in
          let once_run = unique_left run behind (unique_right before (run ++ behind) once) in
          let within : c.run.n < length c.run.self.labels =
          omega (
            arith,
            c.len-count.ensures.within c.run.n (mem_contains c.args.self.now.nodes c.run.n (held g at.After-index)),
            c.run.invariant.2,
          ) in
          let P : List ℕ → Type 0 = λ z.
          Numbering E c.args.self.now.labels z run behind c.args.low (c.run._i + 1) c.next-n.result
          (c.run.label + c.args.gap) in
          subst P (sym labels) (rw c.index.ensures.value
          (numbers_more s left once_run within c.args.gap c.next-n.result c.requires.some (λ ms is.
          c.next-n.ensures (before ++ s.done) (ms ++ behind)
          (nodes ∙ (r.is ∙ (ap (λ (z : List ℕ). before ++ (z ++ behind))
          (s.split ∙ ap (λ (z : List ℕ). s.done ++ z) is)
          ∙ (ap (λ (z : List ℕ). before ++ z) (append_assoc s.done (c.run.n ∷ ms) behind)
          ∙ sym (append_assoc before s.done (c.run.n ∷ (ms ++ behind)))))))))),
    )

pub returns-clause-ascending : goal.returns-clause-ascending
returns-clause-ascending g c =
    λ before run behind r.
    let s = c.run.invariant.3 before run behind r in
    let ended : c.run._i ≡ c.args.count = omega (arith, c.run-test.false, c.run.auto._i-end) in
    let all : length run ≡ c.run._i = r.counted ∙ sym ended in
    let P : ℕ → Type 0 = λ z. LabelsAscend c.run.self.labels c.args.low run (z + 1) in
    subst P (c.run.invariant.0 ∙ ap (λ z. c.args.low + c.args.gap * z) ended) (all_numbered s all)

pub returns-clause-others : goal.returns-clause-others
returns-clause-others g c = λ before run behind r n d.
    (c.run.invariant.3 before run behind r).others n (λ m. d (mem_contains run n m))
