use Rattle.std.proofs.Common.{◌≡◌, ◌≢◌, ◌+◌, ◌*◌, ℕ, List, [], ◌++◌, ◌∷◌, length, get_or, sym, ap}
use Rattle.std.proofs.Common.{subst, ◌∙◌, refl, arith, inl, inr}
use Rattle.std.proofs.lemmas.Bool.{cases_eq}
use Rattle.daggy_base.proofs.Lists.{Mem, mem_left, mem_right, contains_mem, mem_contains, unique_from_distinct}
use Rattle.daggy_order.specs.Links.{Listed, LabelsAscend, HasSegment}
use Rattle.daggy_order.proofs.AscendingLabels.{gap_a, gap_run, gap_low, gap_after, gap_high, gap_more, gap_filled}
use Rattle.daggy_order.proofs.list.links.Links.relabel_window.Goals as goal

pub label-low-requires : goal.label-low-requires
label-low-requires g c =
    omega (
      arith,
      c.index.ensures.value,
      c.len-len.ensures.within c.args.a (mem_contains c.args.self.now.nodes c.args.a (gap_a c.requires)),
    )

pub window-init : goal.window-init
window-init g c = (refl, c.requires)

pub label_or_end-high-requires : goal.label_or_end-high-requires
label_or_end-high-requires g c =
    λ real. omega (
      arith,
      c.len-len.ensures.within c.window.behind
          (mem_contains c.args.self.now.nodes c.window.behind (gap_after c.window.invariant.1 real)),
      ap (λ (v : Listed). length v.labels) c.window.invariant.0,
    )

pub gap_between-gap-requires-clause-order : goal.gap_between-gap-requires-clause-order
gap_between-gap-requires-clause-order g c =
    let E : ℕ = g.Ix.IndexType.greatest in
    let s = c.window.invariant.1 in
    let labels : List ℕ = c.args.self.now.labels in
    let low_is : c.label-low.result ≡ get_or labels c.args.a 0 =
    c.label-low.ensures ∙ ap (λ z. get_or labels z 0) c.index.ensures.value in
    let at_node : c.window.behind ≢ E → c.label_or_end-high.result ≡ get_or labels c.window.behind 0 = λ real.
    c.label_or_end-high.ensures.node real
    ∙ ap (λ (v : Listed). get_or v.labels c.window.behind 0) c.window.invariant.0 in
    elim (cases_eq c.window.behind E) [
      | inl is ↦ omega (arith, c.label_or_end-high.ensures.end is, low_is, gap_low s)
      | inr real ↦ omega (arith, at_node real, low_is, gap_high s real)
    ]

pub assign-requires-clause-run : goal.assign-requires-clause-run
assign-requires-clause-run g c =
    let s = c.window.invariant.1 in
    let P : List ℕ → Type 0 = λ z. HasSegment g.Ix.IndexType.greatest z c.args.from c.window.size in
    subst P (sym (ap (λ (v : Listed). v.nodes) c.window.invariant.0))
    record { before = s.before ++ c.args.a ∷ []; run = s.run; behind = s.behind; is_run = gap_run s }

pub returns-then-size-gap-clause-ascending : goal.returns-then-size-gap-clause-ascending
returns-then-size-gap-clause-ascending g c =
    let E : ℕ = g.Ix.IndexType.greatest in
    let s = c.window.invariant.1 in
    let labels : List ℕ = c.args.self.now.labels in
    let low_is : c.label-low.result ≡ get_or labels c.args.a 0 =
    c.label-low.ensures ∙ ap (λ z. get_or labels z 0) c.index.ensures.value in
    let at_node : c.window.behind ≢ E → c.label_or_end-high.result ≡ get_or labels c.window.behind 0 = λ real.
    c.label_or_end-high.ensures.node real
    ∙ ap (λ (v : Listed). get_or v.labels c.window.behind 0) c.window.invariant.0 in
    let run = (rw c.window.invariant.0 at c.assign.ensures.ascending) (s.before ++ c.args.a ∷ []) s.run s.behind (gap_run s) in
    let others = (rw c.window.invariant.0 at c.assign.ensures.others) (s.before ++ c.args.a ∷ []) s.run s.behind (gap_run s) in
    let once = unique_from_distinct (E ∷ c.args.self.now.nodes) c.len-len.ensures.distinct in
    let mid : ℕ = c.label-low.result + c.gap_between-gap.result * c.window.size in
    let P : ℕ → Type 0 = λ z. LabelsAscend c.assign.new.self.labels z s.run (mid + 1) in
    λ _.
    gap_filled s c.assign.new.self.labels mid c.label_or_end-high.result record {
      run = subst P low_is run;
      others = λ k d.
          others k (λ m. d (contains_mem s.run k m));
      fits = c.gap_between-gap.ensures.fits c.if-gap-gt0.true;
      at_end = λ is. omega (arith, c.label_or_end-high.ensures.end is);
      at_node = at_node;
    } once.1 once.0

pub returns-then-size-gap-clause-others : goal.returns-then-size-gap-clause-others
returns-then-size-gap-clause-others g c =
    let s = c.window.invariant.1 in
    λ n d.
    (rw c.window.invariant.0 at c.assign.ensures.others) (s.before ++ c.args.a ∷ []) s.run s.behind (gap_run s) n
    (λ m. d (mem_contains c.args.self.now.nodes n (
    let P : List ℕ → Type 0 = λ z. Mem n z in
    subst P (sym s.is) (mem_right s.before (c.args.a ∷ (s.run ++ s.behind)) n
    (inr (mem_left s.run s.behind n (contains_mem s.run n m)))))))

pub returns-then-index-end-clause-others : goal.returns-then-index-end-clause-others
returns-then-index-end-clause-others g c = λ n d. ap (λ (v : Listed). get_or v.labels n 0) c.window.invariant.0

pub next-behind-requires : goal.next-behind-requires
next-behind-requires g c =
    rw c.window.invariant.0 (mem_contains c.args.self.now.nodes c.window.behind (gap_after c.window.invariant.1
    (λ e. c.if-index-end.false
    (c.index-in-window.ensures.value ∙ (e ∙ sym (c.index-end.ensures.value ∙ c.end.ensures.value))))))

pub window-preserved : goal.window-preserved
window-preserved g c = (
  c.window.invariant.0,
  gap_more c.window.invariant.1 (λ e. c.if-index-end.false
      (c.index-in-window.ensures.value ∙ (e ∙ sym (c.index-end.ensures.value ∙ c.end.ensures.value))))
      c.next-behind.result (rw c.window.invariant.0 at c.next-behind.ensures),
)

pub returns-clause-others : goal.returns-clause-others
returns-clause-others g c = λ n d. ap (λ (v : Listed). get_or v.labels n 0) c.window.invariant.0
