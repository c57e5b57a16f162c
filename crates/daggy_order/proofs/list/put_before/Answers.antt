use Rattle.std.proofs.Common.{◌≡◌, ◌≢◌, ◌^◌, ℕ, List, [], ◌∷◌, ◌++◌, get_or, refl, sym, ap, subst, inl, inr, ◌∙◌}
use Rattle.std.specs.List.{Contains}
use Rattle.daggy_base.proofs.Lists.{Mem, mem_mid, mem_into, contains_mem, mem_contains, split_at}
use Rattle.daggy_order.specs.Links.{LabelsAscend, IsLabelled}
use Rattle.daggy_order.proofs.LinkedNodes.{before_cases, before_it, put_is}
use Rattle.daggy_order.proofs.Labelled.{labelled_more}
use Rattle.daggy_order.proofs.list.put_before.Given.{Over}
use Rattle.daggy_order.proofs.list.put_before.Goals.{Start, Else-index}
use Rattle.daggy_order.proofs.list.put_before.Goals as goal

-- p is a node
real : (g : Over) (c : Else-index g) → c.previous-p.result ≢ g.Ix.IndexType.greatest
real g c e =
    c.if-index.false (c.index.ensures.value ∙ (e ∙ (sym c.end.ensures.value ∙ sym c.index-2.ensures.value)))

-- where b stands
place : (g : Over) (c : Start g)
    → (ns : List ℕ) × (ms : List ℕ) × (c.args.links.now.nodes ≡ ns ++ c.args.b ∷ ms)
place g c = split_at c.args.links.now.nodes c.args.b (contains_mem c.args.links.now.nodes c.args.b c.requires.held)

pub returns-then-index-clause-nodes : goal.returns-then-index-clause-nodes
returns-then-index-clause-nodes g c ns ms is =
    let nodes : List ℕ = c.args.links.now.nodes in
    let ended : c.previous-p.result ≡ g.Ix.IndexType.greatest =
    sym c.index.ensures.value ∙ (c.if-index.true ∙ (c.index-2.ensures.value ∙ c.end.ensures.value)) in
    elim (before_cases ns c.args.b ms is) [
      | inl none ↦ (
          c.put_first.ensures.nodes
          ∙ (ap (λ (z : List ℕ). c.args.n ∷ z) none.1
          ∙ ap (λ (z : List ℕ). z ++ c.args.n ∷ (c.args.b ∷ ms)) (sym none.0))
          )
      | inr some ↦ (
          let P : List ℕ → Type 0 = λ z. Mem some.1 z in
          let Q : ℕ → Type 0 = λ z. Contains nodes z in
          let there : Mem some.1 nodes = subst P (sym some.3) (mem_mid some.0 (c.args.b ∷ ms) some.1) in
          absurd (c.len-count.ensures.distinct.0
          (subst Q (sym (c.previous-p.ensures.some some.0 ms some.1 some.3) ∙ ended)
          (mem_contains nodes some.1 there)))
          )
    ]

pub put_after-requires-clause-held : goal.put_after-requires-clause-held
put_after-requires-clause-held g c =
    let p : ℕ = c.previous-p.result in
    let at = goal.at.put_after-requires-clause-held g c in
    let b = place g at.Start in
    let w = before_it c.previous-p.ensures.none c.previous-p.ensures.some (real g at.Else-index) b.0 b.1 b.2 in
    let P : List ℕ → Type 0 = λ z. Mem p z in
    mem_contains c.args.links.now.nodes p (subst P (sym w.2) (mem_mid w.0 (c.args.b ∷ b.1) p))

pub returns-else-index-clause-nodes : goal.returns-else-index-clause-nodes
returns-else-index-clause-nodes g c =
    let at = goal.at.returns-else-index-clause-nodes g c in
    (λ ns ms is. c.relabel_run.ensures.nodes
    ∙ put_is c.previous-p.ensures.none c.previous-p.ensures.some (real g at.Else-index) c.put_after.ensures.nodes ns ms is)

pub relabel_run-requires : goal.relabel_run-requires
relabel_run-requires g c =
    let at = goal.at.relabel_run-requires g c in
    let b = place g at.Start in
    let w = before_it c.previous-p.ensures.none c.previous-p.ensures.some (real g at.Else-index) b.0 b.1 b.2 in
    let P : List ℕ → Type 0 = λ z. LabelsAscend c.args.links.now.labels 0 z (2 ^ 64) in
    let Q : List ℕ → Type 0 = λ z. LabelsAscend z 0 (w.0 ++ c.previous-p.result ∷ (c.args.b ∷ b.1)) (2 ^ 64) in
    record {
      before = w.0;
      run = c.args.n ∷ [];
      behind = c.args.b ∷ b.1;
      is = c.put_after.ensures.nodes w.0 (c.args.b ∷ b.1) w.2;
      counted = refl;
      begins = refl;
      ends = refl;
      ascending = subst Q (sym c.put_after.ensures.labels) (subst P w.2 c.requires.labelled.ascending);
    }

pub returns-else-index-clause-labelled : goal.returns-else-index-clause-labelled
returns-else-index-clause-labelled g c =
    let at = goal.at.returns-else-index-clause-labelled g c in
    let b = place g at.Start in
    let is =
    put_is c.previous-p.ensures.none c.previous-p.ensures.some (real g at.Else-index) c.put_after.ensures.nodes
    b.0 b.1 b.2 in
    let Q : List ℕ → Type 0 = λ z. IsLabelled c.relabel_run.new.self.labels z in
    subst Q (sym c.relabel_run.ensures.nodes)
    (labelled_more c.requires.labelled c.relabel_run.new.self.labels c.put_after.new.self.nodes
    c.relabel_run.ensures.ascending
    (λ k d. c.relabel_run.ensures.others k d ∙ ap (λ (z : List ℕ). get_or z k 0) c.put_after.ensures.labels) (λ k m.
    let P : List ℕ → Type 0 = λ z. Mem k z in
    subst P (sym is) (mem_into b.0 (c.args.b ∷ b.1) c.args.n k (subst P b.2 m))))
