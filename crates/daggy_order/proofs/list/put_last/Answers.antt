use Rattle.std.proofs.Common.{◌≡◌, ◌^◌, ℕ, List, [], ◌∷◌, ◌++◌, get_or, sym, ap, subst, ◌∙◌}
use Rattle.daggy_base.proofs.Lists.{Mem, mem_left}
use Rattle.daggy_order.specs.Links.{Listed, IsLabelled, LabelsAscend}
use Rattle.daggy_order.proofs.Labelled.{labelled_more}
use Rattle.daggy_order.proofs.list.put_last.Goals as goal

pub label_last-requires : goal.label_last-requires
label_last-requires g c =
    let P : List ℕ → Type 0 = λ z. LabelsAscend z 0 c.args.links.now.nodes (2 ^ 64) in
    record {
      before = c.args.links.now.nodes;
      is = ap (λ (z : Listed). z.nodes) c.put_last.ensures;
      ends = c.last-last.ensures;
      ascending = subst P (sym (ap (λ (z : Listed). z.labels) c.put_last.ensures)) c.requires.labelled.ascending;
    }

pub returns-clause-labelled : goal.returns-clause-labelled
returns-clause-labelled g c =
    let put : c.put_last.new.self.nodes ≡ c.args.links.now.nodes ++ c.args.n ∷ [] =
    ap (λ (z : Listed). z.nodes) c.put_last.ensures in
    let Q : List ℕ → Type 0 = λ z. IsLabelled c.label_last.new.self.labels z in
    subst Q (sym c.label_last.ensures.nodes)
    (labelled_more c.requires.labelled c.label_last.new.self.labels c.put_last.new.self.nodes
    c.label_last.ensures.ascending
    (λ k d. c.label_last.ensures.others k d ∙ ap (λ (z : Listed). get_or z.labels k 0) c.put_last.ensures) (λ k m.
    let P : List ℕ → Type 0 = λ z. Mem k z in
    subst P (sym put) (mem_left c.args.links.now.nodes (c.args.n ∷ []) k m)))
