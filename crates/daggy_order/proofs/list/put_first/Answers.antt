use Rattle.std.proofs.Common.{◌≡◌, ◌^◌, ℕ, List, ◌∷◌, get_or, sym, ap, subst, inr, ◌∙◌}
use Rattle.daggy_base.proofs.Lists.{Mem}
use Rattle.daggy_order.specs.Links.{Listed, IsLabelled, LabelsAscend}
use Rattle.daggy_order.proofs.Labelled.{labelled_more}
use Rattle.daggy_order.proofs.list.put_first.Goals as goal

pub label_first-requires : goal.label_first-requires
label_first-requires g c =
    let P : List ℕ → Type 0 = λ z. LabelsAscend z 0 c.args.links.now.nodes (2 ^ 64) in
    record {
      behind = c.args.links.now.nodes;
      is = ap (λ (z : Listed). z.nodes) c.put_first.ensures;
      begins = c.first-first.ensures;
      ascending = subst P (sym (ap (λ (z : Listed). z.labels) c.put_first.ensures)) c.requires.labelled.ascending;
    }

pub returns-clause-labelled : goal.returns-clause-labelled
returns-clause-labelled g c =
    let put : c.put_first.new.self.nodes ≡ c.args.n ∷ c.args.links.now.nodes =
    ap (λ (z : Listed). z.nodes) c.put_first.ensures in
    let Q : List ℕ → Type 0 = λ z. IsLabelled c.label_first.new.self.labels z in
    subst Q (sym c.label_first.ensures.nodes)
    (labelled_more c.requires.labelled c.label_first.new.self.labels c.put_first.new.self.nodes
    c.label_first.ensures.ascending
    (λ k d. c.label_first.ensures.others k d ∙ ap (λ (z : Listed). get_or z.labels k 0) c.put_first.ensures) (λ k m.
    let P : List ℕ → Type 0 = λ z. Mem k z in
    subst P (sym put) (inr m)))
