use Rattle.std.proofs.Common.{Some, None, refl, rules}
use Rattle.std.proofs.lemmas.Option.{same_Some, none-some}
use Rattle.daggy_json.proofs.ReadBack.{read_back}
use Rattle.example_callers.specs.Documents.{HasSameText}
use Rattle.example_callers.proofs.Texts.{text_again}
use Rattle.example_callers.proofs.documents.read_back.Goals as goal

pub returns : goal.returns
returns c =
    let v = c.in-Ok.ensures.values in
    read_back _ _ _ _ (λ d. d.graph) v c.dag_from_json.result HasSameText HasSameText
    (c.dag_from_json.ensures.restored_shape v.values v.dag (v.compact refl) v.document)
    (λ w d x wr rd.
    same_Some _ _
    (text_again wr.0 (Some x) wr.1.shows wr.2 rd.1.shows rd.2 (search (rules, wr.1.says.met))
    (search (rules, rd.1.says.met))))
    (λ w d x wr rd.
    same_Some _ _
    (text_again wr.0 (Some x) wr.1.shows wr.2 rd.1.shows rd.2 (search (rules, wr.1.says.met))
    (search (rules, rd.1.says.met))))
    (λ w d wr rd.
    none-some _
    (text_again wr.0 None wr.1.shows wr.2 rd.1.shows rd.2 (search (rules, wr.1.says.met)) (search (rules, rd.1.says.met))))
    (λ w d wr rd.
    none-some _
    (text_again wr.0 None wr.1.shows wr.2 rd.1.shows rd.2 (search (rules, wr.1.says.met)) (search (rules, rd.1.says.met))))
