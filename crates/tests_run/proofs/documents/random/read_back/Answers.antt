use Rattle.std.proofs.Common.{refl, rules}
use Rattle.std.proofs.lemmas.Result.{IfOk-at_ok, MatchResult-at_ok}
use Rattle.daggy_json.proofs.RestoredDag.{document_again}
use Rattle.tests_run.proofs.Weights.{read_again}
use Rattle.tests_run.proofs.documents.random.read_back.Goals as goal

pub returns : goal.returns
returns g c =
    let doc = IfOk-at_ok _ c.made-value.ensures c.dag_to_json.ensures.document in
    MatchResult-at_ok _ _ _ c.made.ensures (c.dag_from_json.ensures.restored c.args.dag.now.graph
    c.node_count-dag.ensures.dag (c.node_count-dag.ensures.compact refl)
    (document_again _ _ _ _
    (λ w d wr o rd.
    read_again wr.0 (search (rules, wr.1.says.met)) wr.1.shows wr.2 (search (rules, rd.1.says.met))
    rd.1.shows rd.2)
    (λ w d wr o rd.
    read_again wr.0 (search (rules, wr.1.says.met)) wr.1.shows wr.2 (search (rules, rd.1.says.met))
    rd.1.shows rd.2)
    c.args.dag.now.graph _ doc))
