use Rattle.dagbench_engine.proofs.Documents.{document_written}
use Rattle.dagbench_engine.proofs.document.document_text.Goals as goal

pub returns : goal.returns
returns g c =
    rw c.ok.ensures.value
    (document_written (λ b. b.items) c.to_vec.result _ _ c.in_ok-document.ensures c.to_vec.ensures.text)
