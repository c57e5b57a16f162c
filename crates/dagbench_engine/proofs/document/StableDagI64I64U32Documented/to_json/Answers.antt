use Rattle.std.proofs.Common.{sym, ap, ◌∙◌}
use Rattle.serde_json.specs.Data.{number}
use Rattle.serde_json.specs.Find.{of_integer}
use Rattle.dagbench_engine.proofs.Documents.{document_made}
use Rattle.dagbench_engine.proofs.document.StableDagI64I64U32Documented.to_json.Goals as goal

pub returns : goal.returns
returns c =
    rw c.ok.ensures.value
    (document_made (λ w d is. sym is.2 ∙ (is.1.says.met ∙ ap (λ w. number (of_integer w)) is.1.shows))
    c.stable_to_json.result c.args.self.now.graph c.stable_to_json.ensures.document)
