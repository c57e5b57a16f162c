use Rattle.std.proofs.Common.{inl, rules}
use Rattle.dagbench_engine.proofs.Documents.{document_told, no_memory_told}
use Rattle.dagbench_engine.proofs.document.put_document.Goals as goal

pub returns-in_default : goal.returns-in_default
returns-in_default g c = (no_memory_told _ _ _ _ c.put.ensures.0, c.put.ensures.1)

pub returns : goal.returns
returns g c =
    let put = rw c.as_slice.ensures.value at c.in_ok-put.ensures.0 in
    (document_told _ _ _ _ _ c.in-Some.text.items (inl c.in-Some.ensures) put c.put-3.ensures.0, search rules)
