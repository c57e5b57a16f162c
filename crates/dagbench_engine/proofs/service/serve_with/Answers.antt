use Rattle.std.proofs.Common.{sym, ◌∙◌, rules}
use Rattle.dagbench_engine.proofs.Runs.{run_ends, run_serves, run_gives_all, run_tells_read, run_tells_write}
use Rattle.dagbench_engine.proofs.Runs.{run_replies}
use Rattle.dagbench_engine.proofs.service.serve_with.Goals as goal

pub returns-clause-end : goal.returns-clause-end
returns-clause-end g c = run_ends _ _ _ _ _ _ c.run.ensures.run

pub returns-clause-served : goal.returns-clause-served
returns-clause-served g c =
    let name = sym (c.run.ensures.same_sink ∙ c.new-writer.ensures.same_reference) in
    run_serves _ _ _ _ _ _ c.run.ensures.run (search rules) (search rules)

pub returns-clause-whole : goal.returns-clause-whole
returns-clause-whole g c = run_gives_all _ _ _ _ _ _ c.run.ensures.run

pub returns-clause-read : goal.returns-clause-read
returns-clause-read g c = run_tells_read _ _ _ _ _ _ c.run.ensures.run

pub returns-clause-write : goal.returns-clause-write
returns-clause-write g c =
    let name = sym (c.run.ensures.same_sink ∙ c.new-writer.ensures.same_reference) in
    run_tells_write _ _ _ _ _ _ c.run.ensures.run (search rules) (search rules)

pub returns-clause-replied : goal.returns-clause-replied
returns-clause-replied g c =
    let name = sym (c.run.ensures.same_sink ∙ c.new-writer.ensures.same_reference) in
    run_replies _ _ _ _ _ _ c.run.ensures.run (search rules) (search rules)
