-- A parsed line, as what the line asks for.
use Rattle.daggy_base.specs.Requests.{request_of}
use Rattle.dagbench_lines.specs.Commands as line
use Rattle.dagbench_lines.specs.declared.parse.LineRequest.{LineRequest}
use Rattle.dagbench_lines.specs.declared.parse.LineRequest.TheVariants.{Command, Document}

-- a request, as the definitions of lines have it
abbrev pub asked_of : LineRequest → line.LineRequest
asked_of (Command command) = line.Step (request_of (λ i. i) command)
asked_of Document = line.Document
