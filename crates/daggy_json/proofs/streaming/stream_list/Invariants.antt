use Rattle.std.proofs.Common.{ℕ, ◌-◌, length, take}
use Rattle.daggy_base.specs.Graph.{list_at}
use Rattle.daggy_base.specs.Ordered.{place}
use Rattle.daggy_json.specs.Document.{whole}
use Rattle.daggy_json.specs.Passing.{Writes, AreTokensOf}
use Rattle.daggy_visit.proofs.ListCursors.{IsAt}
use Rattle.daggy_json.proofs.TokenTrees.{Each}
use Rattle.daggy_json.proofs.streaming.stream_list.Given as goal

abbrev pub invariant-edges : goal.invariant-edges
invariant-edges g l =
    let list = list_at l.dir (g.S.EdgeSource.graph l.store) (g.Ix.IndexType.number l.fn.n) in
    (k : ℕ) × IsAt g.Ix.IndexType.greatest list k (g.Ix.IndexType.number l.e)
    × Writes g.W.Write.contents l.initial.out l.out (Each (λ n us. AreTokensOf (whole n) us) (take k list))

abbrev pub decreases-edges : goal.decreases-edges
decreases-edges g l =
    let list = list_at l.dir (g.S.EdgeSource.graph l.store) (g.Ix.IndexType.number l.fn.n) in
    length list - place list (g.Ix.IndexType.number l.e)
