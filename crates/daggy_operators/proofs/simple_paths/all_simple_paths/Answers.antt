use Rattle.std.proofs.Common.{◌≡◌, ◌∙◌, ◌++◌, ◌∷◌, [], ℕ, List, Contains, map, sym, ap, subst}
use Rattle.std.specs.Prelude.{if◌then◌else◌}
use Rattle.daggy_base.specs.Graph.{pair_of}
use Rattle.daggy_operators.specs.SimplePaths.{paths_left, paths_within}
use Rattle.daggy_operators.proofs.PathsListed.{all_left, listed_path, path_listed}
use Rattle.daggy_operators.proofs.Ways.{left_none}
use Rattle.daggy_operators.proofs.simple_paths.all_simple_paths.Given.{Over}
use Rattle.daggy_operators.proofs.simple_paths.all_simple_paths.Goals.{After-is_alone}
use Rattle.daggy_operators.proofs.simple_paths.all_simple_paths.Goals as goal

listed : (g : Over) (c : After-is_alone g)
    → (if c.is_alone.result then (g.Ix.IndexType.number c.args.to ∷ []) ∷ [] else [])
    ++ paths_left (g.S.EdgeSource.graph c.graph-store.result.now) (g.Ix.IndexType.number c.args.to) c.args.limit
    (map (pair_of g.Ix.IndexType.number) c.in_ok-way.way.items)
    ≡ paths_within c.args.dag.now.graph (g.Ix.IndexType.number c.args.to) c.args.limit (g.Ix.IndexType.number c.args.from)
listed g c =
    let graph = g.S.EdgeSource.graph c.graph-store.result.now in
    let from = g.Ix.IndexType.number c.args.from in
    let to = g.Ix.IndexType.number c.args.to in
    let left : List _ → List (List ℕ) = λ z. paths_left graph to c.args.limit (map (pair_of g.Ix.IndexType.number) z) in
    all_left graph from to c.args.limit c.is_alone.result (left c.in_ok-way.way.items) c.is_alone.ensures
    c.in_ok-way.ensures.begun (λ same. ap left (c.in_ok-way.ensures.none same) ∙ left_none graph to c.args.limit)
    ∙ ap (λ z. paths_within z to c.args.limit from) c.graph-store.ensures.graph

pub returns-clause-listed : goal.returns-clause-listed
returns-clause-listed g c = listed g c

pub returns-clause-exact : goal.returns-clause-exact
returns-clause-exact g c path =
    let dag = c.node_count-count.ensures.dag in
    let from = g.Ix.IndexType.number c.args.from in
    let to = g.Ix.IndexType.number c.args.to in (
      λ has. listed_path dag.well_formed dag.acyclic to c.args.limit from path (subst (λ z. Contains z path) (listed g c) has),
      λ is. subst (λ z. Contains z path) (sym (listed g c)) (path_listed dag.well_formed dag.acyclic to c.args.limit from path is),
    )
