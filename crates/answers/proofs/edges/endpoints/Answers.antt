use Rattle.std.proofs.Common.{◌≡◌, ◌≤◌, [], ◌∷◌, ◌++◌, length, Some, None, refl, sym, ap, subst, ◌∙◌, map}
use Rattle.std.specs.Option.{option_map}
use Rattle.std.proofs.lemmas.List.{take_all}
use Rattle.daggy_base.specs.Graph.{edge_at, ends_of, pair_of}
use Rattle.daggy_base.specs.Iterating.{numbered}
use Rattle.answers.proofs.Endpoints.{endpoints_pass, endpoints_skip}
use Rattle.answers.proofs.edges.endpoints.Goals as goal
use Rattle.answers.proofs.edges.endpoints.Goals.{in-Some+in_ok-push, in_default}

pub loop-i-preserved : goal.loop-i-preserved
loop-i-preserved g c =
    let graph = c.args.dag.now.graph in
    let found = edge_at graph c.loop-i.i in
    let number = g.Ix.IndexType.number in
    let read : option_map (pair_of number) c.edge_endpoints.result ≡ option_map ends_of found =
    subst (λ z. option_map (pair_of number) c.edge_endpoints.result ≡ option_map ends_of (edge_at graph z))
    c.new.ensures.number c.edge_endpoints.ensures in
    elim c.match-edge_endpoints.branch [
      | in-Some+in_ok-push w ↦
          let a = w.index.result in
          let b = w.index-in-Some.result in
          let pair : Some (a, b) ≡ option_map ends_of found =
          rw (w.index.ensures.value, w.index-in-Some.ensures.value)
          (subst (λ z. option_map (pair_of number) z ≡ option_map ends_of found) w.in-Some.is read) in
          ap (λ z. z.items) w.pairs-is
          ∙ (w.in_ok-push.ensures.items
          ∙ (ap (λ z. z ++ (a, b) ∷ []) c.loop-i.invariant ∙ sym (endpoints_pass graph c.loop-i.i found refl a b pair)))
      | in_default w ↦
          let none : None ≡ option_map ends_of found =
          subst (λ z. option_map (pair_of number) z ≡ option_map ends_of found) w.in_default.is read in
          ap (λ z. z.items) w.pairs-is
          ∙ (c.loop-i.invariant ∙ sym (endpoints_skip graph c.loop-i.i found refl none))
    ]

pub returns : goal.returns
returns g c =
    let all : length c.args.dag.now.graph.edges ≤ c.loop-i.i =
    subst (λ z. length z.edges ≤ c.loop-i.i) c.graph-graph.ensures.graph
    (subst (λ z. z ≤ c.loop-i.i) c.edge_slots-i-end.ensures c.loop-i-test.false) in
    c.loop-i.invariant
    ∙ ap (λ z. map (λ p. ends_of p.1) (numbered 0 z)) (take_all c.loop-i.i c.args.dag.now.graph.edges all)
