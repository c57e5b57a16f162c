use Rattle.std.proofs.Common.{◌≡◌, ◌≢◌, true, false, get_or, refl, sym, ap, ◌∙◌, arith}
use Rattle.std.proofs.lemmas.Bool.{false≢true}
use Rattle.daggy_reduction.proofs.Children.{looking_edge, looking_less, looked_low, looked_child, looking_on, all_looked}
use Rattle.daggy_reduction.proofs.joined_pairs.are_children_marked.Goals as goal

pub look-v-requires : goal.look-v-requires
look-v-requires g c =
    let here : g.Ix.IndexType.number c.edges.e ≢ g.Ix.IndexType.greatest = λ h. c.edges-test.true cc in
    looking_edge c.requires.well_formed c.edges.invariant here

pub is_marked-requires : goal.is_marked-requires
is_marked-requires g c =
    let here : g.Ix.IndexType.number c.edges.e ≢ g.Ix.IndexType.greatest = λ h. c.edges-test.true cc in
    let low = looked_low c.requires.well_formed c.edges.invariant here c.look-v.ensures.gives in
    omega (arith, low, c.requires.fits, c.index-in-edges.ensures.value)

pub returns-then-not-is_marked-clause-decided : goal.returns-then-not-is_marked-clause-decided
returns-then-not-is_marked-clause-decided g c =
    let here : g.Ix.IndexType.number c.edges.e ≢ g.Ix.IndexType.greatest = λ h. c.edges-test.true cc in
    let v = g.Ix.IndexType.number c.look-v.result.0 in
    let joined = looked_child c.requires.well_formed c.edges.invariant here c.look-v.ensures.gives in (
      λ t. absurd (false≢true t),
      λ all.
          absurd (false≢true (sym c.if-not-is_marked.true ∙ c.is_marked.ensures
          ∙ ap (λ z. get_or c.args.work.now.marked z false) c.index-in-edges.ensures.value ∙ all v joined)),
    )

pub edges-preserved : goal.edges-preserved
edges-preserved g c =
    let here : g.Ix.IndexType.number c.edges.e ≢ g.Ix.IndexType.greatest = λ h. c.edges-test.true cc in
    let v = g.Ix.IndexType.number c.look-v.result.0 in
    let this : get_or c.args.work.now.marked v false ≡ true =
    sym (ap (λ z. get_or c.args.work.now.marked z false) c.index-in-edges.ensures.value) ∙ sym c.is_marked.ensures
    ∙ c.if-not-is_marked.false in
    looking_on c.requires.well_formed c.edges.invariant here c.look-v.ensures.gives
    (λ n. get_or c.args.work.now.marked n false ≡ true) c.look-v.ensures.same c.look-v.ensures.counted (λ n m. m) this

pub returns-clause-decided : goal.returns-clause-decided
returns-clause-decided g c =
    let at_end : g.Ix.IndexType.number c.edges.e ≡ g.Ix.IndexType.greatest = cc in
    (λ t. all_looked c.requires.well_formed c.edges.invariant at_end, λ all. refl)

pub returns-then-not-is_marked-clause-counted : goal.returns-then-not-is_marked-clause-counted
returns-then-not-is_marked-clause-counted g c =
    omega (
      arith,
      looking_less c.requires.well_formed c.edges.invariant (λ h. c.edges-test.true cc),
      c.edges.invariant.counted,
      c.look-v.ensures.counted,
    )
