use Rattle.std.proofs.Common.{◌≡◌, ◌≢◌, ◌<◌, Bool, true, false, inl, inr, List, length, get_or, set, sym, ap, subst}
use Rattle.std.proofs.Common.{◌∙◌, arith}
use Rattle.daggy_search.specs.Work.{Work}
use Rattle.daggy_reduction.proofs.Children.{Looking, Marking, looking_edge, looking_whole, looked_low, looked_child, looking_on}
use Rattle.daggy_reduction.proofs.Children.{all_looked, mark_one, marks_grow}
use Rattle.daggy_reduction.proofs.joined_pairs.mark_children.Goals as goal

pub look-v-requires : goal.look-v-requires
look-v-requires g c =
    let here : g.Ix.IndexType.number c.edges.e ≢ g.Ix.IndexType.greatest = λ h. c.edges-test.true cc in
    looking_edge c.requires.well_formed c.edges.invariant.looking here

pub mark-requires : goal.mark-requires
mark-requires g c =
    let here : g.Ix.IndexType.number c.edges.e ≢ g.Ix.IndexType.greatest = λ h. c.edges-test.true cc in
    let low = looked_low c.requires.well_formed c.edges.invariant.looking here c.look-v.ensures.gives in
    let sized = c.edges.invariant.marking.sized in
    omega (arith, low, c.requires.fits, sized, c.index-in-edges.ensures.value)

pub edges-preserved : goal.edges-preserved
edges-preserved g c =
    let here : g.Ix.IndexType.number c.edges.e ≢ g.Ix.IndexType.greatest = λ h. c.edges-test.true cc in
    let v = g.Ix.IndexType.number c.look-v.result.0 in
    let marks = c.edges.work.marked in
    let looking = c.edges.invariant.looking in
    let gives = c.look-v.ensures.gives in
    let sized = c.edges.invariant.marking.sized in
    let low : v < length marks = let under = looked_low c.requires.well_formed looking here gives in
    omega (arith, under, c.requires.fits, sized) in
    let is : c.mark.new.self.marked ≡ set marks v true =
    ap (λ (w : Work). w.marked) c.mark.ensures ∙ ap (λ z. set marks z true) c.index-in-edges.ensures.value in
    let old = g.S.EdgeSource.graph c.args.source.now in
    let u = g.Ix.IndexType.number c.args.u in
    let L : List Bool → Type 0 = λ z.
    Looking g.Ix.IndexType.greatest old (g.S.EdgeSource.graph c.look-v.new.self) u
    (g.Ix.IndexType.number c.look-v.result.1) (g.S.EdgeSource.looks c.args.source.now)
    (g.S.EdgeSource.looks c.look-v.new.self) (λ n. get_or z n false ≡ true) in
    let M : List Bool → Type 0 = λ z. Marking old u c.args.work.now.marked z in
    let grown = marks_grow marks v low in
    record {
      looking =
          subst L (sym is)
          (looking_on c.requires.well_formed looking here gives (λ n. get_or (set marks v true) n false ≡ true)
          c.look-v.ensures.same c.look-v.ensures.counted grown.0 grown.1);
      marking =
          subst M (sym is)
          (mark_one c.edges.invariant.marking v low (looked_child c.requires.well_formed looking here gives));
      size = ap (λ (w : Work). w.size) c.mark.ensures ∙ c.edges.invariant.size;
    }

pub returns-clause-marked : goal.returns-clause-marked
returns-clause-marked g c =
    let at_end : g.Ix.IndexType.number c.edges.e ≡ g.Ix.IndexType.greatest = cc in
    let all = all_looked c.requires.well_formed c.edges.invariant.looking at_end in
    let marking = c.edges.invariant.marking in
    λ n. (marking.only n, λ m. elim m [ inl before ↦ marking.kept n before | inr joined ↦ all n joined ])

pub returns-clause-counted : goal.returns-clause-counted
returns-clause-counted g c = looking_whole c.requires.well_formed c.edges.invariant.looking (cc)
