use Rattle.std.proofs.Common.{◌∙◌, sym, subst, arith}
use Rattle.std.proofs.lemmas.Bool.{false≢true}
use Rattle.daggy_visit.specs.Visit.{HasPair}
use Rattle.daggy_operators.proofs.Pairs.{shows_none, shows_past, shows_more, shows_too_many, shows_row, lists_all, decide_pair}
use Rattle.daggy_operators.proofs.closure.pair_slots.Given.{Over}
use Rattle.daggy_operators.proofs.closure.pair_slots.Goals.{Else-not-has}
use Rattle.daggy_operators.proofs.closure.pair_slots.Goals as goal

-- the matrix has the pair that is looked at
has_it : (g : Over) (c : Else-not-has g) → HasPair c.args.matrix.now c.parents.i c.children.k
has_it g c =
    let has = c.has.ensures.0 c.if-not-has.false in
    subst (λ z. HasPair c.args.matrix.now z c.children.k) c.new-parent.ensures.number
    (subst (HasPair c.args.matrix.now (g.Ix.IndexType.number c.new-parent.result)) c.new-child.ensures.number has)

pub parents-init : goal.parents-init
parents-init g c =
    shows_none g.Ix.IndexType.number (HasPair c.args.matrix.now) g.Ix.IndexType.greatest c.new-slots.result.items c.new-slots.ensures.items

pub children-preserved-then-not-has : goal.children-preserved-then-not-has
children-preserved-then-not-has g c =
    let Has = HasPair c.args.matrix.now in
    shows_past g.Ix.IndexType.number Has g.Ix.IndexType.greatest c.parents.i c.children.k c.children.slots.items c.children.invariant
    (λ has. false≢true (sym c.if-not-has.true ∙ c.has.ensures.1
    (subst (λ z. Has z (g.Ix.IndexType.number c.new-child.result)) (sym c.new-parent.ensures.number)
    (subst (Has c.parents.i) (sym c.new-child.ensures.number) has))))

pub returns-then-len-greatest-clause-full : goal.returns-then-len-greatest-clause-full
returns-then-len-greatest-clause-full g c _ =
    shows_too_many g.Ix.IndexType.number (HasPair c.args.matrix.now) g.Ix.IndexType.greatest c.parents.i c.children.k
    c.children.slots.items c.children.invariant c.args.bound c.requires.within (decide_pair c.args.matrix.now)
    (omega (arith, c.parents-test.true)) (omega (arith, c.children-test.true))
    (has_it g (goal.at.returns-then-len-greatest-clause-full g c).Else-not-has)
    (omega (arith, c.if-len-greatest.true, c.len.ensures, c.index-greatest.ensures.value, c.end.ensures.number, c.children.slots.ok.0))

pub children-preserved : goal.children-preserved
children-preserved g c =
    shows_more g.Ix.IndexType.number (HasPair c.args.matrix.now) g.Ix.IndexType.greatest c.parents.i c.children.k
    c.children.slots.items c.children.invariant c.new-parent.result c.new-child.result c.new-parent.ensures.number
    c.new-child.ensures.number (has_it g (goal.at.children-preserved g c).Else-not-has)
    (λ full. c.if-len-greatest.false (omega (arith, full, c.len.ensures, c.index-greatest.ensures.value, c.end.ensures.number, c.children.slots.ok.0)))
    c.push.new.self.items c.in-Ok.ensures.items

pub parents-preserved : goal.parents-preserved
parents-preserved g c =
    shows_row g.Ix.IndexType.number (HasPair c.args.matrix.now) g.Ix.IndexType.greatest c.parents.i c.children.k
    c.children.slots.items c.children.invariant c.args.bound c.requires.within (omega (arith, c.children-test.false))

pub returns-clause-pairs : goal.returns-clause-pairs
returns-clause-pairs g c =
    let s = c.parents.invariant in (
      s.pairs,
      lists_all (HasPair c.args.matrix.now) c.args.bound c.requires.within c.parents.i s.pairs
          (omega (arith, c.parents-test.false)) s.listed,
      s.shown,
    )
