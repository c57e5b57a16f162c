use Rattle.std.proofs.Common.{refl, sym, ◌∙◌, rules}
use Rattle.std.proofs.lemmas.Bool.{false≢true}
use Rattle.std.proofs.lemmas.List.{get_or_read}
use Rattle.daggy_json.proofs.WrongHoles.{no_holes, hole_right, hole_wrong, holes_whole}
use Rattle.daggy_json.proofs.reading.layout.find_wrong_hole.Goals as goal

pub loop-i-init : goal.loop-i-init
loop-i-init c = no_holes _ _ _ _ _ refl refl

pub loop-i-preserved : goal.loop-i-preserved
loop-i-preserved c =
    hole_right c.loop-i.invariant c.index-hole.result.now (search rules)
    (get_or_read c.args.holes.now.items _ _ (search rules) c.index-hole.ensures 0)
    (c.is_right.ensures.0 c.if-not-is_right.false) _ refl

pub returns-then-not-is_right : goal.returns-then-not-is_right
returns-then-not-is_right c =
    hole_wrong c.loop-i.invariant c.index-hole.result.now (search rules)
    (get_or_read c.args.holes.now.items _ _ (search rules) c.index-hole.ensures 0)
    (λ right. false≢true (sym c.if-not-is_right.true ∙ c.is_right.ensures.1 right))

pub returns : goal.returns
returns c = holes_whole c.loop-i.invariant (search rules)
