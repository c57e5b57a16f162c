use Rattle.std.proofs.Common.{encode_utf8_all, [], rules, ◌∙◌, ap, sym, map-id}
use Rattle.std.proofs.lemmas.Iterator.{YieldsList-from_chars}
use Rattle.std.proofs.lemmas.Iterator.Consumers.{YieldsList-end}
use Rattle.std.proofs.lemmas.List.{flat_map_more}
use Rattle.std.proofs.lemmas.Str.{encodes-append}
use Rattle.std.proofs.Output.{has_written_append, has_written_of_eq}
use Rattle.std.specs.List.{flat_map}
use Rattle.daggy_formats.specs.Escapes.{escaped}
use Rattle.daggy_formats.proofs.escaper.write_text.Goals as goal

pub loop-c-preserved : goal.loop-c-preserved
loop-c-preserved g c plain =
    let before = c.loop-c.invariant plain in
    has_written_of_eq _ _ _ _ _
    (sym (encodes-append _ _) ∙ ap encode_utf8_all (flat_map_more g.X.Escape.escaped_char [] c.loop-c.yielded c.in-Some.c))
    (has_written_append _ _ _ _ _ _ before (c.write_char.ensures before.plain (search rules)))

pub returns : goal.returns
unfolding escaped
returns g c plain _ =
    let done = YieldsList-end (YieldsList-from_chars c.args.text.now c.utf8.text cc) c.loop-c.yielded _ c.loop-c.yielded_by _ _ c.in-None.is c.next.ensures.steps in
    has_written_of_eq _ _ _ _ _
    (ap (λ cs. encode_utf8_all (flat_map g.X.Escape.escaped_char cs)) (sym (map-id c.loop-c.yielded) ∙ done.0))
    (c.loop-c.invariant plain)
