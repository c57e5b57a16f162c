use Rattle.std.proofs.Common.{◌∙◌, ◌++◌, ◌∷◌, [], ap, sym, rules, encode_utf8_all, map-id}
use Rattle.std.proofs.lemmas.Iterator.{YieldsList-from_chars}
use Rattle.std.proofs.lemmas.Iterator.Consumers.{YieldsList-end}
use Rattle.std.proofs.lemmas.Str.{encodes-append}
use Rattle.std.proofs.Output.{has_written_append, has_written_of_eq, writes_in_calls_nil}
use Rattle.daggy_dot.specs.Escapes.{piece, next_left, run, left_after}
use Rattle.daggy_dot.proofs.Quoting.{run_append, left_append, run_none, left_none, run_one, left_one}
use Rattle.daggy_dot.proofs.escapes.write_run.Goals as goal

pub loop-c-init : goal.loop-c-init
loop-c-init g c =
    record {
      left = sym (left_none _);
      written = λ plain.
          has_written_of_eq _ _ _ _ _ (sym (ap encode_utf8_all (run_none _))) (record { wrote = writes_in_calls_nil _ _; plain = plain });
    }

pub loop-c-preserved : goal.loop-c-preserved
loop-c-preserved g c =
    let w = c.loop-c.invariant in
    let left = c.args.left.now in
    let seen = c.loop-c.yielded in
    let x = c.in-Some.c in
    record {
      left = c.next_left.ensures ∙ ap next_left w.left ∙ sym (left_one (left_after left seen) x) ∙ sym (left_append left seen (x ∷ []));
      written = λ plain.
          let before = w.written plain in
          has_written_of_eq _ _ _ _ _
          (sym (encodes-append _ _)
          ∙ ap encode_utf8_all
          (ap (λ k. run left seen ++ piece k x) w.left
          ∙ ap (λ l. run left seen ++ l) (sym (run_one (left_after left seen) x))
          ∙ sym (run_append left seen (x ∷ []))))
          (has_written_append _ _ _ _ _ _ before (c.write_next.ensures before.plain (search rules)));
    }

pub returns-clause-written : goal.returns-clause-written
returns-clause-written g c plain _ =
    let done = YieldsList-end (YieldsList-from_chars c.args.text.now c.utf8.text cc) c.loop-c.yielded _ c.loop-c.yielded_by _ _ c.in-None.is c.next.ensures.steps in
    has_written_of_eq _ _ _ _ _
    (ap (λ cs. encode_utf8_all (run c.args.left.now cs)) (sym (map-id c.loop-c.yielded) ∙ done.0))
    (c.loop-c.invariant.written plain)

pub returns-clause-left : goal.returns-clause-left
returns-clause-left g c =
    let done = YieldsList-end (YieldsList-from_chars c.args.text.now c.utf8.text cc) c.loop-c.yielded _ c.loop-c.yielded_by _ _ c.in-None.is c.next.ensures.steps in
    c.loop-c.invariant.left ∙ ap (λ cs. left_after c.args.left.now cs) (sym (map-id c.loop-c.yielded) ∙ done.0)
