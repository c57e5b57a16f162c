use Rattle.std.proofs.Common.{◌≡◌, ◌∙◌, [], refl, sym, ap, subst, map, take, length, rules}
use Rattle.std.proofs.Math.Seq.{take-length}
use Rattle.std.proofs.lemmas.Option.{slice_get_read}
use Rattle.std.specs.List.{IsDistinct}
use Rattle.std.specs.Map.{keys_of}
use Rattle.indexmap.proofs.CallerLemmas.{insert_entry-new}
use Rattle.daggy_named.specs.Keyed.{IsFirstRepeated}
use Rattle.daggy_named.proofs.Slots.{what_is, nothing_is}
use Rattle.daggy_named.proofs.KeyedNodes.{distinct_so_far, repeated_at, read_on}
use Rattle.daggy_named.proofs.named.from_dag.first_repeated.Goals as goal

pub keys-init : goal.keys-init
keys-init g c =
    let none : c.in_ok-seen.seen.entries ≡ [] = search rules in
    record {
      read = ap (λ l. map (λ r. r.now) (keys_of l)) none;
      once = search rules;
    }

pub returns-then-is_some-clause-some : goal.returns-then-is_some-clause-some
returns-then-is_some-clause-some g c j is =
    let here : c.keys.i ≡ j = search rules in
    subst (IsFirstRepeated g.K.PartialEq.eq c.args.keys.now) here
    (repeated_at (λ r. r.now) g.K.PartialEq.eq c.args.keys.now c.keys.i c.keys.seen.entries c.keys.invariant.read
    c.keys.invariant.once c.index-keys-i.result
    (slice_get_read c.args.keys.now _ c.keys.i c.index-keys-i.result refl (search rules) c.index-keys-i.is)
    (sym c.in_ok-old.ensures.old ∙ (what_is c.in_ok-old.old (search rules)).1))

pub keys-preserved : goal.keys-preserved
keys-preserved g c =
    let none = nothing_is c.in_ok-old.old (search rules) in
    record {
      read =
          read_on (λ r. r.now) g.K.PartialEq.eq c.args.keys.now c.keys.i c.keys.seen.entries c.keys.invariant.read
          c.keys.invariant.once _
          (c.in_ok-old.ensures.entries
          ∙ insert_entry-new _ c.keys.seen _ _ (sym c.in_ok-old.ensures.old ∙ none))
          (slice_get_read c.args.keys.now _ c.keys.i c.index-keys-i.result refl (search rules) c.index-keys-i.is);
      once = search rules;
    }

pub returns-clause-none : goal.returns-clause-none
returns-clause-none g c none =
    let all : c.keys.i ≡ length c.args.keys.now = search rules in
    subst (IsDistinct g.K.PartialEq.eq) (ap (λ n. take n c.args.keys.now) all ∙ take-length c.args.keys.now)
    (distinct_so_far (λ r. r.now) g.K.PartialEq.eq c.args.keys.now c.keys.i c.keys.seen.entries c.keys.invariant.read
    c.keys.invariant.once)
