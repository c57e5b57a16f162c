use Rattle.std.proofs.Common.{◌≡◌, ◌+◌, List, [], ◌∷◌, ◌++◌, take, Some, option_map, option_and_then, string_bytes, refl}
use Rattle.std.proofs.Common.{sym, ap, ap₂, ◌∙◌, subst, arith, rules, append_assoc, append-nil}
use Rattle.std.proofs.lemmas.List.{take_more, take_all}
use Rattle.std.specs.List.Sorted.{IsStrictlySortedBy}
use Rattle.std.specs.Map.{keys_of}
use Rattle.std.specs.String.{string_cmp}
use Rattle.json.specs.Token as token
use Rattle.json.specs.Token.{Token}
use Rattle.json.specs.Json as json
use Rattle.json.specs.Tree as tree
use Rattle.serde_json.specs.Data.{null, boolean, number, string, object, put, members_depth}
use Rattle.serde_json.specs.Read.{of_members}
use Rattle.serde_json.specs.View.{view, number_view, members_view}
use Rattle.serde_json.specs.Written.{members_outline, WritesMembers}
use Rattle.serde_json.specs.declared.value.Value.{Value, the_lemmas}
use Rattle.serde_json.proofs.Views.{Entry, view-Array, view-Object, put_last}
use Rattle.daggy_json.specs.Passing.{Passes, Writes, AreTokensOf}
use Rattle.daggy_json.proofs.PassedTokens.{passes_none, passes_then}
use Rattle.daggy_json.proofs.TokenTrees.{Each}
use Rattle.daggy_json.proofs.WrittenTokens.{writes_none, writes_more, writes_array_of}
use Rattle.daggy_json.proofs.ValueTokens.{null_tokens, bool_tokens, string_tokens}
use Rattle.daggy_json.proofs.values.+write_value.Goals as goal

pub write_value-returns-in-Null : goal.write_value-returns-in-Null
write_value-returns-in-Null g t c =
    let seen : null ≡ view c.args.value.now = rw c.in-Null.is (search (rules, the_lemmas)) in
    (_, subst (λ d. AreTokensOf d (token.null ∷ [])) seen null_tokens, c.token.ensures)

pub write_value-returns-in-Bool : goal.write_value-returns-in-Bool
write_value-returns-in-Bool g t c =
    let seen : boolean c.in-Bool.b ≡ view c.args.value.now = rw c.in-Bool.is (search (rules, the_lemmas)) in
    (_, subst (λ d. AreTokensOf d (token.boolean c.in-Bool.b ∷ [])) seen (bool_tokens c.in-Bool.b), c.token-in-Bool.ensures)

pub write_value-returns-in-String : goal.write_value-returns-in-String
write_value-returns-in-String g t c =
    let s = c.as_str.result.now in
    let seen : string s ≡ view c.args.value.now = rw c.in-String.is (search (rules, the_lemmas)) in
    (_, subst (λ d. AreTokensOf d (token.string s ∷ [])) seen (string_tokens s), c.token-in-String.ensures)

pub write_value-returns-in-Number : goal.write_value-returns-in-Number
write_value-returns-in-Number g t c =
    let seen : number (number_view c.in-Number.number) ≡ view c.args.value.now = rw c.in-Number.is (search (rules, the_lemmas)) in
    let w = c.write_number.ensures in
    (w.0, subst (λ d. AreTokensOf d w.0) seen w.1, w.2)

pub write_value-returns-in-Array : goal.write_value-returns-in-Array
write_value-returns-in-Array g t c =
    let seen = ap view c.in-Array.is ∙ view-Array c.in-Array.items in
    let w = c.write_items.ensures in
    (w.0, subst (λ d. AreTokensOf d w.0) (sym seen) w.1, w.2)

pub write_value-returns-in-Object : goal.write_value-returns-in-Object
write_value-returns-in-Object g t c =
    let seen = ap view c.in-Object.is ∙ view-Object c.in-Object.members in
    let w = c.write_members.ensures in
    (w.0, subst (λ d. AreTokensOf d w.0) (sym seen) w.1, w.2)

abbrev IsItem : Value → List Token → Type 0
IsItem v us = AreTokensOf (view v) us

pub write_items-loop-item-init : goal.write_items-loop-item-init
write_items-loop-item-init g t c = writes_none IsItem c.begin_array.new.self

pub write_items-loop-item-preserved : goal.write_items-loop-item-preserved
write_items-loop-item-preserved g t c =
    let l = c.loop-item in
    let xs = c.deref-item-items.result.now in
    let x = c.item-item.result in
    let more : take (l.item-index + 1) xs ≡ take l.item-index xs ++ x ∷ [] =
    take_more xs l.item-index x (omega arith) ∙ ap (λ y. take l.item-index xs ++ y ∷ []) (sym c.item-item.is) in
    writes_more IsItem (take l.item-index xs) x more l.invariant c.write_value.ensures

pub write_items-returns : goal.write_items-returns
write_items-returns g t c =
    let l = c.loop-item in
    let xs = c.deref-item-items.result.now in
    let all : take l.item-index xs ≡ xs = take_all l.item-index xs (omega arith) in
    let same : xs ≡ c.args.items.now.items = c.deref-item-items.ensures.value in
    let written = subst (λ ys. Writes g.W.Write.contents c.begin_array.new.self l.out (Each IsItem ys)) (all ∙ same) l.invariant in
    writes_array_of view c.args.items.now.items c.begin_array.ensures written c.token.ensures

pub write_members-loop-key-init : goal.write_members-loop-key-init
write_members-loop-key-init g t c =
    let left : c.into_iter-key-iterator.result ≡ c.args.members.now.entries =
    c.into_iter-key-iterator.ensures.into_iter_gives ∙ c.iter-key-items.ensures.rest in (
      [],
      sym left,
      (
        [],
        (λ ms reads shallow same. (
          ms,
          refl,
          reads,
          omega (arith, shallow, ap (λ es. members_depth (members_view es)) left),
          same ∙ ap (λ es. members_outline (members_view es)) left,
        )),
        passes_none c.token.new.self,
      ),
    )

pub write_members-loop-key-preserved : goal.write_members-loop-key-preserved
write_members-loop-key-preserved g t c =
    let l = c.loop-key in
    let done = l.invariant.0 in
    let e : Entry = (c.in-Some.key.now, c.in-Some.member.now) in
    let k = string_bytes c.in-Some.key.now in
    let left = c.next.new.self in
    let step : l.key-iterator ≡ e ∷ left = c.in-Some.ensures.steps in
    let all : c.args.members.now.entries ≡ done ++ e ∷ left = l.invariant.1 ∙ ap (λ es. done ++ es) step in
    let last = put_last done e left
    (subst (λ es. IsStrictlySortedBy string_cmp (keys_of es)) all c.iter-key-items.ensures.ordered) in
    let so_far = l.invariant.2 in
    let named = subst (λ s. Passes g.W.Write.contents l.out c.token-in-loop-key.new.self (token.key s ∷ []))
    c.as_str.ensures.value c.token-in-loop-key.ensures in
    let w = c.write_value.ensures in
    let j = w.1.0 in (
      done ++ e ∷ [],
      all ∙ sym (append_assoc done (e ∷ []) left),
      (
        so_far.0 ++ (token.key k ∷ w.0),
        (λ ms reads shallow same.
            let tokens : so_far.0 ++ tree.members_tokens (json.member k j ms)
            ≡ (so_far.0 ++ (token.key k ∷ w.0)) ++ tree.members_tokens ms =
            ap (λ ts. so_far.0 ++ (token.key k ∷ (ts ++ tree.members_tokens ms))) (sym w.1.1)
            ∙ sym (append_assoc so_far.0 (token.key k ∷ w.0) (tree.members_tokens ms)) in
            subst (WritesMembers (members_view c.args.members.now.entries) []) tokens
            (so_far.1 (json.member k j ms)
            (ap (option_and_then (λ d. of_members ms (put k d (members_view done)))) w.1.2 ∙ ap (of_members ms) last ∙ reads)
            (omega (arith, w.1.3, shallow, ap (λ es. members_depth (members_view es)) step))
            (ap₂ (json.member k) w.1.4 same ∙ ap (λ es. members_outline (members_view es)) (sym step)))),
        passes_then so_far.2 (passes_then named w.2),
      ),
    )

pub write_members-returns : goal.write_members-returns
write_members-returns g t c =
    let l = c.loop-key in
    let done = l.invariant.0 in
    let all : c.args.members.now.entries ≡ done =
    l.invariant.1 ∙ ap (λ es. done ++ es) c.in-None.ensures.steps.0 ∙ append-nil done in
    let so_far = l.invariant.2 in
    let w = so_far.1 json.no_members (ap (λ es. Some (members_view es)) (sym all)) (omega arith)
    (ap (λ es. members_outline (members_view es)) (sym c.in-None.ensures.steps.0)) in (
      token.begin_object ∷ (so_far.0 ++ token.end_object ∷ []),
      (
        json.object w.0,
        ap (λ ts. token.begin_object ∷ ts) w.1,
        ap (option_map object) w.2,
        omega (arith, w.3),
        ap json.object w.4,
      ),
      passes_then c.token.ensures (passes_then so_far.2 c.token-2.ensures),
    )
