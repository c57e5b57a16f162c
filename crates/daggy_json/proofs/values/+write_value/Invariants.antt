use Rattle.std.proofs.Common.{◌≡◌, ◌≤◌, List, [], ◌++◌, take, Some}
use Rattle.json.specs.Json as json
use Rattle.json.specs.Tree as tree
use Rattle.serde_json.specs.Data.{members_depth}
use Rattle.serde_json.specs.Read.{of_members}
use Rattle.serde_json.specs.View.{view, members_view}
use Rattle.serde_json.specs.Written.{blank_members, members_outline, WritesMembers}
use Rattle.serde_json.proofs.Views.{Entry}
use Rattle.daggy_json.specs.Passing.{Writes, AreTokensOf}
use Rattle.daggy_json.proofs.TokenTrees.{Each}
use Rattle.daggy_json.proofs.values.+write_value.Given as goal

abbrev pub invariant-write_items-loop-item : goal.invariant-write_items-loop-item
invariant-write_items-loop-item g l =
    Writes g.W.Write.contents l.initial.out l.out (Each (λ v us. AreTokensOf (view v) us) (take l.item-index l.item-items))

-- whatever ends the object well from here ends it well from the start
abbrev pub invariant-write_members-loop-key : goal.invariant-write_members-loop-key
invariant-write_members-loop-key g l =
    let all = members_view l.members.entries in
    (done : List Entry) × (l.members.entries ≡ done ++ l.key-iterator)
    × Writes g.W.Write.contents l.initial.out l.out (λ ts. (ms : json.Members) → of_members ms (members_view done) ≡ Some all
    → tree.members_depth ms ≤ members_depth (members_view l.key-iterator)
    → blank_members ms ≡ members_outline (members_view l.key-iterator)
    → WritesMembers all [] (ts ++ tree.members_tokens ms))
