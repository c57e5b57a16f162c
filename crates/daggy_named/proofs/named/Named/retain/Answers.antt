use Rattle.std.proofs.Common.{◌≡◌, ◌∙◌, ◌-◌, ◌+◌, Some, length, sym, ap, arith, rules}
use Rattle.std.proofs.lemmas.List.{length-map}
use Rattle.std.specs.Prelude.{option_and_then}
use Rattle.daggy_base.specs.Graph.{node_weight}
use Rattle.daggy_named.specs.Naming.{key_at}
use Rattle.daggy_named.specs.Places.{key_in}
use Rattle.daggy_named.specs.Retained.{keyed_of, without_named}
use Rattle.daggy_named.proofs.KeptByKey.{length_keyed, no_key_here, no_weight_here, asked_none, asked_vacant, may_ask}
use Rattle.daggy_named.proofs.KeptByKey.{asked_stays, asked_removed, all_asked_of}
use Rattle.daggy_named.proofs.Slots.{same_length}
use Rattle.daggy_named.proofs.named.Named.retain.Given.{Over}
use Rattle.daggy_named.proofs.named.Named.retain.Goals.{After-node_count-count, After-new-n, In-Some-key_of}
use Rattle.daggy_named.proofs.named.Named.retain.Goals as goal

-- as many slots as keys, and as nodes
keyed_long : (g : Over) (c : After-node_count-count g) → length (keyed_of c.args.self.now) ≡ length c.args.self.now.keys
keyed_long g c =
    length_keyed c.args.self.now.keys c.args.self.now.graph.nodes
    (same_length c.args.self.now.keys c.args.self.now.graph.nodes c.node_count-count.ensures.named.exact)

pub nodes-init : goal.nodes-init
nodes-init g c =
    let places = c.self.inside.places in
    asked_none (goal.F-pre g) (goal.F-step g) c.args.keep c.args.self.now c.requires c.len-slot.result
    (keyed_long g (goal.at.nodes-init g c).After-node_count-count
    ∙ (sym (ap (λ z. length z.keys) c.self.view_is)
    ∙ (length-map places.items (option_and_then (key_in c.self.inside.nodes.entries))
    ∙ omega (arith, c.len-slot.ensures, places.ok.0))))

pub new-n-requires : goal.new-n-requires
new-n-requires g c =
    let s = c.args.self.now in
    omega (
      arith,
      c.nodes-test.true,
      c.nodes.invariant.turns.low,
      keyed_long g (goal.at.new-n-requires g c).After-node_count-count,
      same_length s.keys s.graph.nodes c.node_count-count.ensures.named.exact,
      c.node_count-count.ensures.dag.well_formed.few_nodes,
    )

-- the slot, the key and the weight of the node
one : (g : Over) (c : After-new-n g) → c.nodes.slot ≡ c.nodes.slot - 1 + 1
one g c = omega (arith, c.nodes-test.true)

key_is : (g : Over) (c : In-Some-key_of g) → Some c.in-Some-key_of.key.now ≡ key_at c.nodes.self.keys (c.nodes.slot - 1)
key_is g c = c.in-Some-key_of.ensures ∙ ap (λ z. key_at c.nodes.self.keys z) c.new-n.ensures.number

weight_is : (g : Over) (c : In-Some-key_of g) → Some c.in-Some.weight.now ≡ node_weight c.nodes.self.graph (c.nodes.slot - 1)
weight_is g c =
    c.in-Some.ensures
    ∙ (ap (λ z. node_weight z (g.Ix.IndexType.number c.new-n.result)) c.dag.ensures
    ∙ ap (λ z. node_weight c.nodes.self.graph z) c.new-n.ensures.number)

pub keep-requires : goal.keep-requires
keep-requires g c =
    let at = goal.at.keep-requires g c in
    may_ask (goal.F-pre g) (goal.F-step g) c.args.keep c.args.self.now _ (one g at.After-new-n) c.nodes.invariant
    c.in-Some-key_of.key c.in-Some.weight (key_is g at.In-Some-key_of) (weight_is g at.In-Some-key_of)

pub nodes-preserved-then-not-keep : goal.nodes-preserved-then-not-keep
nodes-preserved-then-not-keep g c =
    let at = goal.at.nodes-preserved-then-not-keep g c in
    asked_removed (goal.F-pre g) (goal.F-step g) c.args.keep c.args.self.now _ (one g at.After-new-n) c.nodes.invariant
    c.in-Some-key_of.key c.in-Some.weight (key_is g at.In-Some-key_of) (weight_is g at.In-Some-key_of) c.keep.new.self
    (search rules) c.remove_at.new.self
    (c.remove_at.ensures.removed ∙ ap (without_named c.nodes.self) c.new-n.ensures.number)

pub nodes-preserved-else-not-keep : goal.nodes-preserved-else-not-keep
nodes-preserved-else-not-keep g c =
    let at = goal.at.nodes-preserved-else-not-keep g c in
    asked_stays (goal.F-pre g) (goal.F-step g) c.args.keep c.args.self.now _ (one g at.After-new-n) c.nodes.invariant
    c.in-Some-key_of.key c.in-Some.weight (key_is g at.In-Some-key_of) (weight_is g at.In-Some-key_of) c.keep.new.self
    (search rules)

pub nodes-preserved-in_default-key_of : goal.nodes-preserved-in_default-key_of
nodes-preserved-in_default-key_of g c =
    let at = goal.at.nodes-preserved-in_default-key_of g c in
    asked_vacant (goal.F-pre g) (goal.F-step g) c.args.keep c.args.self.now _ (one g at.After-new-n) c.nodes.invariant
    (no_key_here c.nodes.self (c.nodes.slot - 1)
    (c.in_default-key_of.ensures ∙ ap (λ z. key_at c.nodes.self.keys z) c.new-n.ensures.number))

pub nodes-preserved : goal.nodes-preserved
nodes-preserved g c =
    let at = goal.at.nodes-preserved g c in
    asked_vacant (goal.F-pre g) (goal.F-step g) c.args.keep c.args.self.now _ (one g at.After-new-n) c.nodes.invariant
    (no_weight_here c.nodes.self (c.nodes.slot - 1)
    (c.in_default.ensures
    ∙ (ap (λ z. node_weight z (g.Ix.IndexType.number c.new-n.result)) c.dag.ensures
    ∙ ap (λ z. node_weight c.nodes.self.graph z) c.new-n.ensures.number)))

pub returns-clause-retained : goal.returns-clause-retained
returns-clause-retained g c =
    all_asked_of (goal.F-pre g) (goal.F-step g) c.args.keep c.args.self.now (omega (arith, c.nodes-test.false))
    c.nodes.invariant
