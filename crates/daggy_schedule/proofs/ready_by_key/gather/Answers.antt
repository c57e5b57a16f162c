use Rattle.std.proofs.Common.{◌≡◌, ◌∙◌, ◌↔◌, ◌⊎◌, ℕ, List, Option, Some, None, length, set, vec_len, refl, sym, ap, subst, arith}
use Rattle.std.proofs.Common.{rules, inl, Contains}
use Rattle.daggy_base.specs.Graph.{slot}
use Rattle.daggy_base.proofs.Lists.{Mem}
use Rattle.daggy_schedule.specs.Work.{Work, IsSet}
use Rattle.daggy_schedule.proofs.Gathered.{IsGathering, next_key, gathering_next, gathered_out}
use Rattle.daggy_schedule.proofs.ready_by_key.gather.Given.{Over}
use Rattle.daggy_schedule.proofs.ready_by_key.gather.Goals.{After-index}
use Rattle.daggy_schedule.proofs.ready_by_key.gather.Goals as goal

is_ready : (g : Over) (c : After-index g) → Mem (g.Ix.IndexType.number c.in-Some.n) c.ready.ready.ready
is_ready g c =
    let P : List ℕ → Type 0 = λ z. Mem (g.Ix.IndexType.number c.in-Some.n) z in
    subst P (sym c.in-Some.ensures.first) (inl refl)

pub take_key-requires : goal.take_key-requires
take_key-requires g c =
    let n = g.Ix.IndexType.number c.in-Some.n in
    let key = next_key c.ready.invariant.gathering n (is_ready g (goal.at.take_key-requires g c).After-index) in
    let size : vec_len c.ready.keys ≡ length c.ready.keys.items = search rules in
    omega (arith, key.1, size, c.index.ensures.value)

pub ready-preserved-in-Some-take_key : goal.ready-preserved-in-Some-take_key
ready-preserved-in-Some-take_key g c =
    let s = c.ready.invariant.gathering in
    let given = c.in-Some.ensures in
    let keys = c.ready.keys.items in
    let n = g.Ix.IndexType.number c.in-Some.n in
    let index = c.index.ensures.value in
    let at : slot keys n ≡ Some c.in-Some-take_key.key =
    sym (c.in-Some-take_key.ensures.value ∙ ap (slot keys) index) in
    let left : c.take_key.new.keys.items ≡ set keys n None =
    c.in-Some-take_key.ensures.taken ∙ ap (λ z. set keys z None) index in
    let P : List (Option _) → Type 0 = λ z.
    IsGathering c.args.dag.now.graph c.args.ready.now c.args.keys.now.items c.args.candidates.now.items c.next.new.self z
    c.add_reserved.new.self.items c.add_reserved.new.self.capacity in
    record {
      gathering = subst P (sym left)
          (gathering_next s c.next.new.self n c.in-Some-take_key.key c.add_reserved.new.self.items c.add_reserved.new.self.capacity
          given.first given.out given.done given.waiting given.under_way at c.add_reserved.ensures.added
          c.add_reserved.ensures.capacity);
    }

pub ready-preserved : goal.ready-preserved
ready-preserved g c =
    let keys = c.ready.keys.items in
    let n = g.Ix.IndexType.number c.in-Some.n in
    let key = next_key c.ready.invariant.gathering n (is_ready g (goal.at.ready-preserved g c).After-index) in
    let none : None ≡ Some key.0 =
    c.in_default-take_key.ensures.value ∙ (ap (slot keys) c.index.ensures.value ∙ key.2) in
    absurd cc

pub returns-clause-out : goal.returns-clause-out
returns-clause-out g c =
    let P : Work → Type 0 = λ z. (n : ℕ)
    → IsSet z.out n ↔ (IsSet c.args.ready.now.out n ⊎ Contains c.args.ready.now.ready n) in
    subst P (sym (c.in_default.ensures.unchanged refl))
    (gathered_out c.ready.invariant.gathering (c.in_default.ensures.none.0 refl))
