use Rattle.std.proofs.Common.{◌++◌, Bool, List, IsPermutation, sym, subst}
use Rattle.daggy_schedule.specs.LeastFirst.{nodes_of}
use Rattle.daggy_schedule.specs.Work.{IsSet, IsOut, released}
use Rattle.daggy_schedule.specs.ByKey.{KeyedWork, work_of, IsUnderWayByKey}
use Rattle.daggy_schedule.specs.KeyQueue.{turned_back}
use Rattle.daggy_schedule.proofs.ByKeys.{under_inner, keyed_inner, done_kept, done_under_way, done_ready}
use Rattle.daggy_schedule.proofs.ready_by_key.ReadyByKey.done.Goals as goal

pub done-requires-clause-under_way : goal.done-requires-clause-under_way
done-requires-clause-under_way g c =
    let P : KeyedWork _ → Type 0 = λ z. IsUnderWayByKey c.args.dag.now.graph z in
    under_inner c.self.invariant (subst P (sym c.self.view_is) c.requires.under_way).under_way

pub gather-requires-clause-keyed : goal.gather-requires-clause-keyed
gather-requires-clause-keyed g c m has not_out =
    let P : KeyedWork _ → Type 0 = λ z. IsUnderWayByKey c.args.dag.now.graph z in
    keyed_inner c.self.invariant (subst P (sym c.self.view_is) c.requires.under_way) m has (λ o.
    let Q : List Bool → Type 0 = λ z. IsSet z m in not_out (subst Q (sym c.done.ensures.out) o))

pub invariant_of-self : goal.invariant_of-self
invariant_of-self g c =
    let n = g.Ix.IndexType.number c.args.n in
    let P : KeyedWork _ → Type 0 = λ z. IsUnderWayByKey c.args.dag.now.graph z in
    let O : KeyedWork _ → Type 0 = λ z. IsOut (work_of z) n in
    let given = c.done.ensures in
    let more = c.gather.ensures in
    done_kept c.self.invariant (subst P (sym c.self.view_is) c.requires.under_way) n
    (subst O (sym c.self.view_is) c.requires.out).0 (released c.args.dag.now.graph c.done.new.self.done n) given.ready given.out
    given.done given.under_way c.gather.new.keys.items c.gather.new.candidates.items c.gather.new.candidates.capacity
    more.under_way more.none_ready more.out more.done more.taken more.keys more.room

pub returns-clause-ready : goal.returns-clause-ready
returns-clause-ready g c =
    let graph = c.args.dag.now.graph in
    let n = g.Ix.IndexType.number c.args.n in
    let P : KeyedWork _ → Type 0 = λ z. IsUnderWayByKey graph z in
    let O : KeyedWork _ → Type 0 = λ z. IsOut (work_of z) n in
    let given = c.done.ensures in
    let more = c.gather.ensures in
    let now = nodes_of (turned_back c.gather.new.candidates.items) in
    let here = done_ready c.self.invariant (subst P (sym c.self.view_is) c.requires.under_way) n
    (subst O (sym c.self.view_is) c.requires.out).0 (released graph c.done.new.self.done n) given.ready given.out
    given.done given.under_way c.gather.new.keys.items c.gather.new.candidates.items c.gather.new.candidates.capacity
    more.under_way more.none_ready more.out more.done more.taken more.keys more.room in
    let D : List Bool → Type 0 = λ z.
    IsPermutation (nodes_of (turned_back c.self.inside.candidates.items) ++ released graph z n) now in
    let R : KeyedWork _ → Type 0 = λ z. IsPermutation (nodes_of z.ready ++ released graph c.gather.new.ready.done n) now in
    subst R c.self.view_is (subst D (sym more.done) here)

pub returns-clause-under_way : goal.returns-clause-under_way
returns-clause-under_way g c =
    let n = g.Ix.IndexType.number c.args.n in
    let P : KeyedWork _ → Type 0 = λ z. IsUnderWayByKey c.args.dag.now.graph z in
    let O : KeyedWork _ → Type 0 = λ z. IsOut (work_of z) n in
    let given = c.done.ensures in
    let more = c.gather.ensures in
    done_under_way c.self.invariant (subst P (sym c.self.view_is) c.requires.under_way) n
    (subst O (sym c.self.view_is) c.requires.out).0 (released c.args.dag.now.graph c.done.new.self.done n) given.ready given.out
    given.done given.under_way c.gather.new.keys.items c.gather.new.candidates.items c.gather.new.candidates.capacity
    more.under_way more.none_ready more.out more.done more.taken more.keys more.room
