-- The parts of adapters, and of an iterator over a walker.
use Rattle.std.specs.Prelude.{ℕ, Option}
use denote.Ref.{Bor}
use Rattle.daggy_walk.specs.declared.walker.chain.Chain.{Chain}
use Rattle.daggy_walk.specs.declared.walker.cycle.Cycle.{Cycle}
use Rattle.daggy_walk.specs.declared.walker.filter.Filter.{Filter}
use Rattle.daggy_walk.specs.declared.walker.inspect.Inspect.{Inspect}
use Rattle.daggy_walk.specs.declared.walker.iter.WalkerIter.{WalkerIter}
use Rattle.daggy_walk.specs.declared.walker.peekable.Ahead.{Ahead}
use Rattle.daggy_walk.specs.declared.walker.recursive.Led.{Led}
use Rattle.daggy_walk.specs.declared.walker.skip.Skip.{Skip}
use Rattle.daggy_walk.specs.declared.walker.skip_while.SkipWhile.{SkipWhile}
use Rattle.daggy_walk.specs.declared.walker.take.Take.{Take}
use Rattle.daggy_walk.specs.declared.walker.take_while.TakeWhile.{TakeWhile}

-- the first walker of a chain, until it is dropped
abbrev pub chain_first : {G A B : Type 0} → Chain G A B → Option A
chain_first s = s.first

-- the second walker of a chain
abbrev pub chain_second : {G A B : Type 0} → Chain G A B → B
chain_second s = s.second

-- the walker that a cycle starts over with
abbrev pub cycle_start : {G W : Type 0} → Cycle G W → W
cycle_start s = s.start

-- the walker that a cycle runs at present
abbrev pub cycle_running : {G W : Type 0} → Cycle G W → W
cycle_running s = s.running

-- the walker of a filter
abbrev pub filter_walker : {G W P : Type 0} → Filter G W P → W
filter_walker s = s.walker

-- the predicate of a filter
abbrev pub filter_predicate : {G W P : Type 0} → Filter G W P → P
filter_predicate s = s.predicate

-- the walker that is inspected
abbrev pub inspect_walker : {W F : Type 0} → Inspect W F → W
inspect_walker s = s.walker

-- the function that sees the items of an inspected walker
abbrev pub inspect_function : {W F : Type 0} → Inspect W F → F
inspect_function s = s.f

-- the walker of an iterator
abbrev pub iter_walker : {G W : Type 0} → WalkerIter G W → W
iter_walker s = s.walker

-- the graph that an iterator borrows
abbrev pub iter_graph : {G W : Type 0} → WalkerIter G W → Bor G
iter_graph s = s.graph

-- the walker that is peeked
abbrev pub peekable_walker : {G W T : Type 0} → Ahead G W T → W
peekable_walker s = s.walker

-- the item that was peeked and not taken yet
abbrev pub peekable_held : {G W T : Type 0} → Ahead G W T → Option T
peekable_held s = s.held

-- the current node of a recursive walk
abbrev pub recursive_node : {G N F : Type 0} → Led G N F → N
recursive_node s = s.node

-- the function that chooses the next node of a recursive walk
abbrev pub recursive_function : {G N F : Type 0} → Led G N F → F
recursive_function s = s.f

-- the walker whose steps are skipped
abbrev pub skip_walker : {G W : Type 0} → Skip G W → W
skip_walker s = s.walker

-- how many steps are left to skip
abbrev pub skip_count : {G W : Type 0} → Skip G W → ℕ
skip_count s = s.to_skip

-- the walker whose items are skipped
abbrev pub skip_while_walker : {G W P : Type 0} → SkipWhile G W P → W
skip_while_walker s = s.walker

-- the predicate of the items that are skipped, until it is dropped
abbrev pub skip_while_predicate : {G W P : Type 0} → SkipWhile G W P → Option P
skip_while_predicate s = s.predicate

-- the walker whose steps are taken
abbrev pub take_walker : {G W : Type 0} → Take G W → W
take_walker s = s.walker

-- how many steps are left to take
abbrev pub take_count : {G W : Type 0} → Take G W → ℕ
take_count s = s.to_take

-- the walker whose items are taken, until it is dropped
abbrev pub take_while_walker : {G W P : Type 0} → TakeWhile G W P → Option W
take_while_walker s = s.walker

-- the predicate of the items that are taken
abbrev pub take_while_predicate : {G W P : Type 0} → TakeWhile G W P → P
take_while_predicate s = s.predicate
