use Rattle.std.proofs.Common.{ℕ, None, Some, set, sym, subst, arith, ◌∙◌}
use Rattle.daggy_named.specs.Places.{IsKept, keys_at}
use Rattle.daggy_named.proofs.Removed.{taken, taken_key, taken_keys, moved_low}
use Rattle.daggy_named.proofs.named.take_name.Goals as goal

pub index_mut-requires-in-Some : goal.index_mut-requires-in-Some
index_mut-requires-in-Some g c =
    let low = moved_low g.met.K.Eq.laws c.requires.kept (g.Ix.IndexType.number c.args.n) c.index.ensures.value
    c.requires.there c.index-2.ensures c.unwrap-place.ensures c.unwrap-key.result c.swap_remove_index.ensures.entry
    c.unwrap-key.ensures c.swap_remove_index.new.self.entries c.swap_remove_index.ensures.entries
    c.swap_remove_index.ensures.unique (c.in-Some.field-0-0.now, c.in-Some.moved.now) c.in-Some.ensures.entry in
    omega (arith, low, c.args.places.now.ok.0, c.index-moved.ensures.value)

pub returns-in-Some-clause-key : goal.returns-in-Some-clause-key
returns-in-Some-clause-key g c =
    taken_key g.met.K.Eq.laws c.requires.kept (g.Ix.IndexType.number c.args.n) c.index.ensures.value
    c.requires.there c.index-2.ensures c.unwrap-place.ensures c.unwrap-key.result c.swap_remove_index.ensures.entry
    c.unwrap-key.ensures c.swap_remove_index.new.self.entries c.swap_remove_index.ensures.entries
    c.swap_remove_index.ensures.unique

pub returns-in-Some-clause-keys : goal.returns-in-Some-clause-keys
returns-in-Some-clause-keys g c =
    let places = c.args.places.now.items in
    (λ j. keys_at c.swap_remove_index.new.self.entries
    (set (set places (c.index-3.ensures.value j) None) (c.index-moved.ensures.value j) (Some c.unwrap-place.result)))
    ∙ taken_keys g.met.K.Eq.laws c.requires.kept (g.Ix.IndexType.number c.args.n) c.index.ensures.value
    c.requires.there c.index-2.ensures c.unwrap-place.ensures c.unwrap-key.result c.swap_remove_index.ensures.entry
    c.unwrap-key.ensures c.swap_remove_index.new.self.entries c.swap_remove_index.ensures.entries
    c.swap_remove_index.ensures.unique
    (Some (c.in-Some.field-0-0.now, c.in-Some.moved.now)) c.in-Some.ensures.entry

pub returns-in-Some-clause-kept : goal.returns-in-Some-clause-kept
returns-in-Some-clause-kept g c =
    let places = c.args.places.now.items in
    let n = g.Ix.IndexType.number c.args.n in
    let P : ℕ → ℕ → Type 0 = λ a b. IsKept g.K.PartialEq.eq g.Ix.IndexType.number (set places n None)
    c.swap_remove_index.new.self.entries (set (set places a None) b (Some c.unwrap-place.result)) in
    subst (λ a. P a c.index-moved.result) (sym c.index-3.ensures.value)
    (subst (λ b. P n b) (sym c.index-moved.ensures.value)
    (taken g.met.K.Eq.laws c.requires.kept (g.Ix.IndexType.number c.args.n) c.index.ensures.value
    c.requires.there c.index-2.ensures c.unwrap-place.ensures c.unwrap-key.result c.swap_remove_index.ensures.entry
    c.unwrap-key.ensures c.swap_remove_index.new.self.entries c.swap_remove_index.ensures.entries
    c.swap_remove_index.ensures.unique
    (Some (c.in-Some.field-0-0.now, c.in-Some.moved.now)) c.in-Some.ensures.entry))

pub returns-in-None-clause-key : goal.returns-in-None-clause-key
returns-in-None-clause-key g c =
    taken_key g.met.K.Eq.laws c.requires.kept (g.Ix.IndexType.number c.args.n) c.index.ensures.value
    c.requires.there c.index-2.ensures c.unwrap-place.ensures c.unwrap-key.result c.swap_remove_index.ensures.entry
    c.unwrap-key.ensures c.swap_remove_index.new.self.entries c.swap_remove_index.ensures.entries
    c.swap_remove_index.ensures.unique

pub returns-in-None-clause-keys : goal.returns-in-None-clause-keys
returns-in-None-clause-keys g c =
    (λ j. keys_at c.swap_remove_index.new.self.entries (set c.args.places.now.items (c.index-3.ensures.value j) None))
    ∙ taken_keys g.met.K.Eq.laws c.requires.kept (g.Ix.IndexType.number c.args.n) c.index.ensures.value
    c.requires.there c.index-2.ensures c.unwrap-place.ensures c.unwrap-key.result c.swap_remove_index.ensures.entry
    c.unwrap-key.ensures c.swap_remove_index.new.self.entries c.swap_remove_index.ensures.entries
    c.swap_remove_index.ensures.unique
    None c.in-None.ensures.entry

pub returns-in-None-clause-kept : goal.returns-in-None-clause-kept
returns-in-None-clause-kept g c =
    let places = c.args.places.now.items in
    subst (λ a. IsKept g.K.PartialEq.eq g.Ix.IndexType.number (set places (g.Ix.IndexType.number c.args.n) None)
    c.swap_remove_index.new.self.entries (set places a None)) (sym c.index-3.ensures.value)
    (taken g.met.K.Eq.laws c.requires.kept (g.Ix.IndexType.number c.args.n) c.index.ensures.value
    c.requires.there c.index-2.ensures c.unwrap-place.ensures c.unwrap-key.result c.swap_remove_index.ensures.entry
    c.unwrap-key.ensures c.swap_remove_index.new.self.entries c.swap_remove_index.ensures.entries
    c.swap_remove_index.ensures.unique
    None c.in-None.ensures.entry)
