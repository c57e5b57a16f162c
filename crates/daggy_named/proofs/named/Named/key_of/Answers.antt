use Rattle.std.proofs.Common.{ap, sym, ◌∙◌}
use Rattle.std.specs.Map.Iter.{deref_pair}
use Rattle.std.specs.Option.{option_map, option_copied}
use Rattle.daggy_named.specs.Naming.{key_at}
use Rattle.daggy_named.proofs.Kept.{key_read}
use Rattle.daggy_named.proofs.named.Named.key_of.Goals as goal

pub returns-in_err-key : goal.returns-in_err-key
returns-in_err-key g c =
    let n = g.Ix.IndexType.number c.args.n in
    let read = key_read c.self.inside.nodes.entries c.self.inside.places.items n c.deref.ensures.value
    c.index.ensures.value
    c.in_ok-get.ensures.lookup.3.0 c.in_ok-get.ensures.lookup.1 c.in_ok-place.was in
    ap option_copied c.from_residual-in_err-key.ensures
    ∙ ap (option_map (λ e. e.0)) (sym (ap (option_map deref_pair) c.in_err-key.was) ∙ c.get_index.ensures.entry)
    ∙ read ∙ ap (λ s. key_at s.keys n) c.self.view_is

pub returns : goal.returns
returns g c =
    let n = g.Ix.IndexType.number c.args.n in
    let read = key_read c.self.inside.nodes.entries c.self.inside.places.items n c.deref.ensures.value
    c.index.ensures.value
    c.in_ok-get.ensures.lookup.3.0 c.in_ok-get.ensures.lookup.1 c.in_ok-place.was in
    ap (option_map (λ e. e.0)) (sym (ap (option_map deref_pair) c.in_ok-key.was) ∙ c.get_index.ensures.entry)
    ∙ read ∙ ap (λ s. key_at s.keys n) c.self.view_is
