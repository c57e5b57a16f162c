use Rattle.std.proofs.Common.{◌≡◌, ◌∙◌, ◌++◌, [], ◌∷◌, List, ap, sym, subst}
use Rattle.std.proofs.lemmas.List.Elements.{All-push}
use Rattle.std.specs.List.{All}
use Rattle.std.specs.Option.{option_map}
use Rattle.daggy_base.specs.Graph.{HasNode}
use Rattle.daggy_named.specs.Naming.{index_by}
use Rattle.daggy_named.proofs.DependenciesSet.{each_known, some_number, one_more_named}
use Rattle.daggy_named.proofs.Entries.{when_some}
use Rattle.daggy_named.proofs.named.Named.nodes_of.Given.{Over}
use Rattle.daggy_named.proofs.named.Named.nodes_of.Goals.{After-index_of}
use Rattle.daggy_named.proofs.named.Named.nodes_of.Goals as goal

-- what was found for this item
found : (g : Over) (c : After-index_of g) → option_map g.Ix.IndexType.number c.index_of.result
    ≡ index_by (g.Q.Equivalent.equivalent c.index-items-i.result.0) c.args.self.now.keys
found g c =
    c.index_of.ensures.found
    ∙ ap (λ x. index_by (g.Q.Equivalent.equivalent x.0) c.args.self.now.keys) (sym c.index-items-i.is)

pub unwrap-requires : goal.unwrap-requires
unwrap-requires g c =
    some_number g.Ix.IndexType.number c.index_of.result _ (found g (goal.at.unwrap-requires g c).After-index_of) (each_known g.Q.Equivalent.equivalent c.args.self.now.keys c.args.items.now
    c.requires c.items.i c.index-items-i.result c.items-test.true c.index-items-i.is)

pub items-preserved : goal.items-preserved
items-preserved g c =
    let number = g.Ix.IndexType.number in
    let n = c.unwrap.result in
    let graph = c.args.self.now.graph in
    let new : c.push.new.self.items ≡ c.items.nodes.items ++ n ∷ [] = c.in_ok-push.ensures.items in
    record {
      named =
          one_more_named (λ x. index_by (g.Q.Equivalent.equivalent x.0) c.args.self.now.keys) number c.args.items.now
          c.items.i c.index-items-i.result c.items.nodes.items c.push.new.self.items n c.items-test.true
          c.index-items-i.is
          (sym (found g (goal.at.items-preserved g c).After-index_of) ∙ ap (option_map number) c.unwrap.ensures) new
          c.items.invariant.named;
      exist =
          let P : List g.row.Ix.Denot → Type 0 = λ z. All (λ n. HasNode graph (number n)) z in
          subst P (sym new) (All-push (λ n. HasNode graph (number n)) c.items.nodes.items n c.items.invariant.exist
          (when_some c.index_of.result n (λ n. HasNode graph (number n)) c.unwrap.ensures c.index_of.ensures.exists));
    }
