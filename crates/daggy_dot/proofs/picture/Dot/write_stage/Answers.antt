use Rattle.std.proofs.Common.{◌≡◌, ◌∙◌, ap, sym, subst, rules, ℕ, ◌+◌, ◌++◌, take}
use Rattle.std.specs.List.{flat_map}
use Rattle.std.proofs.lemmas.List.{append-nil}
use Rattle.std.proofs.Output.{has_written_append, has_written_of_eq}
use Rattle.daggy_base.specs.Graph.{HasNode}
use Rattle.daggy_dot.specs.Picture.{ranked}
use Rattle.daggy_dot.proofs.Ranks.{flat_map_take, ranked_there, ranked_not}
use Rattle.daggy_dot.proofs.picture.Dot.write_stage.Goals.{then-contains_node+in_ok-write, else-contains_node}
use Rattle.daggy_dot.proofs.picture.Dot.write_stage.Goals as goal

pub loop-n-preserved : goal.loop-n-preserved
loop-n-preserved g c plain =
    let took = g.W.Write.write_str_gives in
    let number = g.Ix.IndexType.number in
    let graph = c.args.self.now.graph in
    let stage = c.args.stage.now in
    let n = c.n-item.result in
    let before = c.loop-n.invariant plain in
    let seen = c.self.view_is in
    let i = c.loop-n.n-index in
    let text = λ (k : ℕ). flat_map (ranked number graph) (take k stage) in
    let next : text i ++ ranked number graph n ≡ text (i + 1) =
    ap (λ y. text i ++ ranked number graph y) c.n-item.is ∙ flat_map_take (ranked number graph) stage i n c.loop-n-test.true in
    elim c.if-contains_node.branch [
      | then-contains_node+in_ok-write w ↦
          let there : HasNode graph (number n) = subst (λ d. HasNode d.graph (number n)) seen (search rules) in
          has_written_of_eq took _ _ _ _ (ap (λ y. text i ++ y) (sym (ranked_there number graph n there)) ∙ next)
          (has_written_append took _ _ _ _ _ before (search rules))
      | else-contains_node w ↦
          let gone : ¬ HasNode graph (number n) = subst (λ d. ¬ HasNode d.graph (number n)) seen (search rules) in
          has_written_of_eq took _ _ _ _ (sym (append-nil _) ∙ ap (λ y. text i ++ y) (sym (ranked_not number graph n gone)) ∙ next) (search rules)
    ]
