use Rattle.std.proofs.Common.{◌≡◌, ◌++◌, ◌∷◌, [], ℕ, reverse, ap, sym, subst, ◌∙◌, append_assoc}
use Rattle.std.proofs.lemmas.List.{append-nil}
use Rattle.daggy_base.specs.declared.index.Direction.TheVariants.{Incoming}
use Rattle.std.specs.Prelude.{is_some}
use Rattle.std.proofs.Common.{List, None, Some}
use Rattle.daggy_base.specs.Graph.{Graph, HasNode, in_list}
use Rattle.daggy_computed.specs.declared.entry.Entry.{Entry}
use Rattle.daggy_computed.proofs.Celled.{value_cell}
use Rattle.daggy_dag.specs.Walks.{rest_of_walk}
use Rattle.daggy_computed.specs.Cells.{cells, value_of, values_of, HaveValues}
use Rattle.daggy_computed.specs.Inputs.{values_at, value_before}
use Rattle.daggy_computed.specs.Marking.{far_nodes}
use Rattle.daggy_dag.proofs.WalkSteps.{whole_walk}
use Rattle.daggy_computed.proofs.Walked.{over, shorter, far_ahead, far_exists}
use Rattle.daggy_computed.proofs.Listed.{values_append, have_append, some_copied, none_copied, values_reversed, have_reversed}
use Rattle.daggy_computed.proofs.turn.note_parents.Goals as goal

-- one parent more
module _ {K V E : Type 0} (graph : Graph K E) (es : List (Entry V)) (ps : List ℕ) (i p : ℕ) (left rest : List ℕ) (all : List V)
    (ahead : left ≡ p ∷ rest) (there : HasNode graph p) (is : i ≡ p)
    (noted : values_of es ps ++ values_at (cells graph es) left ≡ all) where
  values_left : values_at (cells graph es) left ≡ value_before (value_of es i) (values_at (cells graph es) rest)
  values_left =
      ap (values_at (cells graph es)) ahead
      ∙ ap (λ z. value_before z (values_at (cells graph es) rest)) (value_cell graph es p there ∙ ap (value_of es) (sym is))

  next_none : value_of es i ≡ None → values_of es ps ++ values_at (cells graph es) rest ≡ all
  next_none none =
      ap (λ z. values_of es ps ++ z)
      (sym (values_left ∙ ap (λ z. value_before z (values_at (cells graph es) rest)) none))
      ∙ noted

  next_some : (v : V) → value_of es i ≡ Some v → values_of es (ps ++ i ∷ []) ++ values_at (cells graph es) rest ≡ all
  next_some v some =
      let more = values_at (cells graph es) rest in
      ap (λ z. z ++ more) (values_append es ps (i ∷ []))
      ∙ (append_assoc (values_of es ps) (value_before (value_of es i) []) more
      ∙ (ap (λ z. values_of es ps ++ (value_before z [] ++ more)) some
      ∙ (ap (λ z. values_of es ps ++ z) (sym (values_left ∙ ap (λ z. value_before z more) some)) ∙ noted)))

pub parents-init : goal.parents-init
parents-init g c =
    let number = g.Ix.IndexType.number in
    let graph = g.S.EdgeSource.graph c.args.store.now in
    let es = c.args.entries.now in
    let n = number c.args.n in
    let rest : rest_of_walk Incoming graph (number c.first_edge-cursor.result) ≡ in_list graph n =
    ap (rest_of_walk Incoming graph) c.first_edge-cursor.ensures
    ∙ whole_walk g.Ix.IndexType.greatest graph c.invariant.ensures.well_formed Incoming n in
    record {
      noted = ap (λ z. values_of es z ++ values_at (cells graph es)
          (far_nodes Incoming graph (rest_of_walk Incoming graph (number c.first_edge-cursor.result)))) c.clear.ensures.items
          ∙ ap (λ z. values_at (cells graph es) (far_nodes Incoming graph z)) rest;
      have = rw c.clear.ensures.items tt;
    }

pub parents-smaller-in-Continue-1 : goal.parents-smaller-in-Continue-1
parents-smaller-in-Continue-1 g c =
    shorter g.Ix.IndexType.number Incoming c.invariant.ensures.well_formed c.in-Some.item c.in-Some.ensures

pub parents-preserved-in-Continue-1 : goal.parents-preserved-in-Continue-1
parents-preserved-in-Continue-1 g c =
    let number = g.Ix.IndexType.number in
    let graph = g.S.EdgeSource.graph c.args.store.now in
    let es = c.args.entries.now in
    let w = c.invariant.ensures.well_formed in
    let ps = c.parents.parents.items in
    let p = number c.in-Some.item.1 in
    let s = c.parents.invariant in
    let found = some_copied c.value_at.result (sym c.is_some.ensures ∙ c.if-is_some.true) in
    let some : value_of es c.index-i.result ≡ Some found.0 = sym c.value_at.ensures ∙ found.1 in
    let left = far_nodes Incoming graph (rest_of_walk Incoming graph (number c.parents.cursor)) in
    let rest = far_nodes Incoming graph (rest_of_walk Incoming graph (number c.step.new.cursor)) in
    let all = values_at (cells graph es) (far_nodes Incoming graph (in_list graph (number c.args.n))) in
    let more = next_some graph es ps c.index-i.result p left rest all (far_ahead number Incoming w c.in-Some.item c.in-Some.ensures)
    (far_exists number Incoming w c.in-Some.item c.in-Some.ensures) c.index-i.ensures.value s.noted found.0 some in
    record {
      noted = subst (λ z. values_of es z ++ values_at (cells graph es) rest ≡ all) (sym c.in_ok-push.ensures.items) more;
      have = subst (HaveValues es) (sym c.in_ok-push.ensures.items)
          (have_append es ps (c.index-i.result ∷ []) s.have (ap is_some some, tt));
    }

pub parents-smaller : goal.parents-smaller
parents-smaller g c =
    shorter g.Ix.IndexType.number Incoming c.invariant.ensures.well_formed c.in-Some.item c.in-Some.ensures

pub parents-preserved : goal.parents-preserved
parents-preserved g c =
    let number = g.Ix.IndexType.number in
    let graph = g.S.EdgeSource.graph c.args.store.now in
    let es = c.args.entries.now in
    let w = c.invariant.ensures.well_formed in
    let ps = c.parents.parents.items in
    let p = number c.in-Some.item.1 in
    let s = c.parents.invariant in
    let none : value_of es c.index-i.result ≡ None =
    sym c.value_at.ensures ∙ none_copied c.value_at.result (sym c.is_some.ensures ∙ c.if-is_some.false) in
    record {
      noted = next_none graph es ps c.index-i.result p (far_nodes Incoming graph (rest_of_walk Incoming graph (number c.parents.cursor)))
          (far_nodes Incoming graph (rest_of_walk Incoming graph (number c.step.new.cursor)))
          (values_at (cells graph es) (far_nodes Incoming graph (in_list graph (number c.args.n))))
          (far_ahead number Incoming w c.in-Some.item c.in-Some.ensures) (far_exists number Incoming w c.in-Some.item c.in-Some.ensures)
          c.index-i.ensures.value s.noted none;
      have = s.have;
    }

pub returns-clause-values : goal.returns-clause-values
returns-clause-values g c =
    let number = g.Ix.IndexType.number in
    let graph = g.S.EdgeSource.graph c.args.store.now in
    let es = c.args.entries.now in
    let ps = c.parents.parents.items in
    let none = over number Incoming c.invariant.ensures.well_formed _ c.in_default.is c.step.ensures in
    ap (values_of es) c.reverse.ensures.items
    ∙ (values_reversed es ps
    ∙ ap reverse
    (sym (append-nil (values_of es ps))
    ∙ (ap (λ z. values_of es ps ++ values_at (cells graph es) (far_nodes Incoming graph z)) (sym none) ∙ c.parents.invariant.noted)))

pub returns-clause-have : goal.returns-clause-have
returns-clause-have g c =
    rw c.reverse.ensures.items (have_reversed c.args.entries.now c.parents.parents.items c.parents.invariant.have)
