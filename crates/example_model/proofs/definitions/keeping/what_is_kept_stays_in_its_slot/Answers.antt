use Rattle.std.proofs.Common.{◌≡◌, ℕ, Option, None, Some, List, [], ◌∷◌, map, refl, sym, ap, subst, ◌∙◌}
use Rattle.std.specs.Option.{option_map}
use Rattle.daggy_base.specs.Graph.{Edge}
use Rattle.daggy_base.specs.FilteringInPlace.{KeepsSlots, if_ends_exist}
use Rattle.daggy_base.specs.Mapping.{CalledAt, weight_in, with_weight}
use Rattle.daggy_base.specs.FromSlots.{graph_of_slots}
use Rattle.example_model.specs.Examples.{line, triangle}
use Rattle.example_model.specs.Keeping.{unless_ten, drops_ten, numbers_its_calls}
use Rattle.example_model.proofs.definitions.keeping.what_is_kept_stays_in_its_slot.Goals as goal

asked : (f i w : ℕ) (r : Option ℕ) (next : ℕ) → CalledAt drops_ten (λ n. n) f i w r next → r ≡ unless_ten w
asked f i w r next c = c.called.0 ∙ ap unless_ten c.shows

kept_nodes : (new : List (Option ℕ))
    → KeepsSlots drops_ten (λ n. n) (λ w. w) (λ w v. v) 0 0 (Some 10 ∷ Some 20 ∷ Some 30 ∷ []) new
    → new ≡ None ∷ Some 20 ∷ Some 30 ∷ []
kept_nodes new (r, f, c, l, is, (r', f', c', l', is', (r'', f'', c'', l'', is'', last))) =
    is ∙ ap (λ z. option_map (λ v. v) z ∷ l) (asked 0 0 10 r f c)
    ∙ ap (λ z. None ∷ z) (is' ∙ ap (λ z. option_map (λ v. v) z ∷ l') (asked f 1 20 r' f' c') ∙ ap (λ z. Some 20 ∷ z)
    (is'' ∙ ap (λ z. option_map (λ v. v) z ∷ l'') (asked f' 2 30 r'' f'' c'') ∙ ap (λ z. Some 30 ∷ z) last))

kept_edges : (new : List (Option (Edge ℕ)))
    → KeepsSlots numbers_its_calls (λ n. n) weight_in with_weight 0 0 (None ∷ None ∷ Some (line 1 2 30) ∷ []) new
    → new ≡ None ∷ None ∷ Some (line 1 2 0) ∷ []
kept_edges new (l, is, (l', is', (r, next, c, l'', is'', last))) =
    is
    ∙ ap (λ z. None ∷ z) (is' ∙ ap (λ z. None ∷ z)
    (is'' ∙ ap (λ z. option_map (with_weight (line 1 2 30)) z ∷ l'') c.called.0 ∙ ap (λ z. Some (line 1 2 0) ∷ z) last))

pub returns-clause-no_other : goal.returns-clause-no_other
returns-clause-no_other c h filtered =
    let nodes = kept_nodes filtered.nodes filtered.keeps_nodes in
    let edges =
    kept_edges filtered.edges (subst (λ l. KeepsSlots numbers_its_calls (λ n. n) weight_in with_weight 0 0
    (map (if_ends_exist l) triangle.edges) filtered.edges) nodes filtered.keeps_edges) in
    filtered.is ∙ ap (λ l. graph_of_slots l filtered.edges) nodes
    ∙ ap (graph_of_slots (None ∷ Some 20 ∷ Some 30 ∷ [])) edges

pub returns-clause-this : goal.returns-clause-this
returns-clause-this c shown shows =
    record {
      nodes = None ∷ Some 20 ∷ Some 30 ∷ [];
      edges = None ∷ None ∷ Some (line 1 2 0) ∷ [];
      keeps_nodes = (
        None,
        0,
        record { shown = shown 10; shows = shows 10; called = (ap unless_ten (sym (shows 10)), refl) },
        Some 20 ∷ Some 30 ∷ [],
        refl,
        (
          Some 20,
          0,
          record { shown = shown 20; shows = shows 20; called = (ap unless_ten (sym (shows 20)), refl) },
          Some 30 ∷ [],
          refl,
          (
            Some 30,
            0,
            record { shown = shown 30; shows = shows 30; called = (ap unless_ten (sym (shows 30)), refl) },
            [],
            refl,
            refl,
          ),
        ),
      );
      keeps_edges = (
        None ∷ Some (line 1 2 0) ∷ [],
        refl,
        (
          Some (line 1 2 0) ∷ [],
          refl,
          (Some 0, 1, record { shown = shown 30; shows = shows 30; called = (refl, refl) }, [], refl, refl),
        ),
      );
      is = refl;
    }
