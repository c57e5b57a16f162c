-- One step of a walk whose next edge and node a function chooses, over a graph g.
use Rattle.std.specs.Prelude.{◌≡◌, Option, List, MatchOption}
use Rattle.std.specs.List.{FoldsTo}
use Rattle.std.specs.Fn.{Called, Takes}
use denote.Ref.{Bor}
use denote.Param.Members.{Mut}

module _ {F G N E : Type 0} (m : Mut F (Bor G × (N × Unit {0})) (Option (E × N))) (g : G) where
  -- f may be called with a `&` to the graph and the node n
  abbrev pub TakesNode : F → N → Type 0
  TakesNode f n = (p : Bor G) → p.now ≡ g → Takes m f (p, (n, tt))

  -- such a call may return r and turn f into f'
  pub record CallsNode (f : F) (n : N) (r : Option (E × N)) (f' : F) : Type 0 where
    pub graph : Bor G
    pub shows : graph.now ≡ g
    pub called : Called m f (graph, (n, tt)) r f'

  -- The function is called with the current node. If it returns an edge and a node, the walk moves to that node;
  -- otherwise it stays.
  pub record RecursiveStep (n : N) (f : F) (r : Option (E × N)) (n' : N) (f' : F) : Type 0 where
    pub asked : CallsNode f n r f'
    pub moves : MatchOption r (n' ≡ n) (λ x. n' ≡ x.1)

  -- wherever such steps lead, the function may be called with the node there
  pub record LeadsOn (n : N) (f : F) : Type 0 where
    pub at : (rs : List (Option (E × N))) (n' : N) (f' : F)
        → FoldsTo {P = N × F} {A = Option (E × N)} (λ s r t. RecursiveStep s.0 s.1 r t.0 t.1) (n, f) rs (n', f')
        → TakesNode f' n'
