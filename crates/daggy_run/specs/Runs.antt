-- Lists of requests, and their answers.
use Rattle.std.specs.Prelude.{◌≡◌, ℕ, List, [], ◌∷◌}
use Rattle.std.specs.List.{AllByRecursion}
use Rattle.daggy_base.specs.Graph.{Graph}
use Rattle.daggy_base.specs.declared.kind.Kind.{Kind}
use Rattle.daggy_base.specs.declared.kind.Kind.TheVariants.{Compact}
use Rattle.daggy_base.specs.Requests.{Request, RemoveNode, RemoveEdge, Reduce}
use Rattle.daggy_base.specs.Answers.{Answer, Memory}
use Rattle.daggy_run.specs.Steps.{IsStep}

-- each request is answered once, in order, from the graph that the one before left
abbrev pub IsRun : {N E : Type 0}
    → Kind → (limit : ℕ) → Graph N E → List (Request N E) → List (Answer N E) → Graph N E → Type 0
IsRun kind limit old [] [] new = new ≡ old
IsRun {N} {E} kind limit old (asked ∷ requests) (said ∷ answers) new =
    (mid : Graph N E) × IsStep kind limit old asked said mid × IsRun kind limit mid requests answers new
IsRun kind limit old [] (said ∷ answers) new = ⊥
IsRun kind limit old (asked ∷ requests) [] new = ⊥

-- requests that both kinds answer alike: all but those that remove a node, an edge or redundant edges
abbrev pub IsForBothKinds : {N E : Type 0} → Request N E → Type 0
IsForBothKinds (RemoveNode n) = ⊥
IsForBothKinds (RemoveEdge e) = ⊥
IsForBothKinds (Reduce roots) = ⊥
IsForBothKinds other = Unit {0}

-- answers other than that an allocation failed
abbrev pub FindsMemory : {N E : Type 0} → Answer N E → Type 0
FindsMemory (Memory weights) = ⊥
FindsMemory other = Unit {0}

-- the compact kind may give these answers; and if no allocation fails, it gives no others and leaves no other graph
pub record IsCompactRun {N E : Type 0} (limit : ℕ) (old : Graph N E) (requests : List (Request N E))
    (answers : List (Answer N E)) (new : Graph N E) : Type 0 where
  pub run : IsRun Compact limit old requests answers new
  pub only : (others : List (Answer N E)) (end : Graph N E) → IsRun Compact limit old requests others end
      → AllByRecursion FindsMemory others → (others ≡ answers) × (end ≡ new)

-- if both kinds answer all requests alike and no allocation fails, the answers are those of the compact kind
abbrev pub IsAsCompact : {N E : Type 0}
    → (limit : ℕ) → Graph N E → List (Request N E) → List (Answer N E) → Graph N E → Type 0
IsAsCompact limit old requests answers new =
    AllByRecursion IsForBothKinds requests → AllByRecursion FindsMemory answers
    → IsCompactRun limit old requests answers new
