-- The edges flagged by marks are those that a longer path makes redundant.
use Rattle.std.proofs.Common.{◌≡◌, ℕ, suc, ◌+◌, ◌<◌, Bool, true, false, ◌⊎◌, ◌↔◌, inl, inr, List, [], ◌∷◌, length}
use Rattle.std.proofs.Common.{get_or, take, set, sym, ap, subst, ◌∙◌, arith}
use Rattle.std.proofs.lemmas.Bool.{false≢true}
use Rattle.daggy_base.specs.Graph.{Graph, HasNode}
use Rattle.daggy_base.specs.Path.{AreJoined, IsAcyclic}
use Rattle.daggy_base.specs.Reduction.{ReachesIndirectly}
use Rattle.daggy_base.specs.WellFormed.{IsWellFormed}
use Rattle.daggy_base.proofs.Lists.{mem_contains, contains_mem}
use Rattle.daggy_base.proofs.OutEdgesRead.{joins}
use Rattle.daggy_search.proofs.SearchProgress.{set_marked}
use Rattle.daggy_redundant.specs.Closure.{IsQueue, IsClosure, MeetsChildren}
use Rattle.daggy_redundant.specs.Flags.{FlagsMarked, FlagsRound}
use Rattle.daggy_redundant.proofs.QueueProgress.{take_none}
use Rattle.daggy_redundant.proofs.LongerWays.{child_round}

pub joined_exist : {N E : Type 0} (end : ℕ) (g : Graph N E)
    → IsWellFormed end g → (u v : ℕ) → AreJoined g u v → HasNode g u × HasNode g v
joined_exist end g w u v j = (w.parents j.0 _ j.2, w.children j.0 _ j.2)

-- one node in the queue
pub one_queued : {N E : Type 0} (g : Graph N E) (u : ℕ) (marks : List Bool)
    → HasNode g u → u < length marks → ((n : ℕ) → get_or marks n false ≡ false)
    → IsQueue g (set marks u true) (u ∷ [])
one_queued g u marks exists low unmarked =
    record {
      exist = λ n c. elim (contains_mem (u ∷ []) n c) [
        | inl e ↦ (let P : ℕ → Type 0 = λ z. HasNode g z in subst P (sym e) exists)
        | inr none ↦ absurd none
      ];
      once = (λ c. contains_mem [] u c, tt);
      marked = λ n. (
          let all = set_marked marks u n low in (
            λ m. elim (all.0 m) [
              | inl e ↦ mem_contains (u ∷ []) n (inl e)
              | inr before ↦ absurd (false≢true (sym (unmarked n) ∙ before))
            ],
            λ c. all.1 (elim (contains_mem (u ∷ []) n c) [ inl e ↦ inl e | inr none ↦ absurd none ]),
          )
          );
    }

pub flags_round : {N E : Type 0} {end : ℕ} {g : Graph N E}
    → IsWellFormed end g → IsAcyclic g → {u : ℕ} {closure : List ℕ} → IsClosure g (u ∷ []) closure
    → (before marks : List Bool) → ((n : ℕ) → get_or before n false ≡ false) → MeetsChildren g closure before marks
    → (old new : List ℕ) → FlagsMarked end g u marks old new → FlagsRound end g u old new
flags_round {N} {E} {end} {g} w acyclic {u} {closure} c before marks unmarked meets old new flags e = (
  λ f. elim ((flags e).0 f) [
    | inl a ↦ inl a
    | inr l ↦ elim ((meets l.edge.child).0 l.child) [
      | inl was ↦ absurd (false≢true (sym (unmarked l.edge.child) ∙ was))
      | inr child ↦ inr (record {
        edge = l.edge;
        at = l.at;
        parent = l.parent;
        round = (child_round g acyclic (joined_exist end g w) u closure c l.edge.child).0 child;
      })
    ]
  ],
  λ f. (flags e).1 (elim f [
    | inl a ↦ inl a
    | inr r ↦ inr (record {
      edge = r.edge;
      at = r.at;
      parent = r.parent;
      child =
          (meets r.edge.child).1
          (inr ((child_round g acyclic (joined_exist end g w) u closure c r.edge.child).1 r.round));
    })
  ]),
)

-- the same by marks that are right for the children of the node alone
pub flags_met : {N E : Type 0} {end : ℕ} {g : Graph N E} → IsWellFormed end g → (u : ℕ) (before marks : List Bool)
    → ((n : ℕ) → get_or before n false ≡ false)
    → ((v : ℕ) → AreJoined g u v
    → (get_or marks v false ≡ true) ↔ ((get_or before v false ≡ true) ⊎ ReachesIndirectly g u v))
    → (old new : List ℕ) → FlagsMarked end g u marks old new → FlagsRound end g u old new
flags_met {N} {E} {end} {g} w u before marks unmarked met old new flags e = (
  λ f. elim ((flags e).0 f) [
    | inl a ↦ inl a
    | inr l ↦ elim ((met l.edge.child (joins end g w e u l.edge l.at l.parent)).0 l.child) [
      | inl was ↦ absurd (false≢true (sym (unmarked l.edge.child) ∙ was))
      | inr round ↦ inr (record { edge = l.edge; at = l.at; parent = l.parent; round = round })
    ]
  ],
  λ f. (flags e).1 (elim f [
    | inl a ↦ inl a
    | inr r ↦ inr (record {
      edge = r.edge;
      at = r.at;
      parent = r.parent;
      child = (met r.edge.child (joins end g w e u r.edge r.at r.parent)).1 (inr r.round);
    })
  ]),
)

-- the first place of a list written, and that alone taken
pub first_put : (queue queue' : List ℕ) (n len : ℕ)
    → 0 < length queue → queue' ≡ set queue 0 n → len ≡ 0 + 1 → take len queue' ≡ n ∷ []
first_put [] queue' n len some put is = absurd (omega (arith, some))
first_put (x ∷ xs) queue' n len some put is =
    let one : len ≡ suc 0 = omega (arith, is) in
    ap (λ z. take len z) put ∙ ap (λ k. take k (n ∷ xs)) one ∙ ap (λ z. n ∷ z) (take_none xs)
