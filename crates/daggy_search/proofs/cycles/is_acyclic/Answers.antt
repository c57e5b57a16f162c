use Rattle.std.proofs.Common.{ℕ, IsTrue, ◌↔◌, Option, Some, None, IfSome, IfNone, is_some, refl}
use Rattle.std.proofs.lemmas.Bool.{false≢true}
use Rattle.daggy_search.proofs.FinishingOrder.{acyclic_from_sorted}
use Rattle.daggy_search.proofs.cycles.is_acyclic.Goals as goal

told_by : {A : Type 0} (P : ℕ → Type 0) (found : Option ℕ)
    → IfSome found P → IfNone found (¬ A) → ((top : ℕ) → P top → A) → IsTrue (is_some found) ↔ A
told_by P (Some top) some none all = (λ _. all top some, λ _. refl)
told_by P None some none all = (λ h. absurd (false≢true h), λ a. absurd (none a))

pub returns-clause-decided : goal.returns-clause-decided
returns-clause-decided g c =
    rw c.is_some.ensures (told_by _ c.sort_nodes-sorted.result c.sort_nodes-sorted.ensures.sorted
    c.sort_nodes-sorted.ensures.cyclic (λ top s. acyclic_from_sorted _ _ s))
