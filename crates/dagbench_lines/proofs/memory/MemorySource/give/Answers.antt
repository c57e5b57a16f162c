use Rattle.std.proofs.Common.{◌≡◌, ◌++◌, ◌+◌, ◌-◌, ℕ, List, length, take, drop, sym, ap, ◌∙◌, take-append-drop}
use Rattle.std.proofs.Math.Seq.{take-add}
use Rattle.std.proofs.lemmas.List.{take_rest, drop-drop}
use Rattle.dagbench_lines.proofs.memory.MemorySource.give.Goals as goal

-- what was copied comes next
comes_next : (all whole to : List ℕ) (at n : ℕ)
    → take n to ≡ take n (take (length all - at) (drop at all)) → all ≡ whole → take n to ≡ take n (drop at whole)
comes_next all whole to at n copied same =
    copied ∙ (ap (take n) (take_rest all at) ∙ ap (λ l. take n (drop at l)) same)

more : (all whole to : List ℕ) (at n : ℕ) → take n to ≡ take n (take (length all - at) (drop at all)) → all ≡ whole
    → take at whole ++ take n (drop at whole) ≡ take at whole ++ take n to
more all whole to at n copied same = ap (λ l. take at whole ++ l) (sym (comes_next all whole to at n copied same))

rest : (all whole to : List ℕ) (at n : ℕ) → take n to ≡ take n (take (length all - at) (drop at all)) → all ≡ whole
    → drop at whole ≡ take n to ++ drop (at + n) whole
rest all whole to at n copied same =
    sym (take-append-drop n (drop at whole))
    ∙ (ap (λ l. l ++ drop n (drop at whole)) (sym (comes_next all whole to at n copied same))
    ∙ ap (λ l. take n to ++ l) (drop-drop n at whole))

pub returns-clause-bytes : goal.returns-clause-bytes
returns-clause-bytes c =
    take-add _ _ _ ∙ more _ _ _ _ _ c.copy_front-count.ensures.copied.1 c.deref.ensures.value
    ∙ ap (λ s. take s.at s.bytes ++ take c.copy_front-count.result c.copy_front-count.new.to) c.self.view_is

pub returns-clause-rest : goal.returns-clause-rest
returns-clause-rest c =
    sym (ap (λ s. drop s.at s.bytes) c.self.view_is)
    ∙ rest _ _ _ _ _ c.copy_front-count.ensures.copied.1 c.deref.ensures.value
