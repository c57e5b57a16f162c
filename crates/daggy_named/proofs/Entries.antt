-- The entries of a map, by place and by key.
use Rattle.std.proofs.Common.{◌≡◌, ℕ, zero, suc, Bool, true, false, cond, List, [], ◌∷◌, Option, Some, None}
use Rattle.std.proofs.Common.{slice_get, Result, Ok, Err, IsOk, OnOk, refl, sym, ap, subst, ◌∙◌}
use Rattle.std.proofs.lemmas.Bool.{false≢true}
use Rattle.std.proofs.lemmas.Map.Entries.{lookup_from_place}
use Rattle.std.specs.Cmp.{IsEquivalence}
use Rattle.std.specs.List.{IsDistinct}
use Rattle.std.specs.Map.{keys_of, lookup}
use Rattle.std.specs.Option.{option_map, IfSome}

-- no entry passes where nothing is found
pub none_passes : {K I : Type 0} (test : K → Bool) (entries : List (K × I)) → lookup test entries ≡ None
    → (p : ℕ) (k : K) (i : I) → slice_get entries p ≡ Some (k, i) → test k ≡ false
none_passes test [] none p k i at = absurd cc
none_passes test (e ∷ es) none p k i at = by (test e.0) refl p at (λ f n. none_passes test es f n k i)
  where
    by : (b : Bool) → test e.0 ≡ b → (p : ℕ) → slice_get (e ∷ es) p ≡ Some (k, i)
        → (lookup test es ≡ None → (n : ℕ) → slice_get es n ≡ Some (k, i) → test k ≡ false) → test k ≡ false
    by true is p at rest = absurd (let found : Some e.1 ≡ None = sym (ap (λ c. cond c (Some e.1) (lookup test es)) is)
        ∙ none in cc)
    by false is zero at rest = let same : k ≡ e.0 = cc in ap test same ∙ is
    by false is (suc p) at rest = rest (sym (ap (λ c. cond c (Some e.1) (lookup test es)) is) ∙ none) p at

-- two entries with equal keys are the same
pub same_entry : {K I : Type 0} (eq : K → K → Bool) → IsEquivalence eq → (entries : List (K × I))
    → IsDistinct eq (keys_of entries)
    → (p q : ℕ) (a b : K) (i j : I) → slice_get entries p ≡ Some (a, i) → slice_get entries q ≡ Some (b, j)
    → eq a b ≡ true → i ≡ j
same_entry eq laws entries once p q a b i j at_p at_q same =
    let found = lookup_from_place laws entries p a i once at_p in
    let found_too = lookup_from_place laws entries q b j once at_q in
    let tests : eq a ≡ eq b = λ t z. laws.congr a b z same t in
    let both : Some i ≡ Some j = sym found ∙ ap (λ test. lookup test entries) tests ∙ found_too in cc

-- an entry names one node
pub same_node : {K I : Type 0} {o : Option (K × I)} (k k' : K) (i i' : I) → o ≡ Some (k, i) → o ≡ Some (k', i') → i ≡ i'
same_node {K} {I} {o} k k' i i' a b =
    let node : Option (K × I) → Option I = λ z. option_map (λ e. e.1) z in
    let both : Some i ≡ Some i' = sym (ap node a) ∙ ap node b in cc

-- what holds if a call succeeds, where it does
pub when_ok : {A B : Type 0} {P : Type 0} (r : Result A B) → IsOk r → OnOk r P → P
when_ok (Ok x) succeeds holds = holds
when_ok (Err y) succeeds holds = absurd (false≢true succeeds)

pub when_some : {A : Type 0} (r : Option A) (x : A) (P : A → Type 0) → r ≡ Some x → IfSome r P → P x
when_some r x P is holds = subst (λ o. IfSome o P) is holds
