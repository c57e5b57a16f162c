-- Reading a list of edges from words, one by one.
use Rattle.std.proofs.Common.{◌≡◌, ℕ, suc, ◌<◌, ◌≤◌, true, false, List, [], ◌∷◌, length, Option, Some, None, IsSome}
use Rattle.std.proofs.Common.{is_some, MatchOption, refl, sym, ap, ◌∙◌, arith, ℤ}
use Rattle.std.specs.Option.{option_map, unwrap_or}
use Rattle.std.proofs.lemmas.Bool.{false≢true}
use Rattle.std.proofs.lemmas.Option.{same_Some}
use Rattle.dagbench_lines.specs.Numbers.{index_of, weight_of}
use Rattle.dagbench_lines.specs.Listing.{◌>>=◌, first_by, first_edge_of, edges_by_words}

abbrev Listed : Type 0
Listed = ℕ × ℕ × ℤ

-- an edge and the words behind it, and then the edges that those list
abbrev with_rest : Option (Listed × List (List ℕ)) → Option (List Listed)
with_rest first = first >>= (λ e. edges_by_words e.1 >>= (λ es. Some (e.0 ∷ es)))

abbrev pub beside : {A : Type 0} → List (List ℕ) → A → A × List (List ℕ)
beside words x = (x, words)

-- what is read behind a parent, behind its child, and behind a weight
abbrev on_weight : (p c : ℕ) → ℤ × List (List ℕ) → Option (Listed × List (List ℕ))
on_weight p c w = Some ((p, c, w.0), w.1)

abbrev on_child : ℕ → ℕ × List (List ℕ) → Option (Listed × List (List ℕ))
on_child p c = first_by weight_of c.1 >>= on_weight p c.0

abbrev on_parent : ℕ × List (List ℕ) → Option (Listed × List (List ℕ))
on_parent p = first_by index_of p.1 >>= on_child p.0

abbrev then_rest : List (List ℕ) → Listed → Option (List Listed)
then_rest words e = edges_by_words words >>= (λ es. Some (e ∷ es))

by_weight : (p c : ℕ) (o : Option ℤ) (words : List (List ℕ))
    → (o >>= (λ w. then_rest words (p, c, w))) ≡ with_rest (option_map (beside words) o >>= on_weight p c)
by_weight p c None words = refl
by_weight p c (Some w) words = refl

by_child : (p : ℕ) (o : Option ℕ) (weight : List ℕ) (words : List (List ℕ))
    → (o >>= (λ c. weight_of weight >>= (λ w. then_rest words (p, c, w))))
    ≡ with_rest (option_map (beside (weight ∷ words)) o >>= on_child p)
by_child p None weight words = refl
by_child p (Some c) weight words = by_weight p c (weight_of weight) words

by_parent : (o : Option ℕ) (child weight : List ℕ) (words : List (List ℕ))
    → (o >>= (λ p. index_of child >>= (λ c. weight_of weight >>= (λ w. then_rest words (p, c, w)))))
    ≡ with_rest (option_map (beside (child ∷ weight ∷ words)) o >>= on_parent)
by_parent None child weight words = refl
by_parent (Some p) child weight words = by_child p (index_of child) weight words

no_child : (o : Option ℕ) → None ≡ with_rest (option_map (beside []) o >>= on_parent)
no_child None = refl
no_child (Some p) = refl

no_weight_here : (p : ℕ) (o : Option ℕ) → None ≡ with_rest (option_map (beside []) o >>= on_child p)
no_weight_here p None = refl
no_weight_here p (Some c) = refl

no_weight : (o : Option ℕ) (child : List ℕ) → None ≡ with_rest (option_map (beside (child ∷ [])) o >>= on_parent)
no_weight None child = refl
no_weight (Some p) child = no_weight_here p (index_of child)

-- all edges are the first and those behind it
by_first : (word : List ℕ) (words : List (List ℕ))
    → edges_by_words (word ∷ words) ≡ with_rest (first_edge_of (word ∷ words))
unfolding first_edge_of
by_first parent [] = no_child (index_of parent)
by_first parent (child ∷ []) = no_weight (index_of parent) child
by_first parent (child ∷ weight ∷ words) = by_parent (index_of parent) child weight words

no_first : first_edge_of [] ≡ None
unfolding first_edge_of
no_first = refl

-- where the first edge is read
pub listed_with : {A : Type 0} (o : Option (List A)) (e : A) → IsSome (o >>= (λ es. Some (e ∷ es)))
    → IsSome o × (unwrap_or (o >>= (λ es. Some (e ∷ es))) [] ≡ e ∷ unwrap_or o [])
listed_with None e some = absurd (false≢true some)
listed_with (Some es) e some = (refl, refl)

pub is_some_with : {A : Type 0} (o : Option (List A)) (e : A) → is_some (o >>= (λ es. Some (e ∷ es))) ≡ is_some o
is_some_with None e = refl
is_some_with (Some es) e = refl

pub first_listed : (words rest : List (List ℕ)) (e : Listed)
    → first_edge_of words ≡ Some (e, rest) → IsSome (edges_by_words words)
    → IsSome (edges_by_words rest) × (unwrap_or (edges_by_words words) [] ≡ e ∷ unwrap_or (edges_by_words rest) [])
first_listed [] rest e first some = let none = no_first in absurd cc
first_listed (word ∷ words) rest e first some =
    let whole : edges_by_words (word ∷ words) ≡ (edges_by_words rest >>= (λ es. Some (e ∷ es))) =
    by_first word words ∙ ap with_rest first in
    let there = listed_with (edges_by_words rest) e (sym (ap is_some whole) ∙ some) in
    (there.0, ap (λ o. unwrap_or o []) whole ∙ there.1)

pub same_after_first : (words rest : List (List ℕ)) (e : Listed)
    → first_edge_of words ≡ Some (e, rest) → is_some (edges_by_words rest) ≡ is_some (edges_by_words words)
same_after_first [] rest e first = let none = no_first in absurd cc
same_after_first (word ∷ words) rest e first =
    sym (ap is_some (by_first word words ∙ ap with_rest first) ∙ is_some_with (edges_by_words rest) e)

-- where it is not
pub none_listed : (words : List (List ℕ)) → first_edge_of words ≡ None → IsSome (edges_by_words words) → words ≡ []
none_listed [] first some = refl
none_listed (word ∷ words) first some =
    absurd (false≢true (sym (ap is_some (by_first word words ∙ ap with_rest first)) ∙ some))

pub not_listed : (word : List ℕ) (words : List (List ℕ))
    → first_edge_of (word ∷ words) ≡ None → edges_by_words (word ∷ words) ≡ None
not_listed word words first = by_first word words ∙ ap with_rest first

-- the loop that reads them all
pub not_some : {A : Type 0} (o : Option A) → is_some o ≡ false → o ≡ None
not_some None h = refl
not_some (Some x) h = absurd (false≢true (sym h))

pub none_after_first : (words whole : List (List ℕ)) → (words ≡ [] → ⊥) → first_edge_of words ≡ None
    → is_some (edges_by_words words) ≡ is_some (edges_by_words whole) → edges_by_words whole ≡ None
none_after_first [] whole some first same = absurd (some refl)
none_after_first (word ∷ words) whole some first same =
    not_some (edges_by_words whole) (sym same ∙ ap is_some (not_listed word words first))

weight_shorter : (p c : ℕ) (o : Option ℤ) (words rest : List (List ℕ)) (e : Listed)
    → (option_map (beside words) o >>= on_weight p c) ≡ Some (e, rest) → words ≡ rest
weight_shorter p c None words rest e first = absurd cc
weight_shorter p c (Some w) words rest e first = ap (λ (x : Listed × List (List ℕ)). x.1) (same_Some _ _ first)

child_shorter : (p : ℕ) (o : Option ℕ) (words rest : List (List ℕ)) (e : Listed)
    → (option_map (beside words) o >>= on_child p) ≡ Some (e, rest) → suc (length rest) ≤ length words
child_shorter p None words rest e first = absurd cc
child_shorter p (Some c) [] rest e first = absurd cc
child_shorter p (Some c) (word ∷ words) rest e first =
    let same = weight_shorter p c (weight_of word) words rest e first in omega (arith, ap length same)

parent_shorter : (o : Option ℕ) (words rest : List (List ℕ)) (e : Listed)
    → (option_map (beside words) o >>= on_parent) ≡ Some (e, rest) → suc (suc (length rest)) ≤ length words
parent_shorter None words rest e first = absurd cc
parent_shorter (Some p) [] rest e first = absurd cc
parent_shorter (Some p) (word ∷ words) rest e first =
    let fewer = child_shorter p (index_of word) words rest e first in omega (arith, fewer)

pub shorter_rest : (words rest : List (List ℕ)) (e : Listed)
    → first_edge_of words ≡ Some (e, rest) → length rest < length words
unfolding first_edge_of
shorter_rest [] rest e first = absurd cc
shorter_rest (word ∷ words) rest e first =
    let fewer = parent_shorter (index_of word) words rest e first in omega (arith, fewer)

pub some_word : {A : Type 0} (o : Option A) (words : List (List ℕ)) (first : A → List ℕ) (behind : A → List (List ℕ))
    → MatchOption o (words ≡ []) (λ x. words ≡ first x ∷ behind x) → is_some o ≡ true → words ≡ [] → ⊥
some_word None words first behind read some none = false≢true some
some_word (Some x) words first behind read some none = cc
