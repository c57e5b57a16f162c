-- Reading a list of indices from words, one by one.
use Rattle.std.proofs.Common.{◌≡◌, ℕ, ◌<◌, List, [], ◌∷◌, length, Option, Some, None, is_some, refl, sym, ap}
use Rattle.std.proofs.Common.{◌∙◌, arith}
use Rattle.std.specs.Option.{option_map}
use Rattle.std.proofs.lemmas.Option.{same_Some}
use Rattle.dagbench_lines.specs.Numbers.{index_of}
use Rattle.dagbench_lines.specs.Listing.{◌>>=◌, first_by, indices_by_words}
use Rattle.dagbench_lines.proofs.Listed.{beside, is_some_with, not_some}

-- an index and those that the words behind it list
abbrev then_indices : List (List ℕ) → ℕ → Option (List ℕ)
then_indices words n = indices_by_words words >>= (λ ns. Some (n ∷ ns))

by_index : (o : Option ℕ) (words rest : List (List ℕ)) (n : ℕ)
    → option_map (beside words) o ≡ Some (n, rest) → (o >>= then_indices words) ≡ then_indices rest n
by_index None words rest n first = absurd cc
by_index (Some m) words rest n first =
    let same = same_Some _ _ first in
    let number : m ≡ n = ap (λ (x : ℕ × List (List ℕ)). x.0) same in
    let behind : words ≡ rest = ap (λ (x : ℕ × List (List ℕ)). x.1) same in
    ap (λ z. then_indices words z) number ∙ ap (λ z. then_indices z n) behind

by_none : (o : Option ℕ) (words : List (List ℕ))
    → option_map (beside words) o ≡ None → (o >>= then_indices words) ≡ None
by_none None words first = refl
by_none (Some m) words first = absurd cc

pub same_after_node : (words rest : List (List ℕ)) (n : ℕ)
    → first_by index_of words ≡ Some (n, rest) → is_some (indices_by_words rest) ≡ is_some (indices_by_words words)
same_after_node [] rest n first = absurd cc
same_after_node (word ∷ words) rest n first =
    sym (ap is_some (by_index (index_of word) words rest n first) ∙ is_some_with (indices_by_words rest) n)

node_shorter : (o : Option ℕ) (words rest : List (List ℕ)) (n : ℕ)
    → option_map (beside words) o ≡ Some (n, rest) → words ≡ rest
node_shorter None words rest n first = absurd cc
node_shorter (Some m) words rest n first = ap (λ (x : ℕ × List (List ℕ)). x.1) (same_Some _ _ first)

pub shorter_node : (words rest : List (List ℕ)) (n : ℕ)
    → first_by index_of words ≡ Some (n, rest) → length rest < length words
shorter_node [] rest n first = absurd cc
shorter_node (word ∷ words) rest n first = let same = node_shorter (index_of word) words rest n first in
    omega (arith, ap length same)

pub none_after_node : (words whole : List (List ℕ)) → (words ≡ [] → ⊥) → first_by index_of words ≡ None
    → is_some (indices_by_words words) ≡ is_some (indices_by_words whole) → indices_by_words whole ≡ None
none_after_node [] whole some first same = absurd (some refl)
none_after_node (word ∷ words) whole some first same =
    not_some (indices_by_words whole) (sym same ∙ ap is_some (by_none (index_of word) words first))
