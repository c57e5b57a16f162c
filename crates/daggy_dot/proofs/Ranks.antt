-- Nodes on a rank, and ranks, written one after another.
use Rattle.std.proofs.Common.{◌≡◌, ◌∙◌, ℕ, ◌+◌, ◌<◌, List, [], ◌∷◌, ◌++◌, ap, refl, sym, rules, take, length}
use Rattle.std.proofs.lemmas.List.{append-nil, take_more}
use Rattle.std.proofs.lemmas.Grind.{flat_map-append}
use Rattle.std.proofs.Math.ListN.{get_or}
use Rattle.std.specs.Prelude.{Option, Some, None, IsSome, is_some, if◌then◌else◌, codes, decimal}
use Rattle.std.specs.List.{flat_map}
use Rattle.daggy_base.specs.Graph.{Graph, HasNode, node_weight}
use Rattle.daggy_dot.specs.Picture.{ranked}

pub flat_map_take : {X A : Type 0} (f : X → List A) (xs : List X) (i : ℕ) (d : X) → i < length xs
    → flat_map f (take i xs) ++ f (get_or xs i d) ≡ flat_map f (take (i + 1) xs)
flat_map_take f xs i d low =
    let x = get_or xs i d in
    ap (λ ys. flat_map f (take i xs) ++ ys) (sym (append-nil (f x)))
    ∙ sym (ap (flat_map f) (take_more xs i d low) ∙ flat_map-append f (take i xs) (x ∷ []))

module _ {N E I : Type 0} (number : I → ℕ) (g : Graph N E) (n : I) where
  pub ranked_there : HasNode g (number n) → ranked number g n ≡ decimal (number n) ++ codes "; "
  ranked_there there = go (node_weight g (number n)) there where
    go : (o : Option N) → IsSome o → (if is_some o then decimal (number n) ++ codes "; " else []) ≡ decimal (number n) ++ codes "; "
    go None there = search rules
    go (Some w) there = refl

  pub ranked_not : ¬ HasNode g (number n) → ranked number g n ≡ []
  ranked_not gone = go (node_weight g (number n)) gone where
    go : (o : Option N) → ¬ IsSome o → (if is_some o then decimal (number n) ++ codes "; " else []) ≡ []
    go None gone = refl
    go (Some w) gone = absurd (gone refl)
