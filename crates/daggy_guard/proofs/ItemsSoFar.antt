-- What an iterator gave so far.
use Rattle.std.proofs.Common.{◌≡◌, List, [], ◌∷◌, ◌++◌, Option, Some, None, refl, sym, subst}
use Rattle.std.specs.List.{AllZip}
use Rattle.std.specs.Iterator.{Yields, Drains}

-- one item more
pub yields_more : {S A : Type 0} (gives : S → Option A → S → Type 0) (s t u : S) (xs : List A) {x : A} {r : Option A}
    → Yields gives s xs t → gives t r u → r ≡ Some x → Yields gives s (xs ++ x ∷ []) u
yields_more {S} {A} gives s t u [] {x} y k is =
    let P : Option A → Type 0 = λ z. gives t z u in
    let Q : S → Type 0 = λ z. gives z (Some x) u in
    (u, subst Q (sym y) (subst P is k), refl)
yields_more gives s t u (z ∷ zs) {x} {r} y k is = (y.0, y.1, yields_more gives y.0 t u zs y.2 k is)

-- and none after that
pub drained : {S A : Type 0} (gives : S → Option A → S → Type 0) (s t u : S) (ys : List A) (r : Option A)
    → Yields gives s ys t → gives t r u → r ≡ None → Drains gives s ys
drained {S} {A} gives s t u ys r y k is = (u, (t, y, (let P : Option A → Type 0 = λ z. gives t z u in subst P is k)))

-- and what each item became
pub zip_more : {A B : Type 0} (R : A → B → Type 0) (xs : List A) (ys : List B) (x : A) (y : B)
    → AllZip R xs ys → R x y → AllZip R (xs ++ x ∷ []) (ys ++ y ∷ [])
zip_more R [] [] x y all here = (here, tt)
zip_more R [] (z ∷ zs) x y all here = absurd all
zip_more R (z ∷ zs) [] x y all here = absurd all
zip_more R (z ∷ zs) (w ∷ ws) x y all here = (all.0, zip_more R zs ws x y all.1 here)
