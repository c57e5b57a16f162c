-- Going back by the parents that a search noted.
use Rattle.std.proofs.Common.{◌≡◌, ◌≢◌, ℕ, ◌+◌, Bool, List, [], ◌∷◌, ◌++◌, length, get_or, map, refl, sym, ap}
use Rattle.std.proofs.Common.{subst, ◌∙◌, arith, reverse}
use Rattle.std.proofs.lemmas.List.{reverse-append, map-append, length-append, length-reverse}
use Rattle.daggy_base.specs.Graph.{Graph}
use Rattle.daggy_base.specs.Path.{IsPath, end_of}
use Rattle.daggy_base.specs.WellFormed.{IsWellFormed}
use Rattle.daggy_order.specs.Paths.{IsShortestPath, IsEntered, LeadsBack}

last_first : (ns : List ℕ) (n : ℕ) → reverse (ns ++ n ∷ []) ≡ n ∷ reverse ns
last_first ns n = reverse-append ns (n ∷ [])

pub map_reverse : {A : Type 0} (f : A → ℕ) (xs : List A) → map f (reverse xs) ≡ reverse (map f xs)
map_reverse f [] = refl
map_reverse f (x ∷ xs) =
    ap (map f) (reverse-append (x ∷ []) xs)
    ∙ (map-append f (reverse xs) (x ∷ [])
    ∙ (ap (λ z. z ++ f x ∷ []) (map_reverse f xs) ∙ sym (reverse-append (f x ∷ []) (map f xs))))

-- going back from b has come to n, and the passed nodes, turned round, go on from n to b
pub record GoingBack {N E : Type 0} (g : Graph N E) (a b : ℕ) (entered : List Bool) (parents passed : List ℕ) (n : ℕ)
    : Type 0 where
  pub lead : LeadsBack g a b entered parents
  pub here : IsEntered entered n
  pub path : IsPath g (n ∷ reverse passed)
  pub ends : end_of n (reverse passed) ≡ b
  pub counted : length passed + lead.level n ≡ lead.level b

module _ {N E : Type 0} {end : ℕ} {g : Graph N E} (w : IsWellFormed end g) {a b : ℕ} {entered : List Bool}
    {parents passed : List ℕ} {n : ℕ} (s : GoingBack g a b entered parents passed n) where
  pub back_more : n ≢ a → {passed' : List ℕ} {p : ℕ} → passed' ≡ passed ++ n ∷ [] → p ≡ get_or parents n 0
      → GoingBack g a b entered parents passed' p
  back_more apart {passed'} {p} more is =
      let q = get_or parents n 0 in
      let t = s.lead.noted.noted n s.here apart in
      let j = t.joined in
      let P : List ℕ → Type 0 = λ z. IsPath g (q ∷ z) in
      let whole : GoingBack g a b entered parents (passed ++ n ∷ []) q = record {
        lead = s.lead;
        here = t.met;
        path = subst P (sym (last_first passed n)) (w.parents j.0 _ j.2, j, s.path);
        ends = ap (λ z. end_of q z) (last_first passed n) ∙ s.ends;
        counted = omega (arith, s.counted, t.below, length-append passed (n ∷ []));
      } in
      rw (more, is) whole

  pub came_back : n ≡ a → (path : List ℕ) → path ≡ reverse (passed ++ n ∷ []) → IsShortestPath g a b path
  came_back is path whole =
      let P : ℕ → Type 0 = λ z. IsPath g (z ∷ reverse passed) in
      let Q : ℕ → Type 0 = λ z. end_of z (reverse passed) ≡ b in
      record {
        between = record {
          rest = reverse passed;
          begins = whole ∙ (last_first passed n ∙ ap (λ z. z ∷ reverse passed) is);
          joined = subst P is s.path;
          ends = subst Q is s.ends;
        };
        fewest = λ other o.
            omega (
              arith,
              ap length whole,
              length-reverse (passed ++ n ∷ []),
              length-append passed (n ∷ []),
              s.counted,
              ap s.lead.level is,
              s.lead.noted.top,
              s.lead.fewest other o,
            );
      }
