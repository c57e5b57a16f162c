-- What a step of a walk that a function leads tells of the next one.
use Rattle.std.proofs.Common.{◌≡◌, Option, None, ◌∷◌, refl, sym, subst}
use Rattle.std.specs.Prelude.{MatchOption}
use Rattle.std.specs.Fn.{Called}
use denote.Ref.{Bor}
use denote.Param.Members.{Mut}
use Rattle.daggy_walk.specs.Leading.{CallsNode, RecursiveStep, LeadsOn}

module _ {F G N E : Type 0} (m : Mut F (Bor G × (N × Unit {0})) (Option (E × N))) where
  pub calls_node : {f f' : F} {p : Bor G} {n : N} {r v : Option (E × N)}
      → Called m f (p, (n, tt)) r f' → r ≡ v → CallsNode m p.now f n v f'
  calls_node {f} {f'} {p} {n} h e = record {
    graph = p;
    shows = refl;
    called = subst (λ k. Called m f (p, (n, tt)) k f') e h;
  }

  module _ {g : G} where
    pub stays_there : {n : N} {f f' : F} {r : Option (E × N)}
        → CallsNode m g f n r f' → r ≡ None → RecursiveStep m g n f r n f'
    stays_there {n} k e = record { asked = k; moves = subst (λ o. MatchOption o (n ≡ n) (λ x. n ≡ x.1)) (sym e) refl }

    pub leads_on : {n n' : N} {f f' : F} (r : Option (E × N))
        → LeadsOn m g n f → RecursiveStep m g n f r n' f' → LeadsOn m g n' f'
    leads_on {n' = n'} {f' = f'} r h k = record { at = λ rs a b y. h.at (r ∷ rs) a b ((n', f'), k, y) }
