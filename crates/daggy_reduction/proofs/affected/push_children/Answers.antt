use Rattle.std.proofs.Common.{◌≡◌, ◌≢◌, [], ◌∷◌, ◌++◌, inl, inr, map, ap, refl, ◌∙◌}
use Rattle.std.proofs.lemmas.List.{map-append}
use Rattle.daggy_base.proofs.Lists.{Mem, mem_left, mem_right, mem_contains, contains_mem}
use Rattle.daggy_reduction.proofs.Children.{looking_edge, looked_child, looking_on, all_looked}
use Rattle.daggy_reduction.proofs.ListedChildren.{list_one}
use Rattle.daggy_reduction.proofs.affected.push_children.Goals as goal

pub look-v-requires : goal.look-v-requires
look-v-requires g c =
    let here : g.Ix.IndexType.number c.edges.e ≢ g.Ix.IndexType.greatest = λ h. c.edges-test.true cc in
    looking_edge c.requires.well_formed c.edges.invariant.looking here

pub edges-preserved : goal.edges-preserved
edges-preserved g c =
    let here : g.Ix.IndexType.number c.edges.e ≢ g.Ix.IndexType.greatest = λ h. c.edges-test.true cc in
    let number = g.Ix.IndexType.number in
    let v = number c.look-v.result.0 in
    let before = map number c.edges.children.items in
    let looking = c.edges.invariant.looking in
    let gives = c.look-v.ensures.gives in
    let is = ap (map number) c.in_ok-push.ensures.items ∙ map-append number c.edges.children.items (c.look-v.result.0 ∷ []) in
    rw is (record {
      looking =
          looking_on c.requires.well_formed looking here gives (λ n. Mem n (before ++ v ∷ [])) c.look-v.ensures.same
          c.look-v.ensures.counted (λ n m. mem_left before (v ∷ []) n m) (mem_right before (v ∷ []) v (inl refl));
      listing =
          list_one c.edges.invariant.listing v (looked_child c.requires.well_formed looking here gives);
    })

pub returns-clause-exact : goal.returns-clause-exact
returns-clause-exact g c n =
    let at_end : g.Ix.IndexType.number c.edges.e ≡ g.Ix.IndexType.greatest = cc in
    let all = all_looked c.requires.well_formed c.edges.invariant.looking at_end in
    let listing = c.edges.invariant.listing in (
      λ has. elim (listing.only n (contains_mem _ n has)) [ inl b ↦ inl (mem_contains _ n b) | inr j ↦ inr j ],
      λ m. mem_contains _ n (elim m [ inl b ↦ listing.kept n (contains_mem _ n b) | inr j ↦ all n j ]),
    )
