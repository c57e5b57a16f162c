-- What a node reaches in a direction, and by how many edges.
use Rattle.std.proofs.Common.{ℕ, List, [], ◌∷◌, refl, sym, subst}
use Rattle.daggy_base.specs.declared.index.Direction.{Direction}
use Rattle.daggy_base.specs.declared.index.Direction.TheVariants.{Outgoing, Incoming}
use Rattle.daggy_base.specs.Graph.{Graph, HasNode}
use Rattle.daggy_base.specs.Path.{AreJoined, IsPath, end_of}
use Rattle.daggy_base.specs.WellFormed.{IsWellFormed}
use Rattle.daggy_base.proofs.LongerPaths.{reaches_more}
use Rattle.daggy_base.proofs.PathEnds.{path_begins, path_ends}
use Rattle.daggy_traversal.specs.Traversal.{LeadsTo, LeadsFar}

module _ {N E : Type 0} {end : ℕ} {g : Graph N E} (w : IsWellFormed end g) where
  parent_exists : (u v : ℕ) → AreJoined g u v → HasNode g u
  parent_exists u v j = w.parents j.0 (record { parent = u; child = v; weight = j.1 }) j.2

  child_exists : (u v : ℕ) → AreJoined g u v → HasNode g v
  child_exists u v j = w.children j.0 (record { parent = u; child = v; weight = j.1 }) j.2

  pub far_node : (dir : Direction) (u v : ℕ) → LeadsTo dir g u v → HasNode g v
  far_node Outgoing u v j = child_exists u v j
  far_node Incoming u v j = parent_exists v u j

  pub near_node : (dir : Direction) (u v : ℕ) → LeadsTo dir g u v → HasNode g u
  near_node Outgoing u v j = parent_exists u v j
  near_node Incoming u v j = child_exists v u j

  -- one edge more
  pub leads_farther : (dir : Direction) (a u v : ℕ) → LeadsFar dir g a u → LeadsTo dir g u v → LeadsFar dir g a v
  leads_farther Outgoing a u v r j = reaches_more g a u v r j (child_exists u v j)
  leads_farther Incoming a u v r j = (u ∷ r.0, (parent_exists v u j, j, r.1), r.2)

pub leads_nowhere : {N E : Type 0} (g : Graph N E) (dir : Direction) (a : ℕ) → HasNode g a → LeadsFar dir g a a
leads_nowhere g Outgoing a exists = ([], exists, refl)
leads_nowhere g Incoming a exists = ([], exists, refl)

pub start_exists : {N E : Type 0} (g : Graph N E) (dir : Direction) (a v : ℕ) → LeadsFar dir g a v → HasNode g a
start_exists g Outgoing a v r = path_begins g a r.0 r.1
start_exists g Incoming a v r =
    let P : ℕ → Type 0 = λ z. HasNode g z in subst P r.2 (path_ends g v r.0 r.1)

pub far_exists : {N E : Type 0} (g : Graph N E) (dir : Direction) (a v : ℕ) → LeadsFar dir g a v → HasNode g v
far_exists g Outgoing a v r =
    let P : ℕ → Type 0 = λ z. HasNode g z in subst P r.2 (path_ends g a r.0 r.1)
far_exists g Incoming a v r = path_begins g v r.0 r.1

-- a set of nodes that no edge leads out of has all that its members reach
path_stays : {N E : Type 0} (g : Graph N E) (P : ℕ → Type 0) → ((u v : ℕ) → P u → AreJoined g u v → P v)
    → (u : ℕ) (rest : List ℕ) → IsPath g (u ∷ rest) → P u → P (end_of u rest)
path_stays g P closed u [] p here = here
path_stays g P closed u (v ∷ rest) p here = path_stays g P closed v rest p.2 (closed u v here p.1)

path_stays_back : {N E : Type 0} (g : Graph N E) (P : ℕ → Type 0) → ((u v : ℕ) → P u → AreJoined g v u → P v)
    → (u : ℕ) (rest : List ℕ) → IsPath g (u ∷ rest) → P (end_of u rest) → P u
path_stays_back g P closed u [] p here = here
path_stays_back g P closed u (v ∷ rest) p here =
    closed v u (path_stays_back g P closed v rest p.2 here) p.1

pub leads_within : {N E : Type 0} (g : Graph N E) (dir : Direction) (P : ℕ → Type 0)
    → ((u v : ℕ) → P u → LeadsTo dir g u v → P v) → (a v : ℕ) → LeadsFar dir g a v → P a → P v
leads_within g Outgoing P closed a v r here = subst P r.2 (path_stays g P closed a r.0 r.1 here)
leads_within g Incoming P closed a v r here = path_stays_back g P closed v r.0 r.1 (subst P (sym r.2) here)
