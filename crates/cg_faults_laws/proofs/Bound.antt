-- What is bound at a node is touched only below it.
use Rattle.std.proofs.Common.{◌≡◌, ℕ, Option, Some, None, List, ◌∷◌, ◌++◌, ⊎_elim, sym, ap, ◌∙◌}
use Rattle.cg_core.specs.Kernels.{Function, Body}
use Rattle.cg_faults.specs.Fails.{root_of}
use Rattle.cg_faults.specs.Sites.{Path, bound_at, Site, down}
use Rattle.cg_faults.specs.Touches.{IsTouchAt}
use Rattle.cg_faults_laws.specs.Laws.{BoundVariablesStandBelow}
use Rattle.cg_faults_laws.proofs.Paths.{path_is, IsBoundBetween, IsIn, origin}
use Rattle.cg_faults_laws.proofs.Uses.{root_well}

one_path : (p q : Path) (n m : ℕ) → bound_at p n ≡ bound_at q m → p ≡ q
one_path p q n m e = cc

module _ (functions : List Function) (f : Function) (body : Body) (path : Path) (n : ℕ) where
  between : (q : Path) (z : Site) → IsBoundBetween functions (root_of f body) z q (bound_at path n) → (below : Path) × (q ≡ path ++ below)
  between q z b =
      let same : path ≡ b.above = one_path path b.site.path n b.number b.bound ∙ path_is functions b.above (root_of f body) b.site b.stands in
      (b.part ∷ b.below, b.way ∙ ap (λ p. p ++ (b.part ∷ b.below)) (sym same))

  stands_below : (q : Path) (z : Site) → down functions (Some (root_of f body)) q ≡ Some z → IsIn functions (bound_at path n) z.scope → (below : Path) × (q ≡ path ++ below)
  stands_below q z h i =
      ⊎_elim (λ l. absurd ((root_well f body).fresh l.0 l.1 l.2 path n l.3)) (λ b. between q z b) (origin functions q (root_of f body) z (bound_at path n) h i)

  touch_below : (q : Path) (t : Option ℕ) → IsTouchAt functions (root_of f body) (bound_at path n) q t → (below : Path) × (q ≡ path ++ below)
  touch_below q None u = stands_below q u.site u.stands (u.position, u.occurs.entry, u.occurs.in_scope, u.occurs.variable)
  touch_below q (Some k) u = stands_below q u.1.site u.1.stands (u.0.var, u.1.occurs.entry, u.1.occurs.in_scope, u.1.occurs.variable)

pub bound_variables_stand_below : BoundVariablesStandBelow
bound_variables_stand_below functions f body path n q t u = touch_below functions f body path n q t u
