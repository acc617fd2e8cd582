-- Names that are no variables.
use Rattle.std.proofs.Common.{◌≡◌, ℕ, List, [], ◌∷◌, map, refl}
use Rattle.cg_core.specs.declared.term.Term.{the_lemmas}
use Rattle.cg_surface.specs.Written.{Written, Writtens, types_behind, to_types, no_types, and_type}
use Rattle.cg_surface.specs.Programs.{Entry}
use Rattle.cg_resolve_def.specs.Expand.{Bodies}
use Rattle.cg_resolve_def.specs.Terms.{written, all_written}

module _ (entries : List Entry) (known : Bodies) (vars : List (List ℕ)) where
  types_more : (before : Writtens) (ts : List Written) → all_written entries known vars (types_behind before ts) [] ≡ all_written entries known vars before (map (written entries known vars) ts)
  types_more before [] = refl
  types_more before (t ∷ ts) = types_more (and_type before t) ts

  pub types_are : (ts : List Written) → all_written entries known vars (to_types ts) [] ≡ map (written entries known vars) ts
  unfolding to_types
  types_are ts = types_more no_types ts

pub ruleset name_steps = (types_are, the_lemmas)
