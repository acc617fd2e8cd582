-- Substitution at each list.
use Rattle.std.proofs.Common.{◌≡◌, List, [], ◌∷◌, map, refl, ap}
use Rattle.cg_base.specs.Types.{Tau}
use Rattle.cg_core.specs.declared.term.Form.{the_lemmas}
use Rattle.cg_core.specs.Terms.{Tree, OneField, Note, more, field, to_trees, to_named}
use Rattle.cg_mono.specs.Fields.{subst_field}
use Rattle.cg_typing.specs.Subst.{subst_core, subst_cores, subst_fields}

pub cores_list : (types : List Tau) (ts : List (Tree Note)) → subst_cores types (to_trees ts) ≡ to_trees (map (subst_core types) ts)
unfolding to_trees
cores_list types [] = refl
cores_list types (t ∷ ts) = ap (more (subst_core types t)) (cores_list types ts)

pub fields_list : (types : List Tau) (fs : List (OneField Note)) → subst_fields types (to_named fs) ≡ to_named (map (subst_field types) fs)
unfolding to_named
fields_list types [] = refl
fields_list types (f ∷ fs) = ap (field f.name (subst_core types f.term)) (fields_list types fs)

pub ruleset specialised = (cores_list, fields_list, the_lemmas)
