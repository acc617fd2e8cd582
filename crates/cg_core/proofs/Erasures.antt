-- Erasure at each list.
use Rattle.std.proofs.Common.{◌≡◌, List, [], ◌∷◌, map, refl, ap}
use Rattle.cg_core.specs.declared.term.Form.{the_lemmas}
use Rattle.cg_core.specs.Terms.{Tree, OneField, Note, more, field, to_trees, to_named, erased, erased_trees, erased_named, erased_field}

pub erased_list : (ts : List (Tree Note)) → erased_trees (to_trees ts) ≡ to_trees (map erased ts)
unfolding erased to_trees
erased_list [] = refl
erased_list (t ∷ ts) = ap (more (erased t)) (erased_list ts)

pub erased_fields : (fs : List (OneField Note)) → erased_named (to_named fs) ≡ to_named (map erased_field fs)
unfolding erased to_named
erased_fields [] = refl
erased_fields (f ∷ fs) = ap (field f.name (erased f.term)) (erased_fields fs)

pub ruleset erasures = (erased_list, erased_fields, the_lemmas)
