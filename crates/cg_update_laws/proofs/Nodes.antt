-- What holds of all nodes of two parts, and the type of a field by its place.
use Rattle.std.proofs.Common.{◌≡◌, ℕ, Bool, IsTrue, List, ◌++◌, sym, ◌∙◌}
use Rattle.std.proofs.lemmas.Bool.{and_parts}
use Rattle.std.proofs.lemmas.List.Folds.{list_all-append}
use Rattle.std.specs.List.{list_all}
use Rattle.cg_base.specs.Types.{Tau, fields}
use Rattle.cg_eval_operations.specs.Positions.{position}
use Rattle.cg_typing.specs.Parts.{field_in, held, is_left}
use Rattle.cg_update.specs.Machines.{type_of_part}
use Rattle.cg_update.specs.Turns.{fields_in}
use Rattle.cg_update_laws.proofs.Named.{named_type}
use Rattle.cg_typing_laws.proofs.Named.{left_is_there as left_there}
use Rattle.cg_base.proofs.Counts.{no_steps as never}

-- what holds of all of two lists holds of those of each
pub all_front : {A : Type 0} (f : A → Bool) (xs ys : List A) → IsTrue (list_all f (xs ++ ys)) → IsTrue (list_all f xs)
all_front f xs ys h = (and_parts (list_all f xs) _ (sym (list_all-append f xs ys) ∙ h)).0

pub all_back : {A : Type 0} (f : A → Bool) (xs ys : List A) → IsTrue (list_all f (xs ++ ys)) → IsTrue (list_all f ys)
all_back f xs ys h = (and_parts (list_all f xs) _ (sym (list_all-append f xs ys) ∙ h)).1

-- the type of a field by its place
pub field_type_is : (n : List ℕ) (t : Tau) → IsTrue (is_left (field_in n t)) → type_of_part (position n t) (fields_in t) ≡ held (field_in n t)
unfolding position
field_type_is n (fields ps s) l = named_type n ps (left_there (field_in n (fields ps s)) l)
field_type_is n _ l = never l
