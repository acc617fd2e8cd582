-- Lists of no fields.
use Rattle.std.proofs.Common.{◌≡◌, ◌<◌, true, false, List, [], ◌∷◌, length, map, reverse, refl, ap, arith}
use Rattle.cg_base.specs.declared.place.Place.{Place}
use Rattle.cg_check_def.specs.Pass.{is_end}
use Rattle.cg_check_context.proofs.SourceSteps.{types_long}
use Rattle.cg_core.specs.declared.term.FieldTerm.{FieldTerm}
use Rattle.cg_core.specs.Kernels.{the_field}
use Rattle.cg_core.specs.Terms.{to_named}
use Rattle.cg_check_pieces.proofs.FieldSteps.{no_cores, no_parts, no_trees}

pub no_strings : {A : Type 0} (ss : List A) → ss ≡ [] → reverse ss ≡ []
no_strings ss e = ap reverse e

-- the fields of a term
pub end_without : (fs : List (FieldTerm Place)) → length fs ≡ 0 → is_end (to_named (map the_field fs)) ≡ true
unfolding to_named
end_without [] h = refl
end_without (f ∷ fs) h = absurd (omega arith)

pub end_unless : (fs : List (FieldTerm Place)) → 0 < length fs → is_end (to_named (map the_field fs)) ≡ false
unfolding to_named
end_unless [] h = absurd (omega arith)
end_unless (f ∷ fs) h = refl

pub ruleset none_steps = (no_parts, no_cores, no_trees, no_strings, types_long)

pub ruleset end_steps = (end_without, end_unless)
