-- Tests on leaves.
use Rattle.std.proofs.Common.{◌≡◌, if◌then◌else◌, Bool, true, false, ◌&&◌, List, [], ◌∷◌, Option, Some, None, refl, sym, ap, ◌∙◌}
use Rattle.cg_base.specs.declared.kind.Kinds.{Kinds}
use Rattle.cg_base.specs.declared.place.Place.{Place}
use Rattle.cg_base.specs.Types.{Tau}
use Rattle.cg_core.specs.declared.term.Form.{the_lemmas}
use Rattle.cg_core.specs.Terms.{Arg}
use Rattle.cg_faults.specs.declared.rule.Rule.{Rule}
use Rattle.cg_faults.specs.declared.rule.Rule.TheVariants.{K1, T13, T14}
use Rattle.cg_kinds.specs.Kinds.{kinds, is_word}
use Rattle.cg_typing_parts.specs.Asked.{arguments_fault, asked_fault, failed_at, unmet}
use Rattle.cg_typing.specs.Functions.{Asked, these, a_cell, an_element, nothing, are_good_arguments, has_kinds, later_asked, meets_asked, next_asked}
use Rattle.cg_typing.specs.Parts.{has_word_arrays, is_cell}
use Rattle.cg_base.proofs.Truths.{and_false}

-- whether something failed
abbrev fine : {A : Type 0} → Option A → Bool
fine None = true
fine (Some a) = false

chosen : (b : Bool) (r : Rule) → fine (if b then None else Some r) ≡ b
chosen true r = refl
chosen false r = refl

met : (vars : List Kinds) (a : Asked) (t : Tau) → fine (unmet vars a t) ≡ meets_asked vars a t
met vars (these wanted) t = chosen (has_kinds (kinds vars t) wanted) K1
met vars a_cell t = chosen (is_cell t) T13
met vars an_element t = chosen (is_word t) T14
met vars nothing t = refl

asked : (vars : List Kinds) (a : Asked) (t : Tau) → fine (asked_fault vars a t) ≡ has_word_arrays t && meets_asked vars a t
asked vars a t = go (has_word_arrays t)
  where
    go : (b : Bool) → fine (if b then unmet vars a t else Some T14) ≡ b && meets_asked vars a t
    go true = met vars a t
    go false = refl

in_turn : (p : Place) (o : Option Rule) (k : Option (Rule × Place)) → fine (failed_at p o k) ≡ fine o && fine k
in_turn p None k = refl
in_turn p (Some r) k = refl

both : (a b c d e : Bool) → a ≡ b && c → d ≡ e → a && d ≡ b && (c && e)
both a true c d e h k = cc
both a false c d e h k = ap (λ x. x && d) h

good : (vars : List Kinds) (wanted : List Asked) (args : List Arg) → fine (arguments_fault vars wanted args) ≡ are_good_arguments vars wanted args
good vars wanted [] = refl
good vars wanted (a ∷ args) =
    in_turn a.place (asked_fault vars (next_asked wanted) a.ty) (arguments_fault vars (later_asked wanted) args)
    ∙ both (fine (asked_fault vars (next_asked wanted) a.ty)) (has_word_arrays a.ty) (meets_asked vars (next_asked wanted) a.ty) (fine (arguments_fault vars (later_asked wanted) args))
    (are_good_arguments vars (later_asked wanted) args) (asked vars (next_asked wanted) a.ty) (good vars (later_asked wanted) args)

pub good_when : (vars : List Kinds) (wanted : List Asked) (args : List Arg) → arguments_fault vars wanted args ≡ None → are_good_arguments vars wanted args ≡ true
good_when vars wanted args h = sym (good vars wanted args) ∙ ap fine h

pub good_unless : (vars : List Kinds) (wanted : List Asked) (args : List Arg) (f : Rule × Place) → arguments_fault vars wanted args ≡ Some f → are_good_arguments vars wanted args ≡ false
good_unless vars wanted args f h = sym (good vars wanted args) ∙ ap fine h

pub ruleset leaf_steps = (and_false, the_lemmas)

pub ruleset argument_steps = (good_when, good_unless)
