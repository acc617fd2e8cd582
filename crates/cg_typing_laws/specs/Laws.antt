-- The laws of substitution, of bang and of weakening, at all forms.
use Rattle.std.specs.Prelude.{◌≡◌, ℕ, ◌≤◌, length, Bool, IsTrue, Some, None, List, [], ◌∷◌, Option, map, slice_get}
use Rattle.std.specs.Option.{option_map}
use Rattle.cg_base.specs.declared.kind.Kinds.{Kinds}
use Rattle.cg_base.specs.Types.{Tau}
use Rattle.cg_core.specs.Derivations.{Derivation}
use Rattle.cg_core.specs.Kernels.{Function}
use Rattle.cg_core.specs.Terms.{Tree, Note, Arg}
use Rattle.cg_kinds.specs.Kinds.{kinds, bang, subst, bang_piece}
use Rattle.cg_kinds.specs.Laws.{AreKept}
use Rattle.cg_typing.specs.Contexts.{Context}
use Rattle.cg_typing.specs.Accepted.{kinds_of_vars}
use Rattle.cg_typing.specs.Functions.{arg_types, asked_by_user, are_good_arguments}
use Rattle.cg_typing.specs.Parts.{has_word_arrays, field_in, alternative_in, with_part, is_last}
use Rattle.cg_typing.specs.Rules.{Derives}
use Rattle.cg_typing.specs.Inserted.{inserted, raise}
use Rattle.cg_typing.specs.Subst.{subst_direction, subst_context, subst_core}
use Rattle.cg_typing.specs.Wider.{IsWiderEntry, IsWider, IsDerived}

-- type arguments that may stand for type variables of these kinds: each has its variable's kinds, and is written with arrays of
-- words alone. Positions need not be in range: a variable without an argument becomes unit, which has all kinds
pub record AreInstance (vars' : List Kinds) (given : List Tau) (vars : List Kinds) : Type 0 where
  pub kinds_met : (n : ℕ) (t : Tau) (k : Kinds) → slice_get given n ≡ Some t → slice_get vars n ≡ Some k → AreKept (kinds vars' t) k
  pub arrays : (n : ℕ) (t : Tau) → slice_get given n ≡ Some t → IsTrue (has_word_arrays t)

-- what is derived with type variables is derived with such arguments in their place, by the same derivation
abbrev pub SubstitutionKeepsDerivations : Type 0
SubstitutionKeepsDerivations =
    (functions : List Function) (vars vars' : List Kinds) (given : List Tau) → AreInstance vars' given vars
    → (g : Context) (d : Derivation) (direction : Option Tau) (c : Tree Note) → Derives functions vars g d direction c
    → Derives functions vars' (subst_context given g) d (subst_direction given direction) (subst_core given c)

-- type arguments that are what a function asks of them may stand for its type variables
abbrev pub CheckedArgumentsAreInstance : Type 0
CheckedArgumentsAreInstance =
    (vars : List Kinds) (f : Function) (args : List Arg) → IsTrue (are_good_arguments vars (asked_by_user (Some f)) args) → AreInstance vars (arg_types args) (kinds_of_vars f)

-- so a body that is derived is derived at them, by the same derivation
abbrev pub InstancesAreDerived : Type 0
InstancesAreDerived =
    (functions : List Function) (vars : List Kinds) (f : Function) (args : List Arg) → IsTrue (are_good_arguments vars (asked_by_user (Some f)) args)
    → (argument result : Tau) (d : Derivation) (c : Tree Note) → Derives functions (kinds_of_vars f) (Some argument ∷ []) d (Some result) c
    → Derives functions vars (Some (subst (arg_types args) argument) ∷ []) d (Some (subst (arg_types args) result)) (subst_core (arg_types args) c)

-- to put arguments in the place of variables twice is to do it once, with the arguments' own variables replaced
abbrev pub SubstitutionsCompose : Type 0
SubstitutionsCompose = (outer inner : List Tau) (t : Tau) → subst outer (subst inner t) ≡ subst (map (subst outer) inner) t

-- a type is observed before or after its variables are replaced
abbrev pub BangIsSubstituted : Type 0
BangIsSubstituted = (given : List Tau) (t : Tau) → subst given (bang t) ≡ bang (subst given t)

-- the parts of an observed type have the same names, are taken where they were, and are observed; an alternative is the last one
-- that is left where it was
pub record BangKeepsParts (name : List ℕ) (t : Tau) : Type 0 where
  pub field : field_in name (bang t) ≡ option_map bang_piece (field_in name t)
  pub alternative : alternative_in name (bang t) ≡ option_map bang_piece (alternative_in name t)
  pub taken : (now : Bool) → with_part name now (bang t) ≡ bang (with_part name now t)
  pub last : is_last name (bang t) ≡ is_last name t

abbrev pub PartsAreObserved : Type 0
PartsAreObserved = (name : List ℕ) (t : Tau) → BangKeepsParts name t

-- what is derived in a context is derived in one with more entries that may be dropped
abbrev pub DerivationsAreWeakened : Type 0
DerivationsAreWeakened =
    (functions : List Function) (vars : List Kinds) (g wide : Context) → IsWider vars g wide
    → (d : Derivation) (direction : Option Tau) (c : Tree Note) → Derives functions vars g d direction c → IsDerived functions vars wide direction c

-- and in one with an entry more at any position, gone or such that it may be dropped, with the variables renumbered
abbrev pub EntriesAreInserted : Type 0
EntriesAreInserted =
    (functions : List Function) (vars : List Kinds) (k : ℕ) (entry : Option Tau) (g : Context) → k ≤ length g → IsWiderEntry vars None entry
    → (d : Derivation) (direction : Option Tau) (c : Tree Note) → Derives functions vars g d direction c
    → IsDerived functions vars (inserted k entry g) direction (raise k c)
