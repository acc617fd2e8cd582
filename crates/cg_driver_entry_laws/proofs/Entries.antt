-- What the type of an entry is.
use Rattle.std.proofs.Common.{◌≡◌, ℕ, ◌≤◌, Bool, true, false, not, List, length, Some, refl, sym, subst as carry, arith}
use Rattle.std.proofs.lemmas.Bool.{and_parts}
use Rattle.std.proofs.lemmas.List.Elements.{All-get_or}
use Rattle.std.proofs.lemmas.Option.{get_or_from_slice_get, slice_get_within}
use Rattle.std.specs.List.{All, slice_get}
use Rattle.cg_base.specs.Types.{Tau, arrow}
use Rattle.cg_graphs.specs.RankLaws.{MentionsStandBefore}
use Rattle.cg_core.specs.Kernels.{Function}
use Rattle.cg_core_def.specs.Lawful.{IsLawfulFunction, IsLawfulType}
use Rattle.cg_resolve_def.specs.Desugar.{functions_of, type_limit}
use Rattle.cg_resolve_def.specs.Faults.{beforehand}
use Rattle.cg_resolve_laws.proofs.Positions.{function_signed, item_at}
use Rattle.cg_typing.specs.Accepted.{IsAcceptedFunction}
use Rattle.cg_typing.specs.Parts.{given_by, has_word_arrays, nodes, taken_by}
use Rattle.cg_driver_entry.specs.Types.{holds_closed, is_first_order as is_entry_type}
use Rattle.cg_driver_entry_laws.specs.Laws.{EntriesHaveTypes}
use Rattle.cg_driver_entry.specs.Typed.{HasEntryType}
use Rattle.cg_driver_entry_laws.proofs.Ordered.{kernel_lawful}
use Rattle.cg_driver_entry_laws.proofs.Plain.{type_plain}
use Rattle.cg_driver_entry_laws.proofs.Sizes.{signature_small}

-- what holds of each holds of the one at a position
at_position : {X : Type 0} (P : X → Type 0) (xs : List X) (i : ℕ) (x : X) → All P xs → slice_get xs i ≡ Some x → P x
at_position P xs i x all stands = carry P (get_or_from_slice_get xs i x x stands) (All-get_or P xs i x (slice_get_within xs i x stands) all)

-- a side that isn't closed is free of what is
free_side : (b : Bool) → not b ≡ true → b ≡ false
free_side true h = absurd (cc)
free_side false h = refl

-- the sides of a first order function type that is lawful, small, and written with arrays of words alone
sides : (f : Function) (a b : Tau) → f.ty.ty ≡ arrow a b → IsLawfulType 0 (arrow a b) → is_entry_type (arrow a b) ≡ true → has_word_arrays (arrow a b) ≡ true → nodes (arrow a b) ≤ type_limit → HasEntryType f a b
sides f a b is lawful first arrays small =
    let free = and_parts (not (holds_closed a)) (not (holds_closed b)) first in
    let words = and_parts (has_word_arrays a) (has_word_arrays b) arrays in
    record {
      is = is;
      lawful = lawful.0;
      plain = type_plain a lawful.0 (free_side (holds_closed a) free.0) words.0;
      plain_result = type_plain b lawful.1 (free_side (holds_closed b) free.1) words.1;
      small = omega (arith, small);
      small_result = omega (arith, small);
    }

-- an entry's type is that of its signature
pub entries_have_types : MentionsStandBefore → EntriesHaveTypes
entries_have_types ordered p shaped names limits accepted at f stands none first =
    let lawful : IsLawfulFunction _ f = at_position (IsLawfulFunction _) (functions_of p) at f (kernel_lawful ordered p shaped names limits).functions_stand stands in
    let typed : IsAcceptedFunction (functions_of p) f = at_position (IsAcceptedFunction (functions_of p)) (functions_of p) at f accepted stands in
    let signed = function_signed p p beforehand 0 at f names.names stands in
    let few : nodes f.ty.ty ≤ type_limit =
    carry (λ (g : Function). nodes g.ty.ty ≤ type_limit) (sym signed.is) (omega (arith, signature_small p (item_at p at) signed.at signed.vars signed.places signed.ty signed.stands, limits.2)) in
    let closed : IsLawfulType 0 f.ty.ty = carry (λ vs. IsLawfulType (length vs) f.ty.ty) none lawful.ty in
    carry (λ t. HasEntryType f (taken_by t) (given_by t)) (sym typed.is_arrow)
    (sides f typed.argument typed.result typed.is_arrow (carry (IsLawfulType 0) typed.is_arrow closed) (carry (λ t. is_entry_type t ≡ true) typed.is_arrow first)
    (carry (λ t. has_word_arrays t ≡ true) typed.is_arrow typed.arrays) (carry (λ t. nodes t ≤ type_limit) typed.is_arrow few))
