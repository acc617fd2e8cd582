-- What iterators call.
use Rattle.std.proofs.Common.{◌≡◌, true, false, IsTrue, Option, Some, None, List, slice_get, ⊎_elim, refl, sym, ap, ◌∙◌, arith}
use Rattle.std.specs.Option.{option_map}
use Rattle.std.proofs.lemmas.Option.{slice_get_cases, slice_get_within}
use Rattle.cg_base.specs.declared.fun.Fun.{Fun}
use Rattle.cg_base.specs.declared.fun.Fun.TheVariants.{User, Lib as OfLib}
use Rattle.cg_base.specs.declared.fun.Lib.{Lib}
use Rattle.cg_base.specs.declared.fun.Lib.TheVariants.{New, Free, Create, FreeArray, Length, Get, Put, Map, Fold, Seq32, Seq64, Seq32Break}
use Rattle.cg_base.specs.Types.{Tau, arrow}
use Rattle.cg_kinds.specs.Kinds.{bang}
use Rattle.cg_core.specs.Kernels.{Function}
use Rattle.cg_typing.specs.Functions.{arg_types, fun_type}
use Rattle.cg_typing.specs.Instances.{Entry, Instance, as_arguments}
use Rattle.cg_typing.specs.Library.{library_type}
use Rattle.cg_typing.specs.Parts.{taken_by}
use Rattle.cg_update.specs.Calls.{types_of}
use Rattle.cg_update.specs.Updates.{calls_source, is_of_source}
use Rattle.cg_update_laws.specs.Laws.{IteratorsCallSources, is_turn}

-- no function of the library takes what an iterator's function takes
no_turn : (lib : Lib) (args : List Tau) → is_turn (taken_by (library_type lib args)) ≡ false
unfolding bang
no_turn New args = refl
no_turn Free args = refl
no_turn Create args = refl
no_turn FreeArray args = refl
no_turn Length args = refl
no_turn Get args = refl
no_turn Put args = refl
no_turn Map args = refl
no_turn Fold args = refl
no_turn Seq32 args = refl
no_turn Seq64 args = refl
no_turn Seq32Break args = refl

-- so a function that does is of the source
takes_turn : (functions : List Function) (f : Fun) (types : List Tau) (a b : Tau) → fun_type functions f (as_arguments types) ≡ Some (arrow a b) → IsTrue (is_turn a) → is_of_source f ≡ true
takes_turn functions (User i) types a b is turn = refl
takes_turn functions (OfLib lib) types a b is turn =
    let no = no_turn lib (arg_types (as_arguments types)) in
    let same : library_type lib (arg_types (as_arguments types)) ≡ arrow a b = cc in
    let takes : taken_by (library_type lib (arg_types (as_arguments types))) ≡ a = ap taken_by same in
    absurd (cc)

-- and the call of an instance that does is what an iterator calls
pub iterators_call_sources : IteratorsCallSources
iterators_call_sources p is calls k a b t turn us s left = by_entry (slice_get p.entries k) refl
  where
    at_place : (x : Instance) (e : Entry) → slice_get p.list k ≡ Some x → slice_get p.entries k ≡ Some e → e.ty ≡ arrow a b
        → calls_source p calls (slice_get p.list k) k us s left ≡ calls k us s left
    at_place x e l q ty = rw l (rw (takes_turn p.functions x.fun x.types a b ((is.each k x e l q).is ∙ ap Some ty) turn) refl)

    by_entry : (o : Option Entry) → slice_get p.entries k ≡ o → calls_source p calls (slice_get p.list k) k us s left ≡ calls k us s left
    by_entry None q = absurd (let none : types_of p k ≡ None = ap (option_map (λ e. e.ty)) q in cc)
    by_entry (Some e) q =
        let typed : Some e.ty ≡ Some (arrow a b) = sym (ap (option_map (λ e. e.ty)) q) ∙ t in
        let ty : e.ty ≡ arrow a b = cc in
        ⊎_elim (λ r. at_place r.0 e r.2 q ty) (λ r. absurd (let w = slice_get_within p.entries k e q in let n = is.as_many in omega arith)) (slice_get_cases p.list k).1
