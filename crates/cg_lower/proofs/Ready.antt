-- What simulation asks of each instance holds, where there are few of everything.
use Rattle.std.proofs.Common.{◌≡◌, ℕ, zero, suc, ◌^◌, ◌<◌, true, List, [], ◌∷◌, ◌++◌, length, map, slice_get, Some, refl, sym, ap, ◌∙◌, subst}
use Rattle.std.proofs.lemmas.Option.{slice_get_within}
use Rattle.std.specs.List.{AllByRecursion, flat_map}
use Rattle.cg_base.specs.declared.fun.Fun.TheVariants.{Lib as OfLib}
use Rattle.cg_base.specs.declared.fun.Lib.{Lib}
use Rattle.cg_base.specs.declared.fun.Lib.TheVariants.{Map, Fold, Seq32, Seq64, Seq32Break}
use Rattle.cg_base.specs.Types.{Tau}
use Rattle.cg_lower.specs.Collected.{Copy, arrows_in, called_at, entries_of, list_of, nodes_maybe, parts_of_arrows, table_in, turned_by, types_of, whole_of}
use Rattle.cg_core.specs.Terms.{Note, Tree}
use Rattle.cg_heap.specs.declared.foreign.Link.{Link}
use Rattle.cg_lower_laws.proofs.Tables.{covered_are_declared}
use Rattle.cg_lower_laws.proofs.Typings.{all_back, all_front}
use Rattle.cg_lower_def.specs.CTypes.{IsDeclared}
use Rattle.cg_lower_def.specs.Functions.{low_instance}
use Rattle.cg_lower_def.specs.IteratorCode.{function_type}
use Rattle.cg_cgen_def.specs.Bodies.{Low}
use Rattle.cg_lower_def.specs.Simulated.{CallsListed, IsCallable, IsReady}
use Rattle.cg_lower_def.specs.Structs.{IsCovered, structs_in}
use Rattle.cg_eval_operations.specs.Iterators.{is_iterator}
use Rattle.cg_typing.specs.Functions.{arg_types, fun_type}
use Rattle.cg_typing.specs.Instances.{as_arguments, Entry, Instance, nodes_of}
use Rattle.cg_typing.specs.Library.{library_type}
use Rattle.cg_typing.specs.Rules.{type_at}
use Rattle.cg_update.specs.Calls.{Program}
use Rattle.cg_update.specs.Machines.{type_of_part}
use Rattle.cg_lower.specs.Promises.{AreFew, IsFewMaybe, IsProgramOf}
use Rattle.cg_lower.proofs.Arrows.{IsAmong, arrows_collected, calls_listed}
use Rattle.cg_lower.proofs.Lists.{all_follow, mapped_hold, part_holds}
use Rattle.cg_typing.proofs.Lists.{types_back}

-- ---- copies

-- an instance and its entry are the copy at their place
copy_at : (copies : List Copy) (k : ℕ) (x : Instance) (e : Entry) → slice_get (list_of copies) k ≡ Some x → slice_get (entries_of copies) k ≡ Some e → slice_get copies k ≡ Some (x, e)
copy_at [] k x e f h = absurd (cc)
copy_at ((y, d) ∷ copies) zero x e f h = let same : y ≡ x = cc in let alike : d ≡ e = cc in cc
copy_at (c ∷ copies) (suc k) x e f h = copy_at copies k x e f h

-- ---- functions of iterators

-- the function of an iterator's type is that which it calls
turned_is : (lib : Lib) (args : List Tau) → is_iterator lib ≡ true → turned_by (OfLib lib) (library_type lib args) ≡ function_type lib args ∷ []
unfolding type_of_part
turned_is Map args i = refl
turned_is Fold args i = refl
turned_is Seq32 args i = refl
turned_is Seq64 args i = refl
turned_is Seq32Break args i = refl
turned_is _ args i = absurd (cc)

-- ---- an instance

module _ (copies : List Copy) (few : AreFew copies) where
  -- a type is declared
  abbrev IsHere : Tau → Type 0
  IsHere t = IsDeclared (whole_of copies).numbered (structs_in (table_in copies)) t

  all_here : (ts : List Tau) → AllByRecursion (IsCovered (table_in copies)) ts → AllByRecursion IsHere ts
  all_here ts h = all_follow (IsCovered (table_in copies)) IsHere (λ t c. covered_are_declared (table_in copies) t few.table c) ts h

  module _ (k : ℕ) (x : Instance) (e : Entry) (at : slice_get copies k ≡ Some (x, e)) where
    -- all types of the instance are
    types_here : AllByRecursion IsHere (types_of (x, e))
    types_here = all_here (types_of (x, e)) (part_holds (IsCovered (table_in copies)) types_of copies k (x, e) few.covered at)

    turned_here : AllByRecursion IsHere (parts_of_arrows (turned_by x.fun e.ty))
    turned_here = all_front IsHere (parts_of_arrows (turned_by x.fun e.ty)) (map type_at (nodes_maybe e.body)) types_here.1.1

    nodes_here : AllByRecursion (λ t. IsHere (type_at t)) (nodes_maybe e.body)
    nodes_here =
        mapped_hold IsHere type_at (nodes_maybe e.body) (all_back IsHere (parts_of_arrows (turned_by x.fun e.ty)) (map type_at (nodes_maybe e.body)) types_here.1.1)

    -- the arrow types of its turns and of its calls are listed
    arrows_here : AllByRecursion (IsAmong (arrows_in copies)) (turned_by x.fun e.ty ++ flat_map called_at (nodes_maybe e.body))
    arrows_here = arrows_collected copies k (x, e) at

    turned_listed : AllByRecursion (IsAmong (arrows_in copies)) (turned_by x.fun e.ty)
    turned_listed = all_front (IsAmong (arrows_in copies)) (turned_by x.fun e.ty) (flat_map called_at (nodes_maybe e.body)) arrows_here

    nodes_listed : AllByRecursion (CallsListed (arrows_in copies)) (nodes_maybe e.body)
    nodes_listed =
        calls_listed (arrows_in copies) (nodes_maybe e.body) (all_back (IsAmong (arrows_in copies)) (turned_by x.fun e.ty) (flat_map called_at (nodes_maybe e.body)) arrows_here)

    -- of an iterator the function can be called
    callable : (t : Tau) → turned_by x.fun e.ty ≡ t ∷ [] → IsCallable (whole_of copies) (structs_in (table_in copies)) t
    callable t is =
        let here = subst (λ ts. AllByRecursion IsHere (parts_of_arrows ts)) is turned_here in
        let listed = subst (AllByRecursion (IsAmong (arrows_in copies))) is turned_listed in
        record { argument = here.0; result = here.1.0; listed = listed.0 }

    -- it has few locals
    few_here : (a : Low) → low_instance (whole_of copies) x e.body ≡ Some a → length a.locals < 2 ^ 64
    few_here = subst (IsFewMaybe (whole_of copies)) at (few.locals k (slice_get_within copies k (x, e) at))

  -- ---- an instance of a program

  module _ (p : Program) (links : List Link) (is : IsProgramOf p links copies) (k : ℕ) (x : Instance) (e : Entry) (hx : slice_get p.list k ≡ Some x) (he : slice_get p.entries k ≡ Some e) where
    here : slice_get copies k ≡ Some (x, e)
    here = copy_at copies k x e (subst (λ l. slice_get l k ≡ Some x) is.list hx) (subst (λ l. slice_get l k ≡ Some e) is.entries he)

    -- a function of the library has its type
    library_is : (lib : Lib) → x.fun ≡ OfLib lib → e.ty ≡ library_type lib x.types
    library_is lib f =
        let entry = is.instances.each k x e hx he in
        let there : Some (library_type lib (arg_types (as_arguments x.types))) ≡ Some e.ty = sym (ap (λ z. fun_type p.functions z (as_arguments x.types)) f) ∙ entry.is in
        let same : library_type lib (arg_types (as_arguments x.types)) ≡ e.ty = cc in
        sym same ∙ ap (library_type lib) (types_back x.types)

    turning : (lib : Lib) → x.fun ≡ OfLib lib → is_iterator lib ≡ true → turned_by x.fun e.ty ≡ function_type lib x.types ∷ []
    turning lib f i = ap (λ g. turned_by g e.ty) f ∙ ap (turned_by (OfLib lib)) (library_is lib f) ∙ turned_is lib x.types i

    nodes_declared : (core : Tree Note) → e.body ≡ Some core → AllByRecursion (λ t. IsHere (type_at t)) (nodes_of core)
    nodes_declared core b = subst (λ o. AllByRecursion (λ t. IsHere (type_at t)) (nodes_maybe o)) b (nodes_here k x e here)

    calls_here : (core : Tree Note) → e.body ≡ Some core → AllByRecursion (CallsListed (arrows_in copies)) (nodes_of core)
    calls_here core b = subst (λ o. AllByRecursion (CallsListed (arrows_in copies)) (nodes_maybe o)) b (nodes_listed k x e here)

    -- all that simulation asks of it
    pub is_ready : IsReady p (whole_of copies) (structs_in (table_in copies)) links k x e
    is_ready = record {
      good = is.good k x hx;
      argument = (types_here k x e here).0;
      result = (types_here k x e here).1.0;
      nodes = nodes_declared;
      listed = calls_here;
      turned = λ lib f i. callable k x e here (function_type lib x.types) (turning lib f i);
      few = few_here k x e here;
      linked = λ i f h b at knows. is.linked k i x e f hx he h b at knows;
    }
