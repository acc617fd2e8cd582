-- Functions at type arguments, with type arguments in the place of type variables.
use Rattle.std.proofs.Common.{◌≡◌, ℕ, zero, suc, Bool, ◌||◌, not, IsTrue, Option, Some, None, List, [], ◌∷◌, map, refl, sym, ap, ◌∙◌}
use Rattle.std.specs.Prelude.{slice_get}
use Rattle.std.specs.Option.{option_map}
use Rattle.cg_base.specs.declared.fun.Fun.{Fun}
use Rattle.cg_base.specs.declared.fun.Fun.TheVariants.{User, Lib as OfLib}
use Rattle.cg_base.specs.declared.fun.Lib.{Lib}
use Rattle.cg_base.specs.declared.fun.Lib.TheVariants.{New, Free, Create, FreeArray, Length, Get, Put, Map, Fold, Seq32, Seq64, Seq32Break}
use Rattle.cg_base.specs.declared.kind.Kinds.{Kinds}
use Rattle.cg_base.specs.Types.{Tau, arrow}
use Rattle.cg_core.specs.Kernels.{Function}
use Rattle.cg_core.specs.Terms.{Arg}
use Rattle.cg_kinds.specs.Kinds.{kinds, bang, subst}
use Rattle.cg_kinds.specs.Laws.{AreKept}
use Rattle.cg_typing.specs.Functions.{Asked, these, a_cell, an_element, nothing, asked_by, next_asked, later_asked, meets_asked, are_good_arguments, has_kinds, arg_types, fun_type}
use Rattle.cg_typing.specs.Library.{given as argument, library_type, state, pair, maybe}
use Rattle.cg_typing.specs.Parts.{has_word_arrays, is_cell, all_taken}
use Rattle.cg_typing_laws.specs.Laws.{AreInstance}
use Rattle.cg_typing.specs.Subst.{subst_arg}
use Rattle.cg_typing_laws.proofs.Named.{cell_kept, cell_taken}
use Rattle.cg_typing_laws.proofs.Types.{and_kept, or_kept, subst_bang, subst_twice, word_kept, arrays_kept, kinds_kept}
use Rattle.cg_base.proofs.Truths.{both as and_both}

-- ---- what is asked of type arguments

implied : (a b w : Bool) → (IsTrue a → IsTrue b) → IsTrue (not w || a) → IsTrue (not w || b)
implied a b w f h = or_kept (not w) a (not w) b (λ x. x) f h

has_kinds_kept : (k l wanted : Kinds) → AreKept l k → IsTrue (has_kinds k wanted) → IsTrue (has_kinds l wanted)
has_kinds_kept k l wanted kept h =
    and_kept (not wanted.drop || k.drop) _ (not wanted.drop || l.drop) _ (implied k.drop l.drop wanted.drop kept.drop)
    (and_kept (not wanted.share || k.share) _ (not wanted.share || l.share) _ (implied k.share l.share wanted.share kept.share)
    (implied k.escape l.escape wanted.escape kept.escape)) h

module _ (vars vars' : List Kinds) (given : List Tau) (instance' : AreInstance vars' given vars) where
  asked_kept : (asked : Asked) (t : Tau) → IsTrue (meets_asked vars asked t) → IsTrue (meets_asked vars' asked (subst given t))
  asked_kept (these wanted) t h = has_kinds_kept (kinds vars t) (kinds vars' (subst given t)) wanted (kinds_kept vars vars' given instance' t) h
  asked_kept a_cell t h = cell_kept given t h
  asked_kept an_element t h = word_kept given t h
  asked_kept nothing t h = refl

  pub arguments_kept : (asked : List Asked) (args : List Arg) → IsTrue (are_good_arguments vars asked args) → IsTrue (are_good_arguments vars' asked (map (subst_arg given) args))
  arguments_kept asked [] h = refl
  arguments_kept asked (a ∷ args) h =
      and_kept (has_word_arrays a.ty) _ (has_word_arrays (subst given a.ty)) _ (arrays_kept vars vars' given instance' a.ty)
      (and_kept (meets_asked vars (next_asked asked) a.ty) _ (meets_asked vars' (next_asked asked) (subst given a.ty)) _ (asked_kept (next_asked asked) a.ty)
      (arguments_kept (later_asked asked) args)) h

-- ---- types of functions

module _ (given : List Tau) where
  arg_types_subst : (args : List Arg) → arg_types (map (subst_arg given) args) ≡ map (subst given) (arg_types args)
  arg_types_subst [] = refl
  arg_types_subst (a ∷ args) = ap (λ ts. subst given a.ty ∷ ts) (arg_types_subst args)

  argument_subst : (ts : List Tau) (i : ℕ) → argument (map (subst given) ts) i ≡ subst given (argument ts i)
  unfolding subst
  argument_subst [] i = refl
  argument_subst (t ∷ ts) zero = refl
  argument_subst (t ∷ ts) (suc i) = argument_subst ts i

  -- the record of `new` and `free`, with all fields taken
  taken_subst : (vars : List Kinds) (asked : List Asked) (args : List Arg) → IsTrue (are_good_arguments vars (a_cell ∷ asked) args)
      → all_taken (argument (map (subst given) (arg_types args)) 0) ≡ subst given (all_taken (argument (arg_types args) 0))
  unfolding subst
  taken_subst vars asked [] h = refl
  taken_subst vars asked (a ∷ args) h = cell_taken given a.ty (and_both (is_cell a.ty) _ (and_both (has_word_arrays a.ty) _ h).1).0

  library_subst : (functions : List Function) (vars : List Kinds) (l : Lib) (args : List Arg) → IsTrue (are_good_arguments vars (asked_by functions (OfLib l)) args)
      → library_type l (map (subst given) (arg_types args)) ≡ subst given (library_type l (arg_types args))
  unfolding subst bang
  library_subst functions vars New args h = ap (λ t. arrow state (pair state (maybe t))) (taken_subst vars [] args h)
  library_subst functions vars Free args h = ap (λ t. arrow (pair state t) state) (taken_subst vars [] args h)
  library_subst functions vars Create args h = let x = argument_subst (arg_types args) 0 in cc
  library_subst functions vars FreeArray args h = let x = argument_subst (arg_types args) 0 in cc
  library_subst functions vars Length args h = let x = argument_subst (arg_types args) 0 in let y = subst_bang given (argument (arg_types args) 0) in cc
  library_subst functions vars Get args h = let x = argument_subst (arg_types args) 0 in let y = subst_bang given (argument (arg_types args) 0) in cc
  library_subst functions vars Put args h = let x = argument_subst (arg_types args) 0 in cc
  library_subst functions vars Map args h =
      let x = argument_subst (arg_types args) 0 in let y = argument_subst (arg_types args) 1 in let z = argument_subst (arg_types args) 2 in
      let w = subst_bang given (argument (arg_types args) 2) in cc
  library_subst functions vars Fold args h =
      let x = argument_subst (arg_types args) 0 in let y = argument_subst (arg_types args) 1 in let z = argument_subst (arg_types args) 2 in
      let v = subst_bang given (argument (arg_types args) 0) in let w = subst_bang given (argument (arg_types args) 2) in cc
  library_subst functions vars Seq32 args h =
      let x = argument_subst (arg_types args) 0 in let y = argument_subst (arg_types args) 1 in let w = subst_bang given (argument (arg_types args) 1) in cc
  library_subst functions vars Seq64 args h =
      let x = argument_subst (arg_types args) 0 in let y = argument_subst (arg_types args) 1 in let w = subst_bang given (argument (arg_types args) 1) in cc
  library_subst functions vars Seq32Break args h =
      let x = argument_subst (arg_types args) 0 in let y = argument_subst (arg_types args) 1 in let z = argument_subst (arg_types args) 2 in
      let w = subst_bang given (argument (arg_types args) 2) in cc

  user_subst : (o : Option Function) (ts : List Tau) → option_map (λ g. subst (map (subst given) ts) g.ty.ty) o ≡ option_map (subst given) (option_map (λ g. subst ts g.ty.ty) o)
  user_subst None ts = refl
  user_subst (Some f) ts = ap Some (sym (subst_twice given ts f.ty.ty))

  pub fun_type_subst : (functions : List Function) (vars : List Kinds) (f : Fun) (args : List Arg) (t : Tau) → IsTrue (are_good_arguments vars (asked_by functions f) args)
      → fun_type functions f args ≡ Some t → fun_type functions f (map (subst_arg given) args) ≡ Some (subst given t)
  fun_type_subst functions vars (User f) args t h e =
      ap (λ ts. option_map (λ g. subst ts g.ty.ty) (slice_get functions f)) (arg_types_subst args) ∙ user_subst (slice_get functions f) (arg_types args)
      ∙ ap (option_map (subst given)) e
  fun_type_subst functions vars (OfLib l) args t h e =
      ap (λ ts. Some (library_type l ts)) (arg_types_subst args) ∙ ap Some (library_subst functions vars l args h) ∙ ap (option_map (subst given)) e
