-- A mention in a body, at types for its type variables: the function is one at the types that come of it.
use Rattle.std.proofs.Common.{◌≡◌, suc, IsTrue, List, [], ◌∷◌, length, map, refl, ap, ◌∙◌, subst as at}
use Rattle.std.proofs.lemmas.Bool.{and_parts, and_from}
use Rattle.std.specs.List.{list_all}
use Rattle.cg_base.specs.declared.fun.Fun.{Fun}
use Rattle.cg_base.specs.declared.kind.Kinds.{Kinds}
use Rattle.cg_base.specs.Types.{Tau}
use Rattle.cg_core.specs.Kernels.{Function}
use Rattle.cg_core.specs.Terms.{Arg}
use Rattle.cg_kinds.specs.Kinds.{subst}
use Rattle.cg_typing.specs.Functions.{Asked, are_good_arguments, arg_types, asked_by, later_asked, meets_asked, next_asked, takes_as_many}
use Rattle.cg_typing.specs.Instances.{IsGood, as_arguments, is_closed}
use Rattle.cg_typing.specs.Parts.{has_word_arrays}
use Rattle.cg_typing_laws.specs.Laws.{AreInstance}
use Rattle.cg_typing.specs.Subst.{subst_arg}
use Rattle.cg_typing_laws.proofs.Functions.{arguments_kept}
use Rattle.cg_inst_laws.proofs.Closed.{closed_all, closed_stays, closed_subst}

-- ---- type arguments, with a place and without one

length_types : (args : List Arg) → length (arg_types args) ≡ length args
length_types [] = refl
length_types (a ∷ args) = ap suc (length_types args)

length_given : (given : List Tau) (ts : List Tau) → length (map (subst given) ts) ≡ length ts
length_given given [] = refl
length_given given (t ∷ ts) = ap suc (length_given given ts)

-- what is asked doesn't depend on where they are written
good_without_place : (vars : List Kinds) (asked : List Asked) (args : List Arg) → IsTrue (are_good_arguments vars asked args) → IsTrue (are_good_arguments vars asked (as_arguments (arg_types args)))
good_without_place vars asked [] h = refl
good_without_place vars asked (a ∷ args) h =
    let p = and_parts (has_word_arrays a.ty) _ h in let q = and_parts (meets_asked vars (next_asked asked) a.ty) _ p.1 in
    and_from (has_word_arrays a.ty) _ p.0 (and_from (meets_asked vars (next_asked asked) a.ty) _ q.0 (good_without_place vars (later_asked asked) args q.1))

pub arguments_given : (given : List Tau) (args : List Arg) → arg_types (map (subst_arg given) args) ≡ map (subst given) (arg_types args)
arguments_given given [] = refl
arguments_given given (a ∷ args) = ap (λ ts. subst given a.ty ∷ ts) (arguments_given given args)

-- types without type variables stay at no types
pub given_twice : (given : List Tau) → IsTrue (list_all is_closed given) → (args : List Arg) → map (subst []) (arg_types (map (subst_arg given) args)) ≡ map (subst given) (arg_types args)
given_twice given closed [] = refl
given_twice given closed (a ∷ args) = let p = closed_stays [] (subst given a.ty) (closed_subst given closed a.ty) in let q = given_twice given closed args in cc

-- ---- a function that is mentioned

-- where its type arguments are what it asks of them, it is a good instance at them, with good types for their variables
pub mention_is_good : (functions : List Function) (vars : List Kinds) (given : List Tau) → AreInstance [] given vars → IsTrue (list_all is_closed given)
    → (f : Fun) (args : List Arg) → IsTrue (takes_as_many functions f (length args)) → IsTrue (are_good_arguments vars (asked_by functions f) args)
    → IsGood functions (record { fun = f; types = map (subst given) (arg_types args) })
mention_is_good functions vars given fine closed f args many good = record {
  many = ap (takes_as_many functions f) (length_given given (arg_types args) ∙ length_types args) ∙ many;
  closed = closed_all given closed (arg_types args);
  good = at (λ ts. IsTrue (are_good_arguments [] (asked_by functions f) (as_arguments ts))) (arguments_given given args)
      (good_without_place [] (asked_by functions f) (map (subst_arg given) args) (arguments_kept vars [] given fine (asked_by functions f) args good));
}
