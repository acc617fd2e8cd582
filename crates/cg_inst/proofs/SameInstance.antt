-- The test on instances says exactly that they are equal.
use Rattle.std.proofs.Common.{◌≡◌, true, Some, List, [], ◌∷◌, refl, sym, ap, ◌∙◌, eqb-true, eq-eqb}
use Rattle.std.proofs.lemmas.Bool.{and_parts, and_from}
use Rattle.std.specs.Prelude.{slice_get}
use Rattle.cg_base.specs.declared.fun.Fun.{Fun}
use Rattle.cg_base.specs.declared.fun.Fun.TheVariants.{User, Lib as OfLib}
use Rattle.cg_base.specs.declared.fun.Lib.{Lib}
use Rattle.cg_base.specs.declared.fun.Lib.TheVariants.{New, Free, Create, FreeArray, Length, Get, Put, Map, Fold, Seq32, Seq64, Seq32Break}
use Rattle.cg_base.specs.Types.{Tau}
use Rattle.cg_inst.specs.Lists.{place_of, same_function, same_instance, same_list}
use Rattle.cg_typing.specs.Instances.{Instance}
use Rattle.cg_base.specs.Same.{same_type}
use Rattle.cg_inst.proofs.SameType.{same_is, same_self}
use Rattle.cg_base.proofs.Counts.{no_steps as never}

-- the library's functions, each at its place
library : List Lib
library = New ∷ Free ∷ Create ∷ FreeArray ∷ Length ∷ Get ∷ Put ∷ Map ∷ Fold ∷ Seq32 ∷ Seq64 ∷ Seq32Break ∷ []

at_place : (l : Lib) → slice_get library (place_of l) ≡ Some l
unfolding library
at_place New = refl
at_place Free = refl
at_place Create = refl
at_place FreeArray = refl
at_place Length = refl
at_place Get = refl
at_place Put = refl
at_place Map = refl
at_place Fold = refl
at_place Seq32 = refl
at_place Seq64 = refl
at_place Seq32Break = refl

-- functions at one place are one
place_is : (l m : Lib) → place_of l ≡ place_of m → l ≡ m
place_is l m e = let q : Some l ≡ Some m = sym (at_place l) ∙ ap (slice_get library) e ∙ at_place m in cc

pub function_is : (f g : Fun) → same_function f g ≡ true → f ≡ g
function_is (User i) (User j) h = ap User (eqb-true i j h)
function_is (OfLib l) (OfLib m) h = ap OfLib (place_is l m (eqb-true (place_of l) (place_of m) h))
function_is _ _ h = never h

pub function_same : (f : Fun) → same_function f f ≡ true
function_same (User i) = eq-eqb i i refl
function_same (OfLib l) = eq-eqb (place_of l) (place_of l) refl

pub list_is : (ts us : List Tau) → same_list ts us ≡ true → ts ≡ us
unfolding same_list
list_is [] [] h = refl
list_is (t ∷ ts) (u ∷ us) h = let p = and_parts (same_type t u) _ h in let x = same_is t u p.0 in let y = list_is ts us p.1 in cc
list_is _ _ h = never h

pub list_same : (ts : List Tau) → same_list ts ts ≡ true
unfolding same_list
list_same [] = refl
list_same (t ∷ ts) = and_from (same_type t t) _ (same_self t) (list_same ts)

-- instances that pass the test are one, and each passes it with itself
pub instance_is : (x y : Instance) → same_instance x y ≡ true → x ≡ y
instance_is x y h =
    let p = and_parts (same_function x.fun y.fun) _ h in let a = function_is x.fun y.fun p.0 in let b = list_is x.types y.types p.1 in
    let at_function : x ≡ record { fun = y.fun; types = x.types } = ap (λ f. record { fun = f; types = x.types }) a in
    let at_types : record { fun = y.fun; types = x.types } ≡ y = ap (λ ts. record { fun = y.fun; types = ts }) b in
    at_function ∙ at_types

pub instance_same : (x : Instance) → same_instance x x ≡ true
instance_same x = and_from (same_function x.fun x.fun) _ (function_same x.fun) (list_same x.types)
