-- Types and contexts, part by part.
use Rattle.std.proofs.Common.{◌≡◌, ℕ, zero, suc, Some, List, [], ◌∷◌, length, map, refl, ap, arith, IsTrue, eq-eqb}
use Rattle.std.specs.Prelude.{slice_get}
use Rattle.cg_base.specs.declared.fun.Fun.{Fun}
use Rattle.cg_base.specs.declared.fun.Fun.TheVariants.{User, Lib as OfLib}
use Rattle.cg_core.specs.declared.derivation.Mark.{Mark}
use Rattle.cg_typing.specs.Contexts.{Context, first, second}
use Rattle.cg_base.specs.Types.{Tau}
use Rattle.cg_core.specs.Kernels.{Function}
use Rattle.cg_core_def.specs.Lawful.{Takes}
use Rattle.cg_typing.specs.Functions.{arg_types, has_vars, takes_as_many}
use Rattle.cg_typing.specs.Instances.{as_arguments}
use Rattle.cg_kinds.specs.Kinds.{is_word}
use Rattle.cg_typing.specs.Operators.{Sort, arithmetic, equality, order, logic, takes}
use Rattle.cg_typing.specs.Parts.{is_bool}
use Rattle.cg_base.proofs.Truths.{first_holds, second_holds}

pub first_as_many : (m : List Mark) (g : Context) → length m ≡ length g → length (first m g) ≡ length g
first_as_many [] [] e = refl
first_as_many (x ∷ m) [] e = refl
first_as_many [] (x ∷ g) e = absurd (omega arith)
first_as_many (x ∷ m) (y ∷ g) e = ap suc (first_as_many m g (omega arith))

pub second_as_many : (m : List Mark) (g : Context) → length m ≡ length g → length (second m g) ≡ length g
second_as_many [] [] e = refl
second_as_many (x ∷ m) [] e = refl
second_as_many [] (x ∷ g) e = absurd (omega arith)
second_as_many (x ∷ m) (y ∷ g) e = ap suc (second_as_many m g (omega arith))

pub types_back : (types : List Tau) → arg_types (as_arguments types) ≡ types
types_back [] = refl
types_back (t ∷ ts) = ap (λ us. t ∷ us) (types_back ts)

-- as many type arguments as are lawful are what a function takes
as_many : (functions : List Function) (i n : ℕ) → slice_get (map (λ f. length f.vars) functions) i ≡ Some n → IsTrue (has_vars (slice_get functions i) n)
as_many [] i n e = absurd (cc)
as_many (f ∷ fs) zero n e = let q : length f.vars ≡ n = cc in eq-eqb (length f.vars) n q
as_many (f ∷ fs) (suc i) n e = as_many fs i n e

pub taken_as_many : (functions : List Function) (f : Fun) (n : ℕ) → Takes (map (λ f. length f.vars) functions) f n → IsTrue (takes_as_many functions f n)
taken_as_many functions (User i) n e = as_many functions i n e
taken_as_many functions (OfLib l) n e = eq-eqb _ n e

pub scalar_taken : (sort : Sort) (t : Tau) → IsTrue (takes sort t) → IsTrue (takes equality t)
scalar_taken arithmetic t h = first_holds (is_word t) (is_bool t) h
scalar_taken equality t h = h
scalar_taken order t h = first_holds (is_word t) (is_bool t) h
scalar_taken logic t h = second_holds (is_word t) (is_bool t) h
