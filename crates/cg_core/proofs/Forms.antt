-- What the forms of cores stand for, and operands, which are one or two.
use Rattle.std.proofs.Common.{◌≡◌, ℕ, ◌<◌, ◌≤◌, Bool, Option, List, [], ◌∷◌, length, map, get_or, sym, ap, ◌∙◌, arith, Box}
use Rattle.std.specs.declared.alloc.Global.{Global}
use Rattle.cg_base.specs.declared.fun.Fun.{Fun}
use Rattle.cg_base.specs.declared.place.Place.{Place as Spot}
use Rattle.cg_core.specs.declared.at.At.{At}
use Rattle.cg_core.specs.declared.at.TyArg.{TyArg}
use Rattle.cg_core.specs.declared.op.Op.{Op}
use Rattle.cg_core.specs.declared.term.FieldTerm.{FieldTerm}
use Rattle.cg_core.specs.declared.term.Form.{the_lemmas}
use Rattle.cg_core.specs.declared.term.Form.TheVariants as form
use Rattle.cg_core.specs.declared.term.Seen.{Seen}
use Rattle.cg_core.specs.declared.term.Term.{Term}
use Rattle.cg_core.specs.declared.term.Typed.{Typed}
use Rattle.cg_core.specs.Kernels.{the_core, the_core_field, the_core_form}
use Rattle.cg_core.specs.Terms.{arg_of, var, unit, bool, lit, fun, op, app, lets, let_bang, if_else, con, case_of, esac, struct, member, take_field, put, cast, annot, none, more, to_named, to_trees}

pub unit_is : the_core_form form.Unit ≡ unit
unit_is = search the_lemmas

pub bool_is : (b : Bool) → the_core_form (form.Bool b) ≡ bool b
bool_is b = search the_lemmas

pub lit_is : (n : Option ℕ) → the_core_form (form.Lit n) ≡ lit n
lit_is n = search the_lemmas

pub var_is : (i : ℕ) → the_core_form (form.Var i) ≡ var i
var_is i = search the_lemmas

pub fun_is : (f : Fun) (ts : List TyArg) → the_core_form (form.Fun f ts) ≡ fun f (map arg_of ts)
fun_is f ts = search the_lemmas

pub op_is : (o : Op) (ts : List (Term Typed)) → the_core_form (form.Op o ts) ≡ op o (to_trees (map the_core ts))
op_is o ts = search the_lemmas

pub app_is : (f x : Box (Term Typed) Global) → the_core_form (form.App f x) ≡ app (the_core f.value) (the_core x.value)
app_is f x = search the_lemmas

pub lets_is : (p : Spot) (x k : Box (Term Typed) Global) → the_core_form (form.Let p x k) ≡ lets p (the_core x.value) (the_core k.value)
lets_is p x k = search the_lemmas

pub bang_is : (s : List Seen) (p : Spot) (x k : Box (Term Typed) Global) → the_core_form (form.LetBang s p x k) ≡ let_bang s p (the_core x.value) (the_core k.value)
bang_is s p x k = search the_lemmas

pub if_is : (x a b : Box (Term Typed) Global) → the_core_form (form.If x a b) ≡ if_else (the_core x.value) (the_core a.value) (the_core b.value)
if_is x a b = search the_lemmas

pub con_is : (n : List ℕ) (x : Box (Term Typed) Global) → the_core_form (form.Con n x) ≡ con n (the_core x.value)
con_is n x = search the_lemmas

pub case_is : (x : Box (Term Typed) Global) (at : At) (p : Spot) (a b : Box (Term Typed) Global) → the_core_form (form.Case x at p a b) ≡ case_of (the_core x.value) at p (the_core a.value) (the_core b.value)
case_is x at p a b = search the_lemmas

pub esac_is : (at : At) (x : Box (Term Typed) Global) → the_core_form (form.Esac at x) ≡ esac at (the_core x.value)
esac_is at x = search the_lemmas

pub struct_is : (fs : List (FieldTerm Typed)) → the_core_form (form.Struct fs) ≡ struct (to_named (map the_core_field fs))
struct_is fs = search the_lemmas

pub member_is : (x : Box (Term Typed) Global) (at : At) → the_core_form (form.Member x at) ≡ member (the_core x.value) at
member_is x at = search the_lemmas

pub take_is : (x : Box (Term Typed) Global) (at : At) (p q : Spot) (k : Box (Term Typed) Global) → the_core_form (form.Take x at p q k) ≡ take_field (the_core x.value) at p q (the_core k.value)
take_is x at p q k = search the_lemmas

pub put_is : (x : Box (Term Typed) Global) (at : At) (k : Box (Term Typed) Global) → the_core_form (form.Put x at k) ≡ put (the_core x.value) at (the_core k.value)
put_is x at k = search the_lemmas

pub cast_is : (x : Box (Term Typed) Global) → the_core_form (form.Cast x) ≡ cast (the_core x.value)
cast_is x = search the_lemmas

pub annot_is : (x : Box (Term Typed) Global) (a : TyArg) → the_core_form (form.Annot x a) ≡ annot (the_core x.value) (arg_of a)
annot_is x a = search the_lemmas

pub one_term : (ts : List (Term Typed)) (a : Term Typed) → 1 ≤ length ts → length ts < 2 → a ≡ get_or ts 0 a → to_trees (map the_core ts) ≡ more (the_core a) none
unfolding to_trees
one_term [] a n m h = absurd (omega arith)
one_term (x ∷ []) a n m h = ap (λ t. more (the_core t) none) (sym h)
one_term (x ∷ y ∷ ts) a n m h = absurd (omega arith)

pub two_terms : (ts : List (Term Typed)) (a b : Term Typed) → 2 ≤ length ts → length ts < 3 → a ≡ get_or ts 0 a → b ≡ get_or ts 1 b
    → to_trees (map the_core ts) ≡ more (the_core a) (more (the_core b) none)
unfolding to_trees
two_terms [] a b n m h k = absurd (omega arith)
two_terms (x ∷ []) a b n m h k = absurd (omega arith)
two_terms (x ∷ y ∷ []) a b n m h k = ap (λ t. more (the_core t) (more (the_core y) none)) (sym h) ∙ ap (λ t. more (the_core a) (more (the_core t) none)) (sym k)
two_terms (x ∷ y ∷ z ∷ ts) a b n m h k = absurd (omega arith)
