-- The groups of forms: what is none of some forms is one of the others.
use Rattle.std.proofs.Common.{◌≡◌, ℕ, Bool, false, ◌||◌, IsTrue, Option, List, sym, ap, ◌∙◌, Box}
use Rattle.std.specs.declared.alloc.Global.{Global}
use Rattle.cg_base.specs.declared.fun.Fun.{Fun}
use Rattle.cg_base.specs.declared.place.Place.{Place as Spot}
use Rattle.cg_core.specs.declared.at.At.{At}
use Rattle.cg_core.specs.declared.at.TyArg.{TyArg}
use Rattle.cg_core.specs.declared.op.Op.{Op}
use Rattle.cg_core.specs.declared.term.FieldTerm.{FieldTerm}
use Rattle.cg_core.specs.declared.term.Form.{Form, Form-F, out-Form, roll-Form, roll-out-Form}
use Rattle.cg_core.specs.declared.term.Form.TheOpen as open'
use Rattle.cg_core.specs.declared.term.Form.TheVariants as form
use Rattle.cg_core.specs.declared.term.Seen.{Seen}
use Rattle.cg_core.specs.declared.term.Term.{Term}
use Rattle.cg_core.specs.declared.term.Typed.{Typed}
use Rattle.cg_core.specs.Kernels.{the_core_form}
use Rattle.cg_core.specs.Groups.{is_data, is_leaf}
use Rattle.cg_core.proofs.Forms.{var_is, unit_is, bool_is, lit_is, fun_is, op_is, app_is, lets_is, bang_is, if_is, con_is, case_is, esac_is, struct_is, member_is, take_is, put_is, cast_is, annot_is}

-- a form whose parts stand by themselves
abbrev Layer : Type 0
Layer = Form-F Typed (Form Typed) (FieldTerm Typed) (Term Typed)

is_rest_at : (t : Form Typed) (g : Layer) → roll-Form Typed g ≡ t
    → ((o : Op) (ts : List (Term Typed)) → t ≡ form.Op o ts → ⊥)
    → ((x y : Box (Term Typed) Global) → t ≡ form.App x y → ⊥)
    → ((p : Spot) (x y : Box (Term Typed) Global) → t ≡ form.Let p x y → ⊥)
    → ((s : List Seen) (p : Spot) (x y : Box (Term Typed) Global) → t ≡ form.LetBang s p x y → ⊥)
    → ((x y z : Box (Term Typed) Global) → t ≡ form.If x y z → ⊥)
    → ((x : Box (Term Typed) Global) → t ≡ form.Cast x → ⊥)
    → ((x : Box (Term Typed) Global) (a : TyArg) → t ≡ form.Annot x a → ⊥)
    → IsTrue (is_data (the_core_form t) || is_leaf (the_core_form t))
is_rest_at t (open'.Var i) e _ _ _ _ _ _ _ = ap (λ s. is_data s || is_leaf s) (ap the_core_form (sym e ∙ form.rolls-Var i) ∙ var_is i)
is_rest_at t open'.Unit e _ _ _ _ _ _ _ = ap (λ s. is_data s || is_leaf s) (ap the_core_form (sym e ∙ form.rolls-Unit) ∙ unit_is)
is_rest_at t (open'.Bool b) e _ _ _ _ _ _ _ = ap (λ s. is_data s || is_leaf s) (ap the_core_form (sym e ∙ form.rolls-Bool b) ∙ bool_is b)
is_rest_at t (open'.Lit n) e _ _ _ _ _ _ _ = ap (λ s. is_data s || is_leaf s) (ap the_core_form (sym e ∙ form.rolls-Lit n) ∙ lit_is n)
is_rest_at t (open'.Fun f ts) e _ _ _ _ _ _ _ = ap (λ s. is_data s || is_leaf s) (ap the_core_form (sym e ∙ form.rolls-Fun f ts) ∙ fun_is f ts)
is_rest_at t (open'.Op o ts) e other _ _ _ _ _ _ = absurd (other o ts (sym e ∙ form.rolls-Op o ts))
is_rest_at t (open'.App x y) e _ other _ _ _ _ _ = absurd (other x y (sym e ∙ form.rolls-App x y))
is_rest_at t (open'.Let p x y) e _ _ other _ _ _ _ = absurd (other p x y (sym e ∙ form.rolls-Let p x y))
is_rest_at t (open'.LetBang s p x y) e _ _ _ other _ _ _ = absurd (other s p x y (sym e ∙ form.rolls-LetBang s p x y))
is_rest_at t (open'.If x y z) e _ _ _ _ other _ _ = absurd (other x y z (sym e ∙ form.rolls-If x y z))
is_rest_at t (open'.Con n x) e _ _ _ _ _ _ _ = ap (λ s. is_data s || is_leaf s) (ap the_core_form (sym e ∙ form.rolls-Con n x) ∙ con_is n x)
is_rest_at t (open'.Case x at p y z) e _ _ _ _ _ _ _ = ap (λ s. is_data s || is_leaf s) (ap the_core_form (sym e ∙ form.rolls-Case x at p y z) ∙ case_is x at p y z)
is_rest_at t (open'.Esac at x) e _ _ _ _ _ _ _ = ap (λ s. is_data s || is_leaf s) (ap the_core_form (sym e ∙ form.rolls-Esac at x) ∙ esac_is at x)
is_rest_at t (open'.Struct fs) e _ _ _ _ _ _ _ = ap (λ s. is_data s || is_leaf s) (ap the_core_form (sym e ∙ form.rolls-Struct fs) ∙ struct_is fs)
is_rest_at t (open'.Member x at) e _ _ _ _ _ _ _ = ap (λ s. is_data s || is_leaf s) (ap the_core_form (sym e ∙ form.rolls-Member x at) ∙ member_is x at)
is_rest_at t (open'.Take x at p q y) e _ _ _ _ _ _ _ = ap (λ s. is_data s || is_leaf s) (ap the_core_form (sym e ∙ form.rolls-Take x at p q y) ∙ take_is x at p q y)
is_rest_at t (open'.Put x at y) e _ _ _ _ _ _ _ = ap (λ s. is_data s || is_leaf s) (ap the_core_form (sym e ∙ form.rolls-Put x at y) ∙ put_is x at y)
is_rest_at t (open'.Cast x) e _ _ _ _ _ other _ = absurd (other x (sym e ∙ form.rolls-Cast x))
is_rest_at t (open'.Annot x a) e _ _ _ _ _ _ other = absurd (other x a (sym e ∙ form.rolls-Annot x a))

-- what is none of the first group
pub is_rest : (t : Form Typed)
    → ((o : Op) (ts : List (Term Typed)) → t ≡ form.Op o ts → ⊥)
    → ((x y : Box (Term Typed) Global) → t ≡ form.App x y → ⊥)
    → ((p : Spot) (x y : Box (Term Typed) Global) → t ≡ form.Let p x y → ⊥)
    → ((s : List Seen) (p : Spot) (x y : Box (Term Typed) Global) → t ≡ form.LetBang s p x y → ⊥)
    → ((x y z : Box (Term Typed) Global) → t ≡ form.If x y z → ⊥)
    → ((x : Box (Term Typed) Global) → t ≡ form.Cast x → ⊥)
    → ((x : Box (Term Typed) Global) (a : TyArg) → t ≡ form.Annot x a → ⊥)
    → IsTrue (is_data (the_core_form t) || is_leaf (the_core_form t))
is_rest t = is_rest_at t (out-Form Typed t) (roll-out-Form Typed t)

no_data_at : (t : Form Typed) (g : Layer) → roll-Form Typed g ≡ t
    → ((n : List ℕ) (x : Box (Term Typed) Global) → t ≡ form.Con n x → ⊥)
    → ((x : Box (Term Typed) Global) (at : At) (p : Spot) (y z : Box (Term Typed) Global) → t ≡ form.Case x at p y z → ⊥)
    → ((at : At) (x : Box (Term Typed) Global) → t ≡ form.Esac at x → ⊥)
    → ((fs : List (FieldTerm Typed)) → t ≡ form.Struct fs → ⊥)
    → ((x : Box (Term Typed) Global) (at : At) → t ≡ form.Member x at → ⊥)
    → ((x : Box (Term Typed) Global) (at : At) (p q : Spot) (y : Box (Term Typed) Global) → t ≡ form.Take x at p q y → ⊥)
    → ((x : Box (Term Typed) Global) (at : At) (y : Box (Term Typed) Global) → t ≡ form.Put x at y → ⊥)
    → is_data (the_core_form t) ≡ false
no_data_at t (open'.Var i) e _ _ _ _ _ _ _ = ap is_data (ap the_core_form (sym e ∙ form.rolls-Var i) ∙ var_is i)
no_data_at t open'.Unit e _ _ _ _ _ _ _ = ap is_data (ap the_core_form (sym e ∙ form.rolls-Unit) ∙ unit_is)
no_data_at t (open'.Bool b) e _ _ _ _ _ _ _ = ap is_data (ap the_core_form (sym e ∙ form.rolls-Bool b) ∙ bool_is b)
no_data_at t (open'.Lit n) e _ _ _ _ _ _ _ = ap is_data (ap the_core_form (sym e ∙ form.rolls-Lit n) ∙ lit_is n)
no_data_at t (open'.Fun f ts) e _ _ _ _ _ _ _ = ap is_data (ap the_core_form (sym e ∙ form.rolls-Fun f ts) ∙ fun_is f ts)
no_data_at t (open'.Op o ts) e _ _ _ _ _ _ _ = ap is_data (ap the_core_form (sym e ∙ form.rolls-Op o ts) ∙ op_is o ts)
no_data_at t (open'.App x y) e _ _ _ _ _ _ _ = ap is_data (ap the_core_form (sym e ∙ form.rolls-App x y) ∙ app_is x y)
no_data_at t (open'.Let p x y) e _ _ _ _ _ _ _ = ap is_data (ap the_core_form (sym e ∙ form.rolls-Let p x y) ∙ lets_is p x y)
no_data_at t (open'.LetBang s p x y) e _ _ _ _ _ _ _ = ap is_data (ap the_core_form (sym e ∙ form.rolls-LetBang s p x y) ∙ bang_is s p x y)
no_data_at t (open'.If x y z) e _ _ _ _ _ _ _ = ap is_data (ap the_core_form (sym e ∙ form.rolls-If x y z) ∙ if_is x y z)
no_data_at t (open'.Con n x) e other _ _ _ _ _ _ = absurd (other n x (sym e ∙ form.rolls-Con n x))
no_data_at t (open'.Case x at p y z) e _ other _ _ _ _ _ = absurd (other x at p y z (sym e ∙ form.rolls-Case x at p y z))
no_data_at t (open'.Esac at x) e _ _ other _ _ _ _ = absurd (other at x (sym e ∙ form.rolls-Esac at x))
no_data_at t (open'.Struct fs) e _ _ _ other _ _ _ = absurd (other fs (sym e ∙ form.rolls-Struct fs))
no_data_at t (open'.Member x at) e _ _ _ _ other _ _ = absurd (other x at (sym e ∙ form.rolls-Member x at))
no_data_at t (open'.Take x at p q y) e _ _ _ _ _ other _ = absurd (other x at p q y (sym e ∙ form.rolls-Take x at p q y))
no_data_at t (open'.Put x at y) e _ _ _ _ _ _ other = absurd (other x at y (sym e ∙ form.rolls-Put x at y))
no_data_at t (open'.Cast x) e _ _ _ _ _ _ _ = ap is_data (ap the_core_form (sym e ∙ form.rolls-Cast x) ∙ cast_is x)
no_data_at t (open'.Annot x a) e _ _ _ _ _ _ _ = ap is_data (ap the_core_form (sym e ∙ form.rolls-Annot x a) ∙ annot_is x a)

-- what is none of variants or of records
pub no_data : (t : Form Typed)
    → ((n : List ℕ) (x : Box (Term Typed) Global) → t ≡ form.Con n x → ⊥)
    → ((x : Box (Term Typed) Global) (at : At) (p : Spot) (y z : Box (Term Typed) Global) → t ≡ form.Case x at p y z → ⊥)
    → ((at : At) (x : Box (Term Typed) Global) → t ≡ form.Esac at x → ⊥)
    → ((fs : List (FieldTerm Typed)) → t ≡ form.Struct fs → ⊥)
    → ((x : Box (Term Typed) Global) (at : At) → t ≡ form.Member x at → ⊥)
    → ((x : Box (Term Typed) Global) (at : At) (p q : Spot) (y : Box (Term Typed) Global) → t ≡ form.Take x at p q y → ⊥)
    → ((x : Box (Term Typed) Global) (at : At) (y : Box (Term Typed) Global) → t ≡ form.Put x at y → ⊥)
    → is_data (the_core_form t) ≡ false
no_data t = no_data_at t (out-Form Typed t) (roll-out-Form Typed t)

no_leaf_at : (t : Form Typed) (g : Layer) → roll-Form Typed g ≡ t
    → ((i : ℕ) → t ≡ form.Var i → ⊥)
    → (t ≡ form.Unit → ⊥)
    → ((b : Bool) → t ≡ form.Bool b → ⊥)
    → ((n : Option ℕ) → t ≡ form.Lit n → ⊥)
    → ((f : Fun) (ts : List TyArg) → t ≡ form.Fun f ts → ⊥)
    → is_leaf (the_core_form t) ≡ false
no_leaf_at t (open'.Var i) e other _ _ _ _ = absurd (other i (sym e ∙ form.rolls-Var i))
no_leaf_at t open'.Unit e _ other _ _ _ = absurd (other (sym e ∙ form.rolls-Unit))
no_leaf_at t (open'.Bool b) e _ _ other _ _ = absurd (other b (sym e ∙ form.rolls-Bool b))
no_leaf_at t (open'.Lit n) e _ _ _ other _ = absurd (other n (sym e ∙ form.rolls-Lit n))
no_leaf_at t (open'.Fun f ts) e _ _ _ _ other = absurd (other f ts (sym e ∙ form.rolls-Fun f ts))
no_leaf_at t (open'.Op o ts) e _ _ _ _ _ = ap is_leaf (ap the_core_form (sym e ∙ form.rolls-Op o ts) ∙ op_is o ts)
no_leaf_at t (open'.App x y) e _ _ _ _ _ = ap is_leaf (ap the_core_form (sym e ∙ form.rolls-App x y) ∙ app_is x y)
no_leaf_at t (open'.Let p x y) e _ _ _ _ _ = ap is_leaf (ap the_core_form (sym e ∙ form.rolls-Let p x y) ∙ lets_is p x y)
no_leaf_at t (open'.LetBang s p x y) e _ _ _ _ _ = ap is_leaf (ap the_core_form (sym e ∙ form.rolls-LetBang s p x y) ∙ bang_is s p x y)
no_leaf_at t (open'.If x y z) e _ _ _ _ _ = ap is_leaf (ap the_core_form (sym e ∙ form.rolls-If x y z) ∙ if_is x y z)
no_leaf_at t (open'.Con n x) e _ _ _ _ _ = ap is_leaf (ap the_core_form (sym e ∙ form.rolls-Con n x) ∙ con_is n x)
no_leaf_at t (open'.Case x at p y z) e _ _ _ _ _ = ap is_leaf (ap the_core_form (sym e ∙ form.rolls-Case x at p y z) ∙ case_is x at p y z)
no_leaf_at t (open'.Esac at x) e _ _ _ _ _ = ap is_leaf (ap the_core_form (sym e ∙ form.rolls-Esac at x) ∙ esac_is at x)
no_leaf_at t (open'.Struct fs) e _ _ _ _ _ = ap is_leaf (ap the_core_form (sym e ∙ form.rolls-Struct fs) ∙ struct_is fs)
no_leaf_at t (open'.Member x at) e _ _ _ _ _ = ap is_leaf (ap the_core_form (sym e ∙ form.rolls-Member x at) ∙ member_is x at)
no_leaf_at t (open'.Take x at p q y) e _ _ _ _ _ = ap is_leaf (ap the_core_form (sym e ∙ form.rolls-Take x at p q y) ∙ take_is x at p q y)
no_leaf_at t (open'.Put x at y) e _ _ _ _ _ = ap is_leaf (ap the_core_form (sym e ∙ form.rolls-Put x at y) ∙ put_is x at y)
no_leaf_at t (open'.Cast x) e _ _ _ _ _ = ap is_leaf (ap the_core_form (sym e ∙ form.rolls-Cast x) ∙ cast_is x)
no_leaf_at t (open'.Annot x a) e _ _ _ _ _ = ap is_leaf (ap the_core_form (sym e ∙ form.rolls-Annot x a) ∙ annot_is x a)

-- what is none of those without parts
pub no_leaf : (t : Form Typed)
    → ((i : ℕ) → t ≡ form.Var i → ⊥)
    → (t ≡ form.Unit → ⊥)
    → ((b : Bool) → t ≡ form.Bool b → ⊥)
    → ((n : Option ℕ) → t ≡ form.Lit n → ⊥)
    → ((f : Fun) (ts : List TyArg) → t ≡ form.Fun f ts → ⊥)
    → is_leaf (the_core_form t) ≡ false
no_leaf t = no_leaf_at t (out-Form Typed t) (roll-out-Form Typed t)
