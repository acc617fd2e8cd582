-- The core of plain typing has its kernel term.
use Rattle.std.proofs.Common.{◌≡◌, ℕ, suc, Option, List, length, map, refl, ap, ◌∙◌, arith}
use Rattle.cg_base.specs.declared.kind.Kinds.{Kinds}
use Rattle.cg_base.specs.declared.place.Place.{Place}
use Rattle.cg_base.specs.Types.{Tau}
use Rattle.cg_core.specs.Kernels.{Function}
use Rattle.cg_core.specs.Terms.{Tree, term, Shape, var, unit, bool, lit, fun, op, app, lets, let_bang, if_else, con, case_of, esac, struct, member, take_field, put, cast, annot, none, more, Named, end, field, erased, erased_named}
use Rattle.cg_core_def.specs.Lawful.{AreLawfulFields}
use Rattle.cg_check_def.specs.NormalForm.{core, core_fields}
use Rattle.cg_check_laws.proofs.Clash.{Lawful, at_most_two}

two : {A B C : Type 0} (f : A → B → C) {a a' : A} {b b' : B} → a ≡ a' → b ≡ b' → f a b ≡ f a' b'
two f {a = a} {a' = a'} {b = b} {b' = b'} p q = ap (λ x. f x b) p ∙ ap (λ y. f a' y) q

three : {A B C X : Type 0} (f : A → B → C → X) {a a' : A} {b b' : B} {c c' : C} → a ≡ a' → b ≡ b' → c ≡ c' → f a b c ≡ f a' b' c'
three f {a = a} {a' = a'} {b = b} {b' = b'} {c = c} {c' = c'} p q r = ap (λ x. f x b c) p ∙ ap (λ y. f a' y c) q ∙ ap (λ z. f a' b' z) r

module _ (functions : List Function) (vars : List Kinds) (types_in : ℕ) where
  mutual
    unfolding erased

    pub erased_core : (e : Tree Place) (p : List Tau) (dir : Option Tau) (n : ℕ) → Lawful functions vars types_in n e → erased (core functions p dir e) ≡ e
    erased_core (term a shape) p dir n s = erased_shape a shape p dir n s

    erased_shape : (a : Place) (shape : Shape Place) (p : List Tau) (dir : Option Tau) (n : ℕ) → Lawful functions vars types_in n (term a shape) → erased (core functions p dir (term a shape)) ≡ term a shape
    erased_shape a (var j) p dir n s = refl
    erased_shape a unit p dir n s = refl
    erased_shape a (bool v) p dir n s = refl
    erased_shape a (lit v) p dir n s = refl
    erased_shape a (fun f args) p dir n s = refl
    erased_shape a (op o none) p dir n s = refl
    erased_shape a (op o (more x none)) p dir n s = ap (λ x. term a (op o (more x none))) (erased_core x _ _ n s.1.0)
    erased_shape a (op o (more l (more r none))) p dir n s = two (λ l r. term a (op o (more l (more r none)))) (erased_core l _ _ n s.1.0) (erased_core r _ _ n s.1.1.0)
    erased_shape a (op o (more l (more r (more x ts)))) p dir n s = absurd (omega (arith, s.0, at_most_two o))
    erased_shape a (app f x) p dir n s = two (λ f x. term a (app f x)) (erased_core f _ _ n s.0) (erased_core x _ _ n s.1)
    erased_shape a (lets v e k) p dir n s = two (λ e k. term a (lets v e k)) (erased_core e _ _ n s.0) (erased_core k _ _ (suc n) s.1)
    erased_shape a (let_bang os v e k) p dir n s = two (λ e k. term a (let_bang os v e k)) (erased_core e _ _ n s.1) (erased_core k _ _ (suc n) s.2)
    erased_shape a (if_else c x y) p dir n s = three (λ c x y. term a (if_else c x y)) (erased_core c _ _ n s.0) (erased_core x _ _ n s.1) (erased_core y _ _ n s.2)
    erased_shape a (con name e) p dir n s = ap (λ e. term a (con name e)) (erased_core e _ _ n s)
    erased_shape a (case_of e at v x y) p dir n s = three (λ e x y. term a (case_of e at v x y)) (erased_core e _ _ n s.0) (erased_core x _ _ (suc n) s.1) (erased_core y _ _ (suc n) s.2)
    erased_shape a (esac at e) p dir n s = ap (λ e. term a (esac at e)) (erased_core e _ _ n s)
    erased_shape a (struct fs) p dir n s = ap (λ fs. term a (struct fs)) (erased_fields fs _ _ n s.2)
    erased_shape a (member e at) p dir n s = ap (λ e. term a (member e at)) (erased_core e _ _ n s)
    erased_shape a (take_field e at v w k) p dir n s = two (λ e k. term a (take_field e at v w k)) (erased_core e _ _ n s.0) (erased_core k _ _ (suc (suc n)) s.1)
    erased_shape a (put e at x) p dir n s = two (λ e x. term a (put e at x)) (erased_core e _ _ n s.0) (erased_core x _ _ n s.1)
    erased_shape a (cast e) p dir n s = ap (λ e. term a (cast e)) (erased_core e _ _ n s)
    erased_shape a (annot e t) p dir n s = ap (λ e. term a (annot e t)) (erased_core e _ _ n s.0)

    erased_fields : (fs : Named Place) (p : List Tau) (dirs : List (Option Tau)) (n : ℕ) → AreLawfulFields (map (λ f. length f.vars) functions) types_in n fs → erased_named (core_fields functions p dirs fs) ≡ fs
    erased_fields end p dirs n s = refl
    erased_fields (field name e fs) p dirs n s = two (λ e fs. field name e fs) (erased_core e _ _ n s.0) (erased_fields fs _ _ n s.1)
