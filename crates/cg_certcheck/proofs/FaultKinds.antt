-- What a certificate can be at fault for: a node's row, a node or a name that is missing or surplus, or the limit on types.
use Rattle.std.proofs.Common.{◌≡◌, ℕ, Bool, true, false, Option, Some, None, List, [], ◌∷◌, ◌++◌, refl, subst}
use Rattle.cg_base.specs.declared.kind.Kinds.{Kinds}
use Rattle.cg_base.specs.Types.{Tau}
use Rattle.cg_base.specs.declared.place.Place.{Place}
use Rattle.cg_cert.specs.declared.cert.Cert.{Cert}
use Rattle.cg_cert.specs.declared.cert.CertFun.{CertFun}
use Rattle.cg_cert.specs.declared.cert.CertNode.{CertNode}
use Rattle.cg_cert.specs.declared.fault.CertFault.{CertFault}
use Rattle.cg_core.specs.declared.derivation.Mark.{Mark}
use Rattle.cg_core.specs.Kernels.{Function, Body}
use Rattle.cg_core.specs.Terms.{Tree, term, Shape, var, unit, bool, lit, fun, op, app, lets, let_bang, if_else, con, case_of, esac, struct, member, take_field, put, cast, annot, none, more, Named, end, field}
use Rattle.cg_certcheck_def.specs.Events.{Event, event, events, events_shape, field_events, unary_events, binary_events, body_events, maybe_body_events, function_events, cert_events, first_failing}
use Rattle.cg_certcheck.specs.Judged.{IsNodeFault}
use Rattle.cg_typing.specs.Contexts.{Context}
use Rattle.cg_typing.specs.Operators.{Sort, arithmetic, equality, order, logic}

-- each event is one of these
abbrev Fine : List Event → Type 0
Fine [] = Unit {0}
Fine (event fault holds ∷ later) = IsNodeFault fault × Fine later

fine_append : (xs ys : List Event) → Fine xs → Fine ys → Fine (xs ++ ys)
fine_append [] ys f g = g
fine_append (event fault holds ∷ xs) ys f g = (f.0, fine_append xs ys f.1 g)

module _ (functions : List Function) (vars : List Kinds) where
  unary_fine : (sort : Sort) (dir : Option Tau) (n : ℕ) (a : Tau) (x : Option Tau → List Event) → ((way : Option Tau) → Fine (x way)) → Fine (unary_events sort dir n a x)
  unary_fine logic dir n a x f = fine_append (x _) _ (f _) (tt, tt)
  unary_fine arithmetic (Some t) n a x f = (tt, f _)
  unary_fine arithmetic None n a x f = fine_append (x _) _ (f _) (tt, tt)
  unary_fine equality dir n a x f = fine_append (x _) _ (f _) (tt, tt)
  unary_fine order dir n a x f = fine_append (x _) _ (f _) (tt, tt)

  binary_fine : (sort : Sort) (dir : Option Tau) (n : ℕ) (q : Bool) (a b : Tau) (l r : Option Tau → List Event) (reaches : List Event) (number : Tau → List Event)
      → ((way : Option Tau) → Fine (l way)) → ((way : Option Tau) → Fine (r way)) → Fine reaches → ((t : Tau) → Fine (number t))
      → Fine (binary_events sort dir n q a b l r reaches number)
  binary_fine logic dir n q a b l r reaches number f g h k = fine_append (l _) _ (f _) (fine_append (r _) _ (g _) (tt, tt))
  binary_fine arithmetic (Some t) n q a b l r reaches number f g h k = (tt, fine_append (l _) _ (f _) (g _))
  binary_fine arithmetic None n true a b l r reaches number f g h k = fine_append reaches _ h (fine_append (r _) _ (g _) (tt, k b))
  binary_fine arithmetic None n false a b l r reaches number f g h k = fine_append (l _) _ (f _) (tt, g _)
  binary_fine equality dir n true a b l r reaches number f g h k = fine_append reaches _ h (fine_append (r _) _ (g _) (tt, fine_append (number b) _ (k b) (tt, tt)))
  binary_fine equality dir n false a b l r reaches number f g h k = fine_append (l _) _ (f _) (tt, fine_append (r _) _ (g _) (tt, tt))
  binary_fine order dir n true a b l r reaches number f g h k = fine_append reaches _ h (fine_append (r _) _ (g _) (tt, fine_append (number b) _ (k b) (tt, tt)))
  binary_fine order dir n false a b l r reaches number f g h k = fine_append (l _) _ (f _) (tt, fine_append (r _) _ (g _) (tt, tt))

  abbrev Good : Tree Place → Type 0
  Good e = (g : Context) (p : List Tau) (dir : Option Tau) (ns : List CertNode) (n : ℕ) → Fine (events functions vars g p dir ns n e)

  abbrev GoodShape : Shape Place → Type 0
  GoodShape s = (g : Context) (p : List Tau) (dir : Option Tau) (ns : List CertNode) (n : ℕ) → Fine (events_shape functions vars g p dir ns n s)

  abbrev GoodFields : Named Place → Type 0
  GoodFields fs = (g : Context) (p : List Tau) (ways : List (Option Tau)) (strings : List (List Mark)) (ns : List CertNode) (n : ℕ)
      → Fine (field_events functions vars g p ways strings ns n fs)

  mutual
    pub good : (e : Tree Place) → Good e
    good (term a s) g p dir ns n = fine_append (events_shape functions vars g p dir ns n s) _ (good_shape s g p dir ns n) (refl, tt)

    good_shape : (s : Shape Place) → GoodShape s
    good_shape (var i) g p dir ns n = (tt, (tt, (tt, tt)))
    good_shape unit g p dir ns n = (tt, (tt, (tt, tt)))
    good_shape (bool b) g p dir ns n = (tt, (tt, (tt, tt)))
    good_shape (lit v) g p dir ns n = (tt, (tt, (tt, tt)))
    good_shape (fun f args) g p dir ns n = (tt, (tt, (tt, tt)))
    good_shape (op o none) g p dir ns n = (tt, tt)
    good_shape (op o (more x none)) g p dir ns n = (tt, (tt, unary_fine _ dir n _ _ (λ way. good x g p way _ _)))
    good_shape (op o (more l (more r none))) g p dir ns n =
        (tt, (tt, binary_fine _ dir n _ _ _ _ _ _ _ (λ way. good l _ p way _ _) (λ way. good r _ p way _ _) (tt, (tt, (tt, tt))) (λ t. (tt, (refl, tt)))))
    good_shape (op o (more l (more r (more x ts)))) g p dir ns n = (tt, tt)
    good_shape (app f x) g p dir ns n = (tt, (tt, fine_append (events functions vars _ p None _ _ f) _ (good f _ p None _ _) (tt, fine_append (events functions vars _ p _ _ _ x) _ (good x _ p _ _ _) (tt, tt))))
    good_shape (lets binder e k) g p dir ns n = (tt, (tt, fine_append (events functions vars _ p None _ _ e) _ (good e _ p None _ _) (good k _ _ dir _ _)))
    good_shape (let_bang os binder e k) g p dir ns n = (tt, (tt, fine_append (events functions vars _ _ None _ _ e) _ (good e _ _ None _ _) (tt, good k _ _ dir _ _)))
    good_shape (if_else c x y) g p dir ns n =
        (tt, (tt, fine_append (events functions vars _ p _ _ _ c) _ (good c _ p _ _ _) (fine_append (events functions vars _ p dir _ _ x) _ (good x _ p dir _ _) (good y _ p _ _ _))))
    good_shape (con name e) g p dir ns n = (tt, (tt, (tt, good e g p _ _ _)))
    good_shape (case_of e at binder x y) g p dir ns n =
        (tt, (tt, fine_append (events functions vars _ p None _ _ e) _ (good e _ p None _ _) (tt, fine_append (events functions vars _ _ dir _ _ x) _ (good x _ _ dir _ _) (good y _ _ _ _ _))))
    good_shape (esac at e) g p dir ns n = (tt, (tt, fine_append (events functions vars g p None _ _ e) _ (good e g p None _ _) (tt, tt)))
    good_shape (struct fs) g p dir ns n = (tt, (tt, (tt, good_fields fs g p _ _ _ _)))
    good_shape (member e at) g p dir ns n = (tt, (tt, fine_append (events functions vars g p None _ _ e) _ (good e g p None _ _) (tt, tt)))
    good_shape (take_field e at rest binder k) g p dir ns n = (tt, (tt, fine_append (events functions vars _ p None _ _ e) _ (good e _ p None _ _) (tt, good k _ _ dir _ _)))
    good_shape (put e at x) g p dir ns n =
        (tt, (tt, fine_append (events functions vars _ p None _ _ e) _ (good e _ p None _ _) (tt, fine_append (events functions vars _ p _ _ _ x) _ (good x _ p _ _ _) (tt, tt))))
    good_shape (cast e) g p dir ns n = (tt, (tt, (tt, fine_append (events functions vars g p None _ _ e) _ (good e g p None _ _) (tt, tt))))
    good_shape (annot e a) g p dir ns n = (tt, (tt, (tt, fine_append (events functions vars g p _ _ _ e) _ (good e g p _ _ _) (tt, tt))))

    good_fields : (fs : Named Place) → GoodFields fs
    good_fields end g p ways strings ns n = tt
    good_fields (field name e end) g p ways strings ns n = good e g p _ ns n
    good_fields (field name e (field later x fs)) g p ways strings ns n =
        fine_append (events functions vars _ p _ ns n e) _ (good e _ p _ ns n) (good_fields (field later x fs) _ p _ _ _ _)

maybe_fine : (functions : List Function) (f : Function) (body : Option Body) (funs : List CertFun) (n : ℕ) (later : List CertFun → ℕ → List Event)
    → ((rest : List CertFun) (m : ℕ) → Fine (later rest m)) → Fine (maybe_body_events functions f body funs n later)
maybe_fine functions f None funs n later h = h funs n
maybe_fine functions f (Some body) funs n later h =
    (tt, fine_append (body_events functions f body.term _ n) _ (fine_append (events functions _ _ _ _ _ n body.term) _ (good functions _ body.term _ _ _ _ n) (tt, tt)) (h _ _))

functions_fine : (functions fs : List Function) (funs : List CertFun) (n : ℕ) → Fine (function_events functions fs funs n)
functions_fine functions [] funs n = (tt, tt)
functions_fine functions (f ∷ fs) funs n = (tt, maybe_fine functions f f.body funs n (λ rest m. function_events functions fs rest m) (functions_fine functions fs))

first_fine : (xs : List Event) (fault : CertFault) → Fine xs → first_failing xs ≡ Some fault → IsNodeFault fault
first_fine [] fault f h = absurd (cc)
first_fine (event other true ∷ xs) fault f h = first_fine xs fault f.1 h
first_fine (event other false ∷ xs) fault f h = let e : other ≡ fault = cc in subst IsNodeFault e f.0

-- the first that fails is one of these
pub node_fault : (functions : List Function) (cert : Cert) (fault : CertFault) → first_failing (cert_events functions cert) ≡ Some fault → IsNodeFault fault
node_fault functions cert fault h = first_fine (cert_events functions cert) fault (functions_fine functions functions cert.funs 1) h
