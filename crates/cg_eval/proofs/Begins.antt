-- How the evaluation of a node begins, as equations.
use Rattle.std.proofs.Common.{◌≡◌, ℕ, suc, ◌+◌, ◌<◌, ◌≤◌, if◌then◌else◌, List, [], ◌∷◌, length, map, get_or, refl, sym, ap, ◌∙◌, arith, Bor, Box}
use Rattle.std.specs.declared.alloc.Global.{Global}
use Rattle.cg_base.specs.declared.fun.Fun.{Fun}
use Rattle.cg_base.specs.declared.place.Place.{Place as Spot}
use Rattle.cg_base.specs.declared.ty.Ty.{Ty}
use Rattle.cg_base.specs.Types.{type_of}
use Rattle.cg_core.specs.declared.at.At.{At}
use Rattle.cg_core.specs.declared.at.TyArg.{TyArg}
use Rattle.cg_core.specs.declared.op.Op.{Op}
use Rattle.cg_core.specs.declared.term.FieldTerm.{FieldTerm}
use Rattle.cg_core.specs.declared.term.Form.TheVariants as form
use Rattle.cg_core.specs.declared.term.Seen.{Seen}
use Rattle.cg_core.specs.declared.term.Term.{Term}
use Rattle.cg_core.specs.declared.term.Typed.{Typed}
use Rattle.cg_core.specs.declared.term.Form.{the_lemmas}
use Rattle.cg_core.specs.Kernels.{the_core, the_core_form}
use Rattle.cg_core.specs.Terms.{Note, Tree, term, Shape, arg_of, note_of, op, app, lets, let_bang, if_else, con, case_of, esac, struct, member, take_field, put, none, more, to_trees, var, fun}
use Rattle.cg_typing.specs.Rules.{type_at}
use Rattle.cg_value.specs.Forms.{field, has_name, payload_in, with_field, without}
use Rattle.cg_value.specs.Values.{Val, chosen}
use Rattle.cg_eval_machine.specs.declared.frame.Frame.TheVariants.{One, Right, Argument, Body, Branches, Wrap, Arms, Payload, Pick, Open, Into}
use Rattle.cg_eval_def.specs.Evaluation.{Outcome, spent, stuck, gives, bind, pay, Table, Context, push, all_of, evaluate, node, node_shape}
use Rattle.cg_eval_operations.specs.Operators.{operated, operated_both}
use Rattle.cg_eval_operations.specs.Positions.{position}
use Rattle.cg_eval_machine.specs.Machine.{Cont, resume, after, on, named_of}
use Rattle.cg_eval_machine.proofs.Fixed.{at_node, at_none}
use Rattle.cg_eval_machine.proofs.Steps.{paid, descends}
use Rattle.cg_core.proofs.Forms.{one_term, two_terms, var_is, fun_is, op_is, app_is, lets_is, bang_is, if_is, con_is, case_is, esac_is, member_is, take_is, put_is}
use Rattle.cg_core.proofs.Operands.{core_is}
use Rattle.cg_typing.proofs.CoreTypes.{type_of_core as type_is}

pub struct_is : (fs : List (FieldTerm Typed)) → the_core_form (form.Struct fs) ≡ struct (named_of fs)
struct_is fs = search the_lemmas

module _ (table : Table) where
  evaluate_at : (t : Tree Note) (c : Context) (l n : ℕ) → n + 1 ≡ l → evaluate table t c l ≡ node table (evaluate table) t c n
  evaluate_at t c l n e = let p : l ≡ suc n = omega arith in ap (λ z. evaluate table t c z) p ∙ at_node table t c n

  pub no_budget : (t : Tree Note) (c : Context) (h : Val → ℕ → Outcome) → bind (evaluate table t c 0) h ≡ spent
  no_budget t c h = ap (λ o. bind o h) (at_none table t c)

  -- a node that is paid
  pub want_node : (t : Tree Note) (h : Val → ℕ → Outcome) (c : Context) (l n : ℕ) → n + 1 ≡ l → bind (node table (evaluate table) t c n) h ≡ bind (evaluate table t c l) h
  want_node t h c l n e = sym (ap (λ o. bind o h) (evaluate_at t c l n e))

  -- An operation, by its operands

  one_node : (note : Note) (o : Op) (ty : Bor Ty) (a : Tree Note) (k : Cont) (c : Context) (l : ℕ) → type_of ty.now ≡ type_at a
      → bind (evaluate table a c l) (on table (One o ty) k c) ≡ bind (node_shape table (evaluate table) note (op o (more a none)) c l) (k c)
  unfolding resume after
  one_node note o ty a k c l e =
      descends table (One o ty) k c (evaluate table a c l) refl
      ∙ ap (λ t. bind (bind (evaluate table a c l) (λ v m. gives (operated o t v) m)) (k c)) e

  two_node : (note : Note) (o : Op) (ty : Bor Ty) (a : Tree Note) (b : Bor (Term Typed)) (k : Cont) (c : Context) (l : ℕ) → type_of ty.now ≡ type_at a
      → bind (evaluate table a c l) (on table (Right o ty b) k c) ≡ bind (node_shape table (evaluate table) note (op o (more a (more (the_core b.now) none))) c l) (k c)
  unfolding resume after
  two_node note o ty a b k c l e =
      descends table (Right o ty b) k c (evaluate table a c l) refl
      ∙ ap (λ t. bind (bind (evaluate table a c l) (λ v m. bind (evaluate table (the_core b.now) c m) (λ w j. gives (operated_both o t v w) j))) (k c)) e

  pub want_one : (note : Note) (o : Op) (ts : List (Term Typed)) (a : Term Typed) (ty : Bor Ty) (k : Cont) (c : Context) (l : ℕ)
      → 1 ≤ length ts → length ts < 2 → a ≡ get_or ts 0 a → ty.now ≡ a.note.ty
      → bind (evaluate table (the_core a) c l) (on table (One o ty) k c) ≡ bind (node_shape table (evaluate table) note (op o (to_trees (map the_core ts))) c l) (k c)
  want_one note o ts a ty k c l n m x e =
      one_node note o ty (the_core a) k c l (ap type_of e ∙ sym (type_is a))
      ∙ ap (λ us. bind (node_shape table (evaluate table) note (op o us) c l) (k c)) (sym (one_term ts a n m x))

  pub want_two : (note : Note) (o : Op) (ts : List (Term Typed)) (a : Term Typed) (ty : Bor Ty) (b : Bor (Term Typed)) (k : Cont) (c : Context) (l : ℕ)
      → 2 ≤ length ts → length ts < 3 → a ≡ get_or ts 0 a → b.now ≡ get_or ts 1 b.now → ty.now ≡ a.note.ty
      → bind (evaluate table (the_core a) c l) (on table (Right o ty b) k c) ≡ bind (node_shape table (evaluate table) note (op o (to_trees (map the_core ts))) c l) (k c)
  want_two note o ts a ty b k c l n m x y e =
      two_node note o ty (the_core a) b k c l (ap type_of e ∙ sym (type_is a))
      ∙ ap (λ us. bind (node_shape table (evaluate table) note (op o us) c l) (k c)) (sym (two_terms ts a b.now n m x y))

  -- an operation on other than one or two
  pub no_operands : (note : Note) (o : Op) (ts : List (Term Typed)) (h : Val → ℕ → Outcome) (c : Context) (l : ℕ) → (length ts ≡ 1 → ⊥) → (length ts ≡ 2 → ⊥)
      → bind (node_shape table (evaluate table) note (op o (to_trees (map the_core ts))) c l) h ≡ stuck
  unfolding to_trees
  no_operands note o [] h c l m n = refl
  no_operands note o (x ∷ []) h c l m n = absurd (m refl)
  no_operands note o (x ∷ y ∷ []) h c l m n = absurd (n refl)
  no_operands note o (x ∷ y ∷ z ∷ ts) h c l m n = refl

  -- An alternative: its payload costs 1 more

  pub want_con : (note : Note) (x : Bor (List ℕ)) (a : Tree Note) (k : Cont) (c : Context) (l n : ℕ) → n + 1 ≡ l
      → bind (evaluate table a c n) (on table (Wrap x) k c) ≡ bind (node_shape table (evaluate table) note (con x.now a) c l) (k c)
  unfolding resume after
  want_con note x a k c l n e =
      descends table (Wrap x) k c (evaluate table a c n) refl
      ∙ ap (λ o. bind o (k c)) (sym (paid l n e (λ m. bind (evaluate table a c m) (λ v j. gives (chosen x.now v) j))))

  pub con_spent : (note : Note) (x : List ℕ) (a : Tree Note) (h : Val → ℕ → Outcome) (c : Context) (l : ℕ) → l ≡ 0 → bind (node_shape table (evaluate table) note (con x a) c l) h ≡ spent
  con_spent note x a h c l e = ap (λ z. bind (node_shape table (evaluate table) note (con x a) c z) h) e

  -- A node, by the form of its term

  node_is : (t : Term Typed) (s : Shape Note) (h : Val → ℕ → Outcome) (c : Context) (l : ℕ) → the_core_form t.form ≡ s
      → bind (node_shape table (evaluate table) (note_of t.note) s c l) h ≡ bind (node table (evaluate table) (the_core t) c l) h
  node_is t s h c l e =
      ap (λ z. bind (node_shape table (evaluate table) (note_of t.note) z c l) h) (sym e) ∙ ap (λ z. bind (node table (evaluate table) z c l) h) (sym (core_is t))

  pub begin_op : (t : Term Typed) (o : Op) (ts : List (Term Typed)) (h : Val → ℕ → Outcome) (c : Context) (l : ℕ) → t.form ≡ form.Op o ts
      → bind (node_shape table (evaluate table) (note_of t.note) (op o (to_trees (map the_core ts))) c l) h ≡ bind (node table (evaluate table) (the_core t) c l) h
  begin_op t o ts h c l e = node_is t _ h c l (ap the_core_form e ∙ op_is o ts)

  pub begin_var : (t : Term Typed) (i : ℕ) (h : Val → ℕ → Outcome) (c : Context) (l : ℕ) → t.form ≡ form.Var i
      → bind (node_shape table (evaluate table) (note_of t.note) (var i) c l) h ≡ bind (node table (evaluate table) (the_core t) c l) h
  begin_var t i h c l e = node_is t (var i) h c l (ap the_core_form e ∙ var_is i)

  pub begin_fun : (t : Term Typed) (f : Fun) (ts : List TyArg) (h : Val → ℕ → Outcome) (c : Context) (l : ℕ) → t.form ≡ form.Fun f ts
      → bind (node_shape table (evaluate table) (note_of t.note) (fun f (map arg_of ts)) c l) h ≡ bind (node table (evaluate table) (the_core t) c l) h
  begin_fun t f ts h c l e = node_is t (fun f (map arg_of ts)) h c l (ap the_core_form e ∙ fun_is f ts)

  pub want_app : (note : Note) (f x : Box (Term Typed) Global) (a : Term Typed) (b : Bor (Term Typed)) (k : Cont) (c : Context) (l : ℕ)
      → a ≡ f.value → b.now ≡ x.value
      → bind (evaluate table (the_core a) c l) (on table (Argument b) k c) ≡ bind (node_shape table (evaluate table) note (app (the_core f.value) (the_core x.value)) c l) (k c)
  unfolding resume after
  want_app note f x a b k c l i j =
      descends table (Argument b) k c (evaluate table (the_core a) c l) refl
      ∙ ap (λ z. bind (node_shape table (evaluate table) note (app (the_core z) (the_core b.now)) c l) (k c)) i
      ∙ ap (λ z. bind (node_shape table (evaluate table) note (app (the_core f.value) (the_core z)) c l) (k c)) j

  pub begin_app : (t : Term Typed) (f x : Box (Term Typed) Global) (h : Val → ℕ → Outcome) (c : Context) (l : ℕ) → t.form ≡ form.App f x
      → bind (node_shape table (evaluate table) (note_of t.note) (app (the_core f.value) (the_core x.value)) c l) h ≡ bind (node table (evaluate table) (the_core t) c l) h
  begin_app t f x h c l e = node_is t (app (the_core f.value) (the_core x.value)) h c l (ap the_core_form e ∙ app_is f x)

  pub want_lets : (note : Note) (p : Spot) (x y : Box (Term Typed) Global) (a : Term Typed) (b : Bor (Term Typed)) (k : Cont) (c : Context) (l : ℕ)
      → a ≡ x.value → b.now ≡ y.value
      → bind (evaluate table (the_core a) c l) (on table (Body b) k c) ≡ bind (node_shape table (evaluate table) note (lets p (the_core x.value) (the_core y.value)) c l) (k c)
  unfolding resume after
  want_lets note p x y a b k c l i j =
      descends table (Body b) k c (evaluate table (the_core a) c l) refl
      ∙ ap (λ z. bind (node_shape table (evaluate table) note (lets p (the_core z) (the_core b.now)) c l) (k c)) i
      ∙ ap (λ z. bind (node_shape table (evaluate table) note (lets p (the_core x.value) (the_core z)) c l) (k c)) j

  pub begin_lets : (t : Term Typed) (p : Spot) (x y : Box (Term Typed) Global) (h : Val → ℕ → Outcome) (c : Context) (l : ℕ) → t.form ≡ form.Let p x y
      → bind (node_shape table (evaluate table) (note_of t.note) (lets p (the_core x.value) (the_core y.value)) c l) h ≡ bind (node table (evaluate table) (the_core t) c l) h
  begin_lets t p x y h c l e = node_is t (lets p (the_core x.value) (the_core y.value)) h c l (ap the_core_form e ∙ lets_is p x y)

  -- a `let!` gives what a `let` does
  pub begin_bang : (t : Term Typed) (s : List Seen) (p : Spot) (x y : Box (Term Typed) Global) (h : Val → ℕ → Outcome) (c : Context) (l : ℕ) → t.form ≡ form.LetBang s p x y
      → bind (node_shape table (evaluate table) (note_of t.note) (lets p (the_core x.value) (the_core y.value)) c l) h ≡ bind (node table (evaluate table) (the_core t) c l) h
  begin_bang t s p x y h c l e = node_is t (let_bang s p (the_core x.value) (the_core y.value)) h c l (ap the_core_form e ∙ bang_is s p x y)

  pub want_if : (note : Note) (x y z : Box (Term Typed) Global) (q : Term Typed) (a b : Bor (Term Typed)) (k : Cont) (c : Context) (l : ℕ)
      → q ≡ x.value → a.now ≡ y.value → b.now ≡ z.value
      → bind (evaluate table (the_core q) c l) (on table (Branches a b) k c)
      ≡ bind (node_shape table (evaluate table) note (if_else (the_core x.value) (the_core y.value) (the_core z.value)) c l) (k c)
  unfolding resume after
  want_if note x y z q a b k c l i j n =
      descends table (Branches a b) k c (evaluate table (the_core q) c l) refl
      ∙ ap (λ w. bind (node_shape table (evaluate table) note (if_else (the_core w) (the_core a.now) (the_core b.now)) c l) (k c)) i
      ∙ ap (λ w. bind (node_shape table (evaluate table) note (if_else (the_core x.value) (the_core w) (the_core b.now)) c l) (k c)) j
      ∙ ap (λ w. bind (node_shape table (evaluate table) note (if_else (the_core x.value) (the_core y.value) (the_core w)) c l) (k c)) n

  pub begin_if : (t : Term Typed) (x y z : Box (Term Typed) Global) (h : Val → ℕ → Outcome) (c : Context) (l : ℕ) → t.form ≡ form.If x y z
      → bind (node_shape table (evaluate table) (note_of t.note) (if_else (the_core x.value) (the_core y.value) (the_core z.value)) c l) h ≡ bind (node table (evaluate table) (the_core t) c l) h
  begin_if t x y z h c l e = node_is t (if_else (the_core x.value) (the_core y.value) (the_core z.value)) h c l (ap the_core_form e ∙ if_is x y z)

  pub begin_con : (t : Term Typed) (n : List ℕ) (x : Box (Term Typed) Global) (a : Term Typed) (h : Val → ℕ → Outcome) (c : Context) (l : ℕ)
      → t.form ≡ form.Con n x → a ≡ x.value
      → bind (node_shape table (evaluate table) (note_of t.note) (con n (the_core a)) c l) h ≡ bind (node table (evaluate table) (the_core t) c l) h
  begin_con t n x a h c l e i = node_is t (con n (the_core a)) h c l (ap the_core_form e ∙ con_is n x ∙ ap (λ z. con n (the_core z)) (sym i))

  pub want_case : (note : Note) (x : Box (Term Typed) Global) (at : At) (p : Spot) (y z : Box (Term Typed) Global) (q : Term Typed) (a b : Bor (Term Typed)) (k : Cont) (c : Context) (l : ℕ)
      → q ≡ x.value → a.now ≡ y.value → b.now ≡ z.value → (name : Bor (List ℕ)) → name.now ≡ at.name
      → bind (evaluate table (the_core q) c l) (on table (Arms name a b) k c)
      ≡ bind (node_shape table (evaluate table) note (case_of (the_core x.value) at p (the_core y.value) (the_core z.value)) c l) (k c)
  unfolding resume after
  want_case note x at p y z q a b k c l i j n name w =
      descends table (Arms name a b) k c (evaluate table (the_core q) c l) refl
      ∙ ap (λ s. bind (bind (evaluate table (the_core q) c l) (λ v m. if has_name s v then evaluate table (the_core a.now) (push c (payload_in v)) m else evaluate table (the_core b.now) (push c v) m)) (k c)) w
      ∙ ap (λ u. bind (node_shape table (evaluate table) note (case_of (the_core u) at p (the_core a.now) (the_core b.now)) c l) (k c)) i
      ∙ ap (λ u. bind (node_shape table (evaluate table) note (case_of (the_core x.value) at p (the_core u) (the_core b.now)) c l) (k c)) j
      ∙ ap (λ u. bind (node_shape table (evaluate table) note (case_of (the_core x.value) at p (the_core y.value) (the_core u)) c l) (k c)) n

  pub begin_case : (t : Term Typed) (x : Box (Term Typed) Global) (at : At) (p : Spot) (y z : Box (Term Typed) Global) (h : Val → ℕ → Outcome) (c : Context) (l : ℕ) → t.form ≡ form.Case x at p y z
      → bind (node_shape table (evaluate table) (note_of t.note) (case_of (the_core x.value) at p (the_core y.value) (the_core z.value)) c l) h ≡ bind (node table (evaluate table) (the_core t) c l) h
  begin_case t x at p y z h c l e = node_is t (case_of (the_core x.value) at p (the_core y.value) (the_core z.value)) h c l (ap the_core_form e ∙ case_is x at p y z)

  pub want_esac : (note : Note) (at : At) (x : Box (Term Typed) Global) (a : Term Typed) (k : Cont) (c : Context) (l : ℕ)
      → a ≡ x.value
      → bind (evaluate table (the_core a) c l) (on table Payload k c) ≡ bind (node_shape table (evaluate table) note (esac at (the_core x.value)) c l) (k c)
  unfolding resume after
  want_esac note at x a k c l i =
      descends table Payload k c (evaluate table (the_core a) c l) refl
      ∙ ap (λ z. bind (node_shape table (evaluate table) note (esac at (the_core z)) c l) (k c)) i

  pub begin_esac : (t : Term Typed) (at : At) (x : Box (Term Typed) Global) (h : Val → ℕ → Outcome) (c : Context) (l : ℕ) → t.form ≡ form.Esac at x
      → bind (node_shape table (evaluate table) (note_of t.note) (esac at (the_core x.value)) c l) h ≡ bind (node table (evaluate table) (the_core t) c l) h
  begin_esac t at x h c l e = node_is t (esac at (the_core x.value)) h c l (ap the_core_form e ∙ esac_is at x)

  pub begin_struct : (t : Term Typed) (fs gs : List (FieldTerm Typed)) (h : Val → ℕ → Outcome) (c : Context) (l : ℕ) → t.form ≡ form.Struct fs → gs ≡ fs
      → bind (all_of (evaluate table) (named_of gs) c [] l) h ≡ bind (node table (evaluate table) (the_core t) c l) h
  begin_struct t fs gs h c l e d = ap (λ z. bind (all_of (evaluate table) (named_of z) c [] l) h) d ∙ node_is t (struct (named_of fs)) h c l (ap the_core_form e ∙ struct_is fs)

  -- What names a field stands where its type says

  pub want_member : (note : Note) (x : Box (Term Typed) Global) (at : At) (a : Term Typed) (n : ℕ) (k : Cont) (c : Context) (l : ℕ)
      → a ≡ x.value → n ≡ position at.name (type_of a.note.ty)
      → bind (evaluate table (the_core a) c l) (on table (Pick n) k c) ≡ bind (node_shape table (evaluate table) note (member (the_core x.value) at) c l) (k c)
  unfolding resume after
  want_member note x at a n k c l i d =
      descends table (Pick n) k c (evaluate table (the_core a) c l) refl
      ∙ ap (λ z. bind (bind (evaluate table (the_core a) c l) (λ v m. gives (field v z) m)) (k c)) (d ∙ ap (position at.name) (sym (type_is a)))
      ∙ ap (λ z. bind (node_shape table (evaluate table) note (member (the_core z) at) c l) (k c)) i

  pub want_take : (note : Note) (x : Box (Term Typed) Global) (at : At) (p q : Spot) (y : Box (Term Typed) Global) (a : Term Typed) (b : Bor (Term Typed)) (n : ℕ) (k : Cont) (c : Context) (l : ℕ)
      → a ≡ x.value → b.now ≡ y.value → n ≡ position at.name (type_of a.note.ty)
      → bind (evaluate table (the_core a) c l) (on table (Open n b) k c) ≡ bind (node_shape table (evaluate table) note (take_field (the_core x.value) at p q (the_core y.value)) c l) (k c)
  unfolding resume after
  want_take note x at p q y a b n k c l i j d =
      descends table (Open n b) k c (evaluate table (the_core a) c l) refl
      ∙ ap (λ z. bind (bind (evaluate table (the_core a) c l) (λ v m. evaluate table (the_core b.now) (push (push c (without v z)) (field v z)) m)) (k c)) (d ∙ ap (position at.name) (sym (type_is a)))
      ∙ ap (λ z. bind (node_shape table (evaluate table) note (take_field (the_core a) at p q (the_core z)) c l) (k c)) j
      ∙ ap (λ z. bind (node_shape table (evaluate table) note (take_field (the_core z) at p q (the_core y.value)) c l) (k c)) i

  pub want_put : (note : Note) (x : Box (Term Typed) Global) (at : At) (y : Box (Term Typed) Global) (a : Term Typed) (b : Bor (Term Typed)) (n : ℕ) (k : Cont) (c : Context) (l : ℕ)
      → a ≡ x.value → b.now ≡ y.value → n ≡ position at.name (type_of a.note.ty)
      → bind (evaluate table (the_core a) c l) (on table (Into n b) k c) ≡ bind (node_shape table (evaluate table) note (put (the_core x.value) at (the_core y.value)) c l) (k c)
  unfolding resume after
  want_put note x at y a b n k c l i j d =
      descends table (Into n b) k c (evaluate table (the_core a) c l) refl
      ∙ ap (λ z. bind (bind (evaluate table (the_core a) c l) (λ v m. pay m (λ paid. bind (evaluate table (the_core b.now) c paid) (λ w last. gives (with_field v z w) last)))) (k c)) (d ∙ ap (position at.name) (sym (type_is a)))
      ∙ ap (λ z. bind (node_shape table (evaluate table) note (put (the_core a) at (the_core z)) c l) (k c)) j
      ∙ ap (λ z. bind (node_shape table (evaluate table) note (put (the_core z) at (the_core y.value)) c l) (k c)) i

  pub begin_member : (t : Term Typed) (x : Box (Term Typed) Global) (at : At) (h : Val → ℕ → Outcome) (c : Context) (l : ℕ) → t.form ≡ form.Member x at
      → bind (node_shape table (evaluate table) (note_of t.note) (member (the_core x.value) at) c l) h ≡ bind (node table (evaluate table) (the_core t) c l) h
  begin_member t x at h c l e = node_is t (member (the_core x.value) at) h c l (ap the_core_form e ∙ member_is x at)

  pub begin_take : (t : Term Typed) (x : Box (Term Typed) Global) (at : At) (p q : Spot) (y : Box (Term Typed) Global) (h : Val → ℕ → Outcome) (c : Context) (l : ℕ) → t.form ≡ form.Take x at p q y
      → bind (node_shape table (evaluate table) (note_of t.note) (take_field (the_core x.value) at p q (the_core y.value)) c l) h ≡ bind (node table (evaluate table) (the_core t) c l) h
  begin_take t x at p q y h c l e = node_is t (take_field (the_core x.value) at p q (the_core y.value)) h c l (ap the_core_form e ∙ take_is x at p q y)

  pub begin_put : (t : Term Typed) (x : Box (Term Typed) Global) (at : At) (y : Box (Term Typed) Global) (h : Val → ℕ → Outcome) (c : Context) (l : ℕ) → t.form ≡ form.Put x at y
      → bind (node_shape table (evaluate table) (note_of t.note) (put (the_core x.value) at (the_core y.value)) c l) h ≡ bind (node table (evaluate table) (the_core t) c l) h
  begin_put t x at y h c l e = node_is t (put (the_core x.value) at (the_core y.value)) h c l (ap the_core_form e ∙ put_is x at y)

pub ruleset begin_steps = (no_budget, want_node, want_one, want_two, no_operands, want_con, con_spent, the_lemmas)
