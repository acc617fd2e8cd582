-- In a derivation each mark string is as long as its context, in which stands something.
use Rattle.std.proofs.Common.{◌≡◌, List, [], ◌∷◌, ◌++◌, length, Option, Some, None, sym, subst, arith}
use Rattle.std.specs.Prelude.{⊤}
use Rattle.cg_base.specs.declared.kind.Kinds.{Kinds}
use Rattle.cg_base.specs.Types.{Tau}
use Rattle.cg_cert.specs.Certificates.{nodes_of, nodes_in}
use Rattle.cg_cert.specs.Laws.{IsMarked, KeptIsMarked}
use Rattle.cg_cert.specs.Texts.{AreMarked, AreNodes}
use Rattle.cg_cert.specs.declared.cert.CertNode.{CertNode}
use Rattle.cg_core.specs.declared.derivation.Mark.{Mark}
use Rattle.cg_core.specs.declared.derivation.Node.{Node}
use Rattle.cg_core.specs.declared.derivation.Node.TheVariants as nodes
use Rattle.cg_core.specs.declared.term.Seen.{Seen as Observer}
use Rattle.cg_core.specs.Derivations.{Derivation, Derivations, done, part}
use Rattle.cg_core.specs.Kernels.{Function, Body}
use Rattle.cg_core.specs.Terms.{Tree, term, Shape, var, unit, bool, lit, fun, op, app, lets, let_bang, if_else, con, case_of, esac, struct, member, take_field, put, cast, annot, none, more, Named, end, field, Note}
use Rattle.cg_typing.specs.Contexts.{Context, push, first, second, Splits}
use Rattle.cg_typing.specs.Kept.{IsKeptMaybe}
use Rattle.cg_typing.specs.Rules.{Derives, DerivesShape, DerivesFields}
use Rattle.cg_typing.specs.Trees.{nth, later_parts, sub, the_parts, strings_of, first_marks, later_marks, marks_of, leaf, IsOne, IsTwo, IsThree, IsAny}

-- something stands in a context
abbrev Stands : Context → Type 0
Stands [] = ⊥
Stands (entry ∷ g) = ⊤

push_stands : (g : Context) (entry : Option Tau) → Stands (push g entry)
push_stands [] entry = tt
push_stands (x ∷ g) entry = tt

first_stands : (m : List Mark) (g : Context) → length m ≡ length g → Stands g → Stands (first m g)
first_stands m [] e h = absurd h
first_stands [] (x ∷ g) e h = absurd (omega arith)
first_stands (a ∷ m) (x ∷ g) e h = tt

second_stands : (m : List Mark) (g : Context) → length m ≡ length g → Stands g → Stands (second m g)
second_stands m [] e h = absurd h
second_stands [] (x ∷ g) e h = absurd (omega arith)
second_stands (a ∷ m) (x ∷ g) e h = tt

marks_stand : (m : List Mark) (g : Context) → length m ≡ length g → Stands g → AreMarked (m ∷ [])
marks_stand m [] e h = absurd h
marks_stand [] (x ∷ g) e h = absurd (omega arith)
marks_stand (a ∷ m) (x ∷ g) e h = tt

marks_more : (m : List Mark) (strings : List (List Mark)) → AreMarked (m ∷ []) → AreMarked strings → AreMarked (m ∷ strings)
marks_more [] strings h k = absurd h
marks_more (a ∷ m) strings h k = k

nodes_append : (ns ms : List CertNode) → AreNodes ns → AreNodes ms → AreNodes (ns ++ ms)
nodes_append [] ms h k = k
nodes_append (n ∷ ns) ms h k = (h.0, nodes_append ns ms h.1 k)

-- ---- nodes by their parts

abbrev Good : Derivation → Type 0
Good d = AreNodes (nodes_of d)

leaf_good : (node : Node) (d : Derivation) → d ≡ leaf node → Good d
leaf_good node d e = subst Good (sym e) (tt, tt)

one_good : (node : Node) (d : Derivation) → IsOne node d → Good (sub d 0) → Good d
one_good node d e a = subst Good (sym e) (tt, nodes_append (nodes_of (sub d 0)) [] a tt)

two_good : (node : Node) (d : Derivation) → IsTwo node d → AreMarked (marks_of d ∷ []) → Good (sub d 0) → Good (sub d 1) → Good d
two_good node d e m a b = subst Good (sym e) (m, nodes_append (nodes_of (sub d 0)) (nodes_of (sub d 1) ++ []) a (nodes_append (nodes_of (sub d 1)) [] b tt))

three_good : (node : Node) (d : Derivation) → IsThree node d → AreMarked (marks_of d ∷ []) → Good (sub d 0) → Good (sub d 1) → Good (sub d 2) → Good d
three_good node d e m a b c =
    subst Good (sym e) (
      m,
      nodes_append (nodes_of (sub d 0)) (nodes_of (sub d 1) ++ (nodes_of (sub d 2) ++ [])) a
          (nodes_append (nodes_of (sub d 1)) (nodes_of (sub d 2) ++ []) b (nodes_append (nodes_of (sub d 2)) [] c tt)),
    )

any_good : (node : Node) (d : Derivation) → IsAny node d → AreMarked (strings_of d) × AreNodes (nodes_in (the_parts d)) → Good d
any_good node d e h = subst Good (sym e) h

last_good : (strings : List (List Mark)) (ds : Derivations) → strings ≡ [] → ds ≡ part (nth 0 ds) done → Good (nth 0 ds) → AreMarked strings × AreNodes (nodes_in ds)
last_good strings ds e k h =
    (subst AreMarked (sym e) tt, (let P : Derivations → Type 0 = λ z. AreNodes (nodes_in z) in subst P (sym k) (nodes_append (nodes_of (nth 0 ds)) [] h tt)))

earlier_good : (strings : List (List Mark)) (ds : Derivations) → strings ≡ first_marks strings ∷ later_marks strings → ds ≡ part (nth 0 ds) (later_parts ds) → AreMarked (first_marks strings ∷ [])
    → Good (nth 0 ds) → AreMarked (later_marks strings) × AreNodes (nodes_in (later_parts ds)) → AreMarked strings × AreNodes (nodes_in ds)
earlier_good strings ds e k m h later = (
  subst AreMarked (sym e) (marks_more (first_marks strings) (later_marks strings) m later.0),
  (let P : Derivations → Type 0 = λ z. AreNodes (nodes_in z) in subst P (sym k) (nodes_append (nodes_of (nth 0 ds)) (nodes_in (later_parts ds)) h later.1)),
)

-- ---- all derivations

module _ (functions : List Function) (vars : List Kinds) where
  module _ (observers : List Observer) (m : List Mark) (g : Context) (s : Splits vars observers m g) (h : Stands g) where
    marks : AreMarked (m ∷ [])
    marks = marks_stand m g s.long h

    before : Stands (first m g)
    before = first_stands m g s.long h

    behind : Stands (second m g)
    behind = second_stands m g s.long h

  mutual
    pub good : (c : Tree Note) (g : Context) (d : Derivation) (direction : Option Tau) → Stands g → Derives functions vars g d direction c → Good d
    good (term a shape) g d direction h k = good_shape shape g d direction a.ty h k

    good_shape : (shape : Shape Note) (g : Context) (d : Derivation) (direction : Option Tau) (t : Tau) → Stands g → DerivesShape functions vars g d direction t shape → Good d
    good_shape (var i) g d direction t h k = leaf_good nodes.Var d k.tree
    good_shape unit g d direction t h k = leaf_good nodes.Unit d k.tree
    good_shape (bool b) g d direction t h k = leaf_good nodes.Bool d k.tree
    good_shape (lit v) g d direction t h k = leaf_good nodes.Lit d k.tree
    good_shape (fun f args) g d direction t h k = leaf_good nodes.Fun d k.tree
    good_shape (op o none) g d direction t h k = absurd k
    good_shape (op o (more x none)) g d direction t h k = one_good nodes.Op d k.tree (good x _ _ _ h k.operand)
    good_shape (op o (more l (more r none))) g d direction t h k =
        two_good nodes.Op d k.tree (marks _ _ _ k.splits h) (good l _ _ _ (before _ _ _ k.splits h) k.left) (good r _ _ _ (behind _ _ _ k.splits h) k.right)
    good_shape (op o (more l (more r (more x ts)))) g d direction t h k = absurd k
    good_shape (app f x) g d direction t h k =
        two_good nodes.App d k.tree (marks _ _ _ k.splits h) (good f _ _ _ (before _ _ _ k.splits h) k.function) (good x _ _ _ (behind _ _ _ k.splits h) k.argument)
    good_shape (lets v e b) g d direction t h k =
        two_good nodes.Let d k.tree (marks _ _ _ k.splits h) (good e _ _ _ (before _ _ _ k.splits h) k.value) (good b _ _ _ (push_stands _ _) k.body)
    good_shape (let_bang os v e b) g d direction t h k =
        two_good nodes.LetBang d k.tree (marks _ _ _ k.splits h) (good e _ _ _ (before _ _ _ k.splits h) k.value) (good b _ _ _ (push_stands _ _) k.body)
    good_shape (if_else c x y) g d direction t h k =
        three_good nodes.If d k.tree (marks _ _ _ k.splits h) (good c _ _ _ (before _ _ _ k.splits h) k.condition)
        (good x _ _ _ (behind _ _ _ k.splits h) k.first) (good y _ _ _ (behind _ _ _ k.splits h) k.second)
    good_shape (con n e) g d direction t h k = one_good nodes.Con d k.tree (good e _ _ _ h k.payload)
    good_shape (case_of e at v x y) g d direction t h k =
        three_good nodes.Case d k.tree (marks _ _ _ k.splits h) (good e _ _ _ (before _ _ _ k.splits h) k.subject)
        (good x _ _ _ (push_stands _ _) k.first) (good y _ _ _ (push_stands _ _) k.second)
    good_shape (esac at e) g d direction t h k = one_good nodes.Esac d k.tree (good e _ _ _ h k.subject)
    good_shape (struct fs) g d direction t h k = any_good nodes.Struct d k.tree (good_fields fs g (strings_of d) (the_parts d) direction h k.fields)
    good_shape (member e at) g d direction t h k = one_good nodes.Member d k.tree (good e _ _ _ h k.whole)
    good_shape (take_field e at v w b) g d direction t h k =
        two_good nodes.Take d k.tree (marks _ _ _ k.splits h) (good e _ _ _ (before _ _ _ k.splits h) k.whole) (good b _ _ _ (push_stands _ _) k.body)
    good_shape (put e at x) g d direction t h k =
        two_good nodes.Put d k.tree (marks _ _ _ k.splits h) (good e _ _ _ (before _ _ _ k.splits h) k.whole) (good x _ _ _ (behind _ _ _ k.splits h) k.value)
    good_shape (cast e) g d direction t h k = one_good nodes.Cast d k.tree (good e _ _ _ h k.operand)
    good_shape (annot e a) g d direction t h k = one_good nodes.Annot d k.tree (good e _ _ _ h k.value)

    good_fields : (fs : Named Note) (g : Context) (strings : List (List Mark)) (ds : Derivations) (direction : Option Tau) → Stands g
        → DerivesFields functions vars g strings ds direction fs → AreMarked strings × AreNodes (nodes_in ds)
    good_fields end g strings ds direction h k = absurd k
    good_fields (field n e end) g strings ds direction h k = last_good strings ds k.ended k.parts (good e _ _ _ h k.value)
    good_fields (field n e (field later x fs)) g strings ds direction h k =
        earlier_good strings ds k.marked k.parts (marks _ _ _ k.splits h) (good e _ _ _ (before _ _ _ k.splits h) k.value)
        (good_fields (field later x fs) _ _ _ _ (behind _ _ _ k.splits h) k.later)

-- ---- what is kept

kept_one : (functions : List Function) (vars : List Kinds) (argument result : Tau) (body : Option Body) (core : Option (Tree Note)) (tree : Option Derivation)
    → IsKeptMaybe functions vars argument result body core tree → IsMarked tree
kept_one functions vars argument result None None None k = tt
kept_one functions vars argument result (Some body) (Some core) (Some tree) k = good functions vars core (Some argument ∷ []) tree (Some result) tt k.derives
kept_one functions vars argument result _ _ _ k = absurd k

pub kept : KeptIsMarked
kept functions [] [] [] k = tt
kept functions (f ∷ fs) (c ∷ cores) (d ∷ trees) k = (kept_one functions _ k.0.argument k.0.result f.body c d k.0.kept, kept functions fs cores trees k.1)
kept functions _ _ _ k = absurd k
