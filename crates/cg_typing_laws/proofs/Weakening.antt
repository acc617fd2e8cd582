-- What is derived in a context is derived in a wider one: new entries go to the second side of each split, down to a leaf.
use Rattle.std.proofs.Common.{◌≡◌, ℕ, zero, suc, ◌<◌, Bool, IsTrue, Option, Some, None, List, [], ◌∷◌, length, refl, sym, ap, ◌∙◌, subst, arith}
use Rattle.std.specs.List.{All}
use Rattle.cg_base.specs.declared.kind.Kinds.{Kinds}
use Rattle.cg_base.specs.Types.{Tau}
use Rattle.cg_core.specs.declared.derivation.Mark.{Mark}
use Rattle.cg_core.specs.declared.derivation.Mark.TheVariants.{Gone, Left, Right, Both, Seen}
use Rattle.cg_core.specs.declared.derivation.Node.TheVariants as nodes
use Rattle.cg_core.specs.declared.term.Seen.{Seen as Observer}
use Rattle.cg_core.specs.Derivations as trees
use Rattle.cg_core.specs.Derivations.{Derivation, Derivations, derivation}
use Rattle.cg_core.specs.Kernels.{Function}
use Rattle.cg_core.specs.Terms.{Tree, term, Shape, var, unit, bool, lit, fun, op, app, lets, let_bang, if_else, con, case_of, esac, struct, member, take_field, put, cast, annot, none, more, Named, end, field, Note}
use Rattle.cg_typing.specs.Contexts.{Context, look, mark_at, push, first_side, second_side, first, second, among, drops, Fits, Splits, Drops, DropsBut}
use Rattle.cg_typing.specs.Rules.{Derives, DerivesShape, DerivesFields}
use Rattle.cg_typing.specs.Trees.{leaf, one, two, three, first_marks, marks_of}
use Rattle.cg_typing_laws.specs.Laws.{DerivationsAreWeakened}
use Rattle.cg_typing.specs.Wider.{IsWiderEntry, IsWider, IsDerived}

-- the mark of an entry that is new
abbrev wider_mark : Mark → Option Tau → Option Tau → Mark
wider_mark m (Some t) wide = m
wider_mark m None None = m
wider_mark m None (Some t) = Right

abbrev wider_marks : List Mark → Context → Context → List Mark
wider_marks (m ∷ ms) (entry ∷ g) (wide ∷ h) = wider_mark m entry wide ∷ wider_marks ms g h
wider_marks ms g h = ms

module _ (vars : List Kinds) where
  -- one entry
  fits_wider : (observed : Bool) (m : Mark) (o p : Option Tau) → IsWiderEntry vars o p → Fits vars observed m o → Fits vars observed (wider_mark m o p) p
  fits_wider observed m (Some t) p w f = subst (Fits vars observed m) (sym w) f
  fits_wider observed m None None w f = f
  fits_wider observed Gone None (Some t) w f = f
  fits_wider observed Left None (Some t) w f = absurd f
  fits_wider observed Right None (Some t) w f = absurd f
  fits_wider observed Both None (Some t) w f = absurd f
  fits_wider observed Seen None (Some t) w f = absurd f

  first_none : (m : Mark) → first_side m None ≡ None
  first_none Gone = refl
  first_none Left = refl
  first_none Right = refl
  first_none Both = refl
  first_none Seen = refl

  second_none : (m : Mark) → second_side m None ≡ None
  second_none Gone = refl
  second_none Left = refl
  second_none Right = refl
  second_none Both = refl
  second_none Seen = refl

  pub same_wider : (o : Option Tau) → IsWiderEntry vars o o
  same_wider None = tt
  same_wider (Some t) = refl

  first_wider : (m : Mark) (o p : Option Tau) → IsWiderEntry vars o p → IsWiderEntry vars (first_side m o) (first_side (wider_mark m o p) p)
  first_wider m (Some t) p w = subst (λ p. IsWiderEntry vars (first_side m (Some t)) (first_side m p)) (sym w) (same_wider (first_side m (Some t)))
  first_wider m None None w = same_wider (first_side m None)
  first_wider m None (Some t) w = subst (λ o. IsWiderEntry vars o None) (sym (first_none m)) tt

  second_wider : (m : Mark) (o p : Option Tau) → IsWiderEntry vars o p → IsWiderEntry vars (second_side m o) (second_side (wider_mark m o p) p)
  second_wider m (Some t) p w = subst (λ p. IsWiderEntry vars (second_side m (Some t)) (second_side m p)) (sym w) (same_wider (second_side m (Some t)))
  second_wider m None None w = same_wider (second_side m None)
  second_wider m None (Some t) w = subst (λ o. IsWiderEntry vars o (Some t)) (sym (second_none m)) w

  -- contexts
  length_wider : (g h : Context) → IsWider vars g h → length h ≡ length g
  length_wider [] [] w = refl
  length_wider (o ∷ g) (p ∷ h) w = ap suc (length_wider g h w.1)
  length_wider [] (p ∷ h) w = absurd w
  length_wider (o ∷ g) [] w = absurd w

  look_wider : (g h : Context) → IsWider vars g h → (i : ℕ) → IsWiderEntry vars (look g i) (look h i)
  look_wider [] [] w i = tt
  look_wider (o ∷ g) (p ∷ h) w zero = w.0
  look_wider (o ∷ g) (p ∷ h) w (suc i) = look_wider g h w.1 i
  look_wider [] (p ∷ h) w i = absurd w
  look_wider (o ∷ g) [] w i = absurd w

  length_marks : (m : List Mark) (g h : Context) → IsWider vars g h → length (wider_marks m g h) ≡ length m
  length_marks [] g h w = refl
  length_marks (m ∷ ms) [] h w = refl
  length_marks (m ∷ ms) (o ∷ g) [] w = refl
  length_marks (m ∷ ms) (o ∷ g) (p ∷ h) w = ap suc (length_marks ms g h w.1)

  mark_wider : (m : List Mark) (g h : Context) (i : ℕ) → IsWider vars g h → i < length m → mark_at (wider_marks m g h) i ≡ wider_mark (mark_at m i) (look g i) (look h i)
  mark_wider [] g h i w lt = absurd (omega arith)
  mark_wider (m ∷ ms) [] [] i w lt = refl
  mark_wider (m ∷ ms) [] (p ∷ h) i w lt = absurd w
  mark_wider (m ∷ ms) (o ∷ g) [] i w lt = absurd w
  mark_wider (m ∷ ms) (o ∷ g) (p ∷ h) zero w lt = refl
  mark_wider (m ∷ ms) (o ∷ g) (p ∷ h) (suc i) w lt = mark_wider ms g h i w.1 (omega arith)

  splits_wider : (os : List Observer) (m : List Mark) (g h : Context) → IsWider vars g h → Splits vars os m g → Splits vars os (wider_marks m g h) h
  splits_wider os m g h w s =
      let l = length_wider g h w in let k = s.long in record {
        long = length_marks m g h w ∙ s.long ∙ sym (length_wider g h w);
        fits = λ i lt. subst (λ m. Fits vars (among i os) m (look h i)) (sym (mark_wider m g h i w (omega arith)))
            (fits_wider (among i os) (mark_at m i) (look g i) (look h i) (look_wider g h w i) (s.fits i (omega arith)));
        observed = subst (λ n. All (λ o. o.var < n) os) (sym l) s.observed;
      }

  firsts_wider : (m : List Mark) (g h : Context) → IsWider vars g h → IsWider vars (first m g) (first (wider_marks m g h) h)
  firsts_wider m [] [] w = tt
  firsts_wider [] (o ∷ g) (p ∷ h) w = tt
  firsts_wider (m ∷ ms) (o ∷ g) (p ∷ h) w = (first_wider m o p w.0, firsts_wider ms g h w.1)
  firsts_wider m [] (p ∷ h) w = absurd w
  firsts_wider m (o ∷ g) [] w = absurd w

  seconds_wider : (m : List Mark) (g h : Context) → IsWider vars g h → IsWider vars (second m g) (second (wider_marks m g h) h)
  seconds_wider m [] [] w = tt
  seconds_wider [] (o ∷ g) (p ∷ h) w = tt
  seconds_wider (m ∷ ms) (o ∷ g) (p ∷ h) w = (second_wider m o p w.0, seconds_wider ms g h w.1)
  seconds_wider m [] (p ∷ h) w = absurd w
  seconds_wider m (o ∷ g) [] w = absurd w

  push_wider : (g h : Context) (o : Option Tau) → IsWider vars g h → IsWider vars (push g o) (push h o)
  push_wider [] [] o w = (same_wider o, tt)
  push_wider (x ∷ g) (y ∷ h) o w = (w.0, push_wider g h o w.1)
  push_wider [] (y ∷ h) o w = absurd w
  push_wider (x ∷ g) [] o w = absurd w

  -- leaves
  entry_drops : (o p : Option Tau) (t : Tau) → IsWiderEntry vars o p → ((u : Tau) → o ≡ Some u → IsTrue (drops vars u)) → p ≡ Some t → IsTrue (drops vars t)
  entry_drops (Some u) p t w d e = d t (sym w ∙ e)
  entry_drops None None t w d e = absurd (cc)
  entry_drops None (Some u) t w d e = let q : u ≡ t = cc in subst (λ t. IsTrue (drops vars t)) q w

  drops_wider : (g h : Context) → IsWider vars g h → Drops vars g → Drops vars h
  drops_wider g h w d i t e = entry_drops (look g i) (look h i) t (look_wider g h w i) (d i) e

  drops_but_wider : (j : ℕ) (g h : Context) → IsWider vars g h → DropsBut vars j g → DropsBut vars j h
  drops_but_wider j g h w d i t n e = entry_drops (look g i) (look h i) t (look_wider g h w i) (λ u. d i u n) e

  present_wider : (g h : Context) (i : ℕ) (t : Tau) → IsWider vars g h → look g i ≡ Some t → look h i ≡ Some t
  present_wider g h i t w e = subst (λ o. IsWiderEntry vars o (look h i)) e (look_wider g h w i)

-- the fields of a record, with their mark strings and derivations
pub record AreDerived (functions : List Function) (vars : List Kinds) (g : Context) (direction : Option Tau) (fs : Named Note) : Type 0 where
  pub strings : List (List Mark)
  pub parts : Derivations
  pub derives : DerivesFields functions vars g strings parts direction fs

module _ (functions : List Function) (vars : List Kinds) where
  abbrev D : Context → Option Tau → Tree Note → Type 0
  D = IsDerived functions vars

  abbrev DShape : Context → Option Tau → Tau → Shape Note → Type 0
  DShape g direction t shape = (d : Derivation) × DerivesShape functions vars g d direction t shape

  mutual
    pub weakened : (c : Tree Note) (g h : Context) (d : Derivation) (direction : Option Tau) → IsWider vars g h → Derives functions vars g d direction c → D h direction c
    weakened (term a shape) g h d direction w k = let s = weakened_shape shape g h d direction a.ty w k in record { tree = s.0; derives = s.1 }

    weakened_shape : (shape : Shape Note) (g h : Context) (d : Derivation) (direction : Option Tau) (t : Tau) → IsWider vars g h → DerivesShape functions vars g d direction t shape → DShape h direction t shape
    weakened_shape (var i) g h d direction t w k =
        (leaf nodes.Var, record { tree = refl; present = present_wider vars g h i t w k.present; others = drops_but_wider vars i g h w k.others; meets = k.meets })
    weakened_shape unit g h d direction t w k = (leaf nodes.Unit, record { tree = refl; is = k.is; others = drops_wider vars g h w k.others; meets = k.meets })
    weakened_shape (bool b) g h d direction t w k = (leaf nodes.Bool, record { tree = refl; is = k.is; others = drops_wider vars g h w k.others; meets = k.meets })
    weakened_shape (lit v) g h d direction t w k =
        (leaf nodes.Lit, record { tree = refl; checked = k.checked; is_a_word = k.is_a_word; in_range = k.in_range; others = drops_wider vars g h w k.others })
    weakened_shape (fun f args) g h d direction t w k =
        (leaf nodes.Fun, record { tree = refl; many = k.many; arguments = k.arguments; is = k.is; others = drops_wider vars g h w k.others; meets = k.meets })
    weakened_shape (op o none) g h d direction t w k = absurd k
    weakened_shape (op o (more x none)) g h d direction t w k =
        let p = weakened x g h _ _ w k.operand in
        (one nodes.Op p.tree, record { tree = refl; counted = k.counted; operand = p.derives; takes = k.takes; is = k.is; meets = k.meets })
    weakened_shape (op o (more l (more r none))) g h d direction t w k =
        let p = weakened l _ _ _ _ (firsts_wider vars (marks_of d) g h w) k.left in
        let q = weakened r _ _ _ _ (seconds_wider vars (marks_of d) g h w) k.right in (
          two nodes.Op (wider_marks (marks_of d) g h) p.tree q.tree,
          record {
            tree = refl;
            counted = k.counted;
            splits = splits_wider vars [] (marks_of d) g h w k.splits;
            left = p.derives;
            right = q.derives;
            alike = k.alike;
            takes = k.takes;
            is = k.is;
            meets = k.meets;
          },
        )
    weakened_shape (op o (more l (more r (more x ts)))) g h d direction t w k = absurd k
    weakened_shape (app f x) g h d direction t w k =
        let p = weakened f _ _ _ _ (firsts_wider vars (marks_of d) g h w) k.function in
        let q = weakened x _ _ _ _ (seconds_wider vars (marks_of d) g h w) k.argument in (
          two nodes.App (wider_marks (marks_of d) g h) p.tree q.tree,
          record { tree = refl; splits = splits_wider vars [] (marks_of d) g h w k.splits; function = p.derives; argument = q.derives; is_arrow = k.is_arrow; meets = k.meets },
        )
    weakened_shape (lets v e b) g h d direction t w k =
        let p = weakened e _ _ _ _ (firsts_wider vars (marks_of d) g h w) k.value in
        let q = weakened b _ _ _ _ (push_wider vars _ _ _ (seconds_wider vars (marks_of d) g h w)) k.body in (
          two nodes.Let (wider_marks (marks_of d) g h) p.tree q.tree,
          record { tree = refl; splits = splits_wider vars [] (marks_of d) g h w k.splits; value = p.derives; body = q.derives; is = k.is },
        )
    weakened_shape (let_bang os v e b) g h d direction t w k =
        let p = weakened e _ _ _ _ (firsts_wider vars (marks_of d) g h w) k.value in
        let q = weakened b _ _ _ _ (push_wider vars _ _ _ (seconds_wider vars (marks_of d) g h w)) k.body in (
          two nodes.LetBang (wider_marks (marks_of d) g h) p.tree q.tree,
          record { tree = refl; splits = splits_wider vars os (marks_of d) g h w k.splits; value = p.derives; escapes = k.escapes; body = q.derives; is = k.is },
        )
    weakened_shape (if_else c x y) g h d direction t w k =
        let p = weakened c _ _ _ _ (firsts_wider vars (marks_of d) g h w) k.condition in
        let q = weakened x _ _ _ _ (seconds_wider vars (marks_of d) g h w) k.first in
        let r = weakened y _ _ _ _ (seconds_wider vars (marks_of d) g h w) k.second in (
          three nodes.If (wider_marks (marks_of d) g h) p.tree q.tree r.tree,
          record {
            tree = refl;
            splits = splits_wider vars [] (marks_of d) g h w k.splits;
            condition = p.derives;
            first = q.derives;
            second = r.derives;
            is = k.is;
            alike = k.alike;
          },
        )
    weakened_shape (con n e) g h d direction t w k =
        let p = weakened e g h _ _ w k.payload in
        (one nodes.Con p.tree, record { tree = refl; checked = k.checked; left = k.left; payload = p.derives })
    weakened_shape (case_of e a v x y) g h d direction t w k =
        let p = weakened e _ _ _ _ (firsts_wider vars (marks_of d) g h w) k.subject in
        let q = weakened x _ _ _ _ (push_wider vars _ _ _ (seconds_wider vars (marks_of d) g h w)) k.first in
        let r = weakened y _ _ _ _ (push_wider vars _ _ _ (seconds_wider vars (marks_of d) g h w)) k.second in (
          three nodes.Case (wider_marks (marks_of d) g h) p.tree q.tree r.tree,
          record {
            tree = refl;
            splits = splits_wider vars [] (marks_of d) g h w k.splits;
            subject = p.derives;
            left = k.left;
            first = q.derives;
            second = r.derives;
            is = k.is;
            alike = k.alike;
          },
        )
    weakened_shape (esac a e) g h d direction t w k =
        let p = weakened e g h _ _ w k.subject in
        (one nodes.Esac p.tree, record { tree = refl; subject = p.derives; left = k.left; last = k.last; is = k.is; meets = k.meets })
    weakened_shape (struct fs) g h d direction t w k =
        let p = weakened_fields fs g h _ _ direction w k.fields in
        (derivation nodes.Struct p.strings p.parts, record { tree = refl; fields = p.derives; is = k.is; meets = k.meets })
    weakened_shape (member e a) g h d direction t w k =
        let p = weakened e g h _ _ w k.whole in
        (one nodes.Member p.tree, record { tree = refl; whole = p.derives; left = k.left; shared = k.shared; is = k.is; meets = k.meets })
    weakened_shape (take_field e a v x b) g h d direction t w k =
        let p = weakened e _ _ _ _ (firsts_wider vars (marks_of d) g h w) k.whole in
        let q = weakened b _ _ _ _ (push_wider vars _ _ _ (push_wider vars _ _ _ (seconds_wider vars (marks_of d) g h w))) k.body in (
          two nodes.Take (wider_marks (marks_of d) g h) p.tree q.tree,
          record {
            tree = refl;
            splits = splits_wider vars [] (marks_of d) g h w k.splits;
            whole = p.derives;
            left = k.left;
            written = k.written;
            body = q.derives;
            is = k.is;
          },
        )
    weakened_shape (put e a x) g h d direction t w k =
        let p = weakened e _ _ _ _ (firsts_wider vars (marks_of d) g h w) k.whole in
        let q = weakened x _ _ _ _ (seconds_wider vars (marks_of d) g h w) k.value in (
          two nodes.Put (wider_marks (marks_of d) g h) p.tree q.tree,
          record {
            tree = refl;
            splits = splits_wider vars [] (marks_of d) g h w k.splits;
            whole = p.derives;
            there = k.there;
            written = k.written;
            over = k.over;
            value = q.derives;
            is = k.is;
            meets = k.meets;
          },
        )
    weakened_shape (cast e) g h d direction t w k =
        let p = weakened e g h _ _ w k.operand in
        (one nodes.Cast p.tree, record { tree = refl; checked = k.checked; operand = p.derives; widens = k.widens })
    weakened_shape (annot e a) g h d direction t w k =
        let p = weakened e g h _ _ w k.value in
        (one nodes.Annot p.tree, record { tree = refl; arrays = k.arrays; value = p.derives; is = k.is; meets = k.meets })

    weakened_fields : (fs : Named Note) (g h : Context) (strings : List (List Mark)) (ds : Derivations) (direction : Option Tau) → IsWider vars g h
        → DerivesFields functions vars g strings ds direction fs → AreDerived functions vars h direction fs
    weakened_fields end g h strings ds direction w k = absurd k
    weakened_fields (field n e end) g h strings ds direction w k =
        let p = weakened e g h _ _ w k.value in
        record { strings = []; parts = trees.part p.tree trees.done; derives = record { ended = refl; parts = refl; value = p.derives } }
    weakened_fields (field n e (field m x fs)) g h strings ds direction w k =
        let p = weakened e _ _ _ _ (firsts_wider vars (first_marks strings) g h w) k.value in
        let q = weakened_fields (field m x fs) _ _ _ _ direction (seconds_wider vars (first_marks strings) g h w) k.later in
        record {
          strings = wider_marks (first_marks strings) g h ∷ q.strings;
          parts = trees.part p.tree q.parts;
          derives = record { marked = refl; parts = refl; splits = splits_wider vars [] (first_marks strings) g h w k.splits; value = p.derives; later = q.derives };
        }

-- what is derived in a context is derived in one with more entries that may be dropped
pub weakening : DerivationsAreWeakened
weakening functions vars g wide w d direction c k = weakened functions vars c g wide d direction w k
