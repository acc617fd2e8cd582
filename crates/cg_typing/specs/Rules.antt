-- The typing rules: which derivations type which cores, with free splits (docs/LANGUAGE.md, "Typing"). Each of the nineteen
-- forms has one row, a record whose fields are the row's premises.
use Rattle.std.specs.Prelude.{◌≡◌, ℕ, ◌<◌, ◌^◌, Bool, true, false, not, IsTrue, Option, Some, None, List, [], ◌∷◌, length}
use Rattle.cg_base.specs.declared.fun.Fun.{Fun}
use Rattle.cg_base.specs.declared.kind.Kinds.{Kinds}
use Rattle.cg_base.specs.declared.kind.Sigil.TheVariants.{U}
use Rattle.cg_base.specs.Types as types
use Rattle.cg_base.specs.Types.{Tau, word, arrow, fields, Parts, part}
use Rattle.cg_base.specs.Words.{bits}
use Rattle.cg_core.specs.declared.derivation.Mark.{Mark}
use Rattle.cg_core.specs.declared.derivation.Node.TheVariants as nodes
use Rattle.cg_core.specs.declared.op.Op.{Op}
use Rattle.cg_core.specs.declared.term.Seen.{Seen}
use Rattle.cg_core.specs.Derivations as trees
use Rattle.cg_core.specs.Derivations.{Derivation, Derivations}
use Rattle.cg_core.specs.Kernels.{Function}
use Rattle.cg_core.specs.Terms.{Tree, term, Shape, var, unit, bool, lit, fun, op, app, lets, let_bang, if_else, con, case_of, esac, struct, member, take_field, put, cast, annot, none, more, Named, end, field, Note, Arg}
use Rattle.cg_core_def.specs.Lawful.{operands}
use Rattle.cg_kinds.specs.Kinds.{kinds, is_word}
use Rattle.cg_typing.specs.Contexts.{Context, look, push, first, second, Splits, Drops, DropsBut, shares}
use Rattle.cg_typing.specs.Functions.{fun_type, takes_as_many, asked_by, are_good_arguments}
use Rattle.cg_typing.specs.Operators.{sort_of, takes, gives, along, operand}
use Rattle.cg_typing.specs.Parts.{is_read_only, widens, field_in, alternative_in, held, is_left, is_there, may_be_put_over, with_part, is_last, has_word_arrays}
use Rattle.cg_typing.specs.Trees.{nth, later_parts, sub, the_parts, strings_of, first_marks, later_marks, marks_of, leaf, IsOne, IsTwo, IsThree, IsAny}

-- the direction: none to synthesise, or the type that is checked against. A form that synthesises meets it
abbrev pub Meets : Option Tau → Tau → Type 0
Meets None t = Unit {0}
Meets (Some wanted) t = wanted ≡ t

-- the direction of a second branch: where the first synthesises, it is checked against the first's type
abbrev pub second_branch : Option Tau → Tau → Option Tau
second_branch None t = Some t
second_branch (Some wanted) t = Some wanted

-- what a node notes
abbrev pub note_at : {A : Type 0} → Tree A → A
note_at (term a shape) = a

-- the type of a core
abbrev pub type_at : Tree Note → Tau
type_at core = (note_at core).ty

abbrev pub is_literal_shape : {A : Type 0} → Shape A → Bool
is_literal_shape (lit value) = true
is_literal_shape _ = false

abbrev pub is_literal : {A : Type 0} → Tree A → Bool
is_literal (term a shape) = is_literal_shape shape

-- a literal is in range of a type: of no type where it is above 2^64 - 1
abbrev pub InRange : Option ℕ → Tau → Type 0
InRange (Some value) (word w) = value < 2 ^ bits w
InRange _ _ = ⊥

-- the unboxed record that these fields make
abbrev pub parts_made : Named Note → Parts
parts_made end = types.end
parts_made (field name e fs) = part name (type_at e) false (parts_made fs)

abbrev pub record_made : Named Note → Tau
record_made fs = fields (parts_made fs) U

module _ (functions : List Function) (vars : List Kinds) where
  -- ---- leaves: every present entry that isn't used may be dropped

  -- a variable that is present, with its type
  pub record VarRow (g : Context) (d : Derivation) (direction : Option Tau) (i : ℕ) (t : Tau) : Type 0 where
    pub tree : d ≡ leaf nodes.Var
    pub present : look g i ≡ Some t
    pub others : DropsBut vars i g
    pub meets : Meets direction t

  -- `()`, `True` and `False`
  pub record UnitRow (g : Context) (d : Derivation) (direction : Option Tau) (t : Tau) : Type 0 where
    pub tree : d ≡ leaf nodes.Unit
    pub is : t ≡ types.unit
    pub others : Drops vars g
    pub meets : Meets direction t

  pub record BoolRow (g : Context) (d : Derivation) (direction : Option Tau) (t : Tau) : Type 0 where
    pub tree : d ≡ leaf nodes.Bool
    pub is : t ≡ types.bool
    pub others : Drops vars g
    pub meets : Meets direction t

  -- a number is checked against a word that it is in range of
  pub record LitRow (g : Context) (d : Derivation) (direction : Option Tau) (value : Option ℕ) (t : Tau) : Type 0 where
    pub tree : d ≡ leaf nodes.Lit
    pub checked : direction ≡ Some t
    pub is_a_word : IsTrue (is_word t)
    pub in_range : InRange value t
    pub others : Drops vars g

  -- a function with as many type arguments as it takes, each of which is what the function asks of it
  pub record FunRow (g : Context) (d : Derivation) (direction : Option Tau) (f : Fun) (args : List Arg) (t : Tau) : Type 0 where
    pub tree : d ≡ leaf nodes.Fun
    pub many : IsTrue (takes_as_many functions f (length args))
    pub arguments : IsTrue (are_good_arguments vars (asked_by functions f) args)
    pub is : fun_type functions f args ≡ Some t
    pub others : Drops vars g
    pub meets : Meets direction t

  -- ---- nodes with parts, over what says of each part that it is derived

  -- `not` and `complement`
  pub record UnaryRow (Operand : Type 0) (d : Derivation) (direction : Option Tau) (o : Op) (x : Tree Note) (t : Tau) : Type 0 where
    pub tree : IsOne nodes.Op d
    pub counted : operands o ≡ 1
    pub operand : Operand
    pub takes : IsTrue (takes (sort_of o) (type_at x))
    pub is : t ≡ gives (sort_of o) (type_at x)
    pub meets : Meets direction t

  -- all other operators: both operands have one type
  pub record BinaryRow (Left Right : Type 0) (g : Context) (d : Derivation) (direction : Option Tau) (o : Op) (l r : Tree Note) (t : Tau) : Type 0 where
    pub tree : IsTwo nodes.Op d
    pub counted : operands o ≡ 2
    pub splits : Splits vars [] (marks_of d) g
    pub left : Left
    pub right : Right
    pub alike : type_at l ≡ type_at r
    pub takes : IsTrue (takes (sort_of o) (type_at l))
    pub is : t ≡ gives (sort_of o) (type_at l)
    pub meets : Meets direction t

  -- a call: the function synthesises an arrow, and the argument is checked against what it takes
  pub record AppRow (Function' Argument : Type 0) (g : Context) (d : Derivation) (direction : Option Tau) (f x : Tree Note) (t : Tau) : Type 0 where
    pub tree : IsTwo nodes.App d
    pub splits : Splits vars [] (marks_of d) g
    pub function : Function'
    pub argument : Argument
    pub is_arrow : type_at f ≡ arrow (type_at x) t
    pub meets : Meets direction t

  -- a binding: the value synthesises, and the body has one entry more
  pub record LetRow (Value Body : Type 0) (g : Context) (d : Derivation) (k : Tree Note) (t : Tau) : Type 0 where
    pub tree : IsTwo nodes.Let d
    pub splits : Splits vars [] (marks_of d) g
    pub value : Value
    pub body : Body
    pub is : t ≡ type_at k

  -- a binding that observes: the observers are the entries that are marked as seen, and what is seen through them doesn't escape
  pub record LetBangRow (Value Body : Type 0) (g : Context) (d : Derivation) (observers : List Seen) (e k : Tree Note) (t : Tau) : Type 0 where
    pub tree : IsTwo nodes.LetBang d
    pub splits : Splits vars observers (marks_of d) g
    pub value : Value
    pub escapes : IsTrue (kinds vars (type_at e)).escape
    pub body : Body
    pub is : t ≡ type_at k

  -- a condition: both branches have what it leaves, and one type
  pub record IfRow (Condition First Second : Type 0) (g : Context) (d : Derivation) (x y : Tree Note) (t : Tau) : Type 0 where
    pub tree : IsThree nodes.If d
    pub splits : Splits vars [] (marks_of d) g
    pub condition : Condition
    pub first : First
    pub second : Second
    pub is : t ≡ type_at x
    pub alike : type_at y ≡ type_at x

  -- a constructor: an alternative of the variant that is checked against
  pub record ConRow (Payload : Type 0) (d : Derivation) (direction : Option Tau) (name : List ℕ) (t : Tau) : Type 0 where
    pub tree : IsOne nodes.Con d
    pub checked : direction ≡ Some t
    pub left : IsTrue (is_left (alternative_in name t))
    pub payload : Payload

  -- a match on an alternative that is left: its payload in the first branch, the others in the second
  pub record CaseRow (Subject First Second : Type 0) (g : Context) (d : Derivation) (e : Tree Note) (name : List ℕ) (x y : Tree Note) (t : Tau) : Type 0 where
    pub tree : IsThree nodes.Case d
    pub splits : Splits vars [] (marks_of d) g
    pub subject : Subject
    pub left : IsTrue (is_left (alternative_in name (type_at e)))
    pub first : First
    pub second : Second
    pub is : t ≡ type_at x
    pub alike : type_at y ≡ type_at x

  -- a match on the one alternative that is left
  pub record EsacRow (Subject : Type 0) (d : Derivation) (direction : Option Tau) (e : Tree Note) (name : List ℕ) (t : Tau) : Type 0 where
    pub tree : IsOne nodes.Esac d
    pub subject : Subject
    pub left : IsTrue (is_left (alternative_in name (type_at e)))
    pub last : IsTrue (is_last name (type_at e))
    pub is : t ≡ held (alternative_in name (type_at e))
    pub meets : Meets direction t

  -- a record that is made: unboxed, of its fields, none of them taken
  pub record StructRow (Fields : Type 0) (d : Derivation) (direction : Option Tau) (fs : Named Note) (t : Tau) : Type 0 where
    pub tree : IsAny nodes.Struct d
    pub fields : Fields
    pub is : t ≡ record_made fs
    pub meets : Meets direction t

  -- its last field has all that is left
  pub record LastField (Value : Type 0) (strings : List (List Mark)) (ds : Derivations) : Type 0 where
    pub ended : strings ≡ []
    pub parts : ds ≡ trees.part (nth 0 ds) trees.done
    pub value : Value

  -- each other field splits what is left with the later ones
  pub record EarlierField (Value Later : Type 0) (g : Context) (strings : List (List Mark)) (ds : Derivations) : Type 0 where
    pub marked : strings ≡ first_marks strings ∷ later_marks strings
    pub parts : ds ≡ trees.part (nth 0 ds) (later_parts ds)
    pub splits : Splits vars [] (first_marks strings) g
    pub value : Value
    pub later : Later

  -- a member: a field of a record that may be shared as a whole
  pub record MemberRow (Record : Type 0) (d : Derivation) (direction : Option Tau) (e : Tree Note) (name : List ℕ) (t : Tau) : Type 0 where
    pub tree : IsOne nodes.Member d
    pub whole : Record
    pub left : IsTrue (is_left (field_in name (type_at e)))
    pub shared : IsTrue (shares vars (type_at e))
    pub is : t ≡ held (field_in name (type_at e))
    pub meets : Meets direction t

  -- a take: a field of a record that isn't only read. The body has what remains, and then the field's value
  pub record TakeRow (Record Body : Type 0) (g : Context) (d : Derivation) (e : Tree Note) (name : List ℕ) (k : Tree Note) (t : Tau) : Type 0 where
    pub tree : IsTwo nodes.Take d
    pub splits : Splits vars [] (marks_of d) g
    pub whole : Record
    pub left : IsTrue (is_left (field_in name (type_at e)))
    pub written : is_read_only (type_at e) ≡ false
    pub body : Body
    pub is : t ≡ type_at k

  -- a put: a value over a field that is taken or may be dropped
  pub record PutRow (Record Value : Type 0) (g : Context) (d : Derivation) (direction : Option Tau) (e : Tree Note) (name : List ℕ) (t : Tau) : Type 0 where
    pub tree : IsTwo nodes.Put d
    pub splits : Splits vars [] (marks_of d) g
    pub whole : Record
    pub there : IsTrue (is_there (field_in name (type_at e)))
    pub written : is_read_only (type_at e) ≡ false
    pub over : IsTrue (may_be_put_over vars (field_in name (type_at e)))
    pub value : Value
    pub is : t ≡ with_part name false (type_at e)
    pub meets : Meets direction t

  -- a cast: a word that is checked against a word at least as wide
  pub record CastRow (Operand : Type 0) (d : Derivation) (direction : Option Tau) (e : Tree Note) (t : Tau) : Type 0 where
    pub tree : IsOne nodes.Cast d
    pub checked : direction ≡ Some t
    pub operand : Operand
    pub widens : IsTrue (widens (type_at e) t)

  -- an annotation: the type that is written, in which every array is one of words
  pub record AnnotRow (Value : Type 0) (d : Derivation) (direction : Option Tau) (a : Arg) (t : Tau) : Type 0 where
    pub tree : IsOne nodes.Annot d
    pub arrays : IsTrue (has_word_arrays a.ty)
    pub value : Value
    pub is : t ≡ a.ty
    pub meets : Meets direction t

  abbrev mutual
    -- the derivation types the core in the context, in the direction: one case for each row
    pub Derives : Context → Derivation → Option Tau → Tree Note → Type 0
    Derives g d direction (term note shape) = DerivesShape g d direction note.ty shape

    pub DerivesShape : Context → Derivation → Option Tau → Tau → Shape Note → Type 0
    DerivesShape g d direction t (var i) = VarRow g d direction i t
    DerivesShape g d direction t unit = UnitRow g d direction t
    DerivesShape g d direction t (bool b) = BoolRow g d direction t
    DerivesShape g d direction t (lit value) = LitRow g d direction value t
    DerivesShape g d direction t (fun f args) = FunRow g d direction f args t
    DerivesShape g d direction t (op o (more x none)) =
        UnaryRow (Derives g (sub d 0) (operand (sort_of o) direction true (type_at x)) x) d direction o x t
    DerivesShape g d direction t (op o (more l (more r none))) =
        BinaryRow (Derives (first (marks_of d) g) (sub d 0) (operand (sort_of o) direction (not (is_literal l)) (type_at l)) l)
        (Derives (second (marks_of d) g) (sub d 1) (operand (sort_of o) direction (is_literal l) (type_at r)) r) g d direction o l r t
    DerivesShape g d direction t (op o ts) = ⊥
    DerivesShape g d direction t (app f x) =
        AppRow (Derives (first (marks_of d) g) (sub d 0) None f) (Derives (second (marks_of d) g) (sub d 1) (Some (type_at x)) x) g d direction f x t
    DerivesShape g d direction t (lets binder e k) =
        LetRow (Derives (first (marks_of d) g) (sub d 0) None e) (Derives (push (second (marks_of d) g) (Some (type_at e))) (sub d 1) direction k) g d k t
    DerivesShape g d direction t (let_bang observers binder e k) =
        LetBangRow (Derives (first (marks_of d) g) (sub d 0) None e) (Derives (push (second (marks_of d) g) (Some (type_at e))) (sub d 1) direction k) g d observers e k t
    DerivesShape g d direction t (if_else c x y) =
        IfRow (Derives (first (marks_of d) g) (sub d 0) (Some types.bool) c) (Derives (second (marks_of d) g) (sub d 1) direction x)
        (Derives (second (marks_of d) g) (sub d 2) (second_branch direction (type_at x)) y) g d x y t
    DerivesShape g d direction t (con name e) = ConRow (Derives g (sub d 0) (Some (held (alternative_in name t))) e) d direction name t
    DerivesShape g d direction t (case_of e at binder x y) =
        CaseRow (Derives (first (marks_of d) g) (sub d 0) None e)
        (Derives (push (second (marks_of d) g) (Some (held (alternative_in at.name (type_at e))))) (sub d 1) direction x)
        (Derives (push (second (marks_of d) g) (Some (with_part at.name true (type_at e)))) (sub d 2) (second_branch direction (type_at x)) y) g d e at.name x y t
    DerivesShape g d direction t (esac at e) = EsacRow (Derives g (sub d 0) None e) d direction e at.name t
    DerivesShape g d direction t (struct fs) = StructRow (DerivesFields g (strings_of d) (the_parts d) direction fs) d direction fs t
    DerivesShape g d direction t (member e at) = MemberRow (Derives g (sub d 0) None e) d direction e at.name t
    DerivesShape g d direction t (take_field e at rest binder k) =
        TakeRow (Derives (first (marks_of d) g) (sub d 0) None e)
        (Derives (push (push (second (marks_of d) g) (Some (with_part at.name true (type_at e)))) (Some (held (field_in at.name (type_at e))))) (sub d 1) direction k)
        g d e at.name k t
    DerivesShape g d direction t (put e at x) =
        PutRow (Derives (first (marks_of d) g) (sub d 0) None e) (Derives (second (marks_of d) g) (sub d 1) (Some (held (field_in at.name (type_at e)))) x)
        g d direction e at.name t
    DerivesShape g d direction t (cast e) = CastRow (Derives g (sub d 0) None e) d direction e t
    DerivesShape g d direction t (annot e a) = AnnotRow (Derives g (sub d 0) (Some a.ty) e) d direction a t

    -- the fields of a record in order
    pub DerivesFields : Context → List (List Mark) → Derivations → Option Tau → Named Note → Type 0
    DerivesFields g strings ds direction end = ⊥
    DerivesFields g strings ds direction (field name e end) = LastField (Derives g (nth 0 ds) (along direction (type_at e)) e) strings ds
    DerivesFields g strings ds direction (field name e (field later x fs)) =
        EarlierField (Derives (first (first_marks strings) g) (nth 0 ds) (along direction (type_at e)) e)
        (DerivesFields (second (first_marks strings) g) (later_marks strings) (later_parts ds) direction (field later x fs)) g strings ds
