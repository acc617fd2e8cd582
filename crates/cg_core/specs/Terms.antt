-- Terms as plain trees, with no memory in them, what a term of the program stands for, and erasure.
use Rattle.std.specs.Prelude.{ℕ, Bool, List, [], ◌∷◌, Option, map}
use Rattle.cg_base.specs.declared.fun.Fun.{Fun}
use Rattle.cg_base.specs.declared.place.Place.{Place}
use Rattle.cg_base.specs.Types.{Tau, type_of}
use Rattle.cg_core.specs.declared.at.At.{At}
use Rattle.cg_core.specs.declared.at.TyArg.{TyArg}
use Rattle.cg_core.specs.declared.op.Op.{Op}
use Rattle.cg_core.specs.declared.term.Seen.{Seen}
use Rattle.cg_core.specs.declared.term.Typed.{Typed}
use Rattle.cg_core.specs.declared.term.Term.{Term, fold-Term}
use Rattle.cg_core.specs.declared.term.FieldTerm.{FieldTerm, fold-FieldTerm}
use Rattle.cg_core.specs.declared.term.Form.{Form, fold-Form}
use Rattle.cg_core.specs.declared.term.Form.TheOpen as open'
use Rattle.cg_core.specs.declared.term.Form.TheOpen.{Form-F, FieldTerm-F, Term-F}

-- a written type, and where it is written
pub record Arg : Type 0 where
  pub place : Place
  pub ty : Tau

-- what a core notes at a node: where it is written, and its type
pub record Note : Type 0 where
  pub place : Place
  pub ty : Tau

mutual
  -- a term: a note, and what it is made of
  pub data Tree (A : Type 0) : Type 0 where
    term : A → Shape A → Tree A

  -- the forms of terms
  pub data Shape (A : Type 0) : Type 0 where
    var : ℕ → Shape A
    unit : Shape A
    bool : Bool → Shape A
    lit : Option ℕ → Shape A
    fun : Fun → List Arg → Shape A
    op : Op → Trees A → Shape A
    app : Tree A → Tree A → Shape A
    lets : Place → Tree A → Tree A → Shape A
    let_bang : List Seen → Place → Tree A → Tree A → Shape A
    if_else : Tree A → Tree A → Tree A → Shape A
    con : List ℕ → Tree A → Shape A
    case_of : Tree A → At → Place → Tree A → Tree A → Shape A
    esac : At → Tree A → Shape A
    struct : Named A → Shape A
    member : Tree A → At → Shape A
    take_field : Tree A → At → Place → Place → Tree A → Shape A
    put : Tree A → At → Tree A → Shape A
    cast : Tree A → Shape A
    annot : Tree A → Arg → Shape A

  -- a list of terms
  pub data Trees (A : Type 0) : Type 0 where
    none : Trees A
    more : Tree A → Trees A → Trees A

  -- a list of names, each with its term
  pub data Named (A : Type 0) : Type 0 where
    end : Named A
    field : List ℕ → Tree A → Named A → Named A

-- a name with its term
pub record OneField (A : Type 0) : Type 0 where
  pub name : List ℕ
  pub term : Tree A

-- the tree's own lists, made of lists, and back
unfoldable pub to_trees : {A : Type 0} → List (Tree A) → Trees A
to_trees [] = none
to_trees (t ∷ ts) = more t (to_trees ts)

unfoldable pub to_named : {A : Type 0} → List (OneField A) → Named A
to_named [] = end
to_named (f ∷ fs) = field f.name f.term (to_named fs)

unfoldable pub tree_list : {A : Type 0} → Trees A → List (Tree A)
tree_list none = []
tree_list (more t ts) = t ∷ tree_list ts

unfoldable pub field_list : {A : Type 0} → Named A → List (OneField A)
field_list end = []
field_list (field name t fs) = record { name = name; term = t } ∷ field_list fs

-- what a written type of the program stands for
abbrev pub arg_of : TyArg → Arg
arg_of a = record { place = a.place; ty = type_of a.ty }

-- what the note of a core stands for
abbrev pub note_of : Typed → Note
note_of n = record { place = n.place; ty = type_of n.ty }

module _ (A B : Type 0) (note : A → B) where
  -- one layer, with what its children stand for
  abbrev pub shape_layer : Form-F A (Shape B) (OneField B) (Tree B) → Shape B
  shape_layer (open'.Var n) = var n
  shape_layer open'.Unit = unit
  shape_layer (open'.Bool b) = bool b
  shape_layer (open'.Lit n) = lit n
  shape_layer (open'.Fun f args) = fun f (map arg_of args)
  shape_layer (open'.Op o args) = op o (to_trees args)
  shape_layer (open'.App f x) = app f.value x.value
  shape_layer (open'.Let p x y) = lets p x.value y.value
  shape_layer (open'.LetBang s p x y) = let_bang s p x.value y.value
  shape_layer (open'.If c x y) = if_else c.value x.value y.value
  shape_layer (open'.Con n x) = con n x.value
  shape_layer (open'.Case c a p x y) = case_of c.value a p x.value y.value
  shape_layer (open'.Esac a x) = esac a x.value
  shape_layer (open'.Struct fs) = struct (to_named fs)
  shape_layer (open'.Member x a) = member x.value a
  shape_layer (open'.Take x a p q y) = take_field x.value a p q y.value
  shape_layer (open'.Put x a y) = put x.value a y.value
  shape_layer (open'.Cast x) = cast x.value
  shape_layer (open'.Annot x a) = annot x.value (arg_of a)

  abbrev pub field_layer : FieldTerm-F A (Shape B) (OneField B) (Tree B) → OneField B
  field_layer f = record { name = f.name; term = f.term }

  abbrev pub term_layer : Term-F A (Shape B) (OneField B) (Tree B) → Tree B
  term_layer t = term (note t.note) t.form

  -- the tree that a term stands for, with what its notes stand for
  abbrev pub tree_of : Term A → Tree B
  tree_of = fold-Term A (Shape B) (OneField B) (Tree B) shape_layer field_layer term_layer

  -- the form of that tree
  abbrev pub shape_of : Form A → Shape B
  shape_of = fold-Form A (Shape B) (OneField B) (Tree B) shape_layer field_layer term_layer

  -- what a field stands for
  abbrev pub field_of : FieldTerm A → OneField B
  field_of = fold-FieldTerm A (Shape B) (OneField B) (Tree B) shape_layer field_layer term_layer

-- a core with its types off: the same term, where each node notes its place alone
unfoldable mutual
  pub erased : Tree Note → Tree Place
  erased (term note shape) = term note.place (erased_shape shape)

  pub erased_shape : Shape Note → Shape Place
  erased_shape (var n) = var n
  erased_shape unit = unit
  erased_shape (bool b) = bool b
  erased_shape (lit n) = lit n
  erased_shape (fun f args) = fun f args
  erased_shape (op o ts) = op o (erased_trees ts)
  erased_shape (app f x) = app (erased f) (erased x)
  erased_shape (lets p x y) = lets p (erased x) (erased y)
  erased_shape (let_bang s p x y) = let_bang s p (erased x) (erased y)
  erased_shape (if_else c x y) = if_else (erased c) (erased x) (erased y)
  erased_shape (con n x) = con n (erased x)
  erased_shape (case_of c a p x y) = case_of (erased c) a p (erased x) (erased y)
  erased_shape (esac a x) = esac a (erased x)
  erased_shape (struct fs) = struct (erased_named fs)
  erased_shape (member x a) = member (erased x) a
  erased_shape (take_field x a p q y) = take_field (erased x) a p q (erased y)
  erased_shape (put x a y) = put (erased x) a (erased y)
  erased_shape (cast x) = cast (erased x)
  erased_shape (annot x a) = annot (erased x) a

  pub erased_trees : Trees Note → Trees Place
  erased_trees none = none
  erased_trees (more t ts) = more (erased t) (erased_trees ts)

  pub erased_named : Named Note → Named Place
  erased_named end = end
  erased_named (field name t fs) = field name (erased t) (erased_named fs)

-- a field with the types off
abbrev pub erased_field : OneField Note → OneField Place
erased_field f = record { name = f.name; term = erased f.term }
