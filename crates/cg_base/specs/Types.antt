-- Types as plain trees, with no memory in them, and what a type of the program stands for.
use Rattle.std.specs.Prelude.{ℕ, Bool, List, [], ◌∷◌}
use Rattle.cg_base.specs.declared.kind.Word.{Word}
use Rattle.cg_base.specs.declared.kind.Sigil.{Sigil}
use Rattle.cg_base.specs.declared.ty.Part.{Part}
use Rattle.cg_base.specs.declared.ty.Ty.{Ty}
use Rattle.cg_base.specs.declared.ty.Ty.TheOpen as open'
use Rattle.cg_base.specs.declared.ty.Ty.TheOpen.{Ty-F, Part-F}
use Rattle.cg_base.specs.declared.ty.Ty.TheFolds.{fold-Ty, fold-Part}

mutual
  -- a type
  pub data Tau : Type 0 where
    var : ℕ → Tau
    seen : ℕ → Tau
    unit : Tau
    word : Word → Tau
    bool : Tau
    arrow : Tau → Tau → Tau
    abs : List ℕ → Taus → Sigil → Tau
    variant : Parts → Tau
    fields : Parts → Sigil → Tau

  -- a list of types
  pub data Taus : Type 0 where
    none : Taus
    more : Tau → Taus → Taus

  -- a list of names, each with its type and whether it is taken
  pub data Parts : Type 0 where
    end : Parts
    part : List ℕ → Tau → Bool → Parts → Parts

-- a part: a name with its type, and whether it is taken
pub record Piece : Type 0 where
  pub name : List ℕ
  pub ty : Tau
  pub taken : Bool

-- the tree's own lists, made of lists, and back
unfoldable pub to_taus : List Tau → Taus
to_taus [] = none
to_taus (t ∷ ts) = more t (to_taus ts)

unfoldable pub to_parts : List Piece → Parts
to_parts [] = end
to_parts (p ∷ ps) = part p.name p.ty p.taken (to_parts ps)

-- one layer, with what its children stand for
abbrev pub layer : Ty-F Tau Piece → Tau
layer (open'.Var n) = var n
layer (open'.Seen n) = seen n
layer open'.Unit = unit
layer (open'.Word w) = word w
layer open'.Bool = bool
layer (open'.Arrow a b) = arrow a.value b.value
layer (open'.Abs name args sigil) = abs name (to_taus args) sigil
layer (open'.Variant alts) = variant (to_parts alts)
layer (open'.Fields ps sigil) = fields (to_parts ps) sigil

abbrev pub piece : Part-F Tau Piece → Piece
piece p = record { name = p.name; ty = p.ty; taken = p.taken }

-- the type that a value of the program stands for
abbrev pub type_of : Ty → Tau
type_of = fold-Ty Tau Piece layer piece

abbrev pub part_of : Part → Piece
part_of = fold-Part Tau Piece layer piece

unfoldable pub tau_list : Taus → List Tau
tau_list none = []
tau_list (more t ts) = t ∷ tau_list ts

unfoldable pub piece_list : Parts → List Piece
piece_list end = []
piece_list (part name t taken ps) = record { name = name; ty = t; taken = taken } ∷ piece_list ps
