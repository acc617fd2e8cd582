-- Written types as plain trees, with no memory in them, and what a written type of the code stands for.
use Rattle.std.specs.Prelude.{◌≡◌, ℕ, ◌+◌, max, List, [], ◌∷◌, ◌++◌, Option, Some, None, Bool, refl}
use Rattle.cg_base.specs.declared.place.Place.{Place}
use Rattle.cg_core.specs.declared.at.At.{At}
use Rattle.cg_surface.specs.declared.written.STy.{STy}
use Rattle.cg_surface.specs.declared.written.SPart.{SPart}
use Rattle.cg_surface.specs.declared.written.SAlt.{SAlt}
use Rattle.cg_surface.specs.declared.written.STyForm.TheOpen as open'
use Rattle.cg_surface.specs.declared.written.STyForm.TheOpen.{STyForm-F, SAlt-F, SPart-F, STy-F}
use Rattle.cg_surface.specs.declared.written.STyForm.TheFolds.{fold-STy, fold-SPart, fold-SAlt}

mutual
  -- a written type, with the place of its first token; lists have their last item outermost
  pub data Written : Type 0 where
    named : Place → List ℕ → Writtens → Written
    nothing : Place → Written
    tuple : Place → Writtens → Written
    paren : Place → Written → Written
    arrow : Place → Written → Written → Written
    fields : Place → Bool → WrittenFields → Written
    variant : Place → WrittenAlts → Written
    bang : Place → Written → Written
    take_some : Place → Written → List At → Written
    take_all : Place → Written → Place → Written

  pub data Writtens : Type 0 where
    no_types : Writtens
    and_type : Writtens → Written → Writtens

  -- names, each with its type
  pub data WrittenFields : Type 0 where
    no_fields : WrittenFields
    and_field : WrittenFields → At → Written → WrittenFields

  -- alternatives, without or with the type of a payload
  pub data WrittenAlts : Type 0 where
    no_alts : WrittenAlts
    and_plain : WrittenAlts → At → WrittenAlts
    and_alt : WrittenAlts → At → Written → WrittenAlts

-- a field, and an alternative, as values
pub record OneField : Type 0 where
  pub at : At
  pub ty : Written

pub record OneAlt : Type 0 where
  pub at : At
  pub ty : Option Written

-- one more alternative
abbrev pub and_one : WrittenAlts → At → Option Written → WrittenAlts
and_one choices at None = and_plain choices at
and_one choices at (Some t) = and_alt choices at t

-- the tree's own lists, made of lists behind those before them
abbrev pub types_behind : Writtens → List Written → Writtens
types_behind before [] = before
types_behind before (t ∷ ts) = types_behind (and_type before t) ts

abbrev pub fields_behind : WrittenFields → List OneField → WrittenFields
fields_behind before [] = before
fields_behind before (f ∷ fs) = fields_behind (and_field before f.at f.ty) fs

abbrev pub alts_behind : WrittenAlts → List OneAlt → WrittenAlts
alts_behind before [] = before
alts_behind before (a ∷ choices) = alts_behind (and_one before a.at a.ty) choices

unfoldable pub to_types : List Written → Writtens
to_types ts = types_behind no_types ts

unfoldable pub to_fields : List OneField → WrittenFields
to_fields fs = fields_behind no_fields fs

unfoldable pub to_alts : List OneAlt → WrittenAlts
to_alts choices = alts_behind no_alts choices

-- one layer, with what its children stand for
abbrev pub layer : STyForm-F (Place → Written) OneAlt OneField Written → Place → Written
layer (open'.Name n ts) = λ p. named p n (to_types ts)
layer open'.Unit = λ p. nothing p
layer (open'.Tuple ts) = λ p. tuple p (to_types ts)
layer (open'.Paren t) = λ p. paren p t.value
layer (open'.Arrow a b) = λ p. arrow p a.value b.value
layer (open'.Fields fs boxed) = λ p. fields p boxed (to_fields fs)
layer (open'.Variant choices) = λ p. variant p (to_alts choices)
layer (open'.Bang t) = λ p. bang p t.value
layer (open'.TakeSome t ns) = λ p. take_some p t.value ns
layer (open'.TakeAll t q) = λ p. take_all p t.value q

abbrev pub alt_layer : SAlt-F (Place → Written) OneAlt OneField Written → OneAlt
alt_layer a = record { at = a.at; ty = a.ty }

abbrev pub field_layer : SPart-F (Place → Written) OneAlt OneField Written → OneField
field_layer f = record { at = f.at; ty = f.ty }

abbrev pub type_layer : STy-F (Place → Written) OneAlt OneField Written → Written
type_layer t = t.form t.place

-- the written type that a value of the code stands for
abbrev pub written_of : STy → Written
written_of = fold-STy (Place → Written) OneAlt OneField Written layer alt_layer field_layer type_layer

abbrev pub field_of : SPart → OneField
field_of = fold-SPart (Place → Written) OneAlt OneField Written layer alt_layer field_layer type_layer

abbrev pub alt_of : SAlt → OneAlt
alt_of = fold-SAlt (Place → Written) OneAlt OneField Written layer alt_layer field_layer type_layer

-- the place of a written type
abbrev pub place_of : Written → Place
place_of (named p n ts) = p
place_of (nothing p) = p
place_of (tuple p ts) = p
place_of (paren p a) = p
place_of (arrow p a b) = p
place_of (fields p boxed fs) = p
place_of (variant p choices) = p
place_of (bang p a) = p
place_of (take_some p a ns) = p
place_of (take_all p a q) = p

-- how many nodes lie on the longest way down: fields and alternatives are none of their own
abbrev mutual
  pub depth_of : Written → ℕ
  depth_of (named p n ts) = types_depth ts + 1
  depth_of (nothing p) = 1
  depth_of (tuple p ts) = types_depth ts + 1
  depth_of (paren p a) = depth_of a + 1
  depth_of (arrow p a b) = max (depth_of a) (depth_of b) + 1
  depth_of (fields p boxed fs) = fields_depth fs + 1
  depth_of (variant p choices) = alts_depth choices + 1
  depth_of (bang p a) = depth_of a + 1
  depth_of (take_some p a ns) = depth_of a + 1
  depth_of (take_all p a q) = depth_of a + 1

  pub types_depth : Writtens → ℕ
  types_depth no_types = 0
  types_depth (and_type ts t) = max (types_depth ts) (depth_of t)

  pub fields_depth : WrittenFields → ℕ
  fields_depth no_fields = 0
  fields_depth (and_field fs at t) = max (fields_depth fs) (depth_of t)

  pub alts_depth : WrittenAlts → ℕ
  alts_depth no_alts = 0
  alts_depth (and_plain choices at) = alts_depth choices
  alts_depth (and_alt choices at t) = max (alts_depth choices) (depth_of t)

-- an item more at the end
types_more : (ts : List Written) (before : Writtens) (t : Written) → types_behind before (ts ++ t ∷ []) ≡ and_type (types_behind before ts) t
types_more [] before t = refl
types_more (u ∷ ts) before t = types_more ts (and_type before u) t

fields_more : (fs : List OneField) (before : WrittenFields) (f : OneField) → fields_behind before (fs ++ f ∷ []) ≡ and_field (fields_behind before fs) f.at f.ty
fields_more [] before f = refl
fields_more (g ∷ fs) before f = fields_more fs (and_field before g.at g.ty) f

alts_more : (choices : List OneAlt) (before : WrittenAlts) (a : OneAlt) → alts_behind before (choices ++ a ∷ []) ≡ and_one (alts_behind before choices) a.at a.ty
alts_more [] before a = refl
alts_more (b ∷ choices) before a = alts_more choices (and_one before b.at b.ty) a

pub types_push : (ts : List Written) (t : Written) → to_types (ts ++ t ∷ []) ≡ and_type (to_types ts) t
unfolding to_types
types_push ts t = types_more ts no_types t

pub fields_push : (fs : List OneField) (f : OneField) → to_fields (fs ++ f ∷ []) ≡ and_field (to_fields fs) f.at f.ty
unfolding to_fields
fields_push fs f = fields_more fs no_fields f

pub alts_push : (choices : List OneAlt) (a : OneAlt) → to_alts (choices ++ a ∷ []) ≡ and_one (to_alts choices) a.at a.ty
unfolding to_alts
alts_push choices a = alts_more choices no_alts a

pub types_none : to_types [] ≡ no_types
unfolding to_types
types_none = refl

pub fields_none : to_fields [] ≡ no_fields
unfolding to_fields
fields_none = refl

pub alts_none : to_alts [] ≡ no_alts
unfolding to_alts
alts_none = refl
