-- What the C of a term is, while it joins that of a body.
use Rattle.std.specs.Prelude.{◌≡◌, ℕ, suc, List, [], ◌∷◌, ◌++◌, ◌+◌, length, map}
use Rattle.cg_base.specs.Types.{Tau}
use Rattle.cg_core.specs.declared.at.At.{At}
use Rattle.cg_core.specs.Terms.{Named, Note, Shape, Tree}
use Rattle.cg_ctree.specs.declared.tree.CStmt.{CStmt}
use Rattle.cg_ctree.specs.Trees.{stmt_of}
use Rattle.cg_cgen_def.specs.Bodies.{Low}
use Rattle.cg_lower_def.specs.Lowered.{Lows, arm, call_operands, joined, low, low_case, low_fields, low_member, low_put, low_shape, remainder}
use Rattle.cg_cgen_def.specs.Places as places
use Rattle.cg_eval_operations.specs.Positions.{position}
use Rattle.cg_typing.specs.Rules.{type_at}
use Rattle.cg_update.specs.Turns.{field_type, place_in}
use Rattle.cg_update.specs.Updates.{sigil_of}
use Rattle.cg_lower_nodes.specs.declared.place.Place.{Place}
use Rattle.cg_lower_nodes.specs.declared.state.Lowering.{Lowering}
use Rattle.cg_lower_nodes.specs.Views.{place_of}
use Rattle.cg_lower_nodes.specs.Grown.{After}
use Rattle.cg_lower_nodes.specs.Kept.{c_type_in, kept_of, whole_of}

-- where variables are kept
abbrev pub scope_of : Lowering → List places.Place
scope_of l = map place_of l.scope.items

-- a term has joined, whose variables are kept at the places of the scope
abbrev pub Lowers : Lowering → Lowering → Tree Note → Place → Type 0
Lowers old new t place = After old new place (low (whole_of old) (length old.locals) (scope_of old) t)

-- a node of this type has joined
abbrev pub LowersNode : Lowering → Lowering → Tau → Shape Note → Place → Type 0
LowersNode old new t shape place = After old new place (low_shape (whole_of old) (length old.locals) (scope_of old) t shape)

-- ---- forms of more than one part

-- the fields of a record have joined
pub record AfterFields (old new : Lowering) (values : List Place) (lowered : Lows) : Type 0 where
  pub values_are : map place_of values ≡ lowered.values
  pub locals : new.locals ≡ old.locals ++ lowered.locals
  pub code : map stmt_of new.stmts ≡ map stmt_of old.stmts ++ lowered.code
  pub scope : new.scope.items ≡ old.scope.items
  pub kept : kept_of new ≡ kept_of old

-- a branch has statements of its own, in which a local gets its value
pub record Arms (old new : Lowering) (stmts : List CStmt) (to : ℕ) (lowered : Low) : Type 0 where
  pub locals : new.locals ≡ old.locals ++ lowered.locals
  pub code : map stmt_of stmts ≡ arm to lowered
  pub same : new.stmts ≡ old.stmts
  pub scope : new.scope.items ≡ old.scope.items
  pub kept : kept_of new ≡ kept_of old

module _ (old : Lowering) where
  -- a term
  abbrev pub low_in : Tree Note → Low
  low_in t = low (whole_of old) (length old.locals) (scope_of old) t

  -- a term in a scope with variables more
  abbrev pub low_within : List places.Place → Tree Note → Low
  low_within more t = low (whole_of old) (length old.locals) (scope_of old ++ more) t

  -- a binding
  abbrev pub low_let : Tree Note → Tree Note → Low
  low_let e b =
      let x = low_in e in
      joined x (low (whole_of old) (length old.locals + length x.locals) (scope_of old ++ x.value ∷ []) b)

  -- an alternative that is there
  abbrev pub low_esac : At → Tree Note → Low
  low_esac at' s =
      let e = low_in s in
      record { value = places.at (places.payload (place_in at'.name (type_at s))) e.value; locals = e.locals; code = e.code }

  -- the fields of a record
  abbrev pub low_record : Named Note → Lows
  low_record fs = low_fields (whole_of old) (length old.locals) (scope_of old) fs

  -- a choice by alternatives
  abbrev pub low_choice : Tau → Tree Note → At → Tree Note → Tree Note → Low
  low_choice t s at' x y =
      let e = low_in s in
      let i = place_in at'.name (type_at s) in
      let a = low (whole_of old) (suc (suc (length old.locals + length e.locals))) (scope_of old ++ places.at (places.payload i) e.value ∷ []) x in
      low_case (length old.locals) (c_type_in old t) i e a
      (low (whole_of old) (suc (suc (length old.locals + length e.locals)) + length a.locals) (scope_of old ++ e.value ∷ []) y)

  -- a field that is taken
  abbrev pub low_take : Tree Note → At → Tree Note → Low
  low_take r at' b =
      let e = low_in r in
      let i = position at'.name (type_at r) in
      let v = low_member (length old.locals) (sigil_of (type_at r)) (c_type_in old (type_at r)) (c_type_in old (field_type (type_at r) i)) i e in
      joined v (low (whole_of old) (length old.locals + length v.locals)
      (scope_of old ++ remainder (length old.locals) (sigil_of (type_at r)) (c_type_in old (type_at r)) e ∷ v.value ∷ []) b)

  -- a field that is put
  abbrev pub low_put_in : Tree Note → At → Tree Note → Low
  low_put_in r at' x =
      let e = low_in r in
      low_put (length old.locals) (sigil_of (type_at r)) (c_type_in old (type_at r)) (position at'.name (type_at r)) e
      (low (whole_of old) (length old.locals + length e.locals) (scope_of old) x)

-- the branches of a choice by alternatives
pub record ArmsBoth (old new : Lowering) (ys ns : List CStmt) (to : ℕ) (v : places.Place) (i : ℕ) (x y : Tree Note) : Type 0 where
  pub mid : Lowering
  pub first : Arms old mid ys to (low_within old (places.at (places.payload i) v ∷ []) x)
  pub rest : Arms mid new ns to (low_within mid (v ∷ []) y)

-- what a function is called with
abbrev pub operands_in : Tree Note → places.Place → places.Place → List places.Place
operands_in f v x = call_operands (record { numbered = λ t. 0; arrows = []; list = [] }) f v x
