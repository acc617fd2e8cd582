-- How expressions are built, of whatever kind they are: whole trees (Plain), or those up to a depth (Bounded).
use Rattle.std.specs.Prelude.{ℕ, Bool, List, Option}
use Rattle.cg_base.specs.declared.place.Place.{Place}
use Rattle.cg_core.specs.declared.at.At.{At}
use Rattle.cg_core.specs.declared.op.Op.{Op}

-- how expressions, lists of them, fields, bindings, alternatives and type arguments of some kind are built, over types and patterns
pub record Builder (X L F B A Q T P : Type 0) : Type 0 where
  pub no_args : Q
  pub and_arg : Q → T → Q
  pub name : Place → List ℕ → Q → X
  pub number : Place → Option ℕ → X
  pub bool : Place → Bool → X
  pub unit : Place → X
  pub paren : Place → X → X
  pub sig : Place → X → T → X
  pub no_exprs : L
  pub and_expr : L → X → L
  pub tuple : Place → L → X
  pub no_fields : F
  pub and_field : F → At → X → F
  pub fields : Place → F → X
  pub con : Place → List ℕ → X
  pub con_of : Place → List ℕ → X → X
  pub app : X → X → X
  pub member : X → At → X
  pub put : X → F → X
  pub unary : Place → Op → X → X
  pub upcast : Place → X → X
  pub binary : Place → Op → X → X → X
  pub no_binds : B
  pub and_bind : B → P → X → List At → B
  pub lets : Place → B → X → X
  pub if_else : Place → X → List At → X → X → X
  pub no_alts : A
  pub and_alt : A → Place → Option (List ℕ) → P → X → A
  pub match_of : X → List At → A → X
  pub pattern_unit : Place → P
  pub pattern_name : Place → List ℕ → P
  pub pattern_any : Place → P
