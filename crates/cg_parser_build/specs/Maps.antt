-- What it means that maps between trees of two kinds keep how they are built.
use Rattle.std.specs.Prelude.{◌≡◌, ℕ, Bool, List, Option}
use Rattle.cg_base.specs.declared.place.Place.{Place}
use Rattle.cg_core.specs.declared.at.At.{At}
use Rattle.cg_core.specs.declared.op.Op.{Op}
use Rattle.cg_parser_build.specs.Builder.{Builder}

-- maps from one builder's trees to another's, of each sort, that keep how each is built
pub record Maps {X L F B A Q T P X' L' F' B' A' Q' T' P' : Type 0} (from : Builder X L F B A Q T P) (onto : Builder X' L' F' B' A' Q' T' P') : Type 0 where
  pub x : X → X'
  pub l : L → L'
  pub f : F → F'
  pub b : B → B'
  pub a : A → A'
  pub q : Q → Q'
  pub t : T → T'
  pub p : P → P'
  pub on_no_args : onto.no_args ≡ q from.no_args
  pub on_and_arg : (args : Q) (u : T) → onto.and_arg (q args) (t u) ≡ q (from.and_arg args u)
  pub on_name : (r : Place) (n : List ℕ) (args : Q) → onto.name r n (q args) ≡ x (from.name r n args)
  pub on_number : (r : Place) (v : Option ℕ) → onto.number r v ≡ x (from.number r v)
  pub on_bool : (r : Place) (v : Bool) → onto.bool r v ≡ x (from.bool r v)
  pub on_unit : (r : Place) → onto.unit r ≡ x (from.unit r)
  pub on_paren : (r : Place) (e : X) → onto.paren r (x e) ≡ x (from.paren r e)
  pub on_sig : (r : Place) (e : X) (u : T) → onto.sig r (x e) (t u) ≡ x (from.sig r e u)
  pub on_no_exprs : onto.no_exprs ≡ l from.no_exprs
  pub on_and_expr : (es : L) (e : X) → onto.and_expr (l es) (x e) ≡ l (from.and_expr es e)
  pub on_tuple : (r : Place) (es : L) → onto.tuple r (l es) ≡ x (from.tuple r es)
  pub on_no_fields : onto.no_fields ≡ f from.no_fields
  pub on_and_field : (gs : F) (at : At) (e : X) → onto.and_field (f gs) at (x e) ≡ f (from.and_field gs at e)
  pub on_fields : (r : Place) (gs : F) → onto.fields r (f gs) ≡ x (from.fields r gs)
  pub on_con : (r : Place) (n : List ℕ) → onto.con r n ≡ x (from.con r n)
  pub on_con_of : (r : Place) (n : List ℕ) (e : X) → onto.con_of r n (x e) ≡ x (from.con_of r n e)
  pub on_app : (g e : X) → onto.app (x g) (x e) ≡ x (from.app g e)
  pub on_member : (e : X) (at : At) → onto.member (x e) at ≡ x (from.member e at)
  pub on_put : (e : X) (gs : F) → onto.put (x e) (f gs) ≡ x (from.put e gs)
  pub on_unary : (r : Place) (o : Op) (e : X) → onto.unary r o (x e) ≡ x (from.unary r o e)
  pub on_upcast : (r : Place) (e : X) → onto.upcast r (x e) ≡ x (from.upcast r e)
  pub on_binary : (r : Place) (o : Op) (d e : X) → onto.binary r o (x d) (x e) ≡ x (from.binary r o d e)
  pub on_no_binds : onto.no_binds ≡ b from.no_binds
  pub on_and_bind : (bs : B) (w : P) (e : X) (seen : List At) → onto.and_bind (b bs) (p w) (x e) seen ≡ b (from.and_bind bs w e seen)
  pub on_lets : (r : Place) (bs : B) (e : X) → onto.lets r (b bs) (x e) ≡ x (from.lets r bs e)
  pub on_if_else : (r : Place) (c : X) (seen : List At) (d e : X) → onto.if_else r (x c) seen (x d) (x e) ≡ x (from.if_else r c seen d e)
  pub on_no_alts : onto.no_alts ≡ a from.no_alts
  pub on_and_alt : (choices : A) (r : Place) (head : Option (List ℕ)) (w : P) (e : X) → onto.and_alt (a choices) r head (p w) (x e) ≡ a (from.and_alt choices r head w e)
  pub on_match_of : (e : X) (seen : List At) (choices : A) → onto.match_of (x e) seen (a choices) ≡ x (from.match_of e seen choices)
  pub on_pattern_unit : (r : Place) → onto.pattern_unit r ≡ p (from.pattern_unit r)
  pub on_pattern_name : (r : Place) (n : List ℕ) → onto.pattern_name r n ≡ p (from.pattern_name r n)
  pub on_pattern_any : (r : Place) → onto.pattern_any r ≡ p (from.pattern_any r)
