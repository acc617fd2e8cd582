-- Building up to the depth is building whole trees, as far as these are within it.
use Rattle.std.proofs.Common.{◌≡◌, ℕ, ◌<◌, max, refl, sym, arith, true, false, Bool, cond, Option, Some, None}
use Rattle.std.specs.Prelude.{nat_le}
use Rattle.std.proofs.lemmas.Bool.{le-leb, lt-leb, leb-true, leb-false}
use Rattle.cg_surface.specs.Written.{and_type, types_depth}
use Rattle.cg_surface.specs.Written as types_of
use Rattle.cg_surface.specs.Patterns.{Pattern}
use Rattle.cg_surface.specs.Patterns as patterns_of
use Rattle.cg_surface.specs.Exprs.{Expr, name, paren, sig, tuple, fields, con_of, unary, upcast, binary, lets, and_expr, depth_of, exprs_depth, fields_depth, binds_depth, alts_depth}
use Rattle.cg_parser_build.specs.Bounded.{depth_limit, within, exprs_within, fields_within, binds_within, alts_within, types_within, type_within, pattern_within, one, two, three, both, all_three, call, member_at, put_at, match_at, if_at, field_more, bind_more, alt_more, bounded}
use Rattle.cg_parser_build.specs.Maps.{Maps}
use Rattle.cg_parser_build.specs.Plain.{trees}

-- what is no larger than allowed
abbrev kept : {A : Type 0} → (A → ℕ) → A → Option A
kept size a = cond (nat_le (size a) depth_limit) (Some a) None

-- where a part is too deep, an expression that holds it is too
deep : (d : ℕ) (e : Expr) → d < depth_of e → depth_limit < d → None ≡ within e
deep d e h k = sym (rw (lt-leb (depth_of e) depth_limit (omega arith)) refl)

pub one_within : {A : Type 0} (size : A → ℕ) (f : A → Expr) (a : A) → size a < depth_of (f a) → one f (kept size a) ≡ within (f a)
one_within {A} size f a h = go (nat_le (size a) depth_limit) refl
  where
    go : (x : Bool) → nat_le (size a) depth_limit ≡ x → one f (cond x (Some a) None) ≡ within (f a)
    go true i = refl
    go false i = deep (size a) (f a) h (leb-false (size a) depth_limit i)

pub two_within : {A B : Type 0} (size : A → ℕ) (other : B → ℕ) (f : A → B → Expr) (a : A) (b : B) → size a < depth_of (f a b) → other b < depth_of (f a b) → two f (kept size a) (kept other b) ≡ within (f a b)
two_within {A} {B} size other f a b h k = go (nat_le (size a) depth_limit) (nat_le (other b) depth_limit) refl refl
  where
    go : (x y : Bool) → nat_le (size a) depth_limit ≡ x → nat_le (other b) depth_limit ≡ y → two f (cond x (Some a) None) (cond y (Some b) None) ≡ within (f a b)
    go true true i j = refl
    go true false i j = deep (other b) (f a b) k (leb-false (other b) depth_limit j)
    go false y i j = deep (size a) (f a b) h (leb-false (size a) depth_limit i)

pub three_within : (f : Expr → Expr → Expr → Expr) (a b c : Expr) → depth_of a < depth_of (f a b c) → depth_of b < depth_of (f a b c) → depth_of c < depth_of (f a b c) → three f (within a) (within b) (within c) ≡ within (f a b c)
three_within f a b c h k l = go (nat_le (depth_of a) depth_limit) (nat_le (depth_of b) depth_limit) (nat_le (depth_of c) depth_limit) refl refl refl
  where
    go : (x y z : Bool) → nat_le (depth_of a) depth_limit ≡ x → nat_le (depth_of b) depth_limit ≡ y → nat_le (depth_of c) depth_limit ≡ z
        → three f (cond x (Some a) None) (cond y (Some b) None) (cond z (Some c) None) ≡ within (f a b c)
    go true true true i j m = refl
    go true true false i j m = deep (depth_of c) (f a b c) l (leb-false (depth_of c) depth_limit m)
    go true false z i j m = deep (depth_of b) (f a b c) k (leb-false (depth_of b) depth_limit j)
    go false y z i j m = deep (depth_of a) (f a b c) h (leb-false (depth_of a) depth_limit i)

-- a list with a part more is within the depth where both are
pub both_within : {A B : Type 0} (size : A → ℕ) (other : B → ℕ) (f : A → B → A) (a : A) (b : B) → size (f a b) ≡ max (size a) (other b) → both f (kept size a) (kept other b) ≡ kept size (f a b)
both_within {A} {B} size other f a b e = go (nat_le (size a) depth_limit) (nat_le (other b) depth_limit) refl refl
  where
    go : (x y : Bool) → nat_le (size a) depth_limit ≡ x → nat_le (other b) depth_limit ≡ y → both f (cond x (Some a) None) (cond y (Some b) None) ≡ kept size (f a b)
    go true true i j = sym (rw (le-leb (size (f a b)) depth_limit (omega (arith, e, leb-true (size a) depth_limit i, leb-true (other b) depth_limit j))) refl)
    go true false i j = sym (rw (lt-leb (size (f a b)) depth_limit (omega (arith, e, leb-false (other b) depth_limit j))) refl)
    go false y i j = sym (rw (lt-leb (size (f a b)) depth_limit (omega (arith, e, leb-false (size a) depth_limit i))) refl)

-- and with two parts more where all three are
pub all_within : {A : Type 0} (size : A → ℕ) (f : A → Pattern → Expr → A) (a : A) (x : Pattern) (e : Expr) → size (f a x e) ≡ max (size a) (max (patterns_of.depth_of x) (depth_of e))
    → all_three f (kept size a) (pattern_within x) (within e) ≡ kept size (f a x e)
all_within {A} size f a x e h = go (nat_le (size a) depth_limit) (nat_le (patterns_of.depth_of x) depth_limit) (nat_le (depth_of e) depth_limit) refl refl refl
  where
    go : (u v w : Bool) → nat_le (size a) depth_limit ≡ u → nat_le (patterns_of.depth_of x) depth_limit ≡ v → nat_le (depth_of e) depth_limit ≡ w
        → all_three f (cond u (Some a) None) (cond v (Some x) None) (cond w (Some e) None) ≡ kept size (f a x e)
    go true true true i j k = sym (rw (le-leb (size (f a x e)) depth_limit (omega (arith, h, leb-true (size a) depth_limit i, leb-true (patterns_of.depth_of x) depth_limit j, leb-true (depth_of e) depth_limit k))) refl)
    go true true false i j k = sym (rw (lt-leb (size (f a x e)) depth_limit (omega (arith, h, leb-false (depth_of e) depth_limit k))) refl)
    go true false w i j k = sym (rw (lt-leb (size (f a x e)) depth_limit (omega (arith, h, leb-false (patterns_of.depth_of x) depth_limit j))) refl)
    go false v w i j k = sym (rw (lt-leb (size (f a x e)) depth_limit (omega (arith, h, leb-false (size a) depth_limit i))) refl)

-- whole trees and those up to the depth
unfoldable pub to_bounded : Maps trees bounded
to_bounded = record {
  x = within;
  l = exprs_within;
  f = fields_within;
  b = binds_within;
  a = alts_within;
  q = types_within;
  t = type_within;
  p = pattern_within;
  on_no_args = refl;
  on_and_arg = λ args u. both_within types_depth types_of.depth_of and_type args u refl;
  on_name = λ r n args. one_within types_depth (name r n) args (omega arith);
  on_number = λ r v. refl;
  on_bool = λ r v. refl;
  on_unit = λ r. refl;
  on_paren = λ r e. one_within depth_of (paren r) e (omega arith);
  on_sig = λ r e u. two_within depth_of types_of.depth_of (sig r) e u (omega arith) (omega arith);
  on_no_exprs = refl;
  on_and_expr = λ es e. both_within exprs_depth depth_of and_expr es e refl;
  on_tuple = λ r es. one_within exprs_depth (tuple r) es (omega arith);
  on_no_fields = refl;
  on_and_field = λ gs at e. both_within fields_depth depth_of (field_more at) gs e refl;
  on_fields = λ r gs. one_within fields_depth (fields r) gs (omega arith);
  on_con = λ r n. refl;
  on_con_of = λ r n e. one_within depth_of (con_of r n) e (omega arith);
  on_app = λ g e. two_within depth_of depth_of call g e (omega arith) (omega arith);
  on_member = λ e at. one_within depth_of (member_at at) e (omega arith);
  on_put = λ e gs. two_within depth_of fields_depth put_at e gs (omega arith) (omega arith);
  on_unary = λ r o e. one_within depth_of (unary r o) e (omega arith);
  on_upcast = λ r e. one_within depth_of (upcast r) e (omega arith);
  on_binary = λ r o d e. two_within depth_of depth_of (binary r o) d e (omega arith) (omega arith);
  on_no_binds = refl;
  on_and_bind = λ bs w e seen. all_within binds_depth (bind_more seen) bs w e refl;
  on_lets = λ r bs e. two_within binds_depth depth_of (lets r) bs e (omega arith) (omega arith);
  on_if_else = λ r c seen d e. three_within (if_at r seen) c d e (omega arith) (omega arith) (omega arith);
  on_no_alts = refl;
  on_and_alt = λ choices r head w e. all_within alts_depth (alt_more r head) choices w e refl;
  on_match_of = λ e seen choices. two_within depth_of alts_depth (match_at seen) e choices (omega arith) (omega arith);
  on_pattern_unit = λ r. refl;
  on_pattern_name = λ r n. refl;
  on_pattern_any = λ r. refl;
}
