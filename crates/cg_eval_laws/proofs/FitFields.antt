-- Values that fit a record, by the positions of its fields.
use Rattle.std.proofs.Common.{ℕ, zero, suc, true, false, IsTrue, Option, Some, None, get_or, refl}
use Rattle.std.proofs.lemmas.Bool.{and_parts, and_from}
use Rattle.cg_base.specs.declared.kind.Sigil.{Sigil}
use Rattle.cg_base.specs.Types.{Tau, fields, Parts, end, part, Piece}
use Rattle.cg_typing.specs.Library.{pair}
use Rattle.cg_typing.specs.Parts.{held, is_left}
use Rattle.cg_value.specs.Fits.{World, fits, fits_fields, is_gone}
use Rattle.cg_value.specs.Forms.{field, pair as pair_of}
use Rattle.cg_value.specs.Values as values
use Rattle.cg_value.specs.Values.{Val, gone, parts, Vals, val_list}
use Rattle.cg_base.proofs.Counts.{no_steps as never}

-- the part at a position
abbrev pub part_at : ℕ → Parts → Option Piece
part_at i end = None
part_at zero (part x t taken ps) = Some (record { name = x; ty = t; taken = taken })
part_at (suc i) (part x t taken ps) = part_at i ps

module _ (world : World) where
  among_fields : (i : ℕ) (ps : Parts) (vs : Vals) → IsTrue (fits_fields world ps vs) → IsTrue (is_left (part_at i ps)) → IsTrue (fits world (held (part_at i ps)) (get_or (val_list vs) i gone))
  unfolding fits val_list
  among_fields i end vs f l = never l
  among_fields i (part x t true ps) values.none f l = never f
  among_fields i (part x t false ps) values.none f l = never f
  among_fields zero (part x t true ps) (values.more v vs) f l = never l
  among_fields zero (part x t false ps) (values.more v vs) f l = (and_parts (fits world t v) _ f).0
  among_fields (suc i) (part x t true ps) (values.more v vs) f l = among_fields i ps vs (and_parts (is_gone v) _ f).1 l
  among_fields (suc i) (part x t false ps) (values.more v vs) f l = among_fields i ps vs (and_parts (fits world t v) _ f).1 l

  -- a field by its position
  pub field_fits : (i : ℕ) (ps : Parts) (s : Sigil) (x : Val) → IsTrue (fits world (fields ps s) x) → IsTrue (is_left (part_at i ps)) → IsTrue (fits world (held (part_at i ps)) (field x i))
  unfolding fits field
  field_fits i ps s (parts vs) f l = among_fields i ps vs f l
  field_fits i ps s _ f l = never f

  -- a pair of two values
  pub pair_fits : (a b : Tau) (v w : Val) → IsTrue (fits world a v) → IsTrue (fits world b w) → IsTrue (fits world (pair a b) (pair_of v w))
  unfolding fits
  pair_fits a b v w f g = and_from (fits world a v) _ f (and_from (fits world b w) _ g refl)
