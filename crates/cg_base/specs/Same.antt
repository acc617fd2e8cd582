-- Whether two types are the same, with their names, sigils and taken marks.
use Rattle.std.specs.Prelude.{Bool, true, false, ◌&&◌, nat_eq}
use Rattle.std.specs.Str.{bytes_eq}
use Rattle.cg_base.specs.declared.kind.Sigil.{Sigil}
use Rattle.cg_base.specs.declared.kind.Sigil.TheVariants.{R, W, U}
use Rattle.cg_base.specs.Types.{Tau, var, seen, unit, word, bool, arrow, abs, variant, fields, Taus, none, more, Parts, end, part}
use Rattle.cg_base.specs.Words.{bits}

abbrev pub same_sigil : Sigil → Sigil → Bool
same_sigil R R = true
same_sigil W W = true
same_sigil U U = true
same_sigil _ _ = false

abbrev pub same_mark : Bool → Bool → Bool
same_mark true true = true
same_mark false false = true
same_mark _ _ = false

unfoldable mutual
  pub same_type : Tau → Tau → Bool
  same_type (var m) (var n) = nat_eq m n
  same_type (seen m) (seen n) = nat_eq m n
  same_type unit unit = true
  same_type (word v) (word w) = nat_eq (bits v) (bits w)
  same_type bool bool = true
  same_type (arrow a b) (arrow c d) = same_type a c && same_type b d
  same_type (abs m ts r) (abs n us s) = bytes_eq m n && (same_types ts us && same_sigil r s)
  same_type (variant ps) (variant qs) = same_parts ps qs
  same_type (fields ps r) (fields qs s) = same_parts ps qs && same_sigil r s
  same_type _ _ = false

  pub same_types : Taus → Taus → Bool
  same_types none none = true
  same_types (more t ts) (more u us) = same_type t u && same_types ts us
  same_types _ _ = false

  pub same_parts : Parts → Parts → Bool
  same_parts end end = true
  same_parts (part m t x ps) (part n u y qs) = (bytes_eq m n && same_mark x y) && (same_type t u && same_parts ps qs)
  same_parts _ _ = false
