-- The machine over trees up to the depth of the language, past which there is none.
use Rattle.std.specs.Prelude.{List, Option, Some, None, nat_le, if◌then◌else◌}
use Rattle.cg_base.specs.declared.place.Place.{Place}
use Rattle.cg_base.specs.Reader.{Reader}
use Rattle.cg_core.specs.declared.at.At.{At}
use Rattle.cg_surface.specs.Written.{Written, named, nothing, tuple, paren, arrow, fields, variant, bang, take_some, take_all, Writtens, no_types, and_type, WrittenFields, no_fields, and_field, WrittenAlts, no_alts, and_plain, and_alt, place_of, depth_of, types_depth, fields_depth, alts_depth}
pub use Rattle.cg_surface.specs.Limits.{depth_limit}
use Rattle.cg_parser_symbols.specs.Symbols.{Seen}
use Rattle.cg_parser_types.specs.Machine as machine
use Rattle.cg_parser_types.specs.Machine.{Builder, Mode}

-- a type, where it is no deeper than allowed; and lists, where none of theirs is
abbrev pub within : Written → Option Written
within t = if nat_le (depth_of t) depth_limit then Some t else None

abbrev pub types_within : Writtens → Option Writtens
types_within ts = if nat_le (types_depth ts) depth_limit then Some ts else None

abbrev pub fields_within : WrittenFields → Option WrittenFields
fields_within gs = if nat_le (fields_depth gs) depth_limit then Some gs else None

abbrev pub alts_within : WrittenAlts → Option WrittenAlts
alts_within choices = if nat_le (alts_depth choices) depth_limit then Some choices else None

-- a type made of one part
abbrev pub one : {A : Type 0} → (A → Written) → Option A → Option Written
one f None = None
one f (Some a) = within (f a)

-- and of two
abbrev pub two : (Written → Written → Written) → Option Written → Option Written → Option Written
two f None b = None
two f (Some a) None = None
two f (Some a) (Some b) = within (f a b)

-- a list with a type more
abbrev pub both : {A : Type 0} → (A → Written → A) → Option A → Option Written → Option A
both f None t = None
both f (Some a) None = None
both f (Some a) (Some t) = Some (f a t)

-- what is made of a type stands at its place
abbrev pub arrow_at : Written → Written → Written
arrow_at a b = arrow (place_of a) a b

abbrev pub bang_at : Written → Written
bang_at a = bang (place_of a) a

abbrev pub take_some_at : List At → Written → Written
take_some_at ns a = take_some (place_of a) a ns

abbrev pub take_all_at : Place → Written → Written
take_all_at q a = take_all (place_of a) a q

-- a field, and an alternative with a payload, more
abbrev pub field_more : At → WrittenFields → Written → WrittenFields
field_more at gs t = and_field gs at t

abbrev pub alt_more : At → WrittenAlts → Written → WrittenAlts
alt_more at choices t = and_alt choices at t

-- an alternative with no payload more
abbrev pub plain_more : Option WrittenAlts → At → Option WrittenAlts
plain_more None at = None
plain_more (Some choices) at = Some (and_plain choices at)

-- types, and lists, where they are no deeper than allowed
abbrev pub bounded : Builder (Option Written) (Option Writtens) (Option WrittenFields) (Option WrittenAlts)
bounded = record {
  named = λ p n ts. one (named p n) ts;
  unit = λ p. Some (nothing p);
  paren = λ p a. one (paren p) a;
  tuple = λ p ts. one (tuple p) ts;
  function = λ a b. two arrow_at a b;
  fields = λ p boxed gs. one (fields p boxed) gs;
  variant = λ p choices. one (variant p) choices;
  observed = λ a. one bang_at a;
  take_some = λ a ns. one (take_some_at ns) a;
  take_all = λ a q. one (take_all_at q) a;
  no_types = Some no_types;
  and_type = λ ts t. both and_type ts t;
  no_fields = Some no_fields;
  and_field = λ gs at t. both (field_more at) gs t;
  no_alts = Some no_alts;
  and_plain = plain_more;
  and_alt = λ choices at t. both (alt_more at) choices t;
}

-- its states
abbrev pub Held : Type 0
Held = Mode (Option Written) (Option Writtens) (Option WrittenFields) (Option WrittenAlts)

-- as a reader
abbrev pub bounded_reader : Reader Held Seen (Option Written)
bounded_reader = machine.reader bounded
