-- The machine over whole trees, however deep they are.
use Rattle.cg_base.specs.Reader.{Reader}
use Rattle.cg_surface.specs.Written.{Written, named, nothing, tuple, paren, arrow, fields, variant, bang, take_some, take_all, Writtens, no_types, and_type, WrittenFields, no_fields, and_field, WrittenAlts, no_alts, and_plain, and_alt, place_of}
use Rattle.cg_parser_symbols.specs.Symbols.{Seen}
use Rattle.cg_parser_types.specs.Machine as machine
use Rattle.cg_parser_types.specs.Machine.{Builder, Mode}

-- types as they are: what is made of a type stands at its place
abbrev pub trees : Builder Written Writtens WrittenFields WrittenAlts
trees = record {
  named = named;
  unit = nothing;
  paren = paren;
  tuple = tuple;
  function = λ a b. arrow (place_of a) a b;
  fields = fields;
  variant = variant;
  observed = λ a. bang (place_of a) a;
  take_some = λ a ns. take_some (place_of a) a ns;
  take_all = λ a q. take_all (place_of a) a q;
  no_types = no_types;
  and_type = and_type;
  no_fields = no_fields;
  and_field = and_field;
  no_alts = no_alts;
  and_plain = and_plain;
  and_alt = and_alt;
}

-- its states
abbrev pub Stage : Type 0
Stage = Mode Written Writtens WrittenFields WrittenAlts

-- as a reader
abbrev pub plain_reader : Reader Stage Seen Written
plain_reader = machine.reader trees
