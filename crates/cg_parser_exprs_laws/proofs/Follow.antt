-- The machine over bounded trees does the same as that over whole ones.
use Rattle.std.proofs.Common.{Option}
use Rattle.cg_base.specs.Reader.{Reader}
use Rattle.cg_surface.specs.Written.{Written}
use Rattle.cg_surface.specs.Patterns.{Pattern}
use Rattle.cg_parser_symbols.specs.Symbols.{Seen}
use Rattle.cg_parser_symbols.specs.Follows.{Follows}
use Rattle.cg_parser_build.specs.Bounded.{within, exprs_within, fields_within, binds_within, alts_within, types_within, type_within, pattern_within, bounded}
use Rattle.cg_parser_build.specs.Plain.{trees}
use Rattle.cg_parser_build.proofs.Within.{to_bounded}
use Rattle.cg_parser_exprs_def.specs.Plain.{Stage, plain_reader}
use Rattle.cg_parser_exprs_def.specs.Bounded.{Held, bounded_reader}
use Rattle.cg_parser_exprs_laws.proofs.Maps.{mode_map, follow}

module _ {TS PS TH PH : Type 0} (types : Reader TS Seen Written) (patterns : Reader PS Seen Pattern) (held_types : Reader TH Seen (Option Written)) (held_patterns : Reader PH Seen (Option Pattern))
    (of_type : TS → TH) (of_pattern : PS → PH)
    (type_follows : Follows types held_types of_type type_within) (pattern_follows : Follows patterns held_patterns of_pattern pattern_within) where
  -- the state over bounded trees
  abbrev pub held : Stage types patterns → Held held_types held_patterns
  held = mode_map within exprs_within fields_within binds_within alts_within types_within pattern_within of_type of_pattern

  -- what the reader over whole trees does, that over bounded ones does
  pub follows : Follows (plain_reader types patterns) (bounded_reader held_types held_patterns) held within
  unfolding to_bounded
  follows = follow types patterns trees held_types held_patterns bounded of_type of_pattern to_bounded type_follows pattern_follows
