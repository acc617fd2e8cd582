use Rattle.std.proofs.Common.{◌≡◌, take, map, []}
use Rattle.std.specs.Prelude.{IfOk}
use Rattle.std.specs.List.{flat_map}
use Rattle.std.specs.Option.{option_map}
use Rattle.cg_surface.specs.Written.{written_of, field_of, alt_of, to_types}
use Rattle.cg_resolve_takes.specs.Heads.{heads_of, shape_at}
use Rattle.cg_resolve_takes.specs.Missing.{absent}
use Rattle.cg_resolve_takes.specs.Says.{GoesOn}
use Rattle.cg_resolve_takes.specs.Views.{test_of, heads_in}
use Rattle.cg_resolve_takes.proofs.SaySteps.{absent_one}
use Rattle.cg_resolve_takes.proofs.types.+check.Given as goal

abbrev pub invariant-in_types-loop-position : goal.invariant-in_types-loop-position
invariant-in_types-loop-position l =
    GoesOn l.fn.so_far (flat_map (λ t. absent (heads_in l.table) (written_of t)) (take l.position l.ty-items)) l.found
    × IfOk l.found (λ fields. option_map test_of fields ≡ shape_at (heads_of (heads_in l.table) [] (to_types (map written_of (take l.position l.ty-items)))) l.wanted)

abbrev pub invariant-in_parts-loop-part : goal.invariant-in_parts-loop-part
invariant-in_parts-loop-part l = GoesOn l.fn.so_far (flat_map (λ p. absent (heads_in l.table) (field_of p).ty) (take l.part-index l.part-items)) l.inside

abbrev pub invariant-in_alternatives-loop-alternative : goal.invariant-in_alternatives-loop-alternative
invariant-in_alternatives-loop-alternative l = GoesOn l.fn.so_far (flat_map (λ a. absent_one (heads_in l.table) (alt_of a).ty) (take l.alternative-index l.alternative-items)) l.inside
