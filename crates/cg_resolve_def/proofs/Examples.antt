-- The definitions, computed on an example: a field that is taken and put back.
use Rattle.std.proofs.Common.{◌≡◌, ℕ, true, false, List, [], ◌∷◌, Some, refl}
use Rattle.std.specs.Prelude.{codes}
use Rattle.cg_base.specs.declared.kind.Word.TheVariants.{U32, U8}
use Rattle.cg_base.specs.declared.kind.Sigil.TheVariants.{W}
use Rattle.cg_base.specs.declared.place.Place.{Place}
use Rattle.cg_base.specs.Types as kernel
use Rattle.cg_core.specs.declared.at.At.{At}
use Rattle.cg_core.specs.declared.op.Op.TheVariants.{Add}
use Rattle.cg_core.specs.Terms.{Tree, term, var, lit, op, take_field, put, none, more}
use Rattle.cg_surface.specs.Written as types
use Rattle.cg_surface.specs.Patterns as patterns
use Rattle.cg_surface.specs.Exprs as exprs
use Rattle.cg_surface.specs.Programs.{Entry, synonym, signature, define}
use Rattle.cg_resolve_def.specs.Desugar.{functions_of}
use Rattle.cg_resolve_def.specs.Expand.{bodies_to}
use Rattle.cg_kinds.specs.Kinds.{subst}
use Rattle.cg_resolve_def.specs.Faults.{program_faults}
use Rattle.cg_resolve_def.specs.Takes.{missing_fields, largest_type, widest_part}

-- the places of one line
abbrev at : ℕ → Place
at n = record { line = 1; column = n }

abbrev named : ℕ → List ℕ → At
named n m = record { place = at n; name = m }

abbrev cell : types.Written
cell = types.fields (at 3) true (types.and_field (types.and_field types.no_fields (named 4 (codes "val")) (types.named (at 5) (codes "U32") types.no_types)) (named 6 (codes "tag")) (types.named (at 7) (codes "U8") types.no_types))

abbrev a_cell : ℕ → types.Written
a_cell n = types.named (at n) (codes "Cell") types.no_types

abbrev program : List Entry
program =
    synonym (named 1 (codes "Cell")) [] cell
    ∷ signature (named 8 (codes "bump")) [] [] (types.arrow (at 9) (a_cell 9) (a_cell 10))
    ∷ define (named 11 (codes "bump")) (patterns.name (at 12) (codes "c"))
    (exprs.lets (at 13)
    (exprs.and_bind exprs.no_binds (patterns.take (at 14) (codes "d") (patterns.and_field patterns.no_fields (named 15 (codes "val")) (patterns.name (at 16) (codes "v"))))
    (exprs.name (at 17) (codes "c") types.no_types) [])
    (exprs.put (at 18) (exprs.name (at 18) (codes "d") types.no_types)
    (exprs.and_field exprs.no_fields (named 19 (codes "val")) (exprs.binary (at 21) Add (exprs.name (at 20) (codes "v") types.no_types) (exprs.number (at 22) (Some 1))))))
    ∷ []

abbrev the_cell : kernel.Tau
the_cell = kernel.fields (kernel.part (codes "val") (kernel.word U32) false (kernel.part (codes "tag") (kernel.word U8) false kernel.end)) W

abbrev kernel_term : Tree Place
kernel_term =
    term (at 14) (take_field (term (at 17) (var 0)) (named 15 (codes "val")) (at 14) (at 16)
    (term (at 18) (put (term (at 18) (var 1)) (named 19 (codes "val")) (term (at 21) (op Add (more (term (at 20) (var 2)) (more (term (at 22) (lit (Some 1))) none)))))))

in_order : program_faults program ≡ []
in_order = refl

nothing_missing : missing_fields program ≡ []
nothing_missing = refl

seven_nodes : largest_type program ≡ 7
unfolding kernel.to_parts bodies_to subst
seven_nodes = refl

two_parts : widest_part program ≡ 2
two_parts = refl

its_kernel : functions_of program
    ≡ record { at = named 8 (codes "bump"); vars = []; ty = record { place = at 9; ty = kernel.arrow the_cell the_cell }; body = Some (record { param = at 12; term = kernel_term }) } ∷ []
unfolding kernel.to_parts bodies_to subst
its_kernel = refl
