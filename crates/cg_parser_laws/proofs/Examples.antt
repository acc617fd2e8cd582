-- A field that is written alone, of a name that is unknown and that a field before it has: `#{y = x, y}`. The unknown name comes first,
-- and the other order is none.
use Rattle.std.proofs.Common.{◌≡◌, ℕ, List, [], ◌∷◌, inl, inr, refl, arith}
use Rattle.std.proofs.lemmas.List.Elements.{All-head}
use Rattle.std.specs.Prelude.{codes}
use Rattle.cg_base.specs.declared.place.Place.{Place}
use Rattle.cg_core.specs.declared.at.At.{At}
use Rattle.cg_surface.specs.Written as types
use Rattle.cg_surface.specs.Patterns as patterns
use Rattle.cg_surface.specs.Exprs as exprs
use Rattle.cg_surface.specs.Programs.{Entry, signature, define}
use Rattle.cg_resolve_def.specs.Faults.{unknown, twice, program_faults}
use Rattle.cg_resolve_def.specs.Order.{AreOrdered, Precedes}
use Rattle.cg_parser_laws.proofs.Places.{before_self}

-- the places of one line
abbrev at : ℕ → Place
at n = record { line = 1; column = n }

abbrev named : ℕ → List ℕ → At
named n m = record { place = at n; name = m }

abbrev program : List Entry
program =
    signature (named 1 (codes "f")) [] [] (types.arrow (at 2) (types.named (at 2) (codes "U8") types.no_types) (types.named (at 3) (codes "U8") types.no_types))
    ∷ define (named 4 (codes "f")) (patterns.name (at 5) (codes "x"))
    (exprs.fields (at 6)
    (exprs.and_field (exprs.and_field exprs.no_fields (named 7 (codes "y")) (exprs.name (at 8) (codes "x") types.no_types)) (named 9 (codes "y")) (exprs.name (at 9) (codes "y") types.no_types)))
    ∷ []

unknown_first : program_faults program ≡ unknown (at 9) ∷ twice (at 9) ∷ []
unknown_first = refl

not_before : (p : Place) → Precedes (twice p) (unknown p) → ⊥
not_before p (inl b) = before_self p b
not_before p (inr s) = omega (arith, s.1)

not_twice_first : AreOrdered (twice (at 9) ∷ unknown (at 9) ∷ []) → ⊥
not_twice_first o = not_before (at 9) (All-head (Precedes (twice (at 9))) (unknown (at 9)) [] o.0)
