-- Parts of derivations of any shape, and what shape a derivation has.
use Rattle.std.specs.Prelude.{◌≡◌, ℕ, zero, suc, List, [], ◌∷◌}
use Rattle.cg_core.specs.declared.derivation.Mark.{Mark}
use Rattle.cg_core.specs.declared.derivation.Node.{Node}
use Rattle.cg_core.specs.declared.derivation.Node.TheVariants.{Var}
use Rattle.cg_core.specs.Derivations.{Derivation, derivation, Derivations, done, part}

abbrev pub the_parts : Derivation → Derivations
the_parts (derivation node strings parts) = parts

-- the mark strings: one list of marks for each split
abbrev pub strings_of : Derivation → List (List Mark)
strings_of (derivation node strings parts) = strings

abbrev pub nth : ℕ → Derivations → Derivation
nth i done = derivation Var [] done
nth zero (part d ds) = d
nth (suc i) (part d ds) = nth i ds

-- all parts but the first
abbrev pub later_parts : Derivations → Derivations
later_parts done = done
later_parts (part d ds) = ds

abbrev pub sub : Derivation → ℕ → Derivation
sub d i = nth i (the_parts d)

-- the first mark string, and the others
abbrev pub first_marks : List (List Mark) → List Mark
first_marks [] = []
first_marks (marks ∷ later) = marks

abbrev pub later_marks : List (List Mark) → List (List Mark)
later_marks [] = []
later_marks (marks ∷ later) = later

abbrev pub marks_of : Derivation → List Mark
marks_of d = first_marks (strings_of d)

abbrev pub leaf : Node → Derivation
leaf node = derivation node [] done

abbrev pub one : Node → Derivation → Derivation
one node a = derivation node [] (part a done)

abbrev pub two : Node → List Mark → Derivation → Derivation → Derivation
two node marks a b = derivation node (marks ∷ []) (part a (part b done))

abbrev pub three : Node → List Mark → Derivation → Derivation → Derivation → Derivation
three node marks a b c = derivation node (marks ∷ []) (part a (part b (part c done)))

-- a derivation of this node with one part, with two, and with three
abbrev pub IsOne : Node → Derivation → Type 0
IsOne node d = d ≡ one node (sub d 0)

abbrev pub IsTwo : Node → Derivation → Type 0
IsTwo node d = d ≡ two node (marks_of d) (sub d 0) (sub d 1)

abbrev pub IsThree : Node → Derivation → Type 0
IsThree node d = d ≡ three node (marks_of d) (sub d 0) (sub d 1) (sub d 2)

-- a derivation of this node with any parts
abbrev pub IsAny : Node → Derivation → Type 0
IsAny node d = d ≡ derivation node (strings_of d) (the_parts d)
