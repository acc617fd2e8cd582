-- The worked rows, computed.
use Rattle.std.specs.Prelude.{◌≡◌, ℕ, false, refl, List, [], ◌∷◌, ◌++◌, codes, Some, None}
use Rattle.std.specs.FinMap as map
use Rattle.cg_base.specs.declared.kind.Word.TheVariants.{U16, U32}
use Rattle.cg_cmachine_def.specs.BuiltIns.{built_in, put}
use Rattle.cg_cmachine_def.specs.Layouts.{cell, pointed, size, spot, walk}
use Rattle.cg_cmachine_def.specs.Outcomes.{Outcome, done, stuck, needs}
use Rattle.cg_cmachine_laws.specs.Renamed.{renamed, renamed_stmt}
use Rattle.cg_cmachine_def.specs.Runs.{Linked, crun, calls_in, run_stmt}
use Rattle.cg_ctree.specs.declared.tree.CDecl.{CDecl}
use Rattle.cg_ctree.specs.declared.tree.COp.TheVariants.{Div, Shl}
use Rattle.cg_ctree.specs.declared.tree.COpnd.TheVariants.{Number, Path}
use Rattle.cg_ctree.specs.declared.tree.CPath.{CPath}
use Rattle.cg_ctree.specs.declared.tree.CRhs.TheVariants.{Opnd, Binary}
use Rattle.cg_ctree.specs.declared.tree.CStruct.{CStruct}
use Rattle.cg_ctree.specs.declared.tree.CTy.TheVariants as ty
use Rattle.cg_ctree.specs.declared.why.Why.TheVariants as why
use Rattle.cg_ctree.specs.Trees.{assign, while, switch, return', Block, stop, also, end, case}
use Rattle.cg_heap.specs.declared.cell.Scalar.{Scalar}
use Rattle.cg_heap.specs.declared.cell.Scalar.TheVariants.{Word}
use Rattle.cg_heap.specs.Stored.{Stored}

abbrev variable : List ℕ → CPath
variable x = record { base = x; arrow = false; members = [] }

abbrev a0 : CPath
a0 = variable (codes "a0")

abbrev word : List ℕ → CDecl
word x = record { ty = ty.Word U32; name = x }

-- `uint32_t f0(uint32_t a0)` with these locals and statements
abbrev only : List CDecl → Block → Linked
only locals b = record {
  program = record { structs = []; functions = record { ty = ty.Word U32; name = codes "f0"; params = word (codes "a0") ∷ []; body = Some (record { locals = locals; block = b }) } ∷ [] };
  links = [];
  asked = λ name us m. None;
}

abbrev nothing : Stored
nothing = record { cells = map.empty; top = 0 }

abbrev run : List CDecl → Block → ℕ → Outcome (List Scalar)
run locals b n = crun (only locals b) 9 (codes "f0") (Word n ∷ []) nothing

abbrev gives : ℕ → ℕ → Outcome (List Scalar)
gives n left = done (Word n ∷ []) (record { store = nothing; made = []; freed = [] }) left

abbrev return_a0 : Block
return_a0 = also (return' (Path a0)) stop

-- { uint32_t x0; return x0; }
reads_unset : run (word (codes "x0") ∷ []) (also (return' (Path (variable (codes "x0")))) stop) 1 ≡ stuck why.Unset nothing
unfolding calls_in run_stmt size
reads_unset = refl

-- { switch (a0) { case 0: { return a0; } break; } return a0; }
abbrev switches : Block
switches = also (switch (Path a0) (case 0 return_a0 end)) return_a0

switches_to_case : run [] switches 0 ≡ gives 0 7
unfolding calls_in run_stmt size
switches_to_case = refl

has_no_case : run [] switches 1 ≡ stuck why.NoCase nothing
unfolding calls_in run_stmt size
has_no_case = refl

-- { while (a0) { } return a0; }
abbrev loops : Block
loops = also (while (Path a0) stop) return_a0

ends_loop : run [] loops 0 ≡ gives 0 7
unfolding calls_in run_stmt size
ends_loop = refl

loops_on : run [] loops 1 ≡ needs nothing
unfolding calls_in run_stmt size
loops_on = refl

-- { a0 = a0; }
never_returns : run [] (also (assign a0 (Opnd (Path a0))) stop) 1 ≡ stuck why.NoReturn nothing
unfolding calls_in run_stmt size
never_returns = refl

-- { a0 = (uint32_t)((uint32_t)a0 / (uint32_t)0ull); return a0; }
divides_by_zero : run [] (also (assign a0 (Binary U32 U32 Div (Path a0) (Number 0))) return_a0) 1 ≡ stuck why.ByZero nothing
unfolding calls_in run_stmt size
divides_by_zero = refl

-- { a0 = (uint32_t)((uint32_t)a0 << (uint32_t)32ull); return a0; }
shifts_too_far : run [] (also (assign a0 (Binary U32 U32 Shl (Path a0) (Number 32))) return_a0) 1 ≡ stuck why.ShiftTooFar nothing
unfolding calls_in run_stmt size
shifts_too_far = refl

-- ---- names

names_of_widths : built_in (codes "cg_w16_put") ≡ Some (put U16)
names_of_widths = refl

no_built_in : built_in (codes "cg_w24_put") ≡ None
no_built_in = refl

-- ---- layouts

abbrev struct : List ℕ → List ℕ → CDecl
struct s x = record { ty = ty.Struct s; name = x }

-- struct A { uint32_t x; struct B b; };  struct B { uint32_t y; uint32_t z; };
abbrev nested : List CStruct
nested =
    record { name = codes "A"; members = word (codes "x") ∷ struct (codes "B") (codes "b") ∷ [] }
    ∷ record { name = codes "B"; members = word (codes "y") ∷ word (codes "z") ∷ [] } ∷ []

has_three_slots : size (pointed nested (codes "A")) ≡ 3
unfolding size
has_three_slots = refl

stands_behind_two : walk (codes "b" ∷ codes "z" ∷ []) (pointed nested (codes "A")) ≡ Some (spot 2 (cell U32))
unfolding size
stands_behind_two = refl

is_no_member : walk (codes "b" ∷ codes "x" ∷ []) (pointed nested (codes "A")) ≡ None
unfolding size
is_no_member = refl

-- struct C { struct D d; uint32_t x; };  struct D { struct C c; };  struct E { struct C c; uint32_t x; };
abbrev in_circle : List CStruct
in_circle =
    record { name = codes "C"; members = struct (codes "D") (codes "d") ∷ word (codes "x") ∷ [] }
    ∷ record { name = codes "D"; members = struct (codes "C") (codes "c") ∷ [] }
    ∷ record { name = codes "E"; members = struct (codes "C") (codes "c") ∷ word (codes "x") ∷ [] } ∷ []

holds_itself_twice : (size (pointed in_circle (codes "C")) ≡ 0) × (size (pointed in_circle (codes "D")) ≡ 0)
unfolding size
holds_itself_twice = (refl, refl)

-- beside the circle the other member stays
holds_a_circle : size (pointed in_circle (codes "E")) ≡ 1
unfolding size
holds_a_circle = refl

isnt_declared : size (pointed in_circle (codes "F")) ≡ 0
unfolding size
isnt_declared = refl

-- ---- other names

-- the function's name behind a variable's
abbrev longer : List ℕ → List ℕ → List ℕ
longer f x = x ++ codes "_" ++ f

-- a0 of a variable
abbrev member_of : List ℕ → CPath
member_of x = record { base = x; arrow = false; members = codes "a0" ∷ [] }

-- { x = a.a0; return x; }
abbrev copies : List ℕ → List ℕ → Block
copies x a = also (assign (variable x) (Opnd (Path (member_of a)))) (also (return' (Path (variable x))) stop)

-- a parameter and a local, and not the member
renames_variables : renamed longer (only (word (codes "x0") ∷ []) (copies (codes "x0") (codes "a0"))).program
    ≡ record {
      structs = [];
      functions = record {
        ty = ty.Word U32;
        name = codes "f0";
        params = word (codes "a0_f0") ∷ [];
        body = Some (record { locals = word (codes "x0_f0") ∷ []; block = copies (codes "x0_f0") (codes "a0_f0") });
      } ∷ [];
    }
unfolding renamed_stmt
renames_variables = refl
