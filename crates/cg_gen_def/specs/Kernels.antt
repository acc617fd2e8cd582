-- The kernel of the generated source, and the cores of its bodies (docs/LANGUAGE.md, "Generator").
use Rattle.std.specs.Prelude.{ℕ, zero, suc, ◌+◌, Bool, true, false, List, [], ◌∷◌, ◌++◌, codes, Option, Some}
use Rattle.cg_base.specs.declared.fun.Fun.TheVariants.{User}
use Rattle.cg_base.specs.declared.kind.Sigil.TheVariants.{W}
use Rattle.cg_base.specs.declared.kind.Word.TheVariants.{U8, U32}
use Rattle.cg_base.specs.declared.place.Place.{Place}
use Rattle.cg_base.specs.Types as kernel
use Rattle.cg_base.specs.Types.{Tau}
use Rattle.cg_core.specs.declared.op.Op.TheVariants.{Add, Mul}
use Rattle.cg_core.specs.Kernels.{Function}
use Rattle.cg_core.specs.Terms.{Note, Tree, term, var, lit, fun, op, app, take_field, put, none, more}
use Rattle.cg_gen.specs.Generated.{name}
use Rattle.cg_gen_def.specs.Programs.{at, body_row, place, reach, type_row, width}

-- what each function takes and gives, and the same where its value was taken or not
abbrev pub cell_with : Bool → Tau
cell_with taken = kernel.fields (kernel.part (codes "val") (kernel.word U32) taken (kernel.part (codes "tag") (kernel.word U8) false kernel.end)) W

abbrev pub cell_type : Tau
cell_type = cell_with false

-- The body of the function behind so many others, where this is noted of a place and a type: the place alone in a term, and both in its core. Of
-- the variables, 0 is the argument, 1 the record without its value, and 2 the value.
module _ {A : Type 0} (note : Place → Tau → A) where
  -- what it takes apart
  unfoldable pub subject_in : ℕ → Tree A
  subject_in zero = term (note (place (body_row 0) (width 0 + 25)) cell_type) (var 0)
  subject_in (suc before) =
      term (note (place (body_row (suc before)) (width (suc before) + 25)) cell_type)
      (app (term (note (place (body_row (suc before)) (width (suc before) + 25)) (kernel.arrow cell_type cell_type)) (fun (User before) []))
      (term (note (place (body_row (suc before)) (reach (suc before) + 24)) cell_type) (var 0)))

  -- what it puts in the place of the value that it took
  abbrev pub sum_in : ℕ → Tree A
  sum_in before =
      term (note (place (body_row before) (reach before + 45)) (kernel.word U32))
      (op Add
      (more
      (term (note (place (body_row before) (reach before + 41)) (kernel.word U32))
      (op Mul
      (more (term (note (place (body_row before) (reach before + 39)) (kernel.word U32)) (var 2))
      (more (term (note (place (body_row before) (reach before + 43)) (kernel.word U32)) (lit (Some 3))) none))))
      (more (term (note (place (body_row before) (reach before + 47)) (kernel.word U32)) (lit (Some (before + 1)))) none)))

  unfoldable pub body_in : ℕ → Tree A
  body_in before =
      term (note (place (body_row before) (width before + 10)) cell_type)
      (take_field (subject_in before) (at (body_row before) (width before + 14) (codes "val")) (place (body_row before) (width before + 10)) (place (body_row before) (width before + 20))
      (term (note (place (body_row before) (reach before + 29)) cell_type)
      (put (term (note (place (body_row before) (reach before + 29)) (cell_with true)) (var 1)) (at (body_row before) (reach before + 33) (codes "val")) (sum_in before))))

-- the body as a term, and its core
abbrev pub place_alone : Place → Tau → Place
place_alone p t = p

abbrev pub with_type : Place → Tau → Note
with_type p t = record { place = p; ty = t }

abbrev pub term_behind : ℕ → Tree Place
term_behind before = body_in place_alone before

abbrev pub core_behind : ℕ → Tree Note
core_behind before = body_in with_type before

-- a function
unfoldable pub function_behind : ℕ → Function
function_behind before =
    record {
      at = at (type_row before) 1 (name (before + 1));
      vars = [];
      ty = record { place = place (type_row before) (width before + 4); ty = kernel.arrow cell_type cell_type };
      body = Some (record { param = place (body_row before) (width before + 2); term = term_behind before });
    }

-- the kernel of so many functions, and their cores
unfoldable pub functions : ℕ → List Function
functions zero = []
functions (suc before) = functions before ++ function_behind before ∷ []

unfoldable pub cores : ℕ → List (Option (Tree Note))
cores zero = []
cores (suc before) = cores before ++ Some (core_behind before) ∷ []
