-- What holds of all runs of programs of the C subset.
use Rattle.std.specs.Prelude.{◌≡◌, ℕ, List}
use Rattle.cg_cmachine_laws.specs.Renamed.{renamed_linked}
use Rattle.cg_cmachine_def.specs.Runs.{Linked, find, crun}
use Rattle.cg_heap.specs.declared.cell.Scalar.{Scalar}
use Rattle.cg_heap.specs.Stored.{Stored}

-- what is run doesn't hang on the order of functions, but for which is the first of a name
abbrev pub OrderDoesNotMatter : Type 0
OrderDoesNotMatter =
    (p q : Linked) → p.program.structs ≡ q.program.structs → p.links ≡ q.links → p.asked ≡ q.asked
    → ((x : List ℕ) → find x p.program.functions ≡ find x q.program.functions)
    → (n : ℕ) (x : List ℕ) (us : List Scalar) (m : Stored) → crun p n x us m ≡ crun q n x us m

-- what is run doesn't hang on the names of parameters and locals, as long as different ones of a function stay different
abbrev pub NamesDoNotMatter : Type 0
NamesDoNotMatter =
    (r : List ℕ → List ℕ → List ℕ) → ((f x y : List ℕ) → r f x ≡ r f y → x ≡ y)
    → (p : Linked) (n : ℕ) (x : List ℕ) (us : List Scalar) (m : Stored) → crun (renamed_linked r p) n x us m ≡ crun p n x us m
