-- What operands that are structs are asked for.
use Rattle.std.proofs.Common.{◌≡◌, ℕ, List, refl}
use Rattle.cg_base.specs.declared.kind.Word.{Word}
use Rattle.cg_cmachine_layout.specs.declared.shape.Shape.{Shape}
use Rattle.cg_cmachine_layout.specs.Kinds.{shape_layout}
use Rattle.cg_cmachine_layout.proofs.Groups.{shape_grouped}
use Rattle.cg_cmachine_def.specs.BuiltIns.{is_there, number_of, pointer_of}
use Rattle.cg_cmachine_def.specs.Layouts.{Layout, Members, group, pointer, members_of}
use Rattle.cg_cmachine_def.specs.Operands.{typed, give}
use Rattle.cg_cmachine_def.specs.Outcomes.{ok, no}
use Rattle.cg_ctree.specs.declared.why.Why.TheVariants.{KindsDiffer}
use Rattle.cg_heap.specs.declared.cell.Scalar.{Scalar}
use Rattle.cg_heap.specs.Stored.{Stored}

there_group : (m : Stored) (l : Layout) (x : List ℕ) (ms : Members) (us : List Scalar) → l ≡ group x ms → is_there m (typed l us) ≡ ok tt
there_group m l x ms us e = rw e refl

number_group : (w : Word) (l : Layout) (x : List ℕ) (ms : Members) (us : List Scalar) → l ≡ group x ms → number_of w (typed l us) ≡ no KindsDiffer
number_group w l x ms us e = rw e refl

pointer_group : (y : List ℕ) (l : Layout) (x : List ℕ) (ms : Members) (us : List Scalar) → l ≡ group x ms → pointer_of (pointer y) (typed l us) ≡ no KindsDiffer
pointer_group y l x ms us e = rw e refl

give_group : (l : Layout) (y x : List ℕ) (ms : Members) (us : List Scalar) → l ≡ group x ms → give l (typed (pointer y) us) ≡ no KindsDiffer
give_group l y x ms us e = rw e refl

-- a struct is no pointer, of which nothing is asked
pub there_struct : (m : Stored) (s : Shape) (us : List Scalar) → is_there m (typed (shape_layout s) us) ≡ ok tt
there_struct m s us = there_group m (shape_layout s) s.name.now (members_of (shape_layout s)) us (shape_grouped s)

-- nor a number
pub number_struct : (w : Word) (s : Shape) (us : List Scalar) → number_of w (typed (shape_layout s) us) ≡ no KindsDiffer
number_struct w s us = number_group w (shape_layout s) s.name.now (members_of (shape_layout s)) us (shape_grouped s)

-- nor an address
pub pointer_struct : (y : List ℕ) (s : Shape) (us : List Scalar) → pointer_of (pointer y) (typed (shape_layout s) us) ≡ no KindsDiffer
pointer_struct y s us = pointer_group y (shape_layout s) s.name.now (members_of (shape_layout s)) us (shape_grouped s)

-- and a pointer is none
pub give_struct : (s : Shape) (y : List ℕ) (us : List Scalar) → give (shape_layout s) (typed (pointer y) us) ≡ no KindsDiffer
give_struct s y us = give_group (shape_layout s) y s.name.now (members_of (shape_layout s)) us (shape_grouped s)

pub ruleset struct_steps = (there_struct, number_struct, pointer_struct, give_struct)
