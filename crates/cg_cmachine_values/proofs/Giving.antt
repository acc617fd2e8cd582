-- Values where types are needed.
use Rattle.std.proofs.Common.{rules, ◌≡◌, ℕ, true, false, cond, List, refl}
use Rattle.std.specs.Bool.{nat_eq}
use Rattle.std.specs.Str.{bytes_eq}
use Rattle.cg_base.specs.declared.kind.Word.{Word}
use Rattle.cg_cmachine_layout.specs.declared.shape.Shape.{Shape}
use Rattle.cg_cmachine_layout.specs.Kinds.{shape_layout}
use Rattle.cg_cmachine_layout.proofs.Groups.{shape_grouped, one_word as size_word, one_pointer as size_pointer}
use Rattle.cg_cmachine_def.specs.Layouts.{Layout, Members, cell, pointer, group, same_layout, size, sizes}
use Rattle.cg_cmachine_def.specs.Operands.{literal, typed, give}
use Rattle.cg_cmachine_def.specs.Outcomes.{ok, no}
use Rattle.cg_ctree.specs.declared.why.Why.TheVariants.{KindsDiffer}
use Rattle.cg_heap.specs.declared.cell.Scalar.{Scalar}
use Rattle.cg_base.proofs.Truths.{and_right as both}

-- ---- a struct's layout is none of a word or a pointer

group_literal : (l : Layout) (x : List ℕ) (ms : Members) (n : ℕ) → l ≡ group x ms → give l (literal n) ≡ no KindsDiffer
group_literal l x ms n e = rw e refl

-- no number is a struct
pub shape_literal : (s : Shape) (n : ℕ) → give (shape_layout s) (literal n) ≡ no KindsDiffer
shape_literal s n = group_literal (shape_layout s) _ _ n (shape_grouped s)

-- scalars of a type are given where it is the same
pub give_typed : (l k : Layout) (us : List Scalar) → give l (typed k us) ≡ cond (same_layout l k) (ok us) (no KindsDiffer)
give_typed (cell w) k us = refl
give_typed (pointer x) k us = refl
give_typed (group x ms) k us = refl

group_word : (l : Layout) (x : List ℕ) (ms : Members) (w : Word) → l ≡ group x ms → same_layout l (cell w) ≡ false
group_word l x ms w e = rw e refl

word_group : (l : Layout) (x : List ℕ) (ms : Members) (w : Word) → l ≡ group x ms → same_layout (cell w) l ≡ false
word_group l x ms w e = rw e refl

group_pointer : (l : Layout) (x y : List ℕ) (ms : Members) → l ≡ group x ms → same_layout l (pointer y) ≡ false
group_pointer l x y ms e = rw e refl

pointer_group : (l : Layout) (x y : List ℕ) (ms : Members) → l ≡ group x ms → same_layout (pointer y) l ≡ false
pointer_group l x y ms e = rw e refl

pub shape_word : (s : Shape) (w : Word) → same_layout (shape_layout s) (cell w) ≡ false
shape_word s w = group_word (shape_layout s) _ _ w (shape_grouped s)

pub word_shape : (s : Shape) (w : Word) → same_layout (cell w) (shape_layout s) ≡ false
word_shape s w = word_group (shape_layout s) _ _ w (shape_grouped s)

pub shape_pointer : (s : Shape) (y : List ℕ) → same_layout (shape_layout s) (pointer y) ≡ false
shape_pointer s y = group_pointer (shape_layout s) _ y _ (shape_grouped s)

pub pointer_shape : (s : Shape) (y : List ℕ) → same_layout (pointer y) (shape_layout s) ≡ false
pointer_shape s y = pointer_group (shape_layout s) _ y _ (shape_grouped s)

-- ---- values of the same type have as many slots

pub same_sizes : (l k : Layout) → same_layout l k ≡ true → size l ≡ size k
unfolding size
same_sizes (cell v) (cell w) e = refl
same_sizes (pointer x) (pointer y) e = refl
same_sizes (group x ms) (group y ns) e = let equal : nat_eq (sizes ms) (sizes ns) ≡ true = both (bytes_eq x y) _ e in search (rules, equal)
same_sizes (cell v) (pointer y) e = absurd (search (rules, e))
same_sizes (cell v) (group y ns) e = absurd (search (rules, e))
same_sizes (pointer x) (cell w) e = absurd (search (rules, e))
same_sizes (pointer x) (group y ns) e = absurd (search (rules, e))
same_sizes (group x ms) (cell w) e = absurd (search (rules, e))
same_sizes (group x ms) (pointer y) e = absurd (search (rules, e))

pub ruleset giving_steps = (size_word, size_pointer, shape_literal, give_typed, shape_word, word_shape, shape_pointer, pointer_shape, same_sizes)
