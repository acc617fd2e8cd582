-- What is told of contexts, fields and payloads alone.
use Rattle.std.proofs.Common.{◌≡◌, ◌+◌, true, Option, Some, subst}
use Rattle.cg_heap.specs.Calls.{heap_of}
use Rattle.cg_heap.specs.Reps.{Holds, foot}
use Rattle.cg_refine.proofs.Contexts.{sides}
use Rattle.cg_refine.proofs.Records.{field_read, row_is}
use Rattle.cg_refine.proofs.Variants.{payload_read}
use Rattle.cg_refine.specs.Laws.{FieldsStandAside, PayloadsAreAll, SidesDivide}
use Rattle.cg_eval_operations.specs.Positions.{position}
use Rattle.cg_typing.specs.Parts.{alternative_in, field_in, held, with_part}
use Rattle.cg_update.specs.Machines.{part_at}
use Rattle.cg_update.specs.Turns.{fields_in}
use Rattle.cg_value.specs.Forms as forms
use Rattle.cg_value.specs.Forms.{payload_in}

-- what is there is one
same_there : {A : Type 0} (o : Option A) (x y : A) → o ≡ Some x → o ≡ Some y → x ≡ y
same_there o x y e f = cc

pub sides_divide : SidesDivide
sides_divide world h os m g us vs s k = let r = sides world h os m g us vs s k in (r.left, r.right, r.divided)

pub fields_stand_aside : FieldsStandAside
fields_stand_aside world s n t us row ws v k l at_row at_field =
    let x = field_read world (heap_of s) n t us v k l in
    let same_row : x.row ≡ row = same_there _ x.row row (row_is world n t us v s k l) at_row in
    let same : x.scalars ≡ ws = same_there _ x.scalars ws (subst (λ z. part_at (position n t) (fields_in t) z ≡ Some x.scalars) same_row x.there) at_field in (
      x.rest,
      subst (λ z. Holds world (heap_of s) (held (field_in n t)) z (forms.field v (position n t))) same x.holds,
      λ m q. subst (λ z. foot (heap_of s) m (with_part n true t) us q + foot (heap_of s) m (held (field_in n t)) z q ≡ foot (heap_of s) m t us q) same (x.sum m q),
    )

pub payloads_are_all : PayloadsAreAll
payloads_are_all world h n t us ws v k l e at_place =
    let x = payload_read world h n t us v k l e in
    let same : x.scalars ≡ ws = same_there _ x.scalars ws x.there at_place in (
      subst (λ z. Holds world h (held (alternative_in n t)) z (payload_in v)) same x.holds,
      λ m q. subst (λ z. foot h m (held (alternative_in n t)) z q ≡ foot h m t us q) same (x.same m q),
    )
