use Rattle.std.proofs.Common.{◌≡◌, ap, ◌∙◌}
use Rattle.cg_base.specs.Same.{same_type}
use Rattle.cg_base.specs.Types.{type_of}
use Rattle.cg_kinds.specs.Shapes.{shape as shape_of}
use Rattle.cg_heaptext_judge_notes.proofs.Alike.{shapes_same, tests_same}
use Rattle.cg_heaptext_judge_notes.proofs.types.same_shape.Goals as goal

pub returns-then-same : goal.returns-then-same
returns-then-same c = shapes_same (type_of c.args.a.now) (type_of c.args.b.now) (c.same.ensures.0 c.if-same.true)

pub returns : goal.returns
returns c =
    let first : type_of c.shape-first.result ≡ shape_of (type_of c.args.a.now) = c.shape-first.ensures ∙ ap shape_of c.in_ok-copy.ensures in
    let second : type_of c.shape-second.result ≡ shape_of (type_of c.args.b.now) = c.shape-second.ensures ∙ ap shape_of c.in_ok-copy-2.ensures in
    tests_same c.same-2.result (type_of c.shape-first.result) (type_of c.shape-second.result) c.same-2.ensures ∙ (λ i. same_type (first i) (second i))
