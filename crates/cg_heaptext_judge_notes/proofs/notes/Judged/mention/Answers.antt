use Rattle.std.proofs.Common.{refl, sym, ap, ◌∙◌}
use Rattle.std.specs.List.{list_any}
use Rattle.cg_base.specs.Types.{type_of}
use Rattle.cg_heaptext_judge_def.specs.Judging.{kept}
use Rattle.cg_heaptext_judge_notes.specs.Notes.{is_shared_at, is_unlike_at}
use Rattle.cg_heaptext_judge_notes.proofs.Mentions.{mention_told, unlike_told}
use Rattle.cg_heaptext_judge_notes.proofs.notes.Judged.mention.Goals as goal

pub returns-then-branch : goal.returns-then-branch
returns-then-branch c = λ ns q at s noted.
    unlike_told ns q c.args.entry at c.args.self.now s noted c.args.place c.args.ty c.args.self.now
    (sym (c.in_ok-is_unlike.ensures ∙ ap (list_any (is_unlike_at c.args.entry (type_of c.args.ty.now))) c.as_slice.ensures) ∙ c.if-branch.true)

pub returns : goal.returns
returns c = λ ns q at s noted.
    mention_told ns q c.args.entry at c.args.self.now s noted c.args.place c.args.ty _
    (sym (c.in_ok-is_unlike.ensures ∙ ap (list_any (is_unlike_at c.args.entry (type_of c.args.ty.now))) c.as_slice.ensures) ∙ c.if-branch.false)
    c.in_ok-push.ensures.ok
    refl
    (
    c.first_alias-self.ensures
    ∙ ap (λ is. kept c.args.self.now.aliased is c.args.place)
    (c.is_shared-is_alias.ensures ∙ ap (list_any (is_shared_at c.args.entry (type_of c.args.ty.now))) c.as_slice-2.ensures)
    )
