use Rattle.std.proofs.Common.{rules, ◌≡◌, Err, sym, ap, ◌∙◌, subst}
use Rattle.cg_base.specs.Types.{type_of}
use Rattle.cg_heaptext_def.specs.HeapText.{IsOver}
use Rattle.cg_heaptext_places.specs.Noted.{IsLeast, joined}
use Rattle.cg_heaptext.proofs.Faulting.{over_least}
use Rattle.cg_heaptext.proofs.Reaching.{are_read}
use Rattle.cg_heaptext.proofs.Whole.{fails, misfit}
use Rattle.cg_heaptext.specs.Faults.{of_judge}
use Rattle.cg_heaptext.proofs.read.read_typed.Goals as goal

pub returns-in_err-judged : goal.returns-in_err-judged
returns-in_err-judged c = λ h sound out.
    let t = type_of c.args.ty.now in
    let file = sound.file in
    let gives : c.from_residual.result ≡ Err (of_judge c.in_err-judged.field-0.0) = search rules in
    misfit h t c.in_err-judged.field-0.0 c.from_residual.result gives (sound.apart t) (sound.known t) (c.in_err-judged.ensures file.bytes h file.spells file.entries sound.map (sound.apart t) (sound.known t))

pub returns-in_err-no_fault : goal.returns-in_err-no_fault
returns-in_err-no_fault c = λ h sound out.
    let t = type_of c.args.ty.now in
    let file = sound.file in
    let j = c.in_ok-judged.ensures file.bytes h file.spells file.entries sound.map (sound.apart t) (sound.known t) in
    let placing = c.in_ok-placing.ensures h t file.entries.entries (are_read h (sound.apart t) t c.in_ok-judged.judged.mentions j.3) in
    let over = subst (IsLeast (IsOver h t)) (ap (λ a. joined a c.args.out) (sym c.earliest.ensures) ∙ sym c.earliest-over.ensures) (over_least h t c.in_ok-judged.judged.over c.in_ok-placing.placing.over c.args.out j.1 placing.over out) in
    let gives : c.from_residual-in_err-no_fault.result ≡ Err c.in_err-no_fault.field-0.0 = search rules in
    fails h t c.in_err-no_fault.field-0.0 c.from_residual-in_err-no_fault.result gives (c.in_err-no_fault.ensures h t (sound.apart t, sound.known t, j.0) over j.2 placing.large)

pub returns : goal.returns
returns c = λ h sound out.
    let t = type_of c.args.ty.now in
    let file = sound.file in
    let j = c.in_ok-judged.ensures file.bytes h file.spells file.entries sound.map (sound.apart t) (sound.known t) in
    let placing = c.in_ok-placing.ensures h t file.entries.entries (are_read h (sound.apart t) t c.in_ok-judged.judged.mentions j.3) in
    let over = subst (IsLeast (IsOver h t)) (ap (λ a. joined a c.args.out) (sym c.earliest.ensures) ∙ sym c.earliest-over.ensures) (over_least h t c.in_ok-judged.judged.over c.in_ok-placing.placing.over c.args.out j.1 placing.over out) in
    let none = c.in_ok-no_fault.ensures h t (sound.apart t, sound.known t, j.0) over j.2 placing.large in
    (none, λ narrow. c.in_ok-start.ensures h sound none narrow j.3 placing)
