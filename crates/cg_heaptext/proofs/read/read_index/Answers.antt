use Rattle.std.proofs.Common.{rules, ◌≡◌, Err, refl, subst}
use Rattle.cg_base.specs.Types.{type_of}
use Rattle.cg_heaptext_def.specs.HeapText.{IsAbsent}
use Rattle.cg_heaptext_places.specs.Noted.{IsLeast}
use Rattle.cg_heaptext.proofs.Whole.{twice}
use Rattle.cg_heaptext.specs.Faults.{of_address}
use Rattle.cg_heaptext.proofs.read.read_index.Goals as goal

pub returns-in_err-addresses : goal.returns-in_err-addresses
returns-in_err-addresses c = λ h file.
    let gives : c.from_residual.result ≡ Err (of_address c.in_err-addresses.field-0.0) = search rules in
    twice h (type_of c.args.ty.now) c.in_err-addresses.field-0.0 c.from_residual.result gives (c.in_err-addresses.ensures file.bytes h file.spells file.entries)

pub returns-in-Some : goal.returns-in-Some
returns-in-Some c = λ h file.
    let a = c.in_ok-addresses.ensures file.bytes h file.spells file.entries in
    let least = subst (IsLeast (IsAbsent h)) c.in-Some.is (c.judge_mentions-mentions.ensures.absent file.bytes h file.spells file.entries a.1) in
    (a.0, (c.in-Some.place, least, refl))

pub returns : goal.returns
returns c = λ h file.
    let a = c.in_ok-addresses.ensures file.bytes h file.spells file.entries in
    let never = subst (IsLeast (IsAbsent h)) c.in-None.is (c.judge_mentions-mentions.ensures.absent file.bytes h file.spells file.entries a.1) in
    c.read_typed.ensures h (record { file = file; map = a.1; apart = λ t. a.0; known = λ t. never }) (c.judge_mentions-mentions.ensures.out file.bytes h file.spells file.entries)
