use Rattle.std.proofs.Common.{sym, refl, ◌∙◌}
use Rattle.cg_cmachine_values.proofs.Reading.{word_there, word_nowhere, pointer_there, pointer_nowhere}
use Rattle.cg_cmachine_values.proofs.read.read_behind.Goals as goal

pub returns-in-None-get : goal.returns-in-None-get
returns-in-None-get g c = rw c.in-Some.is (word_nowhere (g.S.Store.stored c.args.store.now) _ _ c.in-Word.word c.in-Word.is (sym c.get.ensures ∙ c.in-None-get.is))

pub returns-in-Some-get : goal.returns-in-Some-get
returns-in-Some-get g c =
    let read = word_there (g.S.Store.stored c.args.store.now) _ _ c.in-Word.word _ c.in-Word.is (sym c.get.ensures ∙ c.in-Some-get.is) in
    rw (c.in-Some.is, read) c.word_value.ensures

pub returns-in-None-get-2 : goal.returns-in-None-get-2
returns-in-None-get-2 g c = rw c.in-Some.is (pointer_nowhere (g.S.Store.stored c.args.store.now) _ _ _ c.in-Pointer.name.now c.in-Pointer.is refl (sym c.get-in-Pointer.ensures ∙ c.in-None-get-2.is))

pub returns-in-Some-get-2 : goal.returns-in-Some-get-2
returns-in-Some-get-2 g c =
    let read = pointer_there (g.S.Store.stored c.args.store.now) _ _ _ c.in-Pointer.name.now _ c.in-Pointer.is refl (sym c.get-in-Pointer.ensures ∙ c.in-Some-get-2.is) in
    rw (c.in-Some.is, read) c.pointer_value.ensures
