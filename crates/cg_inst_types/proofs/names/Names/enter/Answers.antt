use Rattle.std.proofs.Common.{◌≡◌, sym, subst, ap, ◌∙◌, length, slice_get, ◌++◌, ◌∷◌, [], map}
use Rattle.std.specs.Cmp.Lexicographic.{bytes_decides, pointwise}
use Rattle.std.specs.Prelude.{nat_eq}
use Rattle.std.proofs.lemmas.List.{length-map}
use Rattle.cg_inst_types.specs.Places.{IsOnce, IsIn}
use Rattle.cg_inst_types.proofs.Growth.{get_last, once_push}
use Rattle.cg_inst_types.proofs.Searches.{entered}
use Rattle.cg_inst_types.proofs.names.Names.enter.Goals as goal

-- the names with the new one last
grown : (c : goal.In_ok-insert) → map (λ bytes. bytes.items) c.insert.new.self.keys ≡ c.args.self.now ++ c.args.bytes.now ∷ []
grown c =
    let absent = subst (λ names. IsIn names c.args.bytes.now → ⊥) (sym c.self.view_is) c.in_default.ensures in
    entered (λ bytes. bytes.items) (λ a b. pointwise nat_eq a.items b.items) c.in_ok-copied.field-0 c.args.bytes.now c.in_ok-copied.ensures
    (λ x p. sym ((bytes_decides c.in_ok-copied.field-0.items x.items).0 p)) c.self.inside.names.keys c.insert.new.self.keys c.in_ok-insert.ensures.keys absent
    ∙ ap (λ names. names ++ c.args.bytes.now ∷ []) c.self.view_is

pub returns-clause-place : goal.returns-clause-place
returns-clause-place c =
    let count : c.len-at.result ≡ length c.args.self.now =
    c.len-at.ensures.len ∙ sym (length-map c.self.inside.names.keys (λ bytes. bytes.items)) ∙ ap length c.self.view_is in
    ap (λ names. slice_get names c.len-at.result) (grown c)
    ∙ ap (slice_get (c.args.self.now ++ c.args.bytes.now ∷ [])) count
    ∙ get_last c.args.self.now c.args.bytes.now

pub returns-clause-once : goal.returns-clause-once
returns-clause-once c once = subst IsOnce (sym (grown c)) (once_push c.args.self.now c.args.bytes.now once c.in_default.ensures)
