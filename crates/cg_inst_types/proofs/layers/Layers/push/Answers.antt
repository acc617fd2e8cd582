use Rattle.std.proofs.Common.{sym, subst, tests, arith, ap, ◌∙◌, length, ◌++◌, ◌∷◌, []}
use Rattle.cg_inst_types.specs.Places.{IsIn}
use Rattle.cg_inst_types.specs.Layers.{IsSound, IsKnown, Fits, made}
use Rattle.cg_inst_types.proofs.Sound.{sound_pushed, length_rows}
use Rattle.cg_inst_types.proofs.layers.Layers.push.Goals as goal

pub invariant_of-self-2 : goal.invariant_of-self-2
invariant_of-self-2 c =
    let fits = subst (λ s. Fits s.names s.types c.args.node) (sym c.self.view_is) c.requires.fits in
    let absent = subst (λ s. IsIn s.types (made s.names s.types c.args.node) → ⊥) (sym c.self.view_is) c.requires.absent in
    let known = subst (λ s. IsKnown (s.types ++ made s.names s.types c.args.node ∷ []) (made s.names s.types c.args.node) c.args.fact) (sym c.self.view_is) c.requires.known in
    let count = c.len-at.ensures in
    let room = c.if-at.false in
    subst (IsSound c.self.inside.names) (sym c.in_ok-push.ensures.ok)
    (sound_pushed c.self.inside.names c.self.inside.rows c.self.invariant c.args.node c.args.fact fits (grind (tests, arith)) absent known)

pub returns-clause-place : goal.returns-clause-place
returns-clause-place c = c.len-at.ensures ∙ sym (length_rows c.self.inside.names c.self.inside.rows) ∙ ap (λ s. length s.types) c.self.view_is
