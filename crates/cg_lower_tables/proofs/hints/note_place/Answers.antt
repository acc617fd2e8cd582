use Rattle.std.proofs.Common.{◌≡◌, [], ◌∷◌, ◌++◌, ap, sym, ◌∙◌, is_some, false}
use Rattle.std.specs.Map.{lookup}
use Rattle.cg_lower_tables.specs.contracts.keys.KeyPartialEq.TheImpl.{ghosts}
use Rattle.cg_lower_tables.specs.Hints.{same_key}
use Rattle.cg_lower_tables.proofs.HintSteps.{inserted, lookup_held, lookup_kept, lookup_low}
use Rattle.cg_lower_tables.proofs.KeySteps.{lookup_same, same_key_self}
use Rattle.cg_lower_tables.proofs.hints.note_place.Goals as goal

-- the entries with the new one last
last : (c : goal.In_ok-insert) → c.insert.new.self.entries ≡ c.args.places.now.entries ++ (c.args.key, c.args.at) ∷ []
last c =
    let none : is_some (lookup (ghosts.eq c.args.key) c.args.places.now.entries) ≡ false =
    ap is_some (lookup_same c.args.key c.args.places.now.entries ∙ sym c.place_hint.ensures) ∙ sym c.is_some.ensures ∙ c.if-is_some.false in
    c.in_ok-insert.ensures.entries ∙ inserted ghosts.eq c.args.key c.args.at c.args.places.now.entries none

pub returns-clause-kept : goal.returns-clause-kept
returns-clause-kept c q j e = ap (lookup (same_key q)) (last c) ∙ lookup_kept (same_key q) c.args.key c.args.at c.args.places.now.entries j e

pub returns-clause-low : goal.returns-clause-low
returns-clause-low c q j e = lookup_low (same_key q) c.args.key c.args.at c.args.places.now.entries j (ap (lookup (same_key q)) (sym (last c)) ∙ e)

pub returns-clause-held : goal.returns-clause-held
returns-clause-held c =
    let held = lookup_held (same_key c.args.key) c.args.key c.args.at (same_key_self c.args.key) c.args.places.now.entries in
    (held.0, ap (lookup (same_key c.args.key)) (last c) ∙ held.1)
