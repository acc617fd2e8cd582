use Rattle.std.proofs.Common.{◌≡◌, sym, subst, ◌∙◌, nat_eq, length}
use Rattle.std.specs.List.{position_or_len}
use Rattle.std.specs.Map.{keys_of}
use Rattle.cg_lower_def.specs.CTypes.{form}
use Rattle.cg_lower_def.specs.Structs.{numbered_in}
use Rattle.cg_inst_types.specs.Places.{type_at}
use Rattle.cg_lower_tables.specs.Tables.{IsPlainAt}
use Rattle.cg_lower_tables.proofs.Numbers.{first_some, first_none}
use Rattle.cg_lower_tables.proofs.Rows.{place_is, place_at_most}
use Rattle.cg_lower_tables.proofs.structs.Structs.number.Goals as goal

pub returns-in-Some : goal.returns-in-Some
returns-in-Some c =
    let at = subst (λ s. IsPlainAt s.types c.args.at) (sym c.self.view_is) c.requires in
    subst (λ s. c.in-Some.number ≡ numbered_in s.table (form (type_at s.types c.args.at))) c.self.view_is
    (sym (place_is c.self.inside.types c.self.inside.rows.entries c.self.invariant c.stands_once.ensures c.args.at at
    ∙ first_some (position_or_len (nat_eq c.args.at) (keys_of c.self.inside.rows.entries)) (length (keys_of c.self.inside.rows.entries)) c.in-Some.number (sym c.get_index_of.ensures.index ∙ c.in-Some.is)))

pub returns-in-None : goal.returns-in-None
returns-in-None c =
    let at = subst (λ s. IsPlainAt s.types c.args.at) (sym c.self.view_is) c.requires in
    let past = first_none (position_or_len (nat_eq c.args.at) (keys_of c.self.inside.rows.entries)) (length (keys_of c.self.inside.rows.entries)) (sym c.get_index_of.ensures.index ∙ c.in-None.is) in
    subst (λ s. c.len.result ≡ numbered_in s.table (form (type_at s.types c.args.at))) c.self.view_is
    (c.len.ensures.len ∙ place_at_most c.self.inside.types c.self.inside.rows.entries c.self.invariant c.stands_once.ensures c.args.at at past)
