use Rattle.std.proofs.Common.{◌≡◌, Some, ◌∙◌, sym, ap, map, slice_get, subst}
use Rattle.cg_core.specs.Terms.{arg_of}
use Rattle.cg_inst.specs.Founds.{Keyed, found_in}
use Rattle.cg_inst.specs.Lists.{with_instances}
use Rattle.cg_kinds.specs.Kinds.{subst as subst_of}
use Rattle.cg_inst_types.specs.Layers.{types_at}
use Rattle.cg_inst_types.specs.Listings.{listing}
use Rattle.cg_typing.specs.Functions.{arg_types}
use Rattle.cg_inst.proofs.FoundSteps.{mention_comes}
use Rattle.cg_inst.proofs.ListSteps.{with_none}
use Rattle.cg_inst.proofs.Standing.{is_listing}
use Rattle.cg_inst.proofs.found.Found.mention.Goals as goal

pub enter-requires : goal.enter-requires
enter-requires c = is_listing c.enter_types.new.table c.in_ok-list-in-Some.list _ c.in_ok-list-in-Some.ensures.place

pub returns-in_ok-list-in-Some-clause-found : goal.returns-in_ok-list-in-Some-clause-found
returns-in_ok-list-in-Some-clause-found c =
    let args = arg_types (map arg_of c.in-Some.args.now) in
    let given = types_at c.args.self.now.types c.args.types.now in
    let there = subst (λ (f : Keyed). slice_get c.enter_types.new.table c.in_ok-list-in-Some.list ≡ Some (listing (map (subst_of (types_at f.types c.args.types.now)) args))) c.self.view_is c.in_ok-list-in-Some.ensures.place in
    mention_comes c.args.self.now c.enter.new.self c.self.inside.table c.enter_types.new.table c.self.inside.keys c.in-Some.fun c.in_ok-list-in-Some.list (map (subst_of given) args) _ c.enter.result
    c.self.view_is c.in_ok-list-in-Some.ensures.kept c.self.invariant there (c.in-Some.ensures given) c.enter.ensures.found

pub returns-in-None-clause-found : goal.returns-in-None-clause-found
returns-in-None-clause-found c =
    let none = c.in-None.ensures (types_at c.args.self.now.types c.args.types.now) in
    sym (with_none (found_in c.args.self.now)) ∙ ap (with_instances (found_in c.args.self.now)) (sym none)
