-- Alternatives at a site, one step at a time.
use Rattle.std.proofs.Common.{◌≡◌, ℕ, ◌+◌, ◌≤◌, List, [], ◌∷◌, length, map, Option, Some, None, Result, refl, sym, ap, subst, arith}
use Rattle.std.specs.Option.{option_map}
use Rattle.cg_base.specs.declared.name.Name.{Name}
use Rattle.cg_base.specs.declared.place.Place.{Place}
use Rattle.cg_core.specs.declared.at.At.{At}
use Rattle.cg_core.specs.declared.term.Term.{the_lemmas as term_lemmas}
use Rattle.cg_core.specs.Terms.{term, esac, case_of}
use Rattle.cg_surface.specs.declared.expr.Alt.{Alt}
use Rattle.cg_surface.specs.Exprs.{OneAlt, alt_of}
use Rattle.cg_surface.specs.Patterns.{Pattern, pattern_of}
use Rattle.cg_resolve_def.specs.Terms.{Term, Rest, inner_place, or_empty, bound_to, last_bound}
use Rattle.cg_resolve_sites.specs.declared.fault.TermFault.{TermFault}
use Rattle.cg_resolve_sites.specs.declared.frames.Site.{Site}
use Rattle.cg_resolve_sites.specs.Sites.{scope_in, level, Moved, IsTooDeep, Binds}
use Rattle.cg_resolve_sites.specs.Stands.{under, under_last, under_choices, HasRoom, HasTwo, LacksTwo}
use Rattle.cg_resolve_sites.proofs.FrameLaws.{depth_pos}
use Rattle.cg_resolve_sites.proofs.SiteLaws.{no_room}
use Rattle.cg_resolve_sites.proofs.StandLaws.{bound_under}
use Rattle.cg_resolve_binders.specs.Parts.{case_made}
use Rattle.cg_surface.proofs.Views.{alternative_is as alt_is}

pub ruleset choice_steps = (alt_is, term_lemmas)

-- ---- how far down a subject stands

pub under_none : (choices : List Alt) → length choices ≡ 0 → under_choices (map alt_of choices) ≡ Some 0
under_none [] none = refl
under_none (a ∷ choices) none = absurd (omega arith)

pub under_one : (choices : List Alt) (a : Alt) → choices ≡ a ∷ [] → under_choices (map alt_of choices) ≡ under_last (alt_of a).con (under (alt_of a).pattern)
under_one choices a is = ap (λ l. under_choices (map alt_of l)) is

pub under_more : (choices : List Alt) → 2 ≤ length choices → under_choices (map alt_of choices) ≡ Some 1
under_more [] more = absurd (omega arith)
under_more (a ∷ []) more = absurd (omega arith)
under_more (a ∷ b ∷ choices) more = refl

-- ---- a last alternative

-- the payload has room where the subject has
pub payload_room : (o : Option ℕ) (n depth whole : ℕ) → whole ≡ depth + 1 → HasTwo o n → HasRoom (option_map (λ k. k + 1) o) n depth → HasRoom o n whole
payload_room None n depth whole is two room = tt
payload_room (Some k) n depth whole is two room = λ one. omega (arith, room (omega arith))

-- where that has none, all is too deep
pub payload_deep : (a : Site) (q p : Place) (x : Pattern) (at : At) (e : Term) (n : ℕ) (o : Option ℕ) → n ≡ level a → o ≡ under x → LacksTwo o n → IsTooDeep a (bound_to q x (term p (esac at e)) (scope_in a))
payload_deep a q p x at e n None here is lacks = absurd lacks
payload_deep a q p x at e n (Some k) here is lacks =
    no_room a (bound_to q x (term p (esac at e)) (scope_in a)) (k + 2)
    (λ rest. omega (arith, bound_under q x (term p (esac at e)) (scope_in a) rest k (sym is), depth_pos e)) (omega (arith, lacks, here))

pub last_room : (choice : Alt) (con : Option Name) (n depth : ℕ) → choice.con ≡ con
    → HasRoom (under_last (alt_of choice).con (under (alt_of choice).pattern)) n depth → HasRoom (under_last con (under (pattern_of choice.pat))) n depth
last_room choice con n depth is room =
    subst (λ o. HasRoom (under_last o (under (pattern_of choice.pat))) n depth) is
    (subst (λ (one : OneAlt). HasRoom (under_last one.con (under one.pattern)) n depth) (alt_is choice) room)

pub last_binds : (a b : Site) (choice : Alt) (con : Option Name) (e : Term) (r : Result Unit TermFault) → choice.con ≡ con
    → Binds a (last_bound choice.place con (pattern_of choice.pat) e (scope_in a)) r b
    → Binds a (last_bound (alt_of choice).place (alt_of choice).con (alt_of choice).pattern e (scope_in a)) r b
last_binds a b choice con e r is binds =
    subst (λ (one : OneAlt). Binds a (last_bound one.place one.con one.pattern e (scope_in a)) r b) (sym (alt_is choice))
    (subst (λ o. Binds a (last_bound choice.place o (pattern_of choice.pat) e (scope_in a)) r b) (sym is) binds)

-- ---- a case

pub case_moved : (a b : Site) (choice : Alt) (after : Rest → Term) (name : List ℕ) (q : Place) (e first : Term) → name ≡ or_empty choice.con → q ≡ inner_place (pattern_of choice.pat)
    → Moved a (λ rest. term choice.place (case_of e (record { place = choice.place; name = name }) q first (rest (None ∷ scope_in a)))) b after
    → Moved a (case_made (alt_of choice) e first (scope_in a)) b after
case_moved a b choice after name q e first named place moved =
    subst (λ (one : OneAlt). Moved a (case_made one e first (scope_in a)) b after) (sym (alt_is choice))
    (subst (λ n. Moved a (λ rest. term choice.place (case_of e (record { place = choice.place; name = n }) (inner_place (pattern_of choice.pat)) first (rest (None ∷ scope_in a)))) b after) named
    (subst (λ w. Moved a (λ rest. term choice.place (case_of e (record { place = choice.place; name = name }) w first (rest (None ∷ scope_in a)))) b after) place moved))
