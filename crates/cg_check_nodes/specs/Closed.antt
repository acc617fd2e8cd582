-- Parts of a node whose own variables go out of scope, and what is put into their derivations.
use Rattle.std.specs.Prelude.{ℕ, suc, Option, List, ◌++◌}
use Rattle.cg_base.specs.declared.place.Place.{Place}
use Rattle.cg_core.specs.declared.derivation.Node.TheVariants.{Case, If, LetBang}
use Rattle.cg_core.specs.Derivations.{Derivation}
use Rattle.cg_check_def.specs.Pass.{Got}
use Rattle.cg_check_uses.specs.declared.entry.Use.{Use}
use Rattle.cg_check_uses.specs.Marks.{marks_of_uses, marks_seen, settled, kept_beside, kept_new, kept_seen, two_parts, three_parts}
use Rattle.cg_check_uses.specs.Uses.{join, last, front}

-- a part with these uses
abbrev pub with_uses : List Use → Got → Got
with_uses uses u = record { ty = u.ty; core = u.core; tree = u.tree; uses = uses }

-- where these variables are present
abbrev pub keeping : List ℕ → Got → Got
keeping kept u = record { ty = u.ty; core = u.core; tree = settled kept u.tree; uses = u.uses }

-- behind its last variable
abbrev pub behind_last : Got → Got
behind_last u = with_uses (front u.uses) u

-- the same where that variable was new at a position
abbrev pub closed : ℕ → Got → Got
closed n u = keeping (kept_new n (last u.uses)) (behind_last u)

-- behind its last two variables, which were new at a position and the next
abbrev pub closed_twice : ℕ → Got → Got
closed_twice n u = keeping (kept_new n (last (front u.uses)) ++ kept_new (suc n) (last u.uses)) (behind_last (behind_last u))

-- the parts of a `let!` that observes some variables
abbrev pub observing : List (Option Place) → Got → Got
observing seen u = keeping (kept_seen seen u.uses) u

abbrev pub behind_observers : List (Option Place) → ℕ → Got → Got
behind_observers seen n u = keeping (kept_seen seen (front u.uses) ++ kept_new n (last u.uses)) (behind_last u)

-- the derivation of a `let!` that observes some variables, and whose own was new at a position
abbrev pub observed_tree : List (Option Place) → ℕ → Got → Got → Derivation
observed_tree seen n u v = two_parts LetBang (marks_seen seen u.uses (front v.uses)) (observing seen u).tree (behind_observers seen n v).tree

-- a branch beside another that does this with each variable
abbrev pub beside : List Use → Got → Got
beside other u = keeping (kept_beside u.uses other) u

-- the derivation of a conditional
abbrev pub chosen_tree : Got → Got → Got → Derivation
chosen_tree u v w = three_parts If (marks_of_uses u.uses (join v.uses w.uses)) u.tree (beside w.uses v).tree (beside v.uses w).tree

-- a branch behind a variable that was new at a position, with which it does this, beside another
abbrev pub closed_beside : ℕ → Use → List Use → Got → Got
closed_beside n given other u = keeping (kept_beside u.uses other ++ kept_new n given) u

-- the derivation of a match whose branches bind a new variable at a position
abbrev pub matched_tree : ℕ → Got → Got → Got → Derivation
matched_tree n u v w =
    three_parts Case (marks_of_uses u.uses (join (front v.uses) (front w.uses))) u.tree
    (closed_beside n (last v.uses) (front w.uses) (behind_last v)).tree (closed_beside n (last w.uses) (front v.uses) (behind_last w)).tree
