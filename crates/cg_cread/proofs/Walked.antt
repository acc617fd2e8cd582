-- What stands behind the tokens that were walked, in each whole division of a text.
use Rattle.std.proofs.Common.{◌≡◌, ℕ, List, [], ◌∷◌, refl, sym, ap, subst}
use Rattle.cg_base.specs.declared.place.Place.{Place}
use Rattle.cg_cread_lexer.proofs.Walking.{walks_divide, none_at_finish, none_at_unknown, no_gap_at_unknown}
use Rattle.cg_cread_lexer.specs.Next.{Cursor, Stands, IsUnknown, Finishes, Walks}
use Rattle.cg_ctree.proofs.Division.{none_at_end, one_token}
use Rattle.cg_ctree.specs.Tokens.{Lexeme, Divides, Lexes}

-- tokens behind which only a gap is left are the whole text
pub walks_whole : (front : List Lexeme) (from at new : Cursor) (place : Place) → Walks from front at → Finishes at place new → Lexes from.rest front
walks_whole front from at new place w f =
    let P : List ℕ → Type 0 = λ x. Divides from.rest front x in
    (f.last, f.space, subst P f.parts (walks_divide front from at w))

-- where only a gap is left no token is
pub finishes_none : (at new : Cursor) (place : Place) (ts : List Lexeme) → Finishes at place new → Lexes at.rest ts → ts ≡ []
finishes_none at new place [] f l = refl
finishes_none at new place (t ∷ ts) f l = absurd (none_at_finish at new place t l.2.0 f l.2.1)

-- where something begins no token, no division goes on
pub unknown_none : (at new : Cursor) (place : Place) (ts : List Lexeme) → IsUnknown at place new → Lexes at.rest ts → ⊥
unknown_none at new place [] u l = no_gap_at_unknown at new place l.0 u l.1 l.2
unknown_none at new place (t ∷ ts) u l = none_at_unknown at new place t l.2.0 u l.2.1

-- where a token stands, each division goes on with it
pub stands_next : (at after : Cursor) (t : Lexeme) (place : Place) (ts : List Lexeme) → Stands at t place after → Lexes at.rest ts → (more : List Lexeme) × (ts ≡ t ∷ more)
stands_next at after t place [] s l = absurd (none_at_end at.rest after.rest l.0 t l.1 l.2 s.takes)
stands_next at after t place (u ∷ us) s l = (us, ap (λ x. x ∷ us) (sym (one_token at.rest after.rest l.2.0 t u s.takes l.2.1).0))
