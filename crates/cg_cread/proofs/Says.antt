-- What the machine says of a C text.
use Rattle.std.proofs.Common.{◌≡◌, ℕ, List, [], ◌∷◌, ◌++◌, refl, sym, ◌∙◌, ap, subst, append_assoc, Some, None, true, false, Result, Ok, Err}
use Rattle.std.proofs.lemmas.List.{append-nil}
use Rattle.cg_base.specs.declared.place.Place.{Place}
use Rattle.cg_base.specs.Reader.{Begins}
use Rattle.cg_cread_lexer.proofs.Walking.{walks_more, goes_on}
use Rattle.cg_cread_lexer.specs.Next.{Cursor, start, Stands, IsUnknown, Finishes, Gives, Walks}
use Rattle.cg_cread_lexer.specs.declared.token.TokenKind.{TokenKind}
use Rattle.cg_cread_lexer.specs.declared.token.TokenKind.TheVariants.{Unknown, End}
use Rattle.cg_ctree.specs.declared.tree.CProgram.{CProgram}
use Rattle.cg_ctree.specs.Spells.{SpellsTokens, CSpells}
use Rattle.cg_ctree.specs.Tokens.{Lexeme, Lexes}
use Rattle.cg_ctree.specs.Trees.{Program, program_of}
use Rattle.cg_cread.specs.Answers.{Viable, at_token, at_unknown, at_end, Answers}
use Rattle.cg_cread.specs.Machine.{State, Start, step, is_open, finish}
use Rattle.cg_cread.specs.Views.{Concludes}
use Rattle.cg_cread.specs.declared.fault.CFault.{CFault}
use Rattle.cg_cread.specs.declared.fault.CFault.TheVariants.{Text, Memory}
use Rattle.cg_cread.proofs.Complete.{complete}
use Rattle.cg_cread.proofs.One.{one_program}
use Rattle.cg_cread.proofs.Sound.{sound}
use Rattle.cg_cread.proofs.Steps.{run}
use Rattle.cg_cread.proofs.Viable.{laws}
use Rattle.cg_cread.proofs.Walked.{walks_whole, finishes_none, unknown_none, stands_next}

-- tokens one after another
run_append : (front more : List Lexeme) (s : State) → run s (front ++ more) ≡ run (run s front) more
run_append [] more s = refl
run_append (t ∷ front) more s = run_append front more (step s t)

shut_for_ever : (ts : List Lexeme) (s : State) → is_open s ≡ false → is_open (run s ts) ≡ false
shut_for_ever [] s h = h
shut_for_ever (t ∷ ts) s h = shut_for_ever ts (step s t) (laws.shut s t h)

-- where the machine is open, a program begins; where it is shut, none does
begun : (ts : List Lexeme) → is_open (run Start ts) ≡ true → Begins SpellsTokens ts
begun ts o = let v = laws.viable ts o in (v.0, v.1, sound (ts ++ v.0) v.1 (ap finish (run_append ts v.0 Start) ∙ v.2))

not_begun : (ts : List Lexeme) → is_open (run Start ts) ≡ false → Begins SpellsTokens ts → ⊥
not_begun ts h b =
    let yes : finish (run Start (ts ++ b.0)) ≡ Some b.1 = complete (ts ++ b.0) b.1 b.2 in
    let no : finish (run Start (ts ++ b.0)) ≡ None = ap finish (run_append ts b.0 Start) ∙ laws.no_tree _ (shut_for_ever b.0 (run Start ts) h) in
    cc

-- The tokens that were walked up to a cursor lead to this state, which is open.
pub record Going (bytes : List ℕ) (at : Cursor) (s : State) : Type 0 where
  pub front : List Lexeme
  pub walks : Walks (start bytes) front at
  pub state : s ≡ run Start front
  pub opened : is_open s ≡ true

pub going : (bytes : List ℕ) → Going bytes (start bytes) Start
going bytes = record { front = []; walks = refl; state = refl; opened = refl }

-- one token more
next_state : (front : List Lexeme) (t : Lexeme) (s next : State) → s ≡ run Start front → next ≡ step s t → next ≡ run Start (front ++ t ∷ [])
next_state front t s next e n = n ∙ ap (λ x. step x t) e ∙ sym (run_append front (t ∷ []) Start)

pub keeps_going : (bytes : List ℕ) (at after : Cursor) (t : Lexeme) (place : Place) (s next : State) → Going bytes at s → Stands at t place after → next ≡ step s t → is_open next ≡ true → Going bytes after next
keeps_going bytes at after t place s next g k n o =
    record {
      front = g.front ++ t ∷ [];
      walks = walks_more g.front (start bytes) at after t place g.walks k;
      state = next_state g.front t s next g.state n;
      opened = o;
    }

module _ (bytes : List ℕ) (at : Cursor) (s : State) (g : Going bytes at s) where
  viable : Viable bytes g.front at
  viable = record { walks = g.walks; begins = begun g.front (sym (ap is_open g.state) ∙ g.opened) }

  -- each program that is spelled has tokens that go on from those walked
  further : (p : Program) → CSpells bytes p → (more : List Lexeme) × Lexes at.rest more × SpellsTokens (g.front ++ more) p
  further p sp =
      let w = goes_on bytes g.front sp.0 at g.walks sp.1 in
      (w.0, (w.1, w.3, w.4), let P : List Lexeme → Type 0 = λ ts. SpellsTokens ts p in subst P w.2 sp.2)

  -- at what begins no token
  unknown_answers : (new : Cursor) (place : Place) → IsUnknown at place new → Answers bytes (Err (Text place))
  unknown_answers new place u =
      (g.front, at, viable, at_unknown new u, λ p sp. let f = further p sp in unknown_none at new place f.0 u f.1)

  -- at a token that nothing goes on with
  token_answers : (t : Lexeme) (after : Cursor) (place : Place) (next : State) → Stands at t place after → next ≡ step s t → is_open next ≡ false → Answers bytes (Err (Text place))
  token_answers t after place next k n o =
      let none : Begins SpellsTokens (g.front ++ t ∷ []) → ⊥ = not_begun (g.front ++ t ∷ []) (sym (ap is_open (next_state g.front t s next g.state n)) ∙ o) in (
        g.front,
        at,
        viable,
        at_token t after k none,
        λ p sp.
            let f = further p sp in
            let m = stands_next at after t place f.0 k f.1 in
            let parts : g.front ++ f.0 ≡ (g.front ++ t ∷ []) ++ m.0 = ap (λ x. g.front ++ x) m.1 ∙ sym (append_assoc g.front (t ∷ []) m.0) in
            none (m.0, p, let P : List Lexeme → Type 0 = λ ts. SpellsTokens ts p in subst P parts f.2),
      )

  pub token_kind : (t : Lexeme) (after : Cursor) (place : Place) (next : State) → Stands at t place after → next ≡ step s t → is_open next ≡ false → (r : Result CProgram CFault) → r ≡ Err (Text place) → Answers bytes r
  token_kind t after place next k n o r q = let P : Result CProgram CFault → Type 0 = Answers bytes in subst P (sym q) (token_answers t after place next k n o)

  -- behind the last token
  module _ (new : Cursor) (place : Place) (ends : Finishes at place new) where
    ended : finish s ≡ finish (run Start g.front)
    ended = ap finish g.state

    spelled_here : (p : Program) → CSpells bytes p → SpellsTokens g.front p
    spelled_here p sp =
        let f = further p sp in
        let e : g.front ++ f.0 ≡ g.front = ap (λ x. g.front ++ x) (finishes_none at new place f.0 ends f.1) ∙ append-nil g.front in
        let P : List Lexeme → Type 0 = λ ts. SpellsTokens ts p in subst P e f.2

    -- where no program ends
    none_answers : finish s ≡ None → Answers bytes (Err (Text place))
    none_answers n =
        let none : (p : Program) → SpellsTokens g.front p → ⊥ = λ p sp. let f : finish (run Start g.front) ≡ Some p = complete g.front p sp in let q : finish (run Start g.front) ≡ None = sym ended ∙ n in cc in
        (g.front, at, viable, at_end new ends none, λ p sp. none p (spelled_here p sp))

    -- where one ends
    program_answers : (r : CProgram) → finish s ≡ Some (program_of r) → Answers bytes (Ok r)
    program_answers r e =
        let spelled : CSpells bytes (program_of r) = (g.front, walks_whole g.front (start bytes) at new place g.walks ends, sound g.front (program_of r) (sym ended ∙ e)) in
        (spelled, λ q sp. one_program bytes q (program_of r) sp spelled)

    pub end_answers : (r : Result CProgram CFault) → Concludes (finish s) place r → Answers bytes r
    end_answers (Ok p) c = program_answers p c
    end_answers (Err (Text q)) c = let P : Place → Type 0 = λ x. Answers bytes (Err (Text x)) in subst P (sym c.1) (none_answers c.0)
    end_answers (Err Memory) c = tt

  -- the same, as the lexer tells it
  pub unknown_kind : (k : TokenKind) (t : Lexeme) (new : Cursor) (place : Place) → k ≡ Unknown → Gives k at t place new → (r : Result CProgram CFault) → r ≡ Err (Text place) → Answers bytes r
  unknown_kind k t new place e h r q =
      let u : IsUnknown at place new = let P : TokenKind → Type 0 = λ x. Gives x at t place new in subst P e h in
      let P : Result CProgram CFault → Type 0 = Answers bytes in subst P (sym q) (unknown_answers new place u)

  pub end_kind : (k : TokenKind) (t : Lexeme) (new : Cursor) (place : Place) → k ≡ End → Gives k at t place new → (r : Result CProgram CFault) → Concludes (finish s) place r → Answers bytes r
  end_kind k t new place e h r c =
      let f : Finishes at place new = let P : TokenKind → Type 0 = λ x. Gives x at t place new in subst P e h in
      end_answers new place f r c

-- what is neither of these is a token
pub stands : (k : TokenKind) (at new : Cursor) (t : Lexeme) (place : Place) → (k ≡ Unknown → ⊥) → (k ≡ End → ⊥) → Gives k at t place new → Stands at t place new
stands Unknown at new t place u e g = absurd (u refl)
stands End at new t place u e g = absurd (e refl)
stands _ at new t place u e g = g
