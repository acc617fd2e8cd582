-- What a reader over bounded items says of a source, where it follows one that is exact.
use Rattle.std.proofs.Common.{◌≡◌, ℕ, ◌≤◌, List, [], ◌∷◌, ◌++◌, map, refl, sym, ◌∙◌, ap, subst, Option, Some, None, Bool, true, false, cond, append_assoc, Result, Ok, Err}
use Rattle.std.specs.Prelude.{nat_le}
use Rattle.std.specs.Result.{IsErrAnd}
use Rattle.std.proofs.lemmas.Bool.{leb-true, leb-false}
use Rattle.std.proofs.lemmas.List.{append-nil, map-append}
use Rattle.cg_base.specs.declared.place.Place.{Place}
use Rattle.cg_base.specs.Reader.{Reader, Reads, run, Begins}
use Rattle.cg_base.specs.Places.{place_after}
use Rattle.cg_lexer.specs.Gaps.{IsSpace}
use Rattle.cg_lexer.specs.Tokens.{Lexeme, Cursor, start, Takes, Divides, Lexes}
use Rattle.cg_lexer.specs.declared.token.TokenKind.{TokenKind}
use Rattle.cg_lexer.specs.declared.token.TokenKind.TheVariants.{End}
use Rattle.cg_lexer.specs.declared.token.LexFault.{LexFault}
use Rattle.cg_lexer.specs.declared.token.LexFault.TheVariants.{UnknownByte, OpenComment}
use Rattle.cg_lexer.specs.Next.{IsFault, Next, Gives, Finishes}
use Rattle.cg_lexer.proofs.Division.{one_token, none_in_space, none_at_fault, some_at_fault, divides_more, goes_on, no_more}
use Rattle.cg_surface.specs.declared.program.Program.{Program}
use Rattle.cg_surface.specs.Programs.{Entry, program_of, program_depth}
use Rattle.cg_parser_symbols.specs.Symbols.{Seen, seen}
use Rattle.cg_parser_symbols.specs.Follows.{Follows, option_map}
use Rattle.cg_parser_def.specs.Grammar.{SpellsTokens, Spells}
use Rattle.cg_parser_def.specs.Bounded.{within_program, depth_limit}
use Rattle.cg_parser.specs.Answers.{Viable, at_token, at_end, IsWrongBarIn, Answers, Concludes, lexer_fault}
use Rattle.cg_parser.specs.declared.fault.ParseFault.{ParseFault}
use Rattle.cg_parser.specs.declared.fault.ParseFault.TheVariants.{S1, S2, S3, S4, Nesting, Memory}
use Rattle.cg_parser.proofs.Parts.{run_append, same_run}

module _ {S H : Type 0} (plain : Reader S Seen (List Entry)) (bounded : Reader H Seen (Option (List Entry))) (held : S → H) (laws : Reads plain SpellsTokens)
    (follows : Follows plain bounded held within_program) (is_wrong : H → Bool)
    (wrong_is : (front : List Seen) (t : Seen) → plain.is_open (run plain plain.begin front) ≡ true → is_wrong (bounded.step (run bounded bounded.begin front) t) ≡ true → IsWrongBarIn front t)
    (wrong_told : (front : List Seen) (t : Seen) → IsWrongBarIn front t → is_wrong (bounded.step (run bounded bounded.begin front) t) ≡ true) where
  bounded_run : (ts : List Seen) → run bounded bounded.begin ts ≡ held (run plain plain.begin ts)
  bounded_run = same_run plain bounded held within_program follows

  shut_for_ever : (ts : List Seen) (s : S) → plain.is_open s ≡ false → plain.is_open (run plain s ts) ≡ false
  shut_for_ever [] s h = h
  shut_for_ever (t ∷ ts) s h = shut_for_ever ts (plain.step s t) (laws.shut s t h)

  -- where the machine is open, a program begins; where it is shut, none does
  begun : (ts : List Seen) → plain.is_open (run plain plain.begin ts) ≡ true → Begins SpellsTokens ts
  begun ts o = let v = laws.viable ts o in (v.0, v.1, laws.sound (ts ++ v.0) v.1 (ap plain.finish (run_append plain ts v.0 plain.begin) ∙ v.2))

  not_begun : (ts : List Seen) → plain.is_open (run plain plain.begin ts) ≡ false → Begins SpellsTokens ts → ⊥
  not_begun ts h b =
      let yes : plain.finish (run plain plain.begin (ts ++ b.0)) ≡ Some b.1 = laws.complete (ts ++ b.0) b.1 b.2 in
      let no : plain.finish (run plain plain.begin (ts ++ b.0)) ≡ None = ap plain.finish (run_append plain ts b.0 plain.begin) ∙ laws.no_tree _ (shut_for_ever b.0 (run plain plain.begin ts) h) in
      cc

  -- The tokens that were taken up to a cursor lead to this state, which is open.
  pub record Going (bytes : List ℕ) (at : Cursor) (s : H) : Type 0 where
    pub front : List Lexeme
    pub divides : Divides (start bytes) front at
    pub state : s ≡ run bounded bounded.begin (map seen front)
    pub opened : bounded.is_open s ≡ true

  pub going : (bytes : List ℕ) (at : Cursor) (s : H) → at ≡ start bytes → s ≡ bounded.begin → Going bytes at s
  going bytes at s e b = record { front = []; divides = sym e; state = b; opened = ap bounded.is_open (b ∙ follows.begins) ∙ follows.opens plain.begin ∙ laws.begins }

  -- one token more
  next_state : (front : List Lexeme) (t : Lexeme) (s next : H) → s ≡ run bounded bounded.begin (map seen front) → next ≡ bounded.step s (seen t) → next ≡ run bounded bounded.begin (map seen front ++ seen t ∷ [])
  next_state front t s next e n = n ∙ ap (λ x. bounded.step x (seen t)) e ∙ sym (run_append bounded (map seen front) (seen t ∷ []) bounded.begin)

  pub keeps_going : (bytes : List ℕ) (at after : Cursor) (t : Lexeme) (s next : H) → Going bytes at s → Takes at t after → next ≡ bounded.step s (seen t) → bounded.is_open next ≡ true → Going bytes after next
  keeps_going bytes at after t s next g k n o =
      record {
        front = g.front ++ t ∷ [];
        divides = divides_more g.front (start bytes) at after t g.divides k;
        state = next_state g.front t s next g.state n ∙ ap (run bounded bounded.begin) (sym (map-append seen g.front (t ∷ [])));
        opened = o;
      }

  plain_open : (ts : List Seen) (s : H) (b : Bool) → s ≡ run bounded bounded.begin ts → bounded.is_open s ≡ b → plain.is_open (run plain plain.begin ts) ≡ b
  plain_open ts s b e o = sym (follows.opens (run plain plain.begin ts)) ∙ ap bounded.is_open (sym (e ∙ bounded_run ts)) ∙ o

  -- where a token shuts the machine, none begins with it
  pub shut_none : (front : List Lexeme) (t : Lexeme) (s next : H) → s ≡ run bounded bounded.begin (map seen front) → next ≡ bounded.step s (seen t) → bounded.is_open next ≡ false → Begins SpellsTokens (map seen front ++ seen t ∷ []) → ⊥
  shut_none front t s next e n o = not_begun _ (plain_open (map seen front ++ seen t ∷ []) next false (next_state front t s next e n) o)

  viable : (bytes : List ℕ) (at : Cursor) (s : H) (g : Going bytes at s) → Viable bytes g.front at
  viable bytes at s g = record { divides = g.divides; begins = begun (map seen g.front) (plain_open (map seen g.front) s true g.state g.opened) }

  module _ (bytes : List ℕ) (at : Cursor) (s : H) (g : Going bytes at s) where
    -- each division goes on from here
    further : (ts : List Lexeme) → Lexes bytes ts → (last : Cursor) × (more : List Lexeme) × (ts ≡ g.front ++ more) × Divides at more last × IsSpace last.rest
    further ts l = let r = goes_on g.front (start bytes) at l.0 ts g.divides l.1 l.2 in (l.0, r.0, r.1, r.2, l.2)

    fault_ends : (f : LexFault) (more : List Lexeme) (last : Cursor) → IsFault at f → Divides at more last → IsSpace last.rest → ⊥
    fault_ends f [] last u d w = some_at_fault at f u (let P : Cursor → Type 0 = λ c. IsSpace c.rest in subst P (sym d) w)
    fault_ends f (t ∷ more) last u d w = none_at_fault at d.0 t f u d.1

    no_program : (f : LexFault) → IsFault at f → (p : List Entry) → Spells bytes p → ⊥
    no_program f u p spelled = let r = further spelled.0 spelled.1 in fault_ends f r.1 r.0 u r.3 r.4

    -- where the lexer finds a fault
    pub lexer_answers : (f : LexFault) → IsFault at f → Answers bytes (Err (lexer_fault f))
    lexer_answers (UnknownByte place) u = (g.front, at, viable bytes at s g, u, no_program (UnknownByte place) u)
    lexer_answers (OpenComment place) u = (g.front, at, viable bytes at s g, u, no_program (OpenComment place) u)

    token_ends : (t : Lexeme) (after : Cursor) (p : List Entry) (more : List Lexeme) (last : Cursor) → Takes at t after → (Begins SpellsTokens (map seen g.front ++ seen t ∷ []) → ⊥) → Divides at more last → IsSpace last.rest → SpellsTokens (map seen (g.front ++ more)) p → ⊥
    token_ends t after p [] last k none d w sp = none_in_space at after t (let P : Cursor → Type 0 = λ c. IsSpace c.rest in subst P (sym d) w) k
    token_ends t after p (u ∷ more) last k none d w sp =
        let same : t ≡ u = (one_token at after d.0 t u k d.1).0 in
        let parts : map seen (g.front ++ u ∷ more) ≡ (map seen g.front ++ seen t ∷ []) ++ map seen more = map-append seen g.front (u ∷ more) ∙ ap (λ x. map seen g.front ++ seen x ∷ map seen more) (sym same) ∙ sym (append_assoc (map seen g.front) (seen t ∷ []) (map seen more)) in
        none (map seen more, p, let P : List Seen → Type 0 = λ xs. SpellsTokens xs p in subst P parts sp)

    none_with : (t : Lexeme) (next : H) → next ≡ bounded.step s (seen t) → bounded.is_open next ≡ false → Begins SpellsTokens (map seen g.front ++ seen t ∷ []) → ⊥
    none_with t next = shut_none g.front t s next g.state

    none_spelled : (t : Lexeme) (after : Cursor) (next : H) → Takes at t after → next ≡ bounded.step s (seen t) → bounded.is_open next ≡ false → (p : List Entry) → Spells bytes p → ⊥
    none_spelled t after next k n o p spelled =
        let r = further spelled.0 spelled.1 in
        token_ends t after p r.1 r.0 k (none_with t next n o) r.3 r.4 (let P : List Lexeme → Type 0 = λ xs. SpellsTokens (map seen xs) p in subst P r.2 spelled.2)

    stepped : (t : Lexeme) (next : H) (b : Bool) → next ≡ bounded.step s (seen t) → is_wrong next ≡ b → is_wrong (bounded.step (run bounded bounded.begin (map seen g.front)) (seen t)) ≡ b
    stepped t next b n w = ap (λ x. is_wrong (bounded.step x (seen t))) (sym g.state) ∙ ap is_wrong (sym n) ∙ w

    -- at a token that nothing goes on with
    pub token_answers : (t : Lexeme) (after : Cursor) (next : H) → Takes at t after → next ≡ bounded.step s (seen t) → bounded.is_open next ≡ false → is_wrong next ≡ false → Answers bytes (Err (S3 t.place))
    token_answers t after next k n o w = (
      g.front,
      at,
      viable bytes at s g,
      at_token t after k refl (none_with t next n o) (λ wrong. let no = wrong_told (map seen g.front) (seen t) wrong in let yes = stepped t next false n w in cc),
      none_spelled t after next k n o,
    )

    -- at a bar at a wrong column
    pub bar_answers : (t : Lexeme) (after : Cursor) (next : H) → Takes at t after → next ≡ bounded.step s (seen t) → bounded.is_open next ≡ false → is_wrong next ≡ true → Answers bytes (Err (S4 t.place))
    bar_answers t after next k n o w = (
      g.front,
      at,
      viable bytes at s g,
      record { bar = t; after = after; taken = k; stands = refl; wrong = wrong_is (map seen g.front) (seen t) (plain_open (map seen g.front) s true g.state g.opened) (stepped t next true n w) },
      none_spelled t after next k n o,
    )

    module _ (space : IsSpace at.rest) where
      lexed : Lexes bytes g.front
      lexed = (at, g.divides, space)

      only : (ts : List Lexeme) → Lexes bytes ts → ts ≡ g.front
      only ts l = let r = further ts l in r.2 ∙ ap (λ x. g.front ++ x) (no_more at r.0 r.1 space r.3) ∙ append-nil g.front

      spells_here : (p : List Entry) → Spells bytes p → SpellsTokens (map seen g.front) p
      spells_here p sp = let P : List Lexeme → Type 0 = λ xs. SpellsTokens (map seen xs) p in subst P (only sp.0 sp.1) sp.2

      -- what the whole items come to
      abbrev whole : Option (List Entry)
      whole = plain.finish (run plain plain.begin (map seen g.front))

      both : bounded.finish s ≡ option_map within_program whole
      both = ap bounded.finish (g.state ∙ bounded_run (map seen g.front)) ∙ follows.finishes (run plain plain.begin (map seen g.front))

      unique : (p : List Entry) → whole ≡ Some p → (q : List Entry) → Spells bytes q → q ≡ p
      unique p e q sp = let f : whole ≡ Some q = laws.complete (map seen g.front) q (spells_here q sp) in cc

      spelled : (p : List Entry) → whole ≡ Some p → Spells bytes p
      spelled p e = (g.front, lexed, laws.sound (map seen g.front) p e)

      -- where no program ends here
      none_answers : (place : Place) → place ≡ place_after at.place at.rest → (o : Option (List Entry)) → whole ≡ o → option_map within_program o ≡ None → Answers bytes (Err (S3 place))
      none_answers place e None h n =
          let none : (p : List Entry) → SpellsTokens (map seen g.front) p → ⊥ = λ p sp. let f : whole ≡ Some p = laws.complete (map seen g.front) p sp in cc in
          (g.front, at, viable bytes at s g, at_end space e none, λ p sp. none p (spells_here p sp))
      none_answers place e (Some p) h n = cc

      deep_answers : (o : Option (List Entry)) → whole ≡ o → option_map within_program o ≡ Some None → Answers bytes (Err Nesting)
      deep_answers None h n = cc
      deep_answers (Some p) h n = go (nat_le (program_depth p) depth_limit) refl (let e : within_program p ≡ None = cc in e)
        where
          go : (b : Bool) → nat_le (program_depth p) depth_limit ≡ b → cond b (Some p) None ≡ None → Answers bytes (Err Nesting)
          go true q e = cc
          go false q e = (p, spelled p h, leb-false (program_depth p) depth_limit q, unique p h)

      program_answers : (r : Program) (o : Option (List Entry)) → whole ≡ o → option_map within_program o ≡ Some (Some (program_of r)) → Answers bytes (Ok r)
      program_answers r None h n = cc
      program_answers r (Some p) h n = go (nat_le (program_depth p) depth_limit) refl (let e : within_program p ≡ Some (program_of r) = cc in e)
        where
          go : (b : Bool) → nat_le (program_depth p) depth_limit ≡ b → cond b (Some p) None ≡ Some (program_of r) → Answers bytes (Ok r)
          go true q e =
              let same : p ≡ program_of r = cc in
              let f : whole ≡ Some (program_of r) = h ∙ ap Some same in
              (spelled (program_of r) f, let P : List Entry → Type 0 = λ x. program_depth x ≤ depth_limit in subst P same (leb-true (program_depth p) depth_limit q), unique (program_of r) f)
          go false q e = cc

      -- behind the last token
      pub end_answers : (place : Place) → place ≡ place_after at.place at.rest → (r : Result Program ParseFault) → Concludes (bounded.finish s) place r → Answers bytes r
      end_answers place e (Ok r) c = program_answers r _ refl (sym both ∙ c)
      end_answers place e (Err (S1 q)) c = absurd c
      end_answers place e (Err (S2 q)) c = absurd c
      end_answers place e (Err (S3 q)) c = none_answers q (c.1 ∙ e) _ refl (sym both ∙ c.0)
      end_answers place e (Err (S4 q)) c = absurd c
      end_answers place e (Err Nesting) c = deep_answers _ refl (sym both ∙ c)
      end_answers place e (Err Memory) c = tt

  -- where there is no token, as the lexer tells it
  pub fault_answers : (bytes : List ℕ) (at next : Cursor) (s : H) → Going bytes at s → (f : LexFault) → Next at (Err f) next → (r : Result Program ParseFault) → IsErrAnd r (λ e. e ≡ lexer_fault f) → Answers bytes r
  fault_answers bytes at next s g f n (Ok x) h = absurd h
  fault_answers bytes at next s g f n (Err e) h = let P : ParseFault → Type 0 = λ x. Answers bytes (Err x) in subst P (sym h) (lexer_answers bytes at s g f n.0)

  -- at the end, as the lexer tells it
  pub finish_answers : (bytes : List ℕ) (at next : Cursor) (s : H) → Going bytes at s → (k : TokenKind) (t : Lexeme) → k ≡ End → Gives k at t next → (r : Result Program ParseFault) → Concludes (bounded.finish s) t.place r → Answers bytes r
  finish_answers bytes at next s g k t e h r c =
      let f : Finishes at t × (next ≡ at) = let P : TokenKind → Type 0 = λ x. Gives x at t next in subst P e h in
      end_answers bytes at s g (f.0.gap, f.0.parts, f.0.space) t.place f.0.stands r c
