-- Bytes have one answer.
use Rattle.std.proofs.Common.{◌≡◌, ℕ, ◌<◌, List, [], ◌∷◌, ◌++◌, map, refl, sym, ◌∙◌, ap, subst, arith, append_assoc, Ok, Err}
use Rattle.std.proofs.lemmas.List.{append-nil, map-append}
use Rattle.cg_base.specs.declared.place.Place.{Place}
use Rattle.cg_base.specs.Reader.{run, Begins}
use Rattle.cg_lexer.specs.Tokens.{Lexeme, Cursor, start, Takes, Divides}
use Rattle.cg_lexer.specs.declared.token.LexFault.{LexFault}
use Rattle.cg_lexer.specs.declared.token.LexFault.TheVariants.{UnknownByte, OpenComment}
use Rattle.cg_lexer.specs.Next.{IsUnknown, IsOpen, IsFault}
use Rattle.cg_lexer.proofs.Division.{one_token, none_in_space, none_at_fault, some_at_fault, one_fault}
use Rattle.cg_surface.specs.declared.program.Program.{Program}
use Rattle.cg_surface.specs.Programs.{Entry, program_of, program_depth}
use Rattle.cg_parser_symbols.specs.Symbols.{Seen, seen}
use Rattle.cg_parser_def.specs.Grammar.{SpellsTokens, Spells}
use Rattle.cg_parser_def.specs.Bounded.{depth_limit}
use Rattle.cg_parser.specs.Answers.{Viable, IsUnexpected, at_token, at_end, IsMisplaced, IsWrongBarIn, NoProgram, Answers, lexer_fault}
use Rattle.cg_parser.specs.Laws.{OneAnswer}
use Rattle.cg_parser_def.specs.Held.{Held, bounded_items}
use Rattle.cg_parser.specs.Views.{is_wrong}
use Rattle.cg_parser.specs.declared.fault.ParseFault.{ParseFault}
use Rattle.cg_parser.specs.declared.fault.ParseFault.TheVariants.{S1, S2, S3, S4, Nesting, Memory}
use Rattle.cg_parser.proofs.Says.{shut_none}
use Rattle.cg_parser.proofs.Whole.{plain, held, laws, follows}
use Rattle.cg_parser.proofs.Wrong.{wrong_is, wrong_told, wrong_shut}

-- of two divisions from one cursor, one goes on from the other
data Along (front other : List Lexeme) (at to : Cursor) : Type 0 where
  ahead : (more : List Lexeme) → other ≡ front ++ more → Divides at more to → Along front other at to
  behind : (more : List Lexeme) → front ≡ other ++ more → Divides to more at → Along front other at to

along_more : (t u : Lexeme) (front other : List Lexeme) (at to : Cursor) → t ≡ u → Along front other at to → Along (t ∷ front) (u ∷ other) at to
along_more t u front other at to e (ahead more p d) = ahead more (λ i. sym e i ∷ p i) d
along_more t u front other at to e (behind more p d) = behind more (λ i. e i ∷ p i) d

along : (front other : List Lexeme) (from at to : Cursor) → Divides from front at → Divides from other to → Along front other at to
along [] other from at to d e = ahead other refl (subst (λ (x : Cursor). Divides x other to) d e)
along (t ∷ front) [] from at to d e = behind (t ∷ front) refl (subst (λ (x : Cursor). Divides x (t ∷ front) at) e d)
along (t ∷ front) (u ∷ other) from at to d e =
    let same = one_token from d.0 e.0 t u d.1 e.1 in
    along_more t u front other at to same.0 (along front other d.0 at to d.2 (subst (λ (x : Cursor). Divides x other to) (sym same.1) e.2))

-- what begins with tokens and more begins with them and the next one
begun_more : (front : List Lexeme) (t : Lexeme) (more : List Lexeme) → Begins SpellsTokens (map seen (front ++ t ∷ more)) → Begins SpellsTokens (map seen front ++ seen t ∷ [])
begun_more front t more b =
    let parts : map seen (front ++ t ∷ more) ++ b.0 ≡ (map seen front ++ seen t ∷ []) ++ (map seen more ++ b.0) =
    ap (λ x. x ++ b.0) (map-append seen front (t ∷ more))
    ∙ append_assoc (map seen front) (seen t ∷ map seen more) b.0
    ∙ sym (append_assoc (map seen front) (seen t ∷ []) (map seen more ++ b.0)) in
    let P : List Seen → Type 0 = λ ts. SpellsTokens ts b.1 in
    (map seen more ++ b.0, b.1, subst P parts b.2)

-- no program goes on with a bar at a wrong column
wrong_none : (front : List Lexeme) (t : Lexeme) → IsWrongBarIn (map seen front) (seen t) → Begins SpellsTokens (map seen front ++ seen t ∷ []) → ⊥
wrong_none front t w =
    let s : Held = run bounded_items bounded_items.begin (map seen front) in
    let next : Held = bounded_items.step s (seen t) in
    shut_none plain bounded_items held laws follows is_wrong wrong_is wrong_told front t s next refl refl (wrong_shut next (wrong_told (map seen front) (seen t) w))

-- why reading stops at a cursor
abbrev Why : List Lexeme → Cursor → ParseFault → Type 0
Why front at (S1 p) = IsUnknown at p
Why front at (S2 p) = IsOpen at p
Why front at (S3 p) = IsUnexpected front at p
Why front at (S4 p) = IsMisplaced front at p
Why front at Nesting = ⊥
Why front at Memory = ⊥

-- where it stops no program goes on with a token
stays : (front : List Lexeme) (at mid : Cursor) (f : ParseFault) (t : Lexeme) → Why front at f → Takes at t mid → Begins SpellsTokens (map seen front ++ seen t ∷ []) → ⊥
stays front at mid (S1 p) t w k b = none_at_fault at mid t (UnknownByte p) w k
stays front at mid (S2 p) t w k b = none_at_fault at mid t (OpenComment p) w k
stays front at mid (S3 p) t (at_token u after l e none x) k b = let P : Lexeme → Type 0 = λ y. Begins SpellsTokens (map seen front ++ seen y ∷ []) in none (subst P (one_token at mid after t u k l).0 b)
stays front at mid (S3 p) t (at_end space e none) k b = none_in_space at mid t space k
stays front at mid (S4 p) t w k b =
    let P : Lexeme → Type 0 = λ y. Begins SpellsTokens (map seen front ++ seen y ∷ []) in wrong_none front w.bar w.wrong (subst P (one_token at mid w.after t w.bar k w.taken).0 b)
stays front at mid Nesting t w k b = w
stays front at mid Memory t w k b = w

-- a fault of the lexer is the only one at its cursor
lexed : (front : List Lexeme) (at : Cursor) (l : LexFault) (g : ParseFault) → IsFault at l → Why front at g → lexer_fault l ≡ g
lexed front at l (S1 q) v w = ap lexer_fault (one_fault.same at l (UnknownByte q) v w)
lexed front at l (S2 q) v w = ap lexer_fault (one_fault.same at l (OpenComment q) v w)
lexed front at l (S3 q) v (at_token t after k e none x) = absurd (none_at_fault at after t l v k)
lexed front at l (S3 q) v (at_end space e none) = absurd (some_at_fault at l v space)
lexed front at l (S4 q) v w = absurd (none_at_fault at w.after w.bar l v w.taken)
lexed front at l Nesting v w = absurd w
lexed front at l Memory v w = absurd w

-- a token that nothing goes on with is no bar at a wrong column
unlike : (front : List Lexeme) (at : Cursor) (p q : Place) → IsUnexpected front at p → IsMisplaced front at q → ⊥
unlike front at p q (at_token t after k e none x) w =
    let P : Lexeme → Type 0 = λ y. IsWrongBarIn (map seen front) (seen y) in x (subst P (sym (one_token at after w.after t w.bar k w.taken).0) w.wrong)
unlike front at p q (at_end space e none) w = none_in_space at w.after w.bar space w.taken

same_place : (at a b : Cursor) (t u : Lexeme) → Takes at t a → Takes at u b → t.place ≡ u.place
same_place at a b t u k l = ap (λ (x : Lexeme). x.place) (one_token at a b t u k l).0

one_unexpected : (front : List Lexeme) (at : Cursor) (p q : Place) → IsUnexpected front at p → IsUnexpected front at q → p ≡ q
one_unexpected front at p q (at_token t a k e m x) (at_token u b l f n y) = e ∙ same_place at a b t u k l ∙ sym f
one_unexpected front at p q (at_token t a k e m x) (at_end space f n) = absurd (none_in_space at a t space k)
one_unexpected front at p q (at_end space e m) (at_token u b l f n y) = absurd (none_in_space at b u space l)
one_unexpected front at p q (at_end space e m) (at_end space' f n) = e ∙ sym f

same_why : (front : List Lexeme) (at : Cursor) (f g : ParseFault) → Why front at f → Why front at g → f ≡ g
same_why front at (S1 p) g v w = lexed front at (UnknownByte p) g v w
same_why front at (S2 p) g v w = lexed front at (OpenComment p) g v w
same_why front at (S3 p) (S1 q) v w = sym (lexed front at (UnknownByte q) (S3 p) w v)
same_why front at (S3 p) (S2 q) v w = sym (lexed front at (OpenComment q) (S3 p) w v)
same_why front at (S3 p) (S3 q) v w = ap S3 (one_unexpected front at p q v w)
same_why front at (S3 p) (S4 q) v w = absurd (unlike front at p q v w)
same_why front at (S3 p) Nesting v w = absurd w
same_why front at (S3 p) Memory v w = absurd w
same_why front at (S4 p) (S1 q) v w = sym (lexed front at (UnknownByte q) (S4 p) w v)
same_why front at (S4 p) (S2 q) v w = sym (lexed front at (OpenComment q) (S4 p) w v)
same_why front at (S4 p) (S3 q) v w = absurd (unlike front at q p w v)
same_why front at (S4 p) (S4 q) v w = ap S4 (v.stands ∙ same_place at v.after w.after v.bar w.bar v.taken w.taken ∙ sym w.stands)
same_why front at (S4 p) Nesting v w = absurd w
same_why front at (S4 p) Memory v w = absurd w
same_why front at Nesting g v w = absurd v
same_why front at Memory g v w = absurd v

-- a fault where reading stops
record Stop (bytes : List ℕ) (f : ParseFault) : Type 0 where
  front : List Lexeme
  at : Cursor
  viable : Viable bytes front at
  why : Why front at f
  none : NoProgram bytes

-- where one stops, another doesn't go on
met : (front other : List Lexeme) (at to : Cursor) (f g : ParseFault) → Why front at f → Why other to g → Begins SpellsTokens (map seen other) → (more : List Lexeme) → other ≡ front ++ more → Divides at more to → f ≡ g
met front other at to f g v w b [] e d =
    let Q : Cursor → Type 0 = λ c. Why other c g in
    let P : List Lexeme → Type 0 = λ x. Why x at g in
    same_why front at f g v (subst P (e ∙ append-nil front) (subst Q (sym d) w))
met front other at to f g v w b (t ∷ more) e d =
    let P : List Lexeme → Type 0 = λ x. Begins SpellsTokens (map seen x) in absurd (stays front at d.0 f t v d.1 (begun_more front t more (subst P e b)))

same_stop : (bytes : List ℕ) (f g : ParseFault) → Stop bytes f → Stop bytes g → f ≡ g
same_stop bytes f g v w = go (along v.front w.front (start bytes) v.at w.at v.viable.divides w.viable.divides)
  where
    go : Along v.front w.front v.at w.at → f ≡ g
    go (ahead more p d) = met v.front w.front v.at w.at f g v.why w.why w.viable.begins more p d
    go (behind more p d) = sym (met w.front v.front w.at v.at g f w.why v.why v.viable.begins more p d)

-- what a fault is that isn't want of memory: reading stops, or a program is too deep
data Fault (bytes : List ℕ) (f : ParseFault) : Type 0 where
  stops : Stop bytes f → Fault bytes f
  deep : f ≡ Nesting → (p : List Entry) → Spells bytes p → depth_limit < program_depth p → Fault bytes f

fault_of : (bytes : List ℕ) (f : ParseFault) → Answers bytes (Err f) → (f ≡ Memory → ⊥) → Fault bytes f
fault_of bytes (S1 p) a m = stops (record { front = a.0; at = a.1; viable = a.2; why = a.3; none = a.4 })
fault_of bytes (S2 p) a m = stops (record { front = a.0; at = a.1; viable = a.2; why = a.3; none = a.4 })
fault_of bytes (S3 p) a m = stops (record { front = a.0; at = a.1; viable = a.2; why = a.3; none = a.4 })
fault_of bytes (S4 p) a m = stops (record { front = a.0; at = a.1; viable = a.2; why = a.3; none = a.4 })
fault_of bytes Nesting a m = deep refl a.0 a.1 a.2
fault_of bytes Memory a m = absurd (m refl)

same_fault : (bytes : List ℕ) (f g : ParseFault) → Fault bytes f → Fault bytes g → f ≡ g
same_fault bytes f g (stops v) (stops w) = same_stop bytes f g v w
same_fault bytes f g (stops v) (deep e p s d) = absurd (v.none p s)
same_fault bytes f g (deep e p s d) (stops w) = absurd (w.none p s)
same_fault bytes f g (deep e p s d) (deep h q r c) = e ∙ sym h

-- beside a program there is no fault
no_fault : (bytes : List ℕ) (p : Program) (f : ParseFault) → Answers bytes (Ok p) → Fault bytes f → ⊥
no_fault bytes p f a (stops v) = v.none (program_of p) a.0
no_fault bytes p f a (deep e q s d) = omega (arith, ap program_depth (a.2 q s), a.1, d)

pub one_answer : OneAnswer
one_answer bytes (Ok p) (Ok q) a b m n = b.2 (program_of p) a.0
one_answer bytes (Ok p) (Err g) a b m n = no_fault bytes p g a (fault_of bytes g b (λ e. n (ap Err e)))
one_answer bytes (Err f) (Ok q) a b m n = no_fault bytes q f b (fault_of bytes f a (λ e. m (ap Err e)))
one_answer bytes (Err f) (Err g) a b m n = same_fault bytes f g (fault_of bytes f a (λ e. m (ap Err e))) (fault_of bytes g b (λ e. n (ap Err e)))
