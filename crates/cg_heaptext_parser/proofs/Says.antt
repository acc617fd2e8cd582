-- What the machine says of a heap file.
use Rattle.std.proofs.Common.{◌≡◌, ℕ, Bool, true, false, List, [], ◌∷◌, ◌++◌, Option, Some, None, Result, Ok, Err, refl, sym, ◌∙◌, ap, subst, append_assoc}
use Rattle.std.proofs.lemmas.Bool.{false≢true}
use Rattle.std.proofs.lemmas.List.{append-nil}
use Rattle.cg_base.specs.declared.place.Place.{Place}
use Rattle.cg_base.specs.Places.{first_place, place_after}
use Rattle.cg_base.specs.Reader.{Begins, run}
use Rattle.cg_heaptext_def.specs.Grammar.{HeapSpells, SpellsTokens}
use Rattle.cg_heaptext_def.specs.HeapText.{IsCutAt, IsUnexpected, at_end, at_token, at_unknown, place_behind}
use Rattle.cg_heaptext_def.specs.Tokens.{Lexeme, Takes}
use Rattle.cg_heaptext_def.specs.Trees.{Heap}
use Rattle.cg_heaptext_lexer.proofs.Walking.{finishes_none, goes_on, stands_next, same_tokens, unknown_none, walked_end, walked_place, walks_divide, walks_more, walks_whole}
use Rattle.cg_heaptext_lexer.specs.Next.{Cursor, Finishes, Gives, IsUnknown, Stands, Walks, start}
use Rattle.cg_heaptext_lexer.specs.declared.token.TokenKind.{TokenKind}
use Rattle.cg_heaptext_lexer.specs.declared.token.TokenKind.TheVariants.{Unknown, End}
use Rattle.cg_heaptext_parser.specs.Answers.{Answers, Concludes}
use Rattle.cg_heaptext_parser.specs.Laws.{OneHeap}
use Rattle.cg_heaptext_parser.specs.Machine.{Between, State, finish, is_open, reader, step}
use Rattle.cg_heaptext_parser.specs.Outline.{Outline, ends, outline}
use Rattle.cg_heaptext_parser.specs.Outline as seen
use Rattle.cg_heaptext_parser.specs.Symbols.{symbol_of}
use Rattle.cg_heaptext_parser.specs.declared.fault.TextFault.{TextFault}
use Rattle.cg_heaptext_parser.specs.declared.fault.TextFault.TheVariants.{Text}
use Rattle.cg_heaptext_parser.proofs.HeapReads.{heap_reads}
use Rattle.cg_heaptext_parser.proofs.One.{one_heap as one_tree}
use Rattle.cg_heaptext_parser.proofs.Outlined.{ends_same, is_some, open_same, outlined}

abbrev ran : List Lexeme → State
ran ts = run reader (Between []) ts

-- tokens one after another
run_append : (front more : List Lexeme) (s : State) → run reader s (front ++ more) ≡ run reader (run reader s front) more
run_append [] more s = refl
run_append (t ∷ front) more s = run_append front more (step s t)

shut_for_ever : (ts : List Lexeme) (s : State) → is_open s ≡ false → is_open (run reader s ts) ≡ false
shut_for_ever [] s h = h
shut_for_ever (t ∷ ts) s h = shut_for_ever ts (step s t) (heap_reads.shut s t h)

-- where the machine is open, a heap file begins; where it is shut, none does
begun : (ts : List Lexeme) → is_open (ran ts) ≡ true → Begins SpellsTokens ts
begun ts o = let v = heap_reads.viable ts o in (v.0, v.1, heap_reads.sound (ts ++ v.0) v.1 (ap finish (run_append ts v.0 (Between [])) ∙ v.2))

not_begun : (ts : List Lexeme) → is_open (ran ts) ≡ false → Begins SpellsTokens ts → ⊥
not_begun ts h b =
    let yes : finish (ran (ts ++ b.0)) ≡ Some b.1 = heap_reads.complete (ts ++ b.0) b.1 b.2 in
    let no : finish (ran (ts ++ b.0)) ≡ None = ap finish (run_append ts b.0 (Between [])) ∙ heap_reads.no_tree _ (shut_for_ever b.0 (ran ts) h) in
    false≢true (ap is_some (sym no ∙ yes))

-- The tokens that were walked up to a cursor lead to a state of this outline, which is open.
pub record Going (bytes : List ℕ) (at : Cursor) (o : Outline) : Type 0 where
  pub front : List Lexeme
  pub walks : Walks (start bytes) front at
  pub state : o ≡ outline (ran front)
  pub opened : seen.is_open o.phase ≡ true

pub going : (bytes : List ℕ) (o : Outline) → o ≡ outline (Between []) → Going bytes (start bytes) o
going bytes o e = record { front = []; walks = refl; state = e; opened = ap (λ (x : Outline). seen.is_open x.phase) e }

-- one token more
next_state : (front : List Lexeme) (t : Lexeme) (o next : Outline) → o ≡ outline (ran front) → next ≡ seen.step o (symbol_of t.token) → next ≡ outline (ran (front ++ t ∷ []))
next_state front t o next e n =
    n ∙ ap (λ x. seen.step x (symbol_of t.token)) e ∙ sym (outlined (ran front) t.place (symbol_of t.token)) ∙ ap outline (sym (run_append front (t ∷ []) (Between [])))

pub keeps_going : (bytes : List ℕ) (at after : Cursor) (t : Lexeme) (o next : Outline) → Going bytes at o → Stands at t after → next ≡ seen.step o (symbol_of t.token) → seen.is_open next.phase ≡ true → Going bytes after next
keeps_going bytes at after t o next g k n open' =
    record {
      front = g.front ++ t ∷ [];
      walks = walks_more g.front (start bytes) at after t g.walks k;
      state = next_state g.front t o next g.state n;
      opened = open';
    }

module _ (bytes : List ℕ) (at : Cursor) (o : Outline) (g : Going bytes at o) where
  opened_there : is_open (ran g.front) ≡ true
  opened_there = open_same (ran g.front) ∙ ap (λ (x : Outline). seen.is_open x.phase) (sym g.state) ∙ g.opened

  here : place_behind first_place g.front ≡ at.place
  here = walked_place g.front (start bytes) at g.walks

  cut : (place : Place) → IsUnexpected bytes g.front at.rest place → ((h : Heap) → HeapSpells bytes h → ⊥) → IsCutAt bytes place
  cut place u never = record { front = g.front; rest = at.rest; divides = walks_divide g.front (start bytes) at g.walks; begins = begun g.front opened_there; unexpected = u; no_heap = never }

  takes_here : (t : Lexeme) (after : List ℕ) → Takes at.place at.rest t after → Takes (place_behind first_place g.front) at.rest t after
  takes_here t after k = subst (λ p. Takes p at.rest t after) (sym here) k

  -- at what begins no token
  unknown_answers : (new : Cursor) (place : Place) → IsUnknown at place new → IsCutAt bytes place
  unknown_answers new place u =
      cut place
      (at_unknown u.gap u.left u.byte u.parts u.space u.dark (λ t after k. u.no_token t after (subst (λ p. Takes p at.rest t after) here k)) (u.at ∙ ap (λ p. place_after p u.gap) (sym here)))
      (λ h sp. let w = goes_on bytes g.front sp.0 at g.walks sp.1 in unknown_none at new place w.0 w.1 u w.3 w.4)

  -- at a token that nothing goes on with
  token_answers : (t : Lexeme) (after : Cursor) (next : Outline) → Stands at t after → next ≡ seen.step o (symbol_of t.token) → seen.is_open next.phase ≡ false → IsCutAt bytes t.place
  token_answers t after next k n shut =
      let closed : is_open (ran (g.front ++ t ∷ [])) ≡ false = open_same (ran (g.front ++ t ∷ [])) ∙ ap (λ (x : Outline). seen.is_open x.phase) (sym (next_state g.front t o next g.state n)) ∙ shut in
      let never : Begins SpellsTokens (g.front ++ t ∷ []) → ⊥ = not_begun (g.front ++ t ∷ []) closed in
      cut t.place (at_token t after.rest (takes_here t after.rest k.takes) never refl)
      (λ h sp.
      let w = goes_on bytes g.front sp.0 at g.walks sp.1 in
      let m = stands_next at after t w.0 w.1 k w.3 w.4 in
      let parts : g.front ++ w.0 ≡ (g.front ++ t ∷ []) ++ m.0 = ap (λ x. g.front ++ x) m.1 ∙ sym (append_assoc g.front (t ∷ []) m.0) in
      never (m.0, h, subst (λ ts. SpellsTokens ts h) (w.2 ∙ parts) sp.2))

  pub token_kind : (t : Lexeme) (after : Cursor) (next : Outline) → Stands at t after → next ≡ seen.step o (symbol_of t.token) → seen.is_open next.phase ≡ false → Answers bytes (Err (Text t.place))
  token_kind t after next k n shut = token_answers t after next k n shut

  -- behind the last token
  module _ (new : Cursor) (place : Place) (last : Finishes at place new) where
    spelled_here : (h : Heap) → HeapSpells bytes h → SpellsTokens g.front h
    spelled_here h sp =
        let w = goes_on bytes g.front sp.0 at g.walks sp.1 in
        let e : g.front ++ w.0 ≡ g.front = ap (λ x. g.front ++ x) (finishes_none at new place w.0 w.1 last w.3 w.4) ∙ append-nil g.front in
        subst (λ ts. SpellsTokens ts h) (w.2 ∙ e) sp.2

    none_answers : finish (ran g.front) ≡ None → IsCutAt bytes place
    none_answers n =
        let never : (h : Heap) → SpellsTokens g.front h → ⊥ = λ h sp. false≢true (ap is_some (sym n ∙ heap_reads.complete g.front h sp)) in
        cut place (at_end last.space never (last.at ∙ sym (walked_end g.front (start bytes) at g.walks))) (λ h sp. never h (spelled_here h sp))

    heap_answers : (h : Heap) → finish (ran g.front) ≡ Some h → Answers bytes (Ok tt)
    heap_answers h e =
        let spelled : HeapSpells bytes h = (g.front, walks_whole bytes g.front at new place g.walks last, heap_reads.sound g.front h e) in
        (h, spelled, λ k sp. one_tree g.front k h (spelled_here k sp) spelled.2)

    by_end : (r : Option Heap) → finish (ran g.front) ≡ r → (b : Bool) → is_some r ≡ b → (answer : Result Unit TextFault) → Concludes b place answer → Answers bytes answer
    by_end None e true q answer c = absurd (false≢true q)
    by_end None e false q (Ok u) c = absurd c
    by_end None e false q (Err fault) c = subst (λ f. Answers bytes (Err f)) (sym c) (none_answers e)
    by_end (Some h) e true q (Ok u) c = heap_answers h e
    by_end (Some h) e true q (Err fault) c = absurd c
    by_end (Some h) e false q answer c = absurd (false≢true (sym q))

    pub end_answers : (answer : Result Unit TextFault) → Concludes (ends o) place answer → Answers bytes answer
    end_answers answer c = by_end (finish (ran g.front)) refl (ends o) (ends_same (ran g.front) ∙ ap ends (sym g.state)) answer c

  -- the same, as the lexer tells it
  pub unknown_kind : (k : TokenKind) (t : Lexeme) (new : Cursor) → k ≡ Unknown → Gives k at t new → Answers bytes (Err (Text t.place))
  unknown_kind k t new e h = unknown_answers new t.place (subst (λ x. Gives x at t new) e h)

  pub end_kind : (k : TokenKind) (t : Lexeme) (new : Cursor) → k ≡ End → Gives k at t new → (answer : Result Unit TextFault) → Concludes (ends o) t.place answer → Answers bytes answer
  end_kind k t new e h answer c = end_answers new t.place (subst (λ x. Gives x at t new) e h) answer c

-- what is neither of these is a token
pub stands : (k : TokenKind) (at new : Cursor) (t : Lexeme) → (k ≡ Unknown → ⊥) → (k ≡ End → ⊥) → Gives k at t new → Stands at t new
stands Unknown at new t u e g = absurd (u refl)
stands End at new t u e g = absurd (e refl)
stands _ at new t u e g = g

-- bytes spell one heap file at most: their tokens are one list
pub one_heap : OneHeap
one_heap bytes g h a b = one_tree a.0 g h a.2 (subst (λ ts. SpellsTokens ts h) (same_tokens bytes b.0 a.0 b.1 a.1) b.2)
