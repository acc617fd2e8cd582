-- The pass finds the entries of a heap file and its argument.
use Rattle.std.proofs.Common.{◌≡◌, ℕ, true, false, List, [], ◌∷◌, ◌++◌, codes, Result, Ok, Err, refl, sym, ap, ◌∙◌, subst, append_assoc, arith}
use Rattle.std.proofs.lemmas.Bool.{false≢true}
use Rattle.std.proofs.lemmas.List.{append-nil}
use Rattle.cg_base.specs.declared.place.Place.{Place}
use Rattle.cg_heaptext_def.specs.Grammar.{◌then◌, HeapSpells, ReadsEntries, ReadsValue, mark, token}
use Rattle.cg_heaptext_def.specs.Tokens.{Lexeme, Token, number, lower, upper, sign}
use Rattle.cg_heaptext_def.specs.Trees.{Entry, Heap}
use Rattle.cg_heaptext_lexer.specs.Next.{Cursor, Gives, start, token_of}
use Rattle.cg_heaptext_lexer.specs.declared.token.TokenKind.{TokenKind}
use Rattle.cg_heaptext_parser.specs.Answers as parser
use Rattle.cg_heaptext_parser.specs.declared.fault.TextFault.{TextFault}
use Rattle.cg_heaptext_entries.specs.Index.{Answers, AreEntries, Before, IsEntry}
use Rattle.cg_heaptext_entries.specs.Passes.{Finds, PassesCell, PassesEntry, PassesNumeral, is_at}
use Rattle.cg_heaptext_entries.specs.declared.entry.EntryAt.{EntryAt}
use Rattle.cg_heaptext_entries.specs.declared.entry.Index.{Index}
use Rattle.cg_heaptext_entries.specs.declared.entry.Numeral.{Numeral}
use Rattle.cg_heaptext_entries.proofs.Standing.{at_first, at_token, reads}

-- ---- an entry

-- the digits of a token
abbrev digits_of : Token → List ℕ
digits_of (number x) = x
digits_of (lower x) = x
digits_of (upper x) = x
digits_of (sign x) = x

digits_same : (k : TokenKind) (x : List ℕ) → digits_of (token_of k x) ≡ x
digits_same k x = grind arith

-- a number is the next token
pub passes_numeral : (k : TokenKind) (x : List ℕ) (old new : Cursor) (t : Lexeme) (n : Numeral) → t.token ≡ token_of k x → n.place ≡ t.place → n.digits.now ≡ x → Gives k old t new → PassesNumeral old n new
passes_numeral k x old new t n e p q g m ts rest b r =
    let u : Lexeme = record { token = number m.digits; place = m.place } in
    let s = reads k old new t u rest (subst (Before old) r b) g in
    let place : n.place ≡ m.place = p ∙ ap (λ (v : Lexeme). v.place) s.0 in
    let digits : n.digits.now ≡ m.digits = q ∙ sym (digits_same k x) ∙ ap digits_of (sym e) ∙ ap (λ (v : Lexeme). digits_of v.token) s.0 in
    ((λ i. record { place = place i; digits = digits i }), s.1)

-- a number, `=`, and a cell, where another lexer is left
pub passes_entry : (k : TokenKind) (old behind equals new : Cursor) (t : Lexeme) (place : Place) (n : Numeral) (at : EntryAt) → at ≡ record { place = place; address = n; cell = equals }
    → PassesNumeral old n behind → Gives k behind t equals → PassesCell equals new → PassesEntry old place at new
passes_entry k old behind equals new t place n at is by_number g by_cell e ts rest p b r =
    let a = by_number e.address ts r.0 b r.1 in
    let u : Lexeme = record { token = sign (codes "="); place = r.2.1.0 } in
    let s = reads k behind equals t u r.2.0 (subst (Before behind) r.2.1.1 a.1) g in
    let found : IsEntry (record { place = place; address = n; cell = equals }) e = record { place = p; address = a.0; cell = (r.2.0, rest, s.1, r.2.2) } in
    (subst (λ (x : EntryAt). IsEntry x e) (sym is) found, by_cell e.cell r.2.0 rest s.1 r.2.2)

-- ---- the loop

-- Some entries were found, and the others and the argument are all that stands.
pub record Going (entries : List EntryAt) (at : Cursor) (h : Heap) : Type 0 where
  pub done : List Entry
  pub left : List Entry
  pub parts : h.entries ≡ done ++ left
  pub found : AreEntries entries done
  pub ts : List Lexeme
  pub mid : List Lexeme
  pub before : Before at ts
  pub others : ReadsEntries left ts mid
  pub behind : (token (lower (codes "arg")) then mark (codes "=") then ReadsValue h.argument) mid []

-- the same, whichever heap file the bytes spell
abbrev pub AllGoing : List ℕ → List EntryAt → Cursor → Type 0
AllGoing bytes entries at = (h : Heap) → HeapSpells bytes h → Going entries at h

-- at the beginning
going : (bytes : List ℕ) → AllGoing bytes [] (start bytes)
going bytes h s = record { done = []; left = h.entries; parts = refl; found = tt; ts = s.0; mid = s.2.0; before = s.1; others = s.2.1; behind = s.2.2 }

pub begun : (bytes : List ℕ) (entries : List EntryAt) (at : Cursor) → entries ≡ [] → at ≡ start bytes → AllGoing bytes entries at
begun bytes entries at none is =
    subst (λ (xs : List EntryAt). AllGoing bytes xs at) (sym none) (subst (λ (c : Cursor). AllGoing bytes [] c) (sym is) (going bytes))

-- one entry more stands where it was found
are_more : (xs : List EntryAt) (es : List Entry) (x : EntryAt) (e : Entry) → AreEntries xs es → IsEntry x e → AreEntries (xs ++ x ∷ []) (es ++ e ∷ [])
are_more [] [] x e a i = (i, tt)
are_more [] (f ∷ es) x e a i = absurd a
are_more (y ∷ xs) [] x e a i = absurd a
are_more (y ∷ xs) (f ∷ es) x e a i = (a.0, are_more xs es x e a.1 i)

module _ (k : TokenKind) (x : List ℕ) (old new : Cursor) (t : Lexeme) (is : t.token ≡ token_of k x) (g : Gives k old t new) (entries : List EntryAt) (h : Heap) where
  -- at `arg`
  argument_stands : (w : Going entries old h) → w.left ≡ [] → (u : Lexeme) × (ts : List Lexeme) × (u.token ≡ lower (codes "arg")) × Before old (u ∷ ts) × (mark (codes "=") then ReadsValue h.argument) ts []
  argument_stands w e =
      let u : Lexeme = record { token = lower (codes "arg"); place = w.behind.1.0 } in
      let none : w.ts ≡ w.mid = subst (λ es. ReadsEntries es w.ts w.mid) e w.others in
      (u, w.behind.0, refl, subst (Before old) (none ∙ w.behind.1.1) w.before, w.behind.2)

  -- at `@`, and behind its entry
  go_on : (last : Cursor) (at : EntryAt) → PassesEntry new t.place at last → is_at k x ≡ true → (w : Going entries old h) → (es : List Entry) → w.left ≡ es → Going (entries ++ at ∷ []) last h
  go_on last at p here w [] e =
      let a = argument_stands w e in
      absurd (false≢true (ap at_token (sym a.2) ∙ sym (at_first k x old new t a.0 a.1 is a.3 g) ∙ here))
  go_on last at p here w (f ∷ es) e =
      let o = subst (λ l. ReadsEntries l w.ts w.mid) e w.others in
      let u : Lexeme = record { token = sign (codes "@"); place = f.place } in
      let s = reads k old new t u o.1.0 (subst (Before old) o.1.1 w.before) g in
      let q = p f o.1.0 o.0 (ap (λ (v : Lexeme). v.place) s.0) s.1 o.1.2 in
      record {
        done = w.done ++ f ∷ [];
        left = es;
        parts = w.parts ∙ ap (λ l. w.done ++ l) e ∙ sym (append_assoc w.done (f ∷ []) es);
        found = are_more entries w.done at f w.found q.0;
        ts = o.0;
        mid = w.mid;
        before = q.1;
        others = o.2;
        behind = w.behind;
      }

  -- behind `arg`
  ends_there : is_at k x ≡ false → (w : Going entries old h) → (es : List Entry) → w.left ≡ es → AreEntries entries h.entries × ((ts : List Lexeme) × Before new ts × (mark (codes "=") then ReadsValue h.argument) ts [])
  ends_there not_here w [] e =
      let a = argument_stands w e in
      let all : w.done ≡ h.entries = sym (append-nil w.done) ∙ ap (λ l. w.done ++ l) (sym e) ∙ sym w.parts in
      (subst (AreEntries entries) all w.found, (a.1, (reads k old new t a.0 a.1 a.3 g).1, a.4))
  ends_there not_here w (f ∷ es) e =
      let o = subst (λ l. ReadsEntries l w.ts w.mid) e w.others in
      let u : Lexeme = record { token = sign (codes "@"); place = f.place } in
      absurd (false≢true (sym not_here ∙ at_first k x old new t u o.1.0 is (subst (Before old) o.1.1 w.before) g))

-- an entry more
pub keeps_going : (bytes : List ℕ) (k : TokenKind) (x : List ℕ) (old new last : Cursor) (t : Lexeme) (entries : List EntryAt) (at : EntryAt) → t.token ≡ token_of k x → Gives k old t new → is_at k x ≡ true → PassesEntry new t.place at last
    → AllGoing bytes entries old → AllGoing bytes (entries ++ at ∷ []) last
keeps_going bytes k x old new last t entries at is g here p all h s = let w = all h s in go_on k x old new t is g entries h last at p here w w.left refl

-- behind `arg`, and behind its `=`
pub finds : (bytes : List ℕ) (k l : TokenKind) (x : List ℕ) (old new last : Cursor) (t u : Lexeme) (index : Index) → t.token ≡ token_of k x → Gives k old t new → is_at k x ≡ false → Gives l new u last → index.argument ≡ last
    → AllGoing bytes index.entries old → Finds bytes (Ok index)
finds bytes k l x old new last t u index is g not_here after e all h s =
    let w = all h s in
    let a = ends_there k x old new t is g index.entries h not_here w w.left refl in
    let m = a.1 in
    let v : Lexeme = record { token = sign (codes "="); place = m.2.1.0 } in
    let r = reads l new last u v m.2.0 (subst (Before new) m.2.1.1 m.1) after in
    record { entries = a.0; argument = (m.2.0, subst (λ (c : Cursor). Before c m.2.0) (sym e) r.1, m.2.2) }

-- ---- the whole answer

pub answers : (bytes : List ℕ) (u : Unit {0}) (result : Result Index TextFault) → parser.Answers bytes (Ok u) → Finds bytes result → Answers bytes result
answers bytes u (Ok index) p f = (p.0, p.1, p.2, f p.0 p.1)
answers bytes u (Err fault) p f = subst (λ x. Answers bytes (Err x)) (sym f) tt
