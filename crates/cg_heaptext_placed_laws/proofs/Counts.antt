-- Each scalar that is read of a loose value, and each answer, has a token of its own, and each token a byte.
use Rattle.std.proofs.Common.{◌≡◌, ℕ, zero, suc, ◌+◌, ◌≤◌, List, [], ◌∷◌, ◌++◌, length, slice_get, Some, arith, ap, subst, length-append}
use Rattle.cg_base.proofs.Options.{some_is}
use Rattle.cg_base.specs.declared.place.Place.{Place}
use Rattle.cg_base.specs.Places.{first_place}
use Rattle.cg_heaptext_def.specs.Grammar.{HeapSpells, Reading, ReadsAny, ReadsBit, ReadsCell, ReadsEntries, ReadsEntry, ReadsFields, ReadsMore, ReadsMoreFields, ReadsNumeral, ReadsRest, ReadsTwo, ReadsValue, token_at}
use Rattle.cg_heaptext_def.specs.Reading.{loose, loose_all, loose_fields}
use Rattle.cg_heaptext_def.specs.Tokens.{Divides, Lexeme, Token, behind, token_text}
use Rattle.cg_heaptext_def.specs.Trees as written
use Rattle.cg_heaptext_def.specs.Trees.{Written, numeral, truth, nothing, gone, address, constant, applied, inside, tuple, record', Writtens, none, more, Fields, end, field, Cell, elements, answers, Entry, Heap}
use Rattle.cg_heaptext_lexer.proofs.Cuts.{some_text}

-- ---- tokens

-- so many tokens stand in front of what is left, or more
abbrev Spends : ℕ → List Lexeme → List Lexeme → Type 0
Spends n ts rest = n + length rest ≤ length ts

one : (p : Place) (t : Token) (ts rest : List Lexeme) → token_at p t ts rest → Spends 1 ts rest
one p t ts rest e = omega (arith, ap length e)

mutual
  value_spends : (v : Written) (ts rest : List Lexeme) → ReadsValue v ts rest → Spends (length (loose v)) ts rest
  value_spends (numeral n) ts rest r = omega (arith, ap length r)
  value_spends (truth p b) ts rest r = omega (arith, ap length r)
  value_spends (nothing p) ts rest r = omega (arith, ap length r.1, ap length r.2.1)
  value_spends (gone p) ts rest r = omega (arith, ap length r)
  value_spends (address p n) ts rest r = omega (arith, ap length r.1, ap length r.2)
  value_spends (constant p x) ts rest r = omega (arith, ap length r.1)
  value_spends (applied p x v) ts rest r = let q = r.2 in omega (arith, ap length q.1, value_spends v q.0 rest q.2)
  value_spends (inside p v) ts rest r = omega (arith, ap length r.1, value_spends v r.0 r.2.0 r.2.1, ap length r.2.2.1)
  value_spends (tuple p vs) ts rest r = omega (arith, ap length r.1, two_spends vs r.0 r.2.0 r.2.1, ap length r.2.2.1)
  value_spends (record' p fs) ts rest r = omega (arith, ap length r.1, fields_spends fs r.0 r.2.0 r.2.1, ap length r.2.2.1)

  two_spends : (vs : Writtens) (ts rest : List Lexeme) → ReadsTwo vs ts rest → Spends (length (loose_all vs)) ts rest
  two_spends none ts rest r = absurd r
  two_spends (more v none) ts rest r = absurd r
  two_spends (more v (more w vs)) ts rest r =
      omega (arith, value_spends v ts r.0 r.1, more_spends (more w vs) r.0 rest r.2, length-append (loose v) (loose_all (more w vs)))

  more_spends : (vs : Writtens) (ts rest : List Lexeme) → ReadsMore vs ts rest → Spends (length (loose_all vs)) ts rest
  more_spends none ts rest r = omega (arith, ap length r)
  more_spends (more v vs) ts rest r =
      omega (arith, ap length r.1.1, value_spends v r.0 r.2.0 r.2.1, more_spends vs r.2.0 rest r.2.2, length-append (loose v) (loose_all vs))

  fields_spends : (fs : Fields) (ts rest : List Lexeme) → ReadsFields fs ts rest → Spends (length (loose_fields fs)) ts rest
  fields_spends end ts rest r = absurd r
  fields_spends (field x v fs) ts rest r =
      let q = r.1 in
      let here = value_spends v q.2.0 q.2.2.0 q.2.2.1 in
      omega (arith, ap length q.1.1, ap length q.2.1.1, here, more_fields_spends fs q.2.2.0 rest q.2.2.2, length-append (loose v) (loose_fields fs))

  more_fields_spends : (fs : Fields) (ts rest : List Lexeme) → ReadsMoreFields fs ts rest → Spends (length (loose_fields fs)) ts rest
  more_fields_spends end ts rest r = omega (arith, ap length r)
  more_fields_spends (field x v fs) ts rest r =
      let q = r.1.2 in
      let here = value_spends v q.2.0 q.2.2.0 q.2.2.1 in
      omega (arith, ap length r.1.1.1, ap length q.1.1, ap length q.2.1.1, here, more_fields_spends fs q.2.2.0 rest q.2.2.2, length-append (loose v) (loose_fields fs))

-- things with commas between, each of which takes a token
module _ {A : Type 0} (reads : A → Reading) (each : (x : A) (ts rest : List Lexeme) → reads x ts rest → Spends 1 ts rest) where
  rest_spends : (xs : List A) (ts rest : List Lexeme) → ReadsRest reads xs ts rest → Spends (length xs) ts rest
  rest_spends [] ts rest r = omega (arith, ap length r)
  rest_spends (x ∷ xs) ts rest r = omega (arith, ap length r.1.1, each x r.0 r.2.0 r.2.1, rest_spends xs r.2.0 rest r.2.2)

  any_spends : (xs : List A) (ts rest : List Lexeme) → ReadsAny reads xs ts rest → Spends (length xs) ts rest
  any_spends [] ts rest r = omega (arith, ap length r)
  any_spends (x ∷ xs) ts rest r = omega (arith, each x ts r.0 r.1, rest_spends xs r.0 rest r.2)

-- the slots of a cell that is read at no type, and its answers
abbrev pub loose_length : Cell → ℕ
loose_length (written.slots p fs) = length (loose_fields fs)
loose_length (elements p ns) = 0
loose_length (answers p bs) = length bs

cell_spends : (c : Cell) (ts rest : List Lexeme) → ReadsCell c ts rest → Spends (loose_length c) ts rest
cell_spends (written.slots p fs) ts rest r = omega (arith, ap length r.1, fields_spends fs r.0 r.2.0 r.2.1, ap length r.2.2.1)
cell_spends (elements p ns) ts rest r =
    let within = any_spends ReadsNumeral (λ n ts rest e. omega (arith, ap length e)) ns r.0 r.2.0 r.2.1 in
    omega (arith, ap length r.1, within, ap length r.2.2.1)
cell_spends (answers p bs) ts rest r =
    let within = any_spends ReadsBit (λ b ts rest e. omega (arith, ap length e.1)) bs r.0 r.2.0 r.2.1 in
    omega (arith, ap length r.1, within, ap length r.2.2.1)

entry_spends : (e : Entry) (ts rest : List Lexeme) → ReadsEntry e ts rest → Spends (loose_length e.cell) ts rest
entry_spends e ts rest r =
    let cell = cell_spends e.cell r.2.2.0 rest r.2.2.2 in
    omega (arith, ap length r.1, ap length r.2.1, ap length r.2.2.1.1, cell)

-- each of the entries, among them all
entries_spend : (es : List Entry) (i : ℕ) (e : Entry) (ts rest : List Lexeme) → slice_get es i ≡ Some e → ReadsEntries es ts rest → Spends (loose_length e.cell) ts rest
entries_spend [] i e ts rest there r = absurd (cc)
entries_spend (x ∷ es) zero e ts rest there r =
    let here = entry_spends x ts r.0 r.1 in
    let others = entries_left es r.0 rest r.2 in
    subst (λ (e : Entry). Spends (loose_length e.cell) ts rest) (some_is x e there) (omega (arith, here, others))
  where
    entries_left : (es : List Entry) (ts rest : List Lexeme) → ReadsEntries es ts rest → Spends 0 ts rest
    entries_left [] ts rest r = omega (arith, ap length r)
    entries_left (x ∷ es) ts rest r = let here = entry_spends x ts r.0 r.1 in let others = entries_left es r.0 rest r.2 in omega (arith, here, others)
entries_spend (x ∷ es) (suc i) e ts rest there r =
    let here = entry_spends x ts r.0 r.1 in
    let others = entries_spend es i e r.0 rest there r.2 in
    omega (arith, here, others)

-- ---- bytes

lexemes_within : (ts : List Lexeme) (at : Place) (bytes rest : List ℕ) → Divides at bytes ts rest → length ts + length rest ≤ length bytes
lexemes_within [] at bytes rest d = omega (arith, ap length d)
lexemes_within (t ∷ ts) at bytes rest d =
    let takes = d.1 in
    let text = token_text t.token in
    let one = some_text t.token takes.fits in
    let others = lexemes_within ts (behind t) d.0 rest d.2 in
    omega (arith, ap length takes.parts, length-append takes.gap (text ++ d.0), length-append text d.0, one, others)

-- a cell of a heap file has no more loose slots, and no more answers, than the file has bytes
pub loose_within : (bytes : List ℕ) (h : Heap) (i : ℕ) (e : Entry) → HeapSpells bytes h → slice_get h.entries i ≡ Some e → loose_length e.cell ≤ length bytes
loose_within bytes h i e spells there =
    let lexes = spells.1 in
    let heap = spells.2 in
    let cells = entries_spend h.entries i e spells.0 heap.0 there heap.1 in
    let lexemes = lexemes_within spells.0 first_place bytes lexes.0 lexes.2 in
    omega (arith, cells, lexemes)
