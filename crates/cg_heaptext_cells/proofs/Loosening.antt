-- The pieces of a record that nobody reaches are its slots as they are given, with its numbers.
use Rattle.std.proofs.Common.{◌≡◌, ℕ, zero, Bool, true, false, List, [], ◌∷◌, ◌++◌, map, Some, None, refl, sym, ap, ◌∙◌, subst}
use Rattle.std.proofs.lemmas.List.{map-append}
use Rattle.std.specs.Prelude.{Option}
use Rattle.cg_base.specs.declared.place.Place.{Place}
use Rattle.cg_heap.specs.declared.cell.Scalar.{Scalar}
use Rattle.cg_heap.specs.declared.cell.Scalar.TheVariants.{Word}
use Rattle.cg_heaptext_def.specs.HeapText.{numerals, numerals_all, numerals_in}
use Rattle.cg_heaptext_def.specs.Reading.{bit_number, loose, loose_all, loose_fields}
use Rattle.cg_heaptext_def.specs.Small.{capped, most_word}
use Rattle.cg_heaptext_def.specs.Trees.{Numeral, Written, numeral, truth, nothing, gone, address, constant, applied, inside, tuple, record', Writtens, none, more, Fields, end, field, slots}
use Rattle.cg_heaptext_entries.specs.Index.{CellStands}
use Rattle.cg_heaptext_def.specs.Tokens.{Lexeme}
use Rattle.cg_heaptext_lexer.specs.Next.{Cursor, Gives, lexeme}
use Rattle.cg_heaptext_lexer.specs.declared.token.Token.{Token as Read}
use Rattle.cg_heaptext_lexer.specs.declared.token.TokenKind.{TokenKind}
use Rattle.cg_heaptext_places.specs.Noted.{IsLeast, noted_all}
use Rattle.cg_heaptext_cells.specs.ByKind.{read_by}
use Rattle.cg_heaptext_cells.specs.Cells.{IsAbove}
use Rattle.cg_heaptext_cells.specs.Numbers.{numeral_read, places_above}
use Rattle.cg_heaptext_cells.specs.Pieces.{Piece, counted, addressed, plain, counted_in, depth_at, gift, given_scalar, held, pieces_of}
use Rattle.cg_heaptext_cells.specs.declared.pieces.Gift.{Gift}
use Rattle.cg_heaptext_cells.specs.declared.pieces.Gift.TheVariants.{Nothing}
use Rattle.cg_heaptext_cells.specs.declared.pieces.Held.{Held}
use Rattle.cg_heaptext_cells.specs.declared.pieces.Held.TheVariants.{Free}
use Rattle.cg_heaptext_cells.proofs.Bounds.{least_above, noted_behind}
use Rattle.cg_heaptext_cells.proofs.Passing.{Going, all_given, begins, goes_on, pieces, pieces_all, pieces_in}
use Rattle.cg_heaptext_cells.proofs.Standing.{numeral_in, numeral_same}

-- ---- what pieces are

counted_both : (ps qs : List Piece) → counted_in (ps ++ qs) ≡ counted_in ps ++ counted_in qs
counted_both [] qs = refl
counted_both (counted n ∷ ps) qs = ap (λ ns. n ∷ ns) (counted_both ps qs)
counted_both (addressed n ∷ ps) qs = counted_both ps qs
counted_both (plain u ∷ ps) qs = counted_both ps qs

-- pieces have these numbers, and give these scalars
record Are (ps : List Piece) (ns : List Numeral) (us : List Scalar) : Type 0 where
  numbers : counted_in ps ≡ ns
  scalars : map given_scalar ps ≡ map capped us

are_both : (ps qs : List Piece) (ns os : List Numeral) (us vs : List Scalar) → Are ps ns us → Are qs os vs → Are (ps ++ qs) (ns ++ os) (us ++ vs)
are_both ps qs ns os us vs a b = record {
  numbers = counted_both ps qs ∙ (λ i. a.numbers i ++ b.numbers i);
  scalars = map-append given_scalar ps qs ∙ (λ i. a.scalars i ++ b.scalars i) ∙ sym (map-append capped us vs);
}

bit_given : (b : Bool) → Word (bit_number b) ≡ capped (Word (bit_number b))
bit_given true = refl
bit_given false = refl

mutual
  are_pieces : (v : Written) → Are (pieces v) (numerals v) (loose v)
  are_pieces (numeral n) = record { numbers = refl; scalars = refl }
  are_pieces (truth p b) = record { numbers = refl; scalars = ap (λ u. u ∷ []) (bit_given b) }
  are_pieces (nothing p) = record { numbers = refl; scalars = refl }
  are_pieces (gone p) = record { numbers = refl; scalars = refl }
  are_pieces (address p n) = record { numbers = refl; scalars = refl }
  are_pieces (constant p x) = record { numbers = refl; scalars = refl }
  are_pieces (applied p x v) = are_pieces v
  are_pieces (inside p v) = are_pieces v
  are_pieces (tuple p vs) = are_all vs
  are_pieces (record' p fs) = are_in fs

  are_all : (vs : Writtens) → Are (pieces_all vs) (numerals_all vs) (loose_all vs)
  are_all none = record { numbers = refl; scalars = refl }
  are_all (more v vs) = are_both (pieces v) (pieces_all vs) (numerals v) (numerals_all vs) (loose v) (loose_all vs) (are_pieces v) (are_all vs)

  are_in : (fs : Fields) → Are (pieces_in fs) (numerals_in fs) (loose_fields fs)
  are_in end = record { numbers = refl; scalars = refl }
  are_in (field x v fs) = are_both (pieces v) (pieces_in fs) (numerals v) (numerals_in fs) (loose v) (loose_fields fs) (are_pieces v) (are_in fs)

-- ---- the loop

-- Some pieces of the record in a cell were gathered, and the others stand from here on.
pub record Loosened (cell now : Cursor) (h : Held) (d : ℕ) (us : List Scalar) (over : Option Place) : Type 0 where
  pub done : List Piece
  pub going : Going cell now h d done
  pub are : us ≡ map given_scalar done
  pub noted : over ≡ noted_all None (places_above most_word (counted_in done))

-- behind the bracket that opens the cell
pub none_loosened : (k : TokenKind) (cell now : Cursor) (t : Lexeme) (us : List Scalar) (over : Option Place) → us ≡ [] → over ≡ None → Gives k cell t now → Loosened cell now Free zero us over
none_loosened k cell now t us over e o g = record { done = []; going = begins k cell now t g; are = e; noted = o }

module _ (cell old new : Cursor) (t : Read) (g : Gives t.kind old (lexeme t) new) (h : Held) (d : ℕ) (us : List Scalar) (over : Option Place) (w : Loosened cell old h d us over) (a : Gift) (is : a ≡ read_by (gift h) Nothing t.kind t.text.now) (vs : List Scalar) (next : Option Place)
    (add : vs ≡ us ++ map given_scalar (pieces_of a (numeral_read t))) (note : next ≡ noted_all over (places_above most_word (counted_in (pieces_of a (numeral_read t))))) where
  abbrev new_pieces : List Piece
  new_pieces = pieces_of a (numeral_read t)

  same_pieces : new_pieces ≡ pieces_of (read_by (gift h) Nothing t.kind t.text.now) (numeral_in (lexeme t))
  same_pieces = λ i. pieces_of (is i) (numeral_same t i)

  are_more : vs ≡ map given_scalar (w.done ++ new_pieces)
  are_more = add ∙ ap (λ xs. xs ++ map given_scalar new_pieces) w.are ∙ sym (map-append given_scalar w.done new_pieces)

  noted_more : next ≡ noted_all None (places_above most_word (counted_in (w.done ++ new_pieces)))
  noted_more =
      noted_behind most_word (counted_in w.done) (counted_in new_pieces) over next w.noted note
      ∙ ap (λ ns. noted_all None (places_above most_word ns)) (sym (counted_both w.done new_pieces))

  -- behind a token of the record
  pub one_loosened : (i : Held) → i ≡ read_by held Free t.kind t.text.now → (e : ℕ) → Some e ≡ read_by (depth_at d) None t.kind t.text.now → Loosened cell new i e vs next
  one_loosened i held_is e depth_is =
      let going = goes_on t.kind t.text.now cell old new (lexeme t) refl g h d w.done w.going e depth_is in
      record {
        done = w.done ++ new_pieces;
        going = subst (λ (j : Held). Going cell new j e (w.done ++ new_pieces)) (sym held_is)
            (subst (λ (ps : List Piece). Going cell new (read_by held Free t.kind t.text.now) e (w.done ++ ps)) (sym same_pieces) going);
        are = are_more;
        noted = noted_more;
      }

  -- behind the last one these are the slots
  pub slots_told : None ≡ read_by (depth_at d) None t.kind t.text.now → (p : Place) (fs : Fields) → CellStands cell (slots p fs)
      → IsLeast (IsAbove most_word (numerals_in fs)) next × (vs ≡ map capped (loose_fields fs))
  slots_told depth_is p fs s =
      let all : w.done ++ new_pieces ≡ pieces_in fs = ap (λ ps. w.done ++ ps) same_pieces ∙ all_given t.kind t.text.now cell old new (lexeme t) refl g h d w.done w.going depth_is p fs s in
      let are = are_in fs in
      let noted : next ≡ noted_all None (places_above most_word (numerals_in fs)) = noted_more ∙ ap (λ ps. noted_all None (places_above most_word (counted_in ps))) all ∙ ap (λ ns. noted_all None (places_above most_word ns)) are.numbers in
      (least_above most_word (numerals_in fs) next noted, are_more ∙ ap (map given_scalar) all ∙ are.scalars)
