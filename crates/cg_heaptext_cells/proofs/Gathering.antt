-- The elements of an array are gathered.
use Rattle.std.proofs.Common.{◌≡◌, ℕ, List, [], ◌∷◌, ◌++◌, map, None, refl, sym, ap, ◌∙◌, subst}
use Rattle.std.proofs.lemmas.List.{map-append}
use Rattle.std.proofs.lemmas.Simd.{map-map}
use Rattle.std.specs.Prelude.{Option}
use Rattle.cg_base.specs.Numbers.{number_from}
use Rattle.cg_base.specs.declared.place.Place.{Place}
use Rattle.cg_heaptext_def.specs.Small.{capped_number}
use Rattle.cg_heaptext_def.specs.Tokens.{Lexeme}
use Rattle.cg_heaptext_def.specs.Trees.{Numeral, amount}
use Rattle.cg_heaptext_lexer.specs.Next.{Cursor, Gives, lexeme}
use Rattle.cg_heaptext_lexer.specs.declared.token.Token.{Token as Read}
use Rattle.cg_heaptext_lexer.specs.declared.token.TokenKind.{TokenKind}
use Rattle.cg_heaptext_places.specs.Noted.{IsLeast, noted_all}
use Rattle.cg_heaptext_cells.specs.ByKind.{read_by}
use Rattle.cg_heaptext_cells.specs.Cells.{IsAbove}
use Rattle.cg_heaptext_cells.specs.Lists.{marked}
use Rattle.cg_heaptext_cells.specs.Numbers.{numeral_read, places_above}
use Rattle.cg_heaptext_cells.specs.declared.list.Mark.TheVariants.{Item, Comma, Over}
use Rattle.cg_heaptext_cells.proofs.Bounds.{least_above, noted_behind}
use Rattle.cg_heaptext_cells.proofs.Listing.{AreElements, Going, all_gathered, behind_comma, behind_item, elements_begin}
use Rattle.cg_heaptext_cells.proofs.Standing.{numeral_in, numeral_same}

-- a number as it is given
abbrev given_number : Numeral → ℕ
given_number n = capped_number (amount n)

-- Some elements of the array in a cell were gathered, and the others stand from here on.
pub record Gathered (cell now : Cursor) (most : ℕ) (numbers : List ℕ) (over : Option Place) : Type 0 where
  pub done : List Numeral
  pub going : Going Numeral numeral_in (AreElements cell) now done
  pub are : numbers ≡ map given_number done
  pub noted : over ≡ noted_all None (places_above most done)

-- behind the bracket that opens the cell
pub none_gathered : (k : TokenKind) (cell now : Cursor) (t : Lexeme) (most : ℕ) (numbers : List ℕ) (over : Option Place) → numbers ≡ [] → over ≡ None → Gives k cell t now → Gathered cell now most numbers over
none_gathered k cell now t most numbers over e none g = record { done = []; going = elements_begin k cell now t g; are = e; noted = none }

module _ (cell old new : Cursor) (t : Read) (g : Gives t.kind old (lexeme t) new) (most : ℕ) (numbers : List ℕ) (over : Option Place) (w : Gathered cell old most numbers over) where
  -- behind one more
  pub one_gathered : (more : List ℕ) (next : Option Place) → Item ≡ read_by marked Over t.kind t.text.now → more ≡ numbers ++ capped_number (number_from 0 t.text.now) ∷ [] → next ≡ noted_all over (places_above most (numeral_read t ∷ []))
      → Gathered cell new most more next
  one_gathered more next e push note =
      let n : Numeral = numeral_read t in
      let going = behind_item Numeral numeral_in (AreElements cell) t.kind t.text.now old new (lexeme t) refl g w.done w.going e in
      record {
        done = w.done ++ n ∷ [];
        going = subst (λ (m : Numeral). Going Numeral numeral_in (AreElements cell) new (w.done ++ m ∷ [])) (sym (numeral_same t)) going;
        are = push ∙ ap (λ ns. ns ++ capped_number (number_from 0 t.text.now) ∷ []) w.are ∙ sym (map-append given_number w.done (n ∷ []));
        noted = noted_behind most w.done (n ∷ []) over next w.noted note;
      }

  -- behind a comma
  pub comma_passed : Comma ≡ read_by marked Over t.kind t.text.now → Gathered cell new most numbers over
  comma_passed e = record {
    done = w.done;
    going = behind_comma Numeral numeral_in (AreElements cell) t.kind t.text.now old new (lexeme t) refl g w.done w.going e;
    are = w.are;
    noted = w.noted;
  }

  -- behind the bracket these are the elements
  pub elements_told : Over ≡ read_by marked Over t.kind t.text.now → (p : Place) (ns : List Numeral) → AreElements cell ns
      → IsLeast (IsAbove most ns) over × (numbers ≡ map capped_number (map amount ns))
  elements_told e p ns a =
      let all : w.done ≡ ns = all_gathered Numeral numeral_in (AreElements cell) t.kind t.text.now old new (lexeme t) refl g w.done w.going e ns a in (
        least_above most ns over (w.noted ∙ ap (λ ms. noted_all None (places_above most ms)) all),
        w.are ∙ ap (map given_number) all ∙ sym (map-map capped_number amount ns),
      )
