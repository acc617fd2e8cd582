-- The elements of an array that pass its word are noted.
use Rattle.std.proofs.Common.{◌≡◌, ℕ, ◌<◌, true, false, List, [], ◌∷◌, ◌++◌, length, Option, refl, sym, ap, ◌∙◌, subst}
use Rattle.std.proofs.lemmas.Bool.{false≢true, true≢false}
use Rattle.cg_base.specs.declared.place.Place.{Place}
use Rattle.cg_heaptext_cells.proofs.Listing.{AreElements, Going, all_gathered, behind_comma, behind_item, elements_begin}
use Rattle.cg_heaptext_cells.proofs.Standing.{numeral_in, numeral_same}
use Rattle.cg_heaptext_cells.specs.ByKind.{read_by}
use Rattle.cg_heaptext_cells.specs.Lists.{marked}
use Rattle.cg_heaptext_cells.specs.Numbers.{numeral_read}
use Rattle.cg_heaptext_cells.specs.declared.list.Mark.{Mark}
use Rattle.cg_heaptext_cells.specs.declared.list.Mark.TheVariants.{Item, Comma, Over}
use Rattle.cg_heaptext_def.specs.Tokens.{Lexeme}
use Rattle.cg_heaptext_def.specs.Trees.{Numeral}
use Rattle.cg_heaptext_judge_def.specs.Judging.{counting}
use Rattle.cg_heaptext_judge_steps.specs.Steps.{counted_all, is_comma_mark, is_item_mark}
use Rattle.cg_heaptext_lexer.proofs.Walking.{shorter}
use Rattle.cg_heaptext_lexer.specs.Next.{Cursor, Gives, lexeme}
use Rattle.cg_heaptext_lexer.specs.declared.token.Token.{Token as Read}
use Rattle.cg_heaptext_lexer.specs.declared.token.TokenKind.{TokenKind}
use Rattle.cg_heaptext_lexer.specs.declared.token.TokenKind.TheVariants.{Number, Lower, Upper, Sign, Unknown, End}

-- ---- marks

pub item_is : (m : Mark) → true ≡ is_item_mark m → Item ≡ m
item_is Item e = refl
item_is Comma e = absurd (true≢false e)
item_is Over e = absurd (true≢false e)

pub comma_is : (m : Mark) → true ≡ is_comma_mark m → Comma ≡ m
comma_is Item e = absurd (true≢false e)
comma_is Comma e = refl
comma_is Over e = absurd (true≢false e)

pub over_is : (m : Mark) → false ≡ is_item_mark m → false ≡ is_comma_mark m → Over ≡ m
over_is Item e f = absurd (false≢true e)
over_is Comma e f = absurd (false≢true f)
over_is Over e f = refl

-- ---- the loop

counted_more : (over : Option Place) (xs : List Numeral) (n : Numeral) (bound : ℕ) → counted_all over (xs ++ n ∷ []) bound ≡ counting (counted_all over xs bound) n bound
counted_more over [] n bound = refl
counted_more over (x ∷ xs) n bound = counted_more (counting over x bound) xs n bound

-- Some elements of the array in a cell were noted, and the others stand from here on.
pub record Counted (cell now : Cursor) (bound : ℕ) (before found : Option Place) : Type 0 where
  pub done : List Numeral
  pub going : Going Numeral numeral_in (AreElements cell) now done
  pub noted : found ≡ counted_all before done bound

-- behind the bracket that opens the cell
pub none_counted : (k : TokenKind) (cell old now : Cursor) (t : Lexeme) (bound : ℕ) (before : Option Place) → old ≡ cell → Gives k old t now → Counted cell now bound before before
none_counted k cell old now t bound before e g =
    record { done = []; going = elements_begin k cell now t (subst (λ (a : Cursor). Gives k a t now) e g); noted = refl }

module _ (cell old new : Cursor) (t : Read) (g : Gives t.kind old (lexeme t) new) (bound : ℕ) (before found : Option Place) (w : Counted cell old bound before found) where
  -- behind one more
  pub one_counted : (next : Option Place) → Item ≡ read_by marked Over t.kind t.text.now → next ≡ counting found (numeral_read t) bound → Counted cell new bound before next
  one_counted next e note =
      let n : Numeral = numeral_read t in
      let going = behind_item Numeral numeral_in (AreElements cell) t.kind t.text.now old new (lexeme t) refl g w.done w.going e in
      record {
        done = w.done ++ n ∷ [];
        going = subst (λ (m : Numeral). Going Numeral numeral_in (AreElements cell) new (w.done ++ m ∷ [])) (sym (numeral_same t)) going;
        noted = note ∙ ap (λ o. counting o n bound) w.noted ∙ sym (counted_more before w.done n bound);
      }

  -- behind a comma
  pub comma_passed : Comma ≡ read_by marked Over t.kind t.text.now → Counted cell new bound before found
  comma_passed e = record {
    done = w.done;
    going = behind_comma Numeral numeral_in (AreElements cell) t.kind t.text.now old new (lexeme t) refl g w.done w.going e;
    noted = w.noted;
  }

  -- behind the bracket these are the elements
  pub all_counted : Over ≡ read_by marked Over t.kind t.text.now → (ns : List Numeral) → AreElements cell ns → found ≡ counted_all before ns bound
  all_counted e ns a =
      w.noted ∙ ap (λ xs. counted_all before xs bound) (all_gathered Numeral numeral_in (AreElements cell) t.kind t.text.now old new (lexeme t) refl g w.done w.going e ns a)
