-- Bytes that spell no heap file stop being one at one place.
use Rattle.std.proofs.Common.{◌≡◌, ℕ, false, List, [], ◌∷◌, ◌++◌, refl, sym, ap, ◌∙◌, subst, append_assoc}
use Rattle.std.proofs.lemmas.List.{append-nil}
use Rattle.cg_base.proofs.Spans.{not_all, one_span}
use Rattle.cg_base.specs.Bytes.{white, Each}
use Rattle.cg_base.specs.declared.place.Place.{Place}
use Rattle.cg_base.specs.Places.{first_place, place_after}
use Rattle.cg_base.specs.Reader.{Begins}
use Rattle.cg_heaptext_def.specs.Grammar.{SpellsTokens}
use Rattle.cg_heaptext_def.specs.HeapText.{IsCutAt, IsUnexpected, at_end, at_token, at_unknown, place_behind}
use Rattle.cg_heaptext_def.specs.Tokens.{Lexeme, Takes, Divides, behind}
use Rattle.cg_heaptext_lexer.proofs.Cuts.{one_takes}
use Rattle.cg_heaptext_lexer.proofs.Walking.{none_in_space}
use Rattle.cg_heaptext_fault_laws.specs.Laws.{CutIsNoText, OneCut}

-- of the tokens of two fronts of the same bytes, from a place on, one list goes on from the other
data Along (front other : List Lexeme) (p : Place) (at to : List ℕ) : Type 0 where
  ahead : (more : List Lexeme) → other ≡ front ++ more → Divides (place_behind p front) at more to → Along front other p at to
  back : (more : List Lexeme) → front ≡ other ++ more → Divides (place_behind p other) to more at → Along front other p at to

along_more : (t : Lexeme) (front other : List Lexeme) (p : Place) (at to : List ℕ) → Along front other (behind t) at to → Along (t ∷ front) (t ∷ other) p at to
along_more t front other p at to (ahead more e d) = ahead more (ap (λ x. t ∷ x) e) d
along_more t front other p at to (back more e d) = back more (ap (λ x. t ∷ x) e) d

along : (front other : List Lexeme) (p : Place) (bytes at to : List ℕ) → Divides p bytes front at → Divides p bytes other to → Along front other p at to
along [] other p bytes at to d e = ahead other refl (subst (λ x. Divides p x other to) d e)
along (t ∷ front) [] p bytes at to d e = back (t ∷ front) refl (subst (λ x. Divides p x (t ∷ front) at) e d)
along (t ∷ front) (u ∷ other) p bytes at to d e =
    let one = one_takes p bytes d.0 e.0 t u d.1 e.1 in
    let moved : Divides (behind t) d.0 other to = subst (λ x. Divides (behind t) x other to) (sym one.1) (subst (λ (v : Lexeme). Divides (behind v) e.0 other to) (sym one.0) e.2) in
    subst (λ v. Along (t ∷ front) (v ∷ other) p at to) one.0 (along_more t front other p at to (along front other (behind t) d.0 at to d.2 moved))

-- what begins with tokens and more begins with them and the next one
begun_more : (front : List Lexeme) (t : Lexeme) (more : List Lexeme) → Begins SpellsTokens (front ++ t ∷ more) → Begins SpellsTokens (front ++ t ∷ [])
begun_more front t more b =
    let parts : (front ++ t ∷ more) ++ b.0 ≡ (front ++ t ∷ []) ++ (more ++ b.0) = append_assoc front (t ∷ more) b.0 ∙ sym (append_assoc front (t ∷ []) (more ++ b.0)) in
    (more ++ b.0, b.1, subst (λ ts. SpellsTokens ts b.1) parts b.2)

module _ (bytes : List ℕ) where
  -- where a heap file stops, none goes on with a token
  stays : (front : List Lexeme) (rest mid : List ℕ) (p : Place) (t : Lexeme) → IsUnexpected bytes front rest p → Takes (place_behind first_place front) rest t mid → Begins SpellsTokens (front ++ t ∷ []) → ⊥
  stays front rest mid p t (at_token u after l none e) k b =
      none (subst (λ (v : Lexeme). Begins SpellsTokens (front ++ v ∷ [])) (one_takes (place_behind first_place front) rest mid after t u k l).0 b)
  stays front rest mid p t (at_unknown gap left x parts space dark none e) k b = none t mid k
  stays front rest mid p t (at_end space none e) k b = none_in_space (place_behind first_place front) rest mid t space k

  -- behind a byte that begins no token, all is not white space
  not_space : (gap left : List ℕ) (x : ℕ) (rest : List ℕ) → rest ≡ gap ++ x ∷ left → white x ≡ false → Each white rest → ⊥
  not_space gap left x rest parts dark space = not_all white gap x left dark (subst (Each white) parts space)

  -- it stops at one place
  one_unexpected : (front : List Lexeme) (rest : List ℕ) (p q : Place) → IsUnexpected bytes front rest p → IsUnexpected bytes front rest q → p ≡ q
  one_unexpected front rest p q (at_token t a k m e) (at_token u b l n f) =
      e ∙ ap (λ (v : Lexeme). v.place) (one_takes (place_behind first_place front) rest a b t u k l).0 ∙ sym f
  one_unexpected front rest p q (at_token t a k m e) (at_unknown gap left x parts space dark n f) = absurd (n t a k)
  one_unexpected front rest p q (at_token t a k m e) (at_end space n f) = absurd (none_in_space (place_behind first_place front) rest a t space k)
  one_unexpected front rest p q (at_unknown gap left x parts space dark m e) (at_token u b l n f) = absurd (m u b l)
  one_unexpected front rest p q (at_unknown gap left x parts space dark m e) (at_unknown gap' left' x' parts' space' dark' n f) =
      e ∙ ap (place_after (place_behind first_place front)) (one_span white gap (x ∷ left) gap' (x' ∷ left') space dark space' dark' (sym parts ∙ parts')).0 ∙ sym f
  one_unexpected front rest p q (at_unknown gap left x parts space dark m e) (at_end space' n f) = absurd (not_space gap left x rest parts dark space')
  one_unexpected front rest p q (at_end space m e) (at_token u b l n f) = absurd (none_in_space (place_behind first_place front) rest b u space l)
  one_unexpected front rest p q (at_end space m e) (at_unknown gap left x parts space' dark n f) = absurd (not_space gap left x rest parts dark space)
  one_unexpected front rest p q (at_end space m e) (at_end space' n f) = e ∙ sym f

  -- where one front stops, a heap file doesn't begin with a longer one
  met : (front other : List Lexeme) (at to : List ℕ) (p q : Place) → IsUnexpected bytes front at p → IsUnexpected bytes other to q → Begins SpellsTokens other
      → (more : List Lexeme) → other ≡ front ++ more → Divides (place_behind first_place front) at more to → p ≡ q
  met front other at to p q v w b [] e d =
      one_unexpected front at p q v (subst (λ x. IsUnexpected bytes x at q) (e ∙ append-nil front) (subst (λ x. IsUnexpected bytes other x q) (sym d) w))
  met front other at to p q v w b (t ∷ more) e d = absurd (stays front at d.0 p t v d.1 (begun_more front t more (subst (Begins SpellsTokens) e b)))

  -- bytes are cut at one place at most
  pub one_place : (p q : Place) → IsCutAt bytes p → IsCutAt bytes q → p ≡ q
  one_place p q a b = go (along a.front b.front first_place bytes a.rest b.rest a.divides b.divides)
    where
      go : Along a.front b.front first_place a.rest b.rest → p ≡ q
      go (ahead more e d) = met a.front b.front a.rest b.rest p q a.unexpected b.unexpected b.begins more e d
      go (back more e d) = sym (met b.front a.front b.rest a.rest q p b.unexpected a.unexpected a.begins more e d)

pub one_cut : OneCut
one_cut bytes m n a b = a.2 ∙ ap (λ (p : Place). p.line) (one_place bytes a.0 b.0 a.1 b.1) ∙ sym b.2

pub cut_is_no_text : CutIsNoText
cut_is_no_text bytes m a = a.1.no_heap
