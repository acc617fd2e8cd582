-- The mentions among the tokens of a tree are those of the tree, in order.
use Rattle.std.proofs.Common.{◌≡◌, ℕ, zero, suc, Bool, List, [], ◌∷◌, ◌++◌, codes, Some, refl, sym, ap, ◌∙◌, append_assoc}
use Rattle.std.proofs.lemmas.List.{append-nil}
use Rattle.cg_base.specs.declared.place.Place.{Place}
use Rattle.cg_heaptext_def.specs.Grammar.{Reading, ReadsAny, ReadsBit, ReadsCell, ReadsFields, ReadsMore, ReadsMoreFields, ReadsNumeral, ReadsRest, ReadsTwo, ReadsValue, bit_text, mark, token_at, truth_text}
use Rattle.cg_heaptext_def.specs.HeapText.{addresses, addresses_all, addresses_in, mentioned_in}
use Rattle.cg_heaptext_def.specs.Tokens.{Lexeme, Token, number, lower, upper, sign}
use Rattle.cg_heaptext_def.specs.Trees.{Written, numeral, truth, nothing, gone, address, constant, applied, inside, tuple, record', Writtens, none, more, Fields, end, field, Cell, slots, elements, answers}
use Rattle.cg_heaptext_def.specs.Trees as trees
use Rattle.cg_heaptext_mentions.specs.Steps.{begun, met, next_depth, step}
use Rattle.cg_heaptext_mentions.specs.declared.step.Step.TheVariants.{Stays}

-- a token that begins no mention, and says nothing of the depth
passed : (t : Token) (p : Place) (d : ℕ) (ts rest : List Lexeme) → step t ≡ Stays → token_at p t ts rest → met (Some d) ts ≡ met (Some d) rest
passed t p d ts rest s e = ap (met (Some d)) e ∙ ap (λ u. begun u p rest ++ met (next_depth u d) rest) s

-- a sign at any place
mark_passed : (x : List ℕ) (d : ℕ) (ts rest : List Lexeme) → step (sign x) ≡ Stays → mark x ts rest → met (Some d) ts ≡ met (Some d) rest
mark_passed x d ts rest s m = passed (sign x) m.0 d ts rest s m.1

-- `@` and a number
mention_met : (p : Place) (n : trees.Numeral) (d : ℕ) (ts mid rest : List Lexeme) → token_at p (sign (codes "@")) ts mid → ReadsNumeral n mid rest → met (Some d) ts ≡ addresses (address p n) ++ met (Some d) rest
mention_met p n d ts mid rest e f = ap (met (Some d)) (e ∙ ap (λ us. record { token = sign (codes "@"); place = p } ∷ us) f)

-- `#{` and its `}`
opened : (p : Place) (d : ℕ) (ts rest : List Lexeme) → token_at p (sign (codes "#{")) ts rest → met (Some d) ts ≡ met (Some (suc d)) rest
opened p d ts rest e = ap (met (Some d)) e

closed : (d : ℕ) (ts rest : List Lexeme) → mark (codes "}") ts rest → met (Some (suc d)) ts ≡ met (Some d) rest
closed d ts rest m = ap (met (Some (suc d))) m.1

mutual
  pub value_met : (v : Written) (d : ℕ) (ts rest : List Lexeme) → ReadsValue v ts rest → met (Some d) ts ≡ addresses v ++ met (Some d) rest
  value_met (numeral n) d ts rest r = passed (number n.digits) n.place d ts rest refl r
  value_met (truth p b) d ts rest r = passed (upper (truth_text b)) p d ts rest refl r
  value_met (nothing p) d ts rest r = passed (sign (codes "(")) p d ts r.0 refl r.1 ∙ mark_passed (codes ")") d r.0 rest refl r.2
  value_met (gone p) d ts rest r = passed (lower (codes "_")) p d ts rest refl r
  value_met (address p n) d ts rest r = mention_met p n d ts r.0 rest r.1 r.2
  value_met (constant p x) d ts rest r = passed (upper x) p d ts rest refl r.1
  value_met (applied p x v) d ts rest r = let q = r.2 in passed (upper x) p d ts q.0 refl q.1 ∙ value_met v d q.0 rest q.2
  value_met (inside p v) d ts rest r =
      passed (sign (codes "(")) p d ts r.0 refl r.1
      ∙ value_met v d r.0 r.2.0 r.2.1
      ∙ ap (λ ms. addresses v ++ ms) (mark_passed (codes ")") d r.2.0 rest refl r.2.2)
  value_met (tuple p vs) d ts rest r =
      passed (sign (codes "(")) p d ts r.0 refl r.1
      ∙ two_met vs d r.0 r.2.0 r.2.1
      ∙ ap (λ ms. addresses_all vs ++ ms) (mark_passed (codes ")") d r.2.0 rest refl r.2.2)
  value_met (record' p fs) d ts rest r =
      opened p d ts r.0 r.1 ∙ fields_met fs (suc d) r.0 r.2.0 r.2.1 ∙ ap (λ ms. addresses_in fs ++ ms) (closed d r.2.0 rest r.2.2)

  two_met : (vs : Writtens) (d : ℕ) (ts rest : List Lexeme) → ReadsTwo vs ts rest → met (Some d) ts ≡ addresses_all vs ++ met (Some d) rest
  two_met none d ts rest r = absurd r
  two_met (more v none) d ts rest r = absurd r
  two_met (more v (more w vs)) d ts rest r =
      value_met v d ts r.0 r.1
      ∙ ap (λ ms. addresses v ++ ms) (more_met (more w vs) d r.0 rest r.2)
      ∙ sym (append_assoc (addresses v) (addresses_all (more w vs)) (met (Some d) rest))

  more_met : (vs : Writtens) (d : ℕ) (ts rest : List Lexeme) → ReadsMore vs ts rest → met (Some d) ts ≡ addresses_all vs ++ met (Some d) rest
  more_met none d ts rest r = ap (met (Some d)) r
  more_met (more v vs) d ts rest r =
      mark_passed (codes ",") d ts r.0 refl r.1
      ∙ value_met v d r.0 r.2.0 r.2.1
      ∙ ap (λ ms. addresses v ++ ms) (more_met vs d r.2.0 rest r.2.2)
      ∙ sym (append_assoc (addresses v) (addresses_all vs) (met (Some d) rest))

  fields_met : (fs : Fields) (d : ℕ) (ts rest : List Lexeme) → ReadsFields fs ts rest → met (Some d) ts ≡ addresses_in fs ++ met (Some d) rest
  fields_met end d ts rest r = absurd r
  fields_met (field x v fs) d ts rest r =
      let q = r.1 in
      passed (lower x) q.1.0 d ts q.0 refl q.1.1
      ∙ mark_passed (codes "=") d q.0 q.2.0 refl q.2.1
      ∙ value_met v d q.2.0 q.2.2.0 q.2.2.1
      ∙ ap (λ ms. addresses v ++ ms) (more_fields_met fs d q.2.2.0 rest q.2.2.2)
      ∙ sym (append_assoc (addresses v) (addresses_in fs) (met (Some d) rest))

  more_fields_met : (fs : Fields) (d : ℕ) (ts rest : List Lexeme) → ReadsMoreFields fs ts rest → met (Some d) ts ≡ addresses_in fs ++ met (Some d) rest
  more_fields_met end d ts rest r = ap (met (Some d)) r
  more_fields_met (field x v fs) d ts rest r =
      let c = r.1 in
      let q = c.2 in
      mark_passed (codes ",") d ts c.0 refl c.1
      ∙ passed (lower x) q.1.0 d c.0 q.0 refl q.1.1
      ∙ mark_passed (codes "=") d q.0 q.2.0 refl q.2.1
      ∙ value_met v d q.2.0 q.2.2.0 q.2.2.1
      ∙ ap (λ ms. addresses v ++ ms) (more_fields_met fs d q.2.2.0 rest q.2.2.2)
      ∙ sym (append_assoc (addresses v) (addresses_in fs) (met (Some d) rest))

-- ---- lists, and cells

-- no mention stands in it
abbrev MeetsNone : Reading → Type 0
MeetsNone R = (d : ℕ) (ts rest : List Lexeme) → R ts rest → met (Some d) ts ≡ met (Some d) rest

rest_none : {A : Type 0} (R : A → Reading) → ((x : A) → MeetsNone (R x)) → (xs : List A) → MeetsNone (ReadsRest R xs)
rest_none R p [] d ts rest r = ap (met (Some d)) r
rest_none R p (x ∷ xs) d ts rest r = mark_passed (codes ",") d ts r.0 refl r.1 ∙ p x d r.0 r.2.0 r.2.1 ∙ rest_none R p xs d r.2.0 rest r.2.2

any_none : {A : Type 0} (R : A → Reading) → ((x : A) → MeetsNone (R x)) → (xs : List A) → MeetsNone (ReadsAny R xs)
any_none R p [] d ts rest r = ap (met (Some d)) r
any_none R p (x ∷ xs) d ts rest r = p x d ts r.0 r.1 ∙ rest_none R p xs d r.0 rest r.2

numeral_none : (n : trees.Numeral) → MeetsNone (ReadsNumeral n)
numeral_none n d ts rest r = passed (number n.digits) n.place d ts rest refl r

bit_none : (b : Bool) → MeetsNone (ReadsBit b)
bit_none b d ts rest r = passed (number (bit_text b)) r.0 d ts rest refl r.1

-- behind the first token of a cell
pub cell_met : (c : Cell) (ts rest : List Lexeme) → ReadsCell c ts rest → (t : Lexeme) × (inner : List Lexeme) × (ts ≡ t ∷ inner) × (met (Some zero) inner ≡ mentioned_in c)
cell_met (slots p fs) ts rest r =
    (record { token = sign (codes "{"); place = p }, r.0, r.1, fields_met fs zero r.0 r.2.0 r.2.1 ∙ ap (λ us. addresses_in fs ++ met (Some zero) us) r.2.2.1 ∙ append-nil (addresses_in fs))
cell_met (elements p ns) ts rest r =
    (record { token = sign (codes "["); place = p }, r.0, r.1, any_none ReadsNumeral numeral_none ns zero r.0 r.2.0 r.2.1 ∙ ap (met (Some zero)) r.2.2.1)
cell_met (answers p bs) ts rest r =
    (record { token = sign (codes "<"); place = p }, r.0, r.1, any_none ReadsBit bit_none bs zero r.0 r.2.0 r.2.1 ∙ ap (met (Some zero)) r.2.2.1)

-- a value up to the end of the file
pub argument_met : (v : Written) (ts : List Lexeme) → ReadsValue v ts [] → met (Some zero) ts ≡ addresses v
argument_met v ts r = value_met v zero ts [] r ∙ append-nil (addresses v)
