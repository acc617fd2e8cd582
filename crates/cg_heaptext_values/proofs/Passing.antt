-- A value is passed over by counting the brackets that are open in it.
use Rattle.std.proofs.Common.{◌≡◌, ℕ, suc, Bool, true, false, List, codes, refl, ap, ◌∙◌}
use Rattle.cg_base.specs.declared.place.Place.{Place}
use Rattle.cg_heaptext_def.specs.Grammar.{ReadsFields, ReadsMore, ReadsMoreFields, ReadsTwo, ReadsValue, mark, token_at, truth_text}
use Rattle.cg_heaptext_def.specs.Tokens.{Lexeme, Token, number, lower, upper, sign}
use Rattle.cg_heaptext_def.specs.Trees.{Written, numeral, truth, nothing, gone, address, constant, applied, inside, tuple, record', Writtens, none, more, Fields, end, field}
use Rattle.cg_heaptext_values.specs.declared.turn.Turn.{Turn}
use Rattle.cg_heaptext_values.specs.declared.turn.Turn.TheVariants.{Opens, Closes, Parts, Stays}
use Rattle.cg_heaptext_values.specs.Turns.{Pass, passed, passes, turn}
use Rattle.cg_heaptext_values.specs.Turns as turns

abbrev At : ℕ → List Lexeme → Bool × List Lexeme
At d = passed (turns.inside d)

-- a token, which does this
one : (t : Token) (a : Turn) (p : Place) (d : ℕ) (ts rest : List Lexeme) → turn t ≡ a → token_at p t ts rest → At d ts ≡ passed (passes a d) rest
one t a p d ts rest s e = ap (At d) e ∙ ap (λ u. passed (passes u d) rest) s

sign_one : (x : List ℕ) (a : Turn) (d : ℕ) (ts rest : List Lexeme) → turn (sign x) ≡ a → mark x ts rest → At d ts ≡ passed (passes a d) rest
sign_one x a d ts rest s m = one (sign x) a m.0 d ts rest s m.1

mutual
  pub value_passed : (v : Written) (d : ℕ) (ts rest : List Lexeme) → ReadsValue v ts rest → At d ts ≡ At d rest
  value_passed (numeral n) d ts rest r = one (number n.digits) Stays n.place d ts rest refl r
  value_passed (truth p b) d ts rest r = one (upper (truth_text b)) Stays p d ts rest refl r
  value_passed (nothing p) d ts rest r = one (sign (codes "(")) Opens p d ts r.0 refl r.1 ∙ sign_one (codes ")") Closes (suc d) r.0 rest refl r.2
  value_passed (gone p) d ts rest r = one (lower (codes "_")) Stays p d ts rest refl r
  value_passed (address p n) d ts rest r = one (sign (codes "@")) Stays p d ts r.0 refl r.1 ∙ one (number n.digits) Stays n.place d r.0 rest refl r.2
  value_passed (constant p x) d ts rest r = one (upper x) Stays p d ts rest refl r.1
  value_passed (applied p x v) d ts rest r = let q = r.2 in one (upper x) Stays p d ts q.0 refl q.1 ∙ value_passed v d q.0 rest q.2
  value_passed (inside p v) d ts rest r =
      one (sign (codes "(")) Opens p d ts r.0 refl r.1 ∙ value_passed v (suc d) r.0 r.2.0 r.2.1 ∙ sign_one (codes ")") Closes (suc d) r.2.0 rest refl r.2.2
  value_passed (tuple p vs) d ts rest r =
      one (sign (codes "(")) Opens p d ts r.0 refl r.1 ∙ two_passed vs d r.0 r.2.0 r.2.1 ∙ sign_one (codes ")") Closes (suc d) r.2.0 rest refl r.2.2
  value_passed (record' p fs) d ts rest r =
      one (sign (codes "#{")) Opens p d ts r.0 refl r.1 ∙ fields_passed fs d r.0 r.2.0 r.2.1 ∙ sign_one (codes "}") Closes (suc d) r.2.0 rest refl r.2.2

  two_passed : (vs : Writtens) (d : ℕ) (ts rest : List Lexeme) → ReadsTwo vs ts rest → At (suc d) ts ≡ At (suc d) rest
  two_passed none d ts rest r = absurd r
  two_passed (more v none) d ts rest r = absurd r
  two_passed (more v (more w vs)) d ts rest r = value_passed v (suc d) ts r.0 r.1 ∙ more_passed (more w vs) d r.0 rest r.2

  more_passed : (vs : Writtens) (d : ℕ) (ts rest : List Lexeme) → ReadsMore vs ts rest → At (suc d) ts ≡ At (suc d) rest
  more_passed none d ts rest r = ap (At (suc d)) r
  more_passed (more v vs) d ts rest r =
      sign_one (codes ",") Parts (suc d) ts r.0 refl r.1 ∙ value_passed v (suc d) r.0 r.2.0 r.2.1 ∙ more_passed vs d r.2.0 rest r.2.2

  fields_passed : (fs : Fields) (d : ℕ) (ts rest : List Lexeme) → ReadsFields fs ts rest → At (suc d) ts ≡ At (suc d) rest
  fields_passed end d ts rest r = absurd r
  fields_passed (field x v fs) d ts rest r =
      let q = r.1 in
      one (lower x) Stays q.1.0 (suc d) ts q.0 refl q.1.1
      ∙ sign_one (codes "=") Stays (suc d) q.0 q.2.0 refl q.2.1
      ∙ value_passed v (suc d) q.2.0 q.2.2.0 q.2.2.1
      ∙ more_fields_passed fs d q.2.2.0 rest q.2.2.2

  more_fields_passed : (fs : Fields) (d : ℕ) (ts rest : List Lexeme) → ReadsMoreFields fs ts rest → At (suc d) ts ≡ At (suc d) rest
  more_fields_passed end d ts rest r = ap (At (suc d)) r
  more_fields_passed (field x v fs) d ts rest r =
      let c = r.1 in
      let q = c.2 in
      sign_one (codes ",") Parts (suc d) ts c.0 refl c.1
      ∙ one (lower x) Stays q.1.0 (suc d) c.0 q.0 refl q.1.1
      ∙ sign_one (codes "=") Stays (suc d) q.0 q.2.0 refl q.2.1
      ∙ value_passed v (suc d) q.2.0 q.2.2.0 q.2.2.1
      ∙ more_fields_passed fs d q.2.2.0 rest q.2.2.2

-- ---- behind it

-- a comma, and a bracket that closes
pub comma_passed : (ts rest : List Lexeme) → mark (codes ",") ts rest → At 0 ts ≡ (true, rest)
comma_passed ts rest m = sign_one (codes ",") Parts 0 ts rest refl m

pub close_passed : (x : List ℕ) (ts rest : List Lexeme) → turn (sign x) ≡ Closes → mark x ts rest → At 0 ts ≡ (false, rest)
close_passed x ts rest s m = sign_one x Closes 0 ts rest s m
