-- Parts of an expression in which nothing is told but names at their places. Of a reading `r` of parts, one behind the other, `r.0` are
-- the tokens behind the first part, `r.1` is how that is read, and `r.2` how the others are.
use Rattle.std.proofs.Common.{ℕ, List, [], ◌∷◌, Option, Some, None, ⊎_elim, sym, subst}
use Rattle.cg_base.specs.declared.place.Place.{Place}
use Rattle.cg_core.specs.declared.at.At.{At}
use Rattle.cg_core.specs.declared.op.Op.{Op}
use Rattle.cg_core.specs.declared.op.Op.TheVariants.{Add, Sub, Mul, Div, Rem, And, Or, Xor, Shl, Shr, Complement, Eq, Ne, Lt, Gt, Le, Ge, Both, Either, Not}
use Rattle.cg_surface.specs.Written.{Written}
use Rattle.cg_surface.specs.Patterns.{Pattern}
use Rattle.cg_parser_symbols.specs.Symbols.{Seen}
use Rattle.cg_resolve_def.specs.Faults.{variables}
use Rattle.cg_parser_exprs_def.specs.Grammar.{op_sign, op_word}
use Rattle.cg_parser_exprs_def.specs.Grammar as grammar
use Rattle.cg_parser_laws.proofs.Names.{at_key}
use Rattle.cg_parser_laws.proofs.Spans.{Key, Spans, before, front_spans, join, nothing_spans, sign_spans, stands_one, token_spans, token_with}

pub word_spans : {E : Type 0} {key : E → Key} (o : Op) (p : Place) {ts rest : List Seen} → op_word o p ts rest → Spans key [] ts rest
word_spans Complement p r = token_spans r
word_spans Not p r = token_spans r
word_spans o p r = absurd r

pub operator_spans : {E : Type 0} {key : E → Key} (o : Op) (p : Place) {ts rest : List Seen} → op_sign o p ts rest → Spans key [] ts rest
operator_spans Complement p r = absurd r
operator_spans Not p r = absurd r
operator_spans Shl p r = before (token_spans r.1.1) (sign_spans r.1.2)
operator_spans Shr p r = before (token_spans r.1.1) (sign_spans r.1.2)
operator_spans Lt p r = token_spans r.1
operator_spans Gt p r = token_spans r.1
operator_spans Mul p r = token_spans r
operator_spans Div p r = token_spans r
operator_spans Rem p r = token_spans r
operator_spans Add p r = token_spans r
operator_spans Sub p r = token_spans r
operator_spans And p r = token_spans r
operator_spans Xor p r = token_spans r
operator_spans Or p r = token_spans r
operator_spans Eq p r = token_spans r
operator_spans Ne p r = token_spans r
operator_spans Le p r = token_spans r
operator_spans Ge p r = token_spans r
operator_spans Both p r = token_spans r
operator_spans Either p r = token_spans r

module _ (OfType : List Seen → Written → Type 0) (OfPattern : List Seen → Pattern → Type 0) where
  -- observed variables
  pub seen_spans : (ns : List At) {ts rest : List Seen} → grammar.ReadsSeen OfType OfPattern ns ts rest → Spans at_key ns ts rest
  seen_spans [] r = nothing_spans r
  seen_spans (n ∷ ns) r = join (before (sign_spans r.1) (token_with r.2.1 (stands_one n))) (seen_spans ns r.2.2)

  -- what stands between a bar and an arrow, where the variables of a pattern stand in order
  pub head_spans : ((ts : List Seen) (x : Pattern) → OfPattern ts x → Spans at_key (variables x) ts []) → (p : Place) (head : Option (List ℕ)) (x : Pattern) {ts rest : List Seen}
      → grammar.ReadsHead OfType OfPattern p head x ts rest → Spans at_key (variables x) ts rest
  head_spans of_pattern p (Some n) x {ts} {rest} r =
      ⊎_elim (λ h. subst (λ y. Spans at_key (variables y) ts rest) (sym h.0) (token_spans h.1))
      (λ h. before (token_spans h.1) (front_spans h.2.front h.0 rest h.2.parts (of_pattern h.2.front x h.2.spelled))) r
  head_spans of_pattern p None x {ts} {rest} r =
      ⊎_elim (λ h. subst (λ y. Spans at_key (variables y) ts rest) (sym h.1) (token_with h.2 (stands_one (record { place = p; name = h.0 }))))
      (λ h. subst (λ y. Spans at_key (variables y) ts rest) (sym h.0) (token_spans h.1)) r
