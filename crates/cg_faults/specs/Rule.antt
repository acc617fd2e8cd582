-- The rules of kinds and of types: the text that is printed with each, and what is tested at a place.
use Rattle.std.specs.Prelude.{ℕ, List, codes}
use Rattle.cg_faults.specs.declared.rule.Rule.{Rule}
use Rattle.cg_faults.specs.declared.rule.Rule.TheVariants.{K1, K2, K3, K4, K5, K6, K7, T1, T2, T3, T4, T5, T6, T7, T8, T9, T10, T11, T12, T13, T14}

abbrev pub text_of : Rule → List ℕ
text_of K1 = codes "type argument lacks a kind"
text_of K2 = codes "observed value would escape"
text_of K3 = codes "unused value cannot be dropped"
text_of K4 = codes "value cannot be shared"
text_of K5 = codes "value used in one branch only"
text_of K6 = codes "member of a value that cannot be shared"
text_of K7 = codes "put over a field that cannot be dropped"
text_of T1 = codes "types differ"
text_of T2 = codes "type annotation needed"
text_of T3 = codes "literal out of range"
text_of T4 = codes "not a function"
text_of T5 = codes "no such field"
text_of T6 = codes "field is taken"
text_of T7 = codes "value is read-only"
text_of T8 = codes "no such alternative"
text_of T9 = codes "alternatives are left"
text_of T10 = codes "alternative already handled"
text_of T11 = codes "upcast to a narrower type"
text_of T12 = codes "operator on no word"
text_of T13 = codes "writable record type needed"
text_of T14 = codes "array element is no word"

-- what is tested: a rule, or the limit on the size of types, which is no rule
pub data Test : Type 0 where
  rule : Rule → Test
  type_limit : Test
