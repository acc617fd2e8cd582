-- A table of one abstract function: `half`, which gives half of a word at a cost of 5.
use Rattle.std.specs.Prelude.{◌≡◌, ◌/◌, ◌^◌, Bool, true, false, ◌&&◌, IsTrue, codes}
use Rattle.std.specs.Str.{bytes_eq}
use Rattle.std.proofs.Common.{refl, sym, ap, ◌∙◌, arith}
use Rattle.std.proofs.lemmas.Bool.{and_parts, ltb-true, lt-ltb}
use Rattle.std.proofs.Math.Nat.{div-le_self}
use Rattle.cg_base.specs.Types.{Tau, arrow, word}
use Rattle.cg_base.specs.declared.kind.Word.TheVariants.{U32}
use Rattle.cg_value.specs.Fits.{fits}
use Rattle.cg_value.specs.Foreign.{Foreign, IsLawful, first_order, is_known_type, is_plain_type}
use Rattle.cg_value.specs.Forms.{number_in}
use Rattle.cg_value.specs.Values.{Val, number}

-- U32, and U32 -> U32
abbrev pub is_u32 : Tau → Bool
is_u32 (word U32) = true
is_u32 _ = false

abbrev pub is_word_to_word : Tau → Bool
is_word_to_word (arrow from to) = is_u32 from && is_u32 to
is_word_to_word _ = false

abbrev pub halving : Foreign
halving = record {
  owns = λ name. false;
  names = λ name. bytes_eq name (codes "half");
  knows = λ name t. bytes_eq name (codes "half") && is_word_to_word t;
  holds = λ name v. false;
  value = λ name v. number (number_in v / 2);
  cost = λ name v. 5;
}

-- U32 and U32 -> U32 are the one type each that they are
word_is : (t : Tau) → is_u32 t ≡ true → t ≡ word U32
word_is (word U32) h = refl
word_is _ h = absurd (cc)

pub arrow_is : (t : Tau) → is_word_to_word t ≡ true → t ≡ arrow (word U32) (word U32)
arrow_is (arrow a b) h = let p = and_parts (is_u32 a) _ h in let x = word_is a p.0 in let y = word_is b p.1 in cc
arrow_is _ h = absurd (cc)

half_fits : (v : Val) → IsTrue (fits (first_order halving) (word U32) v) → IsTrue (fits (first_order halving) (word U32) (number (number_in v / 2)))
unfolding fits number_in
half_fits (number n) h = lt-ltb (n / 2) (2 ^ 32) (omega (arith, ltb-true n (2 ^ 32) h, div-le_self n 2))
half_fits _ h = absurd (cc)

-- it meets the laws of tables
pub halving_is_lawful : IsLawful halving
unfolding is_plain_type
halving_is_lawful = record {
  known_is_named = λ name t known. (and_parts (bytes_eq name (codes "half")) _ known).0;
  known_once = λ name s t one other. arrow_is s (and_parts (bytes_eq name (codes "half")) _ one).1 ∙ sym (arrow_is t (and_parts (bytes_eq name (codes "half")) _ other).1);
  known_type = λ name t known. ap (is_known_type halving.owns) (arrow_is t (and_parts (bytes_eq name (codes "half")) _ known).1);
  value_fits = λ name a b v known fine.
      let same = arrow_is (arrow a b) (and_parts (bytes_eq name (codes "half")) _ known).1 in
      let from : a ≡ word U32 = cc in let to : b ≡ word U32 = cc in
      ap (λ t. fits (first_order halving) t (number (number_in v / 2))) to ∙ half_fits v (ap (λ t. fits (first_order halving) t v) (sym from) ∙ fine);
  cost_is_small = λ name a b v known fine. omega arith;
}
