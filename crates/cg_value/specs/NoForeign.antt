-- The table that gives no type and knows no function.
use Rattle.std.specs.Prelude.{false}
use Rattle.cg_value.specs.Foreign.{Foreign, IsLawful}
use Rattle.cg_value.specs.Values.{gone}

abbrev pub no_foreign : Foreign
no_foreign = record { owns = λ name. false; names = λ name. false; knows = λ name t. false; holds = λ name v. false; value = λ name v. gone; cost = λ name v. 0 }

-- it meets the laws of tables
pub none_is_lawful : IsLawful no_foreign
none_is_lawful = record {
  known_is_named = λ name t known. absurd (cc);
  known_once = λ name s t known _. absurd (cc);
  known_type = λ name t known. absurd (cc);
  value_fits = λ name a b v known _. absurd (cc);
  cost_is_small = λ name a b v known _. absurd (cc);
}
