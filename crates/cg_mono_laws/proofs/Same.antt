-- Whether two outcomes are the same is a test: so they are, where they can't be different.
use Rattle.std.proofs.Common.{◌≡◌, Bool, true, false, ◌&&◌, List, [], ◌∷◌, nat_eq, refl, sym, ap, ◌∙◌, eqb-true, eq-eqb}
use Rattle.std.proofs.lemmas.Bool.{and_parts, and_from}
use Rattle.std.specs.Str.{bytes_eq}
use Rattle.cg_base.specs.Same.{same_mark}
use Rattle.cg_eval_def.specs.Evaluation.{Outcome, spent, stuck, gives}
use Rattle.cg_inst.specs.Lists.{same_instance}
use Rattle.cg_typing.specs.Instances.{Instance}
use Rattle.cg_value.specs.Values.{Val, number, nothing, function, chosen, parts, elements, answers, gone, Vals, none, more}
use Rattle.cg_base.proofs.Counts.{no_steps as never}
use Rattle.cg_base.proofs.Sequences.{itself, is_name}
use Rattle.cg_inst.proofs.SameInstance.{instance_is, instance_same}

-- ---- values

abbrev same_answers : List Bool → List Bool → Bool
same_answers [] [] = true
same_answers (b ∷ bs) (c ∷ cs) = same_mark b c && same_answers bs cs
same_answers _ _ = false

abbrev mutual
  same_value : Val → Val → Bool
  same_value (number m) (number n) = nat_eq m n
  same_value nothing nothing = true
  same_value (function f types) (function g others) = same_instance (record { fun = f; types = types }) (record { fun = g; types = others })
  same_value (chosen m v) (chosen n w) = bytes_eq m n && same_value v w
  same_value (parts vs) (parts ws) = same_values vs ws
  same_value (elements ms) (elements ns) = bytes_eq ms ns
  same_value (answers bs) (answers cs) = same_answers bs cs
  same_value gone gone = true
  same_value _ _ = false

  same_values : Vals → Vals → Bool
  same_values none none = true
  same_values (more v vs) (more w ws) = same_value v w && same_values vs ws
  same_values _ _ = false

-- what passes the test is one
mark_is : (b c : Bool) → same_mark b c ≡ true → b ≡ c
mark_is true true h = refl
mark_is false false h = refl
mark_is _ _ h = never h

answers_are : (bs cs : List Bool) → same_answers bs cs ≡ true → bs ≡ cs
answers_are [] [] h = refl
answers_are (b ∷ bs) (c ∷ cs) h = let p = and_parts (same_mark b c) _ h in let x = mark_is b c p.0 in let y = answers_are bs cs p.1 in cc
answers_are _ _ h = never h

mutual
  value_is : (v w : Val) → same_value v w ≡ true → v ≡ w
  value_is (number m) (number n) h = ap number (eqb-true m n h)
  value_is nothing nothing h = refl
  value_is (function f types) (function g others) h =
      ap (λ (x : Instance). function x.fun x.types) (instance_is (record { fun = f; types = types }) (record { fun = g; types = others }) h)
  value_is (chosen m v) (chosen n w) h = let p = and_parts (bytes_eq m n) _ h in let x = is_name m n p.0 in let y = value_is v w p.1 in cc
  value_is (parts vs) (parts ws) h = ap parts (values_are vs ws h)
  value_is (elements ms) (elements ns) h = ap elements (is_name ms ns h)
  value_is (answers bs) (answers cs) h = ap answers (answers_are bs cs h)
  value_is gone gone h = refl
  value_is _ _ h = never h

  values_are : (vs ws : Vals) → same_values vs ws ≡ true → vs ≡ ws
  values_are none none h = refl
  values_are (more v vs) (more w ws) h = let p = and_parts (same_value v w) _ h in let x = value_is v w p.0 in let y = values_are vs ws p.1 in cc
  values_are _ _ h = never h

-- and each passes it with itself
mark_self : (b : Bool) → same_mark b b ≡ true
mark_self true = refl
mark_self false = refl

answers_self : (bs : List Bool) → same_answers bs bs ≡ true
answers_self [] = refl
answers_self (b ∷ bs) = and_from (same_mark b b) _ (mark_self b) (answers_self bs)

mutual
  value_self : (v : Val) → same_value v v ≡ true
  value_self (number n) = eq-eqb n n refl
  value_self nothing = refl
  value_self (function f types) = instance_same (record { fun = f; types = types })
  value_self (chosen n v) = and_from (bytes_eq n n) _ (itself n) (value_self v)
  value_self (parts vs) = values_self vs
  value_self (elements ns) = itself ns
  value_self (answers bs) = answers_self bs
  value_self gone = refl

  values_self : (vs : Vals) → same_values vs vs ≡ true
  values_self none = refl
  values_self (more v vs) = and_from (same_value v v) _ (value_self v) (values_self vs)

-- ---- outcomes

abbrev same_outcome : Outcome → Outcome → Bool
same_outcome spent spent = true
same_outcome stuck stuck = true
same_outcome (gives v m) (gives w n) = same_value v w && nat_eq m n
same_outcome _ _ = false

outcome_is : (o p : Outcome) → same_outcome o p ≡ true → o ≡ p
outcome_is spent spent h = refl
outcome_is stuck stuck h = refl
outcome_is (gives v m) (gives w n) h = let q = and_parts (same_value v w) _ h in let x = value_is v w q.0 in let y = eqb-true m n q.1 in cc
outcome_is _ _ h = never h

outcome_self : (o : Outcome) → same_outcome o o ≡ true
outcome_self spent = refl
outcome_self stuck = refl
outcome_self (gives v n) = and_from (same_value v v) _ (value_self v) (eq-eqb n n refl)

pub never_other : (o p : Outcome) → ((o ≡ p → ⊥) → ⊥) → o ≡ p
never_other o p h = go (same_outcome o p) refl
  where
    go : (b : Bool) → same_outcome o p ≡ b → o ≡ p
    go true e = outcome_is o p e
    go false e = absurd (h (λ q. never (sym e ∙ ap (same_outcome o) (sym q) ∙ outcome_self o)))
