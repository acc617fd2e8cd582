-- Keys of instances: the derived test says that they are equal, and so does that of the definition.
use Rattle.std.proofs.Common.{◌≡◌, Bool, true, false, ◌||◌, List, [], ◌∷◌, refl, sym, ap, ◌∙◌, rules, arith, eqb-true, eq-eqb}
use Rattle.std.proofs.lemmas.Bool.{and_parts, and_from}
use Rattle.std.specs.List.{list_any}
use Rattle.cg_inst.specs.contracts.keys.KeyPartialEq.TheImpl.{ghosts}
use Rattle.cg_inst.specs.declared.keys.Key.{Key}
use Rattle.cg_inst.specs.Lists.{same_function}
use Rattle.cg_inst.specs.Lookups.{same_key}
use Rattle.cg_inst.proofs.SameInstance.{function_is, function_same}

pub key_eq_sound : (a b : Key) → ghosts.eq a b ≡ true → a ≡ b
key_eq_sound a b e = grind (rules, arith)

pub key_eq_complete : (a b : Key) → a ≡ b → ghosts.eq a b ≡ true
key_eq_complete a b e = grind (rules, arith)

pub same_key_is : (a b : Key) → same_key a b ≡ true → a ≡ b
same_key_is a b h =
    let p = and_parts (same_function a.fun b.fun) _ h in let q = function_is a.fun b.fun p.0 in let r = eqb-true a.types b.types p.1 in
    ap (λ f. record { fun = f; types = a.types }) q ∙ ap (λ t. record { fun = b.fun; types = t }) r

pub same_key_self : (a : Key) → same_key a a ≡ true
same_key_self a = and_from (same_function a.fun a.fun) _ (function_same a.fun) (eq-eqb a.types a.types refl)

-- two tests that each say that keys are equal
same_tests : (a b : Key) (x y : Bool) → (x ≡ true → a ≡ b) → (a ≡ b → x ≡ true) → (y ≡ true → a ≡ b) → (a ≡ b → y ≡ true) → x ≡ y
same_tests a b true y p q r s = sym (s (p refl))
same_tests a b false true p q r s = sym (sym (q (r refl)))
same_tests a b false false p q r s = refl

pub eq_is_same : (a b : Key) → ghosts.eq a b ≡ same_key a b
eq_is_same a b =
    same_tests a b (ghosts.eq a b) (same_key a b) (key_eq_sound a b) (key_eq_complete a b) (same_key_is a b)
    (λ e. ap (λ c. same_key a c) (sym e) ∙ same_key_self a)

pub any_is_same : (k : Key) (keys : List Key) → list_any (ghosts.eq k) keys ≡ list_any (same_key k) keys
any_is_same k [] = refl
any_is_same k (x ∷ keys) = ap (λ b. b || list_any (ghosts.eq k) keys) (eq_is_same k x) ∙ ap (λ b. same_key k x || b) (any_is_same k keys)
