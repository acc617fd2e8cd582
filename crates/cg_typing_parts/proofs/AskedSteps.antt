-- What is asked of type arguments, at what is left of them.
use Rattle.std.proofs.Common.{◌≡◌, ℕ, zero, suc, ◌+◌, ◌<◌, ◌≤◌, List, [], ◌∷◌, map, length, drop, get_or, Option, None, Some, refl, ap, sym, ◌∙◌, add-one, arith}
use Rattle.std.proofs.lemmas.List.{at_drop_more, at_drop_all}
use Rattle.std.proofs.lemmas.Option.{slice_get-map, unwrap_or-slice_get}
use Rattle.std.specs.Option.{option_map, unwrap_or}
use Rattle.std.specs.Prelude.{slice_get}
use Rattle.cg_base.specs.declared.fun.Lib.{Lib}
use Rattle.cg_base.specs.declared.fun.Lib.TheVariants.{New, Free, Create, FreeArray, Length, Get, Put, Map, Fold, Seq32, Seq64, Seq32Break}
use Rattle.cg_base.specs.declared.kind.Bound.{Bound}
use Rattle.cg_base.specs.declared.kind.Kinds.{Kinds}
use Rattle.cg_core.specs.Terms.{arg_of}
use Rattle.cg_core.specs.declared.at.TyArg.{TyArg}
use Rattle.cg_faults.specs.declared.rule.Rule.{Rule}
use Rattle.cg_typing_parts.specs.Asked.{asked_fault, failed_at, arguments_fault}
use Rattle.cg_typing.specs.Functions.{Asked, nothing, these, next_asked, later_asked, asked_by_library}

-- what is asked behind the first i
next_left : (xs : List Asked) (i : ℕ) → next_asked (drop i xs) ≡ get_or xs i nothing
next_left [] zero = refl
next_left [] (suc i) = refl
next_left (x ∷ xs) zero = refl
next_left (x ∷ xs) (suc i) = next_left xs i

later_left-suc : (xs : List Asked) (i : ℕ) → later_asked (drop i xs) ≡ drop (suc i) xs
later_left-suc [] zero = refl
later_left-suc [] (suc i) = refl
later_left-suc (x ∷ xs) zero = refl
later_left-suc (x ∷ xs) (suc i) = later_left-suc xs i

later_left : (xs : List Asked) (i : ℕ) → later_asked (drop i xs) ≡ drop (i + 1) xs
later_left xs i = later_left-suc xs i ∙ ap (λ n. drop n xs) (sym (add-one i))

-- a function of the library asks something of one type argument at most
asks_one : (lib : Lib) (i : ℕ) → get_or (asked_by_library lib) (suc i) nothing ≡ nothing
asks_one New i = refl
asks_one Free i = refl
asks_one Create i = refl
asks_one FreeArray i = refl
asks_one Length i = refl
asks_one Get i = refl
asks_one Put i = refl
asks_one Map i = refl
asks_one Fold i = refl
asks_one Seq32 i = refl
asks_one Seq64 i = refl
asks_one Seq32Break i = refl

pub library_asks : (lib : Lib) (i : ℕ) → 0 < i → get_or (asked_by_library lib) i nothing ≡ nothing
library_asks lib zero h = absurd (omega (arith, h))
library_asks lib (suc i) h = asks_one lib i

-- and one of the source of those that are its variables
user_asked : (vars : List Bound) (i : ℕ) (found : Option Bound) → slice_get vars i ≡ found
    → get_or (map (λ b. these b.kinds) vars) i nothing ≡ unwrap_or (option_map (λ b. these b.kinds) found) nothing
user_asked vars i found e =
    sym (unwrap_or-slice_get (map (λ b. these b.kinds) vars) i nothing)
    ∙ ap (λ o. unwrap_or o nothing) (slice_get-map (λ b. these b.kinds) vars i ∙ ap (option_map (λ b. these b.kinds)) e)

pub user_asks : (vars : List Bound) (i : ℕ) (b : Bound) → slice_get vars i ≡ Some b → get_or (map (λ b. these b.kinds) vars) i nothing ≡ these b.kinds
user_asks vars i b e = user_asked vars i (Some b) e

pub user_asks_no_more : (vars : List Bound) (i : ℕ) → slice_get vars i ≡ None → get_or (map (λ b. these b.kinds) vars) i nothing ≡ nothing
user_asks_no_more vars i e = user_asked vars i None e

-- the first that fails
module _ (vars : List Kinds) (asked : List Asked) (args : List TyArg) (i : ℕ) where
  fault_rest : (d : TyArg) → i < length args → arguments_fault vars (drop i asked) (map arg_of (drop i args))
      ≡ failed_at (get_or args i d).place (asked_fault vars (get_or asked i nothing) (arg_of (get_or args i d)).ty) (arguments_fault vars (drop (i + 1) asked) (map arg_of (drop (i + 1) args)))
  fault_rest d h =
      at_drop_more (λ l. arguments_fault vars (drop i asked) (map arg_of l)) args i d h
      ∙ ap (λ a. failed_at (get_or args i d).place (asked_fault vars a (arg_of (get_or args i d)).ty) (arguments_fault vars (later_asked (drop i asked)) (map arg_of (drop (i + 1) args)))) (next_left asked i)
      ∙ ap (λ l. failed_at (get_or args i d).place (asked_fault vars (get_or asked i nothing) (arg_of (get_or args i d)).ty) (arguments_fault vars l (map arg_of (drop (i + 1) args)))) (later_left asked i)

  pub fault_here : (d : TyArg) (rule : Rule) → i < length args → asked_fault vars (get_or asked i nothing) (arg_of (get_or args i d)).ty ≡ Some rule
      → arguments_fault vars (drop i asked) (map arg_of (drop i args)) ≡ Some (rule, (get_or args i d).place)
  fault_here d rule h e = fault_rest d h ∙ ap (λ f. failed_at (get_or args i d).place f (arguments_fault vars (drop (i + 1) asked) (map arg_of (drop (i + 1) args)))) e

  pub fault_later : (d : TyArg) → i < length args → asked_fault vars (get_or asked i nothing) (arg_of (get_or args i d)).ty ≡ None
      → arguments_fault vars (drop i asked) (map arg_of (drop i args)) ≡ arguments_fault vars (drop (i + 1) asked) (map arg_of (drop (i + 1) args))
  fault_later d h e = fault_rest d h ∙ ap (λ f. failed_at (get_or args i d).place f (arguments_fault vars (drop (i + 1) asked) (map arg_of (drop (i + 1) args)))) e

  pub fault_past : length args ≤ i → arguments_fault vars (drop i asked) (map arg_of (drop i args)) ≡ None
  fault_past h = at_drop_all (λ l. arguments_fault vars (drop i asked) (map arg_of l)) args i h

pub ruleset library_steps = (library_asks)

pub ruleset user_steps = (user_asks, user_asks_no_more)

pub ruleset type_steps = (slice_get-map)

pub ruleset fault_steps = (fault_here, fault_later, fault_past)
