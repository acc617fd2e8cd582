-- A command with one more name.
use Rattle.std.proofs.Common.{◌≡◌, ◌∙◌, ◌+◌, ◌<◌, ℕ, refl, sym, ap, List, [], ◌∷◌, ◌++◌, length, map, take, get_or}
use Rattle.std.specs.Borrow.{Bor}
use Rattle.std.proofs.lemmas.List.{take_more}
use Rattle.clap.specs.Words.{Text, Rule, App, new_app, with_rule}
use Rattle.cg_driver_words.specs.Apps.{name_rule, named}

rules_more : (ids : List (Bor Text)) (id : Bor Text) → map name_rule (map (λ n. n.now) ids) ++ name_rule id.now ∷ [] ≡ map name_rule (map (λ n. n.now) (ids ++ id ∷ []))
rules_more [] id = refl
rules_more (x ∷ xs) id = ap (λ l. name_rule x.now ∷ l) (rules_more xs id)

abbrev as_app : Text → List Rule → App
as_app word rules = record (new_app word) { top = record (new_app word).top { rules = rules } }

pub next_name : (word : Text) (ids : List (Bor Text)) (i : ℕ) (d : Bor Text) → i < length ids
    → with_rule (named word (map (λ n. n.now) (take i ids))) (name_rule (get_or ids i d).now) ≡ named word (map (λ n. n.now) (take (i + 1) ids))
next_name word ids i d h = ap (as_app word) (rules_more (take i ids) (get_or ids i d) ∙ ap (λ l. map name_rule (map (λ n. n.now) l)) (sym (take_more ids i d h)))
