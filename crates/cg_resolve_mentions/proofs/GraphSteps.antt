-- What items mention.
use Rattle.std.proofs.Common.{◌≡◌, ℕ, ◌≤◌, Option, Some, List, [], ◌++◌, map, length, take, sym, ap, ◌∙◌, subst, append-nil, Bor}
use Rattle.std.proofs.lemmas.List.{take_all}
use Rattle.std.specs.BTreeMap.{BTreeMap}
use Rattle.std.specs.Global.{Vec}
use Rattle.cg_graphs.specs.Circles.{Closed}
use Rattle.cg_graphs.specs.Orders.{lists}
use Rattle.cg_surface.specs.declared.program.Item.{Item}
use Rattle.cg_surface.specs.Exprs.{Expr}
use Rattle.cg_surface.specs.Patterns.{Pattern}
use Rattle.cg_surface.specs.Programs.{Entry}
use Rattle.cg_resolve_def.specs.Declared.{is_among, Defined}
use Rattle.cg_resolve_def.specs.Faults.{bound}
use Rattle.cg_resolve_def.specs.Mentions.{all_of, synonym_from, signature_from, expr_mentions, defined_mentions, entry_mentions}
use Rattle.cg_resolve_laws.proofs.Mentioned.{mentions_closed}
use Rattle.cg_resolve_declared.specs.Views.{entries_in}
use Rattle.cg_resolve_names.specs.Scopes.{SameNames}
use Rattle.cg_resolve_mentions.specs.declared.positions.Firsts.{Firsts}
use Rattle.cg_resolve_mentions.specs.Positions.{AreFirsts, found_in, pushed}
use Rattle.cg_resolve_mentions.proofs.Pushed.{all_of_same}
use Rattle.cg_resolve_mentions.proofs.Same.{expr_same}

-- ---- the graph is closed

pub items_closed : (edges : List (Vec ℕ)) (items : List Item) (i : ℕ) → length items ≤ i → lists edges ≡ map (entry_mentions (entries_in items)) (entries_in (take i items)) → Closed (lists edges)
items_closed edges items i over is =
    subst Closed (sym (is ∙ ap (λ l. map (entry_mentions (entries_in items)) (entries_in l)) (take_all i items over))) (mentions_closed (entries_in items))

-- ---- positions in tables

module _ (entries : List Entry) (firsts : Firsts) (are : AreFirsts entries firsts) (targets : List ℕ) (names : List (List ℕ)) where
  pub synonyms_found : pushed firsts.synonyms targets names ≡ targets ++ all_of (synonym_from 0 entries) names
  unfolding pushed
  synonyms_found = ap (λ l. targets ++ l) (all_of_same (found_in firsts.synonyms) (synonym_from 0 entries) are.synonyms names)

  pub signatures_found : pushed firsts.signatures targets names ≡ targets ++ all_of (signature_from 0 entries) names
  unfolding pushed
  signatures_found = ap (λ l. targets ++ l) (all_of_same (found_in firsts.signatures) (signature_from 0 entries) are.signatures names)

-- the first definition of a name
pub definition_pushed : (table : BTreeMap (Bor (List ℕ)) ℕ) (targets : List ℕ) (d : Option Defined) (x : Pattern) (e : Expr) (scope : List (List ℕ)) → d ≡ Some (record { param = x; body = e })
    → SameNames scope (bound x ++ []) → pushed table targets (expr_mentions scope e) ≡ pushed table targets (defined_mentions d)
definition_pushed table targets d x e scope is same =
    ap (pushed table targets) (expr_same scope (bound x) (λ n. same n ∙ ap (λ l. is_among l n) (append-nil (bound x))) e ∙ ap defined_mentions (sym is))
