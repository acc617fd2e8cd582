-- Tests on marks, contexts and nodes, as truth values.
use Rattle.std.specs.Prelude.{ℕ, zero, suc, Bool, true, false, ◌&&◌, not, nat_eq, Option, Some, None, List, [], ◌∷◌}
use Rattle.cg_base.specs.declared.kind.Kinds.{Kinds}
use Rattle.cg_base.specs.Types.{Tau}
use Rattle.cg_core.specs.declared.derivation.Mark.{Mark}
use Rattle.cg_core.specs.declared.derivation.Mark.TheVariants.{Gone, Left, Right, Both, Seen}
use Rattle.cg_core.specs.declared.derivation.Node.{Node}
use Rattle.cg_core.specs.declared.derivation.Node.TheVariants as nodes
use Rattle.cg_core.specs.declared.term.Seen.{Seen as Observer}
use Rattle.cg_typing.specs.Contexts.{Context, among, drops, shares}

-- two nodes are of one rule
abbrev pub number_of : Node → ℕ
number_of nodes.Var = 0
number_of nodes.Unit = 1
number_of nodes.Bool = 2
number_of nodes.Lit = 3
number_of nodes.Fun = 4
number_of nodes.Op = 5
number_of nodes.App = 6
number_of nodes.Let = 7
number_of nodes.LetBang = 8
number_of nodes.If = 9
number_of nodes.Con = 10
number_of nodes.Case = 11
number_of nodes.Esac = 12
number_of nodes.Struct = 13
number_of nodes.Member = 14
number_of nodes.Take = 15
number_of nodes.Put = 16
number_of nodes.Cast = 17
number_of nodes.Annot = 18

abbrev pub same_node : Node → Node → Bool
same_node a b = nat_eq (number_of a) (number_of b)

abbrev pub is_present : Option Tau → Bool
is_present None = false
is_present (Some t) = true

module _ (vars : List Kinds) where
  abbrev pub entry_drops : Option Tau → Bool
  entry_drops None = true
  entry_drops (Some t) = drops vars t

  -- every present entry may be dropped
  abbrev pub drops_all : Context → Bool
  drops_all [] = true
  drops_all (entry ∷ g) = entry_drops entry && drops_all g

  -- but for one
  abbrev pub drops_but : ℕ → Context → Bool
  drops_but i [] = true
  drops_but zero (entry ∷ g) = drops_all g
  drops_but (suc i) (entry ∷ g) = entry_drops entry && drops_but i g

  -- a mark fits an entry, which is among the observers or not
  abbrev pub fits : Bool → Mark → Option Tau → Bool
  fits observed Gone None = not observed
  fits observed Gone (Some t) = false
  fits observed Left None = false
  fits observed Left (Some t) = not observed
  fits observed Right None = false
  fits observed Right (Some t) = not observed
  fits observed Both None = false
  fits observed Both (Some t) = shares vars t && not observed
  fits observed Seen None = false
  fits observed Seen (Some t) = observed

  -- the marks split the context, entry by entry, of which it is told whether it is observed
  abbrev pub splits_where : (ℕ → Bool) → List Mark → Context → Bool
  splits_where seen [] [] = true
  splits_where seen (mark ∷ marks) (entry ∷ g) = fits (seen zero) mark entry && splits_where (λ i. seen (suc i)) marks g
  splits_where seen [] (entry ∷ g) = false
  splits_where seen (mark ∷ marks) [] = false

  abbrev pub splits : List Observer → List Mark → Context → Bool
  splits observers marks g = splits_where (λ i. among i observers) marks g
