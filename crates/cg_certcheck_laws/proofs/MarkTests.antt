-- Tests on nodes, marks and contexts say yes exactly where what they test holds.
use Rattle.std.proofs.Common.{◌≡◌, ◌<◌, ℕ, zero, suc, Bool, true, ◌&&◌, not, Option, Some, None, List, [], ◌∷◌, length, get_or, refl, sym, ap, ◌∙◌, subst, arith, eqb-true, eq-eqb}
use Rattle.std.proofs.lemmas.List.Elements.{All-nil}
use Rattle.std.specs.List.{All}
use Rattle.cg_base.specs.declared.kind.Kinds.{Kinds}
use Rattle.cg_base.specs.Types.{Tau}
use Rattle.cg_core.specs.declared.derivation.Mark.{Mark}
use Rattle.cg_core.specs.declared.derivation.Mark.TheVariants.{Gone, Left, Right, Both, Seen}
use Rattle.cg_core.specs.declared.derivation.Node.{Node}
use Rattle.cg_core.specs.declared.derivation.Node.TheVariants as nodes
use Rattle.cg_core.specs.declared.term.Seen.{Seen as Observer}
use Rattle.cg_certcheck_def.specs.Tests.{number_of, same_node, entry_drops, drops_all, drops_but, fits, splits_where, splits}
use Rattle.cg_typing.specs.Contexts.{Context, look, mark_at, among, Fits, Splits, Drops, DropsBut, drops, shares}
use Rattle.cg_check_laws.proofs.SameTypes.{and_refl as both_and}
use Rattle.cg_check_laws.proofs.CompleteBinders.{false_not as is_not}
use Rattle.cg_base.proofs.Truths.{both as and_both, not_true as not_is}

pub three_and : (a b c : Bool) → a ≡ true → b ≡ true → c ≡ true → (a && (b && c)) ≡ true
three_and a b c h k l = both_and a (b && c) h (both_and b c k l)

-- ---- nodes

-- the nodes in the order of their numbers
abbrev nodes_listed : List Node
nodes_listed =
    nodes.Var ∷ (nodes.Unit ∷ (nodes.Bool ∷ (nodes.Lit ∷ (nodes.Fun ∷ (nodes.Op ∷ (nodes.App ∷ (nodes.Let ∷ (nodes.LetBang ∷ (nodes.If
    ∷ (nodes.Con ∷ (nodes.Case ∷ (nodes.Esac ∷ (nodes.Struct ∷ (nodes.Member ∷ (nodes.Take ∷ (nodes.Put ∷ (nodes.Cast ∷ (nodes.Annot ∷ []))))))))))))))))))

abbrev node_of : ℕ → Node
node_of n = get_or nodes_listed n nodes.Var

-- the number tells the node
node_back : (a : Node) → node_of (number_of a) ≡ a
node_back nodes.Var = refl
node_back nodes.Unit = refl
node_back nodes.Bool = refl
node_back nodes.Lit = refl
node_back nodes.Fun = refl
node_back nodes.Op = refl
node_back nodes.App = refl
node_back nodes.Let = refl
node_back nodes.LetBang = refl
node_back nodes.If = refl
node_back nodes.Con = refl
node_back nodes.Case = refl
node_back nodes.Esac = refl
node_back nodes.Struct = refl
node_back nodes.Member = refl
node_back nodes.Take = refl
node_back nodes.Put = refl
node_back nodes.Cast = refl
node_back nodes.Annot = refl

pub node_is : (a b : Node) → same_node a b ≡ true → a ≡ b
node_is a b h = sym (node_back a) ∙ ap node_of (eqb-true (number_of a) (number_of b) h) ∙ node_back b

pub node_same : (a : Node) → same_node a a ≡ true
node_same a = eq-eqb (number_of a) (number_of a) refl

module _ (vars : List Kinds) where
  -- ---- marks

  fits_is : (s : Bool) (m : Mark) (o : Option Tau) → fits vars s m o ≡ true → Fits vars s m o
  fits_is s Gone None e = not_is s e
  fits_is s Left (Some t) e = not_is s e
  fits_is s Right (Some t) e = not_is s e
  fits_is s Both (Some t) e = let p = and_both (shares vars t) (not s) e in (p.0, not_is s p.1)
  fits_is s Seen (Some t) e = e
  fits_is s Gone (Some t) e = absurd (cc)
  fits_is s Left None e = absurd (cc)
  fits_is s Right None e = absurd (cc)
  fits_is s Both None e = absurd (cc)
  fits_is s Seen None e = absurd (cc)

  is_fits : (s : Bool) (m : Mark) (o : Option Tau) → Fits vars s m o → fits vars s m o ≡ true
  is_fits s Gone None f = is_not s f
  is_fits s Left (Some t) f = is_not s f
  is_fits s Right (Some t) f = is_not s f
  is_fits s Both (Some t) f = both_and (shares vars t) (not s) f.0 (is_not s f.1)
  is_fits s Seen (Some t) f = f
  is_fits s Gone (Some t) f = absurd f
  is_fits s Left None f = absurd f
  is_fits s Right None f = absurd f
  is_fits s Both None f = absurd f
  is_fits s Seen None f = absurd f

  as_long : (seen : ℕ → Bool) (ms : List Mark) (g : Context) → splits_where vars seen ms g ≡ true → length ms ≡ length g
  as_long seen [] [] e = refl
  as_long seen (m ∷ ms) (o ∷ g) e = ap suc (as_long (λ i. seen (suc i)) ms g (and_both (fits vars (seen zero) m o) _ e).1)
  as_long seen [] (o ∷ g) e = absurd (cc)
  as_long seen (m ∷ ms) [] e = absurd (cc)

  fits_each : (seen : ℕ → Bool) (ms : List Mark) (g : Context) → splits_where vars seen ms g ≡ true → (i : ℕ) → i < length g → Fits vars (seen i) (mark_at ms i) (look g i)
  fits_each seen [] [] e i below = absurd (omega arith)
  fits_each seen (m ∷ ms) (o ∷ g) e zero below = fits_is (seen zero) m o (and_both (fits vars (seen zero) m o) _ e).0
  fits_each seen (m ∷ ms) (o ∷ g) e (suc i) below = fits_each (λ j. seen (suc j)) ms g (and_both (fits vars (seen zero) m o) _ e).1 i (omega arith)
  fits_each seen [] (o ∷ g) e i below = absurd (cc)
  fits_each seen (m ∷ ms) [] e i below = absurd (cc)

  pub splits_is : (os : List Observer) (ms : List Mark) (g : Context) → All (λ o. o.var < length g) os → splits vars os ms g ≡ true → Splits vars os ms g
  splits_is os ms g w e = record { long = as_long (λ i. among i os) ms g e; fits = fits_each (λ i. among i os) ms g e; observed = w }

  -- without observers
  pub splits_plain : (ms : List Mark) (g : Context) → splits vars [] ms g ≡ true → Splits vars [] ms g
  splits_plain ms g e = splits_is [] ms g (All-nil (λ (o : Observer). o.var < length g)) e

  all_fit : (seen : ℕ → Bool) (ms : List Mark) (g : Context) → length ms ≡ length g → ((i : ℕ) → i < length g → Fits vars (seen i) (mark_at ms i) (look g i))
      → splits_where vars seen ms g ≡ true
  all_fit seen [] [] e f = refl
  all_fit seen (m ∷ ms) (o ∷ g) e f =
      both_and (fits vars (seen zero) m o) _ (is_fits (seen zero) m o (f zero (omega arith))) (all_fit (λ j. seen (suc j)) ms g (omega arith) (λ i l. f (suc i) (omega arith)))
  all_fit seen [] (o ∷ g) e f = absurd (omega arith)
  all_fit seen (m ∷ ms) [] e f = absurd (omega arith)

  pub is_splits : (os : List Observer) (ms : List Mark) (g : Context) → Splits vars os ms g → splits vars os ms g ≡ true
  is_splits os ms g s = all_fit (λ i. among i os) ms g s.long s.fits

  -- ---- what may be dropped

  entry_is : (o : Option Tau) (t : Tau) → entry_drops vars o ≡ true → o ≡ Some t → drops vars t ≡ true
  entry_is None t e h = absurd (cc)
  entry_is (Some u) t e h = let same : u ≡ t = cc in subst (λ v. drops vars v ≡ true) same e

  is_entry : (o : Option Tau) → ((t : Tau) → o ≡ Some t → drops vars t ≡ true) → entry_drops vars o ≡ true
  is_entry None f = refl
  is_entry (Some t) f = f t refl

  pub drops_are : (g : Context) → drops_all vars g ≡ true → Drops vars g
  drops_are [] e i t h = absurd (cc)
  drops_are (o ∷ g) e zero t h = entry_is o t (and_both (entry_drops vars o) _ e).0 h
  drops_are (o ∷ g) e (suc i) t h = drops_are g (and_both (entry_drops vars o) _ e).1 i t h

  pub are_drops : (g : Context) → Drops vars g → drops_all vars g ≡ true
  are_drops [] f = refl
  are_drops (o ∷ g) f = both_and (entry_drops vars o) _ (is_entry o (f zero)) (are_drops g (λ i. f (suc i)))

  pub others_are : (used : ℕ) (g : Context) → drops_but vars used g ≡ true → DropsBut vars used g
  others_are used [] e i t ne h = absurd (cc)
  others_are zero (o ∷ g) e zero t ne h = absurd (ne refl)
  others_are zero (o ∷ g) e (suc i) t ne h = drops_are g e i t h
  others_are (suc used) (o ∷ g) e zero t ne h = entry_is o t (and_both (entry_drops vars o) _ e).0 h
  others_are (suc used) (o ∷ g) e (suc i) t ne h = others_are used g (and_both (entry_drops vars o) _ e).1 i t (λ same. ne (ap suc same)) h

  pub are_others : (used : ℕ) (g : Context) → DropsBut vars used g → drops_but vars used g ≡ true
  are_others used [] f = refl
  are_others zero (o ∷ g) f = are_drops g (λ i t h. f (suc i) t (omega arith) h)
  are_others (suc used) (o ∷ g) f =
      both_and (entry_drops vars o) _ (is_entry o (λ t h. f zero t (omega arith) h)) (are_others used g (λ i t ne h. f (suc i) t (λ same. ne (omega arith)) h))
