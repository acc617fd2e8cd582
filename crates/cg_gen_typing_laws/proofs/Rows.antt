-- The rules that derive the core of a body, row by row.
use Rattle.std.proofs.Common.{◌≡◌, ◌<◌, ◌^◌, ◌+◌, ℕ, zero, suc, false, true, List, [], ◌∷◌, Some, None, Option, refl, sym, arith, subst, slice_get, codes, IsTrue}
use Rattle.std.proofs.lemmas.List.Elements.{All-nil}
use Rattle.cg_base.specs.declared.fun.Fun.TheVariants.{User}
use Rattle.cg_base.specs.declared.kind.Word.TheVariants.{U32}
use Rattle.cg_base.specs.declared.place.Place.{Place}
use Rattle.cg_base.specs.Types.{Tau, arrow, word}
use Rattle.cg_core.specs.declared.derivation.Mark.{Mark}
use Rattle.cg_core.specs.declared.derivation.Mark.TheVariants.{Gone, Left, Right}
use Rattle.cg_core.specs.declared.derivation.Node.TheVariants as nodes
use Rattle.cg_core.specs.declared.op.Op.TheVariants.{Mul}
use Rattle.cg_core.specs.Derivations.{Derivation}
use Rattle.cg_core.specs.Kernels.{Function}
use Rattle.cg_core.specs.Terms.{Note, Tree, term, var, lit, op, put, more, none}
use Rattle.cg_typing.specs.Contexts.{Context, DropsBut, Drops, Fits, Splits, look, mark_at}
use Rattle.cg_typing.specs.Functions.{has_vars}
use Rattle.cg_typing.specs.Rules.{Derives, FunRow, LitRow, Meets, VarRow}
use Rattle.cg_typing.specs.Trees.{leaf, two}
use Rattle.cg_gen_def.specs.Kernels.{body_in, cell_type, cell_with, core_behind, function_behind, subject_in, sum_in, with_type}
use Rattle.cg_gen_def.specs.Programs.{at, body_row, place, reach}
use Rattle.cg_gen_typing_laws.proofs.Kernel.{HasEarlier, mention_is}

-- ---- the derivation of a body

abbrev subject_tree : ℕ → Derivation
subject_tree zero = leaf nodes.Var
subject_tree (suc before) = two nodes.App (Right ∷ []) (leaf nodes.Fun) (leaf nodes.Var)

abbrev product_tree : Derivation
product_tree = two nodes.Op (Gone ∷ Gone ∷ Left ∷ []) (leaf nodes.Var) (leaf nodes.Lit)

abbrev sum_tree : Derivation
sum_tree = two nodes.Op (Gone ∷ Gone ∷ Left ∷ []) product_tree (leaf nodes.Lit)

abbrev put_tree : Derivation
put_tree = two nodes.Put (Gone ∷ Left ∷ Right ∷ []) (leaf nodes.Var) sum_tree

abbrev pub tree_behind : ℕ → Derivation
tree_behind before = two nodes.Take (Left ∷ []) (subject_tree before) put_tree

-- ---- contexts of one entry and of three

abbrev one : Option Tau → Context
one a = a ∷ []

abbrev three : Option Tau → Option Tau → Option Tau → Context
three a b c = a ∷ b ∷ c ∷ []

one_splits : (m : Mark) (a : Option Tau) → Fits [] false m a → Splits [] [] (m ∷ []) (one a)
one_splits m a f = record { long = refl; fits = fits; observed = All-nil _ }
  where
    fits : (i : ℕ) → i < 1 → Fits [] false (mark_at (m ∷ []) i) (look (one a) i)
    fits zero lt = f
    fits (suc i) lt = absurd (omega (arith, lt))

three_split : (l m n : Mark) (a b c : Option Tau) → Fits [] false l a → Fits [] false m b → Fits [] false n c
    → Splits [] [] (l ∷ m ∷ n ∷ []) (three a b c)
three_split l m n a b c f g h = record { long = refl; fits = fits; observed = All-nil _ }
  where
    fits : (i : ℕ) → i < 3 → Fits [] false (mark_at (l ∷ m ∷ n ∷ []) i) (look (three a b c) i)
    fits zero lt = f
    fits (suc zero) lt = g
    fits (suc (suc zero)) lt = h
    fits (suc (suc (suc i))) lt = absurd (omega (arith, lt))

-- ---- which entries are there

used_alone : (a : Option Tau) → DropsBut [] 0 (one a)
used_alone a zero t ne e = absurd (ne refl)
used_alone a (suc i) t ne e = absurd (cc)

gone_alone : Drops [] (one None)
gone_alone zero t e = absurd (cc)
gone_alone (suc i) t e = absurd (cc)

second_alone : (b : Option Tau) → DropsBut [] 1 (three None b None)
second_alone b zero t ne e = absurd (cc)
second_alone b (suc zero) t ne e = absurd (ne refl)
second_alone b (suc (suc zero)) t ne e = absurd (cc)
second_alone b (suc (suc (suc i))) t ne e = absurd (cc)

third_alone : (c : Option Tau) → DropsBut [] 2 (three None None c)
third_alone c zero t ne e = absurd (cc)
third_alone c (suc zero) t ne e = absurd (cc)
third_alone c (suc (suc zero)) t ne e = absurd (ne refl)
third_alone c (suc (suc (suc i))) t ne e = absurd (cc)

all_gone : Drops [] (three None None None)
all_gone zero t e = absurd (cc)
all_gone (suc zero) t e = absurd (cc)
all_gone (suc (suc zero)) t e = absurd (cc)
all_gone (suc (suc (suc i))) t e = absurd (cc)

-- ---- the rows

abbrev u32 : Tau
u32 = word U32

module _ (functions : List Function) where
  -- a number in the context whose entries are all gone
  number_derived : (n : ℕ) → n < 2 ^ 32 → LitRow functions [] (three None None None) (leaf nodes.Lit) (Some u32) (Some n) u32
  number_derived n lt = record { tree = refl; checked = refl; is_a_word = refl; in_range = lt; others = all_gone }

  -- the value that was taken
  value_derived : VarRow functions [] (three None None (Some u32)) (leaf nodes.Var) (Some u32) 2 u32
  value_derived = record { tree = refl; present = refl; others = third_alone (Some u32); meets = refl }

  value_splits : Splits [] [] (Gone ∷ Gone ∷ Left ∷ []) (three None None (Some u32))
  value_splits = three_split Gone Gone Left None None (Some u32) refl refl refl

  product_derived : (p q r : Place)
      → Derives functions [] (three None None (Some u32)) product_tree (Some u32)
      (term (with_type p u32) (op Mul (more (term (with_type q u32) (var 2)) (more (term (with_type r u32) (lit (Some 3))) none))))
  product_derived p q r = record {
    tree = refl;
    counted = refl;
    splits = value_splits;
    left = value_derived;
    right = number_derived 3 (omega arith);
    alike = refl;
    takes = refl;
    is = refl;
    meets = refl;
  }

  sum_derived : (before : ℕ) → before + 1 < 2 ^ 32 → Derives functions [] (three None None (Some u32)) sum_tree (Some u32) (sum_in with_type before)
  sum_derived before lt = record {
    tree = refl;
    counted = refl;
    splits = value_splits;
    left = product_derived (place (body_row before) (reach before + 41)) (place (body_row before) (reach before + 39)) (place (body_row before) (reach before + 43));
    right = number_derived (before + 1) lt;
    alike = refl;
    takes = refl;
    is = refl;
    meets = refl;
  }

  -- the record without its value
  rest_derived : VarRow functions [] (three None (Some (cell_with true)) None) (leaf nodes.Var) None 1 (cell_with true)
  rest_derived = record { tree = refl; present = refl; others = second_alone (Some (cell_with true)); meets = tt }

  abbrev put_in : ℕ → Tree Note
  put_in before =
      term (with_type (place (body_row before) (reach before + 29)) cell_type)
      (put (term (with_type (place (body_row before) (reach before + 29)) (cell_with true)) (var 1))
      (at (body_row before) (reach before + 33) (codes "val")) (sum_in with_type before))

  put_derived : (before : ℕ) → before + 1 < 2 ^ 32
      → Derives functions [] (three None (Some (cell_with true)) (Some u32)) put_tree (Some cell_type) (put_in before)
  put_derived before lt = record {
    tree = refl;
    splits = three_split Gone Left Right None (Some (cell_with true)) (Some u32) refl refl refl;
    whole = rest_derived;
    there = refl;
    written = refl;
    over = refl;
    value = sum_derived before lt;
    is = refl;
    meets = refl;
  }

  -- ---- what is taken apart

  argument_derived : (direction : Option Tau) → Meets direction cell_type → VarRow functions [] (one (Some cell_type)) (leaf nodes.Var) direction 0 cell_type
  argument_derived direction m = record { tree = refl; present = refl; others = used_alone (Some cell_type); meets = m }

  mention_derived : (i : ℕ) → slice_get functions i ≡ Some (function_behind i)
      → FunRow functions [] (one None) (leaf nodes.Fun) None (User i) [] (arrow cell_type cell_type)
  unfolding function_behind
  mention_derived i e = record {
    tree = refl;
    many = subst (λ o. IsTrue (has_vars o 0)) (sym e) refl;
    arguments = refl;
    is = mention_is functions i e;
    others = gone_alone;
    meets = tt;
  }

  subject_derived : (before : ℕ) → HasEarlier functions before
      → Derives functions [] (one (Some cell_type)) (subject_tree before) None (subject_in with_type before)
  unfolding subject_in
  subject_derived zero e = argument_derived None tt
  subject_derived (suc before) e = record {
    tree = refl;
    splits = one_splits Right (Some cell_type) refl;
    function = mention_derived before e;
    argument = argument_derived (Some cell_type) refl;
    is_arrow = refl;
    meets = tt;
  }

  pub body_derived : (before : ℕ) → HasEarlier functions before → before + 1 < 2 ^ 32
      → Derives functions [] (one (Some cell_type)) (tree_behind before) (Some cell_type) (core_behind before)
  unfolding body_in subject_in
  body_derived zero e lt = record {
    tree = refl;
    splits = one_splits Left (Some cell_type) refl;
    whole = subject_derived zero e;
    left = refl;
    written = refl;
    body = put_derived zero lt;
    is = refl;
  }
  body_derived (suc before) e lt = record {
    tree = refl;
    splits = one_splits Left (Some cell_type) refl;
    whole = subject_derived (suc before) e;
    left = refl;
    written = refl;
    body = put_derived (suc before) lt;
    is = refl;
  }
